use Rattle.std.proofs.Common.{sym, subst, ◌∙◌, ◌<◌, length, arith}
use Rattle.sim_drill.specs.Counting.{count_place}
use Rattle.sim_run.specs.RunText.{world_words}
use Rattle.sim_drill.proofs.CountedWords.{AreCountedAs, counted_words}
use Rattle.sim_drill.proofs.Tallied.{tallies_one, tallies_other}
use Rattle.sim_drill.proofs.counts.Counts.count.Goals as goal

pub returns-in-Some-clause-tallies : goal.returns-in-Some-clause-tallies
returns-in-Some-clause-tallies c = λ sight.
    let words = world_words sight c.args.answer.now in
    let told = subst (AreCountedAs words) (sym c.of_answer.ensures ∙ c.in-Some.is)
    (counted_words sight c.args.answer.now) in
    let there : count_place c.in-Some.counted < length c.self.inside.counts = omega (
      arith,
      c.place_of.ensures.place,
      c.place_of.ensures.within,
      c.self.told,
    ) in
    rw (← c.self.view_is, c.place_of.ensures.place)
    (tallies_one c.self.inside.counts words c.in-Some.counted there told)

pub returns-in_default-clause-tallies : goal.returns-in_default-clause-tallies
returns-in_default-clause-tallies c = λ sight.
    let words = world_words sight c.args.answer.now in
    let told = subst (AreCountedAs words) (sym c.of_answer.ensures ∙ c.in_default.is)
    (counted_words sight c.args.answer.now)
    in
    tallies_other c.args.self.now words told
