use Rattle.std.proofs.Common.{sym, subst, ap, ◌∙◌, ◌+◌, take, Some}
use Rattle.std.proofs.lemmas.List.{take_all}
use Rattle.text_trace.specs.Noted.{AreFound, ArePlaces}
use Rattle.text_trace.proofs.PlaceLemmas.{found_more, places_more, found_none}
use Rattle.text_trace.proofs.wanted.places_of.Goals as goal
use Rattle.text_trace.proofs.wanted.places_of.Goals.{in-Some+in_ok-add_place, in_default}

pub returns-clause-found : goal.returns-clause-found
returns-clause-found c = subst (AreFound c.loop-i.places) (take_all c.loop-i.i c.args.entries.now c.loop-i-test.false)
    c.loop-i.invariant.found

pub loop-i-preserved : goal.loop-i-preserved
loop-i-preserved c = elim c.match-entry.branch [
  | in-Some+in_ok-add_place w ↦
      let got = w.in-Some.is ∙ ap Some (sym w.as_slice.ensures) in
      record {
        found = subst (λ p. AreFound p (take (c.loop-i.i + 1) c.args.entries.now)) (sym w.places-is)
            (found_more c.loop-i.places w.add_place.new.places w.as_slice.result.now c.loop-i.i
            w.in_ok-add_place.ensures c.args.entries.now c.index-entries-i.result c.index-entries-i.is
            c.loop-i-test.true got c.loop-i.invariant.found);
        places = subst (λ p. ArePlaces p c.args.entries.now) (sym w.places-is)
            (places_more c.loop-i.places w.add_place.new.places w.as_slice.result.now c.loop-i.i
            w.in_ok-add_place.ensures c.args.entries.now c.index-entries-i.result c.index-entries-i.is
            c.loop-i-test.true got c.loop-i.invariant.places);
      }
  | in_default w ↦ record {
    found = subst (λ p. AreFound p (take (c.loop-i.i + 1) c.args.entries.now)) (sym w.places-is)
        (found_none c.loop-i.places c.args.entries.now c.loop-i.i c.index-entries-i.result c.index-entries-i.is
        c.loop-i-test.true w.in_default.is c.loop-i.invariant.found);
    places = subst (λ p. ArePlaces p c.args.entries.now) (sym w.places-is) c.loop-i.invariant.places;
  }
]
