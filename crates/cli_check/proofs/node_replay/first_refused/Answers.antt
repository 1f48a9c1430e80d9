-- The first entry that is refused.
use Rattle.std.proofs.Common.{◌≡◌, true, length, refl, sym, ap, subst, ◌∙◌}
use Rattle.std.specs.Prelude.{IsSomeAnd, is_some}
use Rattle.std.proofs.lemmas.Option.{slice_get_read}
use Rattle.cli_check.specs.Rejected.{refuses_got}
use Rattle.cli_check.proofs.node_replay.first_refused.Goals as goal

pub returns-in-Some : goal.returns-in-Some
returns-in-Some c = λ job rank at.
    subst (λ o. IsSomeAnd o (λ item. refuses_got job rank item.got ≡ true))
    (sym (slice_get_read c.args.entries.now (length c.args.entries.now) c.loop-place.place c.index-entries-place.result
    refl c.loop-place-test.true c.index-entries-place.is))
    (sym (c.why_got_refused.ensures job rank at) ∙ ap is_some c.in-Some.is)
