-- One place more.
use Rattle.std.proofs.Common.{ℕ, List, ◌++◌, ap, subst, ◌∙◌}
use Rattle.std.specs.String.{string_bytes}
use Rattle.cli_report.proofs.Gathering.{gives_more}
use Rattle.cli_report.specs.Replays.{AreSteps}
use Rattle.cli_report.proofs.gathered.steps_of.Goals as goal

pub loop-place-preserved : goal.loop-place-preserved
loop-place-preserved g c =
    gives_more (AreSteps g.T.Texts g.R.Replays c.args.job.now c.args.replays.now) c.loop-place.place
    (string_bytes c.loop-place.text) (string_bytes c.in_ok-told.told) _ c.loop-place.invariant
    (subst (λ (lines : List ℕ). g.T.Texts.steps c.args.job.now lines (string_bytes c.in_ok-told.told)) c.steps.ensures
    c.in_ok-told.ensures)
    (c.in_ok-push_str.ensures.bytes
    ∙ ap (λ (bytes : List ℕ). string_bytes c.loop-place.text ++ bytes) c.as_str.ensures.value)
