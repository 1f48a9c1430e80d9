-- What was taken of the recorders before this one.
use Rattle.std.proofs.Common.{◌≡◌, ℕ, map, Some, slice_get}
use Rattle.cli_check.specs.Merging.{IsWholeRecorder}
use Rattle.cli_check.specs.Recording.{RecorderKept}
use Rattle.cli_check.specs.declared.recorder.NodeReport.{NodeReport}
use Rattle.cli_check.proofs.machines.close_all.Given as goal

abbrev pub invariant-loop-recorder : goal.invariant-loop-recorder
invariant-loop-recorder l = record {
  nodes : l.nodes.items ≡ map (λ (kept : RecorderKept). kept.node.endpoint) l.yielded;
  texts : map (λ (report : NodeReport). report.text.taken) l.reports.items
      ≡ map (λ (kept : RecorderKept). kept.text) l.yielded;
  most : map (λ (report : NodeReport). report.most) l.reports.items
      ≡ map (λ (kept : RecorderKept). kept.most) l.yielded;
  each : (place : ℕ) (kept : RecorderKept) → slice_get l.yielded place ≡ Some kept → IsWholeRecorder kept;
}
