use Rattle.std.proofs.Common.{◌≡◌, drop}
use Rattle.std.specs.List.{list_any}
use Rattle.node_vis.specs.declared.runs.Run.{Run}
use Rattle.node_vis.specs.Runs.{ends_behind}
use Rattle.node_vis.proofs.runs.some_source.Given as goal

abbrev pub invariant-loop-run : goal.invariant-loop-run
invariant-loop-run l =
    (l.segment ≡ l.settings.segment)
    × (list_any (λ (run : Run). ends_behind l.settings.segment run.local run.len) l.runs
    ≡ list_any (λ (run : Run). ends_behind l.settings.segment run.local run.len) (drop l.run-index l.runs))
