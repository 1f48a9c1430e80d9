-- The line of the node, and those of its last violations.
use Rattle.std.proofs.Common.{◌≤◌, length, map, refl, sym, ap, subst, ◌∙◌}
use Rattle.base_io.specs.Buffered.{GathersAll, outbox}
use Rattle.base_io.proofs.Outboxes.{nothing_yet, past_done, past_fault, past_last}
use Rattle.part_handlers.specs.LogState.{LogRecord}
use Rattle.spec_node.specs.Held.{held_buffers}
use Rattle.base_text.specs.LineTexts.{spell}
use Rattle.sim_run.specs.RunText.{violation_line}
use Rattle.sim_run.proofs.Newest.{few_kept}
use Rattle.cli_check.proofs.ending.write_end.Goals as goal

pub returns-in-Fault : goal.returns-in-Fault
returns-in-Fault g c = λ node stands.
    let now = c.held.ensures.is node stands
    ∙ ap (λ me. held_buffers c.args.endpoint.now.core.settings me node) (sym c.requires) in
    let count = c.count.ensures ∙ ap (λ (log : LogRecord). log.count) (c.log-log.ensures node stands) in
    past_fault _ _ _ _ _ _ _ refl (nothing_yet _ _) (rw (now, count) at c.in-Fault.ensures)

pub returns : goal.returns
returns g c = λ node stands.
    let now = c.held.ensures.is node stands
    ∙ ap (λ me. held_buffers c.args.endpoint.now.core.settings me node) (sym c.requires) in
    let log = c.log-log.ensures node stands in
    let count = c.count.ensures ∙ ap (λ (l : LogRecord). l.count) log in
    let line = rw (now, count) at c.in_default.ensures in
    let others =
    subst (λ (l : LogRecord). length l.newest ≤ 64
    → GathersAll (outbox g.K.Sink.taken g.K.Sink.faults c.write_node_line.new.sink)
    (outbox g.K.Sink.taken g.K.Sink.faults c.write_violations.new.sink)
    (spell (map (violation_line c.args.rank) l.newest)) c.write_violations.result) log c.write_violations.ensures in
    past_last _ _ _ _ _ _ (past_done _ _ _ _ _ _ _ refl (nothing_yet _ _) line)
    (others (few_kept node.local.core.violations))
