use Rattle.std.proofs.Common.{◌≡◌, ◌≤◌, length, map, refl, ap, subst, ◌∙◌}
use Rattle.wire_message.specs.Parameters.{Parameters}
use Rattle.base_io.specs.Buffered.{GathersAll, outbox}
use Rattle.base_io.proofs.Outboxes.{nothing_yet, past_done, past_fault, past_last}
use Rattle.part_handlers.specs.LogState.{LogRecord}
use Rattle.spec_node.specs.Held.{held_buffers}
use Rattle.base_text.specs.LineTexts.{spell}
use Rattle.sim_run.specs.RunText.{violation_line}
use Rattle.sim_run.proofs.Newest.{few_kept}
use Rattle.sim_run.proofs.output.write_node.Goals as goal

pub returns-in-Fault : goal.returns-in-Fault
returns-in-Fault g c = λ w most h.
    let node = c.args.node in
    let stands = c.endpoint-endpoint.ensures.stands w most h in
    let same : c.endpoint-endpoint.result.now.core.settings ≡ c.args.world.now.settings =
    c.endpoint-endpoint.ensures.node.settings_are in
    let me : c.endpoint-endpoint.result.now.core.me ≡ node = c.endpoint-endpoint.ensures.node.me_is in
    let now =
    c.held-held.ensures.is (w node) stands
    ∙ ap (λ (s : Parameters). held_buffers s c.endpoint-endpoint.result.now.core.me (w node)) same
    ∙ ap (λ i. held_buffers c.args.world.now.settings i (w node)) me
    in
    let count = c.count.ensures ∙ ap (λ (log : LogRecord). log.count) (c.log-log.ensures (w node) stands) in
    past_fault _ _ _ _ _ _ _ refl (nothing_yet _ _)
    (rw (now, c.most_held-most.ensures.most w most h, count) at c.in-Fault.ensures)

pub returns : goal.returns
returns g c = λ w most h.
    let node = c.args.node in
    let stands = c.endpoint-endpoint.ensures.stands w most h in
    let same : c.endpoint-endpoint.result.now.core.settings ≡ c.args.world.now.settings =
    c.endpoint-endpoint.ensures.node.settings_are in
    let me : c.endpoint-endpoint.result.now.core.me ≡ node = c.endpoint-endpoint.ensures.node.me_is in
    let now =
    c.held-held.ensures.is (w node) stands
    ∙ ap (λ (s : Parameters). held_buffers s c.endpoint-endpoint.result.now.core.me (w node)) same
    ∙ ap (λ i. held_buffers c.args.world.now.settings i (w node)) me
    in
    let log = c.log-log.ensures (w node) stands in
    let count = c.count.ensures ∙ ap (λ (l : LogRecord). l.count) log in
    let line = rw (now, c.most_held-most.ensures.most w most h, count) at c.in_default.ensures in
    let others =
    subst (λ (l : LogRecord). length l.newest ≤ 64
    → GathersAll (outbox g.K.Sink.taken g.K.Sink.faults c.write_node_line.new.sink)
    (outbox g.K.Sink.taken g.K.Sink.faults c.write_violations.new.sink) (spell (map (violation_line node) l.newest))
    c.write_violations.result) log c.write_violations.ensures in
    past_last _ _ _ _ _ _ (past_done _ _ _ _ _ _ _ refl (nothing_yet _ _) line)
    (others (few_kept (w node).local.core.violations))
