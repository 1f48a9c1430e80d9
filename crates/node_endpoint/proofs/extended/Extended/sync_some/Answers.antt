use Rattle.std.proofs.Common.{take, length, sym, ap, ◌∙◌}
use Rattle.node_rules.specs.TransferCalls.{with_invalid, emptied_by}
use Rattle.node_endpoint.proofs.Syncs.{some_of, group_does, emptied_unless}
use Rattle.node_endpoint.proofs.extended.Extended.sync_some.Goals as goal

pub returns-in-Ok : goal.returns-in-Ok
returns-in-Ok c =
    group_does (some_of c.args.regs.now) c.args.core.now c.args.self.now c.try_sync_some-says.new.self c.args.thread (take (length c.args.regs.now) c.handles_in-handles.result)
    c.whole_registers-whole.result.items
    c.try_sync_some-says.result c.empty.new.registers c.handles_in-handles.ensures
    c.whole_registers-whole.ensures
    (c.empty.ensures
    ∙ (ap (λ w. with_invalid w c.args.self.now.registers) c.as_slice.ensures.value
    ∙ ap (λ s. emptied_by s c.whole_registers-whole.result.items c.args.self.now.registers) (sym c.in-Ok.is)))
    c.try_sync_some-says.ensures.answer c.try_sync_some-says.ensures.stands c.try_sync_some-says.ensures.room

pub returns-in_default : goal.returns-in_default
returns-in_default c =
    group_does (some_of c.args.regs.now) c.args.core.now c.args.self.now c.try_sync_some-says.new.self c.args.thread (take (length c.args.regs.now) c.handles_in-handles.result)
    c.whole_registers-whole.result.items
    c.try_sync_some-says.result c.args.self.now.registers c.handles_in-handles.ensures
    c.whole_registers-whole.ensures
    (sym (emptied_unless c.try_sync_some-says.result c.whole_registers-whole.result.items c.args.self.now.registers
    c.in_default.not-Ok))
    c.try_sync_some-says.ensures.answer c.try_sync_some-says.ensures.stands c.try_sync_some-says.ensures.room
