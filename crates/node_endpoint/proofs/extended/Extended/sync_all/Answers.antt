use Rattle.std.proofs.Common.{refl, take, length, sym, ap, ◌∙◌}
use Rattle.node_rules.specs.TransferCalls.{emptied_by}
use Rattle.node_endpoint.proofs.Syncs.{all_of, group_does, emptied_unless}
use Rattle.node_endpoint.proofs.extended.Extended.sync_all.Goals as goal

pub returns-in-Ok : goal.returns-in-Ok
returns-in-Ok c =
    group_does (all_of c.args.regs.now) c.args.core.now c.args.self.now c.try_sync_all-says.new.self c.args.thread (take (length c.args.regs.now) c.handles_in-handles.result)
    c.args.regs.now c.try_sync_all-says.result
    c.empty.new.registers c.handles_in-handles.ensures (λ operations S. refl)
    (c.empty.ensures ∙ ap (λ s. emptied_by s c.args.regs.now c.args.self.now.registers) (sym c.in-Ok.is))
    c.try_sync_all-says.ensures.answer c.try_sync_all-says.ensures.stands c.try_sync_all-says.ensures.room

pub returns-in_default : goal.returns-in_default
returns-in_default c =
    group_does (all_of c.args.regs.now) c.args.core.now c.args.self.now c.try_sync_all-says.new.self c.args.thread (take (length c.args.regs.now) c.handles_in-handles.result)
    c.args.regs.now c.try_sync_all-says.result
    c.args.self.now.registers c.handles_in-handles.ensures (λ operations S. refl)
    (sym (emptied_unless c.try_sync_all-says.result c.args.regs.now c.args.self.now.registers c.in_default.not-Ok))
    c.try_sync_all-says.ensures.answer c.try_sync_all-says.ensures.stands c.try_sync_all-says.ensures.room
