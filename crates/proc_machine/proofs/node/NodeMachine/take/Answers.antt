-- A turn of a machine.
use Rattle.std.proofs.Common.{ap, subst, option_copied}
use Rattle.std.specs.Prelude.{slice_set}
use Rattle.proc_steps.proofs.Calm.{waiting_is_calm}
use Rattle.proc_machine.specs.Kept.{MachineKept}
use Rattle.proc_machine.specs.Machines.{MachineTakes}
use Rattle.proc_machine.specs.Turns.{TurnTaken}
use Rattle.proc_machine.proofs.Standing.{found_in, machine_at, reads_is, read_said, took}
use Rattle.proc_machine.proofs.node.NodeMachine.take.Goals as goal

pub take_turn-done-requires-clause-said : goal.take_turn-done-requires-clause-said
take_turn-done-requires-clause-said c =
    let old = c.self.inside in
    read_said old.job.now (found_in old.endpoint old.collectives) old.cursors.items old.outgoing old.answer
    c.args.thread c.cursor_at-cursor.result c.self.invariant
    (reads_is c.args.self.now old.job.now old.cursors.items c.deref.result.now c.args.thread c.from-place.result
    c.cursor_at-cursor.result (ap (λ (m : MachineKept). m.job) c.self.view_is) c.requires.thread c.from-place.ensures
    c.deref.ensures.value c.cursor_at-cursor.ensures)

pub invariant_of-self : goal.invariant_of-self
invariant_of-self c =
    let old = c.self.inside in
    let taken : TurnTaken =
    record { thread = c.args.thread; now = c.args.now; got = option_copied c.args.got } in
    let read = reads_is c.args.self.now old.job.now old.cursors.items c.deref.result.now c.args.thread
    c.from-place.result c.cursor_at-cursor.result (ap (λ (m : MachineKept). m.job) c.self.view_is) c.requires.thread
    c.from-place.ensures c.deref.ensures.value c.cursor_at-cursor.ensures in
    let it = took waiting_is_calm old.job.now (found_in old.endpoint old.collectives) old.cursors.items
    old.outgoing old.answer taken c.from-place.result c.cursor_at-cursor.result
    c.take_turn-done.new.cursor c.handlers.result.now
    c.take_turn-done.result (found_in c.take_turn-done.new.endpoint c.take_turn-done.new.collectives)
    c.self.invariant read c.from-place.ensures c.handlers.ensures c.take_turn-done.ensures.takes
    c.take_turn-done.ensures.there in
    it.is

pub returns : goal.returns
returns c =
    let old = c.self.inside in
    let taken : TurnTaken =
    record { thread = c.args.thread; now = c.args.now; got = option_copied c.args.got } in
    let read = reads_is c.args.self.now old.job.now old.cursors.items c.deref.result.now c.args.thread
    c.from-place.result c.cursor_at-cursor.result (ap (λ (m : MachineKept). m.job) c.self.view_is) c.requires.thread
    c.from-place.ensures c.deref.ensures.value c.cursor_at-cursor.ensures in
    let it = took waiting_is_calm old.job.now (found_in old.endpoint old.collectives) old.cursors.items
    old.outgoing old.answer taken c.from-place.result c.cursor_at-cursor.result
    c.take_turn-done.new.cursor c.handlers.result.now
    c.take_turn-done.result (found_in c.take_turn-done.new.endpoint c.take_turn-done.new.collectives)
    c.self.invariant read c.from-place.ensures c.handlers.ensures c.take_turn-done.ensures.takes
    c.take_turn-done.ensures.there in
    subst (λ (m : MachineKept). MachineTakes m taken c.take_turn-done.result
    (machine_at old.job.now (found_in c.take_turn-done.new.endpoint c.take_turn-done.new.collectives)
    (slice_set old.cursors.items c.from-place.result c.take_turn-done.new.cursor) old.outgoing old.answer))
    c.self.view_is it.takes

pub take_turn-done-requires-clause-there : goal.take_turn-done-requires-clause-there
take_turn-done-requires-clause-there c = c.self.invariant.there
