-- The delivery of bytes.
use Rattle.std.proofs.Common.{Option, Some, option_to_list, arith, sym, subst}
use Rattle.spec_node.specs.declared.answer.SlotRef.{SlotRef}
use Rattle.law_traces.specs.Turn.{comes}
use Rattle.proc_steps.specs.Tries.{Happen}
use Rattle.proc_machine.specs.Parts.{at_once}
use Rattle.proc_machine.proofs.Happening.{bytes_happen}
use Rattle.proc_machine.proofs.parts.deliver_bytes.Goals as goal

pub returns-clause-happen : goal.returns-clause-happen
returns-clause-happen g c =
    let meaning = g.H.Handlers.meaning c.args.handlers.now in
    subst (λ (at : Option SlotRef). Happen meaning c.args.endpoint.now
    (at_once c.args.now (comes c.args.endpoint.now.core.settings.version (Some c.args.bytes.now)) (option_to_list at))
    c.step.new.self) (sym c.sends.ensures)
    (bytes_happen meaning c.args.endpoint.now c.step.new.self c.args.now c.args.bytes.now c.step.result
    (λ place. omega (arith, c.type_inv.bytes place)) c.step.ensures.steps c.step.ensures.sends)

pub returns-clause-bytes : goal.returns-clause-bytes
returns-clause-bytes g c = λ place. omega (arith, c.type_inv.bytes place)
