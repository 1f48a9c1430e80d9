-- A tick.
use Rattle.std.proofs.Common.{[], ◌∷◌, Option, option_to_list, sym, subst}
use Rattle.spec_node.specs.NodeStep.{Ticks}
use Rattle.spec_node.specs.declared.answer.SlotRef.{SlotRef}
use Rattle.proc_steps.specs.Tries.{Happen}
use Rattle.proc_machine.specs.Parts.{at_once}
use Rattle.proc_machine.proofs.Happening.{one_happens}
use Rattle.proc_machine.proofs.parts.tick.Goals as goal

pub returns : goal.returns
returns g c =
    let meaning = g.H.Handlers.meaning c.args.handlers.now in
    subst (λ (at : Option SlotRef).
    Happen meaning c.args.endpoint.now (at_once c.args.now (Ticks ∷ []) (option_to_list at)) c.step.new.self)
    (sym c.sends.ensures)
    (one_happens meaning c.args.endpoint.now c.step.new.self c.args.now Ticks c.step.result c.step.ensures.steps
    c.step.ensures.sends)
