-- No script has a step left.
use Rattle.std.proofs.Common.{ap, sym, ◌∙◌, List}
use Rattle.std.specs.List.{list_all}
use Rattle.std.proofs.lemmas.List.Folds.{list_all-map}
use Rattle.proc_machine.specs.Cursors.{progress_of}
use Rattle.proc_machine.specs.Kept.{MachineKept, is_done, are_done}
use Rattle.proc_machine.specs.declared.cursor.Cursor.{Cursor}
use Rattle.proc_machine.proofs.node.NodeMachineMachine.over.Goals as goal

pub returns : goal.returns
returns c =
    c.are_done.ensures
    ∙ (ap (λ (cursors : List Cursor). list_all (λ (cursor : Cursor). is_done (progress_of cursor)) cursors)
    c.deref.ensures.value
    ∙ (sym (list_all-map is_done progress_of c.self.inside.cursors.items)
    ∙ ap (λ (m : MachineKept). are_done m.scripts) c.self.view_is))
