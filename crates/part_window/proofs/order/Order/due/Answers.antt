use Rattle.std.proofs.Common.{◌∙◌, Bool, Option, Some, None, List, ap, sym, cond}
use Rattle.std.specs.Prelude.{slice_get}
use Rattle.std.specs.Option.{option_map}
use Rattle.std.proofs.lemmas.Option.{slice_get-map}
use Rattle.part_window.specs.declared.order.Due.{Due}
use Rattle.part_window.specs.Order.{due_of, due_view}
use Rattle.part_window.proofs.order.Order.due.Goals as goal

pub returns-then-entry : goal.returns-then-entry
returns-then-entry c =
    let entries = c.self.inside.entries in
    let entry = c.get-entry.result in
    let at = c.get-entry.ensures in
    sym (ap (λ (dues : List (Option Due)). slice_get dues c.args.place) (sym c.self.view_is)
    ∙ slice_get-map due_view entries c.args.place ∙ ap (option_map due_view) at
    ∙ ap (λ (flag : Bool). Some (cond flag (Some (due_of entry)) None)) c.if-entry.true)

pub returns-else-entry : goal.returns-else-entry
returns-else-entry c =
    let entries = c.self.inside.entries in
    let entry = c.get-entry.result in
    let at = c.get-entry.ensures in
    sym (ap (λ (dues : List (Option Due)). slice_get dues c.args.place) (sym c.self.view_is)
    ∙ slice_get-map due_view entries c.args.place ∙ ap (option_map due_view) at
    ∙ ap (λ (flag : Bool). Some (cond flag (Some (due_of entry)) None)) c.if-entry.false)
