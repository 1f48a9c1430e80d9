use Rattle.std.proofs.Common.{◌≡◌, ◌∙◌, ap, sym, subst, List, Option, Ok, ◌-◌, ◌<◌, ◌^◌, Some, slice_set, arith}
use Rattle.part_handlers.specs.declared.table.Entry.{Entry}
use Rattle.part_handlers.specs.Registered.{index_for, registering}
use Rattle.text_script.specs.Registration.{register, entry_of}
use Rattle.text_script.specs.Places.{ArePlaced}
use Rattle.text_script.proofs.Placing.{placed_Ok}
use Rattle.text_script.proofs.handlers.register_one.Goals as goal

pub returns-in-Ok-clause-at : goal.returns-in-Ok-clause-at
returns-in-Ok-clause-at c texts at r P =
    let low : c.in-Ok.index < 2 ^ 8 = omega (arith, rw c.in-Ok.is at c.register.type_inv) in
    let same : registering c.args.table.now (entry_of c.args.text.now) (Ok c.in-Ok.index) ≡ c.register.new.self =
    sym (c.register.ensures.registered
    ∙ (ap (λ (entry : Entry). registering c.args.table.now entry c.register.result) c.entry_of.ensures
    ∙ ap (registering c.args.table.now (entry_of c.args.text.now)) c.in-Ok.is)) in
    let given : index_for c.args.table.now c.args.text.now.index ≡ Ok c.in-Ok.index =
    sym (ap (λ (entry : Entry). index_for c.args.table.now entry.index) c.entry_of.ensures)
    ∙ (sym c.register.ensures.index ∙ c.in-Ok.is) in
    subst (λ (t : List (Option Entry)).
    ArePlaced texts (register r c.args.text.now) t
    (slice_set c.args.places.now (c.in-Ok.index - 128) (Some c.args.place)))
    same (placed_Ok texts r c.args.text.now c.args.place c.in-Ok.index c.args.table.now c.args.places.now at P
    given low)
