use Rattle.std.proofs.Common.{◌+◌, List, Option, Result, ℕ, sym, subst}
use Rattle.part_handlers.specs.Registered.{registering}
use Rattle.part_handlers.specs.declared.table.Entry.{Entry}
use Rattle.part_handlers.specs.declared.table.EntryFault.{EntryFault}
use Rattle.gasnet_c.specs.Opening.{client_entry}
use Rattle.gasnet_c.proofs.Registering.{ServesFirst, serves_none, serves_more}
use Rattle.gasnet_c.proofs.opening.table.Goals as goal

pub loop-place-init : goal.loop-place-init
loop-place-init c =
    subst (λ (table : List (Option Entry)). ServesFirst 0 table) (sym c.in_ok-table.ensures) serves_none

pub loop-place-preserved : goal.loop-place-preserved
loop-place-preserved c =
    let place = c.loop-place.place in
    let table = c.loop-place.table in
    subst (λ (table : List (Option Entry)). ServesFirst (place + 1) table) (sym c.register.ensures.registered)
    (subst (λ (answer : Result ℕ EntryFault). ServesFirst (place + 1) (registering table (client_entry (128 + place)) answer))
    (sym c.register.ensures.index) (serves_more place table c.loop-place.invariant c.loop-place-test.true))
