use Rattle.std.proofs.Common.{subst, ℕ, None, arith}
use Rattle.std.specs.Prelude.{vec_capacity}
use Rattle.base_lists.proofs.Indexes.{read-as, get-set_same}
use Rattle.part_window.specs.Blocks.{IsPlaced}
use Rattle.part_window.proofs.Placed.{placed-next, parts-next, place-fits}
use Rattle.part_window.proofs.block.fill.Goals as goal

pub overflow_cast-place : goal.overflow_cast-place
overflow_cast-place c =
    let at =
    read-as c.args.places.now.items c.args.index c.index.result.now None c.requires.in_range c.index.ensures
    c.in_default.is in
    let fits = place-fits _ _ c.args.places.now.items c.args.index at c.requires.placed in
    record { fits = omega (arith, fits.0, c.len-place.ensures) }

pub push_reserved-requires : goal.push_reserved-requires
push_reserved-requires c =
    let at =
    read-as c.args.places.now.items c.args.index c.index.result.now None c.requires.in_range c.index.ensures
    c.in_default.is in
    (place-fits _ _ c.args.places.now.items c.args.index at c.requires.placed).1

pub returns-clause-same : goal.returns-clause-same
returns-clause-same c =
    let at =
    read-as c.args.places.now.items c.args.index c.index.result.now None c.requires.in_range c.index.ensures
    c.in_default.is in
    let places = c.args.places.now.items in
    let long = c.args.filled.now.ok.0 in
    let placed = subst (λ (n : ℕ). IsPlaced n (vec_capacity c.args.filled.now) places) long c.requires.placed in
    rw (c.push_reserved.ensures.items, c.zeros.ensures, c.len-place.ensures, long)
    (parts-next _ c.args.filled.now.items places c.args.index _ at placed)

pub returns-clause-placed : goal.returns-clause-placed
returns-clause-placed c =
    let at =
    read-as c.args.places.now.items c.args.index c.index.result.now None c.requires.in_range c.index.ensures
    c.in_default.is in
    rw (c.push_reserved.ensures.len, c.push_reserved.ensures.capacity, c.len-place.ensures)
    (placed-next _ _ c.args.places.now.items c.args.index at c.requires.placed)

pub returns-clause-here : goal.returns-clause-here
returns-clause-here c = get-set_same _ _ _ c.requires.in_range
