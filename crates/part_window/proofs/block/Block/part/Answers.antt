use Rattle.std.proofs.Common.{ℕ, List, Some, None, sym, ap, ◌∙◌, arith}
use Rattle.std.specs.Prelude.{slice_get}
use Rattle.base_lists.proofs.Indexes.{read-as}
use Rattle.part_window.proofs.Placed.{part-get, part-blank, place-read}
use Rattle.part_window.proofs.block.Block.part.Goals as goal

pub returns-in-None-clause-value : goal.returns-in-None-clause-value
returns-in-None-clause-value c =
    ap (λ (parts : List (List ℕ)). slice_get parts c.args.index) (sym c.self.view_is)
    ∙ part-blank _ _ c.self.inside.places.items c.args.index
    (place-read c.args.self.now _ c.self.inside.places.items c.args.index c.index.result.now None _ c.self.view_is
    c.requires c.index.ensures c.in-None.is)

pub returns-in-Some-clause-value : goal.returns-in-Some-clause-value
returns-in-Some-clause-value c =
    let at =
    place-read c.args.self.now _ c.self.inside.places.items c.args.index c.index.result.now
    (Some c.in-Some.place) _ c.self.view_is c.requires c.index.ensures c.in-Some.is in
    let inside = c.self.invariant.inside c.args.index c.in-Some.place at in
    ap (λ (parts : List (List ℕ)). slice_get parts c.args.index) (sym c.self.view_is)
    ∙ part-get _ c.self.inside.filled.items c.self.inside.places.items c.args.index c.in-Some.place c.bytes.result.now
    at
    (read-as c.self.inside.filled.items c.in-Some.place c.index-in-Some.result.now c.bytes.result.now
    (omega (arith, inside, c.self.inside.filled.ok.0)) c.index-in-Some.ensures (sym c.bytes.ensures.value))
