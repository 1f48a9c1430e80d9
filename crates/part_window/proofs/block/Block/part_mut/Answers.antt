use Rattle.std.proofs.Common.{ℕ, List, sym, ap, ◌∙◌, refl, arith}
use Rattle.std.specs.Prelude.{slice_get, length, ◌<◌}
use Rattle.base_lists.proofs.Indexes.{read-as}
use Rattle.part_window.specs.Blocks.{with_part}
use Rattle.part_window.proofs.Placed.{parts-lent, part-get}
use Rattle.part_window.proofs.block.Block.part_mut.Goals as goal

pub returns : goal.returns
returns c =
    let placed = c.fill-place.ensures.placed in
    let inside = placed.inside c.args.index c.fill-place.result c.fill-place.ensures.here in
    let within : c.fill-place.result < length c.fill-place.new.filled.items =
    omega (arith, inside, c.fill-place.new.filled.ok.0) in
    let filled = c.fill-place.new.filled.items in
    let places = c.fill-place.new.places.items in
    let here = c.fill-place.ensures.here in
    let view = c.fill-place.ensures.same ∙ c.self.view_is in (
      (
        refl,
        λ w. parts-lent _ filled places c.args.index c.fill-place.result _ _ c.index_mut.result.now w here
            (read-as filled c.fill-place.result c.index_mut.result.now c.index_mut.result.now within
            c.index_mut.ensures.value refl) placed
            ∙ ap (λ (parts : List (List ℕ)). with_part parts c.args.index w) view,
      ),
      record {
        writes_back = tt;
        value = ap (λ (parts : List (List ℕ)). slice_get parts c.args.index) (sym view)
            ∙ part-get _ filled places c.args.index c.fill-place.result c.bytes_mut.result.now here
            (read-as filled c.fill-place.result c.index_mut.result.now c.bytes_mut.result.now within
            c.index_mut.ensures.value (sym c.bytes_mut.ensures.value));
        len = c.bytes_mut.ensures.len;
      },
    )
