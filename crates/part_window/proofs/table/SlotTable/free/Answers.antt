use Rattle.std.proofs.Common.{◌≡◌, Some, ap}
use Rattle.std.proofs.Common.{◌∙◌}
use Rattle.std.specs.Prelude.{slice_get, map}
use lib.Lanes.{mask_l}
use lib.Count.{ones}
use Rattle.std.proofs.lemmas.Simd.{ones-mask_l}
use Rattle.base_lists.proofs.Indexes.{read-at}
use Rattle.part_window.specs.TableState.{TableState, is_vacant}
use Rattle.part_window.specs.TableState.{slots_of}
use Rattle.part_window.proofs.TableViewed.{mask-is}
use Rattle.part_window.proofs.TableViewed.{peers-inside}
use Rattle.part_window.proofs.table.SlotTable.free.Goals as goal

pub returns : goal.returns
returns c =
    let fields = c.self.inside in
    let to = c.args.to in
    let place = c.index.result.now in
    let at : slice_get fields.peers.items to ≡ Some place =
    read-at fields.peers.items to place
    (peers-inside fields.peers.items fields.contents fields.block c.args.self.now to c.self.view_is
    c.requires) c.index.ensures in
    let mask : place.vacant ≡ mask_l (map is_vacant (slots_of c.args.self.now to)) =
    mask-is fields.peers.items fields.contents fields.block fields.held to place c.self.invariant.0 at
    ∙ ap (λ (table : TableState). mask_l (map is_vacant (slots_of table to))) c.self.view_is in
    ap ones mask ∙ ones-mask_l is_vacant (slots_of c.args.self.now to)
