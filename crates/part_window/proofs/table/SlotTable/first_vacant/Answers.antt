use Rattle.std.proofs.Common.{ℕ, ◌≡◌, ◌≤◌, Some, length, ap, sym}
use Rattle.std.proofs.Common.{◌∙◌, subst, arith}
use Rattle.std.specs.Prelude.{slice_get, map}
use lib.Lanes.{mask_l}
use lib.Count.{count_trailing_zeros}
use Rattle.base_lists.proofs.Indexes.{read-at}
use Rattle.part_window.specs.TableState.{TableState, is_vacant}
use Rattle.part_window.specs.TableState.{slots_of}
use Rattle.part_window.proofs.TableViewed.{mask-is, slots-short, first-none, first-some}
use Rattle.part_window.proofs.TableViewed.{peers-inside}
use Rattle.part_window.proofs.table.SlotTable.first_vacant.Goals as goal

pub returns-then-vacant-eq0 : goal.returns-then-vacant-eq0
returns-then-vacant-eq0 c =
    let fields = c.self.inside in
    let to = c.args.to in
    let place = c.index.result.now in
    let at : slice_get fields.peers.items to ≡ Some place =
    read-at fields.peers.items to place
    (peers-inside fields.peers.items fields.contents fields.block c.args.self.now to c.self.view_is
    c.requires) c.index.ensures in
    let mask : place.vacant ≡ mask_l (map is_vacant (slots_of c.args.self.now to)) =
    mask-is fields.peers.items fields.contents fields.block fields.held to place c.self.invariant.0 at
    ∙ ap (λ (table : TableState). mask_l (map is_vacant (slots_of table to))) c.self.view_is in
    sym (first-none is_vacant (slots_of c.args.self.now to) (omega (arith, mask, c.if-vacant-eq0.true)))

pub returns-else-vacant-eq0 : goal.returns-else-vacant-eq0
returns-else-vacant-eq0 c =
    let fields = c.self.inside in
    let to = c.args.to in
    let place = c.index.result.now in
    let at : slice_get fields.peers.items to ≡ Some place =
    read-at fields.peers.items to place
    (peers-inside fields.peers.items fields.contents fields.block c.args.self.now to c.self.view_is
    c.requires) c.index.ensures in
    let mask : place.vacant ≡ mask_l (map is_vacant (slots_of c.args.self.now to)) =
    mask-is fields.peers.items fields.contents fields.block fields.held to place c.self.invariant.0 at
    ∙ ap (λ (table : TableState). mask_l (map is_vacant (slots_of table to))) c.self.view_is in
    let short : length (slots_of c.args.self.now to) ≤ 32 =
    subst (λ (table : TableState). length (slots_of table to) ≤ 32) c.self.view_is
    (slots-short fields.peers.items fields.contents fields.block fields.held to place c.self.invariant.0 at)
    in
    sym (first-some is_vacant (slots_of c.args.self.now to) (omega (arith, mask, c.if-vacant-eq0.false)) short
    ∙ ap (λ (number : ℕ). Some (count_trailing_zeros 32 number)) (sym mask))
