use Rattle.std.proofs.Common.{◌≡◌, ◌+◌, Some, ap, sym}
use Rattle.std.proofs.Common.{◌∙◌, refl}
use Rattle.std.specs.Prelude.{slice_get}
use Rattle.base_lists.specs.Cut.{start_of}
use Rattle.part_window.specs.TableViews.{peer_counts}
use Rattle.part_window.proofs.TableViewed.{buffered-lent}
use Rattle.std.proofs.lemmas.Option.{same_Some}
use Rattle.part_window.proofs.TableViewed.{view-lent, slot-there, opened-bytes}
use Rattle.part_window.proofs.table.SlotTable.buffer_mut.Goals as goal

pub invariant_of-self-lent : goal.invariant_of-self-lent
invariant_of-self-lent c =
    λ written. (
      c.self.invariant.0,
      buffered-lent c.self.inside.contents c.self.inside.block c.place_in-place.result written c.self.invariant.1,
    )

pub returns : goal.returns
returns c =
    let fields = c.self.inside in
    let to = c.args.to in
    let slot = c.args.slot in
    let there = slot-there to slot c.self.invariant.0 c.self.invariant.1 c.self.view_is c.requires.in_range in
    let found = there.1 in
    let at : slice_get fields.block (start_of (peer_counts fields.peers.items) to + slot) ≡ Some c.part_mut.result.now =
    ap (slice_get fields.block) (sym c.place_in-place.ensures.place) ∙ c.part_mut.ensures.value in
    let same : c.part_mut.result.now ≡ found.buffer = same_Some _ _ (sym at ∙ found.there) in (
      (
        refl,
        λ written. view-lent fields.peers.items fields.contents fields.block c.args.self.now to slot
            c.place_in-place.result there.0 found written c.self.view_is c.place_in-place.ensures.place
            c.requires.opened,
      ),
      record {
        writes_back = tt;
        value = same ∙ opened-bytes c.args.self.now to slot there.0 found.buffer found.is c.requires.opened;
        len = c.part_mut.ensures.len;
      },
    )
