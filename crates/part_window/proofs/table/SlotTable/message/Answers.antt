use Rattle.std.proofs.Common.{ℕ, ◌≡◌, ◌+◌, ◌≤◌, Some, List, take, ap, sym}
use Rattle.std.proofs.Common.{◌∙◌, subst, arith}
use Rattle.std.specs.Prelude.{slice_get, option_and_then}
use Rattle.std.proofs.lemmas.List.{length-take-le}
use Rattle.base_lists.specs.Cut.{start_of}
use Rattle.part_window.specs.declared.table.Contents.{Contents}
use Rattle.part_window.specs.TableState.{message_of}
use Rattle.part_window.specs.TableViews.{slot_view, peer_counts, FitsBuffer}
use Rattle.part_window.proofs.TableViewed.{here}
use Rattle.std.proofs.lemmas.Option.{same_Some}
use Rattle.part_window.proofs.TableViewed.{not-message}
use Rattle.part_window.proofs.table.SlotTable.message.Goals as goal

pub slice_bounds-result-end : goal.slice_bounds-result-end
slice_bounds-result-end c =
    let found =
    here c.args.to c.args.slot c.place_in-place.result c.self.invariant.0 c.self.invariant.1 c.self.view_is
    c.requires c.place_in-place.ensures.place c.get.ensures in
    let fits : c.in-Message.len ≤ 8296 = subst FitsBuffer c.in-Message.is found.fits in
    sym (length-take-le c.in-Message.len c.part.result.now (omega (arith, fits, c.part.ensures.len)))

pub returns-in-Message : goal.returns-in-Message
returns-in-Message c =
    let fields = c.self.inside in
    let found =
    here c.args.to c.args.slot c.place_in-place.result c.self.invariant.0 c.self.invariant.1 c.self.view_is
    c.requires c.place_in-place.ensures.place c.get.ensures in
    let at : slice_get fields.block
    (start_of (peer_counts fields.peers.items) c.args.to + c.args.slot) ≡ Some c.part.result.now =
    ap (slice_get fields.block) (sym c.place_in-place.ensures.place) ∙ c.part.ensures.value in
    let same : c.part.result.now ≡ found.buffer = same_Some _ _ (sym at ∙ found.there) in
    ap (λ (b : List ℕ). Some (take c.in-Message.len b)) same
    ∙ sym (ap (option_and_then message_of) found.is
    ∙ ap (λ (x : Contents). message_of (slot_view x found.buffer)) c.in-Message.is)

pub returns-in_default : goal.returns-in_default
returns-in_default c =
    let found =
    here c.args.to c.args.slot c.place_in-place.result c.self.invariant.0 c.self.invariant.1 c.self.view_is
    c.requires c.place_in-place.ensures.place c.get.ensures in
    sym (ap (option_and_then message_of) found.is
    ∙ (not-message c.get.result found.buffer 0 c.in_default.not-Message).0)
