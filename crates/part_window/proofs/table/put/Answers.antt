use Rattle.std.proofs.Common.{ℕ, Bool, ◌≡◌, ◌+◌, ap, sym, ◌∙◌, refl, arith}
use Rattle.std.specs.Prelude.{slice_get, slice_set}
use Rattle.base_lists.specs.Cut.{start_of}
use Rattle.base_lists.specs.Update.{update}
use Rattle.base_lists.proofs.Update.{update-Some}
use Rattle.part_window.specs.declared.table.Peer.{Peer}
use Rattle.part_window.specs.TableViews.{peer_counts, bit, one}
use Rattle.std.proofs.lemmas.Option.{same_Some}
use Rattle.part_window.proofs.Masks.{peer-inside, peer-at, mask-fits, held-after, counts-set, counted-after}
use Rattle.part_window.proofs.table.put.Goals as goal

pub marked-requires-clause-set : goal.marked-requires-clause-set
marked-requires-clause-set c =
    let peers = c.args.peers.now.items in
    let contents = c.args.contents.now in
    let to = c.args.at.to in
    let slot = c.args.at.slot in
    let at = peer-at peers to slot c.index.result.now c.requires.in_range c.index.ensures in
    let was = sym (ap (slice_get contents) c.place_in-place.ensures.place) ∙ c.replace.ensures.was in
    rw c.is_nothing-was.ensures
    (mask-fits peers contents _ to slot c.index.result.now c.replace.result c.args.new c.requires.counted at
    c.requires.in_range was).0

pub marked-requires-clause-fits : goal.marked-requires-clause-fits
marked-requires-clause-fits c =
    let peers = c.args.peers.now.items in
    let contents = c.args.contents.now in
    let to = c.args.at.to in
    let slot = c.args.at.slot in
    let at = peer-at peers to slot c.index.result.now c.requires.in_range c.index.ensures in
    let was = sym (ap (slice_get contents) c.place_in-place.ensures.place) ∙ c.replace.ensures.was in
    rw (c.is_nothing-was.ensures, c.is_nothing-is.ensures)
    (mask-fits peers contents _ to slot c.index.result.now c.replace.result c.args.new c.requires.counted at
    c.requires.in_range was).1

pub counted-requires-clause-some : goal.counted-requires-clause-some
counted-requires-clause-some c =
    let contents = c.args.contents.now in
    let was = sym (ap (slice_get contents) c.place_in-place.ensures.place) ∙ c.replace.ensures.was in
    omega (
      arith,
      held-after contents _ c.replace.result c.args.new was,
      c.requires.counted.counted,
      ap (λ (b : Bool). one b) c.is_nothing-was.ensures,
      ap (λ (b : Bool). one b) c.is_nothing-is.ensures,
    )

pub index_mut-requires : goal.index_mut-requires
index_mut-requires c =
    let inside = peer-inside c.args.peers.now.items c.args.at.to c.args.at.slot c.requires.in_range in
    omega (arith, inside, c.args.peers.now.ok.0)

pub returns-clause-counts : goal.returns-clause-counts
returns-clause-counts c =
    let peers = c.args.peers.now.items in
    let peer = c.index_mut.result.now in
    let at = peer-at peers c.args.at.to c.args.at.slot peer c.requires.in_range c.index_mut.ensures.value in
    counts-set peers c.args.at.to peer _ at refl

pub returns-clause-changed : goal.returns-clause-changed
returns-clause-changed c =
    let peers = c.args.peers.now.items in
    let contents = c.args.contents.now in
    let was = sym (ap (slice_get contents) c.place_in-place.ensures.place) ∙ c.replace.ensures.was in
    c.replace.ensures.written ∙ ap (λ (place : ℕ). slice_set contents place c.args.new) c.place_in-place.ensures.place
    ∙ sym (update-Some contents _ (λ _. c.args.new) c.replace.result was)

pub returns-clause-counted : goal.returns-clause-counted
returns-clause-counted c =
    let peers = c.args.peers.now.items in
    let contents = c.args.contents.now in
    let to = c.args.at.to in
    let slot = c.args.at.slot in
    let at = peer-at peers to slot c.index.result.now c.requires.in_range c.index.ensures in
    let here = peer-at peers to slot c.index_mut.result.now c.requires.in_range c.index_mut.ensures.value in
    let same : c.index.result.now ≡ c.index_mut.result.now = same_Some _ _ (sym at ∙ here) in
    let was = sym (ap (slice_get contents) c.place_in-place.ensures.place) ∙ c.replace.ensures.was in
    let changed : c.replace.new.self ≡ update contents (start_of (peer_counts peers) to + slot) (λ _. c.args.new) =
    c.replace.ensures.written ∙ ap (λ (place : ℕ). slice_set contents place c.args.new) c.place_in-place.ensures.place
    ∙ sym (update-Some contents _ (λ _. c.args.new) c.replace.result was) in
    rw changed
    (counted-after peers contents _ to slot c.index_mut.result.now _ c.replace.result c.args.new _
    c.requires.counted here c.requires.in_range was refl refl
    (omega (
      arith,
      c.marked.ensures,
      ap (λ (b : Bool). bit b slot) c.is_nothing-was.ensures,
      ap (λ (b : Bool). bit b slot) c.is_nothing-is.ensures,
      ap (λ (p : Peer). p.vacant) same,
    ))
    (omega (
      arith,
      c.counted.ensures,
      ap (λ (b : Bool). one b) c.is_nothing-was.ensures,
      ap (λ (b : Bool). one b) c.is_nothing-is.ensures,
    )))
