-- What a table keeps of its slots, when the contents of one change.
use Rattle.std.proofs.Common.{ℕ, ◌≡◌, ◌≢◌, ◌+◌, ◌*◌, ◌^◌, ◌<◌, ◌≤◌, Option, Some, None, Bool, List, [], ◌∷◌, length}
use Rattle.std.proofs.Common.{get_or, suc, zero, refl, sym, ap, ◌∙◌, inl, inr, arith, true, false, cond}
use Rattle.std.specs.Prelude.{slice_get, slice_set, count_by, map}
use Rattle.std.specs.Option.{option_map}
use lib.Lanes.{mask_l}
use Rattle.std.proofs.lemmas.Simd.{mask_l-lt}
use Rattle.std.proofs.lemmas.Option.{slice_get_within, slice_get-map}
use Rattle.std.proofs.lemmas.Option.{get_or_from_slice_get}
use Rattle.std.proofs.lemmas.List.{map-set, length-map}
use Rattle.std.proofs.Math.Seq.{map-set_same}
use Rattle.std.proofs.Math.Nat.{pow-succ'}
use Rattle.std.proofs.Math.Pow.{pow_mono}
use Rattle.std.proofs.lemmas.List.Sums.{count_by-le-length}
use Rattle.std.proofs.lemmas.Bool.Decides.{eqb_tells}
use Rattle.base_lists.proofs.Indexes.{read-at, get-set_same, get-set_other}
use Rattle.base_lists.specs.Update.{update}
use Rattle.base_lists.specs.Cut.{start_of, count_at, total_of, part_of}
use Rattle.base_lists.proofs.Update.{update-Some, length-update, sum_by-update}
use Rattle.base_lists.proofs.Cut.{get-part, count-inside, part-update_same, part-update_other, length-part}
use Rattle.part_window.specs.declared.table.Contents.{Contents}
use Rattle.part_window.specs.declared.table.Contents.TheVariants.{Nothing, Draft, Message}
use Rattle.part_window.specs.declared.table.Peer.{Peer}
use Rattle.part_window.specs.TableViews.{is_nothing, is_something, peer_counts, IsCounted, bit, one}

bit-lowest : (flag : Bool) → bit flag 0 ≡ cond flag 1 0
bit-lowest true = refl
bit-lowest false = refl

bit-next : (flag : Bool) (slot : ℕ) → bit flag (suc slot) ≡ 2 * bit flag slot
bit-next true slot = pow-succ' 2 slot
bit-next false slot = omega arith

-- a bit of a mask changes
pub mask-set : (flags : List Bool) (slot : ℕ) (flag new : Bool) → slice_get flags slot ≡ Some flag
    → mask_l (slice_set flags slot new) + bit flag slot ≡ mask_l flags + bit new slot
mask-set [] slot flag new at = absurd cc
mask-set (flag ∷ flags) zero contents new at =
    let same : flag ≡ contents = cc in
    let both : cond new 1 0 + 2 * mask_l flags + bit contents 0 ≡ cond flag 1 0 + 2 * mask_l flags + bit new 0 =
    omega (arith, bit-lowest contents, bit-lowest new, ap {B = ℕ} (λ (item : Bool). cond item 1 0) same) in
    both
mask-set (flag ∷ flags) (suc slot) contents new at =
    let both : cond flag 1 0 + 2 * mask_l (slice_set flags slot new) + bit contents
    (suc slot) ≡ cond flag 1 0 + 2 * mask_l flags + bit new (suc slot) =
    omega (arith, mask-set flags slot contents new at, bit-next contents slot, bit-next new slot) in
    both

-- the number of slots of a peer that is there
pub count-of_peer : (peers : List Peer) (node : ℕ) (peer : Peer) → slice_get peers node ≡ Some peer
    → count_at (peer_counts peers) node ≡ peer.count
count-of_peer peers node peer at =
    ap (λ (o : Option ℕ). elim o as (λ _. ℕ) [ Some contents ↦ contents | None ↦ 0 ])
    (slice_get-map (λ (other_peer : Peer). other_peer.count) peers node
    ∙ ap (option_map {T = Peer} {U = ℕ} (λ other_peer. other_peer.count)) at)

-- a peer with a slot is there
pub peer-inside : (peers : List Peer) (node slot : ℕ) → slot < count_at (peer_counts peers) node → node < length peers
peer-inside peers node slot inside =
    omega (
      arith,
      count-inside (peer_counts peers) node slot inside,
      length-map peers (λ (other_peer : Peer). other_peer.count),
    )

-- a peer's mask is set anew: its count and its first place stay
pub counts-set : (peers : List Peer) (node : ℕ) (peer new : Peer) → slice_get peers node ≡ Some peer
    → new.count ≡ peer.count → peer_counts (slice_set peers node new) ≡ peer_counts peers
counts-set peers node peer new at same =
    map-set_same (λ (other_peer : Peer). other_peer.count) peers node new new (same
    ∙ ap (λ (other_peer : Peer). other_peer.count) (sym (get_or_from_slice_get peers node peer new at)))

-- a bit for each vacant slot of a peer
abbrev vacant_bits : List ℕ → List Contents → ℕ → ℕ
vacant_bits counts contents node = mask_l (map is_nothing (part_of counts contents node))

-- the peer's mask, after the contents of one of its slots changed
pub mask-after : (peers : List Peer) (contents : List Contents) (held node slot : ℕ) (peer : Peer) (old new : Contents)
    → IsCounted peers contents held → slice_get peers node ≡ Some peer → slot < count_at (peer_counts peers) node
    → slice_get contents (start_of (peer_counts peers) node + slot) ≡ Some old
    → vacant_bits (peer_counts peers) (update contents (start_of (peer_counts peers) node + slot) (λ _. new)) node
    + bit (is_nothing old) slot ≡ peer.vacant + bit (is_nothing new) slot
mask-after peers contents held node slot peer old new counted at inside was =
    let counts : List ℕ = peer_counts peers in
    let here : slice_get (part_of counts contents node) slot ≡ Some old =
    get-part counts contents node slot inside ∙ was in
    let bits : slice_get (map is_nothing (part_of counts contents node)) slot ≡ Some (is_nothing old) =
    slice_get-map is_nothing (part_of counts contents node) slot ∙ ap (option_map is_nothing) here in
    let changed : map is_nothing
    (part_of counts (update contents (start_of counts node + slot) (λ _. new)) node) ≡ slice_set
    (map is_nothing (part_of counts contents node)) slot (is_nothing new) =
    ap (map is_nothing) (part-update_same counts contents node slot (λ _. new) inside ∙ update-Some
    (part_of counts contents node) slot (λ _. new) old here)
    ∙ map-set is_nothing (part_of counts contents node) slot new in
    omega (
      arith,
      ap mask_l changed,
      mask-set (map is_nothing (part_of counts contents node)) slot (is_nothing old)
          (is_nothing new) bits,
      counted.masks node peer at,
    )

-- so a bit that is set can be cleared, and one that is cleared can be set
pub mask-fits : (peers : List Peer) (contents : List Contents) (held node slot : ℕ) (peer : Peer) (old new : Contents)
    → IsCounted peers contents held → slice_get peers node ≡ Some peer → slot < count_at (peer_counts peers) node
    → slice_get contents (start_of (peer_counts peers) node + slot) ≡ Some old
    → (bit (is_nothing old) slot ≤ peer.vacant)
    × (peer.vacant + bit (is_nothing new) slot < 2 ^ 32 + bit (is_nothing old) slot)
mask-fits peers contents held node slot peer old new counted at inside was =
    let counts : List ℕ = peer_counts peers in
    let after : Contents → List Contents =
    λ c. part_of counts (update contents (start_of counts node + slot) (λ _. c)) node in
    let cleared : mask_l (map is_nothing (after (Draft 0 0))) + bit (is_nothing old) slot ≡ peer.vacant + 0 =
    mask-after peers contents held node slot peer old (Draft 0 0) counted at inside was in
    let long : length (map is_nothing (after new)) ≤ 32 =
    omega (
      arith,
      length-map (after new) is_nothing,
      length-part counts (update contents (start_of counts node + slot) (λ _. new)) node
          (omega (arith, length-update contents (start_of counts node + slot) (λ _. new), counted.whole)),
      count-of_peer peers node peer at,
      counted.laid.narrow node peer at,
    ) in (
      omega (arith, cleared),
      omega (
        arith,
        mask-after peers contents held node slot peer old new counted at inside was,
        mask_l-lt
            (map is_nothing (after new)),
        pow_mono long,
      ),
    )

abbrev something : Contents → ℕ
something contents = cond (is_something contents) 1 0

weights : (contents : Contents) → something contents + one (is_nothing contents) ≡ 1
weights Nothing = omega arith
weights (Draft number time) = omega arith
weights (Message number time len) = omega arith

-- how many slots are taken, after the contents of one changed
pub held-after : (contents : List Contents) (place : ℕ) (old new : Contents) → slice_get contents place ≡ Some old
    → count_by is_something (update contents place (λ _. new)) + one (is_nothing new)
    ≡ count_by is_something contents + one (is_nothing old)
held-after contents place old new was =
    omega (
      arith,
      sum_by-update (λ c. cond (is_something c) 1 0) contents place (λ _. new) old was,
      weights old,
      weights new,
    )

-- the slots are counted anew, after the contents of one changed
pub counted-after : (peers : List Peer) (contents : List Contents) (held node slot : ℕ) (peer new_peer : Peer)
    (old new : Contents) (new_held : ℕ) → IsCounted peers contents held → slice_get peers node ≡ Some peer
    → slot < count_at (peer_counts peers) node
    → slice_get contents (start_of (peer_counts peers) node + slot) ≡ Some old → new_peer.count ≡ peer.count
    → new_peer.first ≡ peer.first
    → new_peer.vacant + bit (is_nothing old) slot ≡ peer.vacant + bit (is_nothing new) slot
    → new_held + one (is_nothing new) ≡ held + one (is_nothing old)
    → IsCounted (slice_set peers node new_peer)
    (update contents (start_of (peer_counts peers) node + slot) (λ _. new)) new_held
counted-after peers contents held node slot peer new_peer old new new_held h at lt was same_count same_first mask count
    =
    let counts : List ℕ = peer_counts peers in
    let same : peer_counts (slice_set peers node new_peer) ≡ counts =
    counts-set peers node peer new_peer at same_count in
    let inside : node < length peers = slice_get_within peers node peer at in
    let whole : total_of counts ≡ length (update contents (start_of counts node + slot) (λ _. new)) =
    omega (arith, h.whole, length-update contents (start_of counts node + slot) (λ _. new)) in
    let other : (place : ℕ) (other_peer : Peer) → place ≢ node → slice_get
    (slice_set peers node new_peer) place ≡ Some other_peer → slice_get peers place ≡ Some other_peer =
    λ place other_peer differs is. sym (get-set_other peers node new_peer place differs) ∙ is in
    let mine : (place : ℕ) (other_peer : Peer) → place ≡ node → slice_get
    (slice_set peers node new_peer) place ≡ Some other_peer → new_peer ≡ other_peer =
    λ place other_peer equal is. let here : slice_get (slice_set peers node new_peer) node ≡ Some other_peer = ap
    (λ (number : ℕ). slice_get (slice_set peers node new_peer) number) (sym equal)
    ∙ is in let set : slice_get
    (slice_set peers node new_peer) node ≡ Some new_peer = get-set_same peers node new_peer inside in cc in
    let new_contents : List Contents = update contents (start_of counts node + slot) (λ _. new) in
    record {
      laid = record {
        small = rw same h.laid.small;
        narrow = λ place other_peer is. elim (eqb_tells place node) [
          | inl equal ↦
              let mine_q : new_peer ≡ other_peer = mine place other_peer equal.1 is in
              omega (arith, ap (λ (item : Peer). item.count) mine_q, same_count, h.laid.narrow node peer at)
          | inr differs ↦ h.laid.narrow place other_peer (other place other_peer differs.1 is)
        ];
        firsts = λ place other_peer is. rw same (elim (eqb_tells place node) [
          | inl equal ↦
              let mine_q : new_peer ≡ other_peer = mine place other_peer equal.1 is in
              ap (λ (item : Peer). item.first) (sym mine_q)
              ∙ (same_first ∙ (h.laid.firsts node peer at ∙ ap (start_of counts) (sym equal.1)))
          | inr differs ↦ h.laid.firsts place other_peer (other place other_peer differs.1 is)
        ]);
      };
      whole = rw same whole;
      masks = λ place other_peer is. rw same (elim (eqb_tells place node) [
        | inl equal ↦
            let mine_q : new_peer ≡ other_peer = mine place other_peer equal.1 is in
            let now : new_peer.vacant ≡ mask_l (map is_nothing (part_of counts new_contents node)) =
            omega (arith, mask, mask-after peers contents held node slot peer old new h at lt was) in
            ap (λ (item : Peer). item.vacant) (sym mine_q)
            ∙ (now ∙ ap (λ (number : ℕ). mask_l (map is_nothing (part_of counts new_contents number))) (sym equal.1))
        | inr differs ↦
            let there : slice_get peers place ≡ Some other_peer = other place other_peer differs.1 is in
            let within : place < length counts =
            omega (
              arith,
              slice_get_within peers place other_peer there,
              length-map peers (λ (item : Peer). item.count),
            ) in
            h.masks place other_peer there
            ∙ ap (λ (parts : List Contents). mask_l (map is_nothing parts))
            (sym (part-update_other counts contents node slot (λ _. new) place lt differs.1 within))
      ]);
      counted = omega (arith, count, held-after contents (start_of counts node + slot) old new was, h.counted);
    }

-- how many are held is no more than there are slots
pub held-small : (peers : List Peer) (contents : List Contents) (held : ℕ) → IsCounted peers contents held
    → held < 65537
held-small peers contents held counted =
    omega (arith, counted.counted, count_by-le-length is_something contents, counted.laid.small, counted.whole)

-- the peer of a slot, as it is read
pub peer-at : (peers : List Peer) (to slot : ℕ) (read : Peer) → slot < count_at (peer_counts peers) to
    → read ≡ get_or peers to read → slice_get peers to ≡ Some read
peer-at peers to slot read inside is = read-at peers to read (peer-inside peers to slot inside) is
