-- The value of a table, by what it keeps.
use Rattle.std.proofs.Common.{ℕ, ◌≡◌, ◌+◌, ◌*◌, ◌<◌, ◌≤◌, Option, Some, None, Bool, List, [], ◌∷◌, ◌++◌, length}
use Rattle.std.proofs.Common.{take, drop, suc, zero, refl, sym, ap, subst, ◌∙◌, inl, inr, arith, true, false}
use Rattle.std.proofs.Common.{cond, length-set}
use Rattle.std.specs.Prelude.{slice_get, slice_set, count_by, map, not, position, IsSomeAnd}
use Rattle.std.specs.List.{prefix_len, refill as refill_to, length_refill}
use Rattle.std.specs.Option.{option_map}
use lib.Lanes.{mask_l}
use lib.Count.{count_trailing_zeros}
use borrow.Author.Tests.{lt-ltb, le-ltb}
use Rattle.std.proofs.lemmas.Simd.{trailing_mask_l, leading_from_mask_l}
use Rattle.std.proofs.lemmas.Option.{slice_get_cases, slice_get_within}
use Rattle.std.proofs.lemmas.List.{length-map, take-map, drop-map}
use Rattle.std.proofs.lemmas.List.Sums.{sum_by-cons, prefix_len-le-length}
use Rattle.std.proofs.lemmas.Bool.Decides.{eqb_tells}
use Rattle.base_lists.proofs.Indexes.{get-set_same, get-set_other}
use Rattle.base_lists.specs.Update.{update}
use Rattle.base_lists.specs.Cut.{start_of, count_at}
use Rattle.base_lists.proofs.Update.{update-Some, length-update, slice_get-update, slice_get-update_other}
use Rattle.base_lists.proofs.Cut.{start-inside, length-part}
use Rattle.part_window.specs.Blocks.{with_part}
use Rattle.part_window.specs.declared.table.Contents.{Contents}
use Rattle.part_window.specs.declared.table.Contents.TheVariants.{Nothing, Draft, Message}
use Rattle.part_window.specs.declared.table.Peer.{Peer}
use Rattle.part_window.specs.TableState.{SlotState, TableState, Opened, is_vacant, is_taken, slot_in}
use Rattle.part_window.specs.TableState.{slots_of, HasSlot, with_written, with_change, message_of, message_number}
use Rattle.part_window.specs.TableState.{opened_time, as_committed, as_retransmitted, IsOpened, opened_bytes, opened_bytes_in}
use Rattle.part_window.specs.TableViews.{slot_view, views, is_nothing, is_something, FitsBuffer, peer_counts, IsCounted}
use Rattle.part_window.specs.TableViews.{IsBuffered, table_view}
use Rattle.part_window.proofs.Masks.{count-of_peer}

set-get : {A : Type 0} (xs : List A) (place : ℕ) (item : A) → slice_get xs place ≡ Some item
    → slice_set xs place item ≡ xs
set-get [] place item at = refl
set-get (bytes ∷ xs) zero item at = let same : bytes ≡ item = cc in cc
set-get (bytes ∷ xs) (suc place) item at = let rest : slice_set xs place item ≡ xs = set-get xs place item at in cc

-- a slot's value, by its contents and its buffer
pub view-get : (contents : List Contents) (buffers : List (List ℕ)) (place : ℕ) (c : Contents) (buffer : List ℕ)
    → slice_get contents place ≡ Some c → slice_get buffers place ≡ Some buffer
    → slice_get (views contents buffers) place ≡ Some (slot_view c buffer)
view-get [] buffers place c buffer at is = absurd cc
view-get (item ∷ contents) [] place c buffer at is = absurd cc
view-get (item ∷ contents) (bytes ∷ buffers) zero c buffer at is =
    let same : item ≡ c = cc in
    let same' : bytes ≡ buffer = cc in
    ap (λ (z : Contents). Some (slot_view z bytes)) same ∙ ap (λ (z : List ℕ). Some (slot_view c z)) same'
view-get (item ∷ contents) (bytes ∷ buffers) (suc place) c buffer at is = view-get contents buffers place c buffer at is

pub length-views : (contents : List Contents) (buffers : List (List ℕ))
    → length (views contents buffers) ≡ length contents
length-views [] buffers = refl
length-views (c ∷ contents) [] = ap suc (length-views contents [])
length-views (c ∷ contents) (buffer ∷ buffers) = ap suc (length-views contents buffers)

-- the contents of one slot change
views-set : (contents : List Contents) (buffers : List (List ℕ)) (place : ℕ) (new : Contents) (buffer : List ℕ)
    → slice_get buffers place ≡ Some buffer
    → views (slice_set contents place new) buffers ≡ slice_set (views contents buffers) place (slot_view new buffer)
views-set [] buffers place new buffer is = refl
views-set (item ∷ contents) [] place new buffer is = absurd cc
views-set (item ∷ contents) (bytes ∷ buffers) zero new buffer is =
    let same : bytes ≡ buffer = cc in ap (λ (z : List ℕ). slot_view new z ∷ views contents buffers) same
views-set (item ∷ contents) (bytes ∷ buffers) (suc place) new buffer is =
    ap (λ (states : List SlotState). slot_view item bytes ∷ states) (views-set contents buffers place new buffer is)

pub views-changed : (contents : List Contents) (buffers : List (List ℕ)) (place : ℕ) (old new : Contents)
    (buffer : List ℕ) → slice_get contents place ≡ Some old → slice_get buffers place ≡ Some buffer
    → views (update contents place (λ _. new)) buffers
    ≡ update (views contents buffers) place (λ _. slot_view new buffer)
views-changed contents buffers place old new buffer at is =
    ap (λ (list : List Contents). views list buffers) (update-Some contents place (λ _. new) old at)
    ∙ (views-set contents buffers place new buffer is
    ∙ sym (update-Some (views contents buffers) place (λ _. slot_view new buffer) (slot_view old buffer)
    (view-get contents buffers place old buffer at is)))

-- the buffer of one slot changes
views-buffer : (contents : List Contents) (buffers : List (List ℕ)) (place : ℕ) (c : Contents) (buffer : List ℕ)
    → slice_get contents place ≡ Some c → place < length buffers
    → views contents (slice_set buffers place buffer) ≡ slice_set (views contents buffers) place (slot_view c buffer)
views-buffer [] buffers place c buffer at is = absurd cc
views-buffer (item ∷ contents) [] place c buffer at is = absurd (omega arith)
views-buffer (item ∷ contents) (bytes ∷ buffers) zero c buffer at is =
    let same : item ≡ c = cc in ap (λ (z : Contents). slot_view z buffer ∷ views contents buffers) same
views-buffer (item ∷ contents) (bytes ∷ buffers) (suc place) c buffer at is =
    ap (λ (states : List SlotState). slot_view item bytes ∷ states)
    (views-buffer contents buffers place c buffer at (omega arith))

-- vacancy is told by the contents alone
vacant-view : (contents : Contents) (buffer : List ℕ) → is_vacant (slot_view contents buffer) ≡ is_nothing contents
vacant-view Nothing buffer = refl
vacant-view (Draft number time) buffer = refl
vacant-view (Message number time len) buffer = refl

pub vacant-views : (contents : List Contents) (buffers : List (List ℕ))
    → map is_vacant (views contents buffers) ≡ map is_nothing contents
vacant-views [] buffers = refl
vacant-views (c ∷ contents) [] =
    let first : is_vacant (slot_view c []) ≡ is_nothing c = vacant-view c [] in
    let rest : map is_vacant (views contents []) ≡ map is_nothing contents = vacant-views contents [] in cc
vacant-views (c ∷ contents) (buffer ∷ buffers) =
    let first : is_vacant (slot_view c buffer) ≡ is_nothing c = vacant-view c buffer in
    let rest : map is_vacant (views contents buffers) ≡ map is_nothing contents = vacant-views contents buffers in cc

pub taken-views : (contents : List Contents) (buffers : List (List ℕ))
    → count_by is_taken (views contents buffers) ≡ count_by is_something contents
taken-views [] buffers = refl
taken-views (c ∷ contents) [] =
    omega (
      arith,
      sum_by-cons (λ state. cond (is_taken state) 1 0) (slot_view c []) (views contents []),
      sum_by-cons (λ item. cond (is_something item) 1 0) c contents,
      taken-views contents [],
      ap {B = ℕ}
          (λ (v : Bool). cond (not v) 1 0) (vacant-view c []),
    )
taken-views (c ∷ contents) (buffer ∷ buffers) =
    omega (
      arith,
      sum_by-cons (λ state. cond (is_taken state) 1 0) (slot_view c buffer) (views contents buffers),
      sum_by-cons (λ item. cond (is_something item) 1 0) c contents,
      taken-views contents buffers,
      ap {B = ℕ}
          (λ (v : Bool). cond (not v) 1 0) (vacant-view c buffer),
    )

-- a peer's mask, by the values of its slots
pub mask-is : (peers : List Peer) (contents : List Contents) (buffers : List (List ℕ)) (held node : ℕ) (peer : Peer)
    → IsCounted peers contents held → slice_get peers node ≡ Some peer
    → peer.vacant ≡ mask_l (map is_vacant (slots_of (table_view peers contents buffers) node))
mask-is peers contents buffers held node peer known at =
    let counts : List ℕ = peer_counts peers in
    let number : ℕ = count_at counts node in
    let first : ℕ = start_of counts node in
    let here : map is_vacant (take number (drop first (views contents buffers))) ≡ take number
    (drop first (map is_vacant (views contents buffers))) =
    sym (take-map is_vacant number (drop first (views contents buffers)))
    ∙ ap (take number) (sym (drop-map is_vacant first (views contents buffers))) in
    let there : map is_nothing (take number (drop first contents)) ≡ take number
    (drop first (map is_nothing contents)) =
    sym (take-map is_nothing number (drop first contents))
    ∙ ap (take number) (sym (drop-map is_nothing first contents)) in
    known.masks node peer at
    ∙ ap mask_l (there
    ∙ (ap (λ (flags : List Bool). take number (drop first flags)) (sym (vacant-views contents buffers)) ∙ sym here))

pub slots-short : (peers : List Peer) (contents : List Contents) (buffers : List (List ℕ)) (held node : ℕ) (peer : Peer)
    → IsCounted peers contents held → slice_get peers node ≡ Some peer
    → length (slots_of (table_view peers contents buffers) node) ≤ 32
slots-short peers contents buffers held node peer known at =
    omega (
      arith,
      length-part (peer_counts peers) (views contents buffers) node
          (omega (arith, length-views contents buffers, known.whole)),
      count-of_peer peers node peer at,
      known.laid.narrow node peer at,
    )

none-passes : {X : Type 0} (peer : X → Bool) (xs : List X) → prefix_len (λ item. not (peer item)) xs ≡ length xs
    → mask_l (map peer xs) ≡ 0
none-passes peer [] equal = refl
none-passes peer (item ∷ xs) equal = at (peer item) refl (none-passes peer xs) where
  at : (buffer : Bool) → peer item ≡ buffer
      → (prefix_len (λ bytes. not (peer bytes)) xs ≡ length xs → mask_l (map peer xs) ≡ 0)
      → mask_l (map peer (item ∷ xs)) ≡ 0
  at true is rest =
      let zero_len : prefix_len (λ bytes. not (peer bytes)) (item ∷ xs) ≡ 0 =
      ap (λ (buffer : Bool). cond (not buffer) (1 + prefix_len (λ bytes. not (peer bytes)) xs) 0) is in
      absurd (omega (arith, equal, zero_len))
  at false is rest =
      let more : prefix_len (λ bytes. not (peer bytes)) (item ∷ xs) ≡ 1 + prefix_len (λ bytes. not (peer bytes)) xs =
      ap (λ (buffer : Bool). cond (not buffer) (1 + prefix_len (λ bytes. not (peer bytes)) xs) 0) is in
      let none : mask_l (map peer xs) ≡ 0 = rest (omega (arith, equal, more)) in
      let both : cond false 1 0 + 2 * mask_l (map peer xs) ≡ 0 = omega (arith, none) in
      ap (λ (buffer : Bool). cond buffer 1 0 + 2 * mask_l (map peer xs)) is ∙ both

-- the lowest bit of a mask is the first place
pub first-none : {X : Type 0} (peer : X → Bool) (xs : List X) → mask_l (map peer xs) ≡ 0 → position peer xs ≡ None
first-none peer xs equal =
    ap (λ (buffer : Bool). cond buffer (Some (prefix_len (λ item. not (peer item)) xs)) None)
    (le-ltb (prefix_len (λ item. not (peer item)) xs) (length xs) (omega (arith, leading_from_mask_l peer xs equal)))

pub first-some : {X : Type 0} (peer : X → Bool) (xs : List X) → 0 < mask_l (map peer xs) → length xs ≤ 32
    → position peer xs ≡ Some (count_trailing_zeros 32 (mask_l (map peer xs)))
first-some peer xs some few =
    let first : count_trailing_zeros 32 (mask_l (map peer xs)) ≡ prefix_len (λ item. not (peer item)) xs =
    trailing_mask_l peer 32 xs few some in
    let inside : prefix_len (λ item. not (peer item)) xs < length xs = elim
    (eqb_tells (prefix_len (λ item. not (peer item)) xs) (length xs)) [
      | inl found ↦ absurd (omega (arith, some, none-passes peer xs found.1))
      | inr found ↦ omega (arith, found.1, prefix_len-le-length (λ item. not (peer item)) xs)
    ] in
    ap (λ (buffer : Bool). cond buffer (Some (prefix_len (λ item. not (peer item)) xs)) None)
    (lt-ltb (prefix_len (λ item. not (peer item)) xs) (length xs) inside)
    ∙ ap (λ (number : ℕ). Some number) (sym first)

-- each slot has a buffer
pub buffer-there : (contents : List Contents) (buffers : List (List ℕ)) (place : ℕ) → IsBuffered contents buffers
    → place < length contents → (buffer : List ℕ) × (slice_get buffers place ≡ Some buffer) × (length buffer ≡ 8296)
buffer-there contents buffers place known inside = elim ((slice_get_cases buffers place).1) [
  | inl found ↦ (found.0, found.2, known.sizes place found.0 found.2)
  | inr found ↦ absurd (omega (arith, found.0, known.enough))
]

pub buffered-after : (contents : List Contents) (buffers : List (List ℕ)) (place : ℕ) (new : Contents)
    → IsBuffered contents buffers → FitsBuffer new → IsBuffered (update contents place (λ _. new)) buffers
buffered-after contents buffers place new known fits = record {
  enough = omega (arith, known.enough, length-update contents place (λ _. new));
  sizes = known.sizes;
  fits = λ other c is. elim (eqb_tells other place) [
    | inl found ↦
        changed c (ap (λ (node : ℕ). slice_get (update contents place (λ _. new)) node) (sym found.1)
        ∙ is) (slice_get contents place) refl
    | inr found ↦ known.fits other c (sym (slice_get-update_other contents place (λ _. new) other found.1) ∙ is)
  ];
} where
  changed : (c : Contents) → slice_get (update contents place (λ _. new)) place ≡ Some c → (value : Option Contents)
      → slice_get contents place ≡ value → FitsBuffer c
  changed c is None was =
      let none : slice_get (update contents place (λ _. new)) place ≡ None =
      slice_get-update contents place (λ _. new) ∙ ap (option_map {T = Contents} {U = Contents} (λ _. new)) was in
      absurd cc
  changed c is (Some old) was =
      let some : slice_get (update contents place (λ _. new)) place ≡ Some new =
      slice_get-update contents place (λ _. new) ∙ ap (option_map {T = Contents} {U = Contents} (λ _. new)) was in
      let same : new ≡ c = cc in subst FitsBuffer same fits

pub buffered-lent : (contents : List Contents) (buffers : List (List ℕ)) (place : ℕ) (written : List ℕ)
    → IsBuffered contents buffers → IsBuffered contents (with_part buffers place written)
buffered-lent contents buffers place written known = at (slice_get buffers place) refl where
  at : (value : Option (List ℕ)) → slice_get buffers place ≡ value
      → IsBuffered contents (with_part buffers place written)
  at None is =
      subst (IsBuffered contents)
      (sym (ap (λ (value : Option (List ℕ)). elim value as (λ _. List (List ℕ))
      [ Some buffer ↦ slice_set buffers place (refill_to 8296 buffer written) | None ↦ buffers ]) is)) known
  at (Some old) is =
      subst (IsBuffered contents)
      (sym (ap (λ (value : Option (List ℕ)). elim value as (λ _. List (List ℕ))
      [ Some buffer ↦ slice_set buffers place (refill_to 8296 buffer written) | None ↦ buffers ]) is))
      record {
        enough = omega (arith, known.enough, length-set buffers place (refill_to 8296 old written));
        sizes = λ other buffer at_k. elim (eqb_tells other place) [
          | inl found ↦
              let here : slice_get (slice_set buffers place (refill_to 8296 old written)) place ≡ Some buffer =
              ap (λ (node : ℕ). slice_get (slice_set buffers place (refill_to 8296 old written)) node) (sym found.1)
              ∙ at_k in
              let set : slice_get (slice_set buffers place (refill_to 8296 old written)) place ≡ Some
              (refill_to 8296 old written) =
              get-set_same buffers place (refill_to 8296 old written) (slice_get_within buffers place old is) in
              let same : refill_to 8296 old written ≡ buffer = cc in
              ap length (sym same) ∙ sym (length_refill 8296 old written (sym (known.sizes place old is)))
          | inr found ↦
              known.sizes other buffer (sym (get-set_other buffers place (refill_to 8296 old written) other found.1)
              ∙ at_k)
        ];
        fits = known.fits;
      }

-- a slot of a table, as it is read at its place
pub record Here (peers : List Peer) (contents : List Contents) (buffers : List (List ℕ)) (table : TableState)
    (to slot : ℕ) (read : Contents) : Type 0 where
  pub in_range : slot < count_at (peer_counts peers) to
  pub at : slice_get contents (start_of (peer_counts peers) to + slot) ≡ Some read
  pub buffer : List ℕ
  pub there : slice_get buffers (start_of (peer_counts peers) to + slot) ≡ Some buffer
  pub whole : length buffer ≡ 8296
  pub is : slot_in table to slot ≡ Some (slot_view read buffer)
  pub fits : FitsBuffer read

pub in-range : (peers : List Peer) (contents : List Contents) (buffers : List (List ℕ)) (table : TableState)
    (to slot : ℕ) → table_view peers contents buffers ≡ table → HasSlot table to slot
    → slot < count_at (peer_counts peers) to
in-range peers contents buffers table to slot view known =
    subst (λ (other_table : TableState). slot < count_at other_table.counts to) (sym view) known

pub here : {peers : List Peer} {contents : List Contents} {buffers : List (List ℕ)} {table : TableState} {held : ℕ}
    {read : Contents} (to slot place : ℕ) → IsCounted peers contents held → IsBuffered contents buffers
    → table_view peers contents buffers ≡ table → HasSlot table to slot
    → place ≡ start_of (peer_counts peers) to + slot → slice_get contents place ≡ Some read
    → Here peers contents buffers table to slot read
here {peers = peers} {contents = contents} {buffers = buffers} {table = table} {held = held} {read = read} to slot place
    counted buffered view has is_place was =
    let inside : slot < count_at (peer_counts peers) to = in-range peers contents buffers table to slot view has in
    let at : slice_get contents (start_of (peer_counts peers) to + slot) ≡ Some read =
    sym (ap (slice_get contents) is_place) ∙ was in
    let b =
    buffer-there contents buffers (start_of (peer_counts peers) to + slot) buffered
    (slice_get_within contents _ read at) in
    record {
      in_range = inside;
      at = at;
      buffer = b.0;
      there = b.1;
      whole = b.2;
      is =
          ap (λ (other_table : TableState). slot_in other_table to slot) (sym view)
          ∙ view-get contents buffers _ read b.0 at b.1;
      fits = buffered.fits _ read at;
    }

-- the table's value, after the contents of one slot changed
pub view-changed : {peers : List Peer} {contents : List Contents} {buffers : List (List ℕ)} {table : TableState}
    {to slot : ℕ} {read : Contents} (new_peers : List Peer) (new_contents : List Contents) (new : Contents)
    (known : Here peers contents buffers table to slot read) → table_view peers contents buffers ≡ table
    → peer_counts new_peers ≡ peer_counts peers
    → new_contents ≡ update contents (start_of (peer_counts peers) to + slot) (λ _. new)
    → table_view new_peers new_contents buffers ≡ with_change table to slot (λ _. slot_view new known.buffer)
view-changed {peers = peers} {contents = contents} {buffers = buffers} {table = table} {to = to} {slot = slot}
    {read = read} new_peers new_contents new known view same changed =
    ap (λ (counts : List ℕ). record { counts = counts; slots = views new_contents buffers }) same
    ∙ (ap (λ (list : List Contents). record { counts = peer_counts peers; slots = views list buffers }) changed
    ∙ (ap (λ (states : List SlotState). record { counts = peer_counts peers; slots = states })
    (views-changed contents buffers (start_of (peer_counts peers) to + slot) read new known.buffer known.at known.there)
    ∙ ap (λ (other_table : TableState). with_change other_table to slot (λ _. slot_view new known.buffer)) view))

-- a change of a slot is one of its state alone
pub change-is : (table : TableState) (to slot : ℕ) (state new : SlotState) (change : SlotState → SlotState)
    → slot_in table to slot ≡ Some state → change state ≡ new
    → with_change table to slot (λ _. new) ≡ with_change table to slot change
change-is table to slot state new change at is =
    ap (λ (states : List SlotState). record table { slots = states }) (update-Some table.slots _ (λ _. new) state at
    ∙ (ap (slice_set table.slots _) (sym is) ∙ sym (update-Some table.slots _ change state at)))

pub change-none : (table : TableState) (to slot : ℕ) (state : SlotState) (change : SlotState → SlotState)
    → slot_in table to slot ≡ Some state → change state ≡ state → table ≡ with_change table to slot change
change-none table to slot state change at is =
    ap (λ (states : List SlotState). record table { slots = states }) (sym (update-Some table.slots _ change state at
    ∙ (ap (slice_set table.slots _) is ∙ set-get table.slots _ state at)))

pub peers-inside : (peers : List Peer) (contents : List Contents) (buffers : List (List ℕ)) (table : TableState)
    (to : ℕ) → table_view peers contents buffers ≡ table → to < length table.counts → to < length peers
peers-inside peers contents buffers table to view inside =
    omega (
      arith,
      ap (λ (other_table : TableState). length other_table.counts) view,
      length-map peers (λ (peer : Peer). peer.count),
      inside,
    )

-- contents that are no message, and no draft
pub not-message : (item : Contents) (buffer : List ℕ) (now : ℕ)
    → ((number table l : ℕ) → item ≡ Message number table l → ⊥)
    → (message_of (slot_view item buffer) ≡ None) × (as_retransmitted now (slot_view item buffer) ≡ slot_view item buffer)
    × (message_number (slot_view item buffer) ≡ None)
not-message Nothing buffer now never = (refl, refl, refl)
not-message (Draft number table) buffer now never = (refl, refl, refl)
not-message (Message number table l) buffer now never = absurd (never number table l refl)

pub not-draft : (item : Contents) (buffer : List ℕ) (len : ℕ) → ((number table : ℕ) → item ≡ Draft number table → ⊥)
    → (opened_time (slot_view item buffer) ≡ None) × (as_committed len (slot_view item buffer) ≡ slot_view item buffer)
not-draft Nothing buffer len never = (refl, refl)
not-draft (Draft number table) buffer len never = absurd (never number table refl)
not-draft (Message number table l) buffer len never = (refl, refl)

-- the table's value, while the buffer of an opened slot is lent
pub view-lent : (peers : List Peer) (contents : List Contents) (buffers : List (List ℕ)) (table : TableState)
    (to slot place : ℕ) (read : Contents) (known : Here peers contents buffers table to slot read) (written : List ℕ)
    → table_view peers contents buffers ≡ table
    → place ≡ start_of (peer_counts peers) to + slot → IsSomeAnd (slot_in table to slot) IsOpened
    → table_view peers contents (with_part buffers place written) ≡ with_change table to slot (with_written written)
view-lent peers contents buffers table to slot place read known written view is_place opened =
    let at : ℕ = start_of (peer_counts peers) to + slot in
    let new : List ℕ = refill_to 8296 known.buffer written in
    let part : with_part buffers place written ≡ slice_set buffers at new =
    ap (λ (i : ℕ). with_part buffers i written) is_place
    ∙ ap (λ (value : Option (List ℕ)). elim value as (λ _. List (List ℕ))
    [ Some buffer ↦ slice_set buffers at (refill_to 8296 buffer written) | None ↦ buffers ]) known.there in
    let same : slot_view read new ≡ with_written written (slot_view read known.buffer) =
    opens read known.buffer known.whole
    (subst (λ (value : Option SlotState). IsSomeAnd value IsOpened) known.is opened) in
    ap (λ (flags : List (List ℕ)). table_view peers contents flags) part
    ∙ (ap (λ (states : List SlotState). record { counts = peer_counts peers; slots = states })
    (views-buffer contents buffers at read new known.at (slice_get_within buffers at known.buffer known.there)
    ∙ (ap (slice_set (views contents buffers) at) same
    ∙ sym (update-Some (views contents buffers) at (with_written written) (slot_view read known.buffer)
    (view-get contents buffers at read known.buffer known.at known.there))))
    ∙ ap (λ (other_table : TableState). with_change other_table to slot (with_written written)) view) where
      opens : (item : Contents) (buffer : List ℕ) → length buffer ≡ 8296 → IsOpened (slot_view item buffer)
          → slot_view item (refill_to 8296 buffer written) ≡ with_written written (slot_view item buffer)
      opens Nothing buffer whole is = absurd is
      opens (Draft number time) buffer whole is =
          ap (λ (other : ℕ). Opened number time (take other (written ++ drop (length written) buffer))) (sym whole)
      opens (Message number time len) buffer whole is = absurd is

-- a slot of a table, with what stands in it
pub slot-there : {peers : List Peer} {contents : List Contents} {buffers : List (List ℕ)} {table : TableState}
    {held : ℕ}
    (to slot : ℕ) → IsCounted peers contents held → IsBuffered contents buffers → table_view peers contents buffers ≡
    table
    → HasSlot table to slot → (read : Contents) × Here peers contents buffers table to slot read
slot-there {peers = peers} {contents = contents} {buffers = buffers} {table = table} to slot counted buffered view has =
    let inside : slot < count_at (peer_counts peers) to = in-range peers contents buffers table to slot view has in
    elim ((slice_get_cases contents (start_of (peer_counts peers) to + slot)).1) [
      | inl found ↦
          let b = buffer-there contents buffers (start_of (peer_counts peers) to + slot) buffered found.1 in (
            found.0,
            record {
              in_range = inside;
              at = found.2;
              buffer = b.0;
              there = b.1;
              whole = b.2;
              is =
                  ap (λ (other_table : TableState). slot_in other_table to slot) (sym view)
                  ∙ view-get contents buffers _ found.0 b.0 found.2 b.1;
              fits = buffered.fits _ found.0 found.2;
            },
          )
      | inr found ↦ absurd (omega (arith, found.0, start-inside (peer_counts peers) to slot inside, counted.whole))
    ]

-- the bytes of an opened slot are its buffer's
pub opened-bytes : (table : TableState) (to slot : ℕ) (read : Contents) (buffer : List ℕ)
    → slot_in table to slot ≡ Some (slot_view read buffer) → IsSomeAnd (slot_in table to slot) IsOpened
    → buffer ≡ opened_bytes_in table to slot
opened-bytes table to slot read buffer is opened =
    opens read (subst (λ (value : Option SlotState). IsSomeAnd value IsOpened) is opened)
    ∙ sym (ap (λ (value : Option SlotState). elim value as (λ _. List ℕ)
    [ Some state ↦ opened_bytes state | None ↦ [] ]) is) where
      opens : (item : Contents) → IsOpened (slot_view item buffer) → buffer ≡ opened_bytes (slot_view item buffer)
      opens Nothing never = absurd never
      opens (Draft number time) drafted = refl
      opens (Message number time len) never = absurd never
