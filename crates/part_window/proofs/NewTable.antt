-- A new table.
use Rattle.std.proofs.Common.{ℕ, ◌≡◌, ◌≢◌, ◌+◌, ◌-◌, ◌*◌, ◌^◌, ◌<◌, ◌≤◌, Option, Some, None, Bool, List, [], ◌∷◌, ◌++◌}
use Rattle.std.proofs.Common.{length, get_or, take, suc, zero, refl, sym, ap, subst, ◌∙◌, inl, inr, arith}
use Rattle.std.proofs.Common.{cond, length-append, length-set, get_or-set_same, get_or-set_other, replicate}
use Rattle.std.specs.Prelude.{slice_get, count_by, map, All, if◌then◌else◌, ◌==◌}
use Rattle.std.specs.Option.{option_map}
use lib.Lanes.{mask_l}
use Rattle.std.proofs.lemmas.Option.{slice_get_cases, slice_get_past, slice_get_within, slice_get-map}
use Rattle.std.proofs.lemmas.Option.{slice_get-get_or, get_or_from_slice_get}
use Rattle.std.proofs.lemmas.List.{length-replicate, take-replicate, drop-replicate}
use Rattle.std.proofs.lemmas.List.Folds.{sum_by-replicate}
use Rattle.std.proofs.lemmas.Bool.Decides.{eqb_tells}
use Rattle.std.proofs.Math.Nat.{pow-succ'}
use Rattle.base_lists.proofs.Indexes.{same_by_gets, get-set_same, get-set_other, get-append_left}
use Rattle.base_lists.proofs.Indexes.{replicate-is}
use Rattle.base_lists.specs.Cut.{start_of, count_at, total_of, part_of}
use Rattle.base_lists.proofs.Cut.{start-whole}
use Rattle.part_window.specs.declared.table.Contents.{Contents}
use Rattle.part_window.specs.declared.table.Contents.TheVariants.{Nothing}
use Rattle.part_window.specs.declared.table.Peer.{Peer}
use Rattle.part_window.specs.TableState.{SlotState, Vacant, counts_of, new_table, slots_of}
use Rattle.part_window.specs.TableViews.{views, is_nothing, is_something, FitsBuffer, peer_counts, IsCounted}
use Rattle.base_lists.proofs.Places.{slice_get_last}
use Rattle.part_window.specs.TableViews.{IsBuffered, table_view}
use Rattle.part_window.proofs.Masks.{count-of_peer}

-- what a new peer keeps
pub record IsPeer (counts : List ℕ) (node : ℕ) (peer : Peer) : Type 0 where
  pub first : peer.first ≡ start_of counts node
  pub count : slice_get counts node ≡ Some peer.count
  pub vacant : peer.vacant + 1 ≡ 2 ^ peer.count
  pub narrow : peer.count ≤ 32

-- the peers below `node` are made, and the next one begins at `first`
pub record IsMade (credits : List ℕ) (me node first : ℕ) (peers : List Peer) : Type 0 where
  pub made : length peers ≡ node
  pub next : first ≡ start_of (counts_of credits me) node
  pub each : (j : ℕ) (peer : Peer) → slice_get peers j ≡ Some peer → IsPeer (counts_of credits me) j peer

start-zero : (counts : List ℕ) → start_of counts 0 ≡ 0
start-zero [] = refl
start-zero (count ∷ counts) = refl

-- the next part begins behind this one
pub start-step : (counts : List ℕ) (node count : ℕ) → slice_get counts node ≡ Some count
    → start_of counts (node + 1) ≡ start_of counts node + count
start-step [] node count at = absurd cc
start-step (x ∷ counts) zero count at =
    let same : x ≡ count = cc in let none : start_of counts 0 ≡ 0 = start-zero counts in omega (arith, same, none)
start-step (x ∷ counts) (suc node) count at =
    let rest : start_of counts (node + 1) ≡ start_of counts node + count = start-step counts node count at in
    let shown : x + start_of counts (node + 1) ≡ x + start_of counts node + count = omega (arith, rest) in
    ap (start_of (x ∷ counts)) suc_add ∙ shown where
      suc_add : suc node + 1 ≡ suc (node + 1)
      suc_add = omega arith

-- a place past the last is the whole
pub start-all : (counts : List ℕ) (number : ℕ) → number ≡ length counts → start_of counts number ≡ total_of counts
start-all [] number equal = refl
start-all (count ∷ counts) zero equal = absurd (omega arith)
start-all (count ∷ counts) (suc number) equal =
    let rest : start_of counts number ≡ total_of counts = start-all counts number (omega arith) in omega (arith, rest)

-- the count of a peer
pub count-of : (credits : List ℕ) (me node count : ℕ) → slice_get credits node ≡ Some count
    → slice_get (counts_of credits me) node ≡ Some (if node == me then 0 else count)
count-of credits me node count at = elim (eqb_tells node me) [
  | inl same ↦
      ap (λ (j : ℕ). slice_get (counts_of credits me) j) same.1
      ∙ (get-set_same credits me 0
      (subst (λ (j : ℕ). j < length credits) same.1 (slice_get_within credits node count at))
      ∙ sym (ap (λ (flag : Bool). Some (cond flag 0 count)) same.0))
  | inr same ↦
      get-set_other credits me 0 node same.1 ∙ (at ∙ sym (ap (λ (flag : Bool). Some (cond flag 0 count)) same.0))
]

-- a table of few slots for each peer has few in all
pub total-below : (counts : List ℕ) (most : ℕ)
    → ((place blank : ℕ) → place < length counts → get_or counts place blank ≤ most)
    → total_of counts ≤ length counts * most
total-below [] most made = omega arith
total-below (count ∷ counts) most made =
    let first : count ≤ most = made 0 0 (omega arith) in
    let rest : total_of counts ≤ length counts * most =
    total-below counts most (λ place blank inside. made (suc place) blank (omega arith)) in
    let long : length (count ∷ counts) * most ≡ most + length counts * most = omega arith in
    omega (arith, first, rest, long)

-- a peer has at most 32 slots, where each other node has
pub narrow-count : (credits : List ℕ) (me node c : ℕ) → All (λ count. count ≤ 32) (counts_of credits me)
    → slice_get credits node ≡ Some c → (if node == me then 0 else c) ≤ 32
narrow-count credits me node c narrow at =
    let here : slice_get (counts_of credits me) node ≡ Some (if node == me then 0 else c) =
    count-of credits me node c at in
    let is : get_or (counts_of credits me) node 0 ≡ (if node == me then 0 else c) =
    get_or_from_slice_get (counts_of credits me) node (if node == me then 0 else c) 0 here in
    omega (arith, is, narrow node 0 (slice_get_within (counts_of credits me) node (if node == me then 0 else c) here))

-- few peers with few slots each have few slots in all
pub total-small : (credits : List ℕ) (me : ℕ) → length credits ≤ 2048 → All (λ count. count ≤ 32) (counts_of credits me)
    → total_of (counts_of credits me) ≤ 65536
total-small credits me few narrow =
    omega (
      arith,
      few,
      length-set credits me 0,
      total-below (counts_of credits me) 32 (λ place blank inside. narrow place blank inside),
    )

-- what is known of each other node's credits alone
pub narrow-others : (credits : List ℕ) (me : ℕ)
    → ((node count : ℕ) → node ≢ me → slice_get credits node ≡ Some count → count ≤ 32)
    → All (λ count. count ≤ 32) (counts_of credits me)
narrow-others credits me others node blank inside = elim (eqb_tells node me) [
  | inl same ↦
      omega (
        arith,
        ap (λ (number : ℕ). get_or (counts_of credits me) number blank) same.1,
        get_or-set_same credits me 0 blank (omega (arith, inside, length-set credits me 0, same.1)),
      )
  | inr other ↦
      omega (
        arith,
        get_or-set_other credits me node 0 blank other.1,
        others node (get_or credits node blank) other.1
            (slice_get-get_or credits node blank (omega (arith, inside, length-set credits me 0))),
      )
]

pub made-none : (credits : List ℕ) (me : ℕ) → IsMade credits me 0 0 []
made-none credits me =
    record { made = refl; next = sym (start-zero (counts_of credits me)); each = λ node peer at. absurd cc }

-- one more peer is made
pub made-more : (credits : List ℕ) (me node first : ℕ) (peers : List Peer) (peer : Peer) (c : ℕ)
    → IsMade credits me node first peers → slice_get credits node ≡ Some c → (if node == me then 0 else c) ≤ 32
    → peer.first ≡ first → peer.count ≡ (if node == me then 0 else c) → peer.vacant + 1 ≡ 2 ^ peer.count
    → IsMade credits me (node + 1) (first + peer.count) (peers ++ peer ∷ [])
made-more credits me node first peers peer c h at few is_first is_count is_vacant = record {
  made = length-append peers (peer ∷ []) ∙ omega (arith, h.made);
  next = omega (arith, h.next, start-step (counts_of credits me) node peer.count here);
  each = λ j other_peer is. elim (eqb_tells j node) [
    | inl w ↦
        let mine : slice_get (peers ++ peer ∷ []) (length peers) ≡ Some other_peer =
        ap (slice_get (peers ++ peer ∷ [])) (h.made ∙ sym w.1) ∙ is in
        let seam : slice_get (peers ++ peer ∷ []) (length peers) ≡ Some peer = slice_get_last peers peer in
        let same : peer ≡ other_peer = cc in
        subst (IsPeer (counts_of credits me) j) same
        (subst (λ (place : ℕ). IsPeer (counts_of credits me) place peer) (sym w.1) new)
    | inr w ↦
        h.each j other_peer (sym (get-append_left peers (peer ∷ []) j (omega (
          arith,
          slice_get_within (peers ++ peer ∷ []) j other_peer is,
          length-append peers (peer ∷ []),
          h.made,
          w.1,
        ))) ∙ is)
  ];
} where
  here : slice_get (counts_of credits me) node ≡ Some peer.count
  here = count-of credits me node c at ∙ ap (λ (number : ℕ). Some number) (sym is_count)

  new : IsPeer (counts_of credits me) node peer
  new = record { first = is_first ∙ h.next; count = here; vacant = is_vacant; narrow = omega (arith, is_count, few) }

-- the sum of the counts so far is within the whole
pub made-fits : (credits : List ℕ) (me node first count : ℕ) (peers : List Peer) → IsMade credits me node first peers
    → slice_get credits node ≡ Some count → first + (if node == me then 0 else count) ≤ total_of (counts_of credits me)
made-fits credits me node first count peers made at =
    let here : count_at (counts_of credits me) node ≡ (if node == me then 0 else count) =
    ap (λ (found : Option ℕ). elim found as (λ _. ℕ) [ Some number ↦ number | None ↦ 0 ])
    (count-of credits me node count at) in
    omega (arith, made.next, here, start-whole (counts_of credits me) node)

ones-are : (number : ℕ) → mask_l (map is_nothing (replicate number Nothing)) + 1 ≡ 2 ^ number
ones-are zero = refl
ones-are (suc number) =
    let both : 1 + 2 * mask_l (map is_nothing (replicate number Nothing)) + 1 ≡ 2 ^ suc number =
    omega (arith, ones-are number, pow-succ' 2 number) in
    both

-- all peers are made
pub made-counts : (credits : List ℕ) (me node first : ℕ) (peers : List Peer) → IsMade credits me node first peers
    → node ≡ length credits → peer_counts peers ≡ counts_of credits me
made-counts credits me node first peers made all =
    same_by_gets _ _ (λ place. slice_get-map (λ (peer : Peer). peer.count) peers place
    ∙ at place (slice_get peers place) refl) where
      at : (place : ℕ) (found : Option Peer) → slice_get peers place ≡ found → option_map {T = Peer} {U = ℕ}
          (λ peer. peer.count) found ≡ slice_get (counts_of credits me) place
      at place (Some peer) is = sym (made.each place peer is).count
      at place None is = elim ((slice_get_cases peers place).1) [
        | inl same ↦ absurd cc
        | inr same ↦
            sym (slice_get_past (counts_of credits me) place (omega (
              arith,
              same.0,
              made.made,
              all,
              length-set credits me 0,
            )))
      ]

pub made-counted : (credits : List ℕ) (me node first : ℕ) (peers : List Peer) (contents : List Contents)
    → IsMade credits me node first peers → node ≡ length credits → total_of (counts_of credits me) ≤ 65536
    → contents ≡ replicate first Nothing → IsCounted peers contents 0
made-counted credits me node first peers contents made all small are =
    let counts : List ℕ = counts_of credits me in
    let same : peer_counts peers ≡ counts = made-counts credits me node first peers made all in
    let whole : first ≡ total_of counts =
    made.next ∙ start-all counts node (omega (arith, all, length-set credits me 0)) in
    let long : length contents ≡ first = ap length are ∙ length-replicate first Nothing in
    record {
      laid =
          record {
            small = rw same small;
            narrow = λ j peer at.
                (made.each j peer at).narrow;
            firsts = λ j peer at. rw same (made.each j peer at).first;
          };
      whole = rw same (omega (arith, whole, long));
      masks = λ j peer at.
          let number : count_at counts j ≡ peer.count =
          ap (λ (list : List ℕ). count_at list j) (sym same) ∙ count-of_peer peers j peer at in
          let le : start_of counts j + count_at counts j ≤ first = omega (arith, start-whole counts j, whole) in
          let part : part_of (peer_counts peers) contents j ≡ replicate peer.count Nothing =
          ap (λ (list : List ℕ). part_of list contents j) same
          ∙ (ap (λ (xs : List Contents). part_of counts xs j) are
          ∙ (ap (take (count_at counts j)) (drop-replicate (start_of counts j) first Nothing)
          ∙ (take-replicate (count_at counts j) (first - start_of counts j) Nothing (omega (arith, le))
          ∙ ap (λ (place : ℕ). replicate place Nothing) number))) in
          omega (
            arith,
            ap (λ (xs : List Contents). mask_l (map is_nothing xs)) part,
            ones-are peer.count,
            (made.each j peer at).vacant,
          );
      counted =
          sym (ap (count_by is_something) are
          ∙ (sum_by-replicate (λ count. cond (is_something count) 1 0) first Nothing ∙ omega arith));
    }

pub made-buffered : (first : ℕ) (contents : List Contents) (buffers : List (List ℕ)) (blank : List ℕ)
    → contents ≡ replicate first Nothing → buffers ≡ replicate first blank → length blank ≡ 8296
    → IsBuffered contents buffers
made-buffered first contents buffers blank are bare whole = record {
  enough = ap length bare ∙ (length-replicate first blank ∙ sym (ap length are ∙ length-replicate first Nothing));
  sizes =
      λ place flag at. ap length
      (replicate-is first place blank flag (ap (λ (bs : List (List ℕ)). slice_get bs place) (sym bare) ∙ at)) ∙ whole;
  fits =
      λ place count at. subst FitsBuffer
      (sym (replicate-is first place Nothing count (ap (λ (list : List Contents). slice_get list place) (sym are)
      ∙ at))) tt;
}

views-new : (number : ℕ) (buffers : List (List ℕ)) → views (replicate number Nothing) buffers ≡ replicate number Vacant
views-new zero buffers = refl
views-new (suc number) [] = ap (λ (states : List SlotState). Vacant ∷ states) (views-new number [])
views-new (suc number) (flag ∷ buffers) = ap (λ (states : List SlotState). Vacant ∷ states) (views-new number buffers)

pub made-view : (credits : List ℕ) (me node first : ℕ) (peers : List Peer) (contents : List Contents)
    (buffers : List (List ℕ)) → IsMade credits me node first peers → node ≡ length credits
    → contents ≡ replicate first Nothing → table_view peers contents buffers ≡ new_table credits me
made-view credits me node first peers contents buffers made all are =
    let counts : List ℕ = counts_of credits me in
    let whole : first ≡ total_of counts =
    made.next ∙ start-all counts node (omega (arith, all, length-set credits me 0)) in
    ap (λ (list : List ℕ). record { counts = list; slots = views contents buffers })
    (made-counts credits me node first peers made all)
    ∙ ap (λ (states : List SlotState). record { counts = counts; slots = states })
    (ap (λ (list : List Contents). views list buffers) are
    ∙ (views-new first buffers ∙ ap (λ (number : ℕ). replicate number Vacant) whole))

pub start-most : (counts : List ℕ) (node : ℕ) → start_of counts node ≤ total_of counts
start-most counts node = omega (arith, start-whole counts node)

-- the slots of a peer of a new table
pub slots-new : (credits : List ℕ) (me node : ℕ)
    → slots_of (new_table credits me) node ≡ replicate (count_at (counts_of credits me) node) Vacant
slots-new credits me node =
    let counts : List ℕ = counts_of credits me in
    let total : ℕ = total_of counts in
    ap (take (count_at counts node)) (drop-replicate (start_of counts node) total Vacant)
    ∙ take-replicate (count_at counts node) (total - start_of counts node) Vacant
    (omega (arith, start-whole counts node))
