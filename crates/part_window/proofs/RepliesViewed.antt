-- The value of the kept replies, by the table of slots.
use Rattle.std.proofs.Common.{ℕ, ◌≡◌, ◌≢◌, ◌<◌, Option, Some, None, Bool, List, [], ◌∷◌, length, suc, zero}
use Rattle.std.proofs.Common.{refl, sym, ap, ◌∙◌, inl, inr, arith, cond, replicate, take, ◌-◌, length-set}
use Rattle.std.specs.Prelude.{slice_get, slice_set, map, not, count_by, option_and_then, IsSomeAnd, ◌==◌, if◌then◌else◌}
use Rattle.std.specs.Option.{option_map, unwrap_or}
use Rattle.std.proofs.lemmas.Option.{slice_get_cases, slice_get_within, slice_get_past, slice_get-map}
use Rattle.std.proofs.lemmas.List.{map-set, length-map, drop-replicate, take-replicate}
use Rattle.std.proofs.lemmas.List.Sums.{sum_by-cons}
use Rattle.std.proofs.lemmas.Bool.Decides.{eqb_tells}
use Rattle.base_lists.specs.Update.{update}
use Rattle.base_lists.specs.Cut.{cut, start_of, count_at, total_of, part_of}
use Rattle.base_lists.proofs.Update.{update-Some, update-None, length-update, slice_get-update, slice_get-update_other}
use Rattle.base_lists.proofs.Cut.{get-part, get-cut, length-cut, length-part, count-inside, cut-update, sum-cut, start-whole}
use Rattle.part_window.proofs.NewTable.{count-of}
use Rattle.part_window.specs.TableState.{SlotState, Vacant, Opened, Committed, TableState, slot_in, place_of}
use Rattle.part_window.specs.TableState.{with_change, number_of, message_number, message_of, is_taken, opened_bytes}
use Rattle.part_window.specs.TableState.{counts_of, new_table}
use Rattle.part_window.specs.TableState.{with_written as slot_written, as_committed as slot_committed, IsOpened as SlotOpened}
use Rattle.part_window.specs.RepliesState.{ReplyState, Unused, RepliesState, slot_at, slot_count}
use Rattle.part_window.specs.RepliesState.{with_slot_changed, with_written, as_committed, has_run, last_number, held_count}
use Rattle.part_window.specs.RepliesState.{IsOpened, opened_bytes as reply_bytes, message_of as reply_message}
use Rattle.part_window.specs.RepliesState.{message_number as reply_number}
use Rattle.part_window.specs.ReplyViews.{reply_of, replies_view, IsReplies}

-- a change of one slot, seen as one of its reply
map-update : (states : List SlotState) (place : ℕ) (change : SlotState → SlotState)
    (reply_change : ReplyState → ReplyState)
    → ((state : SlotState) → reply_of (change state) ≡ reply_change (reply_of state))
    → map reply_of (update states place change) ≡ update (map reply_of states) place reply_change
map-update states place change reply_change same = elim ((slice_get_cases states place).1) [
  | inl known ↦
      ap (map reply_of) (update-Some states place change known.0 known.2)
      ∙ (map-set reply_of states place (change known.0)
      ∙ (ap (slice_set (map reply_of states) place) (same known.0)
      ∙ sym (update-Some (map reply_of states) place reply_change (reply_of known.0)
      (slice_get-map reply_of states place ∙ ap (option_map reply_of) known.2))))
  | inr known ↦
      ap (map reply_of) (update-None states place change known.1)
      ∙ sym (update-None (map reply_of states) place reply_change (slice_get-map reply_of states place
      ∙ ap (option_map reply_of) known.1))
]

pub changed-is : (table : TableState) (node slot : ℕ) (change : SlotState → SlotState)
    (reply_change : ReplyState → ReplyState)
    → ((state : SlotState) → reply_of (change state) ≡ reply_change (reply_of state))
    → slot < count_at table.counts node
    → replies_view (with_change table node slot change) ≡ with_slot_changed (replies_view table) node slot reply_change
changed-is table node slot change reply_change same inside =
    ap (λ (ps : List (List ReplyState)). record { peers = ps })
    (ap (cut table.counts) (map-update table.slots (place_of table node slot) change reply_change same)
    ∙ cut-update table.counts (map reply_of table.slots) node slot reply_change inside)

pub written-is : (known : List ℕ) (state : SlotState)
    → reply_of (slot_written known state) ≡ with_written known (reply_of state)
written-is known Vacant = refl
written-is known (Opened number time buffer) = refl
written-is known (Committed number time message) = refl

pub as_committed-is : (len : ℕ) (state : SlotState) → reply_of (slot_committed len state) ≡ as_committed len (reply_of state)
as_committed-is len Vacant = refl
as_committed-is len (Opened number time buffer) = refl
as_committed-is len (Committed number time message) = refl

-- a slot of a node
pub slot-is : (table : TableState) (node slot : ℕ) → slot < count_at table.counts node
    → slot_at (replies_view table) node slot ≡ option_map reply_of (slot_in table node slot)
slot-is table node slot inside =
    ap (option_and_then (λ (peer : List ReplyState). slice_get peer slot))
    (get-cut table.counts (map reply_of table.slots) node (count-inside table.counts node slot inside))
    ∙ (get-part table.counts (map reply_of table.slots) node slot inside
    ∙ slice_get-map reply_of table.slots (place_of table node slot))

pub count-is : (table : TableState) (node : ℕ) → total_of table.counts ≡ length table.slots
    → slot_count (replies_view table) node ≡ count_at table.counts node
count-is table node whole = elim ((slice_get_cases table.counts node).1) [
  | inl known ↦
      ap (λ (found : Option (List ReplyState)). elim found as (λ _. ℕ) [ Some peer ↦ length peer | None ↦ 0 ])
      (get-cut table.counts (map reply_of table.slots) node known.1)
      ∙ length-part table.counts (map reply_of table.slots) node (omega (arith, length-map table.slots reply_of, whole))
  | inr known ↦
      ap (λ (found : Option (List ReplyState)). elim found as (λ _. ℕ) [ Some peer ↦ length peer | None ↦ 0 ])
      (slice_get_past (cut table.counts (map reply_of table.slots)) node
      (omega (arith, known.0, length-cut table.counts (map reply_of table.slots))))
      ∙ sym (ap (λ (found : Option ℕ). elim found as (λ _. ℕ) [ Some count ↦ count | None ↦ 0 ]) known.1)
]

pub in-range : (table : TableState) (seen : RepliesState) (node slot : ℕ) → replies_view table ≡ seen → IsReplies table
    → slot < slot_count seen node → slot < count_at table.counts node
in-range table seen node slot view kept inside =
    omega (arith, count-is table node kept.whole, ap (λ (view_of : RepliesState). slot_count view_of node) view, inside)

-- the last number of a slot
pub last-is : (state : SlotState) → last_number (reply_of state) ≡ unwrap_or (number_of state) 0
last-is Vacant = refl
last-is (Opened number time buffer) = refl
last-is (Committed number time message) = refl

pub message-is : (state : SlotState) → reply_message (reply_of state) ≡ message_of state
message-is Vacant = refl
message-is (Opened number time buffer) = refl
message-is (Committed number time message) = refl

pub message_number-is : (state : SlotState) → reply_number (reply_of state) ≡ message_number state
message_number-is Vacant = refl
message_number-is (Opened number time buffer) = refl
message_number-is (Committed number time message) = refl

pub bytes-is : (state : SlotState) → reply_bytes (reply_of state) ≡ opened_bytes state
bytes-is Vacant = refl
bytes-is (Opened number time buffer) = refl
bytes-is (Committed number time message) = refl

pub opened-is : (state : SlotState) → IsOpened (reply_of state) → SlotOpened state
opened-is Vacant kept = kept
opened-is (Opened number time buffer) kept = kept
opened-is (Committed number time message) kept = kept

-- a slot whose number is not 0 ran a request exactly where it is taken
run-is : (state : SlotState) → ((n : ℕ) → number_of state ≡ Some n → n ≢ 0) → has_run (reply_of state) ≡ is_taken state
run-is Vacant kept = refl
run-is (Opened number time buffer) kept =
    elim (eqb_tells number 0) [ inl known ↦ absurd (kept number refl known.1) | inr known ↦ ap not known.0 ]
run-is (Committed number time message) kept =
    elim (eqb_tells number 0) [ inl known ↦ absurd (kept number refl known.1) | inr known ↦ ap not known.0 ]

runs : (states : List SlotState)
    → ((place number : ℕ) (state : SlotState) → slice_get states place ≡ Some state → number_of state ≡ Some number
    → number ≢ 0) → count_by has_run (map reply_of states) ≡ count_by is_taken states
runs [] kept = refl
runs (item ∷ states) kept =
    omega (
      arith,
      sum_by-cons (λ state. cond (has_run state) 1 0) (reply_of item) (map reply_of states),
      sum_by-cons (λ state. cond (is_taken state) 1 0) item states,
      ap {B = ℕ} (λ (b : Bool). cond b 1 0)
          (run-is item (λ number is. kept 0 number item refl is)),
      runs states
          (λ place number state at is. kept (suc place) number state at is),
    )

pub held-is : (table : TableState) → IsReplies table → held_count (replies_view table) ≡ count_by is_taken table.slots
held-is table kept =
    sum-cut (λ state. cond (has_run state) 1 0) table.counts (map reply_of table.slots)
    (kept.whole ∙ sym (length-map table.slots reply_of)) ∙ runs table.slots kept.numbered

-- numbers stay above 0 where one slot changes
pub replies-after : (table : TableState) (node slot : ℕ) (state : SlotState) (change : SlotState → SlotState)
    → IsReplies table → slot_in table node slot ≡ Some state → ((n : ℕ) → number_of (change state) ≡ Some n → n ≢ 0)
    → IsReplies (with_change table node slot change)
replies-after table node slot state change kept at new = record {
  whole = kept.whole ∙ sym (length-update table.slots (place_of table node slot) change);
  numbered = λ place n item is number. elim (eqb_tells place (place_of table node slot)) [
    | inl known ↦
        let found : slice_get (update table.slots (place_of table node slot) change)
        (place_of table node slot) ≡ Some item =
        ap (slice_get (update table.slots (place_of table node slot) change)) (sym known.1) ∙ is in
        let set : slice_get (update table.slots (place_of table node slot) change) (place_of table node slot) ≡ Some
        (change state) =
        slice_get-update table.slots (place_of table node slot) change ∙ ap (option_map change) at in
        let mine : change state ≡ item = cc in
        new n (ap number_of mine ∙ number)
    | inr known ↦
        kept.numbered place n item
        (sym (slice_get-update_other table.slots (place_of table node slot) change place known.1) ∙ is) number
  ];
}

pub number-written : (known : List ℕ) (state : SlotState) → number_of (slot_written known state) ≡ number_of state
number-written known Vacant = refl
number-written known (Opened number time buffer) = refl
number-written known (Committed number time message) = refl

pub number-as_committed : (len : ℕ) (state : SlotState) → number_of (slot_committed len state) ≡ number_of state
number-as_committed len Vacant = refl
number-as_committed len (Opened number time buffer) = refl
number-as_committed len (Committed number time message) = refl

-- a slot of which something is said
pub said-of : (P : ReplyState → Type 0) (found : Option ReplyState) → IsSomeAnd found P
    → (state : ReplyState) × (found ≡ Some state) × P state
said-of P None kept = absurd kept
said-of P (Some state) kept = (state, refl, kept)

pub slot-there : (table : TableState) (node slot : ℕ) (state : ReplyState) → total_of table.counts ≡ length table.slots
    → slot_at (replies_view table) node slot ≡ Some state → slot < count_at table.counts node
slot-there table node slot state whole at = elim ((slice_get_cases table.counts node).1) [
  | inl known ↦
      let here : slice_get (part_of table.counts (map reply_of table.slots) node) slot ≡ Some state =
      sym (ap (option_and_then (λ (peer : List ReplyState). slice_get peer slot))
      (get-cut table.counts (map reply_of table.slots) node known.1)) ∙ at in
      omega (
        arith,
        slice_get_within (part_of table.counts (map reply_of table.slots) node) slot state here,
        length-part table.counts (map reply_of table.slots) node
            (omega (arith, length-map table.slots reply_of, whole)),
      )
  | inr known ↦
      let none : slot_at (replies_view table) node slot ≡ None =
      ap (option_and_then (λ (peer : List ReplyState). slice_get peer slot))
      (slice_get_past (cut table.counts (map reply_of table.slots)) node
      (omega (arith, known.0, length-cut table.counts (map reply_of table.slots)))) in
      absurd cc
]

map-replicate : (number : ℕ) → map reply_of (replicate number Vacant) ≡ replicate number Unused
map-replicate zero = refl
map-replicate (suc number) = ap (λ (rs : List ReplyState). Unused ∷ rs) (map-replicate number)

-- the slots of a node of a new table
pub parts-new : (credits : List ℕ) (me node c : ℕ) → slice_get credits node ≡ Some c
    → slice_get (replies_view (new_table credits me)).peers node ≡ Some (replicate (if node == me then 0 else c) Unused)
parts-new credits me node c at =
    let counts : List ℕ = counts_of credits me in
    let total : ℕ = total_of counts in
    let inside : node < length counts = omega (arith, slice_get_within credits node c at, length-set credits me 0) in
    let count : count_at counts node ≡ (if node == me then 0 else c) =
    ap (λ (found : Option ℕ). elim found as (λ _. ℕ) [ Some slot ↦ slot | None ↦ 0 ])
    (count-of credits me node c at) in
    ap (λ (rs : List ReplyState). slice_get (cut counts rs) node) (map-replicate total)
    ∙ (get-cut counts (replicate total Unused) node inside
    ∙ (ap (λ (rs : List ReplyState). Some (take (count_at counts node) rs))
    (drop-replicate (start_of counts node) total Unused)
    ∙ (ap (λ (rs : List ReplyState). Some rs)
    (take-replicate (count_at counts node) (total - start_of counts node) Unused
    (omega (arith, start-whole counts node)))
    ∙ ap (λ (slot : ℕ). Some (replicate slot Unused)) count)))
