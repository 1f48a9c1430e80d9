-- The value of a requester's slots, by the table under them.
use Rattle.std.proofs.Common.{ℕ, ◌≡◌, ◌≢◌, ◌+◌, ◌<◌, Option, Some, None, Bool, List, [], ◌∷◌, length}
use Rattle.std.proofs.Common.{suc, zero, refl, sym, ap, subst, ◌∙◌, inl, inr, arith, true, cond}
use Rattle.std.specs.Prelude.{slice_get, slice_set, count_by, sum_by, option_and_then, nat_le, IsSomeAnd, IfSome}
use Rattle.std.specs.Option.{option_map}
use Rattle.std.proofs.lemmas.Option.{slice_get_cases, slice_get_within, slice_get_past}
use Rattle.std.proofs.lemmas.List.Sums.{sum_by-cons}
use Rattle.std.proofs.lemmas.List.Quantifiers.{position-Some}
use Rattle.std.proofs.lemmas.Bool.Decides.{eqb_tells}
use Rattle.base_lists.specs.Update.{update}
use Rattle.base_lists.specs.Cut.{cut, count_at, total_of}
use Rattle.base_lists.proofs.Update.{length-update, slice_get-update, slice_get-update_other, update-on}
use Rattle.base_lists.proofs.Cut.{get-part, get-cut, length-cut, length-part, count-inside, cut-update, sum-cut}
use Rattle.part_window.specs.TableState.{TableState, slot_in, slots_of, place_of, with_change, opened_time}
use Rattle.part_window.specs.SlotsState.{SlotState, Vacant, Opened, Committed, is_vacant, is_taken, PeerState, SlotsState}
use Rattle.part_window.specs.SlotsState.{slot_at, slot_count, vacant_count, held_count, is_exhausted}
use Rattle.part_window.specs.SlotsState.{with_slot_changed, with_given, with_written, as_committed, CanClaim}
use Rattle.part_window.specs.CreditViews.{peers_of, credits_view, Matches, IsCredits}
use Rattle.part_window.specs.declared.order.Due.{Due}
use Rattle.part_window.proofs.Vacancy.{vacant}

abbrev pub peer : ℕ → List SlotState → PeerState
peer number slots = record { given = number; slots = slots }

-- a peer of the value
pub peers-get : (given : List ℕ) (parts : List (List SlotState)) (node number : ℕ)
    (slots : List SlotState) → slice_get given node ≡ Some number → slice_get parts node ≡ Some slots → slice_get
    (peers_of given parts) node ≡ Some (record { given = number; slots = slots })
peers-get [] parts node number slots at is = absurd cc
peers-get (item ∷ given) [] node number slots at is = absurd cc
peers-get (item ∷ given) (value ∷ parts) zero number slots at is =
    let same : item ≡ number = cc in
    let same' : value ≡ slots = cc in
    ap (λ (n : ℕ). Some (peer n value)) same ∙ ap (λ (states : List SlotState). Some (peer number states)) same'
peers-get (item ∷ given) (value ∷ parts) (suc node) number slots at is = peers-get given parts node number slots at is

pub length-peers : (given : List ℕ) (parts : List (List SlotState)) → length given ≡ length parts
    → length (peers_of given parts) ≡ length parts
length-peers [] [] same = refl
length-peers [] (value ∷ parts) same = absurd (omega arith)
length-peers (item ∷ given) [] same = refl
length-peers (item ∷ given) (value ∷ parts) same = ap suc (length-peers given parts (omega arith))

-- the slots of one peer change
peers-update : (given : List ℕ) (parts : List (List SlotState)) (node : ℕ)
    (change : List SlotState → List SlotState) → peers_of given (update parts node change) ≡ update
    (peers_of given parts) node (λ peer. record peer { slots = change peer.slots })
peers-update [] parts node change = refl
peers-update (item ∷ given) [] node change = refl
peers-update (item ∷ given) (value ∷ parts) zero change = refl
peers-update (item ∷ given) (value ∷ parts) (suc node) change =
    ap (peers_of (item ∷ given)) (update-on value parts node change)
    ∙ (ap (λ (peers : List PeerState). record { given = item; slots = value } ∷ peers)
    (peers-update given parts node change)
    ∙ sym (update-on {A = PeerState} (record { given = item; slots = value }) (peers_of given parts) node
    (λ peer. record peer { slots = change peer.slots })))

-- and a number is given
peers-given : (given : List ℕ) (parts : List (List SlotState)) (node number : ℕ)
    (change : List SlotState → List SlotState) → peers_of (slice_set given node number)
    (update parts node change) ≡ update (peers_of given parts) node
    (λ peer. record { given = number; slots = change peer.slots })
peers-given [] parts node number change = refl
peers-given (item ∷ given) [] zero number change = refl
peers-given (item ∷ given) [] (suc node) number change = refl
peers-given (item ∷ given) (value ∷ parts) zero number change = refl
peers-given (item ∷ given) (value ∷ parts) (suc node) number change =
    ap (peers_of (item ∷ slice_set given node number)) (update-on value parts node change)
    ∙ (ap (λ (peers : List PeerState). record { given = item; slots = value } ∷ peers)
    (peers-given given parts node number change)
    ∙ sym (update-on {A = PeerState} (record { given = item; slots = value }) (peers_of given parts) node
    (λ peer. record { given = number; slots = change peer.slots })))

peers-sum : (value : SlotState → ℕ) (given : List ℕ) (parts : List (List SlotState)) → length given ≡ length parts
    → sum_by (λ (peer : PeerState). sum_by value peer.slots)
    (peers_of given parts) ≡ sum_by (λ states. sum_by value states) parts
peers-sum value [] [] same = refl
peers-sum value [] (y ∷ parts) same = absurd (omega arith)
peers-sum value (item ∷ given) [] same = refl
peers-sum value (item ∷ given) (y ∷ parts) same =
    omega (
      arith,
      sum_by-cons {X = PeerState} (λ peer. sum_by value peer.slots) (record { given = item; slots = y })
          (peers_of given parts),
      sum_by-cons
          (λ (states : List SlotState). sum_by value states) y parts,
      peers-sum value given parts (omega arith),
    )

-- the nodes
pub nodes-is : (last : ℕ) (given : List ℕ) (table : TableState) → length given ≡ length table.counts
    → length (credits_view last given table).peers ≡ length table.counts
nodes-is last given table same =
    length-peers given (cut table.counts table.slots) (same ∙ sym (length-cut table.counts table.slots))
    ∙ length-cut table.counts table.slots

-- a node that is there
pub peer-is : (last : ℕ) (given : List ℕ) (table : TableState)
    (node number : ℕ) → length given ≡ length table.counts → slice_get given node ≡ Some number → slice_get
    (credits_view last given table).peers node ≡ Some (record { given = number; slots = slots_of table node })
peer-is last given table node number same at =
    peers-get given (cut table.counts table.slots) node number (slots_of table node) at
    (get-cut table.counts table.slots node (omega (arith, slice_get_within given node number at, same)))

given-there : (given : List ℕ) (node : ℕ) → node < length given → (number : ℕ) × (slice_get given node ≡ Some number)
given-there given node inside =
    elim ((slice_get_cases given node).1) [
      | inl known ↦ (
        known.0,
        known.2,
      )
      | inr known ↦ absurd (omega (arith, known.0))
    ]

-- the number of slots of a node
pub count-is : (last : ℕ) (given : List ℕ) (table : TableState) (node : ℕ) → length given ≡ length table.counts
    → total_of table.counts ≡ length table.slots
    → slot_count (credits_view last given table) node ≡ count_at table.counts node
count-is last given table node same whole = elim ((slice_get_cases given node).1) [
  | inl known ↦
      ap (λ (found : Option PeerState). elim found as (λ _. ℕ) [ Some peer ↦ length peer.slots | None ↦ 0 ])
      (peer-is last given table node known.0 same known.2)
      ∙ length-part table.counts table.slots node (omega (arith, whole))
  | inr known ↦
      ap (λ (found : Option PeerState). elim found as (λ _. ℕ) [ Some peer ↦ length peer.slots | None ↦ 0 ])
      (slice_get_past (credits_view last given table).peers node
      (omega (arith, known.0, nodes-is last given table same, same)))
      ∙ sym (ap (λ (found : Option ℕ). elim found as (λ _. ℕ) [ Some count ↦ count | None ↦ 0 ])
      (slice_get_past table.counts node (omega (arith, known.0, same))))
]

-- a slot of a node
pub slot-is : (last : ℕ) (given : List ℕ) (table : TableState) (node slot : ℕ) → length given ≡ length table.counts
    → slot < count_at table.counts node → slot_at (credits_view last given table) node slot ≡ slot_in table node slot
slot-is last given table node slot same inside =
    let number = given-there given node (omega (arith, count-inside table.counts node slot inside, same)) in
    ap (option_and_then (λ (peer : PeerState). slice_get peer.slots slot))
    (peer-is last given table node number.0 same number.1) ∙ get-part table.counts table.slots node slot inside

slot-there : (last : ℕ) (given : List ℕ) (table : TableState) (node slot : ℕ) (state : SlotState)
    → length given ≡ length table.counts → total_of table.counts ≡ length table.slots
    → slot_at (credits_view last given table) node slot ≡ Some state
    → (slot < count_at table.counts node) × (slot_in table node slot ≡ Some state)
slot-there last given table node slot state same whole at = elim ((slice_get_cases given node).1) [
  | inl known ↦
      let here : slice_get (slots_of table node) slot ≡ Some state =
      sym (ap (option_and_then (λ (peer : PeerState). slice_get peer.slots slot))
      (peer-is last given table node known.0 same known.2)) ∙ at in
      let inside : slot < count_at table.counts node =
      omega (
        arith,
        slice_get_within (slots_of table node) slot state here,
        length-part table.counts table.slots node (omega (arith, whole)),
      ) in
      (inside, sym (slot-is last given table node slot same inside) ∙ at)
  | inr known ↦
      let none : slot_at (credits_view last given table) node slot ≡ None =
      ap (option_and_then (λ (peer : PeerState). slice_get peer.slots slot))
      (slice_get_past (credits_view last given table).peers node
      (omega (arith, known.0, nodes-is last given table same, same))) in
      absurd cc
]

-- a change of one slot
pub changed-is : (last : ℕ) (given : List ℕ) (table : TableState) (node slot : ℕ) (change : SlotState → SlotState)
    → slot < count_at table.counts node
    → credits_view last given (with_change table node slot change)
    ≡ with_slot_changed (credits_view last given table) node slot change
changed-is last given table node slot change inside =
    ap (λ (ps : List PeerState). record { last = last; peers = ps })
    (ap (peers_of given) (cut-update table.counts table.slots node slot change inside)
    ∙ peers-update given (cut table.counts table.slots) node (λ peer. update peer slot change))

pub given-is : (last : ℕ) (given : List ℕ) (table : TableState) (node slot number : ℕ) (state : SlotState)
    → slot < count_at table.counts node
    → credits_view last (slice_set given node number)
    (with_change table node slot (λ _. state)) ≡ with_given (credits_view last given table) node slot number state
given-is last given table node slot number state inside =
    ap (λ (ps : List PeerState). record { last = last; peers = ps })
    (ap (peers_of (slice_set given node number)) (cut-update table.counts table.slots node slot (λ _. state) inside)
    ∙ peers-given given (cut table.counts table.slots) node number (λ peer. update peer slot (λ _. state)))

-- counts
pub vacant-is : (last : ℕ) (given : List ℕ) (table : TableState) (node : ℕ) → length given ≡ length table.counts
    → node < length table.counts
    → vacant_count (credits_view last given table) node ≡ count_by is_vacant (slots_of table node)
vacant-is last given table node same inside =
    let number = given-there given node (omega (arith, inside, same)) in
    ap (λ (found : Option PeerState). elim found as (λ _. ℕ) [ Some peer ↦ count_by is_vacant peer.slots | None ↦ 0 ])
    (peer-is last given table node number.0 same number.1)

pub exhausted-is : (last : ℕ) (given : List ℕ) (table : TableState) (node number : ℕ) → length given ≡ length table.counts
    → slice_get given node ≡ Some number → is_exhausted (credits_view last given table) node ≡ nat_le last number
exhausted-is last given table node number same at =
    ap (λ (found : Option PeerState). elim found as (λ _. Bool) [ Some peer ↦ nat_le last peer.given | None ↦ true ])
    (peer-is last given table node number same at)

pub held-is : (last : ℕ) (given : List ℕ) (table : TableState) → length given ≡ length table.counts
    → total_of table.counts ≡ length table.slots
    → held_count (credits_view last given table) ≡ count_by is_taken table.slots
held-is last given table same whole =
    peers-sum (λ state. cond (is_taken state) 1 0) given (cut table.counts table.slots)
    (same ∙ sym (length-cut table.counts table.slots))
    ∙ sum-cut (λ state. cond (is_taken state) 1 0) table.counts table.slots whole

-- what is kept stays in step, where one slot changes with what is listed at its place
pub credits-after : {given : List ℕ} {table : TableState} {order : List (Option Due)} (new_given : List ℕ)
    (new_order : List (Option Due)) (node slot : ℕ) (state : SlotState)
    (change : SlotState → SlotState) → IsCredits given table order
    → length new_given ≡ length given → slot_in table node slot ≡ Some state → length new_order ≡ length order
    → ((place : ℕ) → place ≢ place_of table node slot → slice_get new_order place ≡ slice_get order place)
    → Matches table.counts (place_of table node slot) (change state) (slice_get new_order (place_of table node slot))
    → IsCredits new_given (with_change table node slot change) new_order
credits-after {given = given} {table = table} {order = order} new_given new_order node slot state change kept same at
    long other here = record {
      nodes = same ∙ kept.nodes;
      whole = kept.whole ∙ sym (length-update table.slots (place_of table node slot) change);
      places = omega (arith, long, kept.places, length-update table.slots (place_of table node slot) change);
      matched = λ place item is. elim (eqb_tells place (place_of table node slot)) [
        | inl known ↦
            let found : slice_get (update table.slots (place_of table node slot) change)
            (place_of table node slot) ≡ Some item =
            ap (slice_get (update table.slots (place_of table node slot) change)) (sym known.1) ∙ is in
            let set : slice_get (update table.slots (place_of table node slot) change) (place_of table node slot) ≡ Some
            (change state) =
            slice_get-update table.slots (place_of table node slot) change ∙ ap (option_map change) at in
            let mine : change state ≡ item = cc in
            subst (λ (peer : ℕ). Matches table.counts peer item (slice_get new_order peer)) (sym known.1)
            (subst (λ (value : SlotState). Matches table.counts (place_of table node slot) value
            (slice_get new_order (place_of table node slot))) mine here)
        | inr known ↦
            subst (Matches table.counts place item) (sym (other place known.1))
            (kept.matched place item
            (sym (slice_get-update_other table.slots (place_of table node slot) change place known.1) ∙ is))
      ];
    }

-- the ranges of nodes and slots
pub in-range : {last : ℕ} {given : List ℕ} {table : TableState} {order : List (Option Due)} {seen : SlotsState}
    (node slot : ℕ)
    → IsCredits given table order → credits_view last given table ≡ seen → slot < slot_count seen node
    → slot < count_at table.counts node
in-range {last = last} {given = given} {table = table} node slot kept view inside =
    omega (
      arith,
      count-is last given table node kept.nodes kept.whole,
      ap (λ (view_of : SlotsState). slot_count view_of node) view,
      inside,
    )

pub node-range : {last : ℕ} {given : List ℕ} {table : TableState} {order : List (Option Due)} {seen : SlotsState}
    (node : ℕ)
    → IsCredits given table order → credits_view last given table ≡ seen → node < length seen.peers
    → node < length table.counts
node-range {last = last} {given = given} {table = table} node kept view inside =
    omega (
      arith,
      nodes-is last given table kept.nodes,
      ap (λ (view_of : SlotsState). length view_of.peers) view,
      inside,
    )

-- a slot in range, as it is seen
pub slot-seen : {last : ℕ} {given : List ℕ} {table : TableState} {order : List (Option Due)} {seen : SlotsState}
    (node slot : ℕ)
    → IsCredits given table order → credits_view last given table ≡ seen → slot < slot_count seen node
    → slot_at seen node slot ≡ slot_in table node slot
slot-seen {last = last} {given = given} {table = table} node slot kept view inside =
    ap (λ (view_of : SlotsState). slot_at view_of node slot) (sym view)
    ∙ slot-is last given table node slot kept.nodes (in-range node slot kept view inside)

-- a slot that is seen is there
pub seen-there : {last : ℕ} {given : List ℕ} {table : TableState} {order : List (Option Due)} {seen : SlotsState}
    (node slot : ℕ)
    (state : SlotState) → IsCredits given table order → credits_view last given table ≡ seen → slot_at seen node slot ≡
    Some state
    → (slot < count_at table.counts node) × (slot_in table node slot ≡ Some state)
seen-there {last = last} {given = given} {table = table} node slot state kept view at =
    slot-there last given table node slot state kept.nodes kept.whole
    (ap (λ (view_of : SlotsState). slot_at view_of node slot) view ∙ at)

-- a slot of which something is said
pub said-of : (P : SlotState → Type 0) (found : Option SlotState) → IsSomeAnd found P
    → (state : SlotState) × (found ≡ Some state) × P state
said-of P None kept = absurd kept
said-of P (Some state) kept = (state, refl, kept)

-- writing into a buffer, and committing a slot that is not opened, change nothing that is listed
pub matches-written : (counts : List ℕ) (place : ℕ) (state : SlotState) (known : List ℕ) (found : Option (Option Due))
    → Matches counts place state found → Matches counts place (with_written known state) found
matches-written counts place Vacant known found kept = kept
matches-written counts place (Opened number time buffer) known found kept = kept
matches-written counts place (Committed number time message) known found kept = kept

pub next-vacant : (seen : SlotsState) (to slot number : ℕ) → to < length seen.peers
    → IfSome (slice_get seen.peers to) (λ peer. CanClaim peer seen.last slot × (number ≡ peer.given + 1))
    → slot_at seen to slot ≡ Some Vacant
next-vacant seen to slot number inside kept = elim ((slice_get_cases seen.peers to).1) [
  | inl known ↦
      let at : CanClaim known.0 seen.last slot × (number ≡ known.0.given + 1) =
      subst (λ (found : Option PeerState). IfSome found
      (λ peer. CanClaim peer seen.last slot × (number ≡ peer.given + 1))) known.2 kept in
      ap (option_and_then (λ (peer : PeerState). slice_get peer.slots slot)) known.2
      ∙ elim ((slice_get_cases known.0.slots slot).1) [
        | inl item ↦
            item.2
            ∙ ap (λ (state : SlotState). Some state) (vacant item.0 (sym (ap is_vacant item.3)
            ∙ (position-Some is_vacant known.0.slots slot item.0 at.0.lowest).1))
        | inr item ↦ absurd (omega (arith, item.0, at.0.in_range))
      ]
  | inr known ↦ absurd (omega (arith, known.0, inside))
]

-- a slot with the time of an opened one is opened
pub time-opened : (found : Option SlotState) (time : ℕ) → option_and_then opened_time found ≡ Some time
    → (number : ℕ) × (buffer : List ℕ) × (found ≡ Some (Opened number time buffer))
time-opened None time e = absurd cc
time-opened (Some Vacant) time e = absurd cc
time-opened (Some (Opened number sent buffer)) time e =
    let same : sent ≡ time = cc in (number, buffer, ap (λ (n : ℕ). Some (Opened number n buffer)) same)
time-opened (Some (Committed number sent message)) time e = absurd cc

-- committing another slot changes nothing
pub not-as_committed : (state : SlotState) (len : ℕ) → ((time : ℕ) → opened_time state ≡ Some time → ⊥)
    → as_committed len state ≡ state
not-as_committed Vacant len never = refl
not-as_committed (Opened number time buffer) len never = absurd (never time refl)
not-as_committed (Committed number time message) len never = refl
