-- Table, places and bodies stay in step as handlers are registered.
use Rattle.std.proofs.Common.{◌≡◌, ◌≢◌, ℕ, ◌+◌, ◌-◌, ◌<◌, ◌≤◌, ◌^◌, ◌==◌, nat_lt, Bool, true, false, not, List, [], ◌∷◌}
use Rattle.std.proofs.Common.{◌++◌, length, get_or, Option, Some, None, Result, Ok, Err, refl, sym, ap, ◌∙◌, subst, inl}
use Rattle.std.proofs.Common.{inr, arith, if◌then◌else◌, is_none, get_or-set_same, get_or-set_other, length-set, take}
use Rattle.std.proofs.Common.{cond}
use Rattle.std.proofs.Math.Path.{Path}
use Rattle.std.specs.Prelude.{slice_get, slice_set, position, replicate}
use Rattle.std.specs.List.{filter, fold}
use Rattle.std.proofs.Math.Bool.{beq}
use Rattle.std.proofs.lemmas.List.{get_or-replicate}
use Rattle.std.proofs.lemmas.List.Elements.{filter_more}
use Rattle.std.proofs.lemmas.List.Sums.{fold-append}
use Rattle.std.specs.Option.{option_and_then, option_map, option_or, unwrap_or}
use Rattle.std.proofs.lemmas.Bool.{cases_Bool, cases_eq, le-ltb, ltb-false, ne_eqb}
use Rattle.std.proofs.lemmas.Bool.Decides.{nat_tests}
use Rattle.std.proofs.lemmas.Option.{unwrap_or-slice_get, slice_get_read}
use Rattle.std.proofs.lemmas.List.Quantifiers.{position-Some}
use Rattle.part_handlers.specs.declared.table.Entry.{Entry}
use Rattle.part_handlers.specs.declared.table.EntryFault.{EntryFault}
use Rattle.part_handlers.specs.declared.table.EntryFault.TheVariants.{Reserved}
use Rattle.part_handlers.specs.Registered.{no_entries, entry_at, index_for, lowest_free, registering, unless_taken}
use Rattle.text_steps.specs.declared.steps.Action.{Action}
use Rattle.text_job.specs.declared.job.HandlerText.{HandlerText}
use Rattle.text_script.specs.Registration.{JobHandlers, Registry, body_among, entries_first, entry_of, register}
use Rattle.text_script.specs.Registration.{registry_of, registered_first, with_index}
use Rattle.text_script.specs.Places.{AreBodies, ArePlaced, AtRegistering, Placing, body_at, found_body, is_in_turn}
use Rattle.text_script.specs.Places.{place_at, register_turn}
use Rattle.base_lists.proofs.Cases.{option_or_none}

-- ---- one of 128, by its index from 128 up

-- what stands for the index
abbrev at_index : {A : Type 0} → List (Option A) → ℕ → Option A
at_index xs index = if nat_lt index 128 then None else option_and_then (λ x. x) (slice_get xs (index - 128))

-- a value that may be missing twice, once
joined : {A : Type 0} (o : Option (Option A)) → option_and_then (λ x. x) o ≡ unwrap_or o None
joined None = refl
joined (Some x) = refl

-- from 128 up it is an element of the list
at_index-is : {A : Type 0} (xs : List (Option A)) (index : ℕ) → 128 ≤ index
    → at_index xs index ≡ get_or xs (index - 128) None
at_index-is xs index high =
    rw (le-ltb index 128 high) (joined (slice_get xs (index - 128)) ∙ unwrap_or-slice_get xs (index - 128) None)

-- a new value stands for its index
at_index-set_same : {A : Type 0} (xs : List (Option A)) (index : ℕ) (x : Option A) → length xs ≡ 128 → 128 ≤ index
    → index < 2 ^ 8 → at_index (slice_set xs (index - 128) x) index ≡ x
at_index-set_same xs index x long high low =
    at_index-is (slice_set xs (index - 128) x) index high
    ∙ get_or-set_same xs (index - 128) x None (omega (arith, long, high, low))

-- another index keeps what stood for it
pub at_index-set_other : {A : Type 0} (xs : List (Option A)) (index other : ℕ) (x : Option A) → 128 ≤ index → other ≢ index
    → at_index (slice_set xs (index - 128) x) other ≡ at_index xs other
at_index-set_other xs index other x high ne = elim (cases_Bool (nat_lt other 128)) [
  | inl low ↦ rw low refl
  | inr up ↦
      let above : 128 ≤ other = ltb-false other 128 up in
      let differ : other - 128 ≢ index - 128 = λ e. ne (omega (arith, e, above, high)) in
      at_index-is (slice_set xs (index - 128) x) other above
      ∙ (get_or-set_other xs (index - 128) (other - 128) x None differ ∙ sym (at_index-is xs other above))
]

-- ---- the index that a handler gets is a client's, and was free

-- what is told of an index that is given
pub record IsFree (table : List (Option Entry)) (index : ℕ) : Type 0 where
  pub high : 128 ≤ index
  pub free : is_none (entry_at table index) ≡ true

-- the index of a place without an entry is free
free_at : (table : List (Option Entry)) (index place : ℕ) → 128 + place ≡ index → position is_none table ≡ Some place
    → IsFree table index
free_at table index place is e =
    let high : 128 ≤ index = omega (arith, is) in
    let same : index - 128 ≡ place = omega (arith, is) in
    record {
      high = high;
      free = ap is_none (at_index-is table index high ∙ ap (λ (k : ℕ). get_or table k None) same)
          ∙ (position-Some is_none table place None e).1;
    }

-- two answers are one where they are equal
same_Ok : (a b : ℕ) → Path (Result ℕ EntryFault) (Ok a) (Ok b) → a ≡ b
same_Ok a b h = cc

-- the lowest free index is free
free_lowest : (table : List (Option Entry)) (index : ℕ) (o : Option ℕ) → position is_none table ≡ o
    → lowest_free o ≡ Ok index → IsFree table index
free_lowest table index None e got = cc
free_lowest table index (Some place) e got = free_at table index place (same_Ok (128 + place) index got) e

-- an index of its own that wasn't taken is free
free_asked : (table : List (Option Entry)) (index asked : ℕ) (o : Option Entry) → 128 ≤ asked → entry_at table asked ≡ o
    → unless_taken asked o ≡ Ok index → IsFree table index
free_asked table index asked (Some e) high at got = cc
free_asked table index asked None high at got =
    let same : asked ≡ index = cc in
    subst (IsFree table) same (record { high = high; free = ap is_none at })

-- so is either, by the two tests of the index that was asked for
free_from : (table : List (Option Entry)) (index asked : ℕ) (any low : Bool) → (low ≡ false → 128 ≤ asked) →
    (if any then lowest_free (position is_none table)
    else (if low then Err Reserved else unless_taken asked (entry_at table asked))) ≡ Ok index → IsFree table index
free_from table index asked true low high got = free_lowest table index (position is_none table) refl got
free_from table index asked false true high got = cc
free_from table index asked false false high got =
    free_asked table index asked (entry_at table asked) (high refl) refl got

-- an index that a handler gets is free
pub given_free : (table : List (Option Entry)) (asked index : ℕ) → index_for table asked ≡ Ok index → IsFree table index
given_free table asked index e = free_from table index asked (asked == 0) (nat_lt asked 128) (ltb-false asked 128) e

-- ---- bodies with one more behind them

-- a first choice goes before two others
or_if : {A : Type 0} (b : Bool) (x : A) (o rest : Option A)
    → (if b then Some x else option_or o rest) ≡ option_or (if b then Some x else o) rest
or_if true x o rest = refl
or_if false x o rest = refl

-- what is found in two lists is found in the first, or else in the second
found_body-append : (bs cs : List (ℕ × List Action)) (index : ℕ)
    → found_body (bs ++ cs) index ≡ option_or (found_body bs index) (found_body cs index)
found_body-append [] cs index = refl
found_body-append (b ∷ bs) cs index =
    ap (λ (o : Option (List Action)). if b.0 == index then Some b.1 else o) (found_body-append bs cs index)
    ∙ or_if (b.0 == index) b.1 (found_body bs index) (found_body cs index)

-- another index has the body that it had
found_other : (bs : List (ℕ × List Action)) (index other : ℕ) (body : List Action) → other ≢ index
    → found_body (bs ++ (index, body) ∷ []) other ≡ found_body bs other
found_other bs index other body ne =
    let test : (index == other) ≡ false = ne_eqb index other (λ e. ne (sym e)) in
    let none : found_body ((index, body) ∷ []) other ≡ None = rw test refl in
    found_body-append bs ((index, body) ∷ []) other
    ∙ (ap (option_or (found_body bs other)) none ∙ option_or_none (found_body bs other))

-- an index that had none has the new body
found_new : (bs : List (ℕ × List Action)) (index : ℕ) (body : List Action) → found_body bs index ≡ None
    → found_body (bs ++ (index, body) ∷ []) index ≡ Some body
found_new bs index body e =
    let test : (index == index) ≡ true = grind (arith, nat_tests) in
    let some : found_body ((index, body) ∷ []) index ≡ Some body = rw test refl in
    found_body-append bs ((index, body) ∷ []) index
    ∙ (ap (λ (o : Option (List Action)). option_or o (found_body ((index, body) ∷ []) index)) e ∙ some)

-- ---- a registration

-- the body of the handler at a place
body_there : (texts : List HandlerText) (place : ℕ) (h : HandlerText) → slice_get texts place ≡ Some h
    → body_at texts (Some place) ≡ h.body
body_there texts place h e = rw e refl

-- a handler that got this index has its place there
with_place : (texts : List HandlerText) (r : Registry) (h : HandlerText) (place index : ℕ) (table : List (Option Entry))
    (places : List (Option ℕ)) →
    slice_get texts place ≡ Some h → ArePlaced texts r table places → IsFree table index → index < 2 ^ 8 →
    ArePlaced texts (with_index r h (Ok index)) (registering table (entry_of h) (Ok index))
    (slice_set places (index - 128) (Some place))
with_place texts r h place index table places at P F low =
    let none : place_at places index ≡ None = P.known index low F.free in
    let unfound : found_body r.bodies index ≡ None =
    P.found index low ∙ ap (option_map (λ p. body_at texts (Some p))) none in
    record {
      table_is = ap (λ (t : List (Option Entry)). registering t (entry_of h) (Ok index)) P.table_is;
      long = length-set places (index - 128) (Some place) ∙ P.long;
      rows = length-set table (index - 128) (Some (record (entry_of h) { index = index })) ∙ P.rows;
      found = λ j fits. elim (cases_eq j index) [
        | inl same ↦
            subst (λ (k : ℕ). found_body (r.bodies ++ (index, h.body) ∷ []) k
            ≡ option_map (λ p. body_at texts (Some p)) (place_at (slice_set places (index - 128) (Some place)) k))
            (sym same)
            (found_new r.bodies index h.body unfound
            ∙ sym (ap (option_map (λ p. body_at texts (Some p)))
            (at_index-set_same places index (Some place) P.long F.high low)
            ∙ ap (λ (b : List Action). Some b) (body_there texts place h at)))
        | inr ne ↦ found_other r.bodies index j h.body ne
            ∙ (P.found j fits
            ∙ sym (ap (option_map (λ p. body_at texts (Some p)))
            (at_index-set_other places index j (Some place) F.high ne)))
      ];
      known = λ j fits e. elim (cases_eq j index) [
        | inl same ↦
            absurd (taken
            (subst (λ (k : ℕ). is_none (entry_at (registering table (entry_of h) (Ok index)) k) ≡ true) same e))
        | inr ne ↦ at_index-set_other places index j (Some place) F.high ne
            ∙ P.known j fits
            (sym (ap is_none
            (at_index-set_other table index j (Some (record (entry_of h) { index = index })) F.high ne)) ∙ e)
      ];
    }
  where
    taken : is_none (entry_at (registering table (entry_of h) (Ok index)) index) ≡ true → ⊥
    taken e = let some : is_none (entry_at (registering table (entry_of h) (Ok index)) index)
        ≡ false = ap is_none
        (at_index-set_same table index (Some (record (entry_of h) { index = index })) P.rows F.high low) in
        let both = sym e ∙ some in cc

-- a handler that got an index
pub placed_Ok : (texts : List HandlerText) (r : Registry) (h : HandlerText) (place index : ℕ)
    (table : List (Option Entry)) (places : List (Option ℕ)) →
    slice_get texts place ≡ Some h → ArePlaced texts r table places → index_for table h.index ≡ Ok index → index < 2 ^ 8
    →
    ArePlaced texts (register r h) (registering table (entry_of h) (Ok index))
    (slice_set places (index - 128) (Some place))
placed_Ok texts r h place index table places at P e low =
    let got : index_for r.table h.index ≡ Ok index =
    sym (ap (λ (t : List (Option Entry)). index_for t h.index) P.table_is) ∙ e in
    subst (λ (s : Registry).
    ArePlaced texts s (registering table (entry_of h) (Ok index)) (slice_set places (index - 128) (Some place)))
    (sym (ap (with_index r h) got))
    (with_place texts r h place index table places at P (given_free table h.index index e) low)

-- ---- a turn

-- the test that the code makes
pub turn_test : (any : Bool) (h : HandlerText) → beq (h.index == 0) any ≡ is_in_turn any h
turn_test true h = same (h.index == 0)
  where
    same : (zero : Bool) → beq zero true ≡ zero
    same true = refl
    same false = refl
turn_test false h = other (h.index == 0)
  where
    other : (zero : Bool) → beq zero false ≡ not zero
    other true = refl
    other false = refl

-- one more text, of this turn
turn_with : (any : Bool) (texts : List HandlerText) (i : ℕ) (h : HandlerText) (r : Registry) → i < length texts
    → h ≡ get_or texts i h → is_in_turn any h ≡ true →
    register_turn any (take (i + 1) texts) r ≡ register (register_turn any (take i texts) r) h
turn_with any texts i h r lt e test =
    let one : cond (is_in_turn any h) (h ∷ []) [] ≡ h ∷ [] = rw test refl in
    ap (fold register r)
    (filter_more (is_in_turn any) texts i h lt
    ∙ ap (λ (o : List HandlerText). filter (is_in_turn any) (take i texts) ++ o)
    (ap (λ (x : HandlerText). cond (is_in_turn any x) (x ∷ []) []) (sym e) ∙ one))
    ∙ fold-append register r (filter (is_in_turn any) (take i texts)) (h ∷ [])

-- one more text, of the other turn
turn_without : (any : Bool) (texts : List HandlerText) (i : ℕ) (h : HandlerText) (r : Registry) → i < length texts
    → h ≡ get_or texts i h → is_in_turn any h ≡ false →
    register_turn any (take (i + 1) texts) r ≡ register_turn any (take i texts) r
turn_without any texts i h r lt e test =
    let none : cond (is_in_turn any h) (h ∷ []) [] ≡ [] = rw test refl in
    ap (fold register r)
    (filter_more (is_in_turn any) texts i h lt
    ∙ ap (λ (o : List HandlerText). filter (is_in_turn any) (take i texts) ++ o)
    (ap (λ (x : HandlerText). cond (is_in_turn any x) (x ∷ []) []) (sym e) ∙ none))
    ∙ fold-append register r (filter (is_in_turn any) (take i texts)) []

-- the turn goes on with a text that was registered
pub goes_with : (any : Bool) (texts : List HandlerText) (i : ℕ) (h : HandlerText)
    (first so_far next : Placing) →
    i < length texts → h ≡ get_or texts i h → is_in_turn any h ≡ true →
    AtRegistering texts (register_turn any (take i texts)) first so_far →
    ((all : List HandlerText) → slice_get all i ≡ Some h → AtRegistering all (λ r. register r h) so_far next) →
    AtRegistering texts (register_turn any (take (i + 1) texts)) first next
goes_with any texts i h first so_far next lt e test before one r P =
    subst (λ (s : Registry). ArePlaced texts s next.table next.places) (sym (turn_with any texts i h r lt e test))
    (one texts (slice_get_read texts (length texts) i h refl lt e) (register_turn any (take i texts) r) (before r P))

-- the turn goes on past a text of the other one
pub goes_without : (any : Bool) (texts : List HandlerText) (i : ℕ) (h : HandlerText) (first so_far : Placing) →
    i < length texts → h ≡ get_or texts i h → is_in_turn any h ≡ false →
    AtRegistering texts (register_turn any (take i texts)) first so_far →
    AtRegistering texts (register_turn any (take (i + 1) texts)) first so_far
goes_without any texts i h first so_far lt e test before r P =
    subst (λ (s : Registry). ArePlaced texts s so_far.table so_far.places)
    (sym (turn_without any texts i h r lt e test))
    (before r P)

-- ---- bodies by their places

-- the body that was found; none, which does nothing
abbrev body_or : Option (List Action) → List Action
body_or None = []
body_or (Some body) = body

-- the body by a test
or_body : (b : Bool) (body : List Action) (o : Option (List Action))
    → body_or (if b then Some body else o) ≡ (if b then body else body_or o)
or_body true body o = refl
or_body false body o = refl

-- the body is the one that is found
among_found : (bs : List (ℕ × List Action)) (index : ℕ) → body_among bs index ≡ body_or (found_body bs index)
among_found [] index = refl
among_found (b ∷ bs) index =
    ap (λ (x : List Action). if b.0 == index then b.1 else x) (among_found bs index)
    ∙ sym (or_body (b.0 == index) b.1 (found_body bs index))

-- the body of what has a place is that of the place
placed_body : (texts : List HandlerText) (o : Option ℕ)
    → body_or (option_map (λ p. body_at texts (Some p)) o) ≡ body_at texts o
placed_body texts None = refl
placed_body texts (Some place) = refl

-- what is placed by the registry of all are the bodies
pub bodies_placed : (handlers : JobHandlers) (table : List (Option Entry)) (places : List (Option ℕ))
    → ArePlaced handlers.texts (registry_of handlers) table places → AreBodies handlers places
bodies_placed handlers table places P = record {
  long = P.long;
  each = λ index low.
      sym (among_found (registry_of handlers).bodies index
      ∙ (ap body_or (P.found index low) ∙ placed_body handlers.texts (place_at places index)));
}

-- the table has 128 rows at first
rows_first : (atomics collect : Bool) → length (entries_first atomics collect) ≡ 128
rows_first false false = refl
rows_first false true = refl
rows_first true false = refl
rows_first true true = refl

-- none of the job's own is placed at first
pub none_placed : (atomics collect : Bool) (texts : List HandlerText)
    → ArePlaced texts (registered_first atomics collect) (entries_first atomics collect) (replicate 128 None)
none_placed atomics collect texts = record {
  table_is = refl;
  long = refl;
  rows = rows_first atomics collect;
  found = λ index low. sym (ap (option_map (λ p. body_at texts (Some p))) (nothing index low));
  known = λ index low e. nothing index low;
}
  where
    nothing : (index : ℕ) → index < 2 ^ 8 → place_at (replicate 128 None) index ≡ None
    nothing index low = elim (cases_Bool (nat_lt index 128)) [
      | inl down ↦ rw down refl
      | inr up ↦ at_index-is (replicate 128 None) index (ltb-false index 128 up)
          ∙ get_or-replicate 128 (index - 128) None None (omega (arith, ltb-false index 128 up, low))
    ]

-- both turns, one after the other, are all
pub both_turns : (atomics collect : Bool) (texts : List HandlerText) (first second third : Placing) →
    AtRegistering texts (register_turn false texts) first second
    → AtRegistering texts (register_turn true texts) second third →
    first.table ≡ entries_first atomics collect → first.places ≡ replicate 128 None
    → ArePlaced texts (registry_of (record { atomics = atomics; collect = collect; texts = texts })) third.table
    third.places
both_turns atomics collect texts first second third one two table_is places_are =
    let none = registered_first atomics collect in
    let start : ArePlaced texts none first.table first.places =
    subst (λ (t : List (Option Entry)). ArePlaced texts none t first.places) (sym table_is)
    (subst (λ (p : List (Option ℕ)). ArePlaced texts none (entries_first atomics collect) p) (sym places_are)
    (none_placed atomics collect texts)) in
    subst (λ (s : Registry). ArePlaced texts s third.table third.places)
    (sym (fold-append register none (filter (is_in_turn false) texts) (filter (is_in_turn true) texts)))
    (two (register_turn false texts none) (one none start))
