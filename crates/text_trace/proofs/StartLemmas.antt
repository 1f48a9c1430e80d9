-- Places and marks as a merge begins.
use Rattle.std.proofs.Common.{◌≡◌, ℕ, zero, suc, ◌<◌, Bool, true, false, List, [], ◌∷◌, ◌++◌, Some, refl, sym, ap}
use Rattle.std.proofs.Common.{subst, ◌∙◌, ◌⊎◌, inl, inr, IsSome, IsSomeAnd, length, get_or, replicate, slice_get, Vec}
use Rattle.std.proofs.Common.{arith}
use Rattle.std.specs.Option.{option_map_or, option_and_then}
use Rattle.std.specs.Global.{Global}
use Rattle.std.proofs.lemmas.Bool.{cases_lt, both_ways}
use Rattle.std.proofs.lemmas.Option.{same_Some, slice_get_within, slice_get-get_or, get_or_from_slice_get}
use Rattle.std.proofs.lemmas.Option.{slice_get_cases, option_and_then_some}
use Rattle.std.proofs.lemmas.List.{length-replicate, get_or-replicate, get_or_past}
use Rattle.base_turns.specs.declared.entry.Entry.{Entry}
use Rattle.text_trace.specs.declared.trace.Trace.{Trace}
use Rattle.text_trace.specs.Merged.{nodes_of}
use Rattle.text_trace.specs.Noted.{PlaceMap, PlaceMaps, MarkLists, place_in, AreFound, ArePlaces, spot, mark, IsNoted}
use Rattle.text_trace.specs.Noted.{Fit, GotNoted, AreAtNoted, HavePlaces, AreUnmarked}
use Rattle.text_trace.proofs.PrefixLemmas.{some_from, some_at, some_then}
use Rattle.text_trace.proofs.NodeLemmas.{node_parts}
use Rattle.text_trace.proofs.Walking.{IsGot}

pub slice_get_push : {A : Type 0} (xs : List A) (y z : A) (n : ℕ) → slice_get (xs ++ y ∷ []) n ≡ Some z
    → (slice_get xs n ≡ Some z) ⊎ ((n ≡ length xs) × (y ≡ z))
slice_get_push [] y z zero e = inr (refl, same_Some y z e)
slice_get_push [] y z (suc n) e = cc
slice_get_push (x ∷ xs) y z zero e = inl e
slice_get_push (x ∷ xs) y z (suc n) e = elim (slice_get_push xs y z n e) [
  | inl h ↦ inl h
  | inr h ↦ inr (ap suc h.0, h.1)
]

pub places_push : (ps : PlaceMaps) (p : PlaceMap) (ts : List Trace) (i : ℕ) (t : Trace) (es : List Entry) → length ps
    ≡ i → i < length ts → t ≡ get_or ts i t → es ≡ t.entries → AreFound p es → ArePlaces p es → HavePlaces ps ts
    → HavePlaces (ps ++ p ∷ []) ts
places_push ps p ts i t es l in' at same found places each n q e = elim (slice_get_push ps p q n e) [
  | inl h ↦ each n q h
  | inr h ↦
      let t_at : slice_get ts n ≡ Some t = ap (slice_get ts) (h.0 ∙ l) ∙ slice_get-get_or ts i t in'
      ∙ ap Some (sym at) in
      subst (λ (m : PlaceMap). IsSomeAnd (slice_get ts n) (λ t'. AreFound m t'.entries × ArePlaces m t'.entries)) h.1
      (some_at (slice_get ts n) (λ t'. AreFound p t'.entries × ArePlaces p t'.entries) t t_at
      (subst (AreFound p) same found, subst (ArePlaces p) same places))
]

-- a spot is a place in the map of a node
pub record Spot (ps : PlaceMaps) (ts : List Trace) (n i : ℕ) (b : List ℕ) : Type 0 where
  pub trace : Trace
  pub at : slice_get ts n ≡ Some trace
  pub entry : IsSomeAnd (slice_get trace.entries i) (λ e. e.got ≡ Some b)

spot_parts : (ps : PlaceMaps) (ts : List Trace) (n i : ℕ) (b : List ℕ) → HavePlaces ps ts → spot ps n b ≡ Some i
    → Spot ps ts n i b
spot_parts ps ts n i b each e = option_and_then_some (λ p. place_in p b) (slice_get ps n) i e (λ p at here.
    let t = some_from (slice_get ts n) (λ t'. AreFound p t'.entries × ArePlaces p t'.entries) (each n p at) in
    record { trace = t.0; at = t.1; entry = t.2.1 b i here })

mark_false : (v : List Bool) (k i : ℕ) → v ≡ replicate k false → get_or v i false ≡ false
mark_false v k i e = ap (λ xs. get_or xs i false) e ∙ elim (cases_lt i k) [
  | inl l ↦ get_or-replicate k i false false l
  | inr l ↦ get_or_past (replicate k false) i false (let s = length-replicate k false in omega arith)
]

mark_none : (ms : MarkLists) (ts : List Trace) → AreUnmarked ms ts → (n i : ℕ) → mark ms n i ≡ false
mark_none ms ts unmarked n i = elim (slice_get_cases ms n).1 [
  | inl v ↦
      let u = some_from (slice_get ts n) (λ t. (v.0).items ≡ replicate (length t.entries) false)
      (unmarked n v.0 v.2) in
      let is : mark ms n i ≡ get_or (v.0).items i false =
      ap (λ o. option_map_or (λ (w : Vec Bool Global). get_or w.items i false) o false) v.2 in
      is ∙ mark_false (v.0).items (length (u.0).entries) i u.2
  | inr past ↦ ap (λ o. option_map_or (λ (w : Vec Bool Global). get_or w.items i false) o false) past.1
]

pub fit_start : (ps : PlaceMaps) (ms : MarkLists) (ts : List Trace) → length ms ≡ length ts → HavePlaces ps ts
    → AreUnmarked ms ts → Fit ps ms
fit_start ps ms ts l each unmarked = record {
  room = λ n i b e.
      let s = spot_parts ps ts n i b each e in
      let x = some_from (slice_get (s.trace).entries i) (λ e'. e'.got ≡ Some b) s.entry in
      let in' = slice_get_within (s.trace).entries i x.0 x.1 in
      elim (slice_get_cases ms n).1 [
        | inl v ↦
            let u = some_from (slice_get ts n) (λ t. (v.0).items ≡ replicate (length t.entries) false)
            (unmarked n v.0 v.2) in
            let same : u.0 ≡ s.trace = same_Some u.0 s.trace (sym u.1 ∙ s.at) in
            let size : length (v.0).items ≡ length (s.trace).entries = ap length u.2
            ∙ length-replicate (length (u.0).entries) false ∙ ap (λ (t : Trace). length t.entries) same in
            some_at (slice_get ms n) (λ w. i < length w.items) v.0 v.2 (omega arith)
        | inr past ↦ absurd (omega (arith, l, past.0, slice_get_within ts n s.trace s.at))
      ];
  one = λ n i b c e e'.
      let s = spot_parts ps ts n i b each e in
      let t = spot_parts ps ts n i c each e' in
      let same : s.trace ≡ t.trace = same_Some s.trace t.trace (sym s.at ∙ t.at) in
      let x = some_from (slice_get (s.trace).entries i) (λ z. z.got ≡ Some b) s.entry in
      let y = some_from (slice_get (t.trace).entries i) (λ z. z.got ≡ Some c) t.entry in
      let one_entry : x.0 ≡ y.0 = same_Some x.0 y.0 (sym x.1 ∙ ap (λ (z : Trace). slice_get z.entries i) same ∙ y.1) in
      same_Some b c (sym x.2 ∙ ap (λ (z : Entry). z.got) one_entry ∙ y.2);
  held = λ n i h. absurd (both_ways (mark ms n i) (mark_none ms ts unmarked n i) h);
}

pub noted_none : (ps : PlaceMaps) (ms : MarkLists) (ts : List Trace) → AreUnmarked ms ts → (n : ℕ) (b : List ℕ)
    → IsNoted ps ms n b → ⊥
noted_none ps ms ts unmarked n b h =
    let x = some_from (spot ps n b) (λ i. mark ms n i ≡ true) h in
    both_ways (mark ms n x.0) (mark_none ms ts unmarked n x.0) x.2

-- a mark that is set stands at an entry that got what is marked
pub marked_at : (ps : PlaceMaps) (ms : MarkLists) (ts : List Trace) → HavePlaces ps ts → Fit ps ms → AreAtNoted ps ms ts
marked_at ps ms ts each fit n i h =
    let b = fit.held n i h in
    let s = spot_parts ps ts n i b.0 each b.1 in
    some_at (slice_get ts n) (λ t. GotNoted ps ms n t.entries i) s.trace s.at
    (some_then (slice_get (s.trace).entries i) (λ e. e.got ≡ Some b.0) (λ e. IsSomeAnd e.got (IsNoted ps ms n))
    (λ e at got. some_at e.got (IsNoted ps ms n) b.0 got
    (some_at (spot ps n b.0) (λ j. mark ms n j ≡ true) i b.1 h)) s.entry)

-- what the traces got has a spot
pub got_spot : {S : Type 0} (rs : List S) (ts : List Trace) (ps : PlaceMaps) → length ps ≡ length ts → HavePlaces ps ts
    → (n : ℕ) (b : List ℕ) → IsGot (nodes_of rs ts) n b → IsSome (spot ps n b)
got_spot rs ts ps l each n b h =
    let x = some_from (slice_get (nodes_of rs ts) n) (λ z. (i : ℕ) × IsSomeAnd (slice_get z.entries i) (λ e. e.got
    ≡ Some b)) h in
    let q = node_parts rs ts n x.0 x.1 in
    let e = some_from (slice_get (x.0).entries x.2.0) (λ e'. e'.got ≡ Some b) x.2.1 in
    let at : slice_get (q.0).entries x.2.0 ≡ Some e.0 = ap (λ es. slice_get es x.2.0) (sym q.2) ∙ e.1 in
    elim (slice_get_cases ps n).1 [
      | inl p ↦
          let t = some_from (slice_get ts n) (λ t'. AreFound p.0 t'.entries × ArePlaces p.0 t'.entries) (each n p.0 p.2)
          in
          let same : t.0 ≡ q.0 = same_Some t.0 q.0 (sym t.1 ∙ q.1) in
          let at' : slice_get (t.0).entries x.2.0 ≡ Some e.0 = ap (λ (z : Trace). slice_get z.entries x.2.0) same
          ∙ at in
          let found : IsSome (place_in p.0 b) = t.2.0 x.2.0 e.0 (slice_get_within (t.0).entries x.2.0 e.0 at') b
          (ap (λ (z : Entry). z.got) (get_or_from_slice_get (t.0).entries x.2.0 e.0 e.0 at') ∙ e.2) in
          subst IsSome (sym (ap (option_and_then (λ (m : PlaceMap). place_in m b)) p.2)) found
      | inr past ↦ absurd (omega (arith, l, past.0, slice_get_within ts n q.0 q.1))
    ]
