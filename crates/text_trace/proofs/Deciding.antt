-- Whether an entry can go is decided, so going on as far as one can ends in a run or at a stuck prefix.
use Rattle.std.proofs.Common.{◌≡◌, ℕ, zero, suc, ◌+◌, ◌<◌, ◌≤◌, Bool, true, false, List, [], ◌∷◌, ◌++◌, length, get_or}
use Rattle.std.proofs.Common.{Option, Some, None, refl, sym, ap, ◌∙◌, subst, ◌⊎◌, inl, inr, arith, slice_get}
use Rattle.std.proofs.Common.{slice_index, Contains, IsSomeAnd, sum}
use Rattle.std.proofs.lemmas.List.{length-set, get_or-map, length-map, ext_get_or}
use Rattle.std.proofs.lemmas.List.Elements.{Contains-append_right, Contains-append_cases}
use Rattle.std.proofs.lemmas.List.Sums.{sum_by-cons}
use Rattle.std.proofs.lemmas.Bool.{cases_lt, cases_eq, cases_Bool, both_ways}
use Rattle.std.proofs.lemmas.Slice.Eq.{bytes_eq-Decides}
use Rattle.std.specs.Str.{bytes_eq}
use Rattle.std.proofs.lemmas.Option.{slice_get_within, get_or_from_slice_get, slice_get_cases}
use Rattle.base_turns.specs.Replay.{Steps}
use Rattle.base_turns.specs.Prefixes.{Node, replay, sent_of, start, full, advance, WasSent, CanGet, CanGo, GoesOn, Reaches}
use Rattle.base_turns.specs.Prefixes.{IsRun, HasLeft, IsStuck}
use Rattle.text_trace.proofs.PrefixLemmas.{some_from, some_at, some_then, reached_length, Within, advance_within}
use Rattle.text_trace.proofs.PrefixLemmas.{start_within}

abbrev pub Either : Type 0 → Type 0
Either P = P ⊎ (P → ⊥)

either_and : (P Q : Type 0) → Either P → Either Q → Either (P × Q)
either_and P Q (inl p) (inl q) = inl (p, q)
either_and P Q (inl p) (inr n) = inr (λ h. n h.1)
either_and P Q (inr n) d = inr (λ h. n h.0)

either_bytes : (a b : List ℕ) → Either (a ≡ b)
either_bytes a b = elim (cases_Bool (bytes_eq a b)) [
  | inl t ↦ inl ((bytes_eq-Decides a b).0 t)
  | inr f ↦ inr (λ e. both_ways (bytes_eq a b) f ((bytes_eq-Decides a b).1 e))
]

abbrev Datagram : Type 0
Datagram = ℕ × List ℕ

either_datagram : (a b : Datagram) → Either (a ≡ b)
either_datagram (n, x) (m, y) = elim (cases_eq n m) [
  | inl e ↦ elim (either_bytes x y) [
    | inl e' ↦ inl (cc)
    | inr d ↦ inr (λ h. d (ap (λ (p : Datagram). p.1) h))
  ]
  | inr d ↦ inr (λ h. d (ap (λ (p : Datagram). p.0) h))
]

only_one : (y x : Datagram) (k : ℕ) → k < length (y ∷ []) → get_or (y ∷ []) k x ≡ x → y ≡ x
only_one y x zero l e = e
only_one y x (suc k) l e = absurd (omega arith)

either_contains : (xs : List Datagram) (x : Datagram) → Either (Contains xs x)
either_contains [] x = inr (λ h. let l = h.1 in absurd (omega arith))
either_contains (y ∷ xs) x = elim (either_datagram y x) [
  | inl e ↦ inl (0, omega arith, e)
  | inr d ↦ elim (either_contains xs x) [
    | inl h ↦ inl (Contains-append_right (y ∷ []) xs x h)
    | inr n ↦ inr (λ h. let both : Contains (y ∷ []) x ⊎ Contains xs x = Contains-append_cases (y ∷ []) xs x h in
        elim both [ inl h' ↦ d (only_one y x h'.0 h'.1 h'.2) | inr h' ↦ n h' ])
  ]
]

either_some : {A : Type 0} (o : Option A) (P : A → Type 0) → ((x : A) → Either (P x)) → Either (IsSomeAnd o P)
either_some None P d = inr (λ h. h)
either_some (Some x) P d = d x

-- the first n numbers, one that holds or none
pub either_below : (P : ℕ → Type 0) → ((k : ℕ) → Either (P k)) → (n : ℕ) → ((k : ℕ) × (k < n) × P k)
    ⊎ ((k : ℕ) → k < n → P k → ⊥)
either_below P d zero = inr (λ k l _. absurd (omega arith))
either_below P d (suc n) = elim (either_below P d n) [
  | inl h ↦ let l = h.1 in inl (h.0, omega arith, h.2)
  | inr none ↦ elim (d n) [
    | inl p ↦ inl (n, omega arith, p)
    | inr not_n ↦ inr (λ k l p. elim (cases_eq k n) [
      | inl e ↦ not_n (subst P e p)
      | inr other ↦ none k (omega arith) p
    ])
  ]
]

either_sent : {S : Type 0} (g : Steps S) (xs : List (Node S)) (f : List ℕ) (n : ℕ) (bytes : List ℕ)
    → Either (WasSent g xs f n bytes)
either_sent g xs f n bytes =
    let P = λ (k : ℕ). IsSomeAnd (slice_get xs k) (λ x. Contains (sent_of g x (slice_index f k)) (n, bytes)) in
    elim (either_below P (λ k. either_some (slice_get xs k) _ (λ x. either_contains (sent_of g x (slice_index f k))
    (n, bytes))) (length xs)) [
      | inl h ↦ inl (h.0, h.2)
      | inr none ↦ inr (λ h. none h.0 (let s = some_from (slice_get xs h.0) _ h.1 in slice_get_within xs h.0 s.0 s.1)
          h.1)
    ]

either_true : (b : Bool) → Either (b ≡ true)
either_true true = inl refl
either_true false = inr (λ h. cc)

either_get : {S : Type 0} (g : Steps S) (xs : List (Node S)) (f : List ℕ) (n : ℕ) (m : S) (thread : ℕ)
    (got : Option (List ℕ)) → Either (CanGet g xs f n m thread got)
either_get g xs f n m thread None = inl tt
either_get g xs f n m thread (Some bytes) = either_and _ _ (either_true (g.polls m thread)) (either_sent g xs f n bytes)

pub either_go : {S : Type 0} (g : Steps S) (xs : List (Node S)) (f : List ℕ) (n : ℕ) → Either (CanGo g xs f n)
either_go g xs f n = either_some (slice_get xs n) _ (λ x. either_some (slice_get x.entries (slice_index f n)) _
    (λ e. either_get g xs f n (replay g x (slice_index f n)) e.thread e.got))

-- how far a prefix can be from all entries

pub go_left : {S : Type 0} (g : Steps S) (xs : List (Node S)) (f : List ℕ) (n : ℕ) → CanGo g xs f n → HasLeft xs f n
go_left g xs f n h = some_then (slice_get xs n) _ _ (λ x _ h'. let e = some_from (slice_get x.entries (slice_index f n))
    _ h' in slice_get_within x.entries (slice_index f n) e.0 e.1) h

pub full_at : {S : Type 0} (xs : List (Node S)) (n : ℕ) (x : Node S) → slice_get xs n ≡ Some x → slice_index (full xs) n
    ≡ length x.entries
full_at xs n x e = get_or-map (λ x. length x.entries) xs n x 0 (slice_get_within xs n x e) ∙ ap (λ x. length x.entries)
    (get_or_from_slice_get xs n x x e)

pub left_below : {S : Type 0} (xs : List (Node S)) (f : List ℕ) (n : ℕ) → HasLeft xs f n → slice_index f n < slice_index
    (full xs) n
left_below xs f n h = let x = some_from (slice_get xs n) _ h in let e = full_at xs n x.0 x.1 in let l = x.2 in
    omega arith

pub left_node : {S : Type 0} (xs : List (Node S)) (f : List ℕ) (n : ℕ) → HasLeft xs f n → n < length xs
left_node xs f n h = let x = some_from (slice_get xs n) _ h in slice_get_within xs n x.0 x.1

pub goes_push : {S : Type 0} (g : Steps S) (xs : List (Node S)) (ns f to : List ℕ) (n : ℕ) → GoesOn g xs f ns to
    → CanGo g xs to n → GoesOn g xs f (ns ++ n ∷ []) (advance to n)
goes_push g xs [] f to n h go = (subst (λ t. CanGo g xs t n) (sym h) go, ap (λ t. advance t n) h)
goes_push g xs (m ∷ ns) f to n h go = (h.0, goes_push g xs ns (advance f m) to n h.1 go)

pub sum_advance : (f : List ℕ) (n : ℕ) → n < length f → sum (advance f n) ≡ sum f + 1
sum_advance [] n h = absurd (omega arith)
sum_advance (x ∷ f) zero h = let a = sum_by-cons (λ n. n) x f in let b = sum_by-cons (λ n. n) (x + 1) f in omega arith
sum_advance (x ∷ f) (suc n) h = let e = sum_advance f n (omega arith) in let a = sum_by-cons (λ n. n) x f in let b =
    sum_by-cons (λ n. n) x (advance f n) in omega arith

pub sum_within : (f s : List ℕ) → length f ≡ length s → Within f s → sum f ≤ sum s
sum_within [] s l h = omega arith
sum_within (x ∷ f) [] l h = absurd (omega arith)
sum_within (x ∷ f) (y ∷ s) l h = let a = h 0 in let b = sum_within f s (omega arith) (λ k. h (suc k)) in let c =
    sum_by-cons (λ n. n) x f in let d = sum_by-cons (λ n. n) y s in omega arith

left_from : {S : Type 0} (xs : List (Node S)) (f : List ℕ) (i : ℕ) → i < length xs → slice_index f i < slice_index
    (full xs) i → HasLeft xs f i
left_from xs f i h below =
    let cases = (slice_get_cases xs i).1 in
    elim cases [
      | inl x ↦ let e = full_at xs i x.0 x.2 in some_at (slice_get xs i) _ x.0 x.2 (omega arith)
      | inr past ↦ absurd (omega arith)
    ]

either_lt : (a b : ℕ) → Either (a < b)
either_lt a b = elim (cases_lt a b) [ inl l ↦ inl l | inr l ↦ inr (λ h. absurd (omega arith)) ]

pub all_gone : {S : Type 0} (xs : List (Node S)) (f : List ℕ) → length f ≡ length xs → Within f (full xs)
    → ((k : ℕ) → k < length xs → HasLeft xs f k → ⊥) → f ≡ full xs
all_gone xs f l w none = ext_get_or 0 f (full xs) (l ∙ sym (length-map xs (λ x. length x.entries))) (λ i h.
    let here = w i in
    elim (cases_lt (slice_index f i) (slice_index (full xs) i)) [
      | inl below ↦ absurd (none i (omega arith) (left_from xs f i (omega arith) below))
      | inr above ↦ omega arith
    ])

-- entries are left, or all have gone
pub left_or_full : {S : Type 0} (xs : List (Node S)) (f : List ℕ) → length f ≡ length xs → Within f (full xs)
    → ((n : ℕ) × HasLeft xs f n) ⊎ (f ≡ full xs)
left_or_full xs f l w =
    elim (either_below (HasLeft xs f) (λ k. either_some (slice_get xs k) _
    (λ x. either_lt (slice_index f k) (length x.entries))) (length xs)) [
      | inl h ↦ inl (h.0, h.2)
      | inr none ↦ inr (all_gone xs f l w none)
    ]

pub advance_full : {S : Type 0} (g : Steps S) (xs : List (Node S)) (f : List ℕ) (n : ℕ) → Within f (full xs)
    → CanGo g xs f n → Within (advance f n) (full xs)
advance_full g xs f n w go = advance_within f (full xs) n w (left_below xs f n (go_left g xs f n go))

-- each entry that goes is one of those left
pub advance_counts : {S : Type 0} (g : Steps S) (xs : List (Node S)) (f : List ℕ) (n : ℕ) → length f ≡ length xs
    → Within f (full xs) → CanGo g xs f n
    → (sum (advance f n) ≡ sum f + 1) × (sum f + 1 ≤ sum (full xs))
advance_counts g xs f n l w go =
    let e : sum (advance f n) ≡ sum f + 1 = sum_advance f n (let l' = left_node xs f n (go_left g xs f n go) in
    omega arith) in
    let s = sum_within (advance f n) (full xs) (length-set f n (slice_index f n + 1) ∙ l
    ∙ sym (length-map xs (λ x. length x.entries))) (advance_full g xs f n w go) in
    (e, omega arith)

-- where none can go, all have gone, or the prefix is stuck
settled : {S : Type 0} (g : Steps S) (xs : List (Node S)) (ns f : List ℕ) → Reaches g xs ns f → Within f (full xs)
    → ((n : ℕ) → n < length xs → CanGo g xs f n → ⊥)
    → IsRun g xs ⊎ ((s : List ℕ) × IsStuck g xs s)
settled g xs ns f r w none = elim (left_or_full xs f (reached_length g xs ns f r) w) [
  | inl left ↦ inr (
    f,
    record {
      reached = (ns, r);
      left = left;
      none =
          λ n go. none n (left_node xs f n (go_left g xs f n go)) go;
    },
  )
  | inr e ↦ inl (ns, subst (λ t. Reaches g xs ns t) e r)
]

-- going on as far as one can
settle : {S : Type 0} (g : Steps S) (xs : List (Node S)) (fuel : ℕ) (ns f : List ℕ) → Reaches g xs ns f
    → Within f (full xs) → sum (full xs) ≤ sum f + fuel
    → IsRun g xs ⊎ ((s : List ℕ) × IsStuck g xs s)
settle g xs zero ns f r w h = elim (either_below (CanGo g xs f) (either_go g xs f) (length xs)) [
  | inl go ↦ let c = advance_counts g xs f go.0 (reached_length g xs ns f r) w go.2 in absurd (omega arith)
  | inr none ↦ settled g xs ns f r w none
]
settle g xs (suc fuel) ns f r w h = elim (either_below (CanGo g xs f) (either_go g xs f) (length xs)) [
  | inl go ↦ let c = advance_counts g xs f go.0 (reached_length g xs ns f r) w go.2 in
      settle g xs fuel (ns ++ go.0 ∷ []) (advance f go.0) (goes_push g xs ns (start xs) f go.0 r go.2)
      (advance_full g xs f go.0 w go.2) (omega arith)
  | inr none ↦ settled g xs ns f r w none
]

pub run_or_stuck : {S : Type 0} (g : Steps S) (xs : List (Node S)) → IsRun g xs ⊎ ((s : List ℕ) × IsStuck g xs s)
run_or_stuck g xs = settle g xs (sum (full xs)) [] (start xs) refl (start_within xs (full xs)) (omega arith)
