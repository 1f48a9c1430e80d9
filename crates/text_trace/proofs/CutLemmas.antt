-- The entries that have gone at a prefix that is reached are a run.
use Rattle.std.proofs.Common.{◌≡◌, ℕ, zero, suc, ◌+◌, ◌<◌, ◌≤◌, List, [], ◌∷◌, length, take, Option, Some, None}
use Rattle.std.proofs.Common.{refl, sym, ap, ◌∙◌, subst, inl, inr, arith, slice_get, slice_index, Contains}
use Rattle.std.proofs.lemmas.List.{take-take, set_past, length-set, length-map}
use Rattle.std.proofs.lemmas.Bool.{cases_lt, cases_eq}
use Rattle.std.proofs.lemmas.Option.{slice_get_within}
use Rattle.base_turns.specs.declared.entry.Entry.{Entry}
use Rattle.base_turns.specs.Replay.{Steps, replay_state, sent_in}
use Rattle.base_turns.specs.Prefixes.{Node, replay, start, full, advance, WasSent, CanGet, CanGo, GoesOn, Reaches, IsRun}
use Rattle.text_trace.specs.Cut.{cut, cut_one}
use Rattle.text_trace.proofs.PrefixLemmas.{Within, some_from, some_at, advance_same, advance_other}
use Rattle.text_trace.proofs.PrefixLemmas.{reached_length, start_at}

-- the node at a place

pub cut_at : {S : Type 0} (xs : List (Node S)) (p : List ℕ) (n : ℕ) (x : Node S) → slice_get xs n ≡ Some x
    → slice_get (cut xs p) n ≡ Some (cut_one x (slice_index p n))
cut_at [] p n x e = absurd (cc e)
cut_at (y ∷ ys) [] zero x e = ap (λ (o : Option (Node _)). elim o [ Some z ↦ Some (cut_one z 0) | None ↦ None ]) e
cut_at (y ∷ ys) [] (suc n) x e = cut_at ys [] n x e
cut_at (y ∷ ys) (k ∷ p) zero x e = ap (λ (o : Option (Node _)). elim o [ Some z ↦ Some (cut_one z k) | None ↦ None ]) e
cut_at (y ∷ ys) (k ∷ p) (suc n) x e = cut_at ys p n x e

pub cut_entry : (es : List Entry) (i k : ℕ) → i < k → slice_get (take k es) i ≡ slice_get es i
cut_entry es i zero h = absurd (omega (arith, h))
cut_entry [] i (suc k) h = refl
cut_entry (e ∷ es) zero (suc k) h = refl
cut_entry (e ∷ es) (suc i) (suc k) h = cut_entry es i k (omega (arith, h))

len_take : (es : List Entry) (k : ℕ) → k ≤ length es → length (take k es) ≡ k
len_take es zero h = refl
len_take [] (suc k) h = absurd (omega (arith, h))
len_take (e ∷ es) (suc k) h = ap suc (len_take es k (omega (arith, h)))

module _ {S : Type 0} (g : Steps S) (xs : List (Node S)) (p : List ℕ) where
  was_sent_cut : (f : List ℕ) (n : ℕ) (bytes : List ℕ) → Within f p → WasSent g xs f n bytes
      → WasSent g (cut xs p) f n bytes
  was_sent_cut f n bytes within h =
      let at = some_from (slice_get xs h.0) _ h.1 in (
        h.0,
        some_at (slice_get (cut xs p) h.0) _ (cut_one at.0 (slice_index p h.0)) (cut_at xs p h.0 at.0 at.1)
            (subst (λ es. Contains (sent_in g (at.0).state es) (n, bytes))
            (sym (take-take (slice_index f h.0) (slice_index p h.0) (at.0).entries (within h.0))) at.2),
      )

  can_get_cut : (f : List ℕ) (n : ℕ) (m : S) (thread : ℕ) (got : Option (List ℕ)) → Within f p
      → CanGet g xs f n m thread got → CanGet g (cut xs p) f n m thread got
  can_get_cut f n m thread None within h = tt
  can_get_cut f n m thread (Some bytes) within h = (h.0, was_sent_cut f n bytes within h.1)

  can_go_cut : (f : List ℕ) (n : ℕ) → Within f p → slice_index f n < slice_index p n → CanGo g xs f n
      → CanGo g (cut xs p) f n
  can_go_cut f n within below h =
      let i = slice_index f n in
      let k = slice_index p n in
      let at = some_from (slice_get xs n) _ h in
      let x = at.0 in
      let en = some_from (slice_get x.entries i) _ at.2 in
      let same : replay g x i ≡ replay g (cut_one x k) i =
      ap (replay_state g x.state) (sym (take-take i k x.entries (within n))) in
      some_at (slice_get (cut xs p) n) _ (cut_one x k) (cut_at xs p n x at.1)
      (some_at (slice_get (take k x.entries) i) _ en.0 (cut_entry x.entries i k below ∙ en.1)
      (subst (λ m. CanGet g (cut xs p) f n m (en.0).thread (en.0).got) same
      (can_get_cut f n (replay g x i) (en.0).thread (en.0).got within en.2)))

-- prefixes only grow

advance_more : (f : List ℕ) (n : ℕ) → Within f (advance f n)
advance_more f n k =
    elim (cases_eq k n) [
      | inl e ↦ elim (cases_lt n (length f)) [
        | inl l ↦ let a : slice_index (advance f n) n ≡ slice_index f n + 1 = advance_same f n l in
            subst (λ i. slice_index f i ≤ slice_index (advance f n) i) (sym e) (omega (arith, a))
        | inr l ↦ subst (λ f'. slice_index f k ≤ slice_index f' k) (sym (set_past f n (slice_index f n + 1) l))
            (omega arith)
      ]
      | inr d ↦ let a : slice_index (advance f n) k ≡ slice_index f k = advance_other f n k d in omega (arith, a)
    ]

goes_grows : {S : Type 0} (g : Steps S) (xs : List (Node S)) (ns f to : List ℕ) → GoesOn g xs f ns to → Within f to
goes_grows g xs [] f to h = subst (Within f) h (λ k. omega arith)
goes_grows g xs (n ∷ ns) f to h = λ k.
    let a = advance_more f n k in
    let b = goes_grows g xs ns (advance f n) to h.1 k in
    omega (arith, a, b)

goes_cut : {S : Type 0} (g : Steps S) (xs : List (Node S)) (ns f to : List ℕ) → length f ≡ length xs
    → GoesOn g xs f ns to → GoesOn g (cut xs to) f ns to
goes_cut g xs [] f to len h = h
goes_cut g xs (n ∷ ns) f to len h =
    let within = goes_grows g xs (n ∷ ns) f to h in
    let at = some_from (slice_get xs n) _ h.0 in
    let there : n < length xs = slice_get_within xs n at.0 at.1 in
    let one : slice_index (advance f n) n ≡ slice_index f n + 1 = advance_same f n (omega (arith, there, len)) in
    let grown = goes_grows g xs ns (advance f n) to h.1 n in (
      can_go_cut g xs to f n within (omega (arith, one, grown)) h.0,
      goes_cut g xs ns (advance f n) to (length-set f n (slice_index f n + 1) ∙ len) h.1,
    )

-- no prefix has more than there is

abbrev pub Bounded : {S : Type 0} → List (Node S) → List ℕ → Type 0
Bounded {S} xs f = (n : ℕ) (x : Node S) → slice_get xs n ≡ Some x → slice_index f n ≤ length x.entries

pub goes_bounded : {S : Type 0} (g : Steps S) (xs : List (Node S)) (ns f to : List ℕ) → length f ≡ length xs → Bounded xs f
    → GoesOn g xs f ns to → Bounded xs to
goes_bounded g xs [] f to len b h = subst (Bounded xs) h b
goes_bounded g xs (n ∷ ns) f to len b h =
    let at = some_from (slice_get xs n) _ h.0 in
    let en = some_from (slice_get (at.0).entries (slice_index f n)) _ at.2 in
    let there : n < length xs = slice_get_within xs n at.0 at.1 in
    let some : slice_index f n < length (at.0).entries =
    slice_get_within (at.0).entries (slice_index f n) en.0 en.1 in
    let one : slice_index (advance f n) n ≡ slice_index f n + 1 = advance_same f n (omega (arith, there, len)) in
    goes_bounded g xs ns (advance f n) to (length-set f n (slice_index f n + 1) ∙ len)
    (λ k x e. elim (cases_eq k n) [
      | inl same ↦
          let here : slice_get xs n ≡ Some x = subst (λ i. slice_get xs i ≡ Some x) same e in
          let is : at.0 ≡ x = cc (sym at.1 ∙ here) in
          let lens : length (at.0).entries ≡ length x.entries = ap (λ y. length y.entries) is in
          subst (λ i. slice_index (advance f n) i ≤ length x.entries) (sym same) (omega (arith, one, some, lens))
      | inr d ↦ let a : slice_index (advance f n) k ≡ slice_index f k = advance_other f n k d in
          let was = b k x e in omega (arith, a, was)
    ]) h.1

start_cut : {S : Type 0} (xs : List (Node S)) (p : List ℕ) → start (cut xs p) ≡ start xs
start_cut [] p = refl
start_cut (x ∷ xs) [] = ap (λ w. 0 ∷ w) (start_cut xs [])
start_cut (x ∷ xs) (k ∷ p) = ap (λ w. 0 ∷ w) (start_cut xs p)

full_cut : {S : Type 0} (xs : List (Node S)) (p : List ℕ) → length p ≡ length xs → Bounded xs p → full (cut xs p) ≡ p
full_cut [] [] len b = refl
full_cut [] (k ∷ p) len b = absurd (omega (arith, len))
full_cut (x ∷ xs) [] len b = absurd (omega (arith, len))
full_cut (x ∷ xs) (k ∷ p) len b =
    ap (λ w. w ∷ full (cut xs p)) (len_take x.entries k (b 0 x refl))
    ∙ ap (λ w. k ∷ w) (full_cut xs p (omega (arith, len)) (λ n y e. b (suc n) y e))

pub cut_run : {S : Type 0} (g : Steps S) (xs : List (Node S)) (p ns : List ℕ) → Reaches g xs ns p → IsRun g (cut xs p)
cut_run g xs p ns h =
    let len : length p ≡ length xs = reached_length g xs ns p h in
    let first : length (start xs) ≡ length xs = length-map xs (λ _. 0) in
    let bounded = goes_bounded g xs ns (start xs) p first
    (λ n x e. let z = start_at xs n in omega (arith, z)) h in (
      ns,
      subst (λ a. GoesOn g (cut xs p) a ns (full (cut xs p))) (sym (start_cut xs p))
          (subst (λ b. GoesOn g (cut xs p) (start xs) ns b) (sym (full_cut xs p len bounded))
          (goes_cut g xs ns (start xs) p first h)),
    )
