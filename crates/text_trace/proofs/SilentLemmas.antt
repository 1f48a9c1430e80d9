-- Where the entries behind a cut sent nothing, what is left of a run is one.
use Rattle.std.proofs.Common.{◌≡◌, ℕ, zero, suc, ◌+◌, ◌<◌, ◌≤◌, List, [], ◌∷◌, length, take, Option, Some, None}
use Rattle.std.proofs.Common.{refl, sym, ap, ◌∙◌, subst, inl, inr, arith, slice_get, slice_index, Contains}
use Rattle.std.proofs.lemmas.List.{take-take, set_past, get_or-map, length-map}
use Rattle.std.proofs.lemmas.Bool.{cases_lt, cases_eq}
use Rattle.std.proofs.lemmas.Option.{slice_get_within, get_or_from_slice_get}
use Rattle.std.specs.Prelude.{◌⊎◌}
use Rattle.base_turns.specs.Replay.{Steps, replay_state, sent_in}
use Rattle.base_turns.specs.Prefixes.{Node, replay, sent_of, start, full, advance, WasSent, CanGet, CanGo, GoesOn, Reaches}
use Rattle.base_turns.specs.Prefixes.{IsRun, IsStuck}
use Rattle.text_trace.specs.Cut.{cut, cut_one, IsSilent}
use Rattle.text_trace.proofs.PrefixLemmas.{some_from, some_at, advance_same, advance_other, sent_more, start_at}
use Rattle.text_trace.proofs.PrefixLemmas.{reached_length}
use Rattle.base_turns.specs.declared.entry.Entry.{Entry}
use Rattle.text_trace.proofs.CutLemmas.{cut_at, cut_entry, goes_bounded}
use Rattle.text_trace.proofs.Deciding.{run_or_stuck}

module _ {S : Type 0} (g : Steps S) (xs : List (Node S)) (p s : List ℕ) (silent : IsSilent g xs p)
    (within : (k : ℕ) → slice_index s k ≤ slice_index p k) where
  -- so far along, and where the cut is behind, at the cut
  abbrev Far : List ℕ → Type 0
  Far f = (k : ℕ) → (slice_index f k ≤ slice_index s k) ⊎ (slice_index p k ≤ slice_index s k)

  was_sent : (f : List ℕ) (n : ℕ) (bytes : List ℕ) → Far f → WasSent g xs f n bytes → WasSent g (cut xs p) s n bytes
  was_sent f n bytes far h =
      let at = some_from (slice_get xs h.0) _ h.1 in
      let x = at.0 in
      let k = slice_index p h.0 in
      let j = slice_index s h.0 in
      let here : Contains (sent_of g x j) (n, bytes) = elim (far h.0) [
        | inl l ↦ sent_more g x (slice_index f h.0) j (n, bytes) l at.2
        | inr l ↦ sent_more g x k j (n, bytes) l (silent h.0 x at.1 (slice_index f h.0) (n, bytes) at.2)
      ] in (
        h.0,
        some_at (slice_get (cut xs p) h.0) _ (cut_one x k) (cut_at xs p h.0 x at.1)
            (subst (λ es. Contains (sent_in g x.state es) (n, bytes)) (sym (take-take j k x.entries (within h.0))) here),
      )

  can_get : (f : List ℕ) (n : ℕ) (m : S) (thread : ℕ) (got : Option (List ℕ)) → Far f → CanGet g xs f n m thread got
      → CanGet g (cut xs p) s n m thread got
  can_get f n m thread None far h = tt
  can_get f n m thread (Some bytes) far h = (h.0, was_sent f n bytes far h.1)

  can_go : (f : List ℕ) (n : ℕ) → Far f → slice_index f n ≡ slice_index s n → slice_index s n < slice_index p n
      → CanGo g xs f n → CanGo g (cut xs p) s n
  can_go f n far same below h =
      let i = slice_index f n in
      let j = slice_index s n in
      let k = slice_index p n in
      let at = some_from (slice_get xs n) _ h in
      let x = at.0 in
      let en = some_from (slice_get x.entries i) _ at.2 in
      let state : replay g x i ≡ replay g (cut_one x k) j =
      ap (replay g x) same ∙ ap (replay_state g x.state) (sym (take-take j k x.entries (within n))) in
      some_at (slice_get (cut xs p) n) _ (cut_one x k) (cut_at xs p n x at.1)
      (some_at (slice_get (take k x.entries) j) _ en.0
      (cut_entry x.entries j k below ∙ ap (slice_get x.entries) (sym same) ∙ en.1)
      (subst (λ m. CanGet g (cut xs p) s n m (en.0).thread (en.0).got) state
      (can_get f n (replay g x i) (en.0).thread (en.0).got far en.2)))

  far_more : (f : List ℕ) (n : ℕ) → Far f → (slice_index f n < slice_index s n) ⊎ (slice_index p n ≤ slice_index s n)
      → Far (advance f n)
  far_more f n far h k =
      elim (cases_eq k n) [
        | inl e ↦ elim h [
          | inr l ↦ inr (subst (λ i. slice_index p i ≤ slice_index s i) (sym e) l)
          | inl l ↦ elim (cases_lt n (length f)) [
            | inl there ↦ let a : slice_index (advance f n) n ≡ slice_index f n + 1 = advance_same f n there in
                inl (subst (λ i. slice_index (advance f n) i ≤ slice_index s i) (sym e) (omega (arith, a, l)))
            | inr past ↦ subst (λ f'. (slice_index f' k ≤ slice_index s k) ⊎ (slice_index p k ≤ slice_index s k))
                (sym (set_past f n (slice_index f n + 1) past)) (far k)
          ]
        ]
        | inr d ↦ subst (λ (i : ℕ). (i ≤ slice_index s k) ⊎ (slice_index p k ≤ slice_index s k))
            (sym (advance_other f n k d)) (far k)
      ]

  goes_far : ((n : ℕ) → CanGo g (cut xs p) s n → ⊥) → (ns f to : List ℕ) → Far f → GoesOn g xs f ns to → Far to
  goes_far none [] f to far h = subst Far h far
  goes_far none (n ∷ ns) f to far h =
      goes_far none ns (advance f n) to
      (far_more f n far (elim (far n) [
        | inr l ↦ inr l
        | inl l ↦ elim (cases_lt (slice_index f n) (slice_index s n)) [
          | inl below ↦ inl below
          | inr same ↦ elim (cases_lt (slice_index s n) (slice_index p n)) [
            | inr past ↦ inr past
            | inl below ↦
                let e : slice_index f n ≡ slice_index s n = omega (arith, l, same) in
                absurd (none n (can_go f n far e below h.0))
          ]
        ]
      ])) h.1

take_short : (k : ℕ) (es : List Entry) → (length (take k es) ≤ k) × (length (take k es) ≤ length es)
take_short zero es = (omega arith, omega arith)
take_short (suc k) [] = (omega arith, omega arith)
take_short (suc k) (e ∷ es) =
    let h = take_short k es in
    let a = h.0 in
    let b = h.1 in (omega (arith, a), omega (arith, b))

index_past : (f : List ℕ) (k : ℕ) → length f ≤ k → slice_index f k ≡ 0
index_past [] k h = refl
index_past (x ∷ f) zero h = absurd (omega (arith, h))
index_past (x ∷ f) (suc k) h = index_past f k (omega (arith, h))

some_within : {A : Type 0} (xs : List A) (k : ℕ) → k < length xs → (x : A) × (slice_get xs k ≡ Some x)
some_within [] k h = absurd (omega (arith, h))
some_within (x ∷ xs) zero h = (x, refl)
some_within (x ∷ xs) (suc k) h = some_within xs k (omega (arith, h))

cut_length : {S : Type 0} (xs : List (Node S)) (p : List ℕ) → length (cut xs p) ≡ length xs
cut_length [] p = refl
cut_length (x ∷ xs) [] = ap suc (cut_length xs [])
cut_length (x ∷ xs) (k ∷ p) = ap suc (cut_length xs p)

module _ {S : Type 0} (g : Steps S) (xs : List (Node S)) (p ns : List ℕ) (run : Reaches g xs ns (full xs))
    (silent : IsSilent g xs p) where
  -- a prefix that nodes reach that were cut is within the cut
  reached_cut : (order s : List ℕ) → Reaches g (cut xs p) order s → (k : ℕ) → slice_index s k ≤ slice_index p k
  reached_cut order s h k =
      let len : length s ≡ length xs = reached_length g (cut xs p) order s h ∙ cut_length xs p in
      elim (cases_lt k (length xs)) [
        | inl l ↦
            let x = some_within xs k l in
            let b = goes_bounded g (cut xs p) order (start (cut xs p)) s (length-map (cut xs p) (λ _. 0))
            (λ n y e. let z = start_at (cut xs p) n in omega (arith, z)) h k (cut_one x.0 (slice_index p k))
            (cut_at xs p k x.0 x.1) in
            let t = (take_short (slice_index p k) (x.0).entries).0 in
            omega (arith, b, t)
        | inr past ↦ let z = index_past s k (omega (arith, len, past)) in omega (arith, z)
      ]

  not_stuck : (s : List ℕ) → IsStuck g (cut xs p) s → ⊥
  not_stuck s stuck =
      let within = reached_cut stuck.reached.0 s stuck.reached.1 in
      let far = goes_far g xs p s silent within stuck.none ns (start xs) (full xs)
      (λ k. inl (let z = start_at xs k in omega (arith, z))) run in
      let n = stuck.left.0 in
      let at = some_from (slice_get (cut xs p) n) _ stuck.left.1 in
      let there = slice_get_within (cut xs p) n at.0 at.1 in
      let x = some_within xs n (let l = cut_length xs p in omega (arith, there, l)) in
      let is : at.0 ≡ cut_one x.0 (slice_index p n) = cc (sym at.1 ∙ cut_at xs p n x.0 x.1) in
      let lens : length (at.0).entries ≡ length (take (slice_index p n) (x.0).entries) =
      ap (λ y. length y.entries) is in
      let t = take_short (slice_index p n) (x.0).entries in
      let t0 = t.0 in
      let t1 = t.1 in
      let left = at.2 in
      let here : slice_index (full xs) n ≡ length (x.0).entries =
      get_or-map (λ y. length y.entries) xs n x.0 0 (slice_get_within xs n x.0 x.1)
      ∙ ap (λ y. length y.entries) (get_or_from_slice_get xs n x.0 x.0 x.1) in
      elim (far n) [
        | inl l ↦ omega (arith, l, here, t1, lens, left)
        | inr l ↦ omega (arith, l, t0, lens, left)
      ]

  pub silent_run : IsRun g (cut xs p)
  silent_run = elim (run_or_stuck g (cut xs p)) [ inl h ↦ h | inr h ↦ absurd (not_stuck h.0 h.1) ]
