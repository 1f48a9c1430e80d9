-- What can go at a prefix can go at later ones, so there is at most one stuck prefix.
use Rattle.std.proofs.Common.{◌≡◌, ◌≢◌, ℕ, zero, suc, ◌+◌, ◌<◌, ◌≤◌, List, [], ◌∷◌, ◌++◌, length, take, drop, Option}
use Rattle.std.proofs.Common.{Some, None, refl, sym, ap, ◌∙◌, subst, inl, inr, arith, slice_get, slice_index, Contains}
use Rattle.std.proofs.Common.{IsSomeAnd}
use Rattle.std.proofs.lemmas.List.{take-take, take-append-drop, get_or-set_same, get_or-set_other, set_past}
use Rattle.std.proofs.lemmas.List.{append_assoc, length-set, get_or-map, length-map, ext_get_or}
use Rattle.std.proofs.lemmas.List.Elements.{Contains-append_left}
use Rattle.std.proofs.lemmas.Bool.{cases_lt, cases_eq}
use Rattle.std.proofs.lemmas.Option.{slice_get_within, get_or_from_slice_get}
use Rattle.base_turns.specs.declared.entry.Entry.{Entry}
use Rattle.base_turns.specs.Replay.{Steps}
use Rattle.base_turns.specs.Replay.{replay_state, sent_in, given_by}
use Rattle.base_turns.specs.Prefixes.{Node, replay, sent_of, start, full, advance, WasSent, CanGet, CanGo, GoesOn, Reaches}
use Rattle.base_turns.specs.Prefixes.{IsRun, IsStuck}

-- words on a value that may be there

pub some_from : {A : Type 0} (o : Option A) (P : A → Type 0) → IsSomeAnd o P → (x : A) × (o ≡ Some x) × P x
some_from None P h = absurd h
some_from (Some x) P h = (x, refl, h)

pub some_at : {A : Type 0} (o : Option A) (P : A → Type 0) (x : A) → o ≡ Some x → P x → IsSomeAnd o P
some_at o P x e h = subst (λ o'. IsSomeAnd o' P) (sym e) h

pub some_then : {A : Type 0} (o : Option A) (P Q : A → Type 0) → ((x : A) → o ≡ Some x → P x → Q x) → IsSomeAnd o P
    → IsSomeAnd o Q
some_then o P Q f h = let k = some_from o P h in some_at o Q k.0 k.1 (f k.0 k.1 k.2)

-- what more entries leave

pub sent_in-append : {S : Type 0} (g : Steps S) (m : S) (bs cs : List Entry) → sent_in g m (bs ++ cs) ≡ sent_in g m bs
    ++ sent_in g (replay_state g m bs) cs
sent_in-append g m [] cs = refl
sent_in-append g m (b ∷ bs) cs =
    ap (λ ds. given_by g m b ++ ds) (sent_in-append g (g.after m b.thread b.now b.got) bs cs)
    ∙ sym (append_assoc (given_by g m b) (sent_in g (g.after m b.thread b.now b.got) bs)
    (sent_in g (replay_state g m (b ∷ bs)) cs))

pub replayed-append : {S : Type 0} (g : Steps S) (m : S) (bs cs : List Entry) → replay_state g m (bs ++ cs)
    ≡ replay_state g (replay_state g m bs) cs
replayed-append g m [] cs = refl
replayed-append g m (b ∷ bs) cs = replayed-append g (g.after m b.thread b.now b.got) bs cs

take_more_prefix : {A : Type 0} (j k : ℕ) (xs : List A) → j ≤ k → take k xs ≡ take j xs ++ drop j (take k xs)
take_more_prefix j k xs h = sym (take-append-drop j (take k xs)) ∙ ap (λ f. f ++ drop j (take k xs)) (take-take j k xs h)

-- what was sent stays sent
pub sent_more : {S : Type 0} (g : Steps S) (x : Node S) (j k : ℕ) (d : ℕ × List ℕ) → j ≤ k → Contains (sent_of g x j) d
    → Contains (sent_of g x k) d
sent_more g x j k d h c =
    subst (λ es. Contains (sent_in g x.state es) d) (sym (take_more_prefix j k x.entries h))
    (subst (λ ds. Contains ds d) (sym (sent_in-append g x.state (take j x.entries) (drop j (take k x.entries))))
    (Contains-append_left _ _ d c))

-- no number of the one prefix is greater
abbrev pub Within : List ℕ → List ℕ → Type 0
Within f s = (k : ℕ) → slice_index f k ≤ slice_index s k

pub was_sent_later : {S : Type 0} (g : Steps S) (xs : List (Node S)) (f s : List ℕ) (n : ℕ) (bytes : List ℕ)
    → Within f s → WasSent g xs f n bytes → WasSent g xs s n bytes
was_sent_later g xs f s n bytes within h = (
  h.0,
  some_then (slice_get xs h.0) _ _ (λ x _ c. sent_more g x (slice_index f h.0) (slice_index s h.0) (n, bytes)
      (within h.0) c) h.1,
)

can_get_later : {S : Type 0} (g : Steps S) (xs : List (Node S)) (f s : List ℕ) (n : ℕ) (m : S) (thread : ℕ)
    (got : Option (List ℕ)) → Within f s → CanGet g xs f n m thread got → CanGet g xs s n m thread got
can_get_later g xs f s n m thread None within h = tt
can_get_later g xs f s n m thread (Some bytes) within h = (h.0, was_sent_later g xs f s n bytes within h.1)

-- what can go at a prefix can go where the node has come as far and no other less far
pub can_go_later : {S : Type 0} (g : Steps S) (xs : List (Node S)) (f s : List ℕ) (n : ℕ) → slice_index f n
    ≡ slice_index s n → Within f s → CanGo g xs f n → CanGo g xs s n
can_go_later g xs f s n same within h =
    subst (λ i. IsSomeAnd (slice_get xs n) (λ x. IsSomeAnd (slice_get x.entries i) (λ e. CanGet g xs s n (replay g x i)
    e.thread e.got))) same
    (some_then (slice_get xs n) _ _ (λ x _ h'. some_then (slice_get x.entries (slice_index f n)) _ _
    (λ e _ h''. can_get_later g xs f s n (replay g x (slice_index f n)) e.thread e.got within h'') h') h)

-- prefixes along a list of nodes

pub advance_same : (f : List ℕ) (n : ℕ) → n < length f → slice_index (advance f n) n ≡ slice_index f n + 1
advance_same f n h = get_or-set_same f n (slice_index f n + 1) 0 h

pub advance_other : (f : List ℕ) (n k : ℕ) → k ≢ n → slice_index (advance f n) k ≡ slice_index f k
advance_other f n k h = get_or-set_other f n k (slice_index f n + 1) 0 h

pub advance_within : (f s : List ℕ) (n : ℕ) → Within f s → slice_index f n < slice_index s n → Within (advance f n) s
advance_within f s n within h k =
    elim (cases_eq k n) [
      | inl e ↦ elim (cases_lt n (length f)) [
        | inl l ↦ let a : slice_index (advance f n) n ≡ slice_index f n + 1 = advance_same f n l in
            subst (λ i. slice_index (advance f n) i ≤ slice_index s i) (sym e) (omega arith)
        | inr l ↦ subst (λ f'. slice_index f' k ≤ slice_index s k) (sym (set_past f n (slice_index f n + 1) l))
            (within k)
      ]
      | inr d ↦ let a : slice_index (advance f n) k ≡ slice_index f k = advance_other f n k d in let w = within k in
          omega arith
    ]

-- where none can go, each list of nodes has come at most as far
pub goes_within : {S : Type 0} (g : Steps S) (xs : List (Node S)) (s : List ℕ) → ((n : ℕ) → CanGo g xs s n → ⊥)
    → (ns f to : List ℕ) → Within f s → GoesOn g xs f ns to → Within to s
goes_within g xs s none [] f to within h = subst (λ t. Within t s) h within
goes_within g xs s none (n ∷ ns) f to within h =
    elim (cases_lt (slice_index f n) (slice_index s n)) [
      | inl l ↦ goes_within g xs s none ns (advance f n) to (advance_within f s n within l) h.1
      | inr l ↦ let w = within n in
          let e : slice_index f n ≡ slice_index s n = omega arith in
          absurd (none n (can_go_later g xs f s n e within h.0))
    ]

pub start_at : {S : Type 0} (xs : List (Node S)) (k : ℕ) → slice_index (start xs) k ≡ 0
start_at [] k = refl
start_at (x ∷ xs) zero = refl
start_at (x ∷ xs) (suc k) = start_at xs k

pub start_within : {S : Type 0} (xs : List (Node S)) (s : List ℕ) → Within (start xs) s
start_within xs s k = let e = start_at xs k in omega arith

pub reached_within : {S : Type 0} (g : Steps S) (xs : List (Node S)) (s ns f : List ℕ) → ((n : ℕ) → CanGo g xs s n → ⊥)
    → Reaches g xs ns f → Within f s
reached_within g xs s ns f none h = goes_within g xs s none ns (start xs) f (start_within xs s) h

pub goes_length : {S : Type 0} (g : Steps S) (xs : List (Node S)) (ns f to : List ℕ) → GoesOn g xs f ns to → length to
    ≡ length f
goes_length g xs [] f to h = ap length (sym h)
goes_length g xs (n ∷ ns) f to h = goes_length g xs ns (advance f n) to h.1 ∙ length-set f n (slice_index f n + 1)

pub reached_length : {S : Type 0} (g : Steps S) (xs : List (Node S)) (ns f : List ℕ) → Reaches g xs ns f → length f
    ≡ length xs
reached_length g xs ns f h = goes_length g xs ns (start xs) f h ∙ length-map xs (λ _. 0)

-- there is at most one stuck prefix
pub one_stuck : {S : Type 0} (g : Steps S) (xs : List (Node S)) (f s : List ℕ) → IsStuck g xs f → IsStuck g xs s → f ≡ s
one_stuck g xs f s hf hs =
    let lf = reached_length g xs hf.reached.0 f hf.reached.1 in
    let ls = reached_length g xs hs.reached.0 s hs.reached.1 in
    let below = reached_within g xs s hf.reached.0 f hs.none hf.reached.1 in
    let above = reached_within g xs f hs.reached.0 s hf.none hs.reached.1 in
    ext_get_or 0 f s (lf ∙ sym ls) (λ i _. let b = below i in let a = above i in omega arith)

-- a run has no stuck prefix
pub run_not_stuck : {S : Type 0} (g : Steps S) (xs : List (Node S)) (s : List ℕ) → IsRun g xs → IsStuck g xs s → ⊥
run_not_stuck g xs s run stuck =
    let within = reached_within g xs s run.0 (full xs) stuck.none run.1 in
    let n = stuck.left.0 in
    let at = some_from (slice_get xs n) _ stuck.left.1 in
    let here : slice_index (full xs) n ≡ length (at.0).entries =
    get_or-map (λ x. length x.entries) xs n at.0 0 (slice_get_within xs n at.0 at.1) ∙ ap (λ x. length x.entries)
    (get_or_from_slice_get xs n at.0 at.0 at.1) in
    let w = within n in
    let l = at.2 in
    omega arith
