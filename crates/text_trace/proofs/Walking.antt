-- What a merge keeps while entries go.
use Rattle.std.proofs.Common.{◌≡◌, ℕ, zero, suc, ◌+◌, ◌*◌, ◌-◌, ◌<◌, ◌≤◌, Bool, true, false, cond, List, [], ◌∷◌, ◌++◌}
use Rattle.std.proofs.Common.{length, get_or, take, Option, Some, None, refl, sym, ap, ◌∙◌, subst, ◌⊎◌, inl, inr, arith}
use Rattle.std.proofs.Common.{slice_get, slice_set, slice_index, Contains, IsSome, IsSomeAnd, All, sum, replicate, ◌^◌}
use Rattle.std.proofs.Common.{lit<}
use Rattle.std.proofs.lemmas.List.{take_more, length-set, length-map, append-nil, get_or-map, length-replicate}
use Rattle.std.proofs.lemmas.List.Elements.{Contains-append_right, Contains-append_cases, All-head, All-tail}
use Rattle.std.proofs.lemmas.Bool.{cases_eq, both_ways}
use Rattle.std.proofs.lemmas.Option.{slice_get_within, slice_get_cases, get_or_from_slice_get, same_Some}
use Rattle.base_turns.specs.declared.entry.Entry.{Entry}
use Rattle.base_turns.specs.declared.turns.Machine.{Ghosts}
use Rattle.base_turns.specs.Replay.{Steps, steps_of, replay_state, sent_in, given_by}
use Rattle.base_turns.specs.Prefixes.{Node, replay, sent_of, start, advance, WasSent, CanGet, CanGo, GoesOn, Reaches}
use Rattle.base_turns.specs.Prefixes.{HasLeft}
use Rattle.text_trace.specs.declared.trace.Trace.{Trace}
use Rattle.text_trace.specs.declared.trace.Placed.{Placed}
use Rattle.text_trace.specs.Going.{MergeState, MayGet, MayGo, Judges, IsBlocked, TookNext, IsLeftAt}
use Rattle.text_trace.specs.Noted.{PlaceMaps, MarkLists, Marks, IsNoted, spot}
use Rattle.text_trace.specs.Merged.{StandFor, nodes_of, HaveThreads, placed_by, AreReplays}
use Rattle.text_trace.proofs.PrefixLemmas.{some_from, some_at, some_then, sent_in-append, replayed-append, Within}
use Rattle.text_trace.proofs.PrefixLemmas.{was_sent_later, advance_same, advance_other, advance_within, start_at}
use Rattle.text_trace.proofs.Deciding.{goes_push, sum_within, sum_advance}
use Rattle.text_trace.proofs.NodeLemmas.{ends, nodes_of_at, node_parts, nodes_of_length, stand_at, stand_length}
use Rattle.base_lists.proofs.Indexes.{get-set_same, get-set_other}

-- an order that came to a prefix
abbrev pub Came : {S : Type 0} → Steps S → List (Node S) → List ℕ → List Placed → Type 0
Came g xs f placed = (ns : List ℕ) × Reaches g xs ns f × (placed ≡ placed_by (start xs) ns)

-- some entry of the node's trace got the datagram
abbrev pub IsGot : {S : Type 0} → List (Node S) → ℕ → List ℕ → Type 0
IsGot xs n b = IsSomeAnd (slice_get xs n) (λ x. (i : ℕ) × IsSomeAnd (slice_get x.entries i) (λ e. e.got ≡ Some b))

-- what is kept was sent, and of what was sent all that the traces got is kept
pub record SentAt {S : Type 0} (g : Steps S) (xs : List (Node S)) (f : List ℕ) (sent : ℕ → List ℕ → Type 0) : Type 0
  where
    pub no_more : (n : ℕ) (bytes : List ℕ) → sent n bytes → WasSent g xs f n bytes
    pub found : (n : ℕ) (bytes : List ℕ) → IsGot xs n bytes → WasSent g xs f n bytes → sent n bytes

-- what the code knows of a prefix, apart from states
pub record Walk {M : Type 0} (g : Ghosts M) (ts : List Trace) (f : List ℕ) (ms : List M) : Type 0 where
  pub size : length f ≡ length ts
  pub within : Within f (ends ts)
  pub threads : HaveThreads g ms ts

-- what holds of a prefix for the states for which the machines stood
pub record Stood {M : Type 0} (g : Ghosts M) (xs : List (Node g.State)) (f : List ℕ) (ms : List M) (sent : ℕ → List ℕ
    → Type 0) (placed : List Placed) : Type 0 where
  pub came : Came (steps_of g) xs f placed
  pub replays : AreReplays g xs f ms
  pub kept : SentAt (steps_of g) xs f sent

-- one more entry

pub replay_more : {S : Type 0} (g : Steps S) (x : Node S) (i : ℕ) (e : Entry) → slice_get x.entries i ≡ Some e
    → replay g x (i + 1) ≡ g.after (replay g x i) e.thread e.now e.got
replay_more g x i e at =
    ap (replay_state g x.state) (take_more x.entries i e (slice_get_within x.entries i e at)) ∙ replayed-append g x.state
    (take i x.entries) (get_or x.entries i e ∷ [])
    ∙ ap (λ (e' : Entry). g.after (replay g x i) e'.thread e'.now e'.got) (get_or_from_slice_get x.entries i e e at)

pub sent_of_more : {S : Type 0} (g : Steps S) (x : Node S) (i : ℕ) (e : Entry) → slice_get x.entries i ≡ Some e
    → sent_of g x (i + 1) ≡ sent_of g x i ++ given_by g (replay g x i) e
sent_of_more g x i e at =
    ap (sent_in g x.state) (take_more x.entries i e (slice_get_within x.entries i e at)) ∙ sent_in-append g x.state
    (take i x.entries) (get_or x.entries i e ∷ [])
    ∙ ap (λ ds. sent_of g x i ++ ds) (append-nil (given_by g (replay g x i) (get_or x.entries i e))
    ∙ ap (given_by g (replay g x i)) (get_or_from_slice_get x.entries i e e at))

get_can : {S : Type 0} (g : Steps S) (xs : List (Node S)) (f : List ℕ) (sent : ℕ → List ℕ → Type 0) (n : ℕ) (m : S)
    (thread : ℕ) (got : Option (List ℕ)) → SentAt g xs f sent → MayGet (g.polls m thread) (sent n) got
    → CanGet g xs f n m thread
    got
get_can g xs f sent n m thread None s h = tt
get_can g xs f sent n m thread (Some bytes) s h = (h.0, s.no_more n bytes h.1)

get_may : {S : Type 0} (g : Steps S) (xs : List (Node S)) (f : List ℕ) (sent : ℕ → List ℕ → Type 0) (n : ℕ) (m : S)
    (thread : ℕ) (got : Option (List ℕ)) → SentAt g xs f sent → ((b : List ℕ) → got ≡ Some b → IsGot xs n b)
    → CanGet g xs f n m thread got → MayGet (g.polls m thread) (sent n) got
get_may g xs f sent n m thread None s is_got h = tt
get_may g xs f sent n m thread (Some bytes) s is_got h = (h.0, s.found n bytes (is_got bytes refl) h.1)

-- the numbers of an order

abbrev placed_at : List ℕ → ℕ → List Placed
placed_at t n = record { node = n; entry = slice_index t n + 1 } ∷ []

pub placed_push : {S : Type 0} (g : Steps S) (xs : List (Node S)) (ns f to : List ℕ) (n : ℕ) → GoesOn g xs f ns to
    → placed_by f (ns ++ n ∷ []) ≡ placed_by f ns ++ record { node = n; entry = slice_index to n + 1 } ∷ []
placed_push g xs [] f to n h = ap (λ t. placed_at t n) h
placed_push g xs (m ∷ ns) f to n h = ap (λ ps. record { node = m; entry = slice_index f m + 1 } ∷ ps)
    (placed_push g xs ns (advance f m) to n h.1)

pub came_push : {S : Type 0} (g : Steps S) (xs : List (Node S)) (f : List ℕ) (n : ℕ) (placed : List Placed)
    → CanGo g xs f n → Came g xs f placed
    → Came g xs (advance f n) (placed ++ record { node = n; entry = slice_index f n + 1 } ∷ [])
came_push g xs f n placed go came = (
  came.0 ++ n ∷ [],
  goes_push g xs came.0 (start xs) f n came.1 go,
  ap (λ ps. ps ++ record { node = n; entry = slice_index f n + 1 } ∷ []) came.2
      ∙ sym (placed_push g xs came.0 (start xs) f n came.1),
)

within_more : (f : List ℕ) (n : ℕ) → n < length f → Within f (advance f n)
within_more f n l k = elim (cases_eq k n) [
  | inl e ↦ let a = advance_same f n l in subst (λ i. slice_index f i ≤ slice_index (advance f n) i) (sym e)
      (omega arith)
  | inr d ↦ let a = advance_other f n k d in omega arith
]

-- these datagrams, and no others, were kept, those of them that the traces got
pub record Adds {S : Type 0} (xs : List (Node S)) (old new : ℕ → List ℕ → Type 0) (ds : List (ℕ × List ℕ)) : Type 0
  where
    pub no_more : (n : ℕ) (b : List ℕ) → new n b → old n b ⊎ Contains ds (n, b)
    pub kept : (n : ℕ) (b : List ℕ) → old n b → new n b
    pub noted : (n : ℕ) (b : List ℕ) → Contains ds (n, b) → IsGot xs n b → new n b

-- the datagrams after an entry went
sent_step : {S : Type 0} (g : Steps S) (xs : List (Node S)) (f : List ℕ) (old new : ℕ → List ℕ → Type 0) (n : ℕ)
    (x : Node S) (e : Entry) → n < length f → slice_get xs n ≡ Some x → slice_get x.entries (slice_index f n) ≡ Some e
    → Adds xs old new (given_by g (replay g x (slice_index f n)) e) → SentAt g xs f old → SentAt g xs (advance f n) new
sent_step {S} g xs f old new n x e l at at' adds s =
    let given = given_by g (replay g x (slice_index f n)) e in
    let more = sent_of_more g x (slice_index f n) e at' in
    let same = advance_same f n l in
    record {
      no_more = λ k bytes h. elim (adds.no_more k bytes h) [
        | inl h' ↦ was_sent_later g xs f (advance f n) k bytes (within_more f n l) (s.no_more k bytes h')
        | inr h' ↦ (
          n,
          some_at (slice_get xs n) (λ x'. Contains (sent_of g x' (slice_index (advance f n) n)) (k, bytes)) x at
              (subst (λ i. Contains (sent_of g x i) (k, bytes)) (sym same) (subst (λ ds. Contains ds (k, bytes))
              (sym more) (Contains-append_right (sent_of g x (slice_index f n)) given (k, bytes) h'))),
        )
      ];
      found = λ k bytes got h. elim (cases_eq h.0 n) [
        | inl j ↦
            let here = some_from (slice_get xs n) (λ x'. Contains (sent_of g x' (slice_index (advance f n) n))
            (k, bytes))
            (subst (λ i. IsSomeAnd (slice_get xs i) (λ x'. Contains (sent_of g x' (slice_index (advance f n) i))
            (k, bytes))) j h.1) in
            let c1 = subst (λ (x' : Node S). Contains (sent_of g x' (slice_index (advance f n) n)) (k, bytes))
            (same_Some here.0 x (sym here.1 ∙ at)) here.2 in
            let c2 = subst (λ i. Contains (sent_of g x i) (k, bytes)) same c1 in
            elim (Contains-append_cases (sent_of g x (slice_index f n)) given (k, bytes)
            (subst (λ ds. Contains ds (k, bytes)) more c2)) [
              | inl h' ↦ adds.kept k bytes
                  (s.found k bytes got (
                    n,
                    some_at (slice_get xs n) (λ x'. Contains (sent_of g x' (slice_index f n))
                        (k, bytes)) x at h',
                  ))
              | inr h' ↦ adds.noted k bytes h' got
            ]
        | inr j ↦ adds.kept k bytes
            (s.found k bytes got (
              h.0,
              subst (λ i. IsSomeAnd (slice_get xs h.0) (λ x'. Contains (sent_of g x' i) (k, bytes)))
                  (advance_other f n h.0 j) h.1,
            ))
      ];
    }

-- what was marked
pub adds_marks : {S : Type 0} (xs : List (Node S)) (ps : PlaceMaps) (old new : MarkLists) (ds : List (ℕ × List ℕ))
    → ((n : ℕ) (b : List ℕ) → IsGot xs n b → IsSome (spot ps n b)) → Marks ps old new ds → Adds xs (IsNoted ps old)
    (IsNoted ps new) ds
adds_marks xs ps old new ds found m = record {
  no_more = m.no_more;
  kept = m.kept;
  noted = λ n b h got. m.noted n b h (found n b got);
}

-- the machines after an entry went
replays_step : {M : Type 0} (g : Ghosts M) (xs : List (Node g.State)) (f : List ℕ) (ms : List M) (n : ℕ)
    (x : Node g.State) (e : Entry) (left : M) → n < length f → n < length ms → slice_get xs n ≡ Some x
    → slice_get x.entries (slice_index f n) ≡ Some e
    → g.stands left (g.after (replay (steps_of g) x (slice_index f n)) e.thread e.now e.got) → AreReplays g xs f ms
    → AreReplays g xs (advance f n) (slice_set ms n left)
replays_step {M} g xs f ms n x e left l l' at at' stands replays k m e' =
    elim (cases_eq k n) [
      | inl j ↦
          let is : left ≡ m = same_Some left m (sym (get-set_same ms n left l')
          ∙ ap (slice_get (slice_set ms n left)) (sym j) ∙ e') in
          let now : g.stands left (replay (steps_of g) x (slice_index (advance f n) n)) =
          subst (g.stands left) (sym (replay_more (steps_of g) x (slice_index f n) e at') ∙ ap (replay (steps_of g) x)
          (sym (advance_same f n l))) stands in
          subst (λ i. IsSomeAnd (slice_get xs i)
          (λ z. g.stands m (replay (steps_of g) z (slice_index (advance f n) i)))) (sym j)
          (some_at (slice_get xs n) (λ z. g.stands m (replay (steps_of g) z (slice_index (advance f n) n))) x at
          (subst (λ m'. g.stands m' (replay (steps_of g) x (slice_index (advance f n) n))) is now))
      | inr d ↦ subst (λ i. IsSomeAnd (slice_get xs k) (λ z. g.stands m (replay (steps_of g) z i)))
          (sym (advance_other f n k d))
          (replays k m (sym (get-set_other ms n left k d) ∙ e'))
    ]

-- ---- the whole step

pub ends_at : (ts : List Trace) (n : ℕ) (t : Trace) → slice_get ts n ≡ Some t → slice_index (ends ts) n
    ≡ length t.entries
ends_at ts n t e = get_or-map (λ x. length x.entries) ts n t 0 (slice_get_within ts n t e) ∙ ap (λ x. length x.entries)
    (get_or_from_slice_get ts n t t e)

pub record Next {M : Type 0} (g : Ghosts M) (ts : List Trace) (f : List ℕ) (n : ℕ) (ms' : List M) : Type 0 where
  pub walk : Walk g ts (advance f n) ms'
  pub below : slice_index f n < slice_index (ends ts) n
  pub counts : (sum (advance f n) ≡ sum f + 1) × (sum f + 1 ≤ sum (ends ts))

pub walk_next : {M : Type 0} (g : Ghosts M) (before : MergeState M) (ms' : List M) (new : MarkLists) (n : ℕ)
    → Walk g before.traces before.prefix before.machines → TookNext g before n ms' new
    → Next g before.traces before.prefix n ms'
walk_next {M} g before ms' new n w t =
    let ts = before.traces in
    let f = before.prefix in
    let ms = before.machines in
    let l : n < length f = omega (arith, slice_get_within ts n t.trace t.trace_at, w.size) in
    let l' : n < length ms = slice_get_within ms n t.machine t.machine_at in
    let below : slice_index f n < slice_index (ends ts) n = omega (
      arith,
      ends_at ts n t.trace t.trace_at,
      slice_get_within (t.trace).entries (slice_index f n) t.entry t.entry_at,
    ) in
    let within = advance_within f (ends ts) n w.within below in
    let size : length (advance f n) ≡ length ts = length-set f n (slice_index f n + 1) ∙ w.size in
    let one = sum_advance f n l in
    let most = sum_within (advance f n) (ends ts) (size ∙ sym (length-map ts (λ x. length x.entries))) within in
    record {
      walk = record {
        size = size;
        within = within;
        threads = λ k m e t' e'. elim (cases_eq k n) [
          | inl j ↦
              let is : t.left ≡ m = same_Some t.left m (sym (get-set_same ms n t.left l')
              ∙ ap (slice_get (slice_set ms n t.left)) (sym j) ∙ sym (ap (λ zs. slice_get zs k) t.machines) ∙ e) in
              let before = w.threads n t.machine t.machine_at t' (ap (slice_get ts) (sym j) ∙ e') in
              let count : g.thread_count m ≡ g.thread_count t.machine = ap g.thread_count (sym is) ∙ t.took.threads in
              λ i d h. let b = before i d h in omega arith
          | inr d ↦ w.threads k m (sym (get-set_other ms n t.left k d)
              ∙ sym (ap (λ zs. slice_get zs k) t.machines) ∙ e) t' e'
        ];
      };
      below = below;
      counts = (one, omega arith);
    }

pub stood_next : {M : Type 0} (g : Ghosts M) (rs : List g.State) (before : MergeState M) (ms' : List M)
    (new : MarkLists) (n : ℕ) (b : Bool) (placed : List Placed)
    → Walk g before.traces before.prefix before.machines → Judges g before n b → b ≡ true → TookNext g before n ms' new
    → ((k : ℕ) (bytes : List ℕ) → IsGot (nodes_of rs before.traces) k bytes → IsSome (spot before.places k bytes))
    → Stood g (nodes_of rs before.traces) before.prefix before.machines (IsNoted before.places before.marks) placed
    → Stood g (nodes_of rs before.traces) (advance before.prefix n) ms' (IsNoted before.places new)
    (placed ++ record { node = n; entry = slice_index before.prefix n + 1 } ∷ [])
stood_next {M} g rs before ms' new n b placed w judges is_true t found s =
    let ts = before.traces in
    let f = before.prefix in
    let ms = before.machines in
    let ps = before.places in
    let old = before.marks in
    let xs = nodes_of rs ts in
    let l : n < length f = omega (arith, slice_get_within ts n t.trace t.trace_at, w.size) in
    let l' : n < length ms = slice_get_within ms n t.machine t.machine_at in
    let x = some_from (slice_get xs n) _ (s.replays n t.machine t.machine_at) in
    let q = node_parts rs ts n x.0 x.1 in
    let same : (x.0).entries ≡ (t.trace).entries = q.2 ∙ ap (λ (t' : Trace). t'.entries)
    (same_Some q.0 t.trace (sym q.1 ∙ t.trace_at)) in
    let r = replay (steps_of g) x.0 (slice_index f n) in
    let may : MayGo (steps_of g) (record { state = r; entries = (x.0).entries }) (IsNoted ps old n)
    (slice_index f n) =
    subst (λ es. MayGo (steps_of g) (record { state = r; entries = es }) (IsNoted ps old n) (slice_index f n))
    (sym same)
    ((judges t.machine t.machine_at t.trace t.trace_at r x.2).0 is_true) in
    let go : CanGo (steps_of g) xs f n =
    some_at (slice_get xs n) (λ z. IsSomeAnd (slice_get z.entries (slice_index f n))
    (λ e. CanGet (steps_of g) xs f n (replay (steps_of g) z (slice_index f n)) e.thread e.got)) x.0 x.1
    (some_then (slice_get (x.0).entries (slice_index f n)) _ _ (λ e _ p. get_can (steps_of g) xs f (IsNoted ps old) n r
    e.thread e.got s.kept p) may) in
    let at : slice_get (x.0).entries (slice_index f n) ≡ Some t.entry = ap (λ es. slice_get es (slice_index f n)) same
    ∙ t.entry_at in
    record {
      came = came_push (steps_of g) xs f n placed go s.came;
      replays = subst (AreReplays g xs (advance f n)) (sym t.machines) (replays_step g xs f ms n x.0 t.entry t.left l l'
          x.1 at (t.took.after r x.2) s.replays);
      kept = sent_step (steps_of g) xs f (IsNoted ps old) (IsNoted ps new) n x.0 t.entry l x.1 at
          (adds_marks xs ps old new (given_by (steps_of g) r t.entry) found (t.took.marks r x.2)) s.kept;
    }

-- ---- the beginning

start_is : {S : Type 0} (xs : List (Node S)) → start xs ≡ replicate (length xs) 0
start_is [] = refl
start_is (x ∷ xs) = ap (λ f. 0 ∷ f) (start_is xs)

sent_none : {S : Type 0} (g : Steps S) (xs : List (Node S)) (sent : ℕ → List ℕ → Type 0)
    → ((n : ℕ) (b : List ℕ) → sent n b → ⊥) → SentAt g xs (start xs) sent
sent_none {S} g xs sent none = record {
  no_more = λ n bytes h. absurd (none n bytes h);
  found = λ n bytes _ h. let x = some_from (slice_get xs h.0) _ h.1 in
      let c = subst (λ i. Contains (sent_of g x.0 i) (n, bytes)) (start_at xs h.0) x.2 in
      let l = c.1 in absurd (omega arith);
}

zero_at : (n k : ℕ) → slice_index (replicate n 0) k ≡ 0
zero_at zero k = refl
zero_at (suc n) zero = refl
zero_at (suc n) (suc k) = zero_at n k

pub walk_start : {M : Type 0} (g : Ghosts M) (ts : List Trace) (f : List ℕ) (ms : List M) → length ts ≡ length ms → f
    ≡ replicate (length ms) 0 → HaveThreads g ms ts → Walk g ts f ms
walk_start g ts f ms l e threads = record {
  size = ap length e ∙ length-replicate (length ms) 0 ∙ sym l;
  within = λ k. let z : slice_index f k ≡ 0 = ap (λ f'. slice_index f' k) e ∙ zero_at (length ms) k in omega arith;
  threads = threads;
}

pub start_is_prefix : {M : Type 0} (g : Ghosts M) (rs : List g.State) (ts : List Trace) (f : List ℕ) (ms : List M)
    → length ts ≡ length ms → StandFor g ms rs → f ≡ replicate (length ms) 0 → start (nodes_of rs ts) ≡ f
start_is_prefix g rs ts f ms l stand e = let k = stand_length g ms rs stand in let len : length (nodes_of rs ts)
    ≡ length ms = nodes_of_length rs ts (omega arith) ∙ l in start_is (nodes_of rs ts) ∙ ap (λ i. replicate i 0) len
    ∙ sym e

pub replays_start : {M : Type 0} (g : Ghosts M) (rs : List g.State) (ts : List Trace) (ms : List M) → length ts
    ≡ length ms → StandFor g ms rs → AreReplays g (nodes_of rs ts) (start (nodes_of rs ts)) ms
replays_start {M} g rs ts ms l stand n m at =
    let r = stand_at g ms rs n m stand at in
    elim (slice_get_cases ts n).1 [
      | inl t ↦ some_at (slice_get (nodes_of rs ts) n)
          (λ x. g.stands m (replay (steps_of g) x (slice_index (start (nodes_of rs ts)) n)))
          (record { state = r.0; entries = (t.0).entries }) (nodes_of_at rs ts n r.0 t.0 r.1 t.2)
          (subst (λ i. g.stands m (replay_state (steps_of g) r.0 (take i (t.0).entries)))
          (sym (start_at (nodes_of rs ts) n)) r.2)
      | inr past ↦ absurd (omega (arith, past.0, slice_get_within ms n m at))
    ]

pub stood_start : {M : Type 0} (g : Ghosts M) (rs : List g.State) (ts : List Trace) (f : List ℕ) (ms : List M)
    (sent : ℕ → List ℕ → Type 0) (placed : List Placed)
    → length ts ≡ length ms → StandFor g ms rs → f ≡ replicate (length ms) 0 → placed ≡ []
    → ((n : ℕ) (b : List ℕ) → sent n b → ⊥) → Stood g (nodes_of rs ts) f ms sent placed
stood_start {M} g rs ts f ms sent placed l stand e e2 none =
    subst (λ f'. Stood g (nodes_of rs ts) f' ms sent placed) (start_is_prefix g rs ts f ms l stand e) (record {
      came = ([], refl, e2);
      replays = replays_start g rs ts ms l stand;
      kept = sent_none (steps_of g) (nodes_of rs ts) sent none;
    })

-- ---- the end

pub ends_below : (ts : List Trace) (n : ℕ) → All (λ t. length t.entries < 2 ^ 32) ts → slice_index (ends ts) n < 2 ^ 32
ends_below [] n h = lit< tt
ends_below (b ∷ ts) zero h = All-head (λ t. length t.entries < 2 ^ 32) b ts h
ends_below (b ∷ ts) (suc n) h = ends_below ts n (All-tail (λ t. length t.entries < 2 ^ 32) b ts h)

pub left_ends : (ts : List Trace) (f : List ℕ) (n : ℕ) → IsLeftAt ts f n → slice_index f n < slice_index (ends ts) n
left_ends ts f n h = let t = some_from (slice_get ts n) _ h in let e = ends_at ts n t.0 t.1 in let l = t.2 in
    omega arith

pub left_trace : {S : Type 0} (rs : List S) (ts : List Trace) (f : List ℕ) (n : ℕ) → HasLeft (nodes_of rs ts) f n
    → IsLeftAt ts f n
left_trace rs ts f n h =
    let x = some_from (slice_get (nodes_of rs ts) n) _ h in
    let p = node_parts rs ts n x.0 x.1 in
    let same : length (x.0).entries ≡ length (p.0).entries = ap length p.2 in
    let l = x.2 in
    some_at (slice_get ts n) _ p.0 p.1 (omega arith)

pub trace_left : {S : Type 0} (rs : List S) (ts : List Trace) (f : List ℕ) (n : ℕ) → length ts ≡ length rs
    → IsLeftAt ts f n → HasLeft (nodes_of rs ts) f n
trace_left {S} rs ts f n h k =
    let t = some_from (slice_get ts n) _ k in
    elim (slice_get_cases rs n).1 [
      | inl r ↦ some_at (slice_get (nodes_of rs ts) n) (λ x. slice_index f n < length x.entries)
          (record { state = r.0; entries = (t.0).entries }) (nodes_of_at rs ts n r.0 t.0 r.2 t.1) t.2
      | inr past ↦ absurd (omega (arith, past.0, slice_get_within ts n t.0 t.1))
    ]

-- the answer that an entry may not go
pub judged_blocked : {M : Type 0} (g : Ghosts M) (merging : MergeState M) (n : ℕ) (b : Bool)
    → Judges g merging n b → b ≡ false → IsBlocked g merging n
judged_blocked g merging n b judges is_false m at t at' r stands may = both_ways b is_false
    ((judges m at t at' r stands).1 may)

-- where none may go now, none can go at the prefix
pub none_can : {M : Type 0} (g : Ghosts M) (rs : List g.State) (merging : MergeState M) (placed : List Placed)
    → length merging.traces ≡ length merging.machines
    → Stood g (nodes_of rs merging.traces) merging.prefix merging.machines (IsNoted merging.places merging.marks) placed
    → ((n : ℕ) → n < length merging.machines → IsBlocked g merging n)
    → (n : ℕ) → CanGo (steps_of g) (nodes_of rs merging.traces) merging.prefix n → ⊥
none_can {M} g rs merging placed l s none n go =
    let ts = merging.traces in
    let f = merging.prefix in
    let ms = merging.machines in
    let kept = IsNoted merging.places merging.marks in
    let xs = nodes_of rs ts in
    let x = some_from (slice_get xs n) _ go in
    let q = node_parts rs ts n x.0 x.1 in
    elim (slice_get_cases ms n).1 [
      | inl m ↦
          let y = some_from (slice_get xs n) _ (s.replays n m.0 m.2) in
          let stands : g.stands m.0 (replay (steps_of g) x.0 (slice_index f n)) =
          subst (λ (z : Node g.State). g.stands m.0 (replay (steps_of g) z (slice_index f n)))
          (same_Some y.0 x.0 (sym y.1 ∙ x.1)) y.2 in
          let may : MayGo (steps_of g)
          (record { state = replay (steps_of g) x.0 (slice_index f n); entries = (x.0).entries }) (kept n)
          (slice_index f n) =
          some_then (slice_get (x.0).entries (slice_index f n)) _ _ (λ e at p. get_may (steps_of g) xs f kept n
          (replay (steps_of g) x.0 (slice_index f n)) e.thread e.got s.kept
          (λ b got. some_at (slice_get xs n) (λ z. (i : ℕ) × IsSomeAnd (slice_get z.entries i) (λ e'. e'.got ≡ Some b))
          x.0 x.1
          (slice_index f n, some_at (slice_get (x.0).entries (slice_index f n)) (λ e'. e'.got ≡ Some b) e at got)) p)
          x.2 in
          none n (slice_get_within ms n m.0 m.2) m.0 m.2 q.0 q.1 (replay (steps_of g) x.0 (slice_index f n)) stands
          (subst (λ es. MayGo (steps_of g)
          (record { state = replay (steps_of g) x.0 (slice_index f n); entries = es }) (kept n) (slice_index f n)) q.2
          may)
      | inr past ↦ absurd (omega (arith, l, past.0, slice_get_within ts n q.0 q.1))
    ]

-- a round lets an entry go, or is the last
round_less : (t a b : ℕ) (is : Bool) → a ≤ b → (is ≡ true → a < b) → b ≤ t → 2 * (t - b) + cond is 1 0 < 2 * (t - a) + 1
round_less t a b true h f l = let s = f refl in omega arith
round_less t a b false h f l = omega arith

pub round_smaller : {M : Type 0} (g : Ghosts M) (ts : List Trace) (f : List ℕ) (ms : List M) (a : ℕ) (was is : Bool)
    → Walk g ts f ms → was ≡ true → a ≤ sum f → (is ≡ true → a < sum f)
    → 2 * (sum (ends ts) - sum f) + cond is 1 0 < 2 * (sum (ends ts) - a) + cond was 1 0
round_smaller g ts f ms a was is w e h l =
    let top = sum_within f (ends ts) (w.size ∙ sym (length-map ts (λ x. length x.entries))) w.within in
    subst (λ b. 2 * (sum (ends ts) - sum f) + cond is 1 0 < 2 * (sum (ends ts) - a) + cond b 1 0) (sym e)
    (round_less (sum (ends ts)) a (sum f) is h l top)
