-- States beside their traces, place by place.
use Rattle.std.proofs.Common.{◌≡◌, ℕ, zero, suc, ◌+◌, ◌<◌, List, [], ◌∷◌, length, get_or, Some, refl, sym, ap, ◌∙◌}
use Rattle.std.proofs.Common.{subst, inl, inr, arith, slice_index, slice_get, take, ◌++◌, map, All}
use Rattle.std.proofs.lemmas.List.{take_more, take_all, append-nil}
use Rattle.std.specs.Option.{option_to_list}
use Rattle.std.proofs.lemmas.Option.{slice_get_cases, slice_get_within, get_or_from_slice_get, same_Some}
use Rattle.base_turns.specs.declared.turns.Machine.{Ghosts}
use Rattle.base_turns.specs.declared.entry.Entry.{Entry}
use Rattle.base_turns.specs.Prefixes.{Node, full}
use Rattle.text_trace.specs.declared.trace.Trace.{Trace}
use Rattle.text_trace.specs.Going.{CanTake, CanTakeNext}
use Rattle.text_trace.specs.Merged.{StandFor, nodes_of, HaveThreads}
use Rattle.text_trace.proofs.PrefixLemmas.{some_from}

-- how many entries each trace has
abbrev pub ends : List Trace → List ℕ
ends ts = map (λ t. length t.entries) ts

pub nodes_of_length : {S : Type 0} (rs : List S) (ts : List Trace) → length ts ≡ length rs → length (nodes_of rs ts)
    ≡ length ts
nodes_of_length [] [] h = refl
nodes_of_length [] (b ∷ ts) h = absurd (omega arith)
nodes_of_length (a ∷ rs) [] h = absurd (omega arith)
nodes_of_length (a ∷ rs) (b ∷ ts) h = let i = nodes_of_length rs ts (omega arith) in omega arith

pub ends_full : {S : Type 0} (rs : List S) (ts : List Trace) → length ts ≡ length rs → full (nodes_of rs ts) ≡ ends ts
ends_full [] [] h = refl
ends_full [] (b ∷ ts) h = absurd (omega arith)
ends_full (a ∷ rs) [] h = absurd (omega arith)
ends_full (a ∷ rs) (b ∷ ts) h = ap (λ ns. length b.entries ∷ ns) (ends_full rs ts (omega arith))

-- a node of this state and this trace
abbrev pub node_of : {S : Type 0} → S → Trace → Node S
node_of r t = record { state = r; entries = t.entries }

pub nodes_of_at : {S : Type 0} (rs : List S) (ts : List Trace) (n : ℕ) (r : S) (t : Trace) → slice_get rs n ≡ Some r
    → slice_get ts n ≡ Some t → slice_get (nodes_of rs ts) n ≡ Some (node_of r t)
nodes_of_at [] ts n r t e e' = cc
nodes_of_at (a ∷ rs) [] n r t e e' = cc
nodes_of_at (a ∷ rs) (b ∷ ts) zero r t e e' = let p : a ≡ r = same_Some a r e in let q : b ≡ t = same_Some b t e' in cc
nodes_of_at (a ∷ rs) (b ∷ ts) (suc n) r t e e' = nodes_of_at rs ts n r t e e'

-- what stands at a place of the nodes stands there in states and traces
pub node_parts : {S : Type 0} (rs : List S) (ts : List Trace) (n : ℕ) (x : Node S) → slice_get (nodes_of rs ts) n
    ≡ Some x
    → (t : Trace) × (slice_get ts n ≡ Some t) × (x.entries ≡ t.entries) × (slice_get rs n ≡ Some x.state)
node_parts [] ts n x e = cc
node_parts (a ∷ rs) [] n x e = cc
node_parts {S} (a ∷ rs) (b ∷ ts) zero x e =
    let p : node_of a b ≡ x = same_Some (node_of a b) x e in
    (b, refl, sym (ap (λ (y : Node S). y.entries) p), ap (λ (y : Node S). Some y.state) p)
node_parts (a ∷ rs) (b ∷ ts) (suc n) x e = node_parts rs ts n x e

-- machines that stand for states are as many
pub stand_length : {M : Type 0} (g : Ghosts M) (ms : List M) (rs : List g.State) → StandFor g ms rs → length rs
    ≡ length ms
stand_length g [] [] h = refl
stand_length g [] (r ∷ rs) h = absurd h
stand_length g (m ∷ ms) [] h = absurd h
stand_length g (m ∷ ms) (r ∷ rs) h = let i = stand_length g ms rs h.1 in omega arith

-- each stands for the one at its place
pub stand_at : {M : Type 0} (g : Ghosts M) (ms : List M) (rs : List g.State) (n : ℕ) (m : M) → StandFor g ms rs
    → slice_get ms n ≡ Some m → (r : g.State) × (slice_get rs n ≡ Some r) × g.stands m r
stand_at g [] rs n m h e = cc
stand_at g (a ∷ ms) [] n m h e = absurd h
stand_at g (a ∷ ms) (r ∷ rs) zero m h e = (r, refl, subst (λ m'. g.stands m' r) (same_Some a m e) h.0)
stand_at g (a ∷ ms) (r ∷ rs) (suc n) m h e = stand_at g ms rs n m h.1 e

-- one more of a list
pub take_more_get : {A : Type 0} (xs : List A) (i : ℕ) → take (i + 1) xs ≡ take i xs ++ option_to_list (slice_get xs i)
take_more_get xs i = elim (slice_get_cases xs i).1 [
  | inl x ↦ take_more xs i x.0 x.1 ∙ ap (λ ys. take i xs ++ ys) (ap (λ y. y ∷ []) x.3 ∙ sym (ap option_to_list x.2))
  | inr past ↦ take_all (i + 1) xs (let l = past.0 in omega arith) ∙ sym (take_all i xs past.0)
      ∙ sym (append-nil (take i xs)) ∙ ap (λ ys. take i xs ++ ys) (sym (ap option_to_list past.1))
]

pub all_at : {A : Type 0} (P : A → Type 0) (xs : List A) (n : ℕ) (x : A) → All P xs → slice_get xs n ≡ Some x → P x
all_at P xs n x h e = subst P (get_or_from_slice_get xs n x x e) (h n x (slice_get_within xs n x e))

-- the next entry of a node is within its trace
pub next_within : {M : Type 0} (g : Ghosts M) (ms : List M) (ts : List Trace) (f : List ℕ) (n : ℕ) (t : Trace)
    (es : List Entry) → CanTakeNext g ms ts f n → es ≡ (get_or ts n t).entries → slice_index f n < length es
next_within g ms ts f n t es takes e =
    let m = some_from (slice_get ms n) _ takes in
    let u = some_from (slice_get ts n) _ m.2 in
    let x = some_from (slice_get (u.0).entries (slice_index f n)) _ u.2 in
    let same : length es ≡ length (u.0).entries =
    ap length (e ∙ ap (λ (t' : Trace). t'.entries) (get_or_from_slice_get ts n u.0 t u.1)) in
    omega (arith, slice_get_within (u.0).entries (slice_index f n) x.0 x.1)

-- the next entry of a node, as the code reads it
pub record NextRead {M : Type 0} (g : Ghosts M) (ms : List M) (ts : List Trace) (f : List ℕ) (n : ℕ) (m : M) (t : Trace)
    (e : Entry) : Type 0 where
  pub machine_at : slice_get ms n ≡ Some m
  pub trace_at : slice_get ts n ≡ Some t
  pub entry_at : slice_get t.entries (slice_index f n) ≡ Some e
  pub thread : e.thread < g.thread_count m
  pub takes : CanTake g m e

pub next_read : {M : Type 0} (g : Ghosts M) (ms : List M) (ts : List Trace) (f : List ℕ) (n : ℕ) (d : M) (t : Trace)
    (es : List Entry) (e : Entry)
    → CanTakeNext g ms ts f n → HaveThreads g ms ts → es ≡ (get_or ts n t).entries → e ≡ get_or es (slice_index f n) e
    → NextRead g ms ts f n (get_or ms n d) (get_or ts n t) e
next_read {M} g ms ts f n d t es e takes threads e1 e2 =
    let m = some_from (slice_get ms n) _ takes in
    let u = some_from (slice_get ts n) _ m.2 in
    let x = some_from (slice_get (u.0).entries (slice_index f n)) _ u.2 in
    let m_is : get_or ms n d ≡ m.0 = get_or_from_slice_get ms n m.0 d m.1 in
    let t_is : get_or ts n t ≡ u.0 = get_or_from_slice_get ts n u.0 t u.1 in
    let e_is : e ≡ x.0 = e2 ∙ ap (λ zs. get_or zs (slice_index f n) e) (e1 ∙ ap (λ (t' : Trace). t'.entries) t_is)
    ∙ get_or_from_slice_get (u.0).entries (slice_index f n) x.0 e x.1 in
    let machine_at : slice_get ms n ≡ Some (get_or ms n d) = m.1 ∙ ap Some (sym m_is) in
    let trace_at : slice_get ts n ≡ Some (get_or ts n t) = u.1 ∙ ap Some (sym t_is) in
    let entry_at : slice_get (get_or ts n t).entries (slice_index f n) ≡ Some e =
    ap (λ (t' : Trace). slice_get t'.entries (slice_index f n)) t_is ∙ x.1 ∙ ap Some (sym e_is) in
    record {
      machine_at = machine_at;
      trace_at = trace_at;
      entry_at = entry_at;
      thread = all_at (λ e'. e'.thread < g.thread_count (get_or ms n d)) (get_or ts n t).entries (slice_index f n) e
          (threads n (get_or ms n d) machine_at (get_or ts n t) trace_at) entry_at;
      takes = subst (λ (m' : M). CanTake g m' e) (sym m_is) (subst (λ (e' : Entry). CanTake g m.0 e') (sym e_is) x.2);
    }
