-- What a merge answers where it ends.
use Rattle.std.proofs.Common.{◌≡◌, ℕ, ◌+◌, ◌<◌, ◌≤◌, Bool, true, List, [], length, refl, sym, ◌∙◌, subst, ◌⊎◌, inl, inr}
use Rattle.std.proofs.Common.{arith, slice_index, replicate, Ok, Err, Vec}
use Rattle.std.specs.Global.{Global}
use Rattle.std.proofs.lemmas.Bool.{cases_eq}
use Rattle.base_turns.specs.declared.turns.Machine.{Ghosts}
use Rattle.base_turns.specs.Prefixes.{Node, full, HasLeft}
use Rattle.text_trace.specs.declared.trace.Trace.{Trace}
use Rattle.text_trace.specs.declared.trace.Placed.{Placed}
use Rattle.text_trace.specs.declared.merging.MergeFault.TheVariants.{NotARun, NoMemory}
use Rattle.text_trace.specs.Going.{MergeState, IsBlocked, IsLeftAt}
use Rattle.text_trace.specs.Noted.{IsNoted}
use Rattle.text_trace.specs.Merged.{StandFor, nodes_of, Merges}
use Rattle.text_trace.proofs.PrefixLemmas.{Within}
use Rattle.text_trace.proofs.Deciding.{all_gone}
use Rattle.text_trace.proofs.NodeLemmas.{ends, ends_full, nodes_of_length}
use Rattle.text_trace.proofs.Walking.{Walk, Stood, start_is_prefix, replays_start, left_trace, trace_left, none_can}

-- before any entry went
pub merges_start : {M : Type 0} (g : Ghosts M) (rs : List g.State) (ts : List Trace) (ms : List M) → length ts
    ≡ length ms → StandFor g ms rs → Merges g (nodes_of rs ts) (replicate (length ms) 0) (Err NoMemory) ms
merges_start {M} g rs ts ms l stand =
    subst (λ f. Merges g (nodes_of rs ts) f (Err NoMemory) ms) (start_is_prefix g rs ts (replicate (length ms) 0) ms l
    stand refl)
    (record { answers = ([], refl); replays = replays_start g rs ts ms l stand })

-- where memory ran out
pub merges_cut : {M : Type 0} (g : Ghosts M) (xs : List (Node g.State)) (f : List ℕ) (ms : List M) (kept : ℕ → List ℕ
    → Type 0) (placed : List Placed) → Stood g xs f ms kept placed → Merges g xs f (Err NoMemory) ms
merges_cut g xs f ms kept placed s = record { answers = ((s.came).0, (s.came).1); replays = s.replays }

within_full : {S : Type 0} (rs : List S) (ts : List Trace) (f : List ℕ) → length ts ≡ length rs → Within f (ends ts)
    → Within f (full (nodes_of rs ts))
within_full rs ts f l w k = subst (λ e. slice_index f k ≤ slice_index e k) (sym (ends_full rs ts l)) (w k)

-- where nothing is left
pub merges_all : {M : Type 0} (g : Ghosts M) (rs : List g.State) (ts : List Trace) (f : List ℕ) (ms : List M)
    (kept : ℕ → List ℕ → Type 0) (placed : Vec Placed Global)
    → length ts ≡ length rs → Walk g ts f ms → Stood g (nodes_of rs ts) f ms kept placed.items
    → ((k : ℕ) → k < length ts → IsLeftAt ts f k → ⊥) → Merges g (nodes_of rs ts) f (Ok placed) ms
merges_all g rs ts f ms kept placed l w s none =
    let len = nodes_of_length rs ts l in
    record {
      answers = record {
        nodes = (s.came).0;
        reached = (s.came).1;
        all = all_gone (nodes_of rs ts) f (w.size ∙ sym len) (within_full rs ts f l w.within)
            (λ k k_in left. none k (omega arith) (left_trace rs ts f k left));
        numbers = (s.came).2;
      };
      replays = s.replays;
    }

-- where nothing can go, and the node is the smallest with an entry left
pub merges_stuck : {M : Type 0} (g : Ghosts M) (rs : List g.State) (merging : MergeState M) (placed : List Placed)
    (node : ℕ)
    → length merging.traces ≡ length rs → length merging.traces ≡ length merging.machines
    → Stood g (nodes_of rs merging.traces) merging.prefix merging.machines (IsNoted merging.places merging.marks) placed
    → ((n : ℕ) → n < length merging.machines → IsBlocked g merging n)
    → IsLeftAt merging.traces merging.prefix node
    → ((k : ℕ) → k < node → IsLeftAt merging.traces merging.prefix k → ⊥)
    → Merges g (nodes_of rs merging.traces) merging.prefix
    (Err (NotARun node (slice_index merging.prefix node + 1))) merging.machines
merges_stuck g rs merging placed node l l' s none left first =
    let ts = merging.traces in
    let f = merging.prefix in
    let here : HasLeft (nodes_of rs ts) f node = trace_left rs ts f node l left in
    record {
      answers = (
        record {
          reached = ((s.came).0, (s.came).1);
          left = (node, here);
          none = none_can g rs merging placed l' s none;
        },
        record { left = here; first = λ k below h. first k below (left_trace rs ts f k h) },
        refl,
      );
      replays = s.replays;
    }

-- one more node where nothing can go
pub blocked_more : {M : Type 0} (g : Ghosts M) (merging : MergeState M) (n : ℕ)
    → ((k : ℕ) → k < n → IsBlocked g merging k) → IsBlocked g merging n → (k : ℕ) → k < n + 1 → IsBlocked g merging k
blocked_more g merging n below here k l = elim (cases_eq k n) [
  | inl e ↦ subst (IsBlocked g merging) (sym e) here
  | inr d ↦ below k (omega arith)
]

-- a round that let entries go, by the entries of its last node
pub less_then : (was now : Bool) (a b c : ℕ) → (was ≡ true → a < b) → b ≤ c → (now ≡ true → (was ≡ true) ⊎ (b < c))
    → a ≤ b → now ≡ true → a < c
less_then was now a b c before rose more le is = elim (more is) [
  | inl w ↦ let l = before w in omega arith
  | inr l ↦ omega arith
]
