-- Scripts, no two of which are of the same thread.
use Rattle.std.proofs.Common.{◌≡◌, ℕ, ◌+◌, ◌*◌, ◌<◌, ◌≤◌, Bool, true, false, ◌&&◌, ◌||◌, eqb, List, [], ◌∷◌, ◌++◌}
use Rattle.std.proofs.Common.{length, map, refl, sym, ◌∙◌, arith}
use Rattle.std.specs.List.{AllByRecursion, IsDistinct, list_any}
use Rattle.std.proofs.lemmas.Bool.{or_parts, eqb-true, eqb-false, ne_eqb}
use Rattle.std.proofs.lemmas.List.{length-map}
use Rattle.std.proofs.lemmas.List.Folds.{list_any-append}
use Rattle.std.proofs.lemmas.Map.Steps.{length-le_from_distinct_below}
use Rattle.text_job.specs.JobReading.{has_thread}
use Rattle.text_job.specs.JobText.{AreThreads}
use Rattle.text_job.specs.declared.job.NodeScript.{NodeScript}

-- whether a script is of a thread
abbrev pub is_of : (node thread : ℕ) → NodeScript → Bool
is_of node thread script = eqb script.node node && eqb script.thread thread

-- numbers are equal either way
eqb_turned : (a b : ℕ) → eqb a b ≡ eqb b a
eqb_turned a b = turned_by (eqb a b) (eqb b a) refl refl
  where
    turned_by : (t u : Bool) → eqb a b ≡ t → eqb b a ≡ u → t ≡ u
    turned_by true true e f = refl
    turned_by false false e f = refl
    turned_by true false e f = let same = eqb-true a b e in absurd (cc)
    turned_by false true e f = let same = eqb-true b a f in absurd (cc)

-- two scripts are of the same thread either way
turned : (s t : NodeScript) → is_of s.node s.thread t ≡ is_of t.node t.thread s
turned s t = rw (eqb_turned t.node s.node, eqb_turned t.thread s.thread) refl

-- one script more
pub threads_more : (scripts : List NodeScript) (s : NodeScript) → AreThreads scripts
    → has_thread scripts s.node s.thread ≡ false → AreThreads (scripts ++ s ∷ [])
threads_more [] s are new = (refl, tt)
threads_more (first ∷ scripts) s are new =
    let parts = or_parts (is_of s.node s.thread first) (has_thread scripts s.node s.thread) new in (
      list_any-append (is_of first.node first.thread) scripts (s ∷ [])
          ∙ rw (are.0, turned first s ∙ parts.0) refl,
      threads_more scripts s are.1 parts.1,
    )

-- the thread of a script has none before it
pub threads_new : (prefix rest : List NodeScript) (s : NodeScript) → AreThreads (prefix ++ s ∷ rest)
    → has_thread prefix s.node s.thread ≡ false
threads_new [] rest s are = refl
threads_new (first ∷ prefix) rest s are =
    let parts = or_parts (has_thread prefix first.node first.thread) (has_thread (s ∷ rest) first.node first.thread)
    (sym (list_any-append (is_of first.node first.thread) prefix (s ∷ rest)) ∙ are.0) in
    let one = or_parts (is_of first.node first.thread s) (has_thread rest first.node first.thread) parts.1 in
    rw (turned s first ∙ one.0) (threads_new prefix rest s are.1)

-- ---- how many there are

-- the node and the thread are there
abbrev pub IsThere : (nodes threads : ℕ) → NodeScript → Type 0
IsThere nodes threads s = (s.node < nodes) × (s.thread < threads)

-- a number for each thread
abbrev pub key : NodeScript → ℕ
key s = s.node * 16 + s.thread

-- another thread has another number
other_key : (s t : NodeScript) (a b : Bool) → eqb t.node s.node ≡ a → eqb t.thread s.thread ≡ b → (a && b) ≡ false
    → s.thread < 16 → t.thread < 16 → key s ≡ key t → ⊥
other_key s t true true e f h x y same = absurd (cc)
other_key s t false b e f h x y same = eqb-false t.node s.node e (omega (arith, x, y, same))
other_key s t true false e f h x y same = eqb-false t.thread s.thread f (omega (arith, x, y, same))

keys_apart : (s : NodeScript) (ss : List NodeScript) → has_thread ss s.node s.thread ≡ false → s.thread < 16
    → AllByRecursion (IsThere 256 16) ss → AllByRecursion (λ k. eqb (key s) k ≡ false) (map key ss)
keys_apart s [] new lt there = tt
keys_apart s (t ∷ ss) new lt there =
    let parts = or_parts (is_of s.node s.thread t) (has_thread ss s.node s.thread) new in (
      ne_eqb (key s) (key t) (other_key s t (eqb t.node s.node) (eqb t.thread s.thread) refl refl parts.0 lt there.0.1),
      keys_apart s ss parts.1 lt there.1,
    )

keys_distinct : (ss : List NodeScript) → AreThreads ss → AllByRecursion (IsThere 256 16) ss
    → IsDistinct eqb (map key ss)
unfolding IsDistinct
keys_distinct [] are there = tt
keys_distinct (s ∷ ss) are there = (keys_apart s ss are.0 there.0.1 there.1, keys_distinct ss are.1 there.1)

-- a number of the first thread, or of another
low_by : (s : NodeScript) (others : Bool) (q : ℕ) (b : Bool) → eqb q (key s) ≡ b → (b || others) ≡ true
    → IsThere 256 16 s → (others ≡ true → q < 4096) → q < 4096
low_by s others q true e h is more = let same = eqb-true q (key s) e in omega (arith, same, is.0, is.1)
low_by s others q false e h is more = more h

keys_low : (ss : List NodeScript) → AllByRecursion (IsThere 256 16) ss → (q : ℕ) → list_any (eqb q) (map key ss) ≡ true
    → q < 4096
keys_low [] there q h = absurd (cc)
keys_low (s ∷ ss) there q h = low_by s (list_any (eqb q) (map key ss)) q (eqb q (key s)) refl h there.0
    (keys_low ss there.1 q)

-- no more than there are threads of all nodes
pub threads_few : (ss : List NodeScript) → AreThreads ss → AllByRecursion (IsThere 256 16) ss → length ss ≤ 4096
threads_few ss are there =
    let few = length-le_from_distinct_below (map key ss) 4096 (keys_distinct ss are there) (keys_low ss there) in
    omega (arith, few, length-map ss key)
