-- Reading operations one after another.
use Rattle.std.proofs.Common.{◌≡◌, ℕ, suc, ◌+◌, ◌-◌, ◌*◌, ◌<◌, List, [], ◌∷◌, ◌++◌, take, drop}
use Rattle.std.proofs.Common.{Option, Some, None, refl, sym, ap, ◌∙◌, arith, append_assoc, append-nil}
use Rattle.std.specs.Prelude.{option_map}
use Rattle.std.proofs.lemmas.List.{drop-drop}
use Rattle.node_atomics.specs.declared.word.WordOp.{WordOp}
use Rattle.node_atomics.specs.BatchRequests.{op_in, ops_in, with_first}

-- these operations, and then those, if they are there
abbrev pub behind : List WordOp → Option (List WordOp) → Option (List WordOp)
behind ops later = option_map (λ more. ops ++ more) later

-- the first of those that are left
pub ops_first : (left fewer : ℕ) (bytes : List ℕ) → left ≡ fewer + 1
    → ops_in left bytes ≡ with_first (op_in (take 32 bytes)) (ops_in fewer (drop 32 bytes))
ops_first left fewer bytes is =
    let next : left ≡ suc fewer = omega (arith, is) in
    ap (λ (count : ℕ). ops_in count bytes) next

behind_first : (ops : List WordOp) (word : WordOp) (later : Option (List WordOp))
    → behind ops (with_first (Some word) later) ≡ behind (ops ++ word ∷ []) later
behind_first ops word None = refl
behind_first ops word (Some later) = ap Some (sym (append_assoc ops (word ∷ []) later))

-- one more was read
pub read_more : (count k : ℕ) (bytes : List ℕ) (ops : List WordOp) (word : WordOp) → k < count
    → op_in (take 32 (drop (32 * k) bytes)) ≡ Some word
    → behind ops (ops_in (count - k) (drop (32 * k) bytes))
    ≡ behind (ops ++ word ∷ []) (ops_in (count - (k + 1)) (drop (32 * (k + 1)) bytes))
read_more count k bytes ops word low is =
    let further : 32 * k + 32 ≡ 32 * (k + 1) = omega arith in
    ap (behind ops) (ops_first (count - k) (count - (k + 1)) (drop (32 * k) bytes) (omega (arith, low)))
    ∙ (ap (λ (first : Option WordOp).
    behind ops (with_first first (ops_in (count - (k + 1)) (drop 32 (drop (32 * k) bytes))))) is
    ∙ (behind_first ops word _
    ∙ ap (λ (rest : List ℕ). behind (ops ++ word ∷ []) (ops_in (count - (k + 1)) rest))
    (drop-drop 32 (32 * k) bytes ∙ ap (λ (at : ℕ). drop at bytes) further)))

-- one couldn't be read
pub read_none : (count k : ℕ) (bytes : List ℕ) (ops : List WordOp) → k < count
    → op_in (take 32 (drop (32 * k) bytes)) ≡ None
    → behind ops (ops_in (count - k) (drop (32 * k) bytes)) ≡ None
read_none count k bytes ops low is =
    ap (behind ops) (ops_first (count - k) (count - (k + 1)) (drop (32 * k) bytes) (omega (arith, low)))
    ∙ ap (λ (first : Option WordOp).
    behind ops (with_first first (ops_in (count - (k + 1)) (drop 32 (drop (32 * k) bytes))))) is

-- at the start and at the end
pub behind_nothing : (later : Option (List WordOp)) → later ≡ behind [] later
behind_nothing None = refl
behind_nothing (Some later) = refl

pub read_all : (count k : ℕ) (bytes : List ℕ) (ops : List WordOp) → k ≡ count
    → behind ops (ops_in (count - k) bytes) ≡ Some ops
read_all count k bytes ops is =
    let none : count - k ≡ 0 = omega (arith, is) in
    ap (λ (left : ℕ). behind ops (ops_in left bytes)) none ∙ ap Some (append-nil ops)
