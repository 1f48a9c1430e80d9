-- One more call, after those before.
use Rattle.std.proofs.Common.{subst, ◌≡◌, ℕ, ◌+◌, ◌-◌, ◌<◌, ◌≤◌, List, ◌++◌, length, take, drop, Option, sym, ap, ◌∙◌}
use Rattle.std.proofs.Common.{arith, length-append, length-take, drop-drop}
use Rattle.std.proofs.lemmas.List.{take-append-drop, take_at}
use Rattle.std.proofs.Math.Seq.{take-add}
use Rattle.std.specs.Io.KnownBytes.{Appends, Consumes}
use Rattle.std.proofs.KnownBytes.{Appends-trans, Consumes-trans}
use Rattle.base_io.specs.Whole.{TakesUpTo}

-- the bytes so far and a prefix of the piece are past the limit
pub read_past : (a b c : Option (List ℕ)) (bytes piece : List ℕ) (limit n : ℕ) → Consumes a b bytes
    → Consumes b c (take n piece) → n ≤ length piece → length bytes ≤ limit → limit - length bytes < n
    → (x : List ℕ) × (limit < length x) × Consumes a c x
read_past a b c bytes piece limit n h k fits within past = (
  bytes ++ take n piece,
  simp (length-append, length-take) (omega arith),
  Consumes-trans a b c bytes (take n piece) h k,
)

-- the bytes so far and a prefix of the piece are within the limit
pub read_within : (a b c : Option (List ℕ)) (bytes piece : List ℕ) (limit n : ℕ) → Consumes a b bytes
    → Consumes b c (take n piece) → n ≤ length piece → length bytes ≤ limit → n ≤ limit - length bytes
    → (x : List ℕ) × (length x ≤ limit) × Consumes a c x
read_within a b c bytes piece limit n h k fits within room = (
  bytes ++ take n piece,
  simp (length-append, length-take) (omega arith),
  Consumes-trans a b c bytes (take n piece) h k,
)

-- what is left, after a prefix of it went into the buffer
pub given_prefix : (bytes room filled : List ℕ) (at n : ℕ) → n ≤ length (drop at bytes)
    → filled ≡ take n (drop at bytes) ++ drop n room → drop at bytes ≡ take n filled ++ drop (at + n) bytes
given_prefix bytes room filled at n fits e =
    let prefix : take n filled ≡ take n (drop at bytes) =
    ap (take n) e ∙ take_at (take n (drop at bytes)) (drop n room) n (simp length-take (omega arith)) in
    sym (take-append-drop n (drop at bytes)) ∙ cc (prefix, drop-drop n at bytes)

-- the first n bytes were taken, and then the next m
pub prefix_more : (a b c : Option (List ℕ)) (bytes rest : List ℕ) (n m : ℕ) → rest ≡ drop n bytes
    → Appends a b (take n bytes) → Appends b c (take m rest) → Appends a c (take (n + m) bytes)
prefix_more a b c bytes rest n m e h k =
    let whole : take (n + m) bytes ≡ take n bytes ++ take m rest = take-add n m bytes
    ∙ ap (λ x. take n bytes ++ take m x) (sym e) in
    subst (Appends a c) (sym whole) (Appends-trans a b c (take n bytes) (take m rest) h k)

-- the first n bytes were taken
pub prefix_taken : (a b : Option (List ℕ)) (bytes : List ℕ) (n : ℕ) → Appends a b (take n bytes)
    → (rest : List ℕ) × TakesUpTo a b bytes rest
prefix_taken a b bytes n h =
    (drop n bytes, record { prefix = take n bytes; whole = sym (take-append-drop n bytes); taken = h })
