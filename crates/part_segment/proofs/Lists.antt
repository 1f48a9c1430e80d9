-- The bytes as three lists, of which the second is lent.
use Rattle.std.proofs.Common.{◌≡◌, ℕ, ◌+◌, ◌≤◌, List, [], ◌++◌, length, take, drop, sym, ap, ◌∙◌, arith}
use Rattle.std.proofs.Common.{length-append, length-drop}
use Rattle.std.proofs.lemmas.List.{take-append-drop, drop-drop, take_at, drop_at, length-take-le, append_assoc}
use Rattle.part_segment.specs.Bytes.{part, with_part, refill, with_lent}

pub three : (xs : List ℕ) (i n : ℕ) → xs ≡ take i xs ++ (part xs i n ++ drop (i + n) xs)
three xs i n = sym (take-append-drop i xs)
    ∙ ap (λ (t : List ℕ). take i xs ++ t) (sym (take-append-drop n (drop i xs))
    ∙ ap (λ (t : List ℕ). part xs i n ++ t) (drop-drop n i xs))

pub part_long : (xs : List ℕ) (i n : ℕ) → i + n ≤ length xs → length (part xs i n) ≡ n
part_long xs i n inside = length-take-le n (drop i xs) (omega (arith, length-drop i xs))

pub refilled_is : (xs ys : List ℕ) → length ys ≡ length xs → refill xs ys ≡ ys
refilled_is xs ys l = take_at ys (drop (length ys) xs) (length xs) l

pub with_lent_is : (xs : List ℕ) (i n : ℕ) (ws : List ℕ) → i + n ≤ length xs → length ws ≡ length (part xs i n)
    → with_lent xs i n ws ≡ take i xs ++ (ws ++ drop (i + n) xs)
with_lent_is xs i n ws inside l =
    ap (λ (t : List ℕ). with_part xs i t) (refilled_is (part xs i n) ws l)
    ∙ ap (λ (k : ℕ). take i xs ++ (ws ++ drop (i + k) xs)) (l ∙ part_long xs i n inside)

pub same_long : (xs : List ℕ) (i n : ℕ) (ws : List ℕ) → i + n ≤ length xs → length ws ≡ n
    → length (take i xs ++ (ws ++ drop (i + n) xs)) ≡ length xs
same_long xs i n ws inside l =
    let first = length-take-le i xs (omega arith) in let rest = length-drop (i + n) xs in
    let inner = length-append ws (drop (i + n) xs) in
    length-append (take i xs) (ws ++ drop (i + n) xs) ∙ omega (arith, first, rest, inner, l)

-- a write to the second of three lists
pub with_part-append : (p q r ws : List ℕ) (a : ℕ) → length p ≡ a → length ws ≡ length q
    → with_part (p ++ (q ++ r)) a ws ≡ p ++ (ws ++ r)
with_part-append p q r ws a e l =
    let first : take a (p ++ (q ++ r)) ≡ p = take_at p (q ++ r) a e in
    let last : drop (a + length ws) (p ++ (q ++ r)) ≡ r =
    ap (λ (t : List ℕ). drop (a + length ws) t) (sym (append_assoc p q r))
    ∙ drop_at (p ++ q) r (a + length ws) (length-append p q ∙ omega (arith, e, l)) in
    ap (λ (t : List ℕ). t ++ (ws ++ drop (a + length ws) (p ++ (q ++ r)))) first
    ∙ ap (λ (t : List ℕ). p ++ (ws ++ t)) last

-- a write of nothing
pub with_none : (xs : List ℕ) (i : ℕ) → with_part xs i [] ≡ xs
with_none xs i = let e : i + 0 ≡ i = omega arith in ap (λ (k : ℕ). take i xs ++ drop k xs) e ∙ take-append-drop i xs
