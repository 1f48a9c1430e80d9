-- A part that is lent keeps the length of the whole, whatever is left behind it.
use Rattle.std.proofs.Common.{◌≡◌, ℕ, ◌+◌, ◌≤◌, List, ◌++◌, length, take, drop, ap, ◌∙◌, arith, length-append}
use Rattle.std.proofs.Common.{length-drop}
use Rattle.std.proofs.lemmas.List.{length-take-le, append-nil, drop_all, take_all}
use Rattle.part_segment.specs.Bytes.{part, with_part, refill, with_lent}

pub length_refilled : (xs ys : List ℕ) → length (refill xs ys) ≡ length xs
length_refilled xs ys =
    let all = length-append ys (drop (length ys) xs) in let rest = length-drop (length ys) xs in
    length-take-le (length xs) (ys ++ drop (length ys) xs) (omega (arith, all, rest))

pub length-with_part : (xs : List ℕ) (off : ℕ) (new : List ℕ) → off + length new ≤ length xs
    → length (with_part xs off new) ≡ length xs
length-with_part xs off new inside =
    let first = length-take-le off xs (omega arith) in let rest = length-drop (off + length new) xs in
    let inner = length-append new (drop (off + length new) xs) in
    length-append (take off xs) (new ++ drop (off + length new) xs) ∙ omega (arith, first, rest, inner)

pub length_with_lent : (xs : List ℕ) (off len : ℕ) (new : List ℕ) → off + len ≤ length xs
    → length (with_lent xs off len new) ≡ length xs
length_with_lent xs off len new inside =
    let long = length_refilled (part xs off len) new in
    let cut = length-take-le len (drop off xs) (omega (arith, length-drop off xs)) in
    length-with_part xs off (refill (part xs off len) new) (omega (arith, long, cut))

-- the whole as a part
pub with_lent_whole : (xs ws : List ℕ) → with_lent xs 0 (length xs) ws ≡ refill xs ws
with_lent_whole xs ws =
    let all : part xs 0 (length xs) ≡ xs = take_all (length xs) xs (omega arith) in
    let long = length_refilled xs ws in
    ap (λ (z : List ℕ). with_part xs 0 (refill z ws)) all
    ∙ ap (λ (z : List ℕ). refill xs ws ++ z) (drop_all (0 + length (refill xs ws)) xs (omega (arith, long)))
    ∙ append-nil (refill xs ws)
