-- Sealed datagrams, and what links tell of them.
use Rattle.std.proofs.Common.{◌≡◌, ◌<◌, ◌≤◌, ℕ, ◌+◌, ◌-◌, List, [], ◌∷◌, ◌++◌, length, take, drop, min, refl, sym, ap, ◌∙◌}
use Rattle.std.proofs.Common.{Option, Some, None, map, option_map, filter_map, option_to_list, true, ◌&&◌, nat_eq, nat_le, bytes_eq, if◌then◌else◌}
use Rattle.std.proofs.Common.{slice_index_or, arith}
use Rattle.std.specs.List.{cons_option}
use Rattle.std.proofs.Math.Bool.{and-true, and_assoc}
use Rattle.std.proofs.Math.Seq.{take-append_seam, drop-append_seam}
use Rattle.std.proofs.lemmas.Bool.{le-leb}
use Rattle.std.proofs.lemmas.List.{length-take, length-append, map_push, append-nil, take_more}
use Rattle.std.proofs.lemmas.List.Elements.{filter_map-append}
use Rattle.std.proofs.lemmas.Slice.Eq.{bytes_eq-Decides}
use Rattle.std.specs.Cmp.Derive.{both_true}
use Rattle.sha2.proofs.Facts256.{length-sha256}
use Rattle.base_io.specs.Told.{and_then, and_all}
use Rattle.base_io.specs.Link.{SentTold}
use Rattle.base_io.specs.declared.link.LinkAnswer.{LinkAnswer}
use Rattle.base_io.specs.declared.link.LinkAnswer.TheVariants as answer
use Rattle.proc_seal.specs.Hmac.{hmac}
use Rattle.proc_seal.specs.Seal.{tag, sealed_under, before_tag, tag_of, is_sealed, opened_under, without_tag, opened_datagrams}

-- a tag has 16 bytes
pub length-tag : (key datagram : List ℕ) → length (tag key datagram) ≡ 16
length-tag key datagram = length-take 16 (hmac key datagram) ∙ ap (min 16) (length-sha256 _)

pub length-sealed : (key datagram : List ℕ) → length (sealed_under key datagram) ≡ length datagram + 16
length-sealed key datagram =
    length-append datagram (tag key datagram) ∙ ap (λ n. length datagram + n) (length-tag key datagram)

before : (key datagram : List ℕ) → length (sealed_under key datagram) - 16 ≡ length datagram
before key datagram = ap (λ n. n - 16) (length-sealed key datagram) ∙ omega arith

pub before_tag-sealed : (key datagram : List ℕ) → before_tag (sealed_under key datagram) ≡ datagram
before_tag-sealed key datagram =
    ap (λ n. take n (sealed_under key datagram)) (before key datagram) ∙ take-append_seam datagram (tag key datagram)

pub tag_of-sealed : (key datagram : List ℕ) → tag_of (sealed_under key datagram) ≡ tag key datagram
tag_of-sealed key datagram =
    ap (λ n. drop n (sealed_under key datagram)) (before key datagram) ∙ drop-append_seam datagram (tag key datagram)

is_sealed-sealed : (key datagram : List ℕ) → length datagram ≤ 8296 → is_sealed key (sealed_under key datagram) ≡ true
is_sealed-sealed key datagram short =
    let whole = sealed_under key datagram in
    let size = length-sealed key datagram in
    let least : 16 ≤ length datagram + 16 = omega arith in
    let most : length datagram + 16 ≤ 8312 = omega arith in
    let same : tag_of whole ≡ tag key (before_tag whole) =
    tag_of-sealed key datagram ∙ ap (tag key) (sym (before_tag-sealed key datagram)) in
    both_true (both_true (ap (nat_le 16) size ∙ le-leb 16 (length datagram + 16) least)
    (ap (λ n. nat_le n 8312) size ∙ le-leb (length datagram + 16) 8312 most))
    ((bytes_eq-Decides (tag_of whole) (tag key (before_tag whole))).1 same)

-- what is sealed is opened as it was
pub opens : (key datagram : List ℕ) → length datagram ≤ 8296
    → opened_under key (sealed_under key datagram) ≡ Some datagram
opens key datagram short =
    ap (λ b. if b then Some (before_tag (sealed_under key datagram)) else None) (is_sealed-sealed key datagram short)
    ∙ ap Some (before_tag-sealed key datagram)

-- a datagram that was sent sealed is told without its tag
pub told_sent : (key datagram : List ℕ) (to : ℕ) (told : Option (List (ℕ × List ℕ)))
    → option_map (map without_tag) (and_then told (to, sealed_under key datagram))
    ≡ and_then (option_map (map without_tag) told) (to, datagram)
told_sent key datagram to None = refl
told_sent key datagram to (Some list) =
    ap Some (map_push without_tag list (to, sealed_under key datagram)
    ∙ ap (λ d. map without_tag list ++ (to, d) ∷ []) (before_tag-sealed key datagram))

-- so a link before one that was sent it sealed tells that it was sent
pub told_unsealed : (key datagram : List ℕ) (to : ℕ) (result : LinkAnswer) (old new : Option (List (ℕ × List ℕ)))
    → SentTold result (to, sealed_under key datagram) old new
    → SentTold result (to, datagram) (option_map (map without_tag) old) (option_map (map without_tag) new)
told_unsealed key datagram to answer.Done old new h = ap (option_map (map without_tag)) h ∙ told_sent key datagram to old
told_unsealed key datagram to answer.Failed old new h = ap (option_map (map without_tag)) h

-- two lists of bytes are the same up to a place, and at that place
same_snoc : (xs ys : List ℕ) (x y : ℕ) → length xs ≡ length ys
    → (bytes_eq xs ys && nat_eq x y) ≡ bytes_eq (xs ++ x ∷ []) (ys ++ y ∷ [])
same_snoc [] [] x y h = sym (and-true (nat_eq x y))
same_snoc (a ∷ xs) (b ∷ ys) x y h =
    and_assoc (nat_eq a b) (bytes_eq xs ys) (nat_eq x y)
    ∙ ap (λ t. nat_eq a b && t) (same_snoc xs ys x y (omega arith))
same_snoc [] (b ∷ ys) x y h = absurd (omega arith)
same_snoc (a ∷ xs) [] x y h = absurd (omega arith)

pub same_more : (one other : List ℕ) (i : ℕ) → length one ≡ 16 → length other ≡ 16 → i < 16
    → (bytes_eq (take i one) (take i other) && nat_eq (slice_index_or one i 0) (slice_index_or other i 0))
    ≡ bytes_eq (take (i + 1) one) (take (i + 1) other)
same_more one other i first second within =
    let here : i < length one = rw first within in
    let there : i < length other = rw second within in
    let even : length (take i one) ≡ length (take i other) =
    length-take i one ∙ ap (min i) (first ∙ sym second) ∙ sym (length-take i other) in
    same_snoc (take i one) (take i other) (slice_index_or one i 0) (slice_index_or other i 0) even
    ∙ sym (ap (λ zs. bytes_eq zs (take (i + 1) other)) (take_more one i 0 here)
    ∙ ap (bytes_eq (take i one ++ slice_index_or one i 0 ∷ [])) (take_more other i 0 there))

one_kept : {X : Type 0} → (o : Option X) → cons_option o [] ≡ option_to_list o
one_kept None = refl
one_kept (Some x) = refl

nothing_more : {X : Type 0} → (told : Option (List X)) → and_all told [] ≡ told
nothing_more None = refl
nothing_more (Some list) = ap Some (append-nil list)

told_more : (key whole : List ℕ) (told : Option (List (List ℕ)))
    → option_map (filter_map (opened_under key)) (and_then told whole)
    ≡ and_all (option_map (filter_map (opened_under key)) told) (option_to_list (opened_under key whole))
told_more key whole None = refl
told_more key whole (Some list) =
    ap Some (filter_map-append (opened_under key) list (whole ∷ [])
    ∙ ap (λ more. filter_map (opened_under key) list ++ more) (one_kept (opened_under key whole)))

-- a datagram that opens is heard as what it opens to
pub heard_opened : (key whole datagram : List ℕ) (told : Option (List (List ℕ)))
    → Some datagram ≡ opened_under key whole
    → opened_datagrams key (and_then told whole) ≡ and_then (opened_datagrams key told) datagram
heard_opened key whole datagram told found =
    told_more key whole told ∙ ap (λ o. and_all (opened_datagrams key told) (option_to_list o)) (sym found)

-- one that doesn't open isn't heard
pub heard_dropped : (key whole : List ℕ) (told : Option (List (List ℕ))) → None ≡ opened_under key whole
    → opened_datagrams key (and_then told whole) ≡ opened_datagrams key told
heard_dropped key whole told found =
    told_more key whole told
    ∙ ap (λ o. and_all (opened_datagrams key told) (option_to_list o)) (sym found)
    ∙ nothing_more (opened_datagrams key told)
