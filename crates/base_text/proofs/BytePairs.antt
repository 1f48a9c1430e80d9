-- Pairs of digits, as a loop reads and writes them.
use Rattle.std.proofs.Common.{◌≡◌, ℕ, ◌+◌, ◌*◌, ◌/◌, ◌%◌, ◌<◌, ◌≤◌, List, [], ◌∷◌, ◌++◌, length, take, drop, slice_index}
use Rattle.std.proofs.Common.{slice_set, Option, Some, None, true, false, is_some, refl, ap, sym, ◌∙◌, arith}
use Rattle.std.specs.List.{flat_map, list_all}
use Rattle.std.proofs.lemmas.Bool.{and_from, both_ways}
use Rattle.std.proofs.lemmas.List.{append_assoc, append-nil, drop_all, drop_more, take_all, take_more_set, length-set}
use Rattle.base_text.specs.Lines.{◌>>=◌}
use Rattle.base_text.specs.HexBytes.{byte_of, digit_value, hex_byte, hex_digit, is_digit, pairs_of}

-- ---- reading

-- what was read so far, and what is read on
abbrev pub with_bytes : List ℕ → Option (List ℕ) → Option (List ℕ)
with_bytes prefix None = None
with_bytes prefix (Some back) = Some (prefix ++ back)

-- one more
one_more : (prefix : List ℕ) (byte : ℕ) (later : Option (List ℕ)) → with_bytes prefix
    (later >>= λ back. Some (byte ∷ back)) ≡ with_bytes (prefix ++ byte ∷ []) later
one_more prefix byte None = refl
one_more prefix byte (Some back) = ap (λ bytes. Some bytes) (sym (append_assoc prefix (byte ∷ []) back))

-- a pair is read
pair_read : (high low byte : ℕ) (digits : List ℕ) → byte_of high low ≡ Some byte → pairs_of (high ∷ low ∷ digits)
    ≡ (pairs_of digits >>= λ back. Some (byte ∷ back))
unfolding pairs_of
pair_read high low byte digits found = rw found refl

-- what is left of the digits, at a whole pair
at_pair : (digits : List ℕ) (i : ℕ) → 2 * i + 1 < length digits
    → drop (2 * i) digits
    ≡ slice_index digits (2 * i) ∷ slice_index digits (2 * i + 1) ∷ drop (2 * (i + 1)) digits
at_pair digits i fits =
    let first = drop_more digits (2 * i) 0 (omega arith) in
    let second = drop_more digits (2 * i + 1) 0 (omega arith) in
    let two : 2 * i + 1 + 1 ≡ 2 * (i + 1) = omega arith in
    rw (first, second, two) refl

-- one byte more is read
pub pairs_step : (digits bytes : List ℕ) (i byte : ℕ) → 2 * i + 1 < length digits → i < length bytes
    → byte_of (slice_index digits (2 * i)) (slice_index digits (2 * i + 1)) ≡ Some byte
    → pairs_of digits ≡ with_bytes (take i bytes) (pairs_of (drop (2 * i) digits))
    → pairs_of digits ≡ with_bytes (take (i + 1) (slice_set bytes i byte)) (pairs_of (drop (2 * (i + 1)) digits))
pairs_step digits bytes i byte fits room found before =
    let rest : List ℕ = drop (2 * (i + 1)) digits in
    before
    ∙ ap (with_bytes (take i bytes)) (ap pairs_of (at_pair digits i fits) ∙ pair_read _ _ byte rest found)
    ∙ one_more (take i bytes) byte (pairs_of rest)
    ∙ ap (λ (prefix : List ℕ). with_bytes prefix (pairs_of rest)) (sym (take_more_set bytes i byte room))

-- all bytes are read
pub pairs_end : (digits bytes : List ℕ) (i : ℕ) → length bytes ≤ i → length digits ≤ 2 * i
    → pairs_of digits ≡ with_bytes (take i bytes) (pairs_of (drop (2 * i) digits)) → pairs_of digits ≡ Some bytes
unfolding pairs_of
pairs_end digits bytes i over none before =
    before
    ∙ ap (λ (rest : List ℕ). with_bytes (take i bytes) (pairs_of rest)) (drop_all (2 * i) digits none)
    ∙ ap (λ (z : List ℕ). Some z) (append-nil (take i bytes) ∙ take_all i bytes over)

-- none is read yet
pub pairs_start : (read : Option (List ℕ)) → read ≡ with_bytes [] read
pairs_start None = refl
pairs_start (Some bytes) = refl

-- an odd number of digits is no pairs
later_none : (high low : ℕ) (rest : Option (List ℕ)) → rest ≡ None
    → (byte_of high low >>= λ byte. rest >>= λ bytes. Some (byte ∷ bytes)) ≡ None
later_none high low rest none = rw none (first_none (byte_of high low))
  where
    first_none : (byte : Option ℕ) → ◌≡◌ {A = Option (List ℕ)} (byte >>= λ b. None) None
    first_none None = refl
    first_none (Some b) = refl

pub pairs_odd : (digits : List ℕ) → (length digits % 2 ≡ 0 → ⊥) → pairs_of digits ≡ None
unfolding pairs_of
pairs_odd [] odd = absurd (odd refl)
pairs_odd (digit ∷ []) odd = refl
pairs_odd (high ∷ low ∷ digits) odd =
    later_none high low (pairs_of digits) (pairs_odd digits (λ even. odd (omega arith)))

-- nor are bytes that aren't all digits
pairs_digits : (digits : List ℕ) (read : Option (List ℕ)) → pairs_of digits ≡ read → is_some read ≡ true
    → list_all is_digit digits ≡ true
unfolding pairs_of byte_of
pairs_digits [] read e some = refl
pairs_digits (digit ∷ []) read e some = absurd (cc)
pairs_digits (high ∷ low ∷ digits) read e some = pair_digits high low digits (digit_value high) (digit_value low) refl refl
    (pairs_of digits) refl (ap (λ (r : Option (List ℕ)). is_some r) e ∙ some) (pairs_digits digits (pairs_of digits) refl)
  where
    pair_digits : (high low : ℕ) (digits : List ℕ) (tens ones : Option ℕ) → digit_value high ≡ tens
        → digit_value low ≡ ones → (rest : Option (List ℕ)) → pairs_of digits ≡ rest
        → is_some ((tens >>= λ t. ones >>= λ o. Some (16 * t + o)) >>= λ byte. rest >>= λ bytes. Some (byte ∷ bytes))
        ≡ true
        → (is_some rest ≡ true → list_all is_digit digits ≡ true) → list_all is_digit (high ∷ low ∷ digits) ≡ true
    pair_digits high low digits None ones of_high of_low rest e some more = absurd (cc)
    pair_digits high low digits (Some t) None of_high of_low rest e some more = absurd (cc)
    pair_digits high low digits (Some t) (Some o) of_high of_low None e some more = absurd (cc)
    pair_digits high low digits (Some t) (Some o) of_high of_low (Some bytes) e some more =
        and_from _ _ (ap (λ (v : Option ℕ). is_some v) of_high)
        (and_from _ _ (ap (λ (v : Option ℕ). is_some v) of_low) (more refl))

none_by : (read : Option (List ℕ)) → (is_some read ≡ true → ⊥) → read ≡ None
none_by None never = refl
none_by (Some bytes) never = absurd (never refl)

pub pairs_not : (digits : List ℕ) → list_all is_digit digits ≡ false → pairs_of digits ≡ None
pairs_not digits some_other =
    none_by (pairs_of digits) (λ read. both_ways (list_all is_digit digits) some_other
    (pairs_digits digits (pairs_of digits) refl read))

-- ---- writing

-- two digits are written, seen from the prefix
two_written : (digits : List ℕ) (at first second : ℕ) → at + 1 < length digits
    → take (at + 2) (slice_set (slice_set digits at first) (at + 1) second) ≡ take at digits ++ (first ∷ second ∷ [])
two_written digits at first second fits =
    let size : length (slice_set digits at first) ≡ length digits = length-set digits at first in
    let two : at + 2 ≡ at + 1 + 1 = omega arith in
    let last = take_more_set (slice_set digits at first) (at + 1) second (omega (arith, size)) in
    let before = take_more_set digits at first (omega arith) in
    rw (two, last, before) (append_assoc (take at digits) (first ∷ []) (second ∷ []))

-- what is left begins with the digits of the next byte
next_byte : (bytes : List ℕ) (i : ℕ) → i < length bytes
    → flat_map hex_byte (drop i bytes) ≡ hex_byte (slice_index bytes i) ++ flat_map hex_byte (drop (i + 1) bytes)
next_byte bytes i low = ap (λ (left : List ℕ). flat_map hex_byte left) (drop_more bytes i 0 low)

-- the digits of one byte more are written
pub digits_step : (bytes digits : List ℕ) (i first second : ℕ) → i < length bytes → 2 * i + 1 < length digits
    → first ≡ hex_digit (slice_index bytes i / 16) → second ≡ hex_digit (slice_index bytes i % 16)
    → take (2 * i) digits ++ flat_map hex_byte (drop i bytes) ≡ flat_map hex_byte bytes
    → take (2 * (i + 1)) (slice_set (slice_set digits (2 * i) first) (2 * i + 1) second)
    ++ flat_map hex_byte (drop (i + 1) bytes)
    ≡ flat_map hex_byte bytes
digits_step bytes digits i first second within fits high low before =
    let two : 2 * (i + 1) ≡ 2 * i + 2 = omega arith in
    let prefix = two_written digits (2 * i) first second fits in
    ap (λ (n : ℕ). take n (slice_set (slice_set digits (2 * i) first) (2 * i + 1) second)
    ++ flat_map hex_byte (drop (i + 1) bytes)) two
    ∙ ap (λ (z : List ℕ). z ++ flat_map hex_byte (drop (i + 1) bytes)) prefix
    ∙ append_assoc (take (2 * i) digits) (first ∷ second ∷ []) (flat_map hex_byte (drop (i + 1) bytes))
    ∙ ap (λ (d : ℕ). take (2 * i) digits ++ ((d ∷ second ∷ []) ++ flat_map hex_byte (drop (i + 1) bytes))) high
    ∙ ap (λ (d : ℕ). take (2 * i) digits ++ ((hex_digit (slice_index bytes i / 16) ∷ d ∷ [])
    ++ flat_map hex_byte (drop (i + 1) bytes))) low
    ∙ ap (λ (z : List ℕ). take (2 * i) digits ++ z) (sym (next_byte bytes i within))
    ∙ before

-- the digits of all bytes are written
pub digits_end : (bytes digits : List ℕ) (i : ℕ) → length bytes ≤ i → length digits ≤ 2 * i
    → take (2 * i) digits ++ flat_map hex_byte (drop i bytes) ≡ flat_map hex_byte bytes → digits ≡ flat_map hex_byte bytes
digits_end bytes digits i over none before =
    sym (ap (λ (z : List ℕ). take (2 * i) digits ++ flat_map hex_byte z) (drop_all i bytes over)
    ∙ append-nil (take (2 * i) digits) ∙ take_all (2 * i) digits none)
    ∙ before
