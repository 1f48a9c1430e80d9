-- Reading a payload is the inverse of writing it.
use Rattle.std.proofs.Common.{◌≡◌, ℕ, ◌^◌, ◌<◌, List, [], ◌∷◌, ◌++◌, length, get_or, Some, Bool}
use Rattle.std.proofs.Common.{true, false, cond, eqb, refl, ap, ◌∙◌, arith, decimal, codes}
use Rattle.std.specs.Str.{bytes_eq}
use Rattle.std.specs.Str.Parse.{AllDigits}
use Rattle.std.proofs.lemmas.Str.Parse.{digit_from_value}
use Rattle.std.proofs.lemmas.Fmt.{digits_decimal, decimal_nonempty}
use Rattle.std.proofs.lemmas.Slice.Eq.{bytes_eq-Decides}
use Rattle.std.proofs.lemmas.Bool.{ne_eqb, eqb-true}
use Rattle.text_calls.specs.declared.values.Payload.{Payload as PayloadValue}
use Rattle.text_calls.specs.declared.values.Payload.TheVariants as payload
use Rattle.base_text.specs.Lines.{Word}
use Rattle.base_text.specs.HexBytes.{bytes_word, AreBytes}
use Rattle.text_calls.specs.Payloads.{before_plus, behind_plus, range_of, payload_of, body_payload_of}
use Rattle.text_calls.specs.Payloads.{payload_word, IsPayload, IsBodyPayload}
use Rattle.base_text.proofs.Prefixes.{cond_no}
use Rattle.base_text.proofs.Decimals.{own, number_of-decimal}
use Rattle.base_text.proofs.Integers.{number_takes}
use Rattle.base_text.proofs.Takes.{Takes, takes_some, takes_then, takes_if, takes_weaker}
use Rattle.base_text.proofs.WordRuns.{IsRun, decimal_run, both_run}
use Rattle.base_text.proofs.ByteLaws.{bytes_take, bytes_again, bytes_run}

-- ---- ranges

-- the bytes by their first `+`
plus_by : (plus : Bool) (byte : ℕ) (bytes behind : List ℕ) → eqb byte 43 ≡ plus
    → (behind_plus bytes ≡ Some behind → bytes ≡ before_plus bytes ++ 43 ∷ behind) → cond plus (Some bytes)
    (behind_plus bytes) ≡ Some behind → ◌≡◌ {A = Word} (byte ∷ bytes)
    (cond plus [] (byte ∷ before_plus bytes) ++ 43 ∷ behind)
plus_by true byte bytes behind test more found =
    let same : bytes ≡ behind = cc in rw (eqb-true byte 43 test, same) refl
plus_by false byte bytes behind test more found = ap (λ (word : Word). byte ∷ word) (more found)

plus_whole : (word behind : Word) → behind_plus word ≡ Some behind → word ≡ before_plus word ++ 43 ∷ behind
plus_whole [] behind found = absurd (cc)
plus_whole (byte ∷ bytes) behind found =
    plus_by (eqb byte 43) byte bytes behind refl (plus_whole bytes behind) found

-- digits before a `+`
plus_seam : (digits behind : Word) → AllDigits 10 digits → (before_plus (digits ++ 43 ∷ behind) ≡ digits)
    × (behind_plus (digits ++ 43 ∷ behind) ≡ Some behind)
plus_seam [] behind all = (refl, refl)
plus_seam (digit ∷ digits) behind all =
    let range = digit_from_value digit all.0 in
    let other : eqb digit 43 ≡ false = ne_eqb digit 43 (λ same. omega arith) in
    let more = plus_seam digits behind all.1 in
    (cond_no _ _ _ other ∙ ap (λ (word : Word). digit ∷ word) more.0, cond_no _ _ _ other ∙ more.1)

-- a range that was read
range_takes : (word : Word) → Takes (λ said. (word ≡ payload_word said) × IsPayload said) (range_of word)
unfolding range_of
range_takes word =
    takes_then (λ (behind : Word). word ≡ before_plus word ++ 43 ∷ behind)
    (record { so = λ behind found. plus_whole word behind found }) (λ behind split.
    takes_then (λ number. (before_plus word ≡ decimal number) × (number < 2 ^ 64)) (number_takes (before_plus word))
    (λ offset first. takes_then (λ number. (behind ≡ decimal number) × (number < 2 ^ 64)) (number_takes behind)
    (λ len second. takes_some {x = payload.Range offset len} (
      split ∙ ap (λ (digits : Word). digits ++ 43 ∷ behind) first.0
          ∙ ap (λ (digits : Word). decimal offset ++ 43 ∷ digits) second.0,
      (first.1, second.1),
    ))))

-- a range is read again
range_again : (offset len : ℕ) → offset < 2 ^ 64 → len < 2 ^ 64 → range_of (decimal offset ++ 43 ∷ decimal len)
    ≡ Some (payload.Range offset len)
unfolding range_of
range_again offset len offset_fits len_fits =
    let split = plus_seam (decimal offset) (decimal len) (digits_decimal own offset offset_fits) in
    rw (split.0, split.1, number_of-decimal offset offset_fits, number_of-decimal len len_fits) refl

-- digits and what follows them begin with no letter
no_letter : (digits rest : Word) (letter : ℕ) → 57 < letter → 0 < length digits → AllDigits 10 digits → eqb
    (get_or (digits ++ rest) 0 0) letter ≡ false
no_letter [] rest letter high some all = absurd (omega arith)
no_letter (digit ∷ digits) rest letter high some all =
    let range = digit_from_value digit all.0 in ne_eqb digit letter (λ same. omega arith)

-- ---- payloads of a schedule

-- a payload that was read
pub payload_takes : (word : Word) → Takes (λ said. (word ≡ payload_word said) × IsPayload said) (payload_of word)
unfolding payload_of
payload_takes word =
    takes_if
    (λ begins. takes_then (λ bytes. (word ≡ bytes_word bytes) × AreBytes bytes) (bytes_take word) (λ bytes are.
    takes_some {x = payload.Bytes bytes} (are.0, are.1)))
    (λ begins. range_takes word)

-- a payload is read again
pub payload_again : (said : PayloadValue) → IsPayload said → payload_of (payload_word said) ≡ Some said
unfolding payload_of
payload_again (payload.Bytes bytes) is = rw (bytes_again bytes is) refl
payload_again (payload.Range offset len) is =
    cond_no _ _ _ (no_letter (decimal offset) (43 ∷ decimal len) 120 (omega arith) (decimal_nonempty offset is.0)
    (digits_decimal own offset is.0)) ∙ range_again offset len is.0 is.1
payload_again payload.Message is = absurd is

-- ---- payloads of a handler's body

-- a payload of a schedule may stand in a body
pub also_in_body : (said : PayloadValue) → IsPayload said → IsBodyPayload said
also_in_body (payload.Bytes bytes) is = is
also_in_body (payload.Range offset len) is = is
also_in_body payload.Message is = absurd is

-- a payload that was read
pub body_payload_takes : (word : Word) → Takes (λ said. (word ≡ payload_word said) × IsBodyPayload said)
    (body_payload_of word)
unfolding body_payload_of
body_payload_takes word =
    takes_if (λ same. takes_some {x = payload.Message} ((bytes_eq-Decides word (codes "p")).0 same, tt))
    (λ other. takes_weaker (λ said. (word ≡ payload_word said) × IsPayload said) (payload_takes word) (λ said is.
    (is.0, also_in_body said is.1)))

-- a word that begins with another byte
other_word : (word : Word) → eqb (get_or word 0 0) 112 ≡ false → bytes_eq word (codes "p") ≡ false
other_word [] other = refl
other_word (byte ∷ word) other = rw other refl

-- a payload is read again
pub body_payload_again : (said : PayloadValue) → IsBodyPayload said → body_payload_of (payload_word said) ≡ Some said
unfolding body_payload_of
body_payload_again (payload.Bytes bytes) is = payload_again (payload.Bytes bytes) is
body_payload_again (payload.Range offset len) is =
    cond_no _ _ _ (other_word (decimal offset ++ 43 ∷ decimal len) (no_letter (decimal offset) (43 ∷ decimal len) 112
    (omega arith) (decimal_nonempty offset is.0) (digits_decimal own offset is.0)))
    ∙ payload_again (payload.Range offset len) is
body_payload_again payload.Message is = refl

-- a payload ends no word
pub payload_run : (said : PayloadValue) → IsBodyPayload said → IsRun (payload_word said)
payload_run (payload.Bytes bytes) is = bytes_run bytes
payload_run (payload.Range offset len) is =
    both_run (decimal offset) (43 ∷ decimal len) (decimal_run offset is.0) (refl, decimal_run len is.1)
payload_run payload.Message is = (refl, tt)
