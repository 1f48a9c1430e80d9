-- The table of refusals, and the rows that apply.
use Rattle.std.proofs.Common.{◌≡◌, ◌≤◌, ℕ, zero, suc, Bool, true, false, List, [], ◌∷◌, length, Option}
use Rattle.std.proofs.Common.{None}
use Rattle.std.proofs.Common.{refl, arith}
use Rattle.std.specs.List.{AllByRecursion}
use Rattle.std.proofs.lemmas.Bool.{ltb-true, ltb-false, le-ltb, not-false, not_from_true}
use Rattle.wire_message.specs.declared.kind.Kind.{Kind}
use Rattle.wire_message.specs.declared.kind.Kind.TheVariants.{ShortRequest, MediumRequest, LongRequest, ShortReply}
use Rattle.wire_message.specs.declared.kind.Kind.TheVariants.{MediumReply, LongReply, Ack}
use Rattle.wire_message.specs.declared.refused.Refused.{Refused}
use Rattle.wire_message.specs.Content.{code, is_kind}
use Rattle.wire_message.specs.Refusals.{fields_at, told_length, has_magic, first_that_holds, rows, first_refusal}
use Rattle.wire_message.specs.Reading.{kind_of}
use Rattle.wire_message.proofs.Ranges.{Clean}

pub kind_of-code : (kind : Kind) → kind_of (code kind) ≡ kind
kind_of-code ShortRequest = refl
kind_of-code MediumRequest = refl
kind_of-code LongRequest = refl
kind_of-code ShortReply = refl
kind_of-code MediumReply = refl
kind_of-code LongReply = refl
kind_of-code Ack = refl

pub code-kind_of : (byte : ℕ) → is_kind byte ≡ true → code (kind_of byte) ≡ byte
code-kind_of zero h = refl
code-kind_of (suc zero) h = refl
code-kind_of (suc (suc zero)) h = refl
code-kind_of (suc (suc (suc zero))) h = refl
code-kind_of (suc (suc (suc (suc zero)))) h = refl
code-kind_of (suc (suc (suc (suc (suc zero))))) h = refl
code-kind_of (suc (suc (suc (suc (suc (suc zero)))))) h = refl
code-kind_of (suc (suc (suc (suc (suc (suc (suc k))))))) h =
    absurd (omega (arith, ltb-true (suc (suc (suc (suc (suc (suc (suc k))))))) 7 h))

-- no row applies, told of the bytes
pub record Passes (version : ℕ) (bytes : List ℕ) : Type 0 where
  pub header : 40 ≤ length bytes
  pub magic : has_magic version bytes ≡ true
  pub clean : Clean (fields_at bytes)
  pub len : length bytes ≡ told_length bytes

abbrev none : Option Refused
none = None

-- no row applies
abbrev pub NoneApply : List (Bool × Refused) → Type 0
NoneApply rs = AllByRecursion (λ r. r.0 ≡ false) rs

none_apply : (rs : List (Bool × Refused)) → first_that_holds rs ≡ none → NoneApply rs
none_apply [] e = tt
none_apply ((true, r) ∷ rs) e = absurd cc
none_apply ((false, r) ∷ rs) e = (refl, none_apply rs e)

first_is_none : (rs : List (Bool × Refused)) → NoneApply rs → first_that_holds rs ≡ none
first_is_none [] h = refl
first_is_none (r ∷ rs) h = rw h.0 (first_is_none rs h.1)

pub passes : (version : ℕ) (bytes : List ℕ) → first_refusal version bytes ≡ None → Passes version bytes
unfolding first_refusal
passes version bytes e =
    let p = none_apply (rows version bytes) e in
    let low : 40 ≤ length bytes = ltb-false _ _ p.0 in
    let cut : told_length bytes ≤ length bytes = ltb-false _ _ p.1.1.1.1.1.1.1.1.0 in
    let trailing : length bytes ≤ told_length bytes = ltb-false _ _ p.1.1.1.1.1.1.1.1.1.0 in
    record {
      header = low;
      magic = not-false _ p.1.0;
      clean = record {
        kind = not-false _ p.1.1.0;
        count = p.1.1.1.0;
        reserved = p.1.1.1.1.0;
        number = p.1.1.1.1.1.0;
        apart = p.1.1.1.1.1.1.0;
        len = p.1.1.1.1.1.1.1.0;
      };
      len = omega arith;
    }

pub not_refused : (version : ℕ) (bytes : List ℕ) → Passes version bytes → first_refusal version bytes ≡ None
unfolding first_refusal
not_refused version bytes p = first_is_none (rows version bytes) (
  le-ltb (length bytes) 40 p.header,
  (
    not_from_true _ p.magic,
    (
      not_from_true _ p.clean.kind,
      (
        p.clean.count,
        (
          p.clean.reserved,
          (
            p.clean.number,
            (
              p.clean.apart,
              (
                p.clean.len,
                (
                  le-ltb (length bytes) (told_length bytes) (omega (arith, p.len)),
                  (le-ltb (told_length bytes) (length bytes) (omega (arith, p.len)), tt),
                ),
              ),
            ),
          ),
        ),
      ),
    ),
  ),
)
