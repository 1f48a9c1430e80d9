-- The locks of all replies, after one more entry.
use Rattle.std.proofs.Common.{◌≡◌, ℕ, zero, suc, ◌/◌, List, [], ◌∷◌, Option, Some, None, ap, sym, ◌∙◌, arith}
use Rattle.std.specs.Prelude.{bit_or, slice_get, slice_set}
use Rattle.std.specs.Int.Bits.{or_zero_l, or_zero_r}
use Rattle.std.proofs.lemmas.List.{length-set}
use Rattle.std.proofs.lemmas.Nat.{or_comm, or_shr}
use lib.Bits.{or_step}
use lib.Arith.{bin_ind}
use Rattle.part_handlers.specs.declared.table.Entry.{Entry}
use Rattle.part_handlers.specs.Registered.{IsTable, reply_locks, locks_in_replies}

or_assoc : (third first second : ℕ) → bit_or (bit_or first second) third ≡ bit_or first (bit_or second third)
or_assoc =
    bin_ind (λ (third : ℕ). (first second : ℕ)
    → bit_or (bit_or first second) third ≡ bit_or first (bit_or second third))
    (λ first second. or_zero_r (bit_or first second) ∙ sym (ap (bit_or first) (or_zero_r second)))
    (λ third before first second.
    let half : bit_or (bit_or first second / 2) (third / 2) ≡ bit_or (first / 2) (bit_or second third / 2) =
    ap (λ x. bit_or x (third / 2)) (or_shr first second 1) ∙ before (first / 2) (second / 2)
    ∙ sym (ap (bit_or (first / 2)) (or_shr second third 1)) in
    omega (
      arith,
      or_step (bit_or first second) third,
      or_step first second,
      or_step first (bit_or second third),
      or_step second third,
      half,
    ))

moved : (first rest added : ℕ) → bit_or first (bit_or rest added) ≡ bit_or (bit_or first rest) added
moved first rest added = sym (or_assoc added first rest)

-- an entry at a place that had none adds its locks
pub reply_locks-set : (table : List (Option Entry)) (place : ℕ) (entry : Entry) → slice_get table place ≡ Some None
    → reply_locks (slice_set table place (Some entry)) ≡ bit_or (reply_locks table) (locks_in_replies (Some entry))
reply_locks-set [] place entry free = cc
reply_locks-set (None ∷ rest) zero entry free =
    or_comm (locks_in_replies (Some entry)) (reply_locks rest)
    ∙ ap (λ (locks : ℕ). bit_or locks (locks_in_replies (Some entry))) (sym (or_zero_l (reply_locks rest)))
reply_locks-set (Some other ∷ rest) zero entry free = cc
reply_locks-set (first ∷ rest) (suc place) entry free =
    ap (bit_or (locks_in_replies first)) (reply_locks-set rest place entry free)
    ∙ moved (locks_in_replies first) (reply_locks rest) (locks_in_replies (Some entry))

-- an entry at a place that had none leaves a table, with its locks added
pub registered : (table : List (Option Entry)) (place : ℕ) (entry : Entry) (locks added : ℕ) → IsTable table locks
    → slice_get table place ≡ Some None → added ≡ locks_in_replies (Some entry)
    → IsTable (slice_set table place (Some entry)) (bit_or locks added)
registered table place entry locks added before free adds = record {
  places = length-set table place (Some entry) ∙ before.places;
  replies = ap (λ (more : ℕ). bit_or locks more) adds
      ∙ ap (λ (kept : ℕ). bit_or kept (locks_in_replies (Some entry))) before.replies
      ∙ sym (reply_locks-set table place entry free);
}
