-- What stands for a list of notifications, when one more comes or goes.
use Rattle.std.proofs.Common.{◌≡◌, ◌≢◌, ◌⊎◌, inl, inr, ℕ, suc, ◌^◌, ◌<◌, Bool, true, false, ◌&&◌, Some, List, []}
use Rattle.std.proofs.Common.{◌∷◌, ◌++◌, refl, sym, ◌∙◌, arith, eqb, if◌then◌else◌, ◌==◌}
use Rattle.std.specs.Prelude.{slice_get, bit_or}
use Rattle.std.specs.List.{list_any}
use Rattle.std.proofs.lemmas.Bool.Decides.{nat_tests}
use Rattle.std.proofs.lemmas.Bool.{cases_Bool, cases_eq}
use Rattle.std.proofs.lemmas.Nat.{or_comm}
use Rattle.std.proofs.lemmas.Nat.Bits.{same_from_bits, bit_at_or}
use Rattle.std.specs.Int.Bits.{or_zero_l, or_zero_r}
use Rattle.wire_message.specs.declared.notification.BarrierNotification.{BarrierNotification}
use Rattle.part_barrier.specs.Masks.{has}
use Rattle.part_barrier.specs.Record.{SentNotification, PhasePart, no_part, join, part_of, heard_part}
use Rattle.part_barrier.specs.Stands.{sent_mask}
use Rattle.part_barrier.proofs.Combining.{combine_assoc, combine_none, none_combine, has_or}
use Rattle.part_barrier.proofs.Covering.{same_part, has_zero, has_own, has_other}

-- ---- parts

pub or_assoc : (first second third : ℕ) → bit_or (bit_or first second) third ≡ bit_or first (bit_or second third)
or_assoc first second third = same_from_bits _ _
    (λ place. omega (
      arith,
      bit_at_or (bit_or first second) third place,
      bit_at_or first second place,
      bit_at_or first (bit_or second third) place,
      bit_at_or second third place,
    ))

pub join_assoc : (first second third : PhasePart) → join (join first second) third ≡ join first (join second third)
join_assoc first second third = same_part (or_assoc first.mask second.mask third.mask)
    (combine_assoc first.combined second.combined third.combined)

pub none_join : (part : PhasePart) → join no_part part ≡ part
none_join part = same_part (or_zero_l part.mask) (none_combine part.combined)

pub join_none : (part : PhasePart) → join part no_part ≡ part
join_none part = same_part (or_zero_r part.mask) (combine_none part.combined)

pub heard_part_push : (phase : ℕ) (notifications : List BarrierNotification) (notification : BarrierNotification)
    → heard_part phase (notifications ++ notification ∷ [])
    ≡ (if notification.phase == phase then join (heard_part phase notifications) (part_of notification) else heard_part phase notifications)
heard_part_push phase [] notification = elim (cases_Bool (eqb notification.phase phase)) [
  | inl holds ↦ rw holds
      (join_none (part_of notification) ∙ sym (none_join (part_of notification)))
  | inr fails ↦ rw fails refl
]
heard_part_push phase (one ∷ notifications) notification =
    one_more (heard_part_push phase notifications notification) (cases_Bool (eqb notification.phase phase)) (cases_Bool (eqb one.phase phase))
  where
    one_more : heard_part phase (notifications ++ notification ∷ [])
        ≡ (if notification.phase == phase then join (heard_part phase notifications) (part_of notification) else heard_part phase notifications)
        → (eqb notification.phase phase ≡ true) ⊎ (eqb notification.phase phase ≡ false)
        → (eqb one.phase phase ≡ true) ⊎ (eqb one.phase phase ≡ false)
        → heard_part phase ((one ∷ notifications) ++ notification ∷ [])
        ≡ (if notification.phase == phase then join (heard_part phase (one ∷ notifications)) (part_of notification) else heard_part phase
        (one ∷ notifications))
    one_more ih (inl holds) (inl one_holds) = let e = rw holds at ih in
        rw (holds, one_holds, e) (sym (join_assoc (part_of one) (heard_part phase notifications) (part_of notification)))
    one_more ih (inl holds) (inr one_holds) = let e = rw holds at ih in rw (holds, one_holds, e) refl
    one_more ih (inr holds) (inl one_holds) = let e = rw holds at ih in rw (holds, one_holds, e) refl
    one_more ih (inr holds) (inr one_holds) = let e = rw holds at ih in rw (holds, one_holds, e) refl

-- no notification of the phase was heard
pub heard_part_none : (phase : ℕ) (notifications : List BarrierNotification)
    → ((place : ℕ) (notification : BarrierNotification) → slice_get notifications place ≡ Some notification → notification.phase < phase)
    → heard_part phase notifications ≡ no_part
heard_part_none phase [] all = refl
heard_part_none phase (notification ∷ notifications) all = let other : eqb notification.phase phase ≡ false =
    grind (arith, nat_tests, all 0 notification refl) in
    rw other (heard_part_none phase notifications (λ place one e. all (suc place) one e))

-- ---- masks of nodes sent to

pub sent_mask_push : (phase : ℕ) (others : List SentNotification) (sent : SentNotification)
    → sent_mask phase (others ++ sent ∷ [])
    ≡ (if sent.notification.phase == phase then bit_or (sent_mask phase others) (2 ^ sent.to) else sent_mask phase others)
sent_mask_push phase [] sent = elim (cases_Bool (eqb sent.notification.phase phase)) [
  | inl holds ↦ rw holds
      (or_comm (2 ^ sent.to) 0)
  | inr fails ↦ rw fails refl
]
sent_mask_push phase (one ∷ others) sent =
    one_more (sent_mask_push phase others sent) (cases_Bool (eqb sent.notification.phase phase))
    (cases_Bool (eqb one.notification.phase phase))
  where
    one_more : sent_mask phase (others ++ sent ∷ [])
        ≡ (if sent.notification.phase == phase then bit_or (sent_mask phase others) (2 ^ sent.to) else sent_mask phase others)
        → (eqb sent.notification.phase phase ≡ true) ⊎ (eqb sent.notification.phase phase ≡ false)
        → (eqb one.notification.phase phase ≡ true) ⊎ (eqb one.notification.phase phase ≡ false)
        → sent_mask phase ((one ∷ others) ++ sent ∷ [])
        ≡ (if sent.notification.phase == phase then bit_or (sent_mask phase (one ∷ others))
        (2 ^ sent.to) else sent_mask phase (one ∷ others))
    one_more ih (inl holds) (inl one_holds) = let e = rw holds at ih in
        rw (holds, one_holds, e) (sym (or_assoc (2 ^ one.to) (sent_mask phase others) (2 ^ sent.to)))
    one_more ih (inl holds) (inr one_holds) = let e = rw holds at ih in rw (holds, one_holds, e) refl
    one_more ih (inr holds) (inl one_holds) = let e = rw holds at ih in rw (holds, one_holds, e) refl
    one_more ih (inr holds) (inr one_holds) = let e = rw holds at ih in rw (holds, one_holds, e) refl

pub sent_mask_none : (phase : ℕ) (others : List SentNotification)
    → ((place : ℕ) (sent : SentNotification) → slice_get others place ≡ Some sent → sent.notification.phase < phase)
    → sent_mask phase others ≡ 0
sent_mask_none phase [] all = refl
sent_mask_none phase (sent ∷ others) all = let other : eqb sent.notification.phase phase ≡ false =
    grind (arith, nat_tests, all 0 sent refl) in
    rw other (sent_mask_none phase others (λ place one e. all (suc place) one e))

abbrev any_sent : ℕ → ℕ → List SentNotification → Bool
any_sent phase to others = list_any (λ sent. (sent.to == to) && (sent.notification.phase == phase)) others

pub sent_mask_has : (phase to : ℕ) (others : List SentNotification)
    → has (sent_mask phase others) to ≡ list_any (λ sent. (sent.to == to) && (sent.notification.phase == phase)) others
sent_mask_has phase to [] = has_zero to
sent_mask_has phase to (sent ∷ others) = one_more (sent_mask_has phase to others) (cases_eq sent.notification.phase phase)
    (cases_eq sent.to to)
  where
    one_more : has (sent_mask phase others) to ≡ any_sent phase to others
        → (sent.notification.phase ≡ phase) ⊎ (sent.notification.phase ≢ phase) → (sent.to ≡ to) ⊎ (sent.to ≢ to)
        → has (sent_mask phase (sent ∷ others)) to ≡ any_sent phase to (sent ∷ others)
    one_more ih (inl alike) (inl there) =
        let same_phase : eqb sent.notification.phase phase ≡ true = grind (arith, nat_tests) in
        let same_node : eqb sent.to to ≡ true = grind (arith, nat_tests) in
        rw (same_phase, same_node, has_or (2 ^ sent.to) (sent_mask phase others) to, ← there, has_own sent.to) refl
    one_more ih (inl alike) (inr there) =
        let same_phase : eqb sent.notification.phase phase ≡ true = grind (arith, nat_tests) in
        let same_node : eqb sent.to to ≡ false = grind (arith, nat_tests) in
        rw (
          same_phase,
          same_node,
          has_or (2 ^ sent.to) (sent_mask phase others) to,
          has_other sent.to to (λ equal. there (sym equal)),
        ) ih
    one_more ih (inr alike) (inl there) =
        let same_phase : eqb sent.notification.phase phase ≡ false = grind (arith, nat_tests) in
        let same_node : eqb sent.to to ≡ true = grind (arith, nat_tests) in
        rw (same_phase, same_node) ih
    one_more ih (inr alike) (inr there) =
        let same_phase : eqb sent.notification.phase phase ≡ false = grind (arith, nat_tests) in
        let same_node : eqb sent.to to ≡ false = grind (arith, nat_tests) in
        rw (same_phase, same_node) ih
