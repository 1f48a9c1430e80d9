-- Notifications of the barrier: which are heard, and that those can be sent on.
use Rattle.std.proofs.Common.{◌≡◌, inl, inr, ℕ, zero, suc, ◌^◌, ◌-◌, ◌<◌, ◌≤◌, ◌||◌, not, true, false, List, []}
use Rattle.std.proofs.Common.{◌∷◌}
use Rattle.std.proofs.Common.{rules, ℤ, pos, negsuc, length, refl, subst, arith, ltb, nat_lt, true≢false}
use Rattle.std.specs.Prelude.{◌==◌, slice_index}
use Rattle.std.specs.List.{list_all}
use Rattle.std.specs.Ordering.{int_eq}
use Rattle.std.specs.Int.{w32, cast_unsigned}
use Rattle.std.specs.Int.RustNames.{FitsSigned}
use Rattle.std.proofs.lemmas.Bool.{cases_Bool, and_parts, and_from, or_parts, ltb-true, ltb-false, lt-ltb}
use Rattle.std.proofs.lemmas.Bool.Decides.{Decides-int_eq}
use Rattle.std.proofs.lemmas.Int.{to_z-of_z}
use Rattle.wire_message.specs.declared.notification.BarrierNotification.{BarrierNotification}
use Rattle.wire_message.specs.Notifications.{IsNotification, mask_number, mask_of, is_no_notification, is_wrong_flags, argument, notification_count}
use Rattle.node_core.specs.Library.{notification_said, natural}
use Rattle.node_rules.specs.BarrierCalls.{identifier, has_ranges}
use Rattle.base_lists.proofs.Tests.{not_false}

-- an identifier is one of 32 bits
pub identifier_fits : (id : ℤ) → FitsSigned w32 (identifier id)
identifier_fits id = elim (cases_Bool (ltb (cast_unsigned w32 id) (2 ^ 31))) [
  | inl low ↦ rw low (search rules)
  | inr high ↦ rw high (search rules)
]

words_low : (words : List ℕ) → list_all (λ word. nat_lt word (2 ^ 64)) words ≡ true
    → (place : ℕ) → slice_index words place < 2 ^ 64
words_low [] low place = omega arith
words_low (word ∷ words) low zero =
    ltb-true word (2 ^ 64) (and_parts (nat_lt word (2 ^ 64)) (list_all (λ w. nat_lt w (2 ^ 64)) words) low).0
words_low (word ∷ words) low (suc place) =
    words_low words (and_parts (nat_lt word (2 ^ 64)) (list_all (λ w. nat_lt w (2 ^ 64)) words) low).1 place

low_words : (words : List ℕ) → ((place : ℕ) → slice_index words place < 2 ^ 64)
    → list_all (λ word. nat_lt word (2 ^ 64)) words ≡ true
low_words [] low = refl
low_words (word ∷ words) low =
    and_from _ _ (lt-ltb word (2 ^ 64) (low 0)) (low_words words (λ place. low (suc place)))

-- a notification whose parts are in the ranges of their types
pub ranges_of : (notification : BarrierNotification) → notification.phase < 2 ^ 64
    → ((place : ℕ) → slice_index notification.mask place < 2 ^ 64) → FitsSigned w32 notification.id
    → has_ranges notification ≡ true
ranges_of notification phase words id =
    and_from _ _ (lt-ltb notification.phase (2 ^ 64) phase)
    (and_from _ _ (low_words notification.mask words)
    ((Decides-int_eq (identifier notification.id) notification.id).1 (to_z-of_z w32 notification.id id)))

-- a notification among the nodes is one
pub notification_ranges : (nodes : ℕ) (notification : BarrierNotification) → IsNotification nodes notification → has_ranges notification ≡ true
notification_ranges nodes notification is = ranges_of notification is.phase is.mask.words is.id

four_words : (version : ℕ) (args : List ℤ) → length (mask_of version args) ≡ 4
four_words version args = elim (cases_Bool (version == 1)) [ inl first ↦ rw first refl | inr second ↦ rw second refl ]

right_flags : (flags : ℤ) → is_wrong_flags flags ≡ false → natural flags ≤ 3
right_flags (pos flags) right = ltb-false 3 flags right
right_flags (negsuc number) right = absurd (true≢false right)

-- a notification whose arguments aren't refused, and whose numbers are in range, can be sent on
pub heard_notification : (version nodes : ℕ) (args : List ℤ) → is_no_notification version nodes args ≡ false
    → has_ranges (notification_said version args) ≡ true → IsNotification nodes (notification_said version args)
heard_notification version nodes args right ranges =
    let notification = notification_said version args in
    let both = and_parts (nat_lt notification.phase (2 ^ 64)) _ ranges in
    let parts =
    and_parts (list_all (λ word. nat_lt word (2 ^ 64)) notification.mask) (int_eq (identifier notification.id) notification.id) both.1 in
    let same : identifier notification.id ≡ notification.id = (Decides-int_eq (identifier notification.id) notification.id).0 parts.1 in
    let tests = or_parts
    (not (length args == notification_count version) || is_wrong_flags (argument args (length args - 1)))
    (not (nat_lt (mask_number (mask_of version args)) (2 ^ nodes))) right in
    record {
      phase = ltb-true notification.phase (2 ^ 64) both.0;
      mask = record {
        four = four_words version args;
        words = words_low notification.mask parts.0;
        there = ltb-true (mask_number (mask_of version args)) (2 ^ nodes) (not_false _ tests.1);
      };
      id = subst (FitsSigned w32) same (identifier_fits notification.id);
      flags = right_flags (argument args (length args - 1)) (or_parts _ _ tests.0).1;
    }
