-- What is known of a phase is covered by notifies.
use Rattle.std.proofs.Common.{◌≡◌, ◌≢◌, ◌⊎◌, inl, inr, ℕ, zero, suc, ◌^◌, ◌<◌, true, false, true≢false, Option}
use Rattle.std.proofs.Common.{Some, None, List, [], ◌∷◌, refl, sym, ap, ◌∙◌, subst, arith, eqb}
use Rattle.std.specs.Prelude.{slice_get}
use Rattle.std.proofs.lemmas.Bool.Decides.{nat_tests}
use Rattle.std.proofs.lemmas.Bool.{cases_Bool, cases_eq, or_cases, and_parts}
use Rattle.std.proofs.lemmas.Nat.Bits.{bit_at-zero, bit_at-pow_same, bit_at-pow_other}
use Rattle.wire_message.specs.declared.notification.BarrierNotification.{BarrierNotification}
use Rattle.part_barrier.specs.declared.known.Combination.{Combination}
use Rattle.part_barrier.specs.declared.known.Notify.{Notify}
use Rattle.part_barrier.specs.Masks.{has, has_all}
use Rattle.part_barrier.specs.Combinations.{Notifies, no_notify, notified_by, all_of, among}
use Rattle.part_barrier.specs.Record.{PhasePart, no_part, join, part_of, own_part, heard_part, notification_of}
use Rattle.part_barrier.specs.World.{Covers}
use Rattle.part_barrier.proofs.Combining.{combine_none, none_combine, one_written, has_or, all_of-same, all_of-or}
use Rattle.part_barrier.proofs.Words.{words_number}

pub has_zero : (node : ℕ) → has 0 node ≡ false
has_zero node = rw (bit_at-zero node) refl

pub has_own : (node : ℕ) → has (2 ^ node) node ≡ true
has_own node = rw (bit_at-pow_same node) refl

pub has_other : (node other : ℕ) → other ≢ node → has (2 ^ node) other ≡ false
has_other node other unlike = rw (bit_at-pow_other node other unlike) refl

pub all_of-none : (notifies : Notifies) (nodes : ℕ) → ((other : ℕ) → other < nodes → notifies other ≡ None)
    → all_of notifies nodes ≡ no_notify
all_of-none notifies zero none = refl
all_of-none notifies (suc node) none = rw (
  all_of-none notifies node (λ other below. none other (omega arith)),
  none node (omega arith),
) refl

pub all_of-one : (notifies : Notifies) (me nodes : ℕ) → me < nodes
    → all_of (among (2 ^ me) notifies) nodes ≡ notified_by (notifies me)
all_of-one notifies me zero below = absurd (omega arith)
all_of-one notifies me (suc node) below = elim (cases_eq me node) [
  | inl same ↦ rw (
    ← same,
    all_of-none (among (2 ^ me) notifies) me
        (λ other low. rw (has_other me other (omega arith)) refl),
    has_own me,
  ) (none_combine (notified_by (notifies me)))
  | inr nodes ↦ rw (all_of-one notifies me node (omega arith), has_other me node (omega arith))
      (combine_none (notified_by (notifies me)))
]

pub covers_none : (nodes : ℕ) (notifies : Notifies) → Covers nodes notifies no_part
covers_none nodes notifies = record {
  there = λ node same. absurd (true≢false (sym same ∙ has_zero node));
  all = sym (all_of-none (among 0 notifies) nodes (λ node below. rw (has_zero node) refl));
}

pub covers_both : (nodes : ℕ) (notifies : Notifies) (first second : PhasePart) → Covers nodes notifies first
    → Covers nodes notifies second → Covers nodes notifies (join first second)
covers_both nodes notifies first second one two = record {
  there = λ node same. elim (or_cases (has first.mask node) (has second.mask node)
      (sym (has_or first.mask second.mask node)
      ∙ same)) [ inl found ↦ one.there node found | inr found ↦ two.there node found ];
  all = rw (all_of-or first.mask second.mask notifies nodes, one.all, two.all) refl;
}

pub covers_own : (nodes : ℕ) (notifies : Notifies) (me : ℕ) (own : Option Notify) → me < nodes → notifies me ≡ own
    → Covers nodes notifies (own_part me own)
covers_own nodes notifies me None below same = covers_none nodes notifies
covers_own nodes notifies me (Some notify) below same = record {
  there = λ node found. elim (cases_eq node me) [
    | inl equal ↦ (
      omega arith,
      (
        notify,
        ap notifies equal
            ∙ same,
      ),
    )
    | inr equal ↦ absurd (true≢false (sym found ∙ has_other me node equal))
  ];
  all = sym (all_of-one notifies me nodes below ∙ ap notified_by same);
}

-- notifies combine, and none is changed
pub covers_grows : (nodes : ℕ) (notifies newer : Notifies) (part : PhasePart)
    → ((node : ℕ) (notify : Notify) → notifies node ≡ Some notify → newer node ≡ Some notify)
    → Covers nodes notifies part → Covers nodes newer part
covers_grows nodes notifies newer part grows whole = record {
  there = λ node found. let was = whole.there node found in (was.0, (was.1.0, grows node was.1.0 was.1.1));
  all = whole.all ∙ all_of-same (among part.mask notifies) (among part.mask newer) nodes
      (λ node below. same node (cases_Bool (has part.mask node)));
}
  where
    same : (node : ℕ) → (has part.mask node ≡ true) ⊎ (has part.mask node ≡ false)
        → among part.mask notifies node ≡ among part.mask newer node
    same node (inl was) = rw was (let notify = whole.there node was in
        notify.1.1 ∙ sym (grows node notify.1.0 notify.1.1))
    same node (inr found) = rw found refl

pub covers_heard : (nodes phase : ℕ) (notifies : ℕ → Notifies) (notifications : List BarrierNotification)
    → ((place : ℕ) (notification : BarrierNotification) → slice_get notifications place ≡ Some notification
    → Covers nodes (notifies notification.phase) (part_of notification)) → Covers nodes (notifies phase) (heard_part phase notifications)
covers_heard nodes phase notifies [] all = covers_none nodes (notifies phase)
covers_heard nodes phase notifies (notification ∷ notifications) all =
    one_more (covers_heard nodes phase notifies notifications (λ place newer equal. all (suc place) newer equal))
    (cases_eq notification.phase phase)
  where
    one_more : Covers nodes (notifies phase) (heard_part phase notifications) → (notification.phase ≡ phase) ⊎ (notification.phase ≢ phase)
        → Covers nodes (notifies phase) (heard_part phase (notification ∷ notifications))
    one_more later (inl equal) =
        let test : eqb notification.phase phase ≡ true = grind (arith, nat_tests) in
        rw test (covers_both nodes (notifies phase) (part_of notification) (heard_part phase notifications)
        (subst (λ number. Covers nodes (notifies number) (part_of notification)) equal (all 0 notification refl)) later)
    one_more later (inr equal) = let test : eqb notification.phase phase ≡ false = grind (arith, nat_tests) in rw test later

abbrev made : ℕ → Combination → PhasePart
made mask combined = record { mask = mask; combined = combined }

pub same_part : {first second : PhasePart} → first.mask ≡ second.mask → first.combined ≡ second.combined
    → first ≡ second
same_part {first = first} {second = second} masks combinations =
    ap (λ mask. made mask first.combined) masks ∙ ap (made second.mask) combinations

-- what is written as a notification is read as it was
pub notification_tells : (phase : ℕ) (part : PhasePart) → part_of (notification_of phase part) ≡ part
notification_tells phase part = same_part (words_number part.mask) (one_written part.combined)

-- a part that is written as a notification is covered as it was
pub covers_notification : (nodes phase : ℕ) (notifies : Notifies) (part : PhasePart) → Covers nodes notifies part
    → Covers nodes notifies (part_of (notification_of phase part))
covers_notification nodes phase notifies part whole = subst (Covers nodes notifies) (sym (notification_tells phase part)) whole

-- where all are in the mask, all have notified, and the rest is the outcome
pub has_all-each : (mask nodes node : ℕ) → has_all mask nodes ≡ true → node < nodes → has mask node ≡ true
has_all-each mask zero node same below = absurd (omega arith)
has_all-each mask (suc last) node same below = let both = and_parts _ _ same in
    elim (cases_eq node last) [
      | inl equal ↦ rw equal both.1
      | inr equal ↦ has_all-each mask last node both.0
          (omega arith)
    ]

pub covers_all : (nodes : ℕ) (notifies : Notifies) (part : PhasePart) → Covers nodes notifies part
    → has_all part.mask nodes ≡ true → part.combined ≡ all_of notifies nodes
covers_all nodes notifies part whole same =
    whole.all ∙ all_of-same (among part.mask notifies) notifies nodes
    (λ node below. rw (has_all-each part.mask nodes node same below) refl)
