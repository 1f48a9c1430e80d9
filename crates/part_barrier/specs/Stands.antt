-- What a barrier keeps is what its record gives.
use Rattle.std.specs.Prelude.{◌≡◌, ℕ, zero, suc, ◌^◌, ◌≤◌, Some, List, [], ◌∷◌, length, if◌then◌else◌}
use Rattle.std.specs.Prelude.{◌==◌, bit_or, slice_get}
use Rattle.wire_message.specs.declared.notification.BarrierNotification.{BarrierNotification}
use Rattle.part_barrier.specs.Record.{BarrierRecord, SentNotification, own, no_part, known_part}
use Rattle.part_barrier.specs.BarrierState.{BarrierState}

-- the nodes to which the notification of the phase was sent
abbrev pub sent_mask : (phase : ℕ) → List SentNotification → ℕ
sent_mask phase [] = 0
sent_mask phase (one ∷ sent) =
    if one.notification.phase == phase then bit_or (2 ^ one.to) (sent_mask phase sent) else sent_mask phase sent

-- a value of the phase that ended last, or this where none has ended
abbrev pub before : {Item : Type 0} → (none : Item) → (of_phase : (phase : ℕ) → Item) → (ended : ℕ) → Item
before none of_phase zero = none
before none of_phase (suc phase) = of_phase phase

abbrev pub barrier_state : (nodes me : ℕ) → BarrierRecord → BarrierState
barrier_state nodes me kept =
    record {
      nodes = nodes;
      me = me;
      phase = kept.ended;
      own = own kept kept.ended;
      present = known_part me kept kept.ended;
      next = known_part me kept (suc kept.ended);
      last = before no_part (known_part me kept) kept.ended;
      sent_now = sent_mask kept.ended kept.sent;
      sent_last = before 0 (λ phase. sent_mask phase kept.sent) kept.ended;
    }

pub record BarrierStands (nodes me : ℕ) (state : BarrierState) (kept : BarrierRecord) : Type 0 where
  pub is : state ≡ barrier_state nodes me kept
  -- of the record: each phase that ended was notified, and no later one than the present
  pub low : kept.ended ≤ length kept.notifies
  pub high : length kept.notifies ≤ suc kept.ended
  -- nothing was heard of a later phase than the next one, nor sent of a later one than the present
  pub heard : (place : ℕ) (notification : BarrierNotification) → slice_get kept.heard place ≡ Some notification
      → notification.phase ≤ suc kept.ended
  pub sent : (place : ℕ) (sent : SentNotification) → slice_get kept.sent place ≡ Some sent
      → sent.notification.phase ≤ kept.ended

-- this holds of every record that the barrier stands for, with its nodes and the node that it is of
abbrev pub ForItsBarrierRecord : BarrierState → ((nodes me : ℕ) → BarrierRecord → Type 0) → Type 0
ForItsBarrierRecord state Holds =
    (nodes me : ℕ) (kept : BarrierRecord) → BarrierStands nodes me state kept → Holds nodes me kept
