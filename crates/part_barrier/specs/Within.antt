-- The notifications that go can be written as arguments, where those that came can.
use Rattle.std.specs.Prelude.{◌≡◌, ℕ, ◌^◌, ◌<◌, ◌≤◌, ℤ, Option, Some, length, slice_get}
use Rattle.std.specs.Int.{w32}
use Rattle.std.specs.Int.RustNames.{FitsSigned}
use Rattle.wire_message.specs.declared.notification.BarrierNotification.{BarrierNotification}
use Rattle.wire_message.specs.Notifications.{IsNotification}
use Rattle.part_barrier.specs.declared.known.Notify.{Notify}
use Rattle.part_barrier.specs.Record.{BarrierRecord, Try, opened_record, own, notify_answer, notify_after, try_answer}
use Rattle.part_barrier.specs.Record.{try_after, hear, notification_to, send}

-- what was notified and heard is in the ranges of a notification among so many nodes
pub record IsWithin (nodes : ℕ) (kept : BarrierRecord) : Type 0 where
  pub low : kept.ended ≤ length kept.notifies
  pub count : length kept.notifies < 2 ^ 64
  pub own : (phase : ℕ) (notify : Notify) → own kept phase ≡ Some notify → FitsSigned w32 notify.id
  pub heard : (place : ℕ) (notification : BarrierNotification) → slice_get kept.heard place ≡ Some notification
      → IsNotification nodes notification

-- so is the notification that must go to a node
abbrev pub NotificationsFit : Type 0
NotificationsFit =
    (nodes me : ℕ) (kept : BarrierRecord) (to : ℕ) (notification : BarrierNotification) → nodes ≤ 256 → me < nodes
    → IsWithin nodes kept → notification_to nodes me kept to ≡ Some notification
    → IsNotification nodes notification

-- each step keeps it
pub record StepsWithin (nodes : ℕ) (kept : BarrierRecord) : Type 0 where
  pub notify : (id : ℤ) (flags : ℕ) → FitsSigned w32 id
      → IsWithin nodes (notify_after kept id flags (notify_answer kept id flags))
  pub tried : (me : ℕ) (try : Try) → IsWithin nodes (try_after kept (try_answer nodes me kept try))
  pub hear : (notification : BarrierNotification) → IsNotification nodes notification
      → IsWithin nodes (hear kept notification)
  pub send : (to : ℕ) (notification : Option BarrierNotification) → IsWithin nodes (send kept to notification)

abbrev pub StaysWithin : Type 0
StaysWithin =
    ((nodes : ℕ) → IsWithin nodes opened_record)
    × ((nodes : ℕ) (kept : BarrierRecord) → IsWithin nodes kept → StepsWithin nodes kept)
