-- What a barrier keeps.
use Rattle.std.specs.Prelude.{ℕ, ◌-◌, ◌||◌, true, Option, None, is_some, if◌then◌else◌, ◌==◌}
use Rattle.wire_message.specs.declared.notification.BarrierNotification.{BarrierNotification}
use Rattle.part_barrier.specs.declared.known.Notify.{Notify}
use Rattle.part_barrier.specs.Masks.{has}
use Rattle.part_barrier.specs.Record.{PhasePart, notification_on_route, or_else}

pub record BarrierState : Type 0 where
  pub nodes : ℕ
  pub me : ℕ
  pub phase : ℕ
  pub own : Option Notify
  pub present : PhasePart  -- what is known of the present phase
  pub next : PhasePart  -- of the next one
  pub last : PhasePart  -- and of the one that ended last
  pub sent_now : ℕ  -- the nodes to which the present phase's notification was sent, as a mask
  pub sent_last : ℕ  -- and the notification of the phase that ended last

-- the notification of the phase that ended last that must go to a node still
abbrev pub last_due : BarrierState → (to : ℕ) → Option BarrierNotification
last_due state to =
    if (state.phase == 0) || has state.sent_last to then None
    else notification_on_route state.nodes state.me
    (record { phase = state.phase - 1; notified = true; part = state.last }) to

-- of the present one
abbrev pub now_due : BarrierState → (to : ℕ) → Option BarrierNotification
now_due state to =
    if has state.sent_now to then None
    else notification_on_route state.nodes state.me
    (record { phase = state.phase; notified = is_some state.own; part = state.present }) to

-- the notification that must go to a node
abbrev pub notification_at : BarrierState → (to : ℕ) → Option BarrierNotification
notification_at state to = or_else (last_due state to) (now_due state to)
