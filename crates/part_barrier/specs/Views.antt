-- A barrier's fields as its state.
use Rattle.std.specs.Prelude.{◌≡◌, ℕ, ◌+◌, ◌^◌, ◌<◌, ◌≤◌, true, is_some}
use Rattle.wire_message.specs.Notifications.{mask_number}
use Rattle.part_barrier.specs.declared.barrier.Barrier.TheInside.{Inside}
use Rattle.part_barrier.specs.declared.known.Known.{Known}
use Rattle.part_barrier.specs.Masks.{has}
use Rattle.part_barrier.specs.Route.{goes_to}
use Rattle.part_barrier.specs.Record.{PhasePart}
use Rattle.part_barrier.specs.BarrierState.{BarrierState}

-- the words of the mask as one number
abbrev pub part : Known → PhasePart
part known = record { mask = mask_number known.mask; combined = known.combined }

abbrev pub fields_view : Inside → BarrierState
fields_view inside =
    record {
      nodes = inside.nodes;
      me = inside.me;
      phase = inside.phase;
      own = inside.own;
      present = part inside.present;
      next = part inside.next;
      last = part inside.last;
      sent_now = mask_number inside.sent_now;
      sent_last = mask_number inside.sent_last;
    }

pub record IsBarrier (inside : Inside) : Type 0 where
  pub few : inside.nodes ≤ 256
  pub in_range : inside.me < inside.nodes
  -- the last phase is never notified
  pub left : is_some inside.own ≡ true → inside.phase + 1 < 2 ^ 64
  -- the nodes to which the route sends the notification of the present phase, and of the one that ended last
  pub now : (to : ℕ) → has (mask_number inside.goes_now) to
      ≡ goes_to inside.nodes inside.me (is_some inside.own) (mask_number inside.present.mask) to
  pub last : (inside.phase ≡ 0 → ⊥) → (to : ℕ) → has (mask_number inside.goes_last) to
      ≡ goes_to inside.nodes inside.me true (mask_number inside.last.mask) to
