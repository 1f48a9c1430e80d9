-- The barriers of n nodes, and the law of the outcome.
use Rattle.std.specs.Prelude.{◌≡◌, ◌↔◌, ◌⊎◌, ℕ, ◌<◌, ℤ, Bool, true, Option, Some, None, List, [], ◌∷◌}
use Rattle.std.specs.Prelude.{if◌then◌else◌, ◌==◌, slice_get}
use Rattle.std.specs.List.{AllByRecursion}
use Rattle.wire_message.specs.declared.notification.BarrierNotification.{BarrierNotification}
use Rattle.part_barrier.specs.declared.known.Notify.{Notify}
use Rattle.part_barrier.specs.declared.answer.BarrierAnswer.TheVariants as tried
use Rattle.part_barrier.specs.Masks.{has}
use Rattle.part_barrier.specs.Combinations.{Notifies, all_of, among}
use Rattle.part_barrier.specs.Record.{BarrierRecord, SentNotification, PhasePart, opened_record, own, part_of}
use Rattle.part_barrier.specs.Record.{is_other_try}
use Rattle.part_barrier.specs.Record.{hear, send}
use Rattle.part_barrier.specs.Record.{Try, notify_answer, notify_after, try_answer, try_after, notification_to}

-- the record of each node's barrier
abbrev pub Barriers : Type 0
Barriers = (node : ℕ) → BarrierRecord

-- what each node notified of a phase
abbrev pub notifies_of : Barriers → (phase : ℕ) → Notifies
notifies_of barriers phase node = own (barriers node) phase

-- ---- the law of the outcome, over any records of n nodes

-- the outcome of the phase is a mismatch
abbrev pub is_mismatch : (nodes : ℕ) → Barriers → (phase : ℕ) → Bool
is_mismatch nodes barriers phase = (all_of (notifies_of barriers phase) nodes).mismatch

-- each of the n nodes has notified the phase
abbrev pub AllNotified : (nodes : ℕ) → Barriers → (phase : ℕ) → Type 0
AllNotified nodes barriers phase =
    (node : ℕ) → node < nodes → (notify : Notify) × (own (barriers node) phase ≡ Some notify)

-- a try's flags, or its identifier, aren't those of the node's own notify of the phase
abbrev pub IsOtherTry : BarrierRecord → (id : ℤ) → (flags : ℕ) → Type 0
IsOtherTry kept id flags =
    (notify : Notify) × (own kept kept.ended ≡ Some notify) × (is_other_try notify id flags ≡ true)

-- a try that ends a phase ends one that all have notified, and tells a mismatch exactly where the outcome is one or
-- where it differs from the node's own notify
abbrev pub TryTells : (nodes : ℕ) → Barriers → Type 0
TryTells nodes barriers =
    (node : ℕ) (try : Try) → node < nodes →
    (try_answer nodes node (barriers node) try ≡ tried.Ok)
    ⊎ (try_answer nodes node (barriers node) try ≡ tried.Mismatch) →
    AllNotified nodes barriers (barriers node).ended
    × ((try_answer nodes node (barriers node) try ≡ tried.Mismatch)
    ↔ ((is_mismatch nodes barriers (barriers node).ended ≡ true) ⊎ IsOtherTry (barriers node) try.id try.flags))

-- each phase that a node has ended was notified by all
abbrev pub EndedByAll : (nodes : ℕ) → Barriers → Type 0
EndedByAll nodes barriers =
    (node phase : ℕ) → node < nodes → phase < (barriers node).ended → AllNotified nodes barriers phase

-- ---- what makes it so: notifications tell of nothing but notifies

-- each node of the part is there and has notified, and what is known is their notifies combined
pub record Covers (nodes : ℕ) (notifies : Notifies) (part : PhasePart) : Type 0 where
  pub there : (node : ℕ) → has part.mask node ≡ true
      → (node < nodes) × ((notify : Notify) × (notifies node ≡ Some notify))
  pub all : part.combined ≡ all_of (among part.mask notifies) nodes

-- a notification tells of nodes that have notified its phase, and exactly what they notified
abbrev pub IsCovered : (nodes : ℕ) → Barriers → BarrierNotification → Type 0
IsCovered nodes barriers notification = Covers nodes (notifies_of barriers notification.phase) (part_of notification)

-- so does every notification that was heard or sent
pub record AreCovered (nodes : ℕ) (barriers : Barriers) : Type 0 where
  pub heard : (node place : ℕ) (notification : BarrierNotification) → slice_get (barriers node).heard place
      ≡ Some notification
      → IsCovered nodes barriers notification
  pub sent : (node place : ℕ) (sent : SentNotification) → slice_get (barriers node).sent place ≡ Some sent
      → IsCovered nodes barriers sent.notification

-- one record becomes another: no notify is changed, and each new notification is covered
pub record Keeps (nodes : ℕ) (barriers : Barriers) (kept newer : BarrierRecord) : Type 0 where
  pub own : (phase : ℕ) (notify : Notify) → own kept phase ≡ Some notify → own newer phase ≡ Some notify
  pub heard : (place : ℕ) (notification : BarrierNotification) → slice_get newer.heard place ≡ Some notification
      → (slice_get kept.heard place ≡ Some notification) ⊎ IsCovered nodes barriers notification
  pub sent : (place : ℕ) (sent : SentNotification) → slice_get newer.sent place ≡ Some sent
      → (slice_get kept.sent place ≡ Some sent) ⊎ IsCovered nodes barriers sent.notification

-- the record of one node, changed
abbrev pub put_record : Barriers → (node : ℕ) → BarrierRecord → Barriers
put_record barriers node kept other = if other == node then kept else barriers other

-- ---- every run of barriers by themselves

-- what may happen next: any notification that was ever sent may come, to any node, at any time and again
pub data BarrierEvent : Type 0 where
  Notifying : (node : ℕ) → (id : ℤ) → (flags : ℕ) → BarrierEvent
  Trying : (node : ℕ) → Try → BarrierEvent
  Sending : (node to : ℕ) → BarrierEvent
  Hearing : (node other place : ℕ) → BarrierEvent  -- the notification that the other node sent at this place

abbrev pub hear_sent : BarrierRecord → Option SentNotification → BarrierRecord
hear_sent kept None = kept
hear_sent kept (Some sent) = hear kept sent.notification

abbrev pub happens : (nodes : ℕ) → Barriers → BarrierEvent → Barriers
happens nodes barriers (Notifying node id flags) =
    put_record barriers node (notify_after (barriers node) id flags (notify_answer (barriers node) id flags))
happens nodes barriers (Trying node try) =
    put_record barriers node (try_after (barriers node) (try_answer nodes node (barriers node) try))
happens nodes barriers (Sending node to) =
    put_record barriers node (send (barriers node) to (notification_to nodes node (barriers node) to))
happens nodes barriers (Hearing node other place) =
    put_record barriers node (hear_sent (barriers node) (slice_get (barriers other).sent place))

abbrev pub barriers_after : (nodes : ℕ) → List BarrierEvent → Barriers → Barriers
barriers_after nodes [] barriers = barriers
barriers_after nodes (event ∷ events) barriers = barriers_after nodes events (happens nodes barriers event)

abbrev pub all_opened : Barriers
all_opened node = opened_record

-- the event is of a node that is there
abbrev pub IsAmong : (nodes : ℕ) → BarrierEvent → Type 0
IsAmong nodes (Notifying node id flags) = node < nodes
IsAmong nodes (Trying node try) = node < nodes
IsAmong nodes (Sending node to) = node < nodes
IsAmong nodes (Hearing node other place) = node < nodes

-- a law holds after each list of events
abbrev pub InEveryRun : ((nodes : ℕ) → Barriers → Type 0) → Type 0
InEveryRun Law =
    (nodes : ℕ) (events : List BarrierEvent) → AllByRecursion (IsAmong nodes) events
    → Law nodes (barriers_after nodes events all_opened)
