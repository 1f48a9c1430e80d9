-- The record of a node's barrier: all that it ever notified, heard and sent.
use Rattle.std.specs.Prelude.{ℕ, zero, suc, ◌-◌, ◌^◌, ℤ, Bool, not, ◌&&◌, ◌||◌, Option, Some, None}
use Rattle.std.specs.Prelude.{List, [], ◌∷◌, ◌++◌, is_some, if◌then◌else◌, ◌==◌, length, nat_lt, bit_or, slice_get}
use Rattle.std.specs.Ordering.{int_eq}
use Rattle.std.specs.List.{list_any}
use Rattle.wire_message.specs.declared.notification.BarrierNotification.{BarrierNotification}
use Rattle.wire_message.specs.Notifications.{mask_number}
use Rattle.part_barrier.specs.declared.known.Combination.{Combination}
use Rattle.part_barrier.specs.declared.known.Notify.{Notify}
use Rattle.part_barrier.specs.declared.answer.Notified.{Notified}
use Rattle.part_barrier.specs.declared.answer.Notified.TheVariants as told
use Rattle.part_barrier.specs.declared.answer.BarrierAnswer.{BarrierAnswer}
use Rattle.part_barrier.specs.declared.answer.BarrierAnswer.TheVariants as tried
use Rattle.part_barrier.specs.Masks.{has_all, mask_words}
use Rattle.part_barrier.specs.Combinations.{is_anonymous, one_notify, no_notify, combine, combined_id, combined_flags}
use Rattle.part_barrier.specs.Route.{goes_to}

-- a notification, and the node that it was sent to
pub record SentNotification : Type 0 where
  pub to : ℕ
  pub notification : BarrierNotification

pub record BarrierRecord : Type 0 where
  pub notifies : List Notify  -- of phase 0, of phase 1, and so on
  pub ended : ℕ  -- how many phases it has ended, so also the number of the present one
  pub heard : List BarrierNotification  -- those whose phase was then the present or the next one
  pub sent : List SentNotification

-- at the start
abbrev pub opened_record : BarrierRecord
opened_record = record { notifies = []; ended = 0; heard = []; sent = [] }

-- it was never notified
abbrev pub has_notified_nothing : BarrierRecord → Bool
has_notified_nothing kept = length kept.notifies == 0

-- its own notify of a phase
abbrev pub own : BarrierRecord → (phase : ℕ) → Option Notify
own kept phase = slice_get kept.notifies phase

-- ---- what it knows of a phase

-- nodes, and what they notified, combined
pub record PhasePart : Type 0 where
  pub mask : ℕ
  pub combined : Combination

abbrev pub no_part : PhasePart
no_part = record { mask = 0; combined = no_notify }

abbrev pub join : (first second : PhasePart) → PhasePart
join first second =
    record {
      mask = bit_or first.mask second.mask;
      combined = combine first.combined second.combined;
    }

-- of a notification, which is read as one notify
abbrev pub part_of : BarrierNotification → PhasePart
part_of notification =
    record { mask = mask_number notification.mask; combined = one_notify notification.id notification.flags }

-- of the node's own notify
abbrev pub own_part : (me : ℕ) → Option Notify → PhasePart
own_part me None = no_part
own_part me (Some notify) = record { mask = 2 ^ me; combined = one_notify notify.id notify.flags }

-- of the notifications of the phase among these
abbrev pub heard_part : (phase : ℕ) → List BarrierNotification → PhasePart
heard_part phase [] = no_part
heard_part phase (notification ∷ notifications) =
    if notification.phase == phase then join (part_of notification) (heard_part phase notifications)
    else heard_part phase notifications

-- the nodes that it knows, and what is seen of their notifies: its own one, and those of the notifications that it
-- heard
abbrev pub known_part : (me : ℕ) → BarrierRecord → (phase : ℕ) → PhasePart
known_part me kept phase = join (own_part me (own kept phase)) (heard_part phase kept.heard)

-- ---- notify

-- the first that is so
abbrev pub notify_answer : BarrierRecord → (id : ℤ) → (flags : ℕ) → Notified
notify_answer kept id flags =
    if nat_lt 3 flags then told.BadFlags
    else (if is_some (own kept kept.ended) then told.Twice
    else (if kept.ended == 2 ^ 64 - 1 then told.Exhausted else told.Ok))

abbrev pub notify_after : BarrierRecord → (id : ℤ) → (flags : ℕ) → Notified → BarrierRecord
notify_after kept id flags told.Ok =
    record kept { notifies = kept.notifies ++ record { id = id; flags = flags } ∷ [] }
notify_after kept id flags _ = kept

-- ---- try

pub record Try : Type 0 where
  pub id : ℤ
  pub flags : ℕ
  -- a node that a notification of the phase must go to still, for which the numbers are exhausted
  pub exhausted : Option ℕ

-- the try's flags, or its identifier where it is named, aren't those of the notify
abbrev pub is_other_try : Notify → (id : ℤ) → (flags : ℕ) → Bool
is_other_try notify id flags =
    not (notify.flags == flags) || (not (is_anonymous flags) && not (int_eq notify.id id))

-- of a phase that isn't complete, where the numbers of a node may be exhausted
abbrev pub unready : (exhausted : Option ℕ) → BarrierAnswer
unready None = tried.NotReady
unready (Some node) = tried.Exhausted node

-- of a phase that the node has notified, or hasn't
abbrev pub own_try : (nodes : ℕ) → PhasePart → Try → Option Notify → BarrierAnswer
own_try nodes part try None = tried.NoNotify
own_try nodes part try (Some notify) =
    if has_all part.mask nodes
    then (if part.combined.mismatch || is_other_try notify try.id try.flags then tried.Mismatch else tried.Ok)
    else unready try.exhausted

abbrev pub try_answer : (nodes me : ℕ) → BarrierRecord → Try → BarrierAnswer
try_answer nodes me kept try =
    if nat_lt 3 try.flags then tried.BadFlags
    else own_try nodes (known_part me kept kept.ended) try (own kept kept.ended)

-- a phase ends by the try that tells its outcome
abbrev pub try_after : BarrierRecord → BarrierAnswer → BarrierRecord
try_after kept tried.Ok = record kept { ended = suc kept.ended }
try_after kept tried.Mismatch = record kept { ended = suc kept.ended }
try_after kept _ = kept

-- ---- a notification comes

abbrev pub hear : BarrierRecord → BarrierNotification → BarrierRecord
hear kept notification =
    if (notification.phase == kept.ended) || (notification.phase == suc kept.ended)
    then record kept { heard = kept.heard ++ notification ∷ [] }
    else kept

-- ---- a notification goes

-- what is known, as a notification of the phase
abbrev pub notification_of : (phase : ℕ) → PhasePart → BarrierNotification
notification_of phase part =
    record {
      phase = phase;
      mask = mask_words part.mask;
      id = combined_id part.combined;
      flags = combined_flags part.combined;
    }

-- how far a node is with a phase
pub record Stage : Type 0 where
  pub phase : ℕ
  pub notified : Bool  -- by the node itself
  pub part : PhasePart  -- what it knows of the phase

abbrev pub stage : (me : ℕ) → BarrierRecord → (phase : ℕ) → Stage
stage me kept phase =
    record { phase = phase; notified = is_some (own kept phase); part = known_part me kept phase }

-- the notification of the phase that the route sends to a node
abbrev pub notification_on_route : (nodes me : ℕ) → Stage → (to : ℕ) → Option BarrierNotification
notification_on_route nodes me now to =
    if goes_to nodes me now.notified now.part.mask to then Some (notification_of now.phase now.part) else None

-- the notification of the phase was sent to the node
abbrev pub was_sent : BarrierRecord → (phase to : ℕ) → Bool
was_sent kept phase to = list_any (λ sent. (sent.to == to) && (sent.notification.phase == phase)) kept.sent

-- the notification of the phase that must go to the node still
abbrev pub due : (nodes me : ℕ) → BarrierRecord → (phase to : ℕ) → Option BarrierNotification
due nodes me kept phase to =
    if was_sent kept phase to then None
    else notification_on_route nodes me (stage me kept phase) to

-- of the phase before this one
abbrev pub due_before : (nodes me : ℕ) → BarrierRecord → (phase to : ℕ) → Option BarrierNotification
due_before nodes me kept zero to = None
due_before nodes me kept (suc phase) to = due nodes me kept phase to

abbrev pub or_else : {Item : Type 0} → (first second : Option Item) → Option Item
or_else None second = second
or_else (Some item) second = Some item

-- the notification that goes to the node: of the phase that ended last, else of the present one
abbrev pub notification_to : (nodes me : ℕ) → BarrierRecord → (to : ℕ) → Option BarrierNotification
notification_to nodes me kept to =
    or_else (due_before nodes me kept kept.ended to) (due nodes me kept kept.ended to)

-- a notification of the present phase must go to the node
abbrev pub owes : (nodes me : ℕ) → BarrierRecord → (to : ℕ) → Bool
owes nodes me kept to = is_some (due nodes me kept kept.ended to)

abbrev pub send : BarrierRecord → (to : ℕ) → Option BarrierNotification → BarrierRecord
send kept to None = kept
send kept to (Some notification) =
    record kept { sent = kept.sent ++ record { to = to; notification = notification } ∷ [] }
