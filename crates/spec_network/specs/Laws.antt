-- What holds of every state that a run from the opening comes to, read as a plain world.
-- Origin: GASNet 1.8.1, core API, active messages: a request is run once, and its reply comes back to who asked.
-- Credits and slots are this project's profile.
use Rattle.std.specs.Prelude.{ℕ, ◌≡◌, ◌≢◌, ◌<◌, ◌≤◌, ◌↔◌, true, false, length, None, Some, slice_get}
use Rattle.wire_message.specs.Parameters.{Parameters, credits_of}
use Rattle.wire_message.specs.Content.{Content, message_at_address}
use Rattle.wire_message.specs.Message.{spelling}
use Rattle.spec_node.specs.declared.answer.Asked.TheVariants as asked
use Rattle.spec_node.specs.declared.answer.Delivered.{Delivered}
use Rattle.spec_node.specs.declared.answer.Delivered.TheVariants as delivered
use Rattle.spec_node.specs.Record.{Run}
use Rattle.spec_node.specs.Requests.{outstanding}
use Rattle.spec_node.specs.Credits.{greatest_holding}
use Rattle.spec_node.specs.Held.{held_buffers}
use Rattle.spec_node.specs.Behaviour.{Ask}
use Rattle.spec_node.specs.Step.{reply_slot}
use Rattle.spec_node.specs.Invariant.{address_in}
use Rattle.spec_node.specs.SlotMessages.{message_at}
use Rattle.spec_node.specs.NodeStep.{Job, site_of, OfRequest, OfDelivery}
use Rattle.spec_network.specs.World.{World, Event, Asks, RequestComes, ReplyComes, WorldAnswer, OfNode, world_answer}
use Rattle.spec_network.specs.Plain.{PlainRequest, IsRequest, InRuns, IsPassed, reply_of, outstanding_in, plain_held}
use Rattle.spec_network.specs.Plain.{plain_of}
use Rattle.spec_network.specs.PlainStep.{RequestName, Passes, IsUnrun, IsToTake}

-- ---- answers

-- the event is answered so where it comes, at any time
abbrev pub IsAnswered : {Local Call Told : Type 0}
    → Job Local Call Told → World Local → Event Call → WorldAnswer Told → Type 0
IsAnswered job world event answer =
    (now : ℕ) → world_answer job world (record { now = now; event = event }) ≡ answer

-- it is a delivery that is answered so
abbrev pub IsDelivered : {Local Call Told : Type 0}
    → Job Local Call Told → World Local → Event Call → Delivered → Type 0
IsDelivered job world event answer = IsAnswered job world event (OfNode (OfDelivery answer))

-- ---- requests

-- requests are those of one node that is there to another one, with slots below the credits of the pair; of no pair
-- more than these aren't back
pub record IsWithinCredits {Local : Type 0} (settings : Parameters) (world : World Local) : Type 0 where
  pub nodes : (from to number : ℕ) (request : PlainRequest)
      → IsRequest (plain_of world) from to number request
      → (from < settings.nodes) × (to < settings.nodes) × (from ≢ to)
  pub slots : (from to number : ℕ) (request : PlainRequest)
      → IsRequest (plain_of world) from to number request → request.slot < credits_of settings from to
  pub credits : (from to : ℕ) → outstanding_in (plain_of world) from to ≤ credits_of settings from to

-- ---- what a node holds

-- no node holds more than the sum, over its peers, of the credits of each towards the other
abbrev pub HoldsFew : {Local : Type 0} → Parameters → World Local → Type 0
HoldsFew settings world =
    (node : ℕ) → node < settings.nodes → plain_held settings (plain_of world) node ≤ greatest_holding settings node

-- what the plain world counts is what the records count: the requests of a pair that aren't back, and what a node holds
pub record CountsAgree {Local : Type 0} (settings : Parameters) (world : World Local) : Type 0 where
  pub outstanding : (from to : ℕ) → outstanding_in (plain_of world) from to ≡ outstanding ((world from).asked to)
  pub held : (node : ℕ) → plain_held settings (plain_of world) node ≡ held_buffers settings node (world node)

-- ---- not yet

-- a request that passes every earlier refusal, with a number left, is told 'not yet' exactly where all credits of its
-- pair are out
abbrev pub NotYetExactly : {Local Call Told : Type 0} → Job Local Call Told → World Local → Type 0
NotYetExactly job world =
    (now node : ℕ) (ask : Ask)
    → Passes (site_of job node) (plain_of world) ask
    → length ((plain_of world).requests node ask.to) < job.settings.last
    → (world_answer job world (record { now = now; event = Asks node ask }) ≡ OfNode (OfRequest asked.NotYet))
    ↔ (outstanding_in (plain_of world) node ask.to ≡ credits_of job.settings node ask.to)

-- ---- slots

-- a request that was sent and hasn't run runs where it comes, unless a lock defers it, and its reply is given the
-- slot that it reserved; each other request of that slot is back by then
pub record FindsItsSlot
    {Local Call Told : Type 0} (job : Job Local Call Told) (world : World Local) (name : RequestName)
    (request : PlainRequest)
    : Type 0 where
  pub runs : job.behaviour.messages.waits request.content ((plain_of world).local name.to) ≡ None
      → IsDelivered job world (RequestComes name.from name.to name.number)
      (job.behaviour.messages.runs_as request.content (reply_slot name.from request.slot))
  pub waits : (lock : ℕ) → job.behaviour.messages.waits request.content ((plain_of world).local name.to) ≡ Some lock
      → IsDelivered job world (RequestComes name.from name.to name.number) (delivered.Deferred lock)
  pub others : (number : ℕ) (other : PlainRequest)
      → IsRequest (plain_of world) name.from name.to number other → other.slot ≡ request.slot → number ≢ name.number
      → (plain_of world).back name.from name.to number ≡ true

abbrev pub FindSlots : {Local Call Told : Type 0} → Job Local Call Told → World Local → Type 0
FindSlots job world =
    (name : RequestName) (request : PlainRequest) → IsUnrun (plain_of world) name request
    → FindsItsSlot job world name request

-- the reply of the named request stands in the slot that the request reserved: its datagram is the message of that slot
-- at the target, and the request, come again, is answered by it
pub record StandsInSlot
    {Local Call Told : Type 0} (job : Job Local Call Told) (world : World Local) (name : RequestName)
    (request : PlainRequest)
    (reply : Content) : Type 0 where
  pub message : message_at job.settings name.to (world name.to) (reply_slot name.from request.slot)
      ≡ Some (spelling (message_at_address (address_in job.settings name.to name.from request.slot name.number) reply))
  pub again : IsDelivered job world (RequestComes name.from name.to name.number)
      (delivered.Duplicate (reply_slot name.from request.slot))

-- the reply of a request that ran stands there until a later request of that slot runs
abbrev pub ReplyStands : {Local Call Told : Type 0} → Job Local Call Told → World Local → Type 0
ReplyStands job world =
    (name : RequestName) (request : PlainRequest) (reply : Content)
    → IsRequest (plain_of world) name.from name.to name.number request
    → reply_of name.number ((plain_of world).runs name.from name.to) ≡ Some reply
    → (IsPassed (plain_of world) name.from name.to name.number request → ⊥)
    → StandsInSlot job world name request reply

-- while a request isn't back, no later one of its slot has run
abbrev pub NonePasses : {Local : Type 0} → World Local → Type 0
NonePasses world =
    (from to number : ℕ) (request : PlainRequest)
    → IsRequest (plain_of world) from to number request → (plain_of world).back from to number ≡ false
    → IsPassed (plain_of world) from to number request → ⊥

-- the reply to a request that isn't back gives back the credit of that request where it comes, unless a lock defers it
pub record ReplyFindsItsRequest
    {Local Call Told : Type 0} (job : Job Local Call Told) (world : World Local) (name : RequestName)
    (request : PlainRequest)
    (reply : Content) : Type 0 where
  pub returns : job.behaviour.messages.waits reply ((plain_of world).local name.from) ≡ None
      → IsDelivered job world (ReplyComes name.from name.to name.number)
      (delivered.Returned name.to request.slot name.number)
  pub waits : (lock : ℕ) → job.behaviour.messages.waits reply ((plain_of world).local name.from) ≡ Some lock
      → IsDelivered job world (ReplyComes name.from name.to name.number) (delivered.Deferred lock)

abbrev pub RepliesFindRequests : {Local Call Told : Type 0} → Job Local Call Told → World Local → Type 0
RepliesFindRequests job world =
    (name : RequestName) (request : PlainRequest) (reply : Content)
    → IsToTake (plain_of world) name request reply → ReplyFindsItsRequest job world name request reply

-- ---- runs

-- what the one node asked and the other ran: each run is that of a request that was accepted, with its slot and its
-- content, and none ran twice
pub record RunsOnce {Local : Type 0} (world : World Local) (from to : ℕ) : Type 0 where
  pub accepted : (place : ℕ) (run : Run) → slice_get ((world to).ran from) place ≡ Some run
      → IsRequest (plain_of world) from to run.number (record { content = run.content; slot = run.slot })
  pub once : (place other : ℕ) (run again : Run)
      → slice_get ((world to).ran from) place ≡ Some run → slice_get ((world to).ran from) other ≡ Some again
      → run.number ≡ again.number → place ≡ other

-- what is back has run
abbrev pub BackRan : {Local : Type 0} → World Local → Type 0
BackRan world =
    (from to number : ℕ) → (plain_of world).back from to number ≡ true → InRuns (plain_of world) from to number

-- ---- all of them

-- the laws of a state
pub record IsLawful {Local Call Told : Type 0} (job : Job Local Call Told) (world : World Local) : Type 0 where
  pub within : IsWithinCredits job.settings world
  pub few : HoldsFew job.settings world
  pub counts : CountsAgree job.settings world
  pub not_yet : NotYetExactly job world
  pub finds : FindSlots job world
  pub stands : ReplyStands job world
  pub passes : NonePasses world
  pub returns : RepliesFindRequests job world
  pub runs : (from to : ℕ) → RunsOnce world from to
  pub back : BackRan world
