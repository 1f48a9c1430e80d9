-- What a delivery would be answered.
use Rattle.std.specs.Prelude.{ℕ, ◌≡◌, ◌⊎◌, List, Option, None, Some}
use Rattle.wire_message.specs.Message.{Message, Spells}
use Rattle.wire_message.specs.Content.{content_of}
use Rattle.wire_message.specs.Refusals.{first_refusal}
use Rattle.wire_message.specs.declared.refused.Refused.{Refused}
use Rattle.part_window.specs.SlotsState.{IsTakenAt}
use Rattle.part_window.specs.RepliesState.{JudgesAt}
use Rattle.part_window.specs.declared.replies.Judged.TheVariants as judged
use Rattle.part_handlers.specs.Runs.{Meaning}
use Rattle.spec_node.specs.declared.answer.Delivered.{Delivered}
use Rattle.spec_node.specs.declared.answer.Delivered.TheVariants as delivered
use Rattle.spec_node.specs.declared.answer.Why.TheVariants as why
use Rattle.spec_node.specs.Step.{deliver_answer, reply_slot}
use Rattle.spec_node.specs.NodeStep.{site_of}
use Rattle.node_core.specs.Library.{run_answer}
use Rattle.node_core.specs.CoreState.{CoreState}
use Rattle.node_core.specs.CoreStep.{IsNewRequest, IsOpenReply, IsOurReply, IsOurRequest, lock_at, message_refusal}
use Rattle.node_core.specs.CoreContracts.{ForItsRecord, core_job}

-- a request that is new in its slot would run, and would be answered so
pub record WouldRun (core : CoreState) (message : Message) (answer : Delivered) : Type 0 where
  pub request : IsNewRequest core message
  pub free : lock_at core message ≡ None
  pub answer_is : answer
      ≡ run_answer core.settings.version (content_of message) (reply_slot message.from message.slot)

-- why a message would be answered so
abbrev pub WouldAnswer : CoreState → Message → Delivered → Type 0
WouldAnswer core message (delivered.Ran at) = WouldRun core message (delivered.Ran at)
WouldAnswer core message (delivered.Notified at notification) =
    WouldRun core message (delivered.Notified at notification)
WouldAnswer core message (delivered.Duplicate at) =
    IsOurRequest core message × (at ≡ reply_slot message.from message.slot)
    × JudgesAt core.replies message.from message.slot message.number judged.Duplicate
WouldAnswer core message delivered.Stale =
    IsOurRequest core message × JudgesAt core.replies message.from message.slot message.number judged.Stale
WouldAnswer core message (delivered.Returned to slot number) =
    IsOpenReply core message × (to ≡ message.from) × (slot ≡ message.slot) × (number ≡ message.number)
    × (lock_at core message ≡ None)
WouldAnswer core message delivered.Late =
    IsOurReply core message × (IsTakenAt core.requests message.from message.slot message.number → ⊥)
WouldAnswer core message (delivered.Refused reason) = message_refusal core message ≡ Some reason
WouldAnswer core message (delivered.Deferred lock) =
    (IsNewRequest core message ⊎ IsOpenReply core message) × (lock_at core message ≡ Some lock)

-- what a delivery of these bytes would be answered: what the record says, whatever the handlers mean
pub record WouldDeliver (core : CoreState) (bytes : List ℕ) (answer : Delivered) : Type 0 where
  pub comes : (message : Message) → message.version ≡ core.settings.version → Spells message bytes
      → (meaning : Meaning) → ForItsRecord core (λ node.
      answer ≡ deliver_answer (site_of (core_job meaning core) core.me) node message)
  pub refused : (reason : Refused) → first_refusal core.settings.version bytes ≡ Some reason
      → answer ≡ delivered.Refused (why.Bytes reason)
