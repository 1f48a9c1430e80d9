-- What each call of a core does, of every record for which the core stood.
use Rattle.std.specs.Prelude.{ℕ, ◌≡◌, List, length, Option, Some, None, Result}
use Rattle.wire_message.specs.Parameters.{Parameters}
use Rattle.wire_message.specs.Message.{Message, Spells}
use Rattle.wire_message.specs.Refusals.{first_refusal}
use Rattle.wire_message.specs.declared.refused.Refused.{Refused}
use Rattle.part_handlers.specs.declared.rules.CallKind.{CallKind}
use Rattle.part_handlers.specs.declared.rules.Forbidden.{Forbidden}
use Rattle.part_handlers.specs.Runs.{Meaning, lock_refusal, unlock_refusal}
use Rattle.part_handlers.specs.declared.lock_answer.Owner.TheVariants as owner
use Rattle.part_handlers.specs.declared.lock_answer.LockAnswer.{LockAnswer}
use Rattle.part_handlers.specs.declared.lock_answer.UnlockAnswer.{UnlockAnswer}
use Rattle.part_handlers.specs.Locks.{lock_answer, after_lock, unlock_answer, after_unlock}
use Rattle.spec_node.specs.declared.answer.SlotRef.{SlotRef}
use Rattle.spec_node.specs.declared.answer.Why.TheVariants as why
use Rattle.spec_node.specs.declared.answer.Delivered.{Delivered}
use Rattle.spec_node.specs.declared.answer.Delivered.TheVariants as delivered
use Rattle.spec_node.specs.declared.answer.Ticked.{Ticked}
use Rattle.spec_node.specs.declared.answer.Ticked.TheVariants as ticked
use Rattle.spec_node.specs.declared.answer.Asked.{Asked}
use Rattle.spec_node.specs.declared.answer.Asked.TheVariants as asked
use Rattle.spec_node.specs.Record.{Node}
use Rattle.spec_node.specs.Credits.{limits_of}
use Rattle.spec_node.specs.Behaviour.{Behaviour}
use Rattle.spec_node.specs.Step.{judged_local, claim_answer, with_request}
use Rattle.spec_node.specs.NodeStep.{Job, NodeEvent, Comes, NodeAnswer, OfDelivery, node_answer, node_after}
use Rattle.spec_node.specs.Transition.{Transition}
use Rattle.node_core.specs.Kept.{Local, with_locks, segment_of}
use Rattle.node_core.specs.Library.{Work, work_content}
use Rattle.node_core.specs.ClientRules.{rules, with_violations}
use Rattle.node_core.specs.CoreState.{CoreState}
use Rattle.node_core.specs.Stands.{CoreStands}

-- ---- a core as a node

-- what a thread may call of a core beside a request
pub data CoreCall : Type 0 where
  Check : CallKind → CoreCall  -- such a call is judged by the rule table
  Lock : (lock : ℕ) → CoreCall  -- a handler-safe lock is taken
  Unlock : (lock : ℕ) → CoreCall  -- it is given back

-- what that is answered
pub data CoreTold : Type 0 where
  Checked : Result (Unit {0}) Forbidden → CoreTold
  Locked : LockAnswer → CoreTold
  Unlocked : UnlockAnswer → CoreTold

-- what such a call answers and leaves, where a node does this with messages. A fault of a lock is noted as a violation;
-- a thread may take any lock
abbrev pub core_does : Behaviour Local → (thread : ℕ) → CoreCall → Local → CoreTold × Local
core_does behaviour thread (Check kind) local =
    let judged = behaviour.judges thread kind local in
    (Checked judged, judged_local behaviour thread judged local)
core_does behaviour thread (Lock lock) local =
    let answer = lock_answer local.locks (owner.Thread thread) lock 0 in (
      Locked answer,
      with_locks (after_lock local.locks (owner.Thread thread) lock 0)
          (with_violations thread (lock_refusal answer) local),
    )
core_does behaviour thread (Unlock lock) local =
    let answer = unlock_answer local.locks (owner.Thread thread) lock in (
      Unlocked answer,
      with_locks (after_unlock local.locks (owner.Thread thread) lock)
          (with_violations thread (unlock_refusal answer) local),
    )

-- the core's job: what it does with messages by its table and these handlers, and by the other calls
abbrev pub core_job : Meaning → CoreState → Job Local CoreCall CoreTold
core_job meaning core =
    let messages = rules core.settings core.table meaning in
    record {
      settings = core.settings;
      behaviour = record {
        messages = messages;
        does = λ me exhausted thread call local. core_does messages thread call local;
      };
    }

-- the core of the same node of the same job, with the same table, and a segment as long
pub record IsSameNode (old new : CoreState) : Type 0 where
  pub settings : new.settings ≡ old.settings
  pub me_is : new.me ≡ old.me
  pub table : new.table ≡ old.table
  pub segment_length : length new.segment ≡ length old.segment

-- ---- every call

-- the event with its answer is the step of every record for which the core stood, and it stands for what that leaves
pub record CoreSteps
    (meaning : Meaning) (old : CoreState) (step : Transition (NodeEvent CoreCall) (NodeAnswer CoreTold))
    (new : CoreState) : Type 0 where
  pub same : IsSameNode old new
  pub steps : (node : Node Local) → CoreStands old node
      → (step.answer ≡ node_answer (core_job meaning old) old.me node step.now step.event)
      × CoreStands new (node_after (core_job meaning old) old.me node step.now step.event)

-- bytes that are delivered: they spell a message of the job's version, which comes, whatever the time; or they are
-- refused by the first reason, and nothing happened
pub record Delivers (meaning : Meaning) (old : CoreState) (bytes : List ℕ) (answer : Delivered) (new : CoreState)
    : Type 0 where
  pub same : IsSameNode old new
  pub comes : (message : Message) → message.version ≡ old.settings.version → Spells message bytes → (now : ℕ)
      → CoreSteps meaning old (record { now = now; event = Comes message; answer = OfDelivery answer }) new
  pub refused : (reason : Refused) → first_refusal old.settings.version bytes ≡ Some reason
      → (answer ≡ delivered.Refused (why.Bytes reason)) × (new ≡ old)

-- ---- requests of the library

-- the library asks this of another node
pub record OwnAsk : Type 0 where
  pub now : ℕ
  pub to : ℕ
  pub work : Work
  pub answer : Asked

-- the node after the library asked, by the answer
abbrev pub after_own_ask : Parameters → Node Local → OwnAsk → Asked → Node Local
after_own_ask settings node step (asked.Accepted to slot number) =
    with_request node step.now step.to slot
    (work_content settings.version (segment_of settings node.local) step.work)
after_own_ask settings node step _ = node

-- the answer is that of the pair, and what is asked is its next request where it was accepted
pub record AsksOwn (old : CoreState) (step : OwnAsk) (new : CoreState) : Type 0 where
  pub same : IsSameNode old new
  pub steps : (node : Node Local) → CoreStands old node
      → (step.answer ≡ claim_answer (limits_of old.settings old.me step.to) step.to (node.asked step.to))
      × CoreStands new (after_own_ask old.settings node step step.answer)

-- ---- ticks

-- how a tick is answered that sends the request of this slot again, or nothing
abbrev pub retransmits : Option SlotRef → Ticked
retransmits None = ticked.Nothing
retransmits (Some at) = ticked.Retransmission at

-- ---- what is read of a core

-- this holds of every record for which the core stands
abbrev pub ForItsRecord : CoreState → (Node Local → Type 0) → Type 0
ForItsRecord core Holds = (node : Node Local) → CoreStands core node → Holds node
