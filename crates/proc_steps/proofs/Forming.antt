-- The tries of the forms of steps, by the answers of their calls.
use Rattle.std.proofs.Common.{◌≡◌, Bool, false, [], ◌∷◌, Option, None, Some, refl, sym, ap, ◌∙◌, subst}
use Rattle.part_handlers.specs.Runs.{Meaning}
use Rattle.spec_node.specs.Record.{Node}
use Rattle.part_transfers.specs.declared.operation.Handle.{Handle}
use Rattle.part_transfers.specs.declared.operation.Transfer.{Transfer}
use Rattle.node_rules.specs.EndpointLocal.{EndpointLocal}
use Rattle.node_rules.specs.Sends.{sends}
use Rattle.node_rules.specs.TransferCalls.{Begin}
use Rattle.node_rules.specs.declared.answer.Answer.{Answer}
use Rattle.node_endpoint.specs.EndpointState.{EndpointState, ForItsRecord}
use Rattle.text_calls.specs.declared.scheduled.ScheduledCall.{ScheduledCall}
use Rattle.text_steps.specs.declared.steps.WaitingStep.TheVariants as waiting
use Rattle.law_traces.specs.Actions.{Form, calls_of, ended_by, unless}
use Rattle.law_traces.specs.declared.script_answer.ScriptAnswer.{ScriptAnswer}
use Rattle.law_traces.specs.Scripts.{ThreadCall}
use Rattle.text_script.specs.ScheduledCalls.{meant_by}
use Rattle.proc_steps.specs.Forms.{call_form, tried_while, waits_of, waiting_form, waits_at, begun_handle}
use Rattle.proc_steps.specs.Forms.{as_synced, on_transfers}
use Rattle.proc_steps.specs.Tries.{Makes, TriesForm, made_by, read_as, begun_by}
use Rattle.proc_steps.specs.declared.trial.Trial.{Trial}
use Rattle.proc_steps.specs.declared.trial.Tried.{Tried}
use Rattle.proc_steps.proofs.Trying.{CallsOf, goes_so, tries_call}

-- what a try tells whose call was answered so
abbrev pub ended_with : (waits : Bool) → (call step : Answer) → Tried
ended_with waits call step = record { sent = sends call; ended = unless waits step; began = None }

abbrev pub begun_with : Answer → Tried
begun_with answer = record { sent = sends answer; ended = None; began = Some answer }

-- ---- calls that a schedule has, too

-- the call of such a form
call_made_once : (waits : Option (Answer → Bool)) (meant : ThreadCall) (began : Option Answer)
    → calls_of (tried_while waits meant) began ≡ meant ∷ []
call_made_once None meant began = refl
call_made_once (Some waits) meant began = refl

-- the answer at which it waits, or ends
abbrev waits_by : Option (Answer → Bool) → Answer → Bool
waits_by waits answer = elim waits [
  | None ↦ false
  | Some at ↦ at answer
]

-- how it ends
ends_so : (waits : Option (Answer → Bool)) (meant : ThreadCall) (began : Option Answer) (after : Node EndpointLocal)
    (answer : Answer)
    → unless (waits_by waits answer) answer ≡ ended_by (tried_while waits meant) began after (Some answer)
ends_so None meant began after answer = refl
ends_so (Some waits) meant began after answer = refl

-- it begins nothing
not_begun : (waits : Option (Answer → Bool)) (meant : ThreadCall) (began : Option Answer)
    (ended : Option ScriptAnswer) (answer : Option Answer)
    → None ≡ begun_by (tried_while waits meant) began ended answer
not_begun None meant began ended answer = refl
not_begun (Some waits) meant began ended answer = refl

pub tries_scheduled : (meaning : Meaning) (old new : EndpointState) (trial : Trial) (one : ScheduledCall)
    (meant : ThreadCall) (answer : Answer) (waits : Bool) (tried : Tried)
    → Makes meaning old (made_by trial meant answer) new
    → ForItsRecord old (λ node. meant ≡ meant_by node.local.core.cells one)
    → waits ≡ waits_at one answer → tried ≡ ended_with waits answer answer
    → TriesForm meaning old (read_as trial (λ node. call_form one (meant_by node.local.core.cells one))) tried new
tries_scheduled meaning old new trial one meant answer waits tried makes meant_is waits_is tried_is =
    tries_call meaning old new (read_as trial (λ node. call_form one (meant_by node.local.core.cells one))) tried
    (made_by trial meant answer) makes
    (record {
      now_is = refl;
      thread_is = refl;
      call_is = λ node stands.
          call_made_once (waits_of one) (meant_by node.local.core.cells one) trial.began
          ∙ ap (λ (made : ThreadCall). made ∷ []) (sym (meant_is node stands));
      sent = ap (λ (t : Tried). t.sent) tried_is;
      ended = λ node after stands stands_after.
          ap (λ (t : Tried). t.ended) tried_is
          ∙ (ap (λ (b : Bool). unless b answer) waits_is
          ∙ ends_so (waits_of one) (meant_by node.local.core.cells one) trial.began after answer);
      began = λ node stands.
          ap (λ (t : Tried). t.began) tried_is
          ∙ not_begun (waits_of one) (meant_by node.local.core.cells one) trial.began tried.ended (Some answer);
    })

-- ---- blocking transfers

-- its first try, where an operation is under way
pub transfer_begun : (meaning : Meaning) (old new : EndpointState) (trial : Trial) (text : Transfer)
    (made : Transfer) (answer : Answer) (handle : Handle) (tried : Tried)
    → Makes meaning old (made_by trial (on_transfers (Begin None made)) answer) new → made ≡ text
    → trial.began ≡ None → begun_handle answer ≡ Some handle → tried ≡ begun_with answer
    → TriesForm meaning old
    (read_as trial (λ node. waiting_form node.local.core.cells (waiting.Transfer text))) tried new
transfer_begun meaning old new trial text made answer handle tried makes made_is none under_way tried_is =
    tries_call meaning old new
    (read_as trial (λ node. waiting_form node.local.core.cells (waiting.Transfer text))) tried
    (made_by trial (on_transfers (Begin None made)) answer) makes
    (record {
      now_is = refl;
      thread_is = refl;
      call_is = λ node stands. rw (none, made_is) refl;
      sent = ap (λ (t : Tried). t.sent) tried_is;
      ended = λ node after stands stands_after. rw (none, under_way, tried_is) refl;
      began = λ node stands. rw (none, tried_is) refl;
    })

-- its first try, where none is
pub transfer_not_begun : (meaning : Meaning) (old new : EndpointState) (trial : Trial) (text : Transfer)
    (made : Transfer) (answer said : Answer) (tried : Tried)
    → Makes meaning old (made_by trial (on_transfers (Begin None made)) answer) new → made ≡ text
    → trial.began ≡ None → begun_handle answer ≡ None → said ≡ as_synced answer
    → tried ≡ ended_with false answer said
    → TriesForm meaning old
    (read_as trial (λ node. waiting_form node.local.core.cells (waiting.Transfer text))) tried new
transfer_not_begun meaning old new trial text made answer said tried makes made_is none none_begun said_is tried_is =
    tries_call meaning old new
    (read_as trial (λ node. waiting_form node.local.core.cells (waiting.Transfer text))) tried
    (made_by trial (on_transfers (Begin None made)) answer) makes
    (record {
      now_is = refl;
      thread_is = refl;
      call_is = λ node stands. rw (none, made_is) refl;
      sent = ap (λ (t : Tried). t.sent) tried_is;
      ended = λ node after stands stands_after. rw (none, none_begun, tried_is, said_is) refl;
      began = λ node stands. rw (none, tried_is) refl;
    })

-- ---- forms that are alike

-- where each record gives the same form, the tries are the same
pub tries_alike : (meaning : Meaning) (old new : EndpointState) (trial : Trial)
    (form other : Node EndpointLocal → Form EndpointLocal) (tried : Tried)
    → ((node : Node EndpointLocal) → other node ≡ form node)
    → TriesForm meaning old (read_as trial form) tried new → TriesForm meaning old (read_as trial other) tried new
tries_alike meaning old new trial form other tried alike tries =
    goes_so meaning old new (read_as trial other) tried tries.happen.same
    (λ node stands.
    let happened = tries.happen.happened node stands in
    let went = tries.went node stands in
    subst (λ (one : Form EndpointLocal).
    CallsOf meaning old (read_as trial (λ x. one)) tried new node (calls_of one trial.began)) (sym (alike node))
    (happened.stands, happened.slots_are, happened.well, went.ended, went.began))
