-- What the calls of steps that a text can say say and write fits its places.
use Rattle.std.proofs.Common.{◌≡◌, ℕ, ℤ, Bool, true, false, cond, arith, refl, List, [], ◌∷◌, Option, None, Some, subst}
use Rattle.std.specs.Prelude.{◌==◌}
use Rattle.std.specs.List.{AllByRecursion}
use Rattle.std.specs.Option.{option_map}
use Rattle.std.proofs.lemmas.Option.{same_Some}
use Rattle.wire_message.specs.Parameters.{Parameters}
use Rattle.spec_node.specs.Record.{Node}
use Rattle.part_transfers.specs.declared.operation.Handle.{Handle}
use Rattle.node_rules.specs.EndpointLocal.{EndpointLocal}
use Rattle.node_rules.specs.TransferCalls.{SyncHandle}
use Rattle.node_rules.specs.declared.answer.Answer.{Answer}
use Rattle.text_steps.specs.declared.steps.ScriptStep.{ScriptStep}
use Rattle.text_steps.specs.declared.steps.ScriptStep.TheVariants as step
use Rattle.text_steps.specs.declared.steps.WaitingStep.{WaitingStep}
use Rattle.text_steps.specs.declared.steps.WaitingStep.TheVariants as waiting
use Rattle.part_collective_area.specs.declared.shape.Shape.{Shape}
use Rattle.proc_collective_steps.proofs.Fitting.{end_far, ends_fit, start_far, start_fits, step_far, step_fits}
use Rattle.proc_collective_steps.proofs.WholeFitting.{first_far, later_far, later_fits}
use Rattle.proc_collective_steps.specs.Parts.{first_part, later_part}
use Rattle.node_collectives.specs.CollectivesState.{CollectivesState}
use Rattle.text_steps.specs.declared.steps.CollectiveText.{CollectiveText}
use Rattle.text_steps.specs.declared.steps.CollectiveText.TheVariants as text
use Rattle.law_traces.specs.Actions.{ActionMay, Form, FormFar, FormMay, IfFar, ReadMay, Several, StepContext}
use Rattle.law_traces.specs.Fitting.{CallFits, CollectivesFit, KeptFits}
use Rattle.law_traces.specs.Scripts.{ThreadCall, TryContext}
use Rattle.proc_script_laws.proofs.Calls.{calls_fit}
-- for those who stand on steps and not on the laws of scripts
pub use Rattle.proc_script_laws.proofs.Bodies.{job_fits}
use Rattle.proc_steps.specs.Forms.{tried_while, waits_of, waiting_form, step_form, begun_handle, on_transfers}
use Rattle.proc_steps.specs.Forms.{IsJobStep, call_part, collective_form, in_one_try, nothing_there, waiting_in, whole_form}
use Rattle.proc_steps.specs.Laws.{StepsFit}
use Rattle.proc_steps.proofs.BegunPieces.{plan_may}

-- a call that a schedule has, too
call_may : (waits : Option (Answer → Bool)) (meant : ThreadCall) → CallFits meant
    → FormMay CallFits (tried_while waits meant)
call_may None meant fits = fits
call_may (Some waits) meant fits = fits

-- the second call of a blocking transfer
sync_may : (handle : Option Handle) (made : ThreadCall)
    → option_map (λ handle. on_transfers (SyncHandle handle)) handle ≡ Some made → CallFits made
sync_may None made e = absurd (cc)
sync_may (Some handle) made e = subst CallFits (same_Some (on_transfers (SyncHandle handle)) made e) tt

-- a step that scripts alone have
waiting_may : (cells : List ℤ) (one : WaitingStep) → FormMay CallFits (waiting_form cells one)
waiting_may cells (waiting.Until cell operand) = tt
waiting_may cells (waiting.UntilWord offset number) = tt
waiting_may cells (waiting.Transfer transfer) = (tt, λ first made e. sync_may (begun_handle first) made e)
waiting_may cells (waiting.PutBegin register put) = tt
waiting_may cells (waiting.PutImplicit put) = tt
waiting_may cells (waiting.Wait register) = tt
waiting_may cells (waiting.WaitAll registers) = tt
waiting_may cells (waiting.WaitSome registers) = tt
waiting_may cells (waiting.WaitImplicit which) = tt
waiting_may cells (waiting.BarrierWait id flags) = tt
waiting_may cells (waiting.Collective shape from dest) = (tt, tt)

-- a step that runs the node's collectives
call_may_be : (call : CollectiveText) (at : TryContext) (node : Node EndpointLocal) (it : CollectivesState)
    → CollectivesFit it → ReadMay KeptFits CallFits CollectivesFit node (in_one_try (call_part call at node it))
call_may_be (text.Start shape from) at node it far =
    let calls = start_fits at shape from node it far in
    let next = start_far at shape from node it far in
    record { calls = λ fits. (calls, calls); far = (next, next) }
call_may_be text.Step at node it far =
    let calls = step_fits at node it far in
    let next = step_far at node it far in
    record { calls = λ fits. (calls, calls); far = (next, next) }
call_may_be (text.Try dest) at node it far =
    let next = end_far at dest node it far in
    record { calls = λ fits. (ends_fit at dest node it fits, ends_fit at dest node it fits); far = (next, next) }

nothing_may : (node : Node EndpointLocal) → ReadMay KeptFits CallFits CollectivesFit node nothing_there
nothing_may node = record { calls = λ fits. (tt, tt); far = (tt, tt) }

collective_may : (one : CollectiveText) (at : StepContext) (node : Node EndpointLocal)
    → IfFar CollectivesFit at.collectives
    → ReadMay KeptFits CallFits CollectivesFit node (collective_form one at node)
collective_may one at node far = by_state at.collectives far
  where
    by_state : (state : Option CollectivesState) → IfFar CollectivesFit state
        → ReadMay KeptFits CallFits CollectivesFit node (collective_form one (record at { collectives = state }) node)
    by_state None far = nothing_may node
    by_state (Some it) far = call_may_be one at.place node it far

-- a whole collective
whole_may : (shape : Shape) (from dest : ℕ) (at : StepContext) (node : Node EndpointLocal)
    → IfFar CollectivesFit at.collectives
    → ReadMay KeptFits CallFits CollectivesFit node (whole_form shape from dest at node)
whole_may shape from dest at node far = by_state at.collectives far
  where
    by_me : (it : CollectivesState) (same : Bool) → (it.me == at.place.me) ≡ same → CollectivesFit it
        → ReadMay KeptFits CallFits CollectivesFit node (cond {A = Form EndpointLocal} same
        (Several (first_part at.place shape from node it) (later_part at.place dest node it)) nothing_there)
    by_me it true is far =
        let here : it.me ≡ at.place.me = grind (arith, is) in
        record {
          calls = λ fits. (start_fits at.place shape from node it far, later_fits at.place dest node it here far fits);
          far = (first_far at.place shape from node it far, later_far at.place dest node it far);
        }
    by_me it false is far = nothing_may node

    by_state : (state : Option CollectivesState) → IfFar CollectivesFit state
        → ReadMay KeptFits CallFits CollectivesFit node
        (whole_form shape from dest (record at { collectives = state }) node)
    by_state None far = nothing_may node
    by_state (Some it) far = by_me it (it.me == at.place.me) refl far

plain_may : (form : Form EndpointLocal) (node : Node EndpointLocal) → FormMay CallFits form
    → FormFar CollectivesFit form → ReadMay KeptFits CallFits CollectivesFit node form
plain_may form node may far = record { calls = λ fits. may; far = far }

while_far : (waits : Option (Answer → Bool)) (meant : ThreadCall)
    → FormFar {Kept = EndpointLocal} CollectivesFit (tried_while waits meant)
while_far None meant = tt
while_far (Some waits) meant = tt

waiting_in_may : (one : WaitingStep) (at : StepContext) (node : Node EndpointLocal)
    → IfFar CollectivesFit at.collectives
    → ReadMay KeptFits CallFits CollectivesFit node (waiting_in one at node)
waiting_in_may (waiting.Collective shape from dest) at node far = whole_may shape from dest at node far
waiting_in_may (waiting.Until cell operand) at node far =
    plain_may _ node (waiting_may node.local.core.cells (waiting.Until cell operand)) tt
waiting_in_may (waiting.UntilWord offset number) at node far =
    plain_may _ node (waiting_may node.local.core.cells (waiting.UntilWord offset number)) tt
waiting_in_may (waiting.Transfer transfer) at node far =
    plain_may _ node (waiting_may node.local.core.cells (waiting.Transfer transfer)) tt
waiting_in_may (waiting.PutBegin register put) at node far =
    plain_may _ node (waiting_may node.local.core.cells (waiting.PutBegin register put)) tt
waiting_in_may (waiting.PutImplicit put) at node far =
    plain_may _ node (waiting_may node.local.core.cells (waiting.PutImplicit put)) tt
waiting_in_may (waiting.Wait register) at node far =
    plain_may _ node (waiting_may node.local.core.cells (waiting.Wait register)) tt
waiting_in_may (waiting.WaitAll registers) at node far =
    plain_may _ node (waiting_may node.local.core.cells (waiting.WaitAll registers)) tt
waiting_in_may (waiting.WaitSome registers) at node far =
    plain_may _ node (waiting_may node.local.core.cells (waiting.WaitSome registers)) tt
waiting_in_may (waiting.WaitImplicit which) at node far =
    plain_may _ node (waiting_may node.local.core.cells (waiting.WaitImplicit which)) tt
waiting_in_may (waiting.BarrierWait id flags) at node far =
    plain_may _ node (waiting_may node.local.core.cells (waiting.BarrierWait id flags)) tt

step_may : (settings : Parameters) (one : ScriptStep) → IsJobStep settings one
    → ActionMay KeptFits CallFits CollectivesFit step_form one
step_may settings (step.Call made) is at node far = record {
  calls = λ fits. call_may (waits_of made) _ (calls_fit is.0 node.local.core.cells made fits.cells is.2);
  far = while_far (waits_of made) _;
}
step_may settings (step.Vis vis) is at node far = record {
  calls = λ fits. plan_may CallFits (λ one. tt) vis.plan vis.words.from vis.words.register at.place node;
  far = (tt, tt);
}
step_may settings (step.Collective one) is at node far = collective_may one at node far
step_may settings (step.Waiting one) is at node far = waiting_in_may one at node far

all_may : (settings : Parameters) (steps : List ScriptStep) → AllByRecursion (IsJobStep settings) steps
    → AllByRecursion (ActionMay KeptFits CallFits CollectivesFit step_form) steps
all_may settings [] all = tt
all_may settings (one ∷ steps) all = (step_may settings one all.0, all_may settings steps all.1)

pub steps_fit : StepsFit
steps_fit settings own all far =
    record { threads = λ thread. all_may settings (own.threads thread).left (all thread); far = far }
