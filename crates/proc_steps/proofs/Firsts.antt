-- A step that begins something makes its first call.
use Rattle.std.proofs.Common.{Bool, true, false, true≢false, cond, Option, None, Some, refl, sym}
use Rattle.std.specs.Prelude.{◌==◌}
use Rattle.spec_node.specs.Record.{Node}
use Rattle.node_rules.specs.EndpointLocal.{EndpointLocal}
use Rattle.node_rules.specs.declared.answer.Answer.{Answer}
use Rattle.node_collectives.specs.CollectivesState.{CollectivesState}
use Rattle.text_steps.specs.declared.steps.CollectiveText.{CollectiveText}
use Rattle.text_steps.specs.declared.steps.CollectiveText.TheVariants as text
use Rattle.text_steps.specs.declared.steps.ScriptStep.{ScriptStep}
use Rattle.text_steps.specs.declared.steps.ScriptStep.TheVariants as step
use Rattle.text_steps.specs.declared.steps.WaitingStep.TheVariants as waiting
use Rattle.law_traces.specs.Actions.{Form, Several, StepContext}
use Rattle.law_traces.specs.Scripts.{ThreadCall, TryContext}
use Rattle.proc_collective_steps.specs.Parts.{first_part, later_part}
use Rattle.proc_collective_steps.proofs.Parted.{first_there}
use Rattle.proc_steps.specs.Forms.{call_part, collective_form, in_one_try, nothing_there, step_form, tried_while}
use Rattle.proc_steps.specs.Forms.{waits_of, whole_form}
use Rattle.proc_steps.proofs.Trying.{HasFirst}

while_first : (waits : Option (Answer → Bool)) (call : ThreadCall) → HasFirst (tried_while waits call)
while_first None call starts = absurd (true≢false (sym starts))
while_first (Some waits) call starts = absurd (true≢false (sym starts))

call_first : (call : CollectiveText) (at : TryContext) (node : Node EndpointLocal) (it : CollectivesState)
    → HasFirst (in_one_try (call_part call at node it))
call_first (text.Start shape from) at node it starts = absurd (true≢false (sym starts))
call_first text.Step at node it starts = absurd (true≢false (sym starts))
call_first (text.Try dest) at node it starts = absurd (true≢false (sym starts))

pub step_first : (one : ScriptStep) (at : StepContext) (node : Node EndpointLocal) → HasFirst (step_form one at node)
step_first (step.Call call) at node = while_first (waits_of call) _
step_first (step.Vis vis) at node = λ starts. absurd (true≢false (sym starts))
step_first (step.Collective call) at node = by_state at.collectives
  where
    by_state : (state : Option CollectivesState)
        → HasFirst (collective_form call (record at { collectives = state }) node)
    by_state None starts = absurd (true≢false (sym starts))
    by_state (Some it) starts = call_first call at.place node it starts
step_first (step.Waiting (waiting.Collective shape from dest)) at node = by_state at.collectives
  where
    by_me : (it : CollectivesState) (same : Bool)
        → HasFirst (cond {A = Form EndpointLocal} same
        (Several (first_part at.place shape from node it) (later_part at.place dest node it)) nothing_there)
    by_me it true starts = first_there at.place node it shape from starts
    by_me it false starts = absurd (true≢false (sym starts))

    by_state : (state : Option CollectivesState)
        → HasFirst (whole_form shape from dest (record at { collectives = state }) node)
    by_state None starts = absurd (true≢false (sym starts))
    by_state (Some it) starts = by_me it (it.me == at.place.me) starts
step_first (step.Waiting (waiting.Until cell operand)) at node = λ starts. absurd (true≢false (sym starts))
step_first (step.Waiting (waiting.UntilWord offset number)) at node = λ starts. absurd (true≢false (sym starts))
step_first (step.Waiting (waiting.Transfer transfer)) at node = λ starts. (_, refl)
step_first (step.Waiting (waiting.PutBegin register put)) at node = λ starts. (_, refl)
step_first (step.Waiting (waiting.PutImplicit put)) at node = λ starts. (_, refl)
step_first (step.Waiting (waiting.Wait register)) at node = λ starts. absurd (true≢false (sym starts))
step_first (step.Waiting (waiting.WaitAll registers)) at node = λ starts. absurd (true≢false (sym starts))
step_first (step.Waiting (waiting.WaitSome registers)) at node = λ starts. absurd (true≢false (sym starts))
step_first (step.Waiting (waiting.WaitImplicit which)) at node = λ starts. absurd (true≢false (sym starts))
step_first (step.Waiting (waiting.BarrierWait id flags)) at node = λ starts. absurd (true≢false (sym starts))
