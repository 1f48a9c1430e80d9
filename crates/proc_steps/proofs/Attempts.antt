-- The tries of steps, each by its kind.
use Rattle.std.proofs.Common.{◌≡◌, ℕ, ℤ, List, Bool, Option, None, Some, refl, sym, ◌∙◌, subst}
use Rattle.part_collective_area.specs.declared.shape.Shape.{Shape}
use Rattle.part_handlers.specs.Runs.{Meaning}
use Rattle.spec_node.specs.Record.{Node}
use Rattle.node_rules.specs.EndpointLocal.{EndpointLocal}
use Rattle.node_rules.specs.declared.answer.Answer.{Answer}
use Rattle.node_collectives.specs.CollectivesState.{CollectivesState}
use Rattle.node_endpoint.specs.EndpointState.{EndpointState, ForItsRecord}
use Rattle.text_calls.specs.declared.scheduled.ScheduledCall.{ScheduledCall}
use Rattle.text_steps.specs.declared.steps.ScriptStep.{ScriptStep}
use Rattle.text_steps.specs.declared.steps.ScriptStep.TheVariants as step
use Rattle.text_steps.specs.declared.steps.WaitingStep.{WaitingStep}
use Rattle.text_steps.specs.declared.steps.WaitingStep.TheVariants as waiting
use Rattle.text_vis.specs.declared.vis.VisText.{VisText}
use Rattle.law_traces.specs.Actions.{Form, StepContext, collectives_after}
use Rattle.law_traces.specs.Scripts.{ThreadCall}
use Rattle.text_script.specs.ScheduledCalls.{meant_by}
use Rattle.proc_steps.specs.Forms.{IsPlain, call_form, plan_form, step_form, tried_while, waiting_form, waiting_in, waits_of}
use Rattle.proc_steps.specs.Tries.{AreThere, FoundNode, IsAtSameNode, Tries, TriesForm, TriesFound, context_here, read_as}
use Rattle.proc_steps.specs.Tries.{step_here}
use Rattle.proc_steps.specs.declared.trial.Trial.{Trial}
use Rattle.proc_steps.specs.declared.trial.Tried.{Tried}
use Rattle.proc_steps.proofs.Firsts.{step_first}
use Rattle.proc_steps.proofs.Forming.{tries_alike}
use Rattle.proc_steps.proofs.Trying.{tries_step}

-- the collectives are still those of the node
pub kept_there : (old new : EndpointState) (collectives : Option CollectivesState) → IsAtSameNode old.core new.core
    → AreThere old collectives → AreThere new collectives
kept_there old new None same there = tt
kept_there old new (Some it) same there = record {
  settings = there.settings ∙ sym same.settings;
  me_is = there.me_is ∙ sym same.me_is;
}

-- a step that is read so, and found so
pub found_attempted : (meaning : Meaning) (old new : FoundNode) (trial : Trial) (tried : Tried) (one : ScriptStep)
    → trial.step.now ≡ one → TriesFound meaning old trial (step_form one) tried new → Tries meaning old trial tried new
found_attempted meaning old new trial tried one is found =
    tries_step meaning old new trial tried
    (λ node stands. step_first trial.step.now (step_here meaning old trial.thread trial.time) node)
    (subst (λ (s : ScriptStep). TriesForm meaning old.endpoint
    (read_as trial (step_form s (step_here meaning old trial.thread trial.time))) tried new.endpoint) (sym is) found.tries)
    (subst (λ (s : ScriptStep). ForItsRecord old.endpoint (λ node. new.collectives
    ≡ collectives_after (step_form s (step_here meaning old trial.thread trial.time) node) trial.began old.collectives))
    (sym is) found.far)

-- a call that a schedule has, too
while_far : (waits : Option (Answer → Bool)) (meant : ThreadCall) (began : Option Answer)
    (now : Option CollectivesState)
    → now ≡ collectives_after {Kept = EndpointLocal} (tried_while waits meant) began now
while_far None meant began now = refl
while_far (Some waits) meant began now = refl

pub call_attempted : (meaning : Meaning) (old new : EndpointState) (collectives : Option CollectivesState)
    (trial : Trial) (tried : Tried) (call : ScheduledCall) → trial.step.now ≡ step.Call call
    → TriesForm meaning old (read_as trial (λ node. call_form call (meant_by node.local.core.cells call))) tried new
    → Tries meaning (record { endpoint = old; collectives = collectives }) trial tried
    (record { endpoint = new; collectives = collectives })
call_attempted meaning old new collectives trial tried call is tries =
    found_attempted meaning _ _ trial tried (step.Call call) is (record {
      tries = tries;
      far = λ node stands.
          while_far (waits_of call) (meant_by node.local.core.cells call) trial.began collectives;
    })

plan_far : (began : Option Answer) (now : Option CollectivesState) (plan : _) (from register : _) (at : _)
    (node : Node EndpointLocal) → now ≡ collectives_after (plan_form plan from register at node) began now
plan_far None now plan from register at node = refl
plan_far (Some first) now plan from register at node = refl

pub vis_attempted : (meaning : Meaning) (old new : EndpointState) (collectives : Option CollectivesState)
    (trial : Trial) (tried : Tried) (vis : VisText) → step.Vis vis ≡ trial.step.now
    → TriesForm meaning old (read_as trial (plan_form vis.plan vis.words.from vis.words.register
    (context_here meaning old trial.thread trial.time))) tried new
    → Tries meaning (record { endpoint = old; collectives = collectives }) trial tried
    (record { endpoint = new; collectives = collectives })
vis_attempted meaning old new collectives trial tried vis is tries =
    found_attempted meaning _ _ trial tried (step.Vis vis) (sym is) (record {
      tries = tries;
      far = λ node stands. plan_far trial.began collectives vis.plan vis.words.from
          vis.words.register (context_here meaning old trial.thread trial.time) node;
    })

-- a step that scripts alone have, and no whole collective
plain_form : (one : WaitingStep) → IsPlain one → (at : StepContext) (node : Node EndpointLocal)
    → waiting_in one at node ≡ waiting_form node.local.core.cells one
plain_form (waiting.Until cell operand) plain at node = refl
plain_form (waiting.UntilWord offset number) plain at node = refl
plain_form (waiting.Transfer transfer) plain at node = refl
plain_form (waiting.PutBegin register put) plain at node = refl
plain_form (waiting.PutImplicit put) plain at node = refl
plain_form (waiting.Wait register) plain at node = refl
plain_form (waiting.WaitAll registers) plain at node = refl
plain_form (waiting.WaitSome registers) plain at node = refl
plain_form (waiting.WaitImplicit which) plain at node = refl
plain_form (waiting.BarrierWait id flags) plain at node = refl
plain_form (waiting.Collective shape from dest) plain at node = absurd plain

plain_far : (one : WaitingStep) → IsPlain one → (cells : List ℤ) (began : Option Answer)
    (now : Option CollectivesState) → now ≡ collectives_after {Kept = EndpointLocal} (waiting_form cells one) began now
plain_far (waiting.Until cell operand) plain cells began now = refl
plain_far (waiting.UntilWord offset number) plain cells began now = refl
plain_far (waiting.Transfer transfer) plain cells began now = refl
plain_far (waiting.PutBegin register put) plain cells began now = refl
plain_far (waiting.PutImplicit put) plain cells began now = refl
plain_far (waiting.Wait register) plain cells began now = refl
plain_far (waiting.WaitAll registers) plain cells began now = refl
plain_far (waiting.WaitSome registers) plain cells began now = refl
plain_far (waiting.WaitImplicit which) plain cells began now = refl
plain_far (waiting.BarrierWait id flags) plain cells began now = refl
plain_far (waiting.Collective shape from dest) plain cells began now = absurd plain

pub plain_found : (meaning : Meaning) (old new : EndpointState) (collectives : Option CollectivesState)
    (trial : Trial) (tried : Tried) (one : WaitingStep) → IsPlain one
    → TriesForm meaning old (read_as trial (λ node. waiting_form node.local.core.cells one)) tried new
    → TriesFound meaning (record { endpoint = old; collectives = collectives }) trial (waiting_in one) tried
    (record { endpoint = new; collectives = collectives })
plain_found meaning old new collectives trial tried one plain tries = record {
  tries = tries_alike meaning old new trial (λ node. waiting_form node.local.core.cells one) _ tried
      (λ node. plain_form one plain _ node) tries;
  far = λ node stands.
      subst (λ (f : Form EndpointLocal). collectives ≡ collectives_after f trial.began collectives)
      (sym (plain_form one plain _ node)) (plain_far one plain node.local.core.cells trial.began collectives);
}

pub plain_step : (one : WaitingStep)
    → ((shape : Shape) (from dest : ℕ) → one ≡ waiting.Collective shape from dest → ⊥) → IsPlain one
plain_step (waiting.Until cell operand) none = tt
plain_step (waiting.UntilWord offset number) none = tt
plain_step (waiting.Transfer transfer) none = tt
plain_step (waiting.PutBegin register put) none = tt
plain_step (waiting.PutImplicit put) none = tt
plain_step (waiting.Wait register) none = tt
plain_step (waiting.WaitAll registers) none = tt
plain_step (waiting.WaitSome registers) none = tt
plain_step (waiting.WaitImplicit which) none = tt
plain_step (waiting.BarrierWait id flags) none = tt
plain_step (waiting.Collective shape from dest) none = none shape from dest refl
