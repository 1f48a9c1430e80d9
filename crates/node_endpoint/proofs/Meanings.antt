-- A step that runs no handler is one whatever the handlers mean.
use Rattle.std.proofs.Common.{◌≡◌, ℕ, Bool, true, false, eqb, Option, None, Some, refl, subst, inl, inr}
use Rattle.std.specs.Prelude.{if◌then◌else◌, Result, Ok, Err}
use Rattle.std.proofs.lemmas.Bool.{cases_Bool, eqb-true}
use Rattle.part_handlers.specs.Runs.{Meaning}
use Rattle.part_handlers.specs.declared.rules.Forbidden.{Forbidden}
use Rattle.part_handlers.specs.declared.message.Which.{Which}
use Rattle.spec_node.specs.declared.answer.Asked.{Asked}
use Rattle.spec_node.specs.declared.answer.Asked.TheVariants as asked
use Rattle.spec_node.specs.Record.{Node}
use Rattle.spec_node.specs.Behaviour.{Ask}
use Rattle.spec_node.specs.Step.{request_answer, after_request, unless_forbidden, unless_bad}
use Rattle.spec_node.specs.NodeStep.{site_of}
use Rattle.spec_node.specs.Transition.{Transition}
use Rattle.node_rules.specs.EndpointLocal.{EndpointLocal}
use Rattle.node_rules.specs.EndpointRules.{transition}
use Rattle.node_rules.specs.Called.{Meant, Requests, Performs, meant, node_event, IsAskedOf}
use Rattle.node_endpoint.specs.EndpointState.{EndpointState, EndpointStands, EndpointSteps, NodeSteps, RunsNone, job_here}
use Rattle.node_rules.specs.declared.call.Event.{Event}
use Rattle.node_rules.specs.declared.call.Event.TheVariants as event
use Rattle.node_rules.specs.declared.answer.Answer.{Answer}

-- what a request to another node leaves is the same, whatever handlers mean
asked_alike : (meaning other : Meaning) (old : EndpointState) (node : Node EndpointLocal) (now : ℕ) (ask : Ask)
    (answer : Asked) → (answer ≡ asked.Ran → ⊥)
    → after_request (site_of (job_here meaning old) old.core.me) node now ask answer
    ≡ after_request (site_of (job_here other old) old.core.me) node now ask answer
asked_alike meaning other old node now ask asked.Ran none = absurd (none refl)
asked_alike meaning other old node now ask (asked.Accepted to slot number) none = refl
asked_alike meaning other old node now ask (asked.Forbidden forbidden) none = refl
asked_alike meaning other old node now ask _ none = refl

-- a request to another node doesn't run
runs_not : (judged : Result (Unit {0}) Forbidden) (fault : Option Which) (claimed : Asked) → (claimed ≡ asked.Ran → ⊥)
    → unless_forbidden judged (unless_bad fault claimed) ≡ asked.Ran → ⊥
runs_not (Err forbidden) fault claimed none e = absurd (cc)
runs_not (Ok allowed) (Some part) claimed none e = absurd (cc)
runs_not (Ok allowed) None claimed none e = none e

claims_not : (exhausted out : Bool) (to slot number : ℕ)
    → (if exhausted then asked.Exhausted else (if out then asked.NotYet else asked.Accepted to slot number)) ≡ asked.Ran → ⊥
claims_not true out to slot number e = absurd (cc)
claims_not false true to slot number e = absurd (cc)
claims_not false false to slot number e = absurd (cc)

-- an event of the record that is a tick or a call, and no request to the local node, is one whatever handlers mean
meant_alike : (meaning other : Meaning) (old new : EndpointState) (thread now : ℕ) (what : Meant) (answer : Answer)
    → (IsAskedOf what old.core.me → ⊥)
    → NodeSteps meaning old (transition now (node_event thread what) answer) new
    → NodeSteps other old (transition now (node_event thread what) answer) new
meant_alike meaning other old new thread now (Performs call) answer away steps =
    record { same = steps.same; steps = steps.steps }
meant_alike meaning other old new thread now (Requests to asking) answer away steps = record {
  same = steps.same;
  steps = λ node stands.
      let it = steps.steps node stands in
      let ask : Ask = record { thread = thread; to = to; what = asking } in (
        it.0,
        subst (EndpointStands new) (asked_alike meaning other old node now ask
            (request_answer (site_of (job_here meaning old) old.core.me) node ask) (not_run node ask)) it.1,
      );
}
  where
    not_run : (node : Node EndpointLocal) (ask : Ask)
        → request_answer (site_of (job_here meaning old) old.core.me) node (record { thread = thread; to = to; what = asking })
        ≡ asked.Ran → ⊥
    not_run node ask e = elim (cases_Bool (eqb to old.core.me)) [
      | inl own ↦ absurd (away (eqb-true to old.core.me own))
      | inr apart ↦ absurd (runs_not _ _ _ (claims_not _ _ _ _ _) (rw apart at e))
    ]

-- so is a step of the endpoint
pub steps_alike : (meaning other : Meaning) (old new : EndpointState) (step : Transition Event Answer)
    → RunsNone old step.event → EndpointSteps meaning old step new → EndpointSteps other old step new
steps_alike meaning other old new step none steps = by_event step.event refl none steps
  where
    by_event : (event : Event) → step.event ≡ event → RunsNone old event
        → EndpointSteps meaning old (transition step.now event step.answer) new
        → EndpointSteps other old (transition step.now event step.answer) new
    by_event (event.Call thread call) is none steps =
        meant_alike meaning other old new thread step.now (meant call) step.answer none steps
    by_event (event.Deliver bytes) is none steps = absurd none
    by_event event.Tick is none steps = record { same = steps.same; steps = steps.steps }
