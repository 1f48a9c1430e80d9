-- What the calls of a whole collective say and write fits its places, and so does how far the node is then.
use Rattle.std.proofs.Common.{◌≡◌, ℕ, Bool, true, false, cond, List, [], ◌∷◌, ◌++◌, Option, None, Some}
use Rattle.std.specs.Prelude.{◌&&◌, is_none}
use Rattle.std.specs.List.{AllByRecursion}
use Rattle.part_collective_area.specs.declared.shape.Shape.{Shape}
use Rattle.node_rules.specs.EndpointLocal.{EndpointLocal}
use Rattle.node_collectives.specs.CollectivesState.{CollectivesState}
use Rattle.node_collectives.specs.declared.answers.StepAnswer.{StepAnswer}
use Rattle.node_endpoint.specs.Sites.{ThreadCall as CallerCall, node_in_the_end}
use Rattle.spec_node.specs.Record.{Node}
use Rattle.law_traces.specs.Actions.{IfFar}
use Rattle.law_traces.specs.Fitting.{CallFits, CollectivesFit, KeptFits}
use Rattle.law_traces.specs.Scripts.{TryContext}
use Rattle.proc_collective_steps.specs.Outcomes.{Outcome, is_quiet, is_started, start_outcome, step_ends, step_outcome, try_ends}
use Rattle.proc_collective_steps.specs.Parts.{calls_of_all, end_behind, first_part, later_by, later_part, site_of, start_asked}
use Rattle.proc_collective_steps.proofs.Calm.{step_calm}
use Rattle.proc_collective_steps.proofs.Fitting.{end_far, ends_fit, start_far, step_far, step_fits}

if_far : (change : Bool) (next : CollectivesState) → CollectivesFit next
    → IfFar CollectivesFit (cond {A = Option CollectivesState} change (Some next) None)
if_far true next fits = fits
if_far false next fits = tt

unless_far : (same : Bool) (next : CollectivesState) → CollectivesFit next
    → IfFar CollectivesFit (cond {A = Option CollectivesState} same None (Some next))
unless_far true next fits = tt
unless_far false next fits = fits

both_fit : (first second : List CallerCall) → AllByRecursion CallFits (calls_of_all first)
    → AllByRecursion CallFits (calls_of_all second) → AllByRecursion CallFits (calls_of_all (first ++ second))
both_fit [] second one two = two
both_fit (call ∷ first) second one two = (one.0, both_fit first second one.1 two)

pub first_far : (at : TryContext) (shape : Shape) (from : ℕ) (node : Node EndpointLocal) (it : CollectivesState)
    → CollectivesFit it → IfFar CollectivesFit (first_part at shape from node it).next
first_far at shape from node it far =
    let start = start_outcome (site_of at) node it (start_asked at shape from) in
    if_far (is_started start.answer) start.next (start_far at shape from node it far)

pub later_fits : (at : TryContext) (dest : ℕ) (node : Node EndpointLocal) (it : CollectivesState) → it.me ≡ at.me
    → CollectivesFit it → KeptFits node.local → AllByRecursion CallFits (later_part at dest node it).calls
later_fits at dest node it here far fits = by_end (step_ends step.answer)
  where
    step : Outcome StepAnswer
    step = step_outcome (site_of at) at.thread node it

    by_end : (end : Option StepAnswer) → AllByRecursion CallFits (later_by at dest node it step end).calls
    by_end (Some end) = step_fits at node it far
    by_end None =
        both_fit step.calls (end_behind at dest node step).calls (step_fits at node it far)
        (ends_fit at dest (node_in_the_end (site_of at) node step.calls) step.next
        ((step_calm at node it here).fits fits))

pub later_far : (at : TryContext) (dest : ℕ) (node : Node EndpointLocal) (it : CollectivesState) → CollectivesFit it
    → IfFar CollectivesFit (later_part at dest node it).next
later_far at dest node it far = by_end (step_ends step.answer)
  where
    step : Outcome StepAnswer
    step = step_outcome (site_of at) at.thread node it

    by_end : (end : Option StepAnswer) → IfFar CollectivesFit (later_by at dest node it step end).next
    by_end (Some end) = step_far at node it far
    by_end None =
        let try = end_behind at dest node step in
        unless_far (is_none (try_ends try.answer) && is_quiet it step.answer) try.next
        (end_far at dest (node_in_the_end (site_of at) node step.calls) step.next (step_far at node it far))
