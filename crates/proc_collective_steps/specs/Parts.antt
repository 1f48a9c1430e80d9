-- The tries of steps that run the collectives of their node, as parts of such steps.
-- Origin: this project's profile.
use Rattle.std.specs.Prelude.{ℕ, if◌then◌else◌, ◌&&◌, is_none, List, ◌++◌, map, Option, None, Some}
use Rattle.std.specs.Option.{option_map}
use Rattle.part_collective_area.specs.declared.shape.Shape.{Shape}
use Rattle.node_rules.specs.EndpointLocal.{EndpointLocal}
use Rattle.node_collectives.specs.CollectivesState.{CollectivesState}
use Rattle.node_collectives.specs.Ends.{EndAsked}
use Rattle.node_collectives.specs.Starts.{StartAsked}
use Rattle.node_collectives.specs.declared.answers.EndAnswer.{EndAnswer}
use Rattle.node_collectives.specs.declared.answers.StepAnswer.{StepAnswer}
use Rattle.node_endpoint.specs.Sites.{Site, ThreadCall as CallerCall, node_in_the_end}
use Rattle.spec_node.specs.Record.{Node}
use Rattle.law_traces.specs.Actions.{Part}
use Rattle.law_traces.specs.Scripts.{ThreadCall, TryContext}
use Rattle.law_traces.specs.declared.script_answer.ScriptAnswer.{ScriptAnswer}
use Rattle.law_traces.specs.declared.script_answer.ScriptAnswer.TheVariants as said
use Rattle.proc_collective_steps.specs.Outcomes.{Outcome, end_outcome, is_quiet, is_started, start_ends, start_outcome}
use Rattle.proc_collective_steps.specs.Outcomes.{step_ends, step_outcome, try_ends}

-- in which job, at which node and when, as a caller has it
abbrev pub site_of : TryContext → Site
site_of at = record {
  settings = at.settings;
  table = at.table;
  meaning = at.meaning;
  node = at.me;
  now = at.now;
}

-- the calls of a thread
abbrev pub calls_of_all : List CallerCall → List ThreadCall
calls_of_all calls = map (λ (one : CallerCall). one.call) calls

-- the start of a thread
abbrev pub start_asked : TryContext → Shape → (from : ℕ) → StartAsked
start_asked at shape from = record { thread = at.thread; shape = shape; from = from }

-- a try to end of a thread
abbrev pub end_asked : TryContext → (dest : ℕ) → EndAsked
end_asked at dest = record { thread = at.thread; dest = dest }

-- ---- one call of the node's collectives

-- a step that ends with what the call is answered
abbrev pub part_by : {Told : Type 0} → (Told → ScriptAnswer) → Outcome Told → Part
part_by says outcome = record {
  calls = calls_of_all outcome.calls;
  ended = Some (says outcome.answer);
  next = Some outcome.next;
}

abbrev pub start_part : TryContext → Shape → (from : ℕ) → Node EndpointLocal → CollectivesState → Part
start_part at shape from node it =
    part_by said.Start (start_outcome (site_of at) node it (start_asked at shape from))

abbrev pub step_part : TryContext → Node EndpointLocal → CollectivesState → Part
step_part at node it = part_by said.Step (step_outcome (site_of at) at.thread node it)

abbrev pub end_part : TryContext → (dest : ℕ) → Node EndpointLocal → CollectivesState → Part
end_part at dest node it = part_by said.End (end_outcome (site_of at) node it (end_asked at dest))

-- ---- a whole collective

-- its first try: the start alone
abbrev pub first_part : TryContext → Shape → (from : ℕ) → Node EndpointLocal → CollectivesState → Part
first_part at shape from node it =
    let start = start_outcome (site_of at) node it (start_asked at shape from) in
    record {
      calls = calls_of_all start.calls;
      ended = option_map (λ one. said.Start one) (start_ends start.answer);
      next = if is_started start.answer then Some start.next else None;
    }

-- a try to end behind a step
abbrev pub end_behind : TryContext → (dest : ℕ) → Node EndpointLocal → Outcome StepAnswer → Outcome EndAnswer
end_behind at dest node step =
    end_outcome (site_of at) (node_in_the_end (site_of at) node step.calls) step.next (end_asked at dest)

-- how far the node is then, where that changed
abbrev pub moved_by : CollectivesState → StepAnswer → Outcome EndAnswer → Option CollectivesState
moved_by it step try = if is_none (try_ends try.answer) && is_quiet it step then None else Some try.next

-- by whether the step ends the collective
abbrev pub later_by : TryContext → (dest : ℕ) → Node EndpointLocal → CollectivesState → Outcome StepAnswer
    → Option StepAnswer → Part
later_by at dest node it step (Some end) =
    record { calls = calls_of_all step.calls; ended = Some (said.Step end); next = Some step.next }
later_by at dest node it step None =
    let try = end_behind at dest node step in
    record {
      calls = calls_of_all (step.calls ++ try.calls);
      ended = option_map (λ one. said.End one) (try_ends try.answer);
      next = moved_by it step.answer try;
    }

-- a later try: a step, and a try to end behind it unless the step ends the collective
abbrev pub later_part : TryContext → (dest : ℕ) → Node EndpointLocal → CollectivesState → Part
later_part at dest node it =
    let step = step_outcome (site_of at) at.thread node it in
    later_by at dest node it step (step_ends step.answer)
