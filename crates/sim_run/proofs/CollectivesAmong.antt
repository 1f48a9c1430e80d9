-- The calls of collectives of a node that is there are events of the world.
use Rattle.std.proofs.Common.{ℕ, zero, suc, ◌<◌, Bool, true, false, List, [], ◌∷◌, map, Option, Some, None}
use Rattle.std.specs.Prelude.{if◌then◌else◌}
use Rattle.part_segment.specs.Image.{Write}
use Rattle.wire_message.specs.Parameters.{Parameters}
use Rattle.spec_network.specs.World.{Asks, Does, EventAt, world_after, world_answer}
use Rattle.node_rules.specs.CoreCalls.{Poll}
use Rattle.node_rules.specs.EndpointRules.{OnCore, OtherCall, timed_event}
use Rattle.sim_world.specs.Settling.{WorldJob}
use Rattle.sim_world.proofs.Among.{AreAmong}
use Rattle.part_collective_area.specs.Area.{Area}
use Rattle.part_collective_area.specs.declared.shape.Shape.{Shape}
use Rattle.node_collectives.specs.Progress.{end_refusal, is_left, is_open, start_ask, start_refusal, step_ask, writes_from}
use Rattle.node_collectives.specs.declared.answers.EndAnswer.{EndAnswer}
use Rattle.node_collectives.specs.declared.answers.EndAnswer.TheVariants as end_answers
use Rattle.node_collectives.specs.declared.answers.StartAnswer.{StartAnswer}
use Rattle.law_collectives.specs.Groups.{Group, StepGoes, Stops, GoesOn, asked_in, end_by, result_pieces, step_goes}
use Rattle.law_collectives.specs.Groups.{with_progress, write_event}
use Rattle.sim_group.specs.CallsOf.{calls_behind, calls_from, calls_of, calls_of_end, calls_of_start}
use Rattle.text_steps.specs.declared.steps.CollectiveText.{CollectiveText}
use Rattle.text_steps.specs.declared.steps.CollectiveText.TheVariants as text
use Rattle.sim_run.specs.Schedules.{Nodes, collective_event}

start_among : (job : WorldJob) (area : Area) (group : Group) (now node thread : ℕ) (shape : Shape) (from : ℕ)
    → node < job.settings.nodes
    → AreAmong job.settings (calls_of_start job area group now node thread shape from)
start_among job area group now node thread shape from low =
    by_refusal (start_refusal area job.settings.segment (group.progress node) shape from)
  where
    calls : Option StartAnswer → List (EventAt OtherCall)
    calls refusal = elim refusal [
      | Some first ↦ []
      | None ↦ timed_event now (Asks node (start_ask area node thread (group.progress node) shape from)) ∷ []
    ]

    by_refusal : (refusal : Option StartAnswer) → AreAmong job.settings (calls refusal)
    by_refusal (Some first) = tt
    by_refusal None = (low, tt)

steps_among : (job : WorldJob) (area : Area) (now node thread to many : ℕ) (group : Group)
    → node < job.settings.nodes → AreAmong job.settings (calls_from job area group now node thread to many)
steps_among job area now node thread to zero group low = tt
steps_among job area now node thread to (suc many) group low =
    by_left (λ later. steps_among job area now node thread (suc to) many later low)
    (is_left node to (group.progress node))
  where
    Again : Type 0
    Again = (later : Group) → AreAmong job.settings (calls_from job area later now node thread (suc to) many)

    event : EventAt OtherCall
    event = timed_event now (Asks node (step_ask area node thread to (group.progress node)))

    calls : StepGoes → List (EventAt OtherCall)
    calls goes = elim goes [
      | Stops answer progress ↦ []
      | GoesOn progress ↦ calls_from job area
          (with_progress (record group { records = world_after job group.records event }) node progress) now node thread
          (suc to) many
    ]

    by_goes : Again → (goes : StepGoes) → AreAmong job.settings (calls goes)
    by_goes again (Stops answer progress) = tt
    by_goes again (GoesOn progress) =
        again (with_progress (record group { records = world_after job group.records event }) node progress)

    goes_now : StepGoes
    goes_now = step_goes (group.progress node) to (asked_in (world_answer job group.records event))

    by_left : Again → (left : Bool) → AreAmong job.settings
        (if left then event ∷ calls goes_now else calls_from job area group now node thread (suc to) many)
    by_left again true = (low, by_goes again goes_now)
    by_left again false = again group

step_among : (job : WorldJob) (area : Area) (group : Group) (now node thread among : ℕ) (opened : Bool)
    → node < job.settings.nodes
    → AreAmong job.settings (if opened then calls_from job area group now node thread 0 among else [])
step_among job area group now node thread among true low = steps_among job area now node thread 0 among group low
step_among job area group now node thread among false low = tt

writes_among : (settings : Parameters) (now node thread : ℕ) (writes : List Write) → node < settings.nodes
    → AreAmong settings (map (write_event now node thread) writes)
writes_among settings now node thread [] low = tt
writes_among settings now node thread (write ∷ later) low = (low, writes_among settings now node thread later low)

end_among : (job : WorldJob) (area : Area) (group : Group) (now node thread dest : ℕ) → node < job.settings.nodes
    → AreAmong job.settings (calls_of_end job area group now node thread dest)
end_among job area group now node thread dest low =
    by_refusal (end_refusal area job.settings.segment node (group.progress node) dest)
  where
    poll : EventAt OtherCall
    poll = timed_event now (Does node thread (OnCore Poll))

    answer : EndAnswer
    answer = end_by job area group now node thread dest (world_answer job group.records poll)

    calls : Option EndAnswer → List (EventAt OtherCall)
    calls refusal = elim refusal [
      | Some first ↦ []
      | None ↦ poll ∷ calls_behind job area group now node thread dest answer
    ]

    by_answer : (one : EndAnswer) → AreAmong job.settings (calls_behind job area group now node thread dest one)
    by_answer end_answers.Ended =
        writes_among job.settings now node thread (writes_from dest (result_pieces job area group node)) low
    by_answer (end_answers.Mismatch other) = tt
    by_answer end_answers.NotReady = tt
    by_answer end_answers.NotStarted = tt
    by_answer (end_answers.BadArg argument) = tt
    by_answer (end_answers.Exhausted other) = tt
    by_answer (end_answers.Forbidden forbidden) = tt
    by_answer end_answers.NoMemory = tt

    by_refusal : (refusal : Option EndAnswer) → AreAmong job.settings (calls refusal)
    by_refusal (Some first) = tt
    by_refusal None = (low, by_answer answer)

pub collective_among : (job : WorldJob) (nodes : Nodes) (time node thread : ℕ) (call : CollectiveText)
    → node < job.settings.nodes
    → AreAmong job.settings
    (calls_of job nodes.area nodes.group (collective_event job.settings.nodes time node thread call))
collective_among job nodes time node thread (text.Start shape from) low =
    start_among job nodes.area nodes.group time node thread shape from low
collective_among job nodes time node thread text.Step low =
    step_among job nodes.area nodes.group time node thread job.settings.nodes (is_open (nodes.group.progress node)) low
collective_among job nodes time node thread (text.Try dest) low =
    end_among job nodes.area nodes.group time node thread dest low
