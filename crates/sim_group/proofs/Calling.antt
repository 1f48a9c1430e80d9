-- What an event of a group leaves of the records, by its calls.
use Rattle.std.proofs.Common.{◌≡◌, ℕ, zero, suc, Bool, true, false, List, [], ◌∷◌, map, Option, Some, None, refl}
use Rattle.std.specs.Prelude.{if◌then◌else◌}
use Rattle.part_segment.specs.Image.{Write}
use Rattle.spec_network.specs.World.{Asks, Does, EventAt, run, world_after, world_answer}
use Rattle.node_rules.specs.CoreCalls.{Poll}
use Rattle.node_rules.specs.EndpointRules.{OnCore, OtherCall, Records, timed_event}
use Rattle.law_transfers.specs.Chunks.{EndpointJob}
use Rattle.part_collective_area.specs.Area.{Area}
use Rattle.part_collective_area.specs.declared.shape.Shape.{Shape}
use Rattle.node_collectives.specs.Progress.{end_refusal, is_left, is_open, start_answer, start_ask, start_refusal, step_ask}
use Rattle.node_collectives.specs.Progress.{writes_from}
use Rattle.node_collectives.specs.declared.answers.EndAnswer.{EndAnswer}
use Rattle.node_collectives.specs.declared.answers.EndAnswer.TheVariants as end_answers
use Rattle.node_collectives.specs.declared.answers.StartAnswer.{StartAnswer}
use Rattle.node_collectives.specs.declared.answers.StepAnswer.{StepAnswer}
use Rattle.node_collectives.specs.declared.answers.StepAnswer.TheVariants as step_answers
use Rattle.law_collectives.specs.Groups.{Group, Other, Start, Step, End, StepGoes, Stops, GoesOn, after_writes, asked_in}
use Rattle.law_collectives.specs.Groups.{does_end, does_start, end_by, ended_group, result_pieces, started_group, step_from}
use Rattle.law_collectives.specs.Groups.{step_goes, with_progress, write_event}
use Rattle.sim_group.specs.CallsOf.{RunsItsCalls, calls_behind, calls_from, calls_of_end, calls_of_start}
use Rattle.sim_group.proofs.Starting.{started_records}

-- ---- a start

start_runs : (job : EndpointJob) (area : Area) (group : Group) (now node thread : ℕ) (shape : Shape) (from : ℕ)
    → (does_start job area group now node thread shape from).1.records
    ≡ run job (calls_of_start job area group now node thread shape from) group.records
start_runs job area group now node thread shape from =
    by_refusal (start_refusal area job.settings.segment (group.progress node) shape from)
  where
    event : EventAt OtherCall
    event = timed_event now (Asks node (start_ask area node thread (group.progress node) shape from))

    answer : StartAnswer
    answer = start_answer (asked_in (world_answer job group.records event))

    does : Option StartAnswer → StartAnswer × Group
    does refusal = elim refusal [
      | Some first ↦ (first, group)
      | None ↦ (answer, started_group job group node shape from answer (world_after job group.records event))
    ]

    calls : Option StartAnswer → List (EventAt OtherCall)
    calls refusal = elim refusal [ Some first ↦ [] | None ↦ event ∷ [] ]

    by_refusal : (refusal : Option StartAnswer) → (does refusal).1.records ≡ run job (calls refusal) group.records
    by_refusal (Some first) = refl
    by_refusal None = started_records job group node shape from (world_after job group.records event) answer

-- ---- a step

step_runs : (job : EndpointJob) (area : Area) (now node thread to many : ℕ) (group : Group)
    → (step_from job area group now node thread to many).1.records
    ≡ run job (calls_from job area group now node thread to many) group.records
step_runs job area now node thread to zero group = refl
step_runs job area now node thread to (suc many) group =
    by_left (λ later. step_runs job area now node thread (suc to) many later) (is_left node to (group.progress node))
  where
    -- what is known of the next nodes
    Again : Type 0
    Again =
        (later : Group) → (step_from job area later now node thread (suc to) many).1.records
        ≡ run job (calls_from job area later now node thread (suc to) many) later.records

    event : EventAt OtherCall
    event = timed_event now (Asks node (step_ask area node thread to (group.progress node)))

    records : Records
    records = world_after job group.records event

    does : StepGoes → StepAnswer × Group
    does goes = elim goes [
      | Stops answer progress ↦ (answer, with_progress (record group { records = records }) node progress)
      | GoesOn progress ↦ step_from job area (with_progress (record group { records = records }) node progress) now node
          thread (suc to) many
    ]

    calls : StepGoes → List (EventAt OtherCall)
    calls goes = elim goes [
      | Stops answer progress ↦ []
      | GoesOn progress ↦ calls_from job area (with_progress (record group { records = records }) node progress) now node
          thread (suc to) many
    ]

    by_goes : Again → (goes : StepGoes) → (does goes).1.records ≡ run job (calls goes) records
    by_goes again (Stops answer progress) = refl
    by_goes again (GoesOn progress) = again (with_progress (record group { records = records }) node progress)

    goes_now : StepGoes
    goes_now = step_goes (group.progress node) to (asked_in (world_answer job group.records event))

    by_left : Again → (left : Bool)
        → (if left then does goes_now else step_from job area group now node thread (suc to) many).1.records
        ≡ run job (if left then event ∷ calls goes_now else calls_from job area group now node thread (suc to) many)
        group.records
    by_left again true = by_goes again goes_now
    by_left again false = again group

step_whole : (job : EndpointJob) (area : Area) (group : Group) (now node thread among : ℕ) (opened : Bool)
    → (if opened then step_from job area group now node thread 0 among else (step_answers.Nothing, group)).1.records
    ≡ run job (if opened then calls_from job area group now node thread 0 among else []) group.records
step_whole job area group now node thread among true = step_runs job area now node thread 0 among group
step_whole job area group now node thread among false = refl

-- ---- a try to end

writes_run : (job : EndpointJob) (now node thread : ℕ) (writes : List Write) (records : Records)
    → after_writes job now node thread records writes ≡ run job (map (write_event now node thread) writes) records
writes_run job now node thread [] records = refl
writes_run job now node thread (write ∷ later) records = writes_run job now node thread later _

end_runs : (job : EndpointJob) (area : Area) (group : Group) (now node thread dest : ℕ)
    → (does_end job area group now node thread dest).1.records
    ≡ run job (calls_of_end job area group now node thread dest) group.records
end_runs job area group now node thread dest =
    by_refusal (end_refusal area job.settings.segment node (group.progress node) dest)
  where
    poll : EventAt OtherCall
    poll = timed_event now (Does node thread (OnCore Poll))

    polled : Records
    polled = world_after job group.records poll

    answer : EndAnswer
    answer = end_by job area group now node thread dest (world_answer job group.records poll)

    does : Option EndAnswer → EndAnswer × Group
    does refusal = elim refusal [
      | Some first ↦ (first, group)
      | None ↦ (answer, ended_group job area group now node thread dest polled answer)
    ]

    calls : Option EndAnswer → List (EventAt OtherCall)
    calls refusal = elim refusal [
      | Some first ↦ []
      | None ↦ poll ∷ calls_behind job area group now node thread dest answer
    ]

    by_answer : (one : EndAnswer) → (ended_group job area group now node thread dest polled one).records
        ≡ run job (calls_behind job area group now node thread dest one) polled
    by_answer end_answers.Ended =
        writes_run job now node thread (writes_from dest (result_pieces job area group node)) polled
    by_answer (end_answers.Mismatch other) = refl
    by_answer end_answers.NotReady = refl
    by_answer end_answers.NotStarted = refl
    by_answer (end_answers.BadArg argument) = refl
    by_answer (end_answers.Exhausted other) = refl
    by_answer (end_answers.Forbidden forbidden) = refl
    by_answer end_answers.NoMemory = refl

    by_refusal : (refusal : Option EndAnswer) → (does refusal).1.records ≡ run job (calls refusal) group.records
    by_refusal (Some first) = refl
    by_refusal None = by_answer answer

-- ---- all of them

pub runs_its_calls : RunsItsCalls
runs_its_calls job area group (Other event) = refl
runs_its_calls job area group (Start now node thread shape from) = start_runs job area group now node thread shape from
runs_its_calls job area group (Step now node thread among) =
    step_whole job area group now node thread among (is_open (group.progress node))
runs_its_calls job area group (End now node thread dest) = end_runs job area group now node thread dest
