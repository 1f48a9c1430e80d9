-- The events of the records that an event of a group is: the calls that a start, a step and a try to end make.
use Rattle.std.specs.Prelude.{ℕ, zero, suc, ◌≡◌, if◌then◌else◌, List, [], ◌∷◌, map, None, Some}
use Rattle.spec_network.specs.World.{EventAt, Asks, Does, run, world_answer, world_after}
use Rattle.node_rules.specs.CoreCalls.{Poll}
use Rattle.node_rules.specs.EndpointRules.{OtherCall, OnCore, timed_event}
use Rattle.law_transfers.specs.Chunks.{EndpointJob}
use Rattle.part_collective_area.specs.Area.{Area}
use Rattle.part_collective_area.specs.declared.shape.Shape.{Shape}
use Rattle.node_collectives.specs.Progress.{end_refusal, is_left, is_open, start_ask, start_refusal, step_ask}
use Rattle.node_collectives.specs.Progress.{writes_from}
use Rattle.node_collectives.specs.declared.answers.EndAnswer.{EndAnswer}
use Rattle.node_collectives.specs.declared.answers.EndAnswer.TheVariants as end_answers
use Rattle.law_collectives.specs.Groups.{Group, GroupEvent, Other, Start, Step, End, Stops, GoesOn, asked_in}
use Rattle.law_collectives.specs.Groups.{end_by, group_does, result_pieces, step_goes, with_progress, write_event}

-- ---- a start

-- its call, where it isn't refused before
abbrev pub calls_of_start : EndpointJob → Area → Group → (now node thread : ℕ) → Shape → (from : ℕ)
    → List (EventAt OtherCall)
calls_of_start job area group now node thread shape from =
    elim (start_refusal area job.settings.segment (group.progress node) shape from) [
      | Some refusal ↦ []
      | None ↦ timed_event now (Asks node (start_ask area node thread (group.progress node) shape from)) ∷ []
    ]

-- ---- a step

-- the calls to this node and the next ones, so many, up to the one that ends the step
abbrev pub calls_from : EndpointJob → Area → Group → (now node thread to many : ℕ) → List (EventAt OtherCall)
calls_from job area group now node thread to zero = []
calls_from job area group now node thread to (suc many) =
    if is_left node to (group.progress node)
    then (
    let event = timed_event now (Asks node (step_ask area node thread to (group.progress node))) in
    let records = world_after job group.records event in
    event ∷ elim (step_goes (group.progress node) to (asked_in (world_answer job group.records event))) [
      | Stops answer progress ↦ []
      | GoesOn progress ↦ calls_from job area
          (with_progress (record group { records = records }) node progress) now node
          thread (suc to) many
    ])
    else calls_from job area group now node thread (suc to) many

-- none where no phase is started
abbrev pub calls_of_step : EndpointJob → Area → Group → (now node thread among : ℕ) → List (EventAt OtherCall)
calls_of_step job area group now node thread among =
    if is_open (group.progress node) then calls_from job area group now node thread 0 among else []

-- ---- a try to end

-- those that write the result, where it is answered so
abbrev pub calls_behind : EndpointJob → Area → Group → (now node thread dest : ℕ) → EndAnswer → List (EventAt OtherCall)
calls_behind job area group now node thread dest end_answers.Ended =
    map (write_event now node thread) (writes_from dest (result_pieces job area group node))
calls_behind job area group now node thread dest answer = []

-- a poll, where it isn't refused before, and those that write the result
abbrev pub calls_of_end : EndpointJob → Area → Group → (now node thread dest : ℕ) → List (EventAt OtherCall)
calls_of_end job area group now node thread dest =
    elim (end_refusal area job.settings.segment node (group.progress node) dest) [
      | Some refusal ↦ []
      | None ↦ (
          let poll = timed_event now (Does node thread (OnCore Poll)) in
          poll ∷ calls_behind job area group now node thread dest
          (end_by job area group now node thread dest (world_answer job group.records poll)))
    ]

-- ---- all of them

abbrev pub calls_of : EndpointJob → Area → Group → GroupEvent → List (EventAt OtherCall)
calls_of job area group (Other event) = event ∷ []
calls_of job area group (Start now node thread shape from) = calls_of_start job area group now node thread shape from
calls_of job area group (Step now node thread among) = calls_of_step job area group now node thread among
calls_of job area group (End now node thread dest) = calls_of_end job area group now node thread dest

-- what an event leaves of the records is what a run of its calls leaves of them
abbrev pub RunsItsCalls : Type 0
RunsItsCalls =
    (job : EndpointJob) (area : Area) (group : Group) (event : GroupEvent)
    → (group_does job area group event).1.records ≡ run job (calls_of job area group event) group.records
