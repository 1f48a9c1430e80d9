-- The nodes of a job that run collectives: their records, how far each is, and what it gave to each phase. What each
-- event of these leaves.
-- Origin: this project's profile, over GASNet 1.8.1, core API, active messages.
use Rattle.std.specs.Prelude.{ℕ, zero, suc, ◌≡◌, ◌≢◌, ◌+◌, ◌<◌, ◌≤◌, ◌==◌, if◌then◌else◌, true, false, List, [], ◌∷◌}
use Rattle.std.specs.Prelude.{◌++◌}
use Rattle.std.specs.Prelude.{Option, None, Some, fold}
use Rattle.wire_message.specs.Parameters.{Parameters}
use Rattle.wire_message.specs.Content.{Content}
use Rattle.part_segment.specs.Bytes.{part}
use Rattle.part_segment.specs.Image.{Write}
use Rattle.base_lists.specs.Put.{put}
use Rattle.spec_node.specs.declared.answer.Asked.{Asked}
use Rattle.spec_node.specs.declared.answer.Asked.TheVariants as asked
use Rattle.spec_node.specs.declared.answer.Delivered.TheVariants as delivered
use Rattle.spec_node.specs.NodeStep.{OfRequest, OfCall, OfDelivery}
use Rattle.base_lists.specs.Numbered.{element_at}
use Rattle.spec_network.specs.Plain.{PlainRequest, Plain, plain_of}
use Rattle.spec_network.specs.World.{EventAt, Event, Asks, Does, RequestComes, WorldAnswer, OfNode, IsAmong}
use Rattle.spec_network.specs.World.{world_answer, world_after}
use Rattle.node_core.specs.HandlerRuns.{landing, place_of}
use Rattle.node_rules.specs.CoreCalls.{Poll, OnSegment}
use Rattle.node_rules.specs.Memory.{Set}
use Rattle.node_rules.specs.EndpointLocal.{EndpointLocal}
use Rattle.node_rules.specs.EndpointRules.{OtherCall, OnCore, Records, at_the_opening, timed_event}
use Rattle.node_rules.specs.declared.answer.Answer.{Answer}
use Rattle.node_rules.specs.declared.answer.Answer.TheVariants as answers
use Rattle.law_transfers.specs.Chunks.{EndpointJob, segment_at, writes_at}
use Rattle.part_collective_area.specs.declared.shape.Shape.{Shape}
use Rattle.part_collective_area.specs.Area.{Area, SpareArea}
use Rattle.part_collective_area.specs.Served.{collective_handler, header_for}
use Rattle.part_collective_area.specs.Results.{Contribution, pieces_of}
use Rattle.node_collectives.specs.Progress.{Progress, idle, is_open}
use Rattle.node_collectives.specs.Progress.{start_refusal, start_ask, start_answer}
use Rattle.node_collectives.specs.Progress.{has_started, after_start, step_ask, is_left, with_sent, with_exhausted}
use Rattle.node_collectives.specs.Progress.{end_refusal}
use Rattle.node_collectives.specs.Progress.{end_answer, after_end, data_of_all, writes_from}
use Rattle.node_collectives.specs.declared.answers.EndAnswer.{EndAnswer}
use Rattle.node_collectives.specs.declared.answers.StartAnswer.{StartAnswer}
use Rattle.node_collectives.specs.declared.answers.StepAnswer.{StepAnswer}
use Rattle.node_collectives.specs.declared.answers.StepAnswer.TheVariants as step_answers
use Rattle.node_collectives.specs.declared.answers.EndAnswer.TheVariants as end_answers

-- ---- groups

pub record Group : Type 0 where
  pub records : Records
  pub progress : ℕ → Progress
  pub given : ℕ → List Contribution  -- by node: what it started its phases with, phase 0 first

abbrev pub opening_group : Parameters → Group
opening_group settings =
    record { records = at_the_opening settings; progress = λ node. idle; given = λ node. [] }

-- ---- events

-- an event of the records that no collective makes; or a call of a thread of a node at this time: a start, a step that
-- tries so many nodes at most (all of them, or those before the one at which memory ran out), a try to end
pub data GroupEvent : Type 0 where
  Other : EventAt OtherCall → GroupEvent
  Start : (now node thread : ℕ) → Shape → (from : ℕ) → GroupEvent
  Step : (now node thread among : ℕ) → GroupEvent
  End : (now node thread dest : ℕ) → GroupEvent

pub data GroupAnswer : Type 0 where
  OfOther : WorldAnswer Answer → GroupAnswer
  OfStart : StartAnswer → GroupAnswer
  OfStep : StepAnswer → GroupAnswer
  OfEnd : EndAnswer → GroupAnswer

-- the answer to a request; no other answer comes to one
abbrev pub asked_in : WorldAnswer Answer → Asked
asked_in (OfNode (OfRequest answer)) = answer
asked_in other = asked.NotYet

-- the node is this far then
abbrev pub with_progress : Group → (node : ℕ) → Progress → Group
with_progress group node progress = record group { progress = put group.progress node progress }

-- ---- a start

-- after its call was answered so
abbrev pub started_group : EndpointJob → Group → (node : ℕ) → Shape → (from : ℕ) → StartAnswer → Records → Group
started_group job group node shape from answer records =
    if has_started answer
    then record {
      records = records;
      progress = put group.progress node (after_start (group.progress node) shape);
      given = put group.given node (group.given node
          ++ record { shape = shape; bytes = part (segment_at job group.records node) from shape.len } ∷ []);
    }
    else record group { records = records }

abbrev pub does_start : EndpointJob → Area → Group → (now node thread : ℕ) → Shape → (from : ℕ)
    → StartAnswer × Group
does_start job area group now node thread shape from =
    elim (start_refusal area job.settings.segment (group.progress node) shape from) [
      | Some refusal ↦ (refusal, group)
      | None ↦ (
          let event = timed_event now (Asks node (start_ask area node thread (group.progress node) shape from)) in
          let answer = start_answer (asked_in (world_answer job group.records event)) in
          (answer, started_group job group node shape from answer (world_after job group.records event)))
    ]

-- ---- a step

-- where its call to that node was answered so: it ends, or goes on
pub data StepGoes : Type 0 where
  Stops : StepAnswer → Progress → StepGoes
  GoesOn : Progress → StepGoes

abbrev pub step_goes : Progress → (to : ℕ) → Asked → StepGoes
step_goes progress to (asked.Accepted there slot number) = Stops (step_answers.Sent to) (with_sent progress to)
step_goes progress to (asked.Forbidden forbidden) = Stops (step_answers.Forbidden forbidden) progress
step_goes progress to asked.Exhausted = GoesOn (with_exhausted progress to true)
step_goes progress to other = GoesOn (with_exhausted progress to false)

-- it tries this node and the next ones, so many, in their order
abbrev pub step_from : EndpointJob → Area → Group → (now node thread to many : ℕ) → StepAnswer × Group
step_from job area group now node thread to zero = (step_answers.Nothing, group)
step_from job area group now node thread to (suc many) =
    if is_left node to (group.progress node)
    then (
    let event = timed_event now (Asks node (step_ask area node thread to (group.progress node))) in
    let records = world_after job group.records event in
    elim (step_goes (group.progress node) to (asked_in (world_answer job group.records event))) [
      | Stops answer progress ↦ (answer, with_progress (record group { records = records }) node progress)
      | GoesOn progress ↦ step_from job area (with_progress (record group { records = records }) node progress) now node
          thread (suc to) many
    ])
    else step_from job area group now node thread (suc to) many

-- nothing is sent where no phase is started
abbrev pub does_step : EndpointJob → Area → Group → (now node thread among : ℕ) → StepAnswer × Group
does_step job area group now node thread among =
    if is_open (group.progress node) then step_from job area group now node thread 0 among
    else (step_answers.Nothing, group)

-- ---- a try to end

-- the calls that write these, one after another
abbrev pub write_event : (now node thread : ℕ) → Write → EventAt OtherCall
write_event now node thread write = timed_event now (Does node thread (OnCore (OnSegment (Set write))))

abbrev pub after_writes : EndpointJob → (now node thread : ℕ) → Records → List Write → Records
after_writes job now node thread records writes =
    fold (λ now_records write. world_after job now_records (write_event now node thread write)) records writes

-- the data of all nodes as it stands in the parts of the phase
abbrev pub data_in_parts : EndpointJob → Area → Group → (node : ℕ) → List (List ℕ)
data_in_parts job area group node =
    data_of_all area (group.progress node) (segment_at job group.records node) 0 area.nodes

-- the pieces in which the result is written
abbrev pub result_pieces : EndpointJob → Area → Group → (node : ℕ) → List (List ℕ)
result_pieces job area group node =
    pieces_of (group.progress node).shape (data_in_parts job area group node) node

-- after a try that was answered so, where its poll left these records
abbrev pub ended_group : EndpointJob → Area → Group → (now node thread dest : ℕ) → Records → EndAnswer → Group
ended_group job area group now node thread dest polled end_answers.Ended =
    with_progress (record group {
      records = after_writes job now node thread polled (writes_from dest (result_pieces job area group node));
    }) node (after_end (group.progress node))
ended_group job area group now node thread dest polled (end_answers.Mismatch other) =
    with_progress (record group { records = polled }) node (after_end (group.progress node))
ended_group job area group now node thread dest polled answer = record group { records = polled }

-- where its poll was answered so
abbrev pub end_by : EndpointJob → Area → Group → (now node thread dest : ℕ) → WorldAnswer Answer → EndAnswer
end_by job area group now node thread dest (OfNode (OfCall (answers.Forbidden forbidden))) =
    end_answers.Forbidden forbidden
end_by job area group now node thread dest other =
    end_answer area node (group.progress node) (segment_at job group.records node)

abbrev pub does_end : EndpointJob → Area → Group → (now node thread dest : ℕ) → EndAnswer × Group
does_end job area group now node thread dest =
    elim (end_refusal area job.settings.segment node (group.progress node) dest) [
      | Some refusal ↦ (refusal, group)
      | None ↦ (
          let poll = timed_event now (Does node thread (OnCore Poll)) in
          let answer = end_by job area group now node thread dest (world_answer job group.records poll) in
          let polled = world_after job group.records poll in
          (answer, ended_group job area group now node thread dest polled answer))
    ]

-- ---- all of them

abbrev pub group_does : EndpointJob → Area → Group → GroupEvent → GroupAnswer × Group
group_does job area group (Other event) =
    (OfOther (world_answer job group.records event), record group { records = world_after job group.records event })
group_does job area group (Start now node thread shape from) =
    let it = does_start job area group now node thread shape from in (OfStart it.0, it.1)
group_does job area group (Step now node thread among) =
    let it = does_step job area group now node thread among in (OfStep it.0, it.1)
group_does job area group (End now node thread dest) =
    let it = does_end job area group now node thread dest in (OfEnd it.0, it.1)

abbrev pub group_after : EndpointJob → Area → Group → List GroupEvent → Group
group_after job area group [] = group
group_after job area group (event ∷ later) = group_after job area (group_does job area group event).1 later

-- ---- other events

-- what the run of a message of collectives writes: its data, and stamp and shape before that; nothing, where it is none
abbrev pub content_writes : (segment : ℕ) → Content → List Write
content_writes segment content =
    if content.handler == collective_handler
    then landing content ++ header_for segment content.args (place_of content)
    else []

abbrev pub request_writes : (segment : ℕ) → Option PlainRequest → List Write
request_writes segment None = []
request_writes segment (Some request) = content_writes segment request.content

-- what the message of collectives writes that runs at the node by an event with this answer, if one does
abbrev pub collective_writes : (segment : ℕ) → Plain EndpointLocal → (node : ℕ) → Event OtherCall → WorldAnswer Answer
    → List Write
collective_writes segment plain node (RequestComes from to number) (OfNode (OfDelivery (delivered.Ran at))) =
    if to == node then request_writes segment (element_at (plain.requests from to) number) else []
collective_writes segment plain node event answer = []

-- what an event writes at the node, beside what a message of collectives writes that runs there, spares the area
pub record OnlyCollectives (job : EndpointJob) (area : Area) (records : Records) (event : EventAt OtherCall) (node : ℕ)
    : Type 0 where
  pub beside : List Write
  pub writes : writes_at (world_after job records event) node
      ≡ (writes_at records node
      ++ collective_writes job.settings.segment (plain_of records) node event.event (world_answer job records event))
      ++ beside
  pub spare : SpareArea area beside

-- no thread asks for the handler of collectives
abbrev pub IsNoCollective : Event OtherCall → Type 0
IsNoCollective (Asks node ask) = ask.what.handler ≢ collective_handler
IsNoCollective event = Unit {0}

-- the events of a group in which the areas are written by these calls and their messages alone, and no one else
-- calls the handler
abbrev pub IsGroupEvent : EndpointJob → Area → Group → GroupEvent → Type 0
IsGroupEvent job area group (Other event) =
    IsAmong job.settings event.event × IsNoCollective event.event
    × ((node : ℕ) → node < job.settings.nodes → OnlyCollectives job area group.records event node)
IsGroupEvent job area group (Start now node thread shape from) = node < job.settings.nodes
IsGroupEvent job area group (Step now node thread among) = (node < job.settings.nodes) × (among ≤ job.settings.nodes)
IsGroupEvent job area group (End now node thread dest) = node < job.settings.nodes

abbrev pub AreGroupEvents : EndpointJob → Area → Group → List GroupEvent → Type 0
AreGroupEvents job area group [] = Unit {0}
AreGroupEvents job area group (event ∷ later) =
    IsGroupEvent job area group event × AreGroupEvents job area (group_does job area group event).1 later
