-- Calls for collectives, by two versions.
use Rattle.std.proofs.Common.{◌≡◌, ℕ, zero, suc, ◌<◌, Bool, true, false, List, [], ◌∷◌, ◌++◌, map, Option, Some, None}
use Rattle.std.proofs.Common.{refl, ap, ap₂, ◌∙◌}
use Rattle.std.specs.Prelude.{if◌then◌else◌}
use Rattle.base_lists.specs.Put.{put}
use Rattle.part_segment.specs.Bytes.{part}
use Rattle.part_segment.specs.Image.{Write}
use Rattle.wire_message.specs.Content.{Content}
use Rattle.spec_network.specs.World.{Asks, Does, IsAmong, EventAt, WorldAnswer, world_after, world_answer}
use Rattle.node_rules.specs.CoreCalls.{Poll}
use Rattle.node_rules.specs.EndpointRules.{OnCore, OtherCall, Records, timed_event}
use Rattle.node_rules.specs.declared.answer.Answer.{Answer}
use Rattle.law_transfers.specs.Chunks.{segment_at}
use Rattle.part_collective_area.specs.Area.{Area}
use Rattle.part_collective_area.specs.declared.shape.Shape.{Shape}
use Rattle.node_collectives.specs.Progress.{after_end, after_start, end_refusal, has_started, is_left, is_open, start_answer}
use Rattle.node_collectives.specs.Progress.{start_ask, start_refusal, step_ask, writes_from}
use Rattle.node_collectives.specs.declared.answers.EndAnswer.{EndAnswer}
use Rattle.node_collectives.specs.declared.answers.EndAnswer.TheVariants as end_answers
use Rattle.node_collectives.specs.declared.answers.StartAnswer.{StartAnswer}
use Rattle.node_collectives.specs.declared.answers.StepAnswer.{StepAnswer}
use Rattle.node_collectives.specs.declared.answers.StepAnswer.TheVariants as step_answers
use Rattle.law_collectives.specs.Groups.{Group, GroupEvent, Start, Step, End, Other, StepGoes, Stops, GoesOn, after_writes}
use Rattle.law_collectives.specs.Groups.{asked_in, does_end, does_start, does_step, end_by, ended_group, group_does}
use Rattle.law_collectives.specs.Groups.{result_pieces, started_group, step_from, step_goes, with_progress, write_event}
use Rattle.sim_group.specs.CallsOf.{calls_behind, calls_from, calls_of, calls_of_end, calls_of_start, calls_of_step}
use Rattle.text_steps.specs.declared.steps.CollectiveText.{CollectiveText}
use Rattle.text_steps.specs.declared.steps.CollectiveText.TheVariants as text
use Rattle.text_script.specs.declared.collective_texts.CollectiveAnswer.TheVariants as answers
use Rattle.sim_run.specs.Schedules.{Nodes, collective_answer, collective_event}
use Rattle.sim_versions.specs.Respelled.{Versions, one_job, other_job, respell_world}
use Rattle.sim_versions.proofs.Settling.{AreSound, Stood, after_events}
use Rattle.sim_versions.proofs.Worlds.{IsAlike, event_alike}

-- ---- groups

abbrev pub respell_group : (Content → Content) → Group → Group
respell_group spell group = record group { records = respell_world spell group.records }

abbrev pub respell_nodes : (Content → Content) → Nodes → Nodes
respell_nodes spell nodes = record { area = nodes.area; group = respell_group spell nodes.group }

-- what an event of a group is, in both groups: its answer, what it leaves, and its calls
pub record IsSame (Answer : Type 0) (v : Versions) (one other : Answer × Group) (calls others : List (EventAt OtherCall))
    : Type 0 where
  pub answer : other.0 ≡ one.0
  pub left : other.1 ≡ respell_group v.spell one.1
  pub calls_are : others ≡ calls

-- where both are the same
same_both : {Answer : Type 0} (v : Versions) (one other : Answer × Group) (calls others : List (EventAt OtherCall))
    → other ≡ (one.0, respell_group v.spell one.1) → others ≡ calls → IsSame Answer v one other calls others
same_both {Answer} v one other calls others same calls_are = record {
  answer = ap (λ (both : Answer × Group). both.0) same;
  left = ap (λ (both : Answer × Group). both.1) same;
  calls_are = calls_are;
}

-- ---- a start

started_alike : (v : Versions) (group : Group) (node : ℕ) (shape : Shape) (from : ℕ) (answer : StartAnswer)
    (records : Records)
    → started_group (other_job v) (respell_group v.spell group) node shape from answer (respell_world v.spell records)
    ≡ respell_group v.spell (started_group (one_job v) group node shape from answer records)
started_alike v group node shape from answer records = by_test (has_started answer)
  where
    by_test : (started : Bool)
        → (if started
        then record {
          records = respell_world v.spell records;
          progress = put group.progress node (after_start (group.progress node) shape);
          given = put group.given node (group.given node
              ++ record { shape = shape; bytes = part (segment_at (one_job v) group.records node) from shape.len } ∷ []);
        }
        else record group { records = respell_world v.spell records })
        ≡ respell_group v.spell (if started
        then record {
          records = records;
          progress = put group.progress node (after_start (group.progress node) shape);
          given = put group.given node (group.given node
              ++ record { shape = shape; bytes = part (segment_at (one_job v) group.records node) from shape.len } ∷ []);
        }
        else record group { records = records })
    by_test true = refl
    by_test false = refl

start_alike : (v : Versions) (area : Area) (group : Group) (now node thread : ℕ) (shape : Shape) (from : ℕ)
    → Stood v group.records
    → IsSame StartAnswer v (does_start (one_job v) area group now node thread shape from)
    (does_start (other_job v) area (respell_group v.spell group) now node thread shape from)
    (calls_of_start (one_job v) area group now node thread shape from)
    (calls_of_start (other_job v) area (respell_group v.spell group) now node thread shape from)
start_alike v area group now node thread shape from stood =
    by_refusal (start_refusal area v.settings.segment (group.progress node) shape from)
  where
    ask : EventAt OtherCall
    ask = timed_event now (Asks node (start_ask area node thread (group.progress node) shape from))

    one : Option StartAnswer → StartAnswer × Group
    one refusal = elim refusal [
      | Some first ↦ (first, group)
      | None ↦ (
          let answer = start_answer (asked_in (world_answer (one_job v) group.records ask)) in
          (answer, started_group (one_job v) group node shape from answer (world_after (one_job v) group.records ask)))
    ]

    other : Option StartAnswer → StartAnswer × Group
    other refusal = elim refusal [
      | Some first ↦ (first, respell_group v.spell group)
      | None ↦ (
          let records = respell_world v.spell group.records in
          let answer = start_answer (asked_in (world_answer (other_job v) records ask)) in (
            answer,
            started_group (other_job v) (respell_group v.spell group) node shape from answer
                (world_after (other_job v) records ask),
          ))
    ]

    calls : Option StartAnswer → List (EventAt OtherCall)
    calls refusal = elim refusal [ Some first ↦ [] | None ↦ ask ∷ [] ]

    by_refusal : (refusal : Option StartAnswer)
        → IsSame StartAnswer v (one refusal) (other refusal) (calls refusal) (calls refusal)
    by_refusal (Some first) = same_both v (first, group) (first, respell_group v.spell group) [] [] refl refl
    by_refusal None =
        let alike = event_alike v group.records now (Asks node
        (start_ask area node thread (group.progress node) shape from)) stood.holds stood.notes in
        let answer = start_answer (asked_in (world_answer (one_job v) group.records ask)) in
        same_both v (one None) (other None) (ask ∷ []) (ask ∷ [])
        (ap₂ (λ (told : WorldAnswer Answer) (records : Records). (
          start_answer (asked_in told),
          started_group (other_job v) (respell_group v.spell group) node shape from (start_answer (asked_in told)) records,
        )) alike.answer alike.after
        ∙ ap (λ (left : Group). (answer, left))
        (started_alike v group node shape from answer (world_after (one_job v) group.records ask))) refl

-- ---- a step

-- what is known of the next nodes
abbrev Again : Versions → Area → (now node thread to many : ℕ) → Type 0
Again v area now node thread to many =
    (group : Group) → Stood v group.records
    → IsSame StepAnswer v (step_from (one_job v) area group now node thread to many)
    (step_from (other_job v) area (respell_group v.spell group) now node thread to many)
    (calls_from (one_job v) area group now node thread to many)
    (calls_from (other_job v) area (respell_group v.spell group) now node thread to many)

steps_alike : (v : Versions) → AreSound v → (area : Area) (now node thread to many : ℕ) → node < v.settings.nodes
    → Again v area now node thread to many
steps_alike v sound area now node thread to zero low group stood = record { answer = refl; left = refl; calls_are = refl }
steps_alike v sound area now node thread to (suc many) low group stood =
    by_left (steps_alike v sound area now node thread (suc to) many low) (is_left node to (group.progress node))
  where
    ask : EventAt OtherCall
    ask = timed_event now (Asks node (step_ask area node thread to (group.progress node)))

    one_goes : Records → StepGoes → StepAnswer × Group
    one_goes records goes = elim goes [
      | Stops answer progress ↦ (answer, with_progress (record group { records = records }) node progress)
      | GoesOn progress ↦ step_from (one_job v) area (with_progress (record group { records = records }) node progress)
          now node thread (suc to) many
    ]

    other_goes : Records → StepGoes → StepAnswer × Group
    other_goes records goes = elim goes [
      | Stops answer progress ↦ (answer, with_progress (record group { records = records }) node progress)
      | GoesOn progress ↦ step_from (other_job v) area (with_progress (record group { records = records }) node progress)
          now node thread (suc to) many
    ]

    one_calls : Records → StepGoes → List (EventAt OtherCall)
    one_calls records goes = elim goes [
      | Stops answer progress ↦ []
      | GoesOn progress ↦ calls_from (one_job v) area (with_progress (record group { records = records }) node progress)
          now node thread (suc to) many
    ]

    other_calls : Records → StepGoes → List (EventAt OtherCall)
    other_calls records goes = elim goes [
      | Stops answer progress ↦ []
      | GoesOn progress ↦ calls_from (other_job v) area (with_progress (record group { records = records }) node progress)
          now node thread (suc to) many
    ]

    after : Records
    after = world_after (one_job v) group.records ask

    by_goes : Again v area now node thread (suc to) many → Stood v after → (goes : StepGoes)
        → IsSame StepAnswer v (one_goes after goes) (other_goes (respell_world v.spell after) goes)
        (ask ∷ one_calls after goes) (ask ∷ other_calls (respell_world v.spell after) goes)
    by_goes again stood (Stops answer progress) = record { answer = refl; left = refl; calls_are = refl }
    by_goes again stood (GoesOn progress) =
        let it = again (with_progress (record group { records = after }) node progress) stood in
        record {
          answer = it.answer;
          left = it.left;
          calls_are = ap (λ (calls : List (EventAt OtherCall)). ask ∷ calls) it.calls_are;
        }

    goes_by : WorldAnswer Answer → StepGoes
    goes_by told = step_goes (group.progress node) to (asked_in told)

    by_left : Again v area now node thread (suc to) many → (left : Bool)
        → IsSame StepAnswer v
        (if left then one_goes after (goes_by (world_answer (one_job v) group.records ask))
        else step_from (one_job v) area group now node thread (suc to) many)
        (if left
        then other_goes (world_after (other_job v) (respell_world v.spell group.records) ask)
        (goes_by (world_answer (other_job v) (respell_world v.spell group.records) ask))
        else step_from (other_job v) area (respell_group v.spell group) now node thread (suc to) many)
        (if left then ask ∷ one_calls after (goes_by (world_answer (one_job v) group.records ask))
        else calls_from (one_job v) area group now node thread (suc to) many)
        (if left
        then ask ∷ other_calls (world_after (other_job v) (respell_world v.spell group.records) ask)
        (goes_by (world_answer (other_job v) (respell_world v.spell group.records) ask))
        else calls_from (other_job v) area (respell_group v.spell group) now node thread (suc to) many)
    by_left again false = again group stood
    by_left again true =
        let alike = event_alike v group.records now (Asks node
        (step_ask area node thread to (group.progress node))) stood.holds stood.notes in
        let next = (after_events v sound (ask ∷ []) group.records stood (low, tt)).1 in
        let it = by_goes again next (goes_by (world_answer (one_job v) group.records ask)) in
        record {
          answer = ap₂ (λ (told : WorldAnswer Answer) (records : Records). (other_goes records (goes_by told)).0)
              alike.answer alike.after ∙ it.answer;
          left = ap₂ (λ (told : WorldAnswer Answer) (records : Records). (other_goes records (goes_by told)).1)
              alike.answer alike.after ∙ it.left;
          calls_are = ap₂ (λ (told : WorldAnswer Answer) (records : Records).
              ask ∷ other_calls records (goes_by told)) alike.answer alike.after ∙ it.calls_are;
        }

step_alike : (v : Versions) → AreSound v → (area : Area) (group : Group) (now node thread among : ℕ)
    → node < v.settings.nodes → Stood v group.records
    → IsSame StepAnswer v (does_step (one_job v) area group now node thread among)
    (does_step (other_job v) area (respell_group v.spell group) now node thread among)
    (calls_of_step (one_job v) area group now node thread among)
    (calls_of_step (other_job v) area (respell_group v.spell group) now node thread among)
step_alike v sound area group now node thread among low stood = by_open (is_open (group.progress node))
  where
    by_open : (opened : Bool)
        → IsSame StepAnswer v
        (if opened then step_from (one_job v) area group now node thread 0 among else (step_answers.Nothing, group))
        (if opened then step_from (other_job v) area (respell_group v.spell group) now node thread 0 among
        else (step_answers.Nothing, respell_group v.spell group))
        (if opened then calls_from (one_job v) area group now node thread 0 among else [])
        (if opened then calls_from (other_job v) area (respell_group v.spell group) now node thread 0 among else [])
    by_open true = steps_alike v sound area now node thread 0 among low group stood
    by_open false = record { answer = refl; left = refl; calls_are = refl }

-- ---- a try to end

writes_alike : (v : Versions) → AreSound v → (now node thread : ℕ) (records : Records) (writes : List Write)
    → node < v.settings.nodes → Stood v records
    → after_writes (other_job v) now node thread (respell_world v.spell records) writes
    ≡ respell_world v.spell (after_writes (one_job v) now node thread records writes)
writes_alike v sound now node thread records [] low stood = refl
writes_alike v sound now node thread records (write ∷ later) low stood =
    let it = after_events v sound (write_event now node thread write ∷ []) records stood (low, tt) in
    ap (λ (next : Records). after_writes (other_job v) now node thread next later) it.0
    ∙ writes_alike v sound now node thread (world_after (one_job v) records (write_event now node thread write)) later low
    it.1

ended_alike : (v : Versions) → AreSound v → (area : Area) (group : Group) (now node thread dest : ℕ)
    (polled : Records) (answer : EndAnswer) → node < v.settings.nodes → Stood v polled
    → ended_group (other_job v) area (respell_group v.spell group) now node thread dest (respell_world v.spell polled)
    answer
    ≡ respell_group v.spell (ended_group (one_job v) area group now node thread dest polled answer)
ended_alike v sound area group now node thread dest polled end_answers.Ended low stood =
    ap (λ (records : Records).
    with_progress (record group { records = records }) node (after_end (group.progress node)))
    (writes_alike v sound now node thread polled (writes_from dest (result_pieces (one_job v) area group node)) low stood)
ended_alike v sound area group now node thread dest polled (end_answers.Mismatch other) low stood = refl
ended_alike v sound area group now node thread dest polled end_answers.NotReady low stood = refl
ended_alike v sound area group now node thread dest polled end_answers.NotStarted low stood = refl
ended_alike v sound area group now node thread dest polled (end_answers.BadArg argument) low stood = refl
ended_alike v sound area group now node thread dest polled (end_answers.Exhausted other) low stood = refl
ended_alike v sound area group now node thread dest polled (end_answers.Forbidden forbidden) low stood = refl
ended_alike v sound area group now node thread dest polled end_answers.NoMemory low stood = refl

behind_alike : (v : Versions) (area : Area) (group : Group) (now node thread dest : ℕ) (answer : EndAnswer)
    → calls_behind (other_job v) area (respell_group v.spell group) now node thread dest answer
    ≡ calls_behind (one_job v) area group now node thread dest answer
behind_alike v area group now node thread dest end_answers.Ended = refl
behind_alike v area group now node thread dest (end_answers.Mismatch other) = refl
behind_alike v area group now node thread dest end_answers.NotReady = refl
behind_alike v area group now node thread dest end_answers.NotStarted = refl
behind_alike v area group now node thread dest (end_answers.BadArg argument) = refl
behind_alike v area group now node thread dest (end_answers.Exhausted other) = refl
behind_alike v area group now node thread dest (end_answers.Forbidden forbidden) = refl
behind_alike v area group now node thread dest end_answers.NoMemory = refl

end_alike : (v : Versions) → AreSound v → (area : Area) (group : Group) (now node thread dest : ℕ)
    → node < v.settings.nodes → Stood v group.records
    → IsSame EndAnswer v (does_end (one_job v) area group now node thread dest)
    (does_end (other_job v) area (respell_group v.spell group) now node thread dest)
    (calls_of_end (one_job v) area group now node thread dest)
    (calls_of_end (other_job v) area (respell_group v.spell group) now node thread dest)
end_alike v sound area group now node thread dest low stood =
    by_refusal (end_refusal area v.settings.segment node (group.progress node) dest)
  where
    poll : EventAt OtherCall
    poll = timed_event now (Does node thread (OnCore Poll))

    -- by what the poll was answered, and what it left
    one_by : WorldAnswer Answer → Records → EndAnswer × Group
    one_by told polled =
        let answer = end_by (one_job v) area group now node thread dest told in
        (answer, ended_group (one_job v) area group now node thread dest polled answer)

    other_by : WorldAnswer Answer → Records → EndAnswer × Group
    other_by told polled =
        let answer = end_by (one_job v) area group now node thread dest told in (
          answer,
          ended_group (other_job v) area (respell_group v.spell group) now node thread dest polled answer,
        )

    one_calls : WorldAnswer Answer → List (EventAt OtherCall)
    one_calls told =
        poll ∷ calls_behind (one_job v) area group now node thread dest
        (end_by (one_job v) area group now node thread dest told)

    other_calls : WorldAnswer Answer → List (EventAt OtherCall)
    other_calls told =
        poll ∷ calls_behind (other_job v) area (respell_group v.spell group) now node thread dest
        (end_by (one_job v) area group now node thread dest told)

    here : WorldAnswer Answer
    here = world_answer (one_job v) group.records poll

    there : WorldAnswer Answer
    there = world_answer (other_job v) (respell_world v.spell group.records) poll

    by_refusal : (refusal : Option EndAnswer)
        → IsSame EndAnswer v
        (elim refusal [
          | Some first ↦ (first, group)
          | None ↦ one_by here (world_after (one_job v) group.records poll)
        ])
        (elim refusal [
          | Some first ↦ (first, respell_group v.spell group)
          | None ↦ other_by there (world_after (other_job v) (respell_world v.spell group.records) poll)
        ])
        (elim refusal [ Some first ↦ [] | None ↦ one_calls here ])
        (elim refusal [ Some first ↦ [] | None ↦ other_calls there ])
    by_refusal (Some first) = record { answer = refl; left = refl; calls_are = refl }
    by_refusal None =
        let alike = event_alike v group.records now (Does node thread (OnCore Poll)) stood.holds stood.notes in
        let next = (after_events v sound (poll ∷ []) group.records stood (low, tt)).1 in
        let polled = world_after (one_job v) group.records poll in
        let answer = end_by (one_job v) area group now node thread dest here in
        same_both v (one_by here polled)
        (other_by there (world_after (other_job v) (respell_world v.spell group.records) poll)) (one_calls here)
        (other_calls there)
        (ap₂ other_by alike.answer alike.after
        ∙ ap (λ (left : Group). (answer, left))
        (ended_alike v sound area group now node thread dest polled answer low next))
        (ap other_calls alike.answer
        ∙ ap (λ (calls : List (EventAt OtherCall)). poll ∷ calls)
        (behind_alike v area group now node thread dest answer))

-- ---- a call of a line

-- what it is answered, what it leaves, and its calls
pub record CallAlike (v : Versions) (nodes : Nodes) (time node thread : ℕ) (call : CollectiveText) : Type 0 where
  pub answer : collective_answer (other_job v) (respell_nodes v.spell nodes) time node thread call
      ≡ collective_answer (one_job v) nodes time node thread call
  pub left : (group_does (other_job v) nodes.area (respell_group v.spell nodes.group)
      (collective_event v.settings.nodes time node thread call)).1
      ≡ respell_group v.spell (group_does (one_job v) nodes.area nodes.group
      (collective_event v.settings.nodes time node thread call)).1
  pub calls_are : calls_of (other_job v) nodes.area (respell_group v.spell nodes.group)
      (collective_event v.settings.nodes time node thread call)
      ≡ calls_of (one_job v) nodes.area nodes.group (collective_event v.settings.nodes time node thread call)

pub call_alike : (v : Versions) → AreSound v → (nodes : Nodes) (time node thread : ℕ) (call : CollectiveText)
    → node < v.settings.nodes → Stood v nodes.group.records → CallAlike v nodes time node thread call
call_alike v sound nodes time node thread (text.Start shape from) low stood =
    let it = start_alike v nodes.area nodes.group time node thread shape from stood in
    record { answer = ap answers.Start it.answer; left = it.left; calls_are = it.calls_are }
call_alike v sound nodes time node thread text.Step low stood =
    let it = step_alike v sound nodes.area nodes.group time node thread v.settings.nodes low stood in
    record { answer = ap answers.Step it.answer; left = it.left; calls_are = it.calls_are }
call_alike v sound nodes time node thread (text.Try dest) low stood =
    let it = end_alike v sound nodes.area nodes.group time node thread dest low stood in
    record { answer = ap answers.End it.answer; left = it.left; calls_are = it.calls_are }
