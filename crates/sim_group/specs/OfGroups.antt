-- What the calls of a collective at a node of a world are to a group of nodes that run collectives.
use Rattle.std.specs.Prelude.{ℕ, ◌≡◌, ◌≢◌, ◌<◌, Option, None, Some}
use Rattle.spec_network.specs.World.{Asks, run, world_answer, world_after}
use Rattle.node_rules.specs.EndpointRules.{timed_event}
use Rattle.node_endpoint.specs.Sites.{Site, answer_at, job_at}
use Rattle.sim_world.specs.Wholes.{events_of, records_then}
use Rattle.node_collectives.specs.declared.answers.StartAnswer.{StartAnswer}
use Rattle.node_collectives.specs.declared.answers.EndAnswer.{EndAnswer}
use Rattle.node_collectives.specs.declared.answers.StepAnswer.{StepAnswer}
use Rattle.node_collectives.specs.Progress.{Progress, end_refusal, start_refusal, step_ask}
use Rattle.node_collectives.specs.CollectivesState.{CollectivesState, Stands, progress_of}
use Rattle.node_collectives.specs.Starts.{StartAsked, start_call, start_told}
use Rattle.node_collectives.specs.Steps.{after_ask, step_call, step_told}
use Rattle.node_collectives.specs.Ends.{EndAsked, end_calls, ended_then, segment_in, tried_answer}
use Rattle.law_collectives.specs.Groups.{Group, StepGoes, Stops, GoesOn, asked_in, does_end, does_start}
use Rattle.law_collectives.specs.Groups.{started_group, step_goes}

-- a node of a group is as far as the code keeps it
pub record IsAt (site : Site) (group : Group) (it : CollectivesState) : Type 0 where
  pub good : Stands it
  pub settings_are : it.settings ≡ site.settings
  pub me_is : it.me ≡ site.node
  pub progress_is : group.progress site.node ≡ progress_of it

-- ---- a start

pub record StartIs (site : Site) (group : Group) (it : CollectivesState) (asked : StartAsked) : Type 0 where
  -- a refusal is the group's
  pub refused : (refusal : StartAnswer)
      → start_refusal it.area it.settings.segment (progress_of it) asked.shape asked.from ≡ Some refusal
      → does_start (job_at site) it.area group site.now site.node asked.thread asked.shape asked.from
      ≡ (refusal, group)
  -- else the answer of its call gives the group's answer, and what the group is then
  pub called : start_refusal it.area it.settings.segment (progress_of it) asked.shape asked.from ≡ None
      → let told = start_told (Some (answer_at site (group.records site.node) (start_call it asked))) in
      does_start (job_at site) it.area group site.now site.node asked.thread asked.shape asked.from
      ≡ (
        told,
        started_group (job_at site) group site.node asked.shape asked.from told
            (records_then site group.records (start_call it asked)),
      )

abbrev pub StartIsOfGroup : Type 0
StartIsOfGroup =
    (site : Site) (group : Group) (it : CollectivesState) (asked : StartAsked) → IsAt site group it
    → StartIs site group it asked

-- ---- a call of a step

-- how a step goes on that was told so
abbrev pub goes_by : Option StepAnswer → Progress → StepGoes
goes_by (Some answer) progress = Stops answer progress
goes_by None progress = GoesOn progress

pub record StepIs (site : Site) (group : Group) (it : CollectivesState) (thread to : ℕ) : Type 0 where
  pub event : records_then site group.records (step_call it thread to)
      ≡ world_after (job_at site) group.records
      (timed_event site.now (Asks site.node (step_ask it.area site.node thread to (group.progress site.node))))
  pub goes : let told = Some (answer_at site (group.records site.node) (step_call it thread to)) in
      step_goes (group.progress site.node) to (asked_in (world_answer (job_at site) group.records
      (timed_event site.now (Asks site.node (step_ask it.area site.node thread to (group.progress site.node))))))
      ≡ goes_by (step_told to told) (progress_of (after_ask it to told))

abbrev pub StepIsOfGroup : Type 0
StepIsOfGroup =
    (site : Site) (group : Group) (it : CollectivesState) (thread to : ℕ) → IsAt site group it
    → to < it.settings.nodes → StepIs site group it thread to

-- ---- a try to end

pub record EndIs (site : Site) (group : Group) (it : CollectivesState) (asked : EndAsked) : Type 0 where
  -- a refusal is the group's
  pub refused : (refusal : EndAnswer)
      → end_refusal it.area it.settings.segment it.me (progress_of it) asked.dest ≡ Some refusal
      → does_end (job_at site) it.area group site.now site.node asked.thread asked.dest ≡ (refusal, group)
  -- else its answer is the group's, its calls leave the group's records, and the other nodes are as far as before
  pub answered : end_refusal it.area it.settings.segment it.me (progress_of it) asked.dest ≡ None
      → (does_end (job_at site) it.area group site.now site.node asked.thread asked.dest).0
      ≡ tried_answer site (group.records site.node) it asked.thread
  pub left : end_refusal it.area it.settings.segment it.me (progress_of it) asked.dest ≡ None
      → (does_end (job_at site) it.area group site.now site.node asked.thread asked.dest).1.records
      ≡ run (job_at site) (events_of site (end_calls it (segment_in site (group.records site.node)) asked
      (tried_answer site (group.records site.node) it asked.thread))) group.records
  pub progress : end_refusal it.area it.settings.segment it.me (progress_of it) asked.dest ≡ None
      → (does_end (job_at site) it.area group site.now site.node asked.thread asked.dest).1.progress site.node
      ≡ progress_of (ended_then (tried_answer site (group.records site.node) it asked.thread) it)
  pub others : end_refusal it.area it.settings.segment it.me (progress_of it) asked.dest ≡ None
      → (other : ℕ) → other ≢ site.node
      → (does_end (job_at site) it.area group site.now site.node asked.thread asked.dest).1.progress other
      ≡ group.progress other

abbrev pub EndIsOfGroup : Type 0
EndIsOfGroup =
    (site : Site) (group : Group) (it : CollectivesState) (asked : EndAsked) → IsAt site group it
    → EndIs site group it asked
