-- What the events of a turn do to an endpoint, and how the try of a step went.
-- Origin: this project's profile.
use Rattle.std.specs.Prelude.{ℕ, ◌≡◌, List, [], ◌∷◌, ◌&&◌, if◌then◌else◌, map, Option, None, Some}
use Rattle.std.specs.Prelude.{is_some, is_none, not}
use Rattle.std.specs.Option.{option_or, option_to_list}
use Rattle.part_handlers.specs.Runs.{Meaning}
use Rattle.spec_node.specs.Record.{Node}
use Rattle.spec_node.specs.NodeStep.{Job, node_answer}
use Rattle.spec_node.specs.declared.answer.SlotRef.{SlotRef}
use Rattle.node_core.specs.CoreState.{CoreState}
use Rattle.node_rules.specs.Called.{node_event}
use Rattle.node_rules.specs.EndpointLocal.{EndpointLocal, IsEndpointKept}
use Rattle.node_rules.specs.EndpointRules.{OtherCall, RecordEvent, answer_told}
use Rattle.node_rules.specs.Sends.{sends}
use Rattle.node_rules.specs.declared.answer.Answer.{Answer}
use Rattle.node_endpoint.specs.EndpointState.{EndpointState, EndpointStands, ForItsRecord, job_here}
use Rattle.text_steps.specs.declared.steps.ScriptStep.{ScriptStep}
use Rattle.proc_collective_steps.specs.Tries.{AreOf}
use Rattle.proc_collective_steps.specs.declared.tries.PartTried.{PartTried}
use Rattle.node_collectives.specs.declared.answers.StepAnswer.TheVariants as steps
use Rattle.law_traces.specs.declared.script_answer.ScriptAnswer.TheVariants as said
use Rattle.node_collectives.specs.CollectivesState.{CollectivesState}
use Rattle.law_traces.specs.Actions.{Form, Several, Progress, StepContext, calls_of, collectives_after, ended_by, begins}
use Rattle.law_traces.specs.Actions.{step_part_of, tried_form, unless}
use Rattle.law_traces.specs.Outgoing.{slot_of_packet, StaysWell}
use Rattle.law_traces.specs.declared.script_answer.ScriptAnswer.{ScriptAnswer}
use Rattle.law_traces.specs.Scripts.{ThreadCall, TryResult as FormTried, TryContext}
use Rattle.law_traces.specs.Turn.{node_run, node_sends, events_of, first_answer}
use Rattle.node_vis.specs.Beginning.{BeginCall, calls_made, vis_answer}
use Rattle.node_vis.specs.declared.shapes.Vis.{Vis}
use Rattle.node_endpoint.specs.Sites.{node_in_the_end}
use Rattle.proc_steps.specs.Forms.{is_sent, site_of, step_form}
use Rattle.proc_steps.specs.declared.trial.Trial.{Trial}
use Rattle.proc_steps.specs.declared.trial.Tried.{Tried}

-- the job of an endpoint, as its node's record knows it
abbrev pub EndpointJob : Type 0
EndpointJob = Job EndpointLocal OtherCall Answer

-- ---- events of an endpoint, one after another

-- events at one time, by the record that they find, and the slots of what they send, in order
pub record Happening : Type 0 where
  pub now : ℕ
  pub events : Node EndpointLocal → List RecordEvent
  pub slots : List SlotRef

-- of a record of the node `me`: the endpoint stands for what these events leave, and each message that they sent is
-- that of its slot
pub record HasHappened
    (job : EndpointJob) (me : ℕ) (happening : Happening) (node : Node EndpointLocal) (new : EndpointState) : Type 0
  where
    pub stands : EndpointStands new (node_run job me happening.now (happening.events node) node)
    pub slots_are : happening.slots ≡ map slot_of_packet (node_sends job me happening.now (happening.events node) node)
    pub well : StaysWell job (IsEndpointKept job.settings) me happening.now (happening.events node) node

-- the core of the same node of the same job, with the same table
pub record IsAtSameNode (old new : CoreState) : Type 0 where
  pub settings : new.settings ≡ old.settings
  pub me_is : new.me ≡ old.me
  pub table : new.table ≡ old.table

-- these events happened to the endpoint, of every record for which it stood
pub record Happen (meaning : Meaning) (old : EndpointState) (happening : Happening) (new : EndpointState) : Type 0
  where
    pub same : IsAtSameNode old.core new.core
    pub happened : ForItsRecord old (λ node. HasHappened (job_here meaning old) old.core.me happening node new)

-- a call of a thread at a time, with its answer
pub record MadeCall : Type 0 where
  pub now : ℕ
  pub thread : ℕ
  pub meant : ThreadCall
  pub answer : Answer

-- its event, and the slot of what it sent
abbrev pub made_happening : MadeCall → Happening
made_happening made = record {
  now = made.now;
  events = λ node. node_event made.thread made.meant ∷ [];
  slots = option_to_list (sends made.answer);
}

-- the endpoint was asked this, and answered so
pub record Makes (meaning : Meaning) (old : EndpointState) (made : MadeCall) (new : EndpointState) : Type 0 where
  pub happen : Happen meaning old (made_happening made) new
  pub answered : ForItsRecord old (λ node.
      made.answer
      ≡ answer_told (node_answer (job_here meaning old) old.core.me node made.now (node_event made.thread made.meant)))

-- ---- the try of a step that has a form

-- the try of a step of a thread that is read so, where it began with this answer
pub record FormTrial : Type 0 where
  pub now : ℕ
  pub thread : ℕ
  pub form : Node EndpointLocal → Form EndpointLocal
  pub began : Option Answer

-- the calls that it makes, in order, by the record that it finds
abbrev pub trial_calls : FormTrial → Node EndpointLocal → List ThreadCall
trial_calls trial node = calls_of (trial.form node) trial.began

-- the events of the calls
abbrev pub trial_events : FormTrial → Node EndpointLocal → List RecordEvent
trial_events trial node = events_of trial.thread (trial_calls trial node)

-- the answer of the first of them
abbrev pub trial_answer : EndpointJob → (me : ℕ) → FormTrial → Node EndpointLocal → Option Answer
trial_answer job me trial node = first_answer job me trial.thread trial.now (trial_calls trial node) node

-- the record after it
abbrev pub trial_after : EndpointJob → (me : ℕ) → FormTrial → Node EndpointLocal → Node EndpointLocal
trial_after job me trial node = node_run job me trial.now (trial_events trial node) node

-- the answer with which a step of this form began, where this try changed the node's collectives, and didn't end it
abbrev pub moved_by : Form EndpointLocal → (began : Option Answer) → (ended : Option ScriptAnswer) → Option Answer
moved_by (Several first later) began ended =
    if is_some (step_part_of first later began).next && is_none ended then began else None
moved_by form began ended = None

-- the answer with which a try of this form began its step, where it began it and didn't end it; or with which an
-- earlier try began it, where this one changed the node's collectives
abbrev pub begun_by : Form EndpointLocal
    → (began : Option Answer) → (ended : Option ScriptAnswer) → (answer : Option Answer) → Option Answer
begun_by form began ended answer =
    if begins form && is_none began && is_none ended then answer else moved_by form began ended

-- how the try went, of a record that it found
pub record WentSo (job : EndpointJob) (me : ℕ) (trial : FormTrial) (tried : Tried) (node : Node EndpointLocal) : Type 0
  where
    pub ended : tried.ended
        ≡ ended_by (trial.form node) trial.began (trial_after job me trial node) (trial_answer job me trial node)
    pub began : tried.began
        ≡ begun_by (trial.form node) trial.began tried.ended (trial_answer job me trial node)

-- a look at what the answer with which a step began is about: it ends the step where all of that is sent
abbrev pub look_result : (first : Answer) → Node EndpointLocal → Tried
look_result first node = record { sent = None; ended = unless (not (is_sent first node)) first; began = None }

-- the events of the try, and the slot of what they sent
abbrev pub trial_happening : FormTrial → Tried → Happening
trial_happening trial tried =
    record { now = trial.now; events = trial_events trial; slots = option_to_list tried.sent }

-- the endpoint was asked what the try calls, in order, and the try went so
pub record TriesForm
    (meaning : Meaning) (old : EndpointState) (trial : FormTrial) (tried : Tried) (new : EndpointState) : Type 0
  where
    pub happen : Happen meaning old (trial_happening trial tried) new
    pub went : ForItsRecord old (WentSo (job_here meaning old) old.core.me trial tried)

-- ---- the try of a step

-- a call of the thread, with its answer
abbrev pub made_by : Trial → (meant : ThreadCall) → Answer → MadeCall
made_by trial meant answer =
    record { now = trial.time; thread = trial.thread; meant = meant; answer = answer }

-- the step, where it is read so
abbrev pub read_as : Trial → (form : Node EndpointLocal → Form EndpointLocal) → FormTrial
read_as trial form =
    record { now = trial.time; thread = trial.thread; form = form; began = trial.began }

-- a try of a thread of the endpoint's node at this time
abbrev pub context_here : Meaning → EndpointState → (thread now : ℕ) → TryContext
context_here meaning endpoint thread now = record {
  settings = endpoint.core.settings;
  table = endpoint.core.table;
  meaning = meaning;
  me = endpoint.core.me;
  thread = thread;
  now = now;
}

-- what a try finds: the endpoint of the node, and how far the node's collectives are
pub record FoundNode : Type 0 where
  pub endpoint : EndpointState
  pub collectives : Option CollectivesState

-- the collectives are those of the endpoint's node
abbrev pub AreThere : EndpointState → Option CollectivesState → Type 0
AreThere endpoint None = Unit {0}
AreThere endpoint (Some it) = AreOf endpoint.core it

abbrev pub step_here : Meaning → FoundNode → (thread now : ℕ) → StepContext
step_here meaning found thread now =
    record { place = context_here meaning found.endpoint thread now; collectives = found.collectives }

-- the step, as it is read there
abbrev pub as_form : Meaning → FoundNode → Trial → FormTrial
as_form meaning found trial = read_as trial (step_form trial.step.now (step_here meaning found trial.thread trial.time))

-- what is left of the script whose step was tried, and behind which this is left
abbrev pub rest_left : Trial → Tried → (rest : List ScriptStep) → Progress ScriptStep
rest_left trial tried rest =
    if is_some tried.ended then record { left = rest; began = None }
    else record { left = trial.step.now ∷ rest; began = option_or tried.began trial.began }

-- how the try went, as what it told says it
abbrev pub as_tried : Trial → Tried → (rest : List ScriptStep) → FormTried (Progress ScriptStep)
as_tried trial tried rest =
    record { left = rest_left trial tried rest; ended = tried.ended; began = is_some tried.began }

-- of a record that the try found: it went as the step's form says
abbrev pub IsTriedSo : Meaning → FoundNode → Trial → Tried → Node EndpointLocal → Type 0
IsTriedSo meaning old trial tried node =
    let job = job_here meaning old.endpoint in
    let me = old.endpoint.core.me in
    let form = as_form meaning old trial in
    (rest : List ScriptStep)
    → tried_form (form.form node) trial.step.now rest trial.began (trial_after job me form node)
    (trial_answer job me form node)
    ≡ as_tried trial tried rest

-- how far the node's collectives are after the try, of a record that it found
abbrev pub IsFar : Meaning → FoundNode → Trial → (next : Option CollectivesState) → Node EndpointLocal → Type 0
IsFar meaning old trial next node =
    next ≡ collectives_after ((as_form meaning old trial).form node) trial.began old.collectives

-- a step was tried: of every record for which the endpoint stood, the try made the calls that the step's form makes, in
-- order, and went as the form says
pub record Tries (meaning : Meaning) (old : FoundNode) (trial : Trial) (tried : Tried) (new : FoundNode) : Type 0 where
  pub happen : Happen meaning old.endpoint (trial_happening (as_form meaning old trial) tried) new.endpoint
  pub tried_so : ForItsRecord old.endpoint (IsTriedSo meaning old trial tried)
  pub far : ForItsRecord old.endpoint (IsFar meaning old trial new.collectives)

-- ---- a step that runs collectives

-- how a part of such a step is told, by the answer with which the step began
abbrev pub of_part : PartTried → (began : Option Answer) → Tried
of_part part began = record {
  sent = part.sent;
  ended = part.ended;
  began = if part.moved && is_none part.ended then began else None;
}

-- a node without collectives has nothing to do
abbrev pub no_collectives : Tried
no_collectives = record { sent = None; ended = Some (said.Step steps.Nothing); began = None }

-- a step that is read so was tried, and the collectives are as far as its form says
pub record TriesFound (meaning : Meaning) (old : FoundNode) (trial : Trial)
    (form : StepContext → Node EndpointLocal → Form EndpointLocal) (tried : Tried) (new : FoundNode) : Type 0 where
  pub tries : TriesForm meaning old.endpoint (read_as trial (form (step_here meaning old trial.thread trial.time)))
      tried new.endpoint
  pub far : ForItsRecord old.endpoint (λ node.
      new.collectives
      ≡ collectives_after (form (step_here meaning old trial.thread trial.time) node) trial.began old.collectives)

-- ---- the beginning of a plan's pieces

-- the endpoint stands for what the calls leave, and the answer is the one that they give
pub record HasBegun
    (old : EndpointState) (at : TryContext) (asked : BeginCall) (answer : Vis) (new : EndpointState) : Type 0
  where
    pub settings : new.core.settings ≡ old.core.settings
    pub me_is : new.core.me ≡ old.core.me
    pub table : new.core.table ≡ old.core.table
    pub answered : ForItsRecord old (λ node. answer ≡ vis_answer (site_of at) node asked)
    pub leaves : ForItsRecord old (λ node.
        EndpointStands new (node_in_the_end (site_of at) node (calls_made asked answer)))
