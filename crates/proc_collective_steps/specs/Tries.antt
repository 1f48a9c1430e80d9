-- What a try of a step that runs the collectives of its node did at an endpoint.
-- Origin: this project's profile.
use Rattle.std.specs.Prelude.{◌≡◌, Bool, true, not, List, map, Option, None, Some, is_some}
use Rattle.std.specs.Option.{option_or, option_to_list}
use Rattle.part_handlers.specs.Runs.{Meaning}
use Rattle.spec_node.specs.Record.{Node}
use Rattle.node_core.specs.CoreState.{CoreState}
use Rattle.node_rules.specs.EndpointLocal.{EndpointLocal, IsEndpointKept}
use Rattle.node_rules.specs.EndpointRules.{OtherCall, RecordEvent, job_of}
use Rattle.node_rules.specs.declared.answer.Answer.{Answer}
use Rattle.node_collectives.specs.CollectivesState.{CollectivesState, IsSameNode}
use Rattle.node_endpoint.specs.EndpointState.{EndpointState, EndpointStands, ForItsRecord}
use Rattle.node_endpoint.specs.Sites.{Site, node_in_the_end}
use Rattle.spec_node.specs.NodeStep.{Job}
use Rattle.law_traces.specs.Actions.{Part}
use Rattle.law_traces.specs.Outgoing.{slot_of_packet, StaysWell}
use Rattle.law_traces.specs.Scripts.{TryContext}
use Rattle.law_traces.specs.Turn.{events_of, first_answer, node_run, node_sends}
use Rattle.law_traces.specs.declared.script_answer.ScriptAnswer.TheVariants as said
use Rattle.spec_node.specs.declared.answer.SlotRef.{SlotRef}
use Rattle.node_collectives.specs.declared.answers.EndAnswer.{EndAnswer}
use Rattle.proc_collective_steps.specs.Outcomes.{Outcome, last_from, try_ends}
use Rattle.proc_collective_steps.specs.declared.tries.AtThread.{AtThread}
use Rattle.proc_collective_steps.specs.declared.tries.PartTried.{PartTried}

-- a try of that thread of the endpoint's node
abbrev pub context_at : Meaning → EndpointState → AtThread → TryContext
context_at meaning endpoint at = record {
  settings = endpoint.core.settings;
  table = endpoint.core.table;
  meaning = meaning;
  me = endpoint.core.me;
  thread = at.thread;
  now = at.now;
}

-- the collectives are those of the endpoint's node
pub record AreOf (core : CoreState) (it : CollectivesState) : Type 0 where
  pub settings : it.settings ≡ core.settings
  pub me_is : it.me ≡ core.me

-- the core of the same node of the same job, with the same table
pub record IsSameCore (old new : CoreState) : Type 0 where
  pub settings : new.settings ≡ old.settings
  pub me_is : new.me ≡ old.me
  pub table : new.table ≡ old.table

-- of a record for which the endpoint stood: a call of the collectives came to this, and the last call of the node was
-- answered so
pub record Comes {Told : Type 0} (site : Site) (node : Node EndpointLocal) (outcome : Outcome Told) (told : Told)
    (last : Option Answer) (next : CollectivesState) (new : EndpointState) : Type 0 where
  pub answered : told ≡ outcome.answer
  pub next_is : next ≡ outcome.next
  pub stands : EndpointStands new (node_in_the_end site node outcome.calls)
  pub last_is : last ≡ last_from site None node outcome.calls

-- the same of a try to end, whose calls send nothing
pub record EndComes (site : Site) (node : Node EndpointLocal) (outcome : Outcome EndAnswer) (told : EndAnswer)
    (next : CollectivesState) (new : EndpointState) : Type 0 where
  pub answered : told ≡ outcome.answer
  pub next_is : next ≡ outcome.next
  pub stands : EndpointStands new (node_in_the_end site node outcome.calls)

-- how a later try of a whole collective went, by the answer of its try to end
abbrev pub ended_so : Option SlotRef → (quiet : Bool) → Option EndAnswer → PartTried
ended_so sent quiet (Some end) = record { sent = sent; ended = Some (said.End end); moved = true }
ended_so sent quiet None = record { sent = sent; ended = None; moved = not quiet }

abbrev pub went_on : Option SlotRef → (quiet : Bool) → EndAnswer → PartTried
went_on sent quiet answer = ended_so sent quiet (try_ends answer)

-- the job of a try
abbrev pub job_at : TryContext → Job EndpointLocal OtherCall Answer
job_at at = job_of at.settings at.table at.meaning

-- the events of the calls of a part
abbrev pub events_in : TryContext → Part → List RecordEvent
events_in at part = events_of at.thread part.calls

-- of a record for which the endpoint stood: the try did what this part says
pub record IsPartTried (at : TryContext) (node : Node EndpointLocal) (part : Part) (it : CollectivesState)
    (tried : PartTried) (next : CollectivesState) (new : EndpointState) : Type 0 where
  pub stands : EndpointStands new (node_run (job_at at) at.me at.now (events_in at part) node)
  pub slots_are : option_to_list tried.sent
      ≡ map slot_of_packet (node_sends (job_at at) at.me at.now (events_in at part) node)
  pub well : StaysWell (job_at at) (IsEndpointKept at.settings) at.me at.now (events_in at part) node
  pub ended : tried.ended ≡ part.ended
  pub moved : tried.moved ≡ is_some part.next
  pub next_is : Some next ≡ option_or part.next (Some it)

-- the answer of the first call of a part, where the node has this record
abbrev pub first_of : TryContext → Part → Node EndpointLocal → Option Answer
first_of at part node = first_answer (job_at at) at.me at.thread at.now part.calls node

-- the endpoint of a node, and how far the node's collectives are
pub record NodeCollectives : Type 0 where
  pub endpoint : EndpointState
  pub collectives : CollectivesState

-- a try of that thread: the node is the same one, and of each record for which its endpoint stood the try did what the
-- part says
pub record TriesPart (meaning : Meaning) (at : AtThread) (old : NodeCollectives)
    (part : TryContext → Node EndpointLocal → CollectivesState → Part) (told : PartTried)
    (new : NodeCollectives) : Type 0 where
  pub same : IsSameCore old.endpoint.core new.endpoint.core
  pub same_node : IsSameNode old.collectives new.collectives
  pub tried : ForItsRecord old.endpoint (λ node.
      let here = context_at meaning old.endpoint at in
      IsPartTried here node (part here node old.collectives) old.collectives told new.collectives new.endpoint)
