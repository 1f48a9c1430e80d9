-- Where the calls of a thread fall, and what each of them does to the record of its node.
use Rattle.std.specs.Prelude.{ℕ, ◌≡◌, ◌<◌, Bool, true, List, [], ◌∷◌, Option}
use Rattle.wire_message.specs.Parameters.{Parameters}
use Rattle.part_handlers.specs.declared.table.Entry.{Entry}
use Rattle.part_handlers.specs.Runs.{Meaning}
use Rattle.spec_node.specs.Record.{Node}
use Rattle.spec_node.specs.NodeStep.{Job, node_answer, node_after}
use Rattle.node_rules.specs.EndpointLocal.{EndpointLocal}
use Rattle.node_rules.specs.EndpointRules.{OtherCall, RecordEvent, job_of, answer_told}
use Rattle.node_rules.specs.Called.{Meant, Requests, Performs, meant, node_event}
use Rattle.node_rules.specs.declared.call.Call.{Call}
use Rattle.node_rules.specs.declared.answer.Answer.{Answer}

-- the settings, table and handlers of the job, the node, and the time
pub record Site : Type 0 where
  pub settings : Parameters
  pub table : List (Option Entry)
  pub meaning : Meaning
  pub node : ℕ
  pub now : ℕ

-- what handlers and calls do in that job
abbrev pub job_at : Site → Job EndpointLocal OtherCall Answer
job_at site = job_of site.settings site.table site.meaning

-- the node is one of the job's
abbrev pub IsThere : Site → Type 0
IsThere site = site.node < site.settings.nodes

-- a call as the records have it, with the thread that makes it
pub record ThreadCall : Type 0 where
  pub thread : ℕ
  pub call : Meant

abbrev pub called_by : (thread : ℕ) → Call → ThreadCall
called_by thread call = record { thread = thread; call = meant call }

-- the event of the node that it is
abbrev pub record_event_of : ThreadCall → RecordEvent
record_event_of call = node_event call.thread call.call

-- ---- one call

-- how a node with this record answers it
abbrev pub answer_at : Site → Node EndpointLocal → ThreadCall → Answer
answer_at site node call = answer_told (node_answer (job_at site) site.node node site.now (record_event_of call))

-- the record that it leaves
abbrev pub node_then : Site → Node EndpointLocal → ThreadCall → Node EndpointLocal
node_then site node call = node_after (job_at site) site.node node site.now (record_event_of call)

-- ---- calls, one after another

-- the record that they leave
abbrev pub node_in_the_end : Site → Node EndpointLocal → List ThreadCall → Node EndpointLocal
node_in_the_end site node [] = node
node_in_the_end site node (call ∷ later) = node_in_the_end site (node_then site node call) later

-- how each is answered
abbrev pub answers_at : Site → Node EndpointLocal → List ThreadCall → List Answer
answers_at site node [] = []
answers_at site node (call ∷ later) = answer_at site node call ∷ answers_at site (node_then site node call) later

-- ---- memory

-- the call is a request
abbrev pub IsRequest : Meant → Type 0
IsRequest (Requests to asking) = Unit {0}
IsRequest (Performs call) = ⊥

-- memory may run out at this call, by a caller that may lack it or not: at a request alone
abbrev pub MayLack : (may : Bool) → ThreadCall → Type 0
MayLack may call = (may ≡ true) × IsRequest call.call
