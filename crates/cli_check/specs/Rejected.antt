-- The traces of the nodes of a job without the bytes that these nodes refuse.
-- Origin: this project's profile.
use Rattle.std.specs.Prelude.{ℕ, ◌+◌, Bool, true, false, if◌then◌else◌, List, [], ◌∷◌, Option, None, Some}
use Rattle.node_endpoint.specs.EndpointState.{EndpointState, IsNodeOf}
use Rattle.node_endpoint.specs.Parts.{HasRecord}
use Rattle.text_trace.specs.declared.trace.Trace.{Trace}
use Rattle.text_job.specs.declared.job.Job.{Job as JobState}
use Rattle.base_turns.specs.declared.entry.Entry.{Entry}
use Rattle.proc_machine.specs.NodeState.{script_job}
use Rattle.spec_node.specs.declared.answer.Delivered.{Delivered}
use Rattle.spec_node.specs.declared.answer.Delivered.TheVariants as delivered
use Rattle.text_script.specs.Registration.{handlers_of, registry_of}
use Rattle.law_traces.specs.Rejected.{is_refused, without_rejected}

-- the entries of the node of this rank: where one got bytes that the node refuses, whatever it did before, it got
-- nothing
abbrev pub accepted_entries : JobState → (rank : ℕ) → List Entry → List Entry
accepted_entries job rank entries = without_rejected (script_job job).job rank entries

-- its trace
abbrev pub accepted_trace : JobState → (rank : ℕ) → Trace → Trace
accepted_trace job rank trace = record trace { entries = accepted_entries job rank trace.entries }

-- those of the nodes from this rank on
abbrev pub accepted_from : JobState → (rank : ℕ) → List Trace → List Trace
accepted_from job rank [] = []
accepted_from job rank (trace ∷ traces) = accepted_trace job rank trace ∷ accepted_from job (rank + 1) traces

-- those of all nodes, in rising order of ranks
abbrev pub accepted_traces : JobState → List Trace → List Trace
accepted_traces job traces = accepted_from job 0 traces

-- ---- how it is found

-- the endpoint is one of the node of this rank of the job
pub record IsEndpointAt (job : JobState) (rank : ℕ) (endpoint : EndpointState) : Type 0 where
  pub node : IsNodeOf job.settings (registry_of (handlers_of job)).table rank endpoint
  pub record_ : HasRecord endpoint

-- of whatever node of a job the endpoint is one, this holds of it
abbrev pub OfItsNode : EndpointState → (JobState → (rank : ℕ) → Type 0) → Type 0
OfItsNode endpoint Holds = (job : JobState) (rank : ℕ) → IsEndpointAt job rank endpoint → Holds job rank

-- the node of this rank refuses the bytes
abbrev pub refuses_at : JobState → (rank : ℕ) → (bytes : List ℕ) → Bool
refuses_at job rank bytes = is_refused (script_job job).job rank bytes

-- what an entry of it got
abbrev pub refuses_got : JobState → (rank : ℕ) → (got : Option (List ℕ)) → Bool
refuses_got job rank None = false
refuses_got job rank (Some bytes) = refuses_at job rank bytes

-- how many of the entries got what the node of this rank refuses
abbrev pub refused_turns : JobState → (rank : ℕ) → List Entry → ℕ
refused_turns job rank [] = 0
refused_turns job rank (entry ∷ entries) =
    if refuses_got job rank entry.got then refused_turns job rank entries + 1 else refused_turns job rank entries

-- the delivery was refused
abbrev pub is_refusal : Delivered → Bool
is_refusal (delivered.Refused reason) = true
is_refusal _ = false
