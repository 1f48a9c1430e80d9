-- What a node refuses is what a delivery to its endpoint is refused; and lists of entries and traces, one by one.
use Rattle.std.proofs.Common.{◌≡◌, ℕ, zero, suc, ◌+◌, Bool, true, false, List, [], ◌∷◌, ◌++◌, length, Option, Some, None}
use Rattle.std.proofs.Common.{refl, sym, ap, ap₂, subst, ◌∙◌, arith, if◌then◌else◌, ◌==◌}
use Rattle.std.specs.Prelude.{◌||◌, ◌<◌, ◌^◌, is_some, nat_lt, slice_get, IsSomeAnd, All, IfOk, Result, Ok, Err, get_or, take}
use Rattle.std.specs.Option.{option_map}
use Rattle.std.proofs.lemmas.List.{length-map, map-append, take_more}
use Rattle.std.proofs.lemmas.List.Elements.{All-cons, All-head, All-map, All-nil, All-tail}
use Rattle.wire_message.specs.Content.{content_of}
use Rattle.wire_message.specs.Message.{Message}
use Rattle.wire_message.specs.Parameters.{Parameters}
use Rattle.wire_message.specs.Reading.{message_at}
use Rattle.wire_message.specs.Refusals.{first_refusal}
use Rattle.wire_message.specs.declared.refused.Refused.{Refused as BadBytes}
use Rattle.wire_message.proofs.Laws.{takes}
use Rattle.wire_message.proofs.Words.{IsBytes}
use Rattle.node_endpoint.proofs.Delivering.{version_at}
use Rattle.node_endpoint.specs.EndpointState.{EndpointState, EndpointStands, IsNodeOf, WouldDeliver, job_here}
use Rattle.node_endpoint.specs.Parts.{HasRecord}
use Rattle.text_trace.specs.declared.trace.Trace.{Trace}
use Rattle.base_lists.specs.Numbered.{element_at}
use Rattle.proc_machine.specs.NodeState.{script_job}
use Rattle.spec_node.specs.Executed.{greatest}
use Rattle.spec_node.specs.declared.answer.Delivered.TheVariants as delivered
use Rattle.node_rules.specs.EndpointLocal.{EndpointLocal}
use Rattle.node_rules.specs.EndpointRules.{job_of}
use Rattle.part_handlers.specs.Runs.{Meaning}
use Rattle.part_handlers.specs.declared.table.Entry.{Entry as TableEntry}
use Rattle.text_job.specs.declared.job.Job.{Job as JobState}
use Rattle.base_turns.specs.declared.entry.Entry.{Entry}
use Rattle.spec_node.specs.Behaviour.{is_request}
use Rattle.spec_node.specs.NodeStep.{site_of}
use Rattle.spec_node.specs.Record.{Node}
use Rattle.spec_node.specs.Requests.{is_open}
use Rattle.spec_node.specs.Step.{Site, Verdict, answer_by, verdict_of_number, refusal, taken_back, unless_refused, unless_waiting}
use Rattle.spec_node.specs.Step.{reply_slot}
use Rattle.spec_node.specs.Step.Verdict.{Duplicated, Passed, Runs, Missed, Returns}
use Rattle.spec_node.specs.declared.answer.Delivered.{Delivered}
use Rattle.spec_node.specs.declared.answer.SlotRef.{SlotRef}
use Rattle.spec_node.specs.declared.answer.Why.{Why}
use Rattle.text_script.specs.Bodies.{script_meaning}
use Rattle.text_script.specs.Registration.{handlers_of, registry_of}
use Rattle.node_core.specs.Library.{notification_handler, notification_said}
use Rattle.law_traces.specs.Rejected.{is_refused, accepted_entry}
use Rattle.law_traces.specs.Rejected.{unless_refused as unless_refused_got}
use Rattle.cli_check.specs.CheckInputs.{IsTraceOf}
use Rattle.cli_check.specs.Recording.{RecorderKept, RecorderStands, opening_record}
use Rattle.cli_check.specs.Rejected.{IsEndpointAt, is_refusal, refused_turns, refuses_at, refuses_got}
use Rattle.cli_check.specs.Rejected.{accepted_entries, accepted_from}
use Rattle.cli_check.specs.Rejected.{accepted_trace, accepted_traces}
use Rattle.cli_check.specs.Machines.{first_machine, last_record}
use Rattle.cli_check.specs.TracesRun.{AreNodesAfter, IsNodeAfter}
use Rattle.law_traces.proofs.Striking.{replay_same}

-- ---- a message that isn't refused is answered otherwise

module _ (settings : Parameters) (table : List (Option TableEntry)) (meaning : Meaning) (me : ℕ)
    (node : Node EndpointLocal) (message : Message) where
  abbrev here : Site EndpointLocal
  here = site_of (job_of settings table meaning) me

  abbrev answers_as : Verdict → Delivered
  answers_as found = answer_by here.behaviour message found

  runs_told : (is_note : Bool) (at : SlotRef)
      → is_refusal (if is_note then delivered.Notified at (notification_said settings.version (content_of message).args)
      else delivered.Ran at) ≡ false
  runs_told true at = refl
  runs_told false at = refl

  runs : is_refusal (answers_as Runs) ≡ false
  runs = runs_told ((content_of message).handler == notification_handler) (reply_slot message.from message.slot)

  waits_told : (lock : Option ℕ) (found : Verdict) → is_refusal (answers_as found) ≡ false
      → is_refusal (answers_as (unless_waiting lock found)) ≡ false
  waits_told None found told = told
  waits_told (Some lock) found told = refl

  judged_told : (same less : Bool) (lock : Option ℕ)
      → is_refusal (answers_as (if same then Duplicated else (if less then Passed else unless_waiting lock Runs))) ≡ false
  judged_told true less lock = refl
  judged_told false true lock = refl
  judged_told false false lock = waits_told lock Runs runs

  taken_told : (is_back : Bool) (lock : Option ℕ)
      → is_refusal (answers_as (if is_back then unless_waiting lock Returns else Missed)) ≡ false
  taken_told false lock = refl
  taken_told true lock = waits_told lock Returns refl

  either_told : (asks : Bool) (first other : Verdict) → is_refusal (answers_as first) ≡ false
      → is_refusal (answers_as other) ≡ false → is_refusal (answers_as (if asks then first else other)) ≡ false
  either_told true first other one two = one
  either_told false first other one two = two

  -- what it becomes where it isn't refused
  abbrev otherwise : Verdict
  otherwise =
      if is_request message.kind
      then verdict_of_number message.number (greatest message.slot (node.ran message.from))
      (here.behaviour.waits (content_of message) node.local)
      else taken_back message.slot (element_at (node.asked message.from) message.number)
      (here.behaviour.waits (content_of message) node.local)

  otherwise_told : is_refusal (answers_as otherwise) ≡ false
  otherwise_told =
      let last = greatest message.slot (node.ran message.from) in
      let lock = here.behaviour.waits (content_of message) node.local in
      either_told (is_request message.kind) _ _
      (judged_told (message.number == last) (nat_lt message.number last) lock)
      (taken_told (is_open message.slot (element_at (node.asked message.from) message.number)) lock)

  -- it is refused exactly where there is a reason
  verdict_told : (found : Option Why)
      → is_refusal (answers_as (unless_refused found otherwise)) ≡ is_some found
  verdict_told (Some reason) = refl
  verdict_told None = otherwise_told

-- ---- bytes

-- the answer of a delivery tells whether the bytes are refused
told_refused : (meaning : Meaning) (endpoint : EndpointState) (bytes : List ℕ) (answer : Delivered)
    → HasRecord endpoint → IsBytes bytes → WouldDeliver endpoint bytes answer
    → is_refusal answer ≡ is_refused (job_here meaning endpoint) endpoint.core.me bytes
told_refused meaning endpoint bytes answer has are would = by (first_refusal version bytes) refl
  where
    version : ℕ
    version = endpoint.core.settings.version

    message : Message
    message = message_at version bytes

    why : Option Why
    why = refusal (site_of (job_here meaning endpoint) endpoint.core.me) message

    by : (bad : Option BadBytes) → first_refusal version bytes ≡ bad
        → is_refusal answer ≡ (is_some (first_refusal version bytes) || is_some why)
    by (Some reason) is =
        ap is_refusal (would.refused reason is) ∙ ap (λ (one : Option BadBytes). is_some one || is_some why) (sym is)
    by None is =
        let spelled = takes version bytes has.1.core.range.version are is in
        ap is_refusal (would.comes message (version_at version bytes) spelled meaning has.0 has.1)
        ∙ verdict_told endpoint.core.settings endpoint.core.table meaning endpoint.core.me has.0 message why
        ∙ ap (λ (one : Option BadBytes). is_some one || is_some why) (sym is)

-- so of the node of a job
pub refuses_told : (endpoint : EndpointState) (bytes : List ℕ) (answer : Delivered) (job : JobState) (rank : ℕ)
    → IsBytes bytes → WouldDeliver endpoint bytes answer → IsEndpointAt job rank endpoint
    → is_refusal answer ≡ refuses_at job rank bytes
refuses_told endpoint bytes answer job rank are would at =
    let meaning = script_meaning (handlers_of job) in
    let table = (registry_of (handlers_of job)).table in
    told_refused meaning endpoint bytes answer at.record_ are would
    ∙ ap (λ (settings : Parameters). is_refused (job_of settings endpoint.core.table meaning) endpoint.core.me bytes)
    at.node.settings_are
    ∙ ap (λ (one : List (Option TableEntry)). is_refused (job_of job.settings one meaning) endpoint.core.me bytes)
    at.node.table_is
    ∙ ap (λ (me : ℕ). is_refused (job_of job.settings table meaning) me bytes) at.node.me_is

-- ---- entries

-- an entry whose bytes are refused
pub entry_refused : (job : JobState) (rank : ℕ) (entry : Entry) → refuses_got job rank entry.got ≡ true
    → record entry { got = None } ≡ accepted_entry (script_job job).job rank entry
entry_refused job rank entry is = ap (λ (got : Option (List ℕ)). record entry { got = got }) (by entry.got is)
  where
    by : (got : Option (List ℕ)) → refuses_got job rank got ≡ true → None ≡ unless_refused_got (script_job job).job rank got
    by None is = refl
    by (Some bytes) is = ap (λ (refused : Bool). if refused then None else Some bytes) (sym is)

-- another one
pub entry_kept : (job : JobState) (rank : ℕ) (entry : Entry) → refuses_got job rank entry.got ≡ false
    → entry ≡ accepted_entry (script_job job).job rank entry
entry_kept job rank entry is = ap (λ (got : Option (List ℕ)). record entry { got = got }) (by entry.got is)
  where
    by : (got : Option (List ℕ)) → refuses_got job rank got ≡ false → got ≡ unless_refused_got (script_job job).job rank got
    by None is = refl
    by (Some bytes) is = ap (λ (refused : Bool). if refused then None else Some bytes) (sym is)

-- what holds of a result that is a list holds of one that is the same
pub ok_same : {X E : Type 0} (result : Result X E) {copy wanted : X} → IfOk result (λ x. x ≡ copy) → copy ≡ wanted
    → IfOk result (λ x. x ≡ wanted)
ok_same (Ok x) is same = is ∙ same
ok_same (Err e) is same = tt

-- the entries before one, and that one
with_next : (entries : List Entry) (index : ℕ) (entry : Entry) → index < length entries
    → entry ≡ get_or entries index entry → take (index + 1) entries ≡ take index entries ++ entry ∷ []
with_next entries index entry low is =
    take_more entries index entry low ∙ ap (λ (one : Entry). take index entries ++ one ∷ []) (sym is)

-- one more is copied
pub entries_more : (job : JobState) (rank : ℕ) (entries : List Entry) (index : ℕ) (entry : Entry)
    → index < length entries → entry ≡ get_or entries index entry → (made : List Entry) (one : Entry)
    → made ≡ accepted_entries job rank (take index entries) → one ≡ accepted_entry (script_job job).job rank entry
    → made ++ one ∷ [] ≡ accepted_entries job rank (take (index + 1) entries)
entries_more job rank entries index entry low is made one so_far last =
    ap₂ (λ (prefix : List Entry) (back : Entry). prefix ++ back ∷ []) so_far last
    ∙ sym (map-append (accepted_entry (script_job job).job rank) (take index entries) (entry ∷ []))
    ∙ ap (accepted_entries job rank) (sym (with_next entries index entry low is))

-- ---- how many are refused

-- one entry more
refused_more : (job : JobState) (rank : ℕ) (entries : List Entry) (index : ℕ) (entry : Entry)
    → index < length entries → entry ≡ get_or entries index entry
    → refused_turns job rank (take (index + 1) entries)
    ≡ (if refuses_got job rank entry.got then refused_turns job rank (take index entries) + 1
    else refused_turns job rank (take index entries))
refused_more job rank entries index entry low is =
    ap (refused_turns job rank) (with_next entries index entry low is) ∙ last (take index entries)
  where
    either : (first other : Bool) (more count : ℕ) → more ≡ (if other then count + 1 else count)
        → (if first then more + 1 else more)
        ≡ (if other then (if first then count + 1 else count) + 1 else (if first then count + 1 else count))
    either true true more count is = ap (λ (n : ℕ). n + 1) is
    either true false more count is = ap (λ (n : ℕ). n + 1) is
    either false true more count is = is
    either false false more count is = is

    last : (prefix : List Entry) → refused_turns job rank (prefix ++ entry ∷ [])
        ≡ (if refuses_got job rank entry.got then refused_turns job rank prefix + 1 else refused_turns job rank prefix)
    last [] = refl
    last (first ∷ prefix) =
        either (refuses_got job rank first.got) (refuses_got job rank entry.got) _ _ (last prefix)

pub counted : (job : JobState) (rank : ℕ) (entries : List Entry) (index : ℕ) (entry : Entry)
    → index < length entries → entry ≡ get_or entries index entry → (turns : ℕ)
    → turns ≡ refused_turns job rank (take index entries) → refuses_got job rank entry.got ≡ true
    → turns + 1 ≡ refused_turns job rank (take (index + 1) entries)
counted job rank entries index entry low is turns so_far refused =
    let before = refused_turns job rank (take index entries) in
    ap (λ (n : ℕ). n + 1) so_far
    ∙ ap (λ (one : Bool). if one then before + 1 else before) (sym refused)
    ∙ sym (refused_more job rank entries index entry low is)

pub uncounted : (job : JobState) (rank : ℕ) (entries : List Entry) (index : ℕ) (entry : Entry)
    → index < length entries → entry ≡ get_or entries index entry → (turns : ℕ)
    → turns ≡ refused_turns job rank (take index entries) → refuses_got job rank entry.got ≡ false
    → turns ≡ refused_turns job rank (take (index + 1) entries)
uncounted job rank entries index entry low is turns so_far fine =
    let before = refused_turns job rank (take index entries) in
    so_far
    ∙ ap (λ (one : Bool). if one then before + 1 else before) (sym fine)
    ∙ sym (refused_more job rank entries index entry low is)

-- where none is, they stay as they are
none_refused : (job : JobState) (rank : ℕ) (entries : List Entry) → refused_turns job rank entries ≡ 0
    → accepted_entries job rank entries ≡ entries
none_refused job rank [] none = refl
none_refused job rank (entry ∷ entries) none =
    by (refuses_got job rank entry.got) refl none (none_refused job rank entries)
  where
    by : (refused : Bool) → refuses_got job rank entry.got ≡ refused
        → (if refused then refused_turns job rank entries + 1 else refused_turns job rank entries) ≡ 0
        → (refused_turns job rank entries ≡ 0 → accepted_entries job rank entries ≡ entries)
        → accepted_entries job rank (entry ∷ entries) ≡ entry ∷ entries
    by true is some rest = absurd (omega (arith, some))
    by false is none rest =
        ap₂ (λ (first : Entry) (others : List Entry). first ∷ others) (sym (entry_kept job rank entry is)) (rest none)

-- so in a trace, as its entries are seen in a slice
pub untouched : (job : JobState) (rank : ℕ) (entries shown : List Entry) → shown ≡ entries
    → refused_turns job rank shown ≡ 0 → entries ≡ accepted_entries job rank entries
untouched job rank entries shown same none =
    sym (none_refused job rank entries (ap (refused_turns job rank) (sym same) ∙ none))

-- ---- recorders

-- the endpoint of a recorder that stands for the opening of a node
pub endpoint_at : (job : JobState) (rank : ℕ) (kept : RecorderKept) (endpoint : EndpointState)
    → endpoint ≡ kept.node.endpoint
    → IsNodeOf kept.node.job.settings (registry_of (handlers_of kept.node.job)).table endpoint.core.me endpoint
    → RecorderStands kept (opening_record job rank) → IsEndpointAt job rank endpoint
endpoint_at job rank kept endpoint same node stands = record {
  node = subst (λ (me : ℕ). IsNodeOf job.settings (registry_of (handlers_of job)).table me endpoint)
      (ap (λ (one : EndpointState). one.core.me) same ∙ sym stands.node.me_is)
      (subst (λ (one : JobState). IsNodeOf one.settings (registry_of (handlers_of one)).table endpoint.core.me endpoint)
      (sym stands.node.job_is) node);
  record_ = subst HasRecord (sym same) (_, stands.node.node);
}

-- ---- traces

pub length-rejected : (job : JobState) (rank : ℕ) (traces : List Trace)
    → length (accepted_from job rank traces) ≡ length traces
length-rejected job rank [] = refl
length-rejected job rank (trace ∷ traces) = ap suc (length-rejected job (rank + 1) traces)

-- one trace more
accepted_more : (job : JobState) (rank : ℕ) (traces : List Trace) (trace : Trace)
    → accepted_from job rank (traces ++ trace ∷ [])
    ≡ accepted_from job rank traces ++ accepted_trace job (rank + length traces) trace ∷ []
accepted_more job rank [] trace =
    ap (λ (at : ℕ). accepted_trace job at trace ∷ []) (omega arith)
accepted_more job rank (first ∷ traces) trace =
    ap (λ (rest : List Trace). accepted_trace job rank first ∷ rest)
    (accepted_more job (rank + 1) traces trace
    ∙ ap (λ (at : ℕ). accepted_from job (rank + 1) traces ++ accepted_trace job at trace ∷ []) (omega arith))

-- one more of all
pub accepted_last : (job : JobState) (traces : List Trace) (trace : Trace)
    → accepted_traces job (traces ++ trace ∷ [])
    ≡ accepted_traces job traces ++ accepted_trace job (length traces) trace ∷ []
accepted_last job traces trace =
    accepted_more job 0 traces trace
    ∙ ap (λ (at : ℕ). accepted_from job 0 traces ++ accepted_trace job at trace ∷ []) (omega arith)

-- the trace of a rank
pub accepted_at : (job : JobState) (rank : ℕ) (traces : List Trace) (place : ℕ)
    → slice_get (accepted_from job rank traces) place
    ≡ option_map (accepted_trace job (rank + place)) (slice_get traces place)
accepted_at job rank [] place = refl
accepted_at job rank (trace ∷ traces) zero =
    ap (λ (at : ℕ). Some (accepted_trace job at trace)) (omega arith)
accepted_at job rank (trace ∷ traces) (suc place) =
    accepted_at job (rank + 1) traces place
    ∙ ap (λ (at : ℕ). option_map (accepted_trace job at) (slice_get traces place)) (omega arith)

-- they are traces of the job's nodes too
pub trace_of : (job : JobState) (rank : ℕ) (trace : Trace) → IsTraceOf job trace → IsTraceOf job (accepted_trace job rank trace)
trace_of job rank trace is = record {
  threads = All-map (λ (entry : Entry). entry.thread < job.settings.threads) (accepted_entry (script_job job).job rank)
      trace.entries is.threads;
  few = subst (λ (count : ℕ). count < 2 ^ 32)
      (sym (length-map trace.entries (accepted_entry (script_job job).job rank))) is.few;
}

pub traces_of_job : (job : JobState) (rank : ℕ) (traces : List Trace) → All (IsTraceOf job) traces
    → All (IsTraceOf job) (accepted_from job rank traces)
traces_of_job job rank [] are = All-nil (IsTraceOf job)
traces_of_job job rank (trace ∷ traces) are =
    All-cons (IsTraceOf job) (accepted_trace job rank trace) (accepted_from job (rank + 1) traces)
    (trace_of job rank trace (All-head (IsTraceOf job) trace traces are))
    (traces_of_job job (rank + 1) traces (All-tail (IsTraceOf job) trace traces are))

-- ---- nodes

-- a trace and the rejected one leave the node one record
last_same : (job : JobState) (rank : ℕ) (entries : List Entry)
    → last_record job rank (accepted_entries job rank entries) ≡ last_record job rank entries
last_same job rank entries =
    let first = first_machine job rank in
    sym (replay_same (script_job job) rank first first entries (record { node = refl; own = refl })).after.node

-- the nodes that rejected traces leave are those that the traces leave
pub unrejected : (job : JobState) (traces : List Trace) (endpoints : List EndpointState)
    → AreNodesAfter job (accepted_traces job traces) endpoints → AreNodesAfter job traces endpoints
unrejected job traces endpoints nodes = record {
  count = nodes.count ∙ length-rejected job 0 traces;
  each = λ rank endpoint there.
      by rank endpoint (slice_get traces rank)
      (subst (λ (found : Option Trace). IsSomeAnd found (λ trace. IsNodeAfter job rank trace endpoint))
      (accepted_at job 0 traces rank ∙ ap (λ (at : ℕ). option_map (accepted_trace job at) (slice_get traces rank))
      (omega arith)) (nodes.each rank endpoint there));
}
  where
    by : (rank : ℕ) (endpoint : EndpointState) (found : Option Trace)
        → IsSomeAnd (option_map (accepted_trace job rank) found) (λ trace. IsNodeAfter job rank trace endpoint)
        → IsSomeAnd found (λ trace. IsNodeAfter job rank trace endpoint)
    by rank endpoint None after = after
    by rank endpoint (Some trace) after = record {
      node = after.node;
      stands = subst (EndpointStands endpoint) (last_same job rank trace.entries) after.stands;
    }
