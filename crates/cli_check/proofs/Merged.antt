-- What a merge of the recorders of a job's nodes says of their traces.
use Rattle.std.proofs.Common.{◌≡◌, ℕ, zero, suc, ◌+◌, ◌<◌, ◌≤◌, List, [], ◌∷◌, ◌++◌, length, map, take, drop, Option}
use Rattle.std.proofs.Common.{Some, None}
use Rattle.std.proofs.Common.{refl, sym, ap, subst, ◌∙◌, arith, slice_get, slice_index, IsSomeAnd, take_all}
use Rattle.std.specs.Prelude.{All, Result, Ok, Err, Vec}
use Rattle.std.specs.Global.{Global}
use Rattle.std.specs.Result.{IsErrOf}
use Rattle.std.specs.Option.{option_map}
use Rattle.std.proofs.lemmas.List.{append-nil, drop_all, length-map}
use Rattle.std.proofs.lemmas.Option.{get_or_from_slice_get, same_Some, slice_get-map, slice_get_within}
use Rattle.node_endpoint.specs.EndpointState.{EndpointState, IsNodeOf}
use Rattle.text_trace.specs.Merged.{AreReplays, HaveThreads, IsFirstLeft, IsOrder, Merges, StandFor, nodes_of}
use Rattle.text_trace.specs.declared.merging.MergeFault.{MergeFault}
use Rattle.text_trace.specs.declared.merging.MergeFault.TheVariants as faults
use Rattle.text_trace.specs.declared.trace.Placed.{Placed}
use Rattle.text_trace.specs.declared.trace.Trace.{Trace}
use Rattle.text_job.specs.JobText.{IsJob}
use Rattle.text_job.specs.declared.job.Job.{Job as JobState}
use Rattle.base_turns.specs.declared.turns.Machine.{Ghosts}
use Rattle.base_turns.specs.Prefixes.{Node, IsRun, IsStuck, Reaches, full, replay}
use Rattle.base_turns.specs.Replay.{replay_state}
use Rattle.proc_machine.specs.Kept.{are_done, polls_at}
use Rattle.proc_machine.specs.Laws.{AreTracesARun}
use Rattle.proc_machine.specs.NodeState.{NodeState, polls_in, scripts_at, sent_datagrams, state_of, state_steps, turn_result}
use Rattle.law_traces.specs.Merged.{with_machine_of, nodes_from}
use Rattle.law_traces.proofs.Carrying.{full_same}
use Rattle.law_traces.specs.WorldRun.{opening_machines}
use Rattle.text_script.specs.Registration.{handlers_of, registry_of}
use Rattle.cli_check.specs.CheckInputs.{IsTraceOf}
use Rattle.cli_check.specs.Merging.{AreFirstRecorders, AreReports, ClosesAll, IsMerged, IsReportOf, MergesTraces}
use Rattle.cli_check.specs.Recording.{RecordedState, RecorderKept, RecorderStands, opening_record, record_after}
use Rattle.cli_check.specs.Recording.{record_steps}
use Rattle.cli_check.specs.TracesRun.{AreNoRun, AreNodesAfter, IsNodeAfter, RunOfTraces, entries_of, first_nodes}
use Rattle.cli_check.specs.declared.machines.RunReport.{RunReport}
use Rattle.cli_check.specs.declared.recorder.NodeReport.{NodeReport}
use Rattle.cli_check.proofs.StepLaws.{lines_tell}
use Rattle.cli_check.proofs.Prefixes.{full_at, is_first_left, is_run_back, is_stuck, node_in, nodes_in, reaches, some_same}
use Rattle.cli_check.proofs.Replays.{last_state, replays_first}

-- recorders, as machines
abbrev pub recorders : Ghosts RecorderKept
recorders = record {
  State = RecordedState;
  stands = RecorderStands;
  thread_count = λ kept. kept.node.job.settings.threads;
  polls_at = λ kept. polls_at kept.node;
  is_over = λ kept. are_done kept.node.scripts;
  polls_in = λ state. polls_in state.node;
  after = record_after;
  turned = λ state. turn_result state.node;
  sent = λ state. sent_datagrams state.node;
}

pub All-at : {A : Type 0} (P : A → Type 0) (xs : List A) (k : ℕ) (x : A) → All P xs → slice_get xs k ≡ Some x → P x
All-at P xs k x all there =
    subst P (get_or_from_slice_get xs k x x there) (all k x (slice_get_within xs k x there))

-- ---- before the merge

-- the states of the nodes from this rank on before all turns
abbrev pub states_from : JobState → (rank count : ℕ) → List RecordedState
states_from job rank zero = []
states_from job rank (suc count) = opening_record job rank ∷ states_from job (rank + 1) count

-- the nodes before all turns, each with its trace
abbrev pub nodes_before : JobState → (rank : ℕ) → List Trace → List (Node RecordedState)
nodes_before job rank traces = nodes_of (states_from job rank (length traces)) traces

-- the recorders stand for them
stand_from : (job : JobState) (rank : ℕ) (all : List RecorderKept)
    → ((place : ℕ) (one : RecorderKept) → slice_get all place ≡ Some one
    → RecorderStands one (opening_record job (rank + place)))
    → StandFor recorders all (states_from job rank (length all))
stand_from job rank [] stand = tt
stand_from job rank (one ∷ all) stand =
    let here : rank + 0 ≡ rank = omega arith in (
      subst (λ n. RecorderStands one (opening_record job n)) here (stand 0 one refl),
      stand_from job (rank + 1) all (λ place other there.
          let same : rank + suc place ≡ (rank + 1) + place = omega arith in
          subst (λ n. RecorderStands other (opening_record job n)) same (stand (suc place) other there)),
    )

pub first_stand : (job : JobState) (traces : List Trace) (all : List RecorderKept) → AreFirstRecorders job all
    → length traces ≡ length all → StandFor recorders all (states_from job 0 (length traces))
first_stand job traces all first count =
    subst (λ n. StandFor recorders all (states_from job 0 n)) (sym count)
    (stand_from job 0 all (λ place one there.
    let same : place ≡ 0 + place = omega arith in
    subst (λ n. RecorderStands one (opening_record job n)) same (first.each place one there)))

-- each entry is of a thread of its machine
pub first_threads : (job : JobState) (all : List RecorderKept) (traces : List Trace)
    → AreFirstRecorders job all → All (IsTraceOf job) traces → HaveThreads recorders all traces
first_threads job all traces first are place one there trace at =
    let is : IsTraceOf job trace = All-at (IsTraceOf job) traces place trace are at in
    let own : job ≡ one.node.job = (first.each place one there).node.job_is in
    subst (λ (its : JobState). All (λ entry. entry.thread < its.settings.threads) trace.entries) own is.threads

-- the nodes that they record are those of the job
nodes_same : (job : JobState) (rank : ℕ) (traces : List Trace)
    → nodes_in (nodes_before job rank traces)
    ≡ map (with_machine_of (state_of job))
    (nodes_from (opening_machines job.settings (scripts_at job)) rank (entries_of traces))
nodes_same job rank [] = refl
nodes_same job rank (trace ∷ traces) =
    ap (λ rest. with_machine_of node_in (record { state = opening_record job rank; entries = trace.entries }) ∷ rest)
    (nodes_same job (rank + 1) traces)

pub first_same : (job : JobState) (traces : List Trace) → nodes_in (nodes_before job 0 traces) ≡ first_nodes job traces
first_same job traces = nodes_same job 0 traces

-- the node of a rank
before_at : (job : JobState) (rank : ℕ) (traces : List Trace) (place : ℕ) (trace : Trace)
    → slice_get traces place ≡ Some trace
    → slice_get (nodes_before job rank traces) place
    ≡ Some (record { state = opening_record job (rank + place); entries = trace.entries })
before_at job rank [] place trace there = absurd (cc)
before_at job rank (first ∷ traces) zero trace there =
    let here : rank ≡ rank + 0 = omega arith in
    ap (λ (it : Trace). Some (record { state = opening_record job rank; entries = it.entries }))
    (same_Some first trace there)
    ∙ ap (λ n. Some (record { state = opening_record job n; entries = trace.entries })) here
before_at job rank (first ∷ traces) (suc place) trace there =
    let same : (rank + 1) + place ≡ rank + suc place = omega arith in
    before_at job (rank + 1) traces place trace there
    ∙ ap (λ n. Some (record { state = opening_record job n; entries = trace.entries })) same

-- there is none past the traces
before_none : (job : JobState) (rank : ℕ) (traces : List Trace) (place : ℕ) → slice_get traces place ≡ None
    → slice_get (nodes_before job rank traces) place ≡ None
before_none job rank [] place there = refl
before_none job rank (first ∷ traces) zero there = absurd (cc)
before_none job rank (first ∷ traces) (suc place) there = before_none job (rank + 1) traces place there

-- what a merge that came to a prefix answers, where the code's recorders stand for these nodes
abbrev pub Prefixes : (all : List RecorderKept) (traces : List Trace) → (then_ : List RecorderKept)
    → Result (Vec Placed Global) MergeFault → Type 0
Prefixes all traces then_ answer =
    (prefix : List ℕ) × ((states : List RecordedState) → StandFor recorders all states
    → Merges recorders (nodes_of states traces) prefix answer then_)

-- what holds where it answers that there is no run
abbrev pub HasNoRun : (all : List RecorderKept) (traces : List Trace) → Result (Vec Placed Global) MergeFault
    → Type 0
HasNoRun all traces answer =
    (states : List RecordedState) → StandFor recorders all states → (node entry : ℕ)
    → IsErrOf answer (faults.NotARun node entry) → IsRun record_steps (nodes_of states traces) → ⊥

-- what is made of the one list is what is made of the other
mapped : {A B C : Type 0} (f : A → C) (g : B → C) (xs : List A) (ys : List B) (k : ℕ) (x : A) → map f xs ≡ map g ys
    → slice_get xs k ≡ Some x → Some (f x) ≡ option_map g (slice_get ys k)
mapped f g xs ys k x same there =
    sym (slice_get-map f xs k ∙ ap (option_map f) there) ∙ ap (λ all. slice_get all k) same ∙ slice_get-map g ys k

-- ---- after it

-- an order of the entries is a run
pub order_run : AreTracesARun → (job : JobState) (traces : List Trace) (prefix : List ℕ) (placed : List Placed)
    → IsJob job → length traces ≤ job.settings.nodes
    → IsOrder record_steps (nodes_before job 0 traces) prefix placed → RunOfTraces job traces
order_run law job traces prefix placed is few order =
    let before = nodes_before job 0 traces in
    let all : Reaches record_steps before order.nodes (full before) =
    subst (Reaches record_steps before order.nodes) order.all order.reached in
    let reached : Reaches state_steps (nodes_in before) order.nodes (full (nodes_in before)) =
    subst (Reaches state_steps (nodes_in before) order.nodes) (sym (full_same node_in before))
    (reaches before order.nodes (full before) all) in
    let own : Reaches state_steps (first_nodes job traces) order.nodes (full (first_nodes job traces)) =
    subst (λ (nodes : List (Node _)). Reaches state_steps nodes order.nodes (full nodes)) (first_same job traces)
    reached in
    let count = length-map traces (λ (trace : Trace). trace.entries) in
    let run = law job (entries_of traces) order.nodes is (omega (arith, count)) own in
    record {
      ranks = order.nodes;
      reached = own;
      turns = run.0;
      run = run.1;
      own = run.2;
      lines = lines_tell job traces order.nodes run.0 run.1 run.2;
    }

-- what the recorder of a rank stands for, by its trace
stands_after : (job : JobState) (traces : List Trace) (then_ : List RecorderKept) (rank : ℕ) (kept : RecorderKept)
    → AreReplays recorders (nodes_before job 0 traces) (full (nodes_before job 0 traces)) then_
    → slice_get then_ rank ≡ Some kept
    → IsSomeAnd (slice_get traces rank) (λ trace. RecorderStands kept (last_state job rank trace.entries))
stands_after job traces then_ rank kept replays there = by_trace (slice_get traces rank) refl
  where
    before : List (Node RecordedState)
    before = nodes_before job 0 traces

    Stands : Option (Node RecordedState) → Type 0
    Stands found =
        IsSomeAnd found (λ one. RecorderStands kept (replay record_steps one (slice_index (full before) rank)))

    by_trace : (found : Option Trace) → slice_get traces rank ≡ found
        → IsSomeAnd found (λ trace. RecorderStands kept (last_state job rank trace.entries))
    by_trace None none = subst Stands (before_none job 0 traces rank none) (replays rank kept there)
    by_trace (Some trace) some =
        let own = before_at job 0 traces rank trace some in
        let last = full_at before rank _ own in
        let all : take (slice_index (full before) rank) trace.entries ≡ trace.entries =
        take_all (slice_index (full before) rank) trace.entries (omega arith) in
        let same : 0 + rank ≡ rank = omega arith in
        subst (RecorderStands kept)
        (ap (replay_state record_steps (opening_record job (0 + rank))) all
        ∙ ap (λ n. replay_state record_steps (opening_record job n) trace.entries) same
        ∙ replays_first job rank trace.entries) (subst Stands own (replays rank kept there))

module _ (job : JobState) (traces : List Trace) (then_ : List RecorderKept) (all : RunReport)
    (replays : AreReplays recorders (nodes_before job 0 traces) (full (nodes_before job 0 traces)) then_)
    (count : length then_ ≡ length traces) (closes : ClosesAll then_ all) where
  -- the node of a rank
  node_after : (rank : ℕ) (endpoint : EndpointState) (found : Option RecorderKept) → slice_get then_ rank ≡ found
      → option_map (λ (kept : RecorderKept). kept.node.endpoint) found ≡ Some endpoint
      → IsSomeAnd (slice_get traces rank) (λ trace. IsNodeAfter job rank trace endpoint)
  node_after rank endpoint None at same = absurd (cc)
  node_after rank endpoint (Some kept) at same =
      some_same _ _ (slice_get traces rank) (λ trace stands.
      subst (IsNodeAfter job rank trace) (same_Some kept.node.endpoint endpoint same) (record {
        node = subst (λ (me : ℕ). IsNodeOf job.settings (registry_of (handlers_of job)).table me kept.node.endpoint)
            (sym stands.node.me_is)
            (subst (λ (one : JobState). IsNodeOf one.settings (registry_of (handlers_of one)).table
            kept.node.endpoint.core.me kept.node.endpoint) (sym stands.node.job_is) (closes.each rank kept at).own);
        stands = stands.node.node;
      })) (stands_after job traces then_ rank kept replays at)

  -- all of them
  nodes_after : AreNodesAfter job traces all.nodes.items
  nodes_after = record {
    count = ap length closes.nodes ∙ length-map then_ (λ (kept : RecorderKept). kept.node.endpoint) ∙ count;
    each = λ rank endpoint there.
        node_after rank endpoint (slice_get then_ rank) refl
        (sym (slice_get-map (λ (kept : RecorderKept). kept.node.endpoint) then_ rank)
        ∙ ap (λ (nodes : List EndpointState). slice_get nodes rank) (sym closes.nodes) ∙ there);
  }

  -- what was recorded of the node of a rank
  report_after : (rank : ℕ) (report : NodeReport) (found : Option RecorderKept) → slice_get then_ rank ≡ found
      → Some report.text.taken ≡ option_map (λ (kept : RecorderKept). kept.text) found
      → Some report.most ≡ option_map (λ (kept : RecorderKept). kept.most) found
      → IsSomeAnd (slice_get traces rank) (λ trace. IsReportOf job rank trace report)
  report_after rank report None at text most = absurd (cc)
  report_after rank report (Some kept) at text most =
      some_same _ _ (slice_get traces rank) (λ trace stands. record {
        text_is = same_Some report.text.taken kept.text text ∙ stands.text_is (closes.each rank kept at).whole;
        most_is = same_Some report.most kept.most most ∙ stands.most_is;
      }) (stands_after job traces then_ rank kept replays at)

  -- of each of them
  reports_after : AreReports job traces all.reports.items
  reports_after = record {
    count = sym (length-map all.reports.items (λ (report : NodeReport). report.most)) ∙ ap length closes.most
        ∙ length-map then_ (λ (kept : RecorderKept). kept.most) ∙ count;
    each = λ rank report there.
        report_after rank report (slice_get then_ rank) refl
        (mapped (λ (one : NodeReport). one.text.taken) (λ (kept : RecorderKept). kept.text) all.reports.items then_ rank
        report closes.texts there)
        (mapped (λ (one : NodeReport). one.most) (λ (kept : RecorderKept). kept.most) all.reports.items then_ rank
        report closes.most there);
  }

-- the list of the recorders, after all of its slice was written
pub refilled_all : (len : ℕ) (old new : List RecorderKept) → len ≡ length old → length new ≡ length old
    → take len (new ++ drop (length new) old) ≡ new
refilled_all len old new same as_many =
    ap (λ (rest : List RecorderKept). take len (new ++ rest)) (drop_all (length new) old (omega arith))
    ∙ ap (take len) (append-nil new) ∙ take_all len new (omega arith)

-- ---- what is answered

-- they are a run
pub merged_run : AreTracesARun → (job : JobState) (traces : List Trace) (first then_ : List RecorderKept)
    (placed : Vec Placed Global) (all : RunReport) → IsJob job → length traces ≡ job.settings.nodes
    → AreFirstRecorders job first → Prefixes first traces then_ (Ok placed) → length then_ ≡ length first
    → ClosesAll then_ all → IsMerged job traces all
merged_run law job traces first then_ placed all is count are prefix kept closes =
    let same : length traces ≡ length first = omega (arith, count, are.count) in
    let merges = prefix.1 (states_from job 0 (length traces)) (first_stand job traces first are same) in
    let replays = subst (λ (at : List ℕ). AreReplays recorders (nodes_before job 0 traces) at then_) merges.answers.all
    merges.replays in
    let as_many : length then_ ≡ length traces = omega (arith, kept, same) in
    record {
      run = order_run law job traces prefix.0 placed.items is (omega (arith, count)) merges.answers;
      nodes_after = nodes_after job traces then_ all replays as_many closes;
      reports = reports_after job traces then_ all replays as_many closes;
    }

-- they are none
merged_none : (job : JobState) (traces : List Trace) (first then_ : List RecorderKept) (node entry : ℕ)
    → length traces ≡ job.settings.nodes → AreFirstRecorders job first
    → Prefixes first traces then_ (Err (faults.NotARun node entry))
    → ((states : List RecordedState) → StandFor recorders first states
    → IsRun record_steps (nodes_of states traces) → ⊥)
    → AreNoRun job traces node entry
merged_none job traces first then_ node entry count are prefix none =
    let same : length traces ≡ length first = omega (arith, count, are.count) in
    let before = nodes_before job 0 traces in
    let stand = first_stand job traces first are same in
    let answers = (prefix.1 (states_from job 0 (length traces)) stand).answers in
    let own = first_same job traces in
    record {
      prefix = prefix.0;
      stuck = subst (λ (nodes : List (Node NodeState)). IsStuck state_steps nodes prefix.0) own
          (is_stuck before prefix.0 answers.0);
      first = subst (λ (nodes : List (Node NodeState)). IsFirstLeft nodes prefix.0 node) own
          (is_first_left before prefix.0 node answers.1);
      entry_is = answers.2;
      none = λ run. none (states_from job 0 (length traces)) stand
          (is_run_back before (subst (IsRun state_steps) (sym own) run));
    }

-- so of either
pub merged_err : (job : JobState) (traces : List Trace) (first then_ : List RecorderKept) (fault : MergeFault)
    → length traces ≡ job.settings.nodes → AreFirstRecorders job first → Prefixes first traces then_ (Err fault)
    → HasNoRun first traces (Err fault) → MergesTraces job traces (Err fault)
merged_err job traces first then_ (faults.NotARun node entry) count are prefix none =
    merged_none job traces first then_ node entry count are prefix
    (λ states stand run. none states stand node entry refl run)
merged_err job traces first then_ faults.NoMemory count are prefix none = tt
