-- What is written of nodes at the end of a run of traces.
use Rattle.std.proofs.Common.{◌≡◌, ℕ, suc, ◌+◌, ◌<◌, ◌≤◌, true, false, not, ◌==◌, ◌||◌, List, [], ◌∷◌, ◌++◌}
use Rattle.std.proofs.Common.{length, drop, Option, Some, refl, sym, ap, ap₂, subst, ◌∙◌, arith, slice_get, IsSomeAnd}
use Rattle.std.proofs.Common.{drop-cons, add-one, get_or}
use Rattle.std.proofs.lemmas.Bool.{cases_eq}
use Rattle.std.proofs.lemmas.List.{drop_all}
use Rattle.std.proofs.lemmas.List.Concat.{flat_map-append}
use Rattle.std.proofs.lemmas.Option.{get_or_from_slice_get, same_Some, slice_get_cases, slice_get_read, slice_get_within}
use Rattle.std.proofs.Common.{inl, inr}
use Rattle.wire_message.specs.Parameters.{Parameters}
use Rattle.node_endpoint.specs.EndpointState.{EndpointState, ForItsRecord}
use Rattle.base_io.specs.Buffered.{Outbox, GathersAll, GathersPrefix, GathersUpTo}
use Rattle.base_io.specs.declared.writing.Wrote.{Wrote}
use Rattle.base_io.specs.declared.writing.Wrote.TheVariants as wrote
use Rattle.base_io.proofs.Outboxes.{past_done, past_fault}
use Rattle.text_trace.specs.declared.output.Output.{Output}
use Rattle.text_trace.specs.declared.trace.Trace.{Trace}
use Rattle.text_job.specs.declared.job.Job.{Job as JobState}
use Rattle.base_text.specs.LineTexts.{line_text, spell}
use Rattle.sim_run.specs.RunText.{lines_of_node, violations}
use Rattle.cli_check.specs.Merging.{AreReports, IsReportOf, texts_of}
use Rattle.cli_check.specs.Statuses.{AreOver, is_over}
use Rattle.cli_check.specs.StepLines.{end_lines, ends_from, is_violated, is_violated_from, step_lines, steps_from}
use Rattle.cli_check.specs.Machines.{first_machine, last_record}
use Rattle.cli_check.specs.TracesRun.{AreNodesAfter, AreRanked, IsNodeAfter}
use Rattle.cli_check.specs.declared.recorder.NodeReport.{NodeReport}
use Rattle.cli_check.proofs.Prefixes.{some_from}

-- ---- how nodes ended

pub over_more : (outputs : List Output) (rank : ℕ) (output : Output) → slice_get outputs rank ≡ Some output
    → is_over output.status ≡ true
    → ((place : ℕ) → place < rank → (one : Output) → slice_get outputs place ≡ Some one → is_over one.status ≡ true)
    → (place : ℕ) → place < rank + 1 → (one : Output) → slice_get outputs place ≡ Some one → is_over one.status ≡ true
over_more outputs rank output there over before place low one at = elim (cases_eq place rank) [
  | inl same ↦
      let is : output ≡ one =
      same_Some output one (sym there ∙ ap (λ n. slice_get outputs n) (sym same) ∙ at) in
      subst (λ (it : Output). is_over it.status ≡ true) is over
  | inr apart ↦ before place (omega arith) one at
]

pub over_all : (outputs : List Output) (rank : ℕ) → length outputs ≤ rank
    → ((place : ℕ) → place < rank → (one : Output) → slice_get outputs place ≡ Some one → is_over one.status ≡ true)
    → AreOver outputs
over_all outputs rank all over = λ place default inside. elim (slice_get_cases outputs place).1 [
  | inl found ↦
      subst (λ (it : Output). is_over it.status ≡ true)
      (sym (get_or_from_slice_get outputs place found.0 default found.2))
      (over place (omega arith) found.0 found.2)
  | inr past ↦ let none = past.0 in absurd (omega arith)
]

-- ---- the nodes of a run

-- the next one
pub next_is : {A : Type 0} (all : List A) (place : ℕ) (one : A) → slice_get all place ≡ Some one
    → drop place all ≡ one ∷ drop (place + 1) all
next_is all place one there =
    drop-cons all place one (slice_get_within all place one there)
    ∙ ap (λ it. it ∷ drop (suc place) all) (get_or_from_slice_get all place one one there)
    ∙ ap (λ (n : ℕ). one ∷ drop n all) (sym (add-one place))

-- the node of a rank
pub node_of : (job : JobState) (traces : List Trace) (endpoints : List EndpointState) (rank : ℕ)
    (endpoint : EndpointState) → AreNodesAfter job traces endpoints → slice_get endpoints rank ≡ Some endpoint
    → (trace : Trace) × (slice_get traces rank ≡ Some trace) × IsNodeAfter job rank trace endpoint
node_of job traces endpoints rank endpoint nodes there =
    some_from (slice_get traces rank) (λ trace. IsNodeAfter job rank trace endpoint) (nodes.each rank endpoint there)

-- each is the node of its place
pub nodes_ranked : (job : JobState) (traces : List Trace) (endpoints : List EndpointState)
    → AreNodesAfter job traces endpoints → AreRanked endpoints
nodes_ranked job traces endpoints nodes rank endpoint there =
    (node_of job traces endpoints rank endpoint nodes there).2.node.me_is

-- what was recorded of it
report_of : (job : JobState) (traces : List Trace) (reports : List NodeReport) (rank : ℕ) (trace : Trace)
    (report : NodeReport) → AreReports job traces reports → slice_get traces rank ≡ Some trace
    → slice_get reports rank ≡ Some report → IsReportOf job rank trace report
report_of job traces reports rank trace report are at there =
    subst (λ (found : Option Trace). IsSomeAnd found (λ one. IsReportOf job rank one report)) at
    (are.each rank report there)

-- ---- one text after the other

-- the next piece of a text was said: what is left of it, or at a fault a prefix went in
abbrev pub SaidUpTo : (start after : Outbox) → (all next : List ℕ) → Wrote → Type 0
SaidUpTo start after all next wrote.Done = GathersUpTo start after all next
SaidUpTo start after all next wrote.Fault = GathersPrefix start after all

pub past_said : (start before after : Outbox) (all piece next rest : List ℕ) (said : Wrote) → rest ≡ piece ++ next
    → GathersUpTo start before all rest → GathersAll before after piece said → SaidUpTo start after all next said
past_said start before after all piece next rest wrote.Done is so_far says =
    past_done start before after all piece next rest is so_far says
past_said start before after all piece next rest wrote.Fault is so_far says =
    past_fault start before after all piece next rest is so_far says

-- ---- the lines of the steps

-- the texts of the nodes from this rank on
texts_from : (job : JobState) (rank : ℕ) (traces : List Trace) (reports : List NodeReport)
    → length reports ≡ length traces
    → ((place : ℕ) (trace : Trace) (report : NodeReport) → slice_get traces place ≡ Some trace
    → slice_get reports place ≡ Some report → IsReportOf job (rank + place) trace report)
    → texts_of reports ≡ spell (steps_from job rank traces)
texts_from job rank [] [] count are = refl
texts_from job rank [] (report ∷ reports) count are = absurd (omega (arith, count))
texts_from job rank (trace ∷ traces) [] count are = absurd (omega (arith, count))
texts_from job rank (trace ∷ traces) (report ∷ reports) count are =
    let Text : ℕ → Type 0 = λ n. report.text.taken ≡ spell (step_lines job n (first_machine job n) trace.entries) in
    let here : rank + 0 ≡ rank = omega arith in
    ap₂ (λ (first rest : List ℕ). first ++ rest) (subst Text here (are 0 trace report refl refl).text_is)
    (texts_from job (rank + 1) traces reports (omega (arith, count)) (λ place other one at there.
    let same : rank + suc place ≡ (rank + 1) + place = omega arith in
    subst (λ n. IsReportOf job n other one) same (are (suc place) other one at there)))
    ∙ sym (flat_map-append line_text (step_lines job rank (first_machine job rank) trace.entries)
    (steps_from job (rank + 1) traces))

pub texts_same : (job : JobState) (traces : List Trace) (reports : List NodeReport) → AreReports job traces reports
    → texts_of reports ≡ spell (steps_from job 0 traces)
texts_same job traces reports are =
    texts_from job 0 traces reports are.count (λ place trace report at there.
    let same : place ≡ 0 + place = omega arith in
    subst (λ n. IsReportOf job n trace report) same (report_of job traces reports place trace report are at there))

-- the text of one node was said behind those of the nodes before it
pub text_said : (reports : List NodeReport) (place : ℕ) (report : NodeReport) (text : List ℕ)
    (start before after : Outbox) (said : Wrote) → place < length reports → report ≡ get_or reports place report
    → text ≡ report.text.taken → GathersUpTo start before (texts_of reports) (texts_of (drop place reports))
    → GathersAll before after text said
    → SaidUpTo start after (texts_of reports) (texts_of (drop (place + 1) reports)) said
text_said reports place report text start before after said inside is own so_far says =
    let there = slice_get_read reports (length reports) place report refl inside is in
    past_said start before after (texts_of reports) text (texts_of (drop (place + 1) reports))
    (texts_of (drop place reports)) said
    (ap texts_of (next_is reports place report there)
    ∙ ap (λ (bytes : List ℕ). bytes ++ texts_of (drop (place + 1) reports)) (sym own)) so_far says

-- ---- the lines at the end

-- the lines of one node, and of the others
next_ends : (job : JobState) (traces : List Trace) (rank : ℕ) (trace : Trace) → slice_get traces rank ≡ Some trace
    → spell (ends_from job rank (drop rank traces))
    ≡ spell (end_lines job rank trace) ++ spell (ends_from job (rank + 1) (drop (rank + 1) traces))
next_ends job traces rank trace there =
    ap (λ (left : List Trace). spell (ends_from job rank left)) (next_is traces rank trace there)
    ∙ flat_map-append line_text (end_lines job rank trace) (ends_from job (rank + 1) (drop (rank + 1) traces))

-- none is left
pub no_ends : (job : JobState) (traces : List Trace) (rank : ℕ) → length traces ≤ rank
    → spell (ends_from job rank (drop rank traces)) ≡ []
no_ends job traces rank all = ap (λ (left : List Trace). spell (ends_from job rank left)) (drop_all rank traces all)

-- the node of this rank, and what was recorded of it
pub record IsAt (endpoints : List EndpointState) (reports : List NodeReport) (rank : ℕ) (endpoint : EndpointState)
    (report : NodeReport) : Type 0 where
  pub count : length reports ≡ length endpoints
  pub inside : rank < length endpoints
  pub endpoint_is : endpoint ≡ get_or endpoints rank endpoint
  pub report_is : report ≡ get_or reports rank report

-- the lines of a node were said behind those of the nodes before it
pub ends_said : (job : JobState) (traces : List Trace) (endpoints : List EndpointState) (reports : List NodeReport)
    (rank : ℕ) (endpoint : EndpointState) (report : NodeReport) (start before after : Outbox) (said : Wrote)
    → AreNodesAfter job traces endpoints → AreReports job traces reports
    → IsAt endpoints reports rank endpoint report
    → GathersUpTo start before (spell (ends_from job 0 traces)) (spell (ends_from job rank (drop rank traces)))
    → ForItsRecord endpoint (λ node. GathersAll before after
    (spell (lines_of_node endpoint.core.settings rank (get_or reports rank report).most node)) said)
    → SaidUpTo start after (spell (ends_from job 0 traces))
    (spell (ends_from job (rank + 1) (drop (rank + 1) traces))) said
ends_said job traces endpoints reports rank endpoint report start before after said nodes are is so_far says =
    let at = slice_get_read endpoints (length endpoints) rank endpoint refl is.inside is.endpoint_is in
    let inside : rank < length reports = omega (arith, is.count, is.inside) in
    let there = slice_get_read reports (length reports) rank report refl inside is.report_is in
    let node = node_of job traces endpoints rank endpoint nodes at in
    let trace = node.0 in
    let Lines : Parameters → ℕ → Type 0 = λ settings most.
    GathersAll before after (spell (lines_of_node settings rank most (last_record job rank trace.entries))) said in
    let most = (report_of job traces reports rank trace report are node.1 there).most_is in
    let own = subst (Lines job.settings) (ap (λ (it : NodeReport). it.most) (sym is.report_is) ∙ most)
    (subst (λ (settings : Parameters). Lines settings (get_or reports rank report).most) node.2.node.settings_are
    (says (last_record job rank trace.entries) node.2.stands)) in
    past_said start before after (spell (ends_from job 0 traces)) (spell (end_lines job rank trace))
    (spell (ends_from job (rank + 1) (drop (rank + 1) traces))) (spell (ends_from job rank (drop rank traces))) said
    (next_ends job traces rank trace node.1) so_far own

-- ---- violations

-- the nodes before this one noted none: whether it did, or one behind it
pub next_violated : (job : JobState) (traces : List Trace) (endpoints : List EndpointState) (rank : ℕ)
    (endpoint : EndpointState) (count : ℕ) → AreNodesAfter job traces endpoints → rank < length endpoints
    → endpoint ≡ get_or endpoints rank endpoint → ForItsRecord endpoint (λ node. count ≡ violations node)
    → is_violated job traces ≡ is_violated_from job rank (drop rank traces)
    → is_violated job traces
    ≡ (not (count == 0) || is_violated_from job (rank + 1) (drop (rank + 1) traces))
next_violated job traces endpoints rank endpoint count nodes inside is counts so_far =
    let at = slice_get_read endpoints (length endpoints) rank endpoint refl inside is in
    let node = node_of job traces endpoints rank endpoint nodes at in
    so_far
    ∙ ap (is_violated_from job rank) (next_is traces rank node.0 node.1)
    ∙ ap (λ n. not (n == 0) || is_violated_from job (rank + 1) (drop (rank + 1) traces))
    (sym (counts (last_record job rank node.0.entries) node.2.stands))

-- none is left
pub none_left : (job : JobState) (traces : List Trace) (rank : ℕ) → length traces ≤ rank
    → is_violated_from job rank (drop rank traces) ≡ false
none_left job traces rank all = ap (is_violated_from job rank) (drop_all rank traces all)
