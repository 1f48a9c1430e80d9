-- The recorders of the job's nodes are merged, and what they recorded is taken.
use Rattle.std.proofs.Common.{◌≡◌, List, length, Ok, Err, sym, ap, subst, ◌∙◌, arith}
use Rattle.std.specs.Prelude.{All}
use Rattle.text_trace.specs.Merged.{HaveThreads}
use Rattle.text_trace.specs.declared.trace.Trace.{Trace}
use Rattle.cli_check.specs.CheckInputs.{IsTraceOf}
use Rattle.cli_check.specs.Merging.{AreFirstRecorders, ClosesAll, IsMerged, MergesTraces}
use Rattle.cli_check.specs.Recording.{RecorderKept}
use Rattle.cli_check.proofs.Merged.{Prefixes, HasNoRun, first_threads, merged_err, merged_run, recorders, refilled_all}
use Rattle.cli_check.proofs.Rejected.{length-rejected, traces_of_job}
use Rattle.cli_check.proofs.machines.merge_traces.Goals as goal

pub accepted_traces-requires : goal.accepted_traces-requires
accepted_traces-requires g c =
    let count = ap length c.deref.ensures.value in
    let nodes = c.requires.job.settings.nodes in
    record {
      few = omega (arith, count, nodes, c.in-Ok.ensures.count);
      count = omega (arith, count, c.requires.count, c.in-Ok.ensures.count);
    }

pub merge-requires : goal.merge-requires
merge-requires g c =
    let job = c.args.job.now in
    let judged = c.deref-2.result.now in
    let same = c.deref-2.ensures.value ∙ c.in-Ok-accepted_traces.ensures job
    (subst (λ (all : List RecorderKept). AreFirstRecorders job all) (sym c.deref.ensures.value) c.in-Ok.ensures) in
    let as_read = ap length same ∙ length-rejected job 0 c.args.traces.items ∙ c.requires.count in
    let count = ap length c.as_mut_slice.ensures.value in
    let nodes = c.requires.job.settings.nodes in
    let traces : All (IsTraceOf job) judged =
    subst (λ (all : List Trace). All (IsTraceOf job) all) (sym same)
    (traces_of_job job 0 c.args.traces.items c.requires.traces) in
    record {
      nodes = omega (arith, count, as_read, c.in-Ok.ensures.count);
      many = omega (arith, count, nodes, c.in-Ok.ensures.count);
      entries = λ place default inside. (traces place default inside).few;
      threads = subst (λ (all : List RecorderKept). HaveThreads recorders all judged)
          (sym c.as_mut_slice.ensures.value)
          (first_threads job c.in-Ok.recorders.items judged c.in-Ok.ensures traces);
    }

pub returns-in-Err : goal.returns-in-Err
returns-in-Err g c =
    let job = c.args.job.now in
    let judged = c.deref-2.result.now in
    let same = c.deref-2.ensures.value ∙ c.in-Ok-accepted_traces.ensures job
    (subst (λ (all : List RecorderKept). AreFirstRecorders job all) (sym c.deref.ensures.value) c.in-Ok.ensures) in
    let as_read = ap length same ∙ length-rejected job 0 c.args.traces.items ∙ c.requires.count in
    let Recorders : List RecorderKept → Type 0 = λ all. Prefixes all judged c.merge.new.machines (Err c.in-Err.fault) in
    let No_run : List RecorderKept → Type 0 = λ all. HasNoRun all judged (Err c.in-Err.fault) in
    subst (λ (all : List Trace). MergesTraces job all (Err c.in-Err.fault)) same
    (merged_err job judged c.in-Ok.recorders.items c.merge.new.machines c.in-Err.fault
    as_read c.in-Ok.ensures (subst Recorders c.as_mut_slice.ensures.value c.in-Err.ensures.prefix)
    (subst No_run c.as_mut_slice.ensures.value c.in-Err.ensures.no_run))

pub returns-in-Ok-close_all : goal.returns-in-Ok-close_all
returns-in-Ok-close_all g c =
    let job = c.args.job.now in
    let judged = c.deref-2.result.now in
    let same = c.deref-2.ensures.value ∙ c.in-Ok-accepted_traces.ensures job
    (subst (λ (all : List RecorderKept). AreFirstRecorders job all) (sym c.deref.ensures.value) c.in-Ok.ensures) in
    let as_read = ap length same ∙ length-rejected job 0 c.args.traces.items ∙ c.requires.count in
    let first = c.in-Ok.recorders in
    let then_ = c.merge.new.machines in
    let kept = c.as_mut_slice.ensures.value in
    let as_many : length then_ ≡ length first.items = c.merge.auto.machines ∙ ap length kept in
    let filled = refilled_all first.len first.items then_ first.ok.0 as_many in
    let Recorders : List RecorderKept → Type 0 = λ all. Prefixes all judged then_ (Ok c.in-Ok-merge.field-0) in
    let Closes : List RecorderKept → Type 0 = λ all. ClosesAll all c.in-Ok-close_all.report in
    subst (λ (all : List Trace). IsMerged job all c.in-Ok-close_all.report) same
    (merged_run c.traces_law.ensures.run job judged first.items then_ c.in-Ok-merge.field-0
    c.in-Ok-close_all.report c.requires.job as_read c.in-Ok.ensures
    (subst Recorders kept c.in-Ok-merge.ensures.prefix) as_many (subst Closes filled c.in-Ok-close_all.ensures))
