-- The lines of the steps, and then those of the ends.
use Rattle.std.proofs.Common.{List, length, sym, ap, subst, ◌∙◌, arith}
use Rattle.node_endpoint.specs.EndpointState.{EndpointState}
use Rattle.base_io.specs.Buffered.{Gathers, GathersPrefix, outbox}
use Rattle.base_io.specs.declared.writing.Wrote.TheVariants as wrote
use Rattle.sim_run.proofs.LinesWritten.{both_said}
use Rattle.cli_check.specs.Merging.{AreReports, texts_of}
use Rattle.cli_check.specs.StepLines.{ends_from, steps_from}
use Rattle.cli_check.specs.Rejected.{accepted_traces}
use Rattle.cli_check.specs.TracesRun.{AreNodesAfter, AreRanked}
use Rattle.cli_check.specs.declared.recorder.NodeReport.{NodeReport}
use Rattle.cli_check.proofs.Ends.{texts_same}
use Rattle.cli_check.proofs.RunLines.{fault_before_ends}
use Rattle.cli_check.proofs.Rejected.{unrejected}
use Rattle.cli_check.proofs.run.tell_run.Goals as goal

pub write_ends-requires : goal.write_ends-requires
write_ends-requires g c =
    let nodes = ap length c.deref-2.ensures.value in
    let reports = ap length c.deref-3.ensures.value in
    record {
      few = omega (arith, nodes, c.requires.few);
      count = reports ∙ c.requires.count ∙ sym nodes;
      ranks = subst AreRanked (sym c.deref-2.ensures.value) c.requires.ranks;
    }

pub returns-in-Fault : goal.returns-in-Fault
returns-in-Fault g c = λ job traces merged.
    let judged = accepted_traces job traces in
    let texts = ap texts_of c.deref.ensures.value ∙ texts_same job judged c.args.report.reports.items merged.reports in
    record {
      run = merged.run;
      lines = fault_before_ends job judged (outbox g.K.Sink.taken g.K.Sink.faults c.args.sink.now)
          (outbox g.K.Sink.taken g.K.Sink.faults c.write_texts.new.sink)
          (subst (GathersPrefix (outbox g.K.Sink.taken g.K.Sink.faults c.args.sink.now)
          (outbox g.K.Sink.taken g.K.Sink.faults c.write_texts.new.sink)) texts c.in-Fault.ensures);
    }

pub returns-in-Done : goal.returns-in-Done
returns-in-Done g c = λ job traces merged.
    let judged = accepted_traces job traces in
    let texts = ap texts_of c.deref.ensures.value ∙ texts_same job judged c.args.report.reports.items merged.reports in
    let Nodes : List EndpointState → Type 0 = λ nodes. AreNodesAfter job judged nodes in
    let Reports : List NodeReport → Type 0 = λ reports. AreReports job judged reports in
    record {
      run = merged.run;
      lines = both_said (outbox g.K.Sink.taken g.K.Sink.faults c.args.sink.now)
          (outbox g.K.Sink.taken g.K.Sink.faults c.write_texts.new.sink)
          (outbox g.K.Sink.taken g.K.Sink.faults c.write_ends.new.sink) (steps_from job 0 judged)
          (ends_from job 0 judged) wrote.Done
          (subst (Gathers (outbox g.K.Sink.taken g.K.Sink.faults c.args.sink.now)
          (outbox g.K.Sink.taken g.K.Sink.faults c.write_texts.new.sink)) texts c.in_default.ensures)
          (c.in-Done.ensures job judged (subst Nodes (sym c.deref-2.ensures.value) merged.nodes_after)
          (subst Reports (sym c.deref-3.ensures.value) merged.reports));
      violated_is = c.any_violation-violated.ensures job judged
          (subst Nodes (sym c.deref-in-Done.ensures.value) merged.nodes_after);
      nodes_of_run = merged.nodes_after;
      nodes_after = unrejected job traces c.args.report.nodes.items merged.nodes_after;
    }

pub returns-in-Fault-write_ends : goal.returns-in-Fault-write_ends
returns-in-Fault-write_ends g c = λ job traces merged.
    let judged = accepted_traces job traces in
    let texts = ap texts_of c.deref.ensures.value ∙ texts_same job judged c.args.report.reports.items merged.reports in
    let Nodes : List EndpointState → Type 0 = λ nodes. AreNodesAfter job judged nodes in
    let Reports : List NodeReport → Type 0 = λ reports. AreReports job judged reports in
    record {
      run = merged.run;
      lines = both_said (outbox g.K.Sink.taken g.K.Sink.faults c.args.sink.now)
          (outbox g.K.Sink.taken g.K.Sink.faults c.write_texts.new.sink)
          (outbox g.K.Sink.taken g.K.Sink.faults c.write_ends.new.sink) (steps_from job 0 judged)
          (ends_from job 0 judged) wrote.Fault
          (subst (Gathers (outbox g.K.Sink.taken g.K.Sink.faults c.args.sink.now)
          (outbox g.K.Sink.taken g.K.Sink.faults c.write_texts.new.sink)) texts c.in_default.ensures)
          (c.in-Fault-write_ends.ensures job judged (subst Nodes (sym c.deref-2.ensures.value) merged.nodes_after)
          (subst Reports (sym c.deref-3.ensures.value) merged.reports));
    }
