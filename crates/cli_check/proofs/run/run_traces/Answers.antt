-- The nodes that the merge leaves, or why there are none.
use Rattle.std.proofs.Common.{refl, sym, ◌∙◌, arith, inl}
use Rattle.cli_check.specs.Rejected.{accepted_traces}
use Rattle.cli_check.proofs.Ends.{nodes_ranked}
use Rattle.cli_check.proofs.Rejected.{length-rejected}
use Rattle.cli_check.proofs.run.run_traces.Goals as goal

pub merge_traces-requires : goal.merge_traces-requires
merge_traces-requires g c = record { job = c.requires.job; count = c.requires.count; traces = c.requires.traces }

pub tell_run-requires : goal.tell_run-requires
tell_run-requires g c =
    let merged = c.in-Ok.ensures in
    let judged = accepted_traces c.args.job.now c.args.traces.items in
    record {
      few = omega (
        arith,
        merged.nodes_after.count,
        length-rejected c.args.job.now 0 c.args.traces.items,
        c.requires.count,
        c.requires.job.settings.nodes,
      );
      count = merged.reports.count ∙ sym merged.nodes_after.count;
      ranks = nodes_ranked c.args.job.now judged c.in-Ok.report.nodes.items merged.nodes_after;
    }

pub returns-in-Ok : goal.returns-in-Ok
returns-in-Ok g c = c.tell_run.ensures c.args.job.now c.args.traces.items c.in-Ok.ensures

pub returns-in-Err-NotARun : goal.returns-in-Err-NotARun
returns-in-Err-NotARun g c = record {
  none = rw c.in-Err-NotARun.field-0-is at c.in-Err-NotARun.ensures;
  same = refl;
}

pub returns-in-Err-NoMemory : goal.returns-in-Err-NoMemory
returns-in-Err-NoMemory g c = inl refl
