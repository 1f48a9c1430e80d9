use Rattle.std.proofs.Common.{All, ap, subst, sym, ◌∙◌}
use Rattle.text_job.specs.JobText.{IsJob}
use Rattle.text_job.specs.declared.job.Job.{Job as JobState}
use Rattle.cli_launch.specs.CheckInputs.{IsTraceOf}
use Rattle.cli_commands.proofs.TracesTold.{script_told, traces_unknown}
use Rattle.cli_commands.proofs.traces.check_traces.Goals as goal

pub run_traces-end-requires : goal.run_traces-end-requires
run_traces-end-requires g c = record {
  job = subst IsJob (sym c.in-Ok.ensures) c.requires.job;
  count = c.requires.count ∙ ap (λ (j : JobState). j.settings.nodes) (sym c.in-Ok.ensures);
  traces = subst (λ (j : JobState). All (IsTraceOf j) c.args.traces.items) (sym c.in-Ok.ensures) c.requires.traces;
}

pub returns-in-Ok : goal.returns-in-Ok
returns-in-Ok g c =
    script_told c.args.job c.in-Ok.script c.args.traces.items _ _ _ c.run_traces-end.result c.say_traces.result
    c.in-Ok.ensures c.run_traces-end.ensures c.say_traces.ensures

pub returns-in-Err : goal.returns-in-Err
returns-in-Err g c =
    let says = rw c.nothing.ensures at c.say.ensures in
    traces_unknown c.args.job c.args.traces.items _ _ c.say.result says
