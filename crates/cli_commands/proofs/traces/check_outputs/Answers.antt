use Rattle.std.proofs.Common.{All, List, ap, length, subst, sym, ◌∙◌}
use Rattle.std.proofs.lemmas.List.{length-map}
use Rattle.std.proofs.lemmas.List.Elements.{All-map}
use Rattle.text_trace.specs.declared.output.Output.{Output}
use Rattle.text_trace.specs.declared.trace.Trace.{Trace}
use Rattle.cli_launch.specs.CheckInputs.{IsTraceOf, traces_in}
use Rattle.cli_commands.proofs.TracesTold.{same_told, traces_unknown}
use Rattle.cli_commands.proofs.traces.check_outputs.Goals as goal

pub check_traces-requires : goal.check_traces-requires
check_traces-requires g c =
    let these = c.in-Ok.ensures in
    record {
      job = c.requires.job;
      count = ap length these ∙ length-map c.args.outputs.items (λ (output : Output). output.trace)
          ∙ c.requires.count;
      traces = subst (λ (all : List Trace). All (IsTraceOf c.args.job) all) (sym these)
          (All-map (IsTraceOf c.args.job) (λ (output : Output). output.trace) c.args.outputs.items c.requires.traces);
    }

pub returns-in-Ok : goal.returns-in-Ok
returns-in-Ok g c =
    same_told c.args.job c.in-Ok.traces.items (traces_in c.args.outputs.items) _ _ c.check_traces.result
    c.in-Ok.ensures c.check_traces.ensures

pub returns-in-Err : goal.returns-in-Err
returns-in-Err g c =
    let says = rw c.nothing.ensures at c.say.ensures in
    traces_unknown c.args.job (traces_in c.args.outputs.items) _ _ c.say.result says
