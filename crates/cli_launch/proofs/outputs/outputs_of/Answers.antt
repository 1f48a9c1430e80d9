use Rattle.std.proofs.Common.{◌+◌, List, ◌∷◌, [], length, length-append, arith, refl, sym, ap, subst, ◌∙◌}
use Rattle.std.proofs.lemmas.List.Elements.{All-push}
use Rattle.std.proofs.lemmas.Option.{slice_get_read}
use Rattle.text_trace.specs.declared.output.Output.{Output}
use Rattle.cli_check.specs.CheckInputs.{HaveTraces, IsTraceOf}
use Rattle.cli_launch.specs.Children.{IsOutputWithin, ends_of}
use Rattle.cli_launch.proofs.Ends.{all_at, all_given, end_at, first_fault, gave_one_more}
use Rattle.cli_launch.proofs.outputs.outputs_of.Goals as goal

pub loop-child-init : goal.loop-child-init
loop-child-init c =
    let items = c.new-outputs.ensures.items in
    record {
      count = ap length items;
      gave = λ place low. absurd (omega arith);
      traces = subst (λ (all : List Output). HaveTraces c.args.job.now all) (sym items)
          (λ place default inside. absurd (omega arith));
    }

pub output_of-requires : goal.output_of-requires
output_of-requires c =
    let children = c.args.children.now in
    let place = c.loop-child.child-index in
    let there = slice_get_read children (length children) place c.child-item.result refl c.loop-child-test.true
    c.child-item.is in
    all_at IsOutputWithin (ends_of children) place _ c.requires.within (end_at children place c.child-item.result there)

pub returns-in-Err : goal.returns-in-Err
returns-in-Err c =
    let children = c.args.children.now in
    let place = c.loop-child.child-index in
    let there = slice_get_read children (length children) place c.child-item.result refl c.loop-child-test.true
    c.child-item.is in
    record {
      given = first_fault c.args.job.now children c.loop-child.outputs.items place c.child-item.result c.in-Err.fault
          c.requires.ranks there c.loop-child.invariant.gave c.in-Err.ensures.given;
      traces = tt;
    }

pub loop-child-preserved : goal.loop-child-preserved
loop-child-preserved c =
    let children = c.args.children.now in
    let place = c.loop-child.child-index in
    let outputs = c.loop-child.outputs.items in
    let invariant = c.loop-child.invariant in
    let items = c.in-Ok-push.ensures.items in
    let there = slice_get_read children (length children) place c.child-item.result refl c.loop-child-test.true
    c.child-item.is in
    record {
      count = ap length items ∙ length-append outputs (c.in-Ok.output ∷ []) ∙ ap (λ n. n + 1) invariant.count;
      gave = gave_one_more c.args.job.now children outputs c.push.new.self.items place c.child-item.result
          c.in-Ok.output there c.in-Ok.ensures.given invariant.count items invariant.gave;
      traces = subst (λ (all : List Output). HaveTraces c.args.job.now all) (sym items)
          (All-push (λ (output : Output). IsTraceOf c.args.job.now output.trace) outputs c.in-Ok.output invariant.traces
          c.in-Ok.ensures.trace);
    }

pub returns : goal.returns
returns c =
    let invariant = c.loop-child.invariant in
    record {
      given = all_given c.args.job.now c.args.children.now c.loop-child.outputs.items c.loop-child.child-index
          invariant.count c.loop-child-test.false c.loop-child.auto.child-index-end invariant.gave;
      traces = invariant.traces;
    }
