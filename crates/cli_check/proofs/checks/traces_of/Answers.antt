-- The traces of the outputs that were taken from the list.
use Rattle.std.proofs.Common.{[], ◌∷◌, ◌++◌, sym, ap, ◌∙◌}
use Rattle.std.proofs.lemmas.Iterator.Adapters.{YieldsList-from_vec}
use Rattle.std.proofs.lemmas.Iterator.Consumers.{YieldsList-end}
use Rattle.std.proofs.lemmas.List.{map-append, map-id}
use Rattle.text_trace.specs.declared.output.Output.{Output}
use Rattle.cli_check.specs.CheckInputs.{traces_in}
use Rattle.cli_check.proofs.checks.traces_of.Goals as goal

pub loop-output-init : goal.loop-output-init
loop-output-init c = c.in_ok-traces.ensures.items

pub loop-output-preserved : goal.loop-output-preserved
loop-output-preserved c =
    c.in_ok-push.ensures.items ∙ ap (λ z. z ++ c.in-Some.output.trace ∷ []) c.loop-output.invariant
    ∙ sym (map-append (λ (output : Output). output.trace) c.loop-output.yielded (c.in-Some.output ∷ []))

pub returns : goal.returns
returns c =
    let gives = c.into_iter-output-iterator.ensures.into_iter_gives in
    let all = YieldsList-end (YieldsList-from_vec {s = c.into_iter-output-iterator.result} c.args.outputs.items gives.0
    (gives.1 ∙ c.args.outputs.ok.0)) c.loop-output.yielded
    c.loop-output.output-iterator c.loop-output.yielded_by c.next.result c.next.new.self c.in-None.is
    c.next.ensures.steps in
    c.loop-output.invariant ∙ ap traces_in (sym (map-id c.loop-output.yielded) ∙ all.0)
