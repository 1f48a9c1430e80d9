-- The nodes before this one are passed, until one is found.
use Rattle.std.proofs.Common.{◌+◌, Bool, drop, not, ◌==◌, ◌||◌, refl, sym, ap, ◌∙◌, ne_eqb}
use Rattle.part_handlers.specs.LogState.{LogRecord}
use Rattle.cli_check.specs.StepLines.{is_violated_from}
use Rattle.cli_check.proofs.Ends.{next_violated, none_left}
use Rattle.cli_check.proofs.ending.any_violation.Goals as goal

pub loop-endpoint-init : goal.loop-endpoint-init
loop-endpoint-init c = record { so_far = λ job traces nodes. refl }

pub returns-then-count-ne0 : goal.returns-then-count-ne0
returns-then-count-ne0 c = λ job traces nodes.
    let next = c.loop-endpoint.endpoint-index + 1 in
    sym (next_violated job traces c.args.endpoints.now c.loop-endpoint.endpoint-index c.endpoint-item.result
    c.count.result nodes c.loop-endpoint-test.true c.endpoint-item.is
    (λ node stands. c.count.ensures ∙ ap (λ (log : LogRecord). log.count) (c.log.ensures node stands))
    (c.loop-endpoint.invariant.so_far job traces nodes)
    ∙ ap (λ (b : Bool). not b || is_violated_from job next (drop next traces))
    (ne_eqb c.count.result 0 c.if-count-ne0.true))

pub loop-endpoint-preserved : goal.loop-endpoint-preserved
loop-endpoint-preserved c = record {
  so_far = λ job traces nodes.
      let next = c.loop-endpoint.endpoint-index + 1 in
      next_violated job traces c.args.endpoints.now c.loop-endpoint.endpoint-index c.endpoint-item.result
      c.count.result nodes c.loop-endpoint-test.true c.endpoint-item.is
      (λ node stands. c.count.ensures ∙ ap (λ (log : LogRecord). log.count) (c.log.ensures node stands))
      (c.loop-endpoint.invariant.so_far job traces nodes)
      ∙ ap (λ n. not (n == 0) || is_violated_from job next (drop next traces)) c.if-count-ne0.false;
}

pub returns : goal.returns
returns c = λ job traces nodes.
    sym (c.loop-endpoint.invariant.so_far job traces nodes
    ∙ none_left job traces c.loop-endpoint.endpoint-index (rw nodes.count at c.loop-endpoint-test.false))
