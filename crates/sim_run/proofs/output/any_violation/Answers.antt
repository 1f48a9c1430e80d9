use Rattle.std.proofs.Common.{◌≡◌, ◌-◌, ◌<◌, sym, ap, ◌∙◌, arith}
use Rattle.part_handlers.specs.LogState.{LogRecord}
use Rattle.sim_run.specs.RunText.{any_violation}
use Rattle.sim_run.proofs.EndText.{any_passed, any_found}
use Rattle.sim_run.proofs.output.any_violation.Goals as goal

pub loop-node-init : goal.loop-node-init
loop-node-init c =
    let start : c.args.world.now.settings.nodes - 0 ≡ c.args.world.now.settings.nodes = omega arith in
    record { so_far = λ w most h. ap (any_violation w 0) (sym start) }

pub returns-then-count-ne0 : goal.returns-then-count-ne0
returns-then-count-ne0 c = λ w most h.
    let node = c.loop-node.node in
    let count =
    c.count.ensures ∙ ap (λ (l : LogRecord). l.count) (c.log.ensures (w node) (c.endpoint.ensures.stands w most h)) in
    let inside : node < c.args.world.now.settings.nodes =
    (let low = c.loop-node-test.true in let all = c.nodes-node-end.ensures in omega arith) in
    sym (c.loop-node.invariant.so_far w most h
    ∙ any_found w node c.args.world.now.settings.nodes inside (λ e. c.if-count-ne0.true (count ∙ e)))

pub loop-node-preserved : goal.loop-node-preserved
loop-node-preserved c = record {
  so_far = λ w most h.
      let node = c.loop-node.node in
      let count =
      c.count.ensures
      ∙ ap (λ (l : LogRecord). l.count) (c.log.ensures (w node) (c.endpoint.ensures.stands w most h)) in
      let inside : node < c.args.world.now.settings.nodes =
      (let low = c.loop-node-test.true in let all = c.nodes-node-end.ensures in omega arith) in
      c.loop-node.invariant.so_far w most h
      ∙ any_passed w node c.args.world.now.settings.nodes inside (sym count ∙ c.if-count-ne0.false);
}

pub returns : goal.returns
returns c = λ w most h.
    let node = c.loop-node.node in
    let none : c.args.world.now.settings.nodes - node ≡ 0 =
    (let end = c.loop-node-test.false in let all = c.nodes-node-end.ensures in omega arith) in
    sym (c.loop-node.invariant.so_far w most h ∙ ap (any_violation w node) none)
