use Rattle.std.proofs.Common.{ℕ, ◌+◌, ◌%◌, ap, ap₂, subst, ◌∙◌}
use Rattle.node_endpoint.specs.Sites.{ThreadCall}
use Rattle.part_collective_area.specs.Area.{data_place}
use Rattle.part_collective_area.specs.Served.{header_arguments}
use Rattle.part_collective_area.specs.Shapes.{shape_word}
use Rattle.node_collectives.specs.CollectivesState.{CollectivesState}
use Rattle.node_collectives.specs.Starts.{CallsOne}
use Rattle.node_collectives.proofs.Stepping.{step_call_is}
use Rattle.node_collectives.proofs.collectives.Collectives.ask.Goals as goal

pub returns : goal.returns
returns g c =
    let it = c.args.self.now in
    subst (λ (call : ThreadCall). CallsOne g.K.Caller c.args.caller.now call c.call_one.result c.call_one.new.caller)
    (step_call_is it c.args.thread c.args.to _ _ c.header-args.result
    (c.header-args.ensures
    ∙ ap₂ header_arguments (ap (λ (one : CollectivesState). one.ended + 1) c.self.view_is)
    (c.word-word.ensures ∙ ap (λ (one : CollectivesState). shape_word one.shape) c.self.view_is))
    c.payload.ensures
    (ap (λ (n : ℕ). n + 16) c.part-offset.ensures.place
    ∙ ap (λ (one : CollectivesState). data_place it.area (one.ended % 2) one.me) c.self.view_is))
    c.call_one.ensures
