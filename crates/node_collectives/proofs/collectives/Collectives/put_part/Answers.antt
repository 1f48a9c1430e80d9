use Rattle.std.proofs.Common.{ℕ, ◌+◌, ◌%◌, ap, ap₂, subst, ◌∙◌}
use Rattle.node_endpoint.specs.Sites.{ThreadCall}
use Rattle.part_collective_area.specs.Area.{data_place}
use Rattle.part_collective_area.specs.Served.{header_arguments}
use Rattle.node_collectives.specs.CollectivesState.{CollectivesState}
use Rattle.node_collectives.specs.Starts.{CallsOne, StartAsked}
use Rattle.node_collectives.proofs.Beginning.{start_call_is}
use Rattle.node_collectives.proofs.collectives.Collectives.put_part.Goals as goal

pub returns : goal.returns
returns g c =
    let it = c.args.self.now in
    let asked : StartAsked = record { thread = c.args.thread; shape = c.args.shape; from = c.args.from } in
    subst (λ (call : ThreadCall). CallsOne g.K.Caller c.args.caller.now call c.call_one.result c.call_one.new.caller)
    (start_call_is it asked c.self.inside.me _ c.header-args.result
    (ap (λ (one : CollectivesState). one.me) c.self.view_is)
    (c.header-args.ensures
    ∙ ap₂ header_arguments (ap (λ (one : CollectivesState). one.started + 1) c.self.view_is) c.word-word.ensures)
    (ap (λ (n : ℕ). n + 16) c.part.ensures.place
    ∙ ap (λ (one : CollectivesState). data_place it.area (one.started % 2) one.me) c.self.view_is))
    c.call_one.ensures
