use Rattle.std.proofs.Common.{◌≡◌, ap, sym, ◌∙◌}
use Rattle.part_collective_area.specs.declared.shape.CollectiveKind.TheVariants as kind
use Rattle.node_collectives.specs.CollectivesState.{CollectivesState}
use Rattle.node_collectives.proofs.Pieces.{many_all, many_root}
use Rattle.node_collectives.proofs.collectives.Collectives.pieces.Goals as goal

pub returns-in-AllGather-clause-pieces : goal.returns-in-AllGather-clause-pieces
returns-in-AllGather-clause-pieces c = λ bytes.
    let is : c.args.self.now.shape.kind ≡ kind.AllGather =
    ap (λ (it : CollectivesState). it.shape.kind) (sym c.self.view_is) ∙ c.in-AllGather.is in
    c.nodes.ensures.nodes
    ∙ (ap (λ (it : CollectivesState). it.area.nodes) c.self.view_is ∙ many_all c.args.self.now is bytes)

pub returns-in-Gather-clause-pieces : goal.returns-in-Gather-clause-pieces
returns-in-Gather-clause-pieces c = λ bytes.
    let is : c.args.self.now.shape.kind ≡ kind.Gather =
    ap (λ (it : CollectivesState). it.shape.kind) (sym c.self.view_is) ∙ c.in-Gather.is in
    let root : c.args.self.now.me ≡ c.args.self.now.shape.root =
    ap (λ (it : CollectivesState). it.me) (sym c.self.view_is)
    ∙ (c.if-self.true ∙ ap (λ (it : CollectivesState). it.shape.root) c.self.view_is) in
    c.nodes-in-Gather.ensures.nodes
    ∙ (ap (λ (it : CollectivesState). it.area.nodes) c.self.view_is ∙ many_root c.args.self.now is root bytes)
