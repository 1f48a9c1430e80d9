use Rattle.std.proofs.Common.{◌≡◌, ℕ, ◌%◌, ◌<◌, Some, true, false, ap, sym, subst, ◌∙◌}
use Rattle.part_collective_area.specs.Area.{data_in}
use Rattle.part_collective_area.specs.Shapes.{is_reduction}
use Rattle.node_collectives.specs.CollectivesState.{CollectivesState}
use Rattle.node_collectives.proofs.Pieces.{piece_given, piece_together}
use Rattle.node_collectives.proofs.collectives.Collectives.fill_piece.Goals as goal

pub data-requires-clause-node : goal.data-requires-clause-node
data-requires-clause-node c =
    let it = c.args.self.now in
    let none : is_reduction it.shape.kind ≡ false =
    ap (λ (one : CollectivesState). is_reduction one.shape.kind) (sym c.self.view_is)
    ∙ (sym c.is_reduction.ensures ∙ c.if-is_reduction.false) in
    let root : it.shape.root < it.area.nodes =
    subst (λ (one : CollectivesState). one.shape.root < one.area.nodes) c.self.view_is c.self.invariant.shape_good.root in
    subst (λ (n : ℕ). n < it.area.nodes) (sym c.giver.ensures)
    (piece_given it c.args.bytes.now c.args.index none root c.requires.index).0

pub returns-then-is_reduction : goal.returns-then-is_reduction
returns-then-is_reduction c =
    let it = c.args.self.now in
    let is : is_reduction it.shape.kind ≡ true =
    ap (λ (one : CollectivesState). is_reduction one.shape.kind) (sym c.self.view_is)
    ∙ (sym c.is_reduction.ensures ∙ c.if-is_reduction.true) in
    piece_together it c.args.bytes.now c.args.index is c.requires.index ∙ ap Some (sym c.reduce.ensures)

pub returns-else-is_reduction : goal.returns-else-is_reduction
returns-else-is_reduction c =
    let it = c.args.self.now in
    let none : is_reduction it.shape.kind ≡ false =
    ap (λ (one : CollectivesState). is_reduction one.shape.kind) (sym c.self.view_is)
    ∙ (sym c.is_reduction.ensures ∙ c.if-is_reduction.false) in
    let root : it.shape.root < it.area.nodes =
    subst (λ (one : CollectivesState). one.shape.root < one.area.nodes) c.self.view_is c.self.invariant.shape_good.root in
    let same = c.copy_from_slice.ensures.after
    ∙ (c.data.ensures.data
    ∙ ap (λ (node : ℕ). data_in c.args.bytes.now it.area (it.ended % 2) node it.shape.len) c.giver.ensures) in
    (piece_given it c.args.bytes.now c.args.index none root c.requires.index).1 ∙ ap Some (sym same)
