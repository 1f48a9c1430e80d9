use Rattle.std.proofs.Common.{Bool, sym, subst}
use Rattle.node_collectives.specs.Ends.{WritesPiece}
use Rattle.node_collectives.proofs.Writing.{piece_lacks, piece_told}
use Rattle.node_collectives.proofs.collectives.Collectives.write_piece.Goals as goal

pub returns-in-Some : goal.returns-in-Some
returns-in-Some g c =
    subst (λ (done : Bool). WritesPiece g.K.Caller c.args.self.now c.args.caller.now c.args.thread c.args.index
    c.args.offset done c.call_one.new.caller) (sym c.is_some.ensures)
    (piece_told g.K.Caller c.args.self.now c.args.caller.now c.args.thread c.args.index c.args.offset
    c.segment.result.now c.in-Some.piece c.data_len.result c.call_one.result c.call_one.new.caller c.segment.ensures
    c.in-Some.ensures.some c.data_len.ensures.len c.call_one.ensures)

pub returns-in-None : goal.returns-in-None
returns-in-None g c =
    piece_lacks g.K.Caller c.args.self.now c.args.caller.now c.args.thread c.args.index c.args.offset
    c.segment.result.now c.requires.settings c.segment.ensures c.in-None.ensures.none
