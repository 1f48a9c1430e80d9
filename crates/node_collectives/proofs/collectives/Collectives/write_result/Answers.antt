use Rattle.std.proofs.Common.{ℕ, ◌<◌, ap, sym, subst, ◌∙◌, arith}
use Rattle.node_endpoint.specs.Sites.{IsThere, Site}
use Rattle.node_collectives.specs.Ends.{EndAsked, HasPiece, WritesPiece}
use Rattle.node_collectives.proofs.Writing.{writing_all, writing_fails, writing_first, writing_on}
use Rattle.node_collectives.proofs.collectives.Collectives.write_result.Goals as goal

pub loop-index-init : goal.loop-index-init
loop-index-init g c =
    writing_first g.K.Caller c.args.self.now c.args.caller.now
    (record { thread = c.args.thread; dest = c.args.dest }) c.pieces-index-end.ensures.stands c.requires.settings
    c.requires.good

pub write_piece-requires : goal.write_piece-requires
write_piece-requires g c =
    let site = c.loop-index.invariant.site in
    record {
      settings = c.requires.settings ∙ sym (ap (λ (one : Site). one.settings) site);
      there = subst IsThere (sym site) c.requires.there;
      thread = subst (λ (one : Site). c.args.thread < one.settings.threads) (sym site) c.requires.thread;
      index = λ bytes. omega (arith, c.pieces-index-end.ensures.pieces bytes);
    }

pub returns-then-not-write_piece : goal.returns-then-not-write_piece
returns-then-not-write_piece g c =
    let it = c.args.self.now in
    let asked : EndAsked = record { thread = c.args.thread; dest = c.args.dest } in
    let has : HasPiece it c.loop-index.index = λ bytes. omega (arith, c.pieces-index-end.ensures.pieces bytes) in
    writing_fails g.K.Caller it c.args.caller.now c.loop-index.caller asked c.loop-index.index c.write_piece.result
    c.write_piece.new.caller has c.loop-index.invariant
    (subst (λ (at : ℕ). WritesPiece g.K.Caller it c.loop-index.caller c.args.thread c.loop-index.index at
    c.write_piece.result c.write_piece.new.caller) c.piece_offset-offset.ensures c.write_piece.ensures)
    c.if-not-write_piece.true

pub loop-index-preserved : goal.loop-index-preserved
loop-index-preserved g c =
    let it = c.args.self.now in
    let asked : EndAsked = record { thread = c.args.thread; dest = c.args.dest } in
    let has : HasPiece it c.loop-index.index = λ bytes. omega (arith, c.pieces-index-end.ensures.pieces bytes) in
    writing_on g.K.Caller g.met.K.Caller.follows it c.args.caller.now c.loop-index.caller asked c.loop-index.index
    c.write_piece.result c.write_piece.new.caller c.pieces-index-end.ensures.stands c.requires.settings has
    c.loop-index.invariant
    (subst (λ (at : ℕ). WritesPiece g.K.Caller it c.loop-index.caller c.args.thread c.loop-index.index at
    c.write_piece.result c.write_piece.new.caller) c.piece_offset-offset.ensures c.write_piece.ensures)

pub returns : goal.returns
returns g c =
    writing_all g.K.Caller c.args.self.now c.args.caller.now c.loop-index.caller
    (record { thread = c.args.thread; dest = c.args.dest }) c.loop-index.index
    (λ segment. omega (arith, c.pieces-index-end.ensures.pieces segment)) c.loop-index.invariant
