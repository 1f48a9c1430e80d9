use Rattle.std.proofs.Common.{◌-◌, length, set, refl, sym, ap, ◌∙◌, arith}
use Rattle.node_vis.specs.Pieces.{continues, with_run}
use Rattle.node_vis.specs.Runs.{piece_in}
use Rattle.node_vis.proofs.Adding.{added_on, added_behind, joined_run, no_end, no_end_of_none, one_more, IsNoEnd}
use Rattle.node_vis.proofs.runs.Runs.add.Goals as goal
use Rattle.node_vis.proofs.runs.Runs.add.Goals.{then-runs-gt0+else-continues, else-runs-gt0}

pub returns-then-continues-clause-added : goal.returns-then-continues-clause-added
returns-then-continues-clause-added c =
    let last = c.len-runs.result - 1 in
    let joined = joined_run c.index.result.now c.args.run in
    added_on c.self.inside.runs.items (set c.self.inside.runs.items last joined) last c.index.result.now c.args.run joined
    (omega (arith, c.len-runs.ensures, c.self.inside.runs.ok.0, c.if-runs-gt0.true))
    (ap (λ r. continues (piece_in r) (piece_in c.args.run)) (sym c.index.ensures) ∙ (sym c.continues.ensures ∙ c.if-continues.true))
    c.if-run-eq0.false (ap (λ r. joined_run r c.args.run) c.index.ensures) refl
    ∙ ap (λ ps. with_run ps (piece_in c.args.run)) c.self.view_is

pub returns-then-runs-ge-MOST_PIECES-clause-full : goal.returns-then-runs-ge-MOST_PIECES-clause-full
returns-then-runs-ge-MOST_PIECES-clause-full c = λ other.
    let behind : IsNoEnd c.self.inside.runs.items c.args.run = elim c.if-runs-gt0.branch [
      | then-runs-gt0+else-continues w ↦
          no_end c.self.inside.runs.items c.args.run w.index.result.now c.len-runs.result (c.len-runs.ensures ∙ c.self.inside.runs.ok.0)
          w.if-runs-gt0.true w.index.ensures (sym w.continues.ensures ∙ w.if-continues.false)
      | else-runs-gt0 w ↦
          no_end_of_none c.self.inside.runs.items c.args.run c.len-runs.result (c.len-runs.ensures ∙ c.self.inside.runs.ok.0) w.if-runs-gt0.false
    ] in
    let more = one_more c.self.inside.runs.items c.args.run behind c.if-run-eq0.false in
    let same = ap (λ ps. length (with_run ps (piece_in c.args.run))) c.self.view_is in
    (refl, omega (arith, more, same, c.len-runs.ensures, c.self.inside.runs.ok.0, c.if-runs-ge-MOST_PIECES.true))

pub returns-clause-added : goal.returns-clause-added
returns-clause-added c =
    let behind : IsNoEnd c.self.inside.runs.items c.args.run = elim c.if-runs-gt0.branch [
      | then-runs-gt0+else-continues w ↦
          no_end c.self.inside.runs.items c.args.run w.index.result.now c.len-runs.result (c.len-runs.ensures ∙ c.self.inside.runs.ok.0)
          w.if-runs-gt0.true w.index.ensures (sym w.continues.ensures ∙ w.if-continues.false)
      | else-runs-gt0 w ↦
          no_end_of_none c.self.inside.runs.items c.args.run c.len-runs.result (c.len-runs.ensures ∙ c.self.inside.runs.ok.0) w.if-runs-gt0.false
    ] in
    added_behind c.self.inside.runs.items c.push.new.self.items c.args.run behind c.if-run-eq0.false c.in-Ok.ensures.items
    ∙ ap (λ ps. with_run ps (piece_in c.args.run)) c.self.view_is
