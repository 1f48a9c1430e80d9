-- One rank more.
use Rattle.std.proofs.Common.{Option, Some, None, ◌∷◌, [], append-nil, refl, subst}
use Rattle.cli_report.proofs.Gathering.{gives_more}
use Rattle.cli_report.specs.Facts.{GivesEnded}
use Rattle.cli_report.specs.declared.facts.ChildSeen.{ChildSeen}
use Rattle.cli_report.proofs.facts.ended_nodes.Goals as goal
use Rattle.cli_report.proofs.facts.ended_nodes.Goals.{in-Some+in_ok-node+in_ok-push, in_default}

pub loop-rank-preserved : goal.loop-rank-preserved
loop-rank-preserved g c =
    let ended = g.C.Children.ended c.args.children.now in
    let rank = c.loop-rank.rank in
    elim c.match-end_of.branch [
      | in-Some+in_ok-node+in_ok-push w ↦
          gives_more (GivesEnded ended) rank c.loop-rank.nodes.items (w.in_ok-node.node ∷ []) c.match-end_of.nodes.items
          c.loop-rank.invariant
          (record {
            end = Some w.in-Some.end;
            is_end = subst (λ (it : Option ChildSeen). ended rank it) w.in-Some.is c.end_of.ensures;
            are = (w.in_ok-node.node, w.in_ok-node.ensures, refl);
          })
          (rw w.nodes-is w.in_ok-push.ensures.items)
      | in_default w ↦
          gives_more (GivesEnded ended) rank c.loop-rank.nodes.items [] c.match-end_of.nodes.items
          c.loop-rank.invariant
          (record {
            end = None;
            is_end = subst (λ (it : Option ChildSeen). ended rank it) w.in_default.is c.end_of.ensures;
            are = refl;
          })
          (rw (w.nodes-is, append-nil) refl)
    ]
