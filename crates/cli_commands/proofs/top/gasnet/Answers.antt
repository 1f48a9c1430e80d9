-- A call that returns, and that of a node.
use Rattle.std.proofs.Common.{Some, ap, map, string_bytes, subst}
use Rattle.cli_launch.specs.Children.{spawner_seen}
use Rattle.cli_commands.specs.TopParts.{StandsOver}
use Rattle.cli_commands.specs.declared.words.Command.TheVariants as commands
use Rattle.cli_commands.proofs.Closing.{closed_call}
use Rattle.cli_commands.proofs.top.gasnet.Goals as goal

pub returns-in-Ok : goal.returns-in-Ok
returns-in-Ok g c = record {
  means = c.in-Ok.ensures.said.means;
  complete = c.in-Ok.ensures.said.complete;
  leaves = c.in-Ok.ensures.said.leaves;
}

pub returns-in-Err : goal.returns-in-Err
returns-in-Err g c =
    let said = closed_call g.S.Source g.K.Sink g.L.Link g.P.Spawner g.C.Clock (map string_bytes c.args.words.now)
    (Some (commands.Node c.in-Err.address.rank c.in-Err.address.port)) c.args.outside _ _ _ _ _ c.in-Err.ensures.node.0
    (subst (λ o. StandsOver o c.gathering.result) c.in-Err.ensures.node.1 c.gathering.ensures)
    (record {
      ends = c.node_command-ended.ensures.ends;
      keeps = ap (spawner_seen g.P.Spawner) c.node_command-ended.ensures.spawner;
    }) c.closed.ensures in
    record { means = said.means; complete = said.complete; leaves = said.leaves }
