use Rattle.std.proofs.Common.{refl}
use Rattle.cli_commands.proofs.JobRead.{unread_told}
use Rattle.cli_commands.proofs.NodeCommand.{node_none, weak_node}
use Rattle.cli_commands.proofs.node.node_command.Goals.{in-Ok, in-Err}
use Rattle.cli_commands.proofs.node.node_command.Goals as goal

pub returns : goal.returns
returns g c = record {
  ends = elim c.match-job_from.branch [
    | in-Ok v ↦ rw v.ran-is (v.run_read-ran.ensures _ v.in-Ok.ensures)
    | in-Err v ↦
        rw v.ran-is
        (unread_told _ _ _ _ v.in-Err.end v.say_unrun-ran.result.ended (weak_node _ _ _) (node_none _ _ _)
        v.in-Err.ensures v.say_unrun-ran.ensures.says)
  ];
  spawner = refl;
}
