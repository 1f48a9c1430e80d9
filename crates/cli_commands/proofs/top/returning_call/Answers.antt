-- The words of `node`, and all others.
use Rattle.std.proofs.Common.{map, refl, string_bytes, subst}
use Rattle.cli_commands.specs.Commands.{IsAsked}
use Rattle.cli_commands.specs.declared.words.Command.TheVariants as commands
use Rattle.cli_commands.proofs.Closing.{closed_call}
use Rattle.cli_commands.proofs.CallStatus.{is_asked}
use Rattle.cli_commands.proofs.top.returning_call.Goals as goal

pub returns-in-Some : goal.returns-in-Some
returns-in-Some g c = record {
  said = tt;
  returns = tt;
  node = (subst (IsAsked (map string_bytes c.args.words.now)) c.in-Some.ensures c.asked-command.ensures, refl);
}

pub returns-in-None : goal.returns-in-None
returns-in-None g c = record {
  said = closed_call g.S.Source g.K.Sink g.L.Link g.P.Spawner g.C.Clock (map string_bytes c.args.words.now)
      c.asked-command.result _ _ _ _ _ _ c.asked-command.ensures c.gathering-gathering.ensures c.returning_command-ended.ensures
      c.closed.ensures;
  returns = λ rank port asks. c.in-None.ensures rank port
      (is_asked (map string_bytes c.args.words.now) c.asked-command.result (commands.Node rank port)
      c.asked-command.ensures asks);
  node = tt;
}
