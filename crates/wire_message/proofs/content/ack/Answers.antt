use Rattle.std.proofs.Common.{subst, sym}
use Rattle.wire_message.specs.Content.{Message, IsWellFormed}
use Rattle.wire_message.proofs.Addressing.{ack_formed}
use Rattle.wire_message.proofs.content.ack.Goals as goal

pub returns-clause-formed : goal.returns-clause-formed
returns-clause-formed c =
    subst (λ (m : Message). IsWellFormed m) (sym c.bare.ensures) (ack_formed c.args.address c.requires)
