use Rattle.std.proofs.Common.{subst, sym, refl, arith}
use Rattle.wire_message.specs.Content.{Message, IsWellFormed}
use Rattle.wire_message.proofs.Addressing.{for_handler}
use Rattle.wire_message.proofs.content.short_request.Goals as goal

pub returns-clause-formed : goal.returns-clause-formed
returns-clause-formed c = subst (λ (m : Message). IsWellFormed m) (sym c.bare.ensures)
    (for_handler c.args.address _ c.requires.address (record {
      kind = refl;
      no_ack = refl;
      some_handler = c.requires.handler;
      few_args = c.requires.count;
      long_offset = λ e. refl;
      short_payload = omega arith;
      bare_payload = λ e. refl;
    }))
