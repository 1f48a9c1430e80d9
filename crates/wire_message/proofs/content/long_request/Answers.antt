use Rattle.std.proofs.Common.{subst, sym, ap, refl, true≢false}
use Rattle.wire_message.specs.Content.{Message, IsWellFormed}
use Rattle.wire_message.proofs.Addressing.{for_handler}
use Rattle.wire_message.proofs.content.long_request.Goals as goal

pub returns-clause-value : goal.returns-clause-value
returns-clause-value c = ap (λ (m : Message). record m {
  offset = c.args.offset;
  payload = c.args.payload.now;
}) c.bare.ensures

pub returns-clause-formed : goal.returns-clause-formed
returns-clause-formed c = subst (λ (m : Message). IsWellFormed m) (sym (returns-clause-value c))
    (for_handler c.args.address _ c.requires.address (record {
      kind = refl;
      no_ack = refl;
      some_handler = c.requires.handler;
      few_args = c.requires.count;
      long_offset = λ e. absurd (true≢false e);
      short_payload = c.requires.payload;
      bare_payload = λ e. absurd (true≢false (sym e));
    }))
