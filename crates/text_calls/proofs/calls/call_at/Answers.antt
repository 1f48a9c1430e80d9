use Rattle.std.proofs.Common.{sym, refl}
use Rattle.text_calls.proofs.CallLaws.{read_calls}
use Rattle.text_calls.proofs.calls.call_at.Goals as goal

pub returns-in_default : goal.returns-in_default
returns-in_default c =
    rw (
      read_calls c.args.scope.now c.args.bytes.now,
      sym c.name_of.ensures.name,
      sym c.named.ensures,
      c.in_default.is,
    ) refl

pub returns : goal.returns
returns c =
    rw (
      read_calls c.args.scope.now c.args.bytes.now,
      sym c.name_of.ensures.name,
      sym c.named.ensures,
      c.in-Some.is,
      sym c.name_of.ensures.rest,
    ) c.named_call_at.ensures
