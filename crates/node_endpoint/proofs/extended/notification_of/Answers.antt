use Rattle.std.proofs.Common.{rules}
use Rattle.std.specs.Int.{w32, cast_signed, cast_unsigned}
use Rattle.node_rules.proofs.Noting.{ranges_of, identifier_fits}
use Rattle.node_endpoint.proofs.extended.notification_of.Goals as goal

pub returns-clause-ranged : goal.returns-clause-ranged
returns-clause-ranged c =
    ranges_of (record {
      phase = c.args.phase;
      mask = c.args.mask;
      id = cast_signed w32 (cast_unsigned w32 c.args.id);
      flags = c.args.flags;
    }) (search rules) (search rules) (identifier_fits c.args.id)
