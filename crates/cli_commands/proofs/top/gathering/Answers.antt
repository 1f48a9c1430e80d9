use Rattle.std.proofs.Common.{ap, sym}
use Rattle.cli_commands.proofs.top.gathering.Goals as goal

pub returns : goal.returns
returns g c = record {
  is = ap (λ (sink : g.row.K.Denot). record c.args.outside { sink = sink }) (sym c.new.ensures.inner);
  empty = c.new.ensures.pending;
}
