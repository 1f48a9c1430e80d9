use Rattle.std.proofs.Common.{ap, refl}
use Rattle.cli_commands.proofs.top.closed.Goals as goal

pub returns : goal.returns
returns g c = record {
  sink = c.flushed-end.new.sink;
  over = c.flushed-end.result;
  gives_on = c.flushed-end.ensures;
  code = c.code.ensures;
  given = refl;
  is = ap (λ (sink : g.row.K.Denot). record {
    source = c.args.gathering.source;
    sink = sink;
    link = c.args.gathering.link;
    spawner = c.args.gathering.spawner;
    clock = c.args.gathering.clock;
    waiter = c.args.gathering.waiter;
  })
      c.into_inner.ensures;
}
