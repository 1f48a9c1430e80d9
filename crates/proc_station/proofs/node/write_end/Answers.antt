use Rattle.std.proofs.Common.{◌∙◌, ap, sym, subst, codes}
use Rattle.base_io.specs.Buffered.{GathersAll, outbox}
use Rattle.proc_runner.specs.declared.ends.StationEnd.{StationEnd}
use Rattle.proc_station.proofs.Texts.{finished, finishes}
use Rattle.proc_station.proofs.node.write_end.Goals as goal

pub returns-then-not-has_last_line : goal.returns-then-not-has_last_line
returns-then-not-has_last_line g c =
    finished g.K.Sink c.args.left (sym c.has_last_line.ensures ∙ c.if-not-has_last_line.true)

pub returns : goal.returns
returns g c =
    let k = g.K.Sink in
    let left = c.args.left in
    let wrote = c.write_all-wrote.result in
    let over = outbox k.taken k.faults left.recorder in
    let went = subst (λ s. GathersAll (outbox k.taken k.faults s)
    (outbox k.taken k.faults c.write_all-wrote.new.self) (codes "end\n") wrote) c.into_sink-sink.ensures
    c.write_all-wrote.ensures in
    finishes k left (record left { recorder = c.over.result; end = c.written_end.result }) wrote
    (sym c.has_last_line.ensures ∙ c.if-not-has_last_line.false)
    (ap (λ (end : StationEnd). record left { recorder = c.over.result; end = end }) c.written_end.ensures)
    (subst (λ s. GathersAll over (outbox k.taken k.faults s) (codes "end\n") wrote) (sym c.over.ensures) went)
