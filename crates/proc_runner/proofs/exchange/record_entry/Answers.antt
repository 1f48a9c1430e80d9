use Rattle.proc_runner.proofs.Sending.{records_after}
use Rattle.proc_runner.proofs.exchange.record_entry.Goals as goal

-- the entry went in, and what waited was given on
pub returns : goal.returns
returns g c =
    records_after g.K.Recorder c.args.entry.now c.args.sends c.args.recorder.now c.record.new.self c.flush.new.self
    c.flush.result c.in-Done.ensures c.flush.ensures
