-- The lines of one node more, and of all.
use Rattle.std.proofs.Common.{length, refl, sym, arith}
use Rattle.std.proofs.lemmas.Option.{slice_get_read}
use Rattle.base_io.specs.Buffered.{outbox}
use Rattle.base_io.specs.declared.writing.Wrote.TheVariants as wrote
use Rattle.base_io.proofs.Outboxes.{all_gathered, nothing_yet}
use Rattle.cli_check.proofs.Ends.{ends_said, no_ends}
use Rattle.cli_check.proofs.ending.write_ends.Goals as goal

pub loop-rank-init : goal.loop-rank-init
loop-rank-init g c = record { said = λ job traces nodes reports. nothing_yet _ _ }

pub bounds-reports-rank : goal.bounds-reports-rank
bounds-reports-rank g c = omega (arith, c.requires.count, c.loop-rank-test.true)

pub write_end-requires : goal.write_end-requires
write_end-requires g c =
    let there = slice_get_read c.args.endpoints.now (length c.args.endpoints.now) c.loop-rank.rank
    c.index-endpoints-rank.result refl c.loop-rank-test.true c.index-endpoints-rank.is in
    sym (c.requires.ranks c.loop-rank.rank c.index-endpoints-rank.result there)

pub returns-in-Fault : goal.returns-in-Fault
returns-in-Fault g c = λ job traces nodes reports.
    ends_said job traces c.args.endpoints.now c.args.reports.now c.loop-rank.rank c.index-endpoints-rank.result
    c.index-reports-rank.result (outbox g.K.Sink.taken g.K.Sink.faults c.args.sink.now)
    (outbox g.K.Sink.taken g.K.Sink.faults c.loop-rank.sink)
    (outbox g.K.Sink.taken g.K.Sink.faults c.write_end.new.sink) wrote.Fault nodes reports
    (record {
      count = c.requires.count;
      inside = c.loop-rank-test.true;
      endpoint_is = c.index-endpoints-rank.is;
      report_is = c.index-reports-rank.is;
    }) (c.loop-rank.invariant.said job traces nodes reports) c.in-Fault.ensures

pub loop-rank-preserved : goal.loop-rank-preserved
loop-rank-preserved g c = record {
  said = λ job traces nodes reports.
      ends_said job traces c.args.endpoints.now c.args.reports.now c.loop-rank.rank c.index-endpoints-rank.result
      c.index-reports-rank.result (outbox g.K.Sink.taken g.K.Sink.faults c.args.sink.now)
      (outbox g.K.Sink.taken g.K.Sink.faults c.loop-rank.sink)
      (outbox g.K.Sink.taken g.K.Sink.faults c.write_end.new.sink) wrote.Done nodes reports
      (record {
        count = c.requires.count;
        inside = c.loop-rank-test.true;
        endpoint_is = c.index-endpoints-rank.is;
        report_is = c.index-reports-rank.is;
      }) (c.loop-rank.invariant.said job traces nodes reports) c.in_default.ensures;
}

pub returns : goal.returns
returns g c = λ job traces nodes reports.
    all_gathered _ _ _ _ (no_ends job traces c.loop-rank.rank (rw nodes.count at c.loop-rank-test.false))
    (c.loop-rank.invariant.said job traces nodes reports)
