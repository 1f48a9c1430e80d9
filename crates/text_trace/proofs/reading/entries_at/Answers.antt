use Rattle.std.proofs.Common.{◌+◌, ◌<◌, length, length-append, arith}
use Rattle.text_trace.specs.TraceReading.{entries_at}
use Rattle.text_trace.proofs.EntryRuns.{entry_goes_on, entry_fails, entries_end}
use Rattle.text_trace.proofs.reading.entries_at.Goals as goal

pub returns-in-Err-clause-value : goal.returns-in-Err-clause-value
returns-in-Err-clause-value c =
    entry_fails c.in-Err.fault (length c.args.bytes.now + 1) c.args.threads c.loop-read.number c.loop-read.rest.now
    c.loop-read.entries.items
    (entries_at (length c.args.bytes.now + 1) c.args.threads c.args.line c.args.bytes.now)
    (let l = c.loop-read.invariant.left in omega arith) c.in-Err.ensures.value c.loop-read.invariant.so_far

pub returns-in_default-clause-value : goal.returns-in_default-clause-value
returns-in_default-clause-value c =
    entries_end (length c.args.bytes.now + 1) c.args.threads c.loop-read.number c.loop-read.rest.now c.in-Ok.read.1.now
    c.loop-read.entries.items
    (entries_at (length c.args.bytes.now + 1) c.args.threads c.args.line c.args.bytes.now)
    (let l = c.loop-read.invariant.left in omega arith) (rw c.in_default.is at c.in-Ok.ensures.value)
    c.loop-read.invariant.so_far

pub loop-read-preserved : goal.loop-read-preserved
loop-read-preserved c =
    let l = c.loop-read.invariant.left in
    let n = c.loop-read.invariant.number in
    let s : length c.in-Ok.read.1.now < length c.loop-read.rest.now = c.in-Ok.ensures.shorter in
    record {
      so_far = rw c.in_ok-push.ensures.items (entry_goes_on (length c.args.bytes.now + 1) c.args.threads
          c.loop-read.number c.loop-read.rest.now c.in-Ok.read.1.now c.loop-read.entries.items c.in-Some.entry
          (entries_at (length c.args.bytes.now + 1) c.args.threads c.args.line c.args.bytes.now) (omega arith)
          (rw c.in-Some.is at c.in-Ok.ensures.value) c.loop-read.invariant.so_far);
      number = rw c.in_ok-push.ensures.items (simp length-append (omega arith));
      left = rw c.in_ok-push.ensures.items (simp length-append (omega arith));
    }
