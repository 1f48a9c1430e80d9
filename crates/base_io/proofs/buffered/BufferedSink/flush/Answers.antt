use Rattle.std.proofs.Common.{◌≡◌, ◌+◌, ◌<◌, sym, ap, ◌∙◌, take, drop, length, length-drop, length-take, arith}
use Rattle.base_io.proofs.Outboxes.{gives_prefix, pending_after}
use Rattle.base_io.proofs.buffered.BufferedSink.flush.Goals as goal

pub returns-then-self-clause-flushes : goal.returns-then-self-clause-flushes
returns-then-self-clause-flushes g c =
    let i = c.self.inside in
    let n = c.write_prefix-taken.result in
    let taken = g.K.Sink.taken in
    let faults = g.K.Sink.faults in
    let sink = c.write_prefix-taken.new.sink in
    let waits : c.split_at-2.result.1.now ≡ drop i.start (take i.end i.buffer) =
    c.split_at-2.ensures.back ∙ ap (drop i.start) c.split_at.ensures.front in
    let given = rw waits at c.write_prefix-taken.ensures.bytes in
    let lens = simp (length-drop, length-take) at (ap length waits) in
    let more : n < length c.split_at-2.result.1.now = omega arith in
    record {
      gathered =
          rw (← c.self.view_is) (gives_prefix
          (record { given = taken i.inner; pending = drop i.start (take i.end i.buffer); faults = faults i.inner })
          (record { given = taken sink; pending = drop (i.start + n) (take i.end i.buffer); faults = faults sink }) n
          (pending_after i.buffer c.split_at.result.0.now (drop i.start (take i.end i.buffer)) i.start i.end n
          c.split_at.ensures.front (sym waits ∙ c.split_at-2.ensures.back))
          c.write_prefix-taken.ensures.later given);
      rose = rw (← c.self.view_is) (c.write_prefix-taken.ensures.fault more);
    }
