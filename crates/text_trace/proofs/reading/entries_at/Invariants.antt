use Rattle.std.proofs.Common.{◌≡◌, ◌≤◌, ◌-◌, ◌+◌, length}
use Rattle.text_trace.specs.TraceReading.{entries_at, behind_entries}
use Rattle.text_trace.proofs.reading.entries_at.Given as goal

abbrev pub invariant-loop-read : goal.invariant-loop-read
invariant-loop-read l = record {
  so_far : behind_entries l.entries.items (entries_at (length l.bytes + 1 - length l.entries.items) l.threads l.number
      l.rest) ≡ entries_at (length l.bytes + 1) l.threads l.line l.bytes;
  number : l.number ≡ l.line + length l.entries.items;
  left : length l.rest + length l.entries.items ≤ length l.bytes;
}

abbrev pub decreases-loop-read : goal.decreases-loop-read
decreases-loop-read l = length l.rest
