use Rattle.std.proofs.Common.{◌≡◌, ◌≢◌, ℕ, ◌-◌, ◌<◌, ◌≤◌, get_or}
use Rattle.cli_report.proofs.status.line_end.Given as goal

abbrev pub invariant-loop-place : goal.invariant-loop-place
invariant-loop-place l = record {
  within : l.end ≤ l.place;
  behind : (k : ℕ) → l.end ≤ k → k < l.place → get_or l.bytes k 0 ≡ 10;
  before : 0 < l.end → get_or l.bytes (l.end - 1) 0 ≢ 10;
}
