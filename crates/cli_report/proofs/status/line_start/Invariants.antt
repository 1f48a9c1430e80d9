use Rattle.std.proofs.Common.{◌≡◌, ◌≢◌, ℕ, ◌-◌, ◌<◌, ◌≤◌, get_or}
use Rattle.cli_report.proofs.status.line_start.Given as goal

abbrev pub invariant-loop-place : goal.invariant-loop-place
invariant-loop-place l = record {
  within : l.start ≤ l.place;
  behind : (k : ℕ) → l.start ≤ k → k < l.place → get_or l.bytes k 0 ≢ 10;
  before : 0 < l.start → get_or l.bytes (l.start - 1) 0 ≡ 10;
}
