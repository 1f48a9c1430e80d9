use Rattle.std.proofs.Common.{◌≡◌, drop}
use Rattle.cli_report.specs.Unsent.{sent_otherwise}
use Rattle.cli_report.proofs.unsent.sent_otherwise.Given as goal

-- none so far is this message
abbrev pub invariant-loop-one : goal.invariant-loop-one
invariant-loop-one l =
    sent_otherwise l.sent l.message l.rank ≡ sent_otherwise (drop l.one-index l.sent) l.message l.rank
