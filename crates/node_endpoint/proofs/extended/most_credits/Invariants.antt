use Rattle.std.proofs.Common.{◌≢◌, ℕ, ◌<◌, ◌≤◌}
use Rattle.wire_message.specs.Parameters.{credits_of}
use Rattle.node_endpoint.proofs.extended.most_credits.Given as goal

abbrev pub invariant-loop-to : goal.invariant-loop-to
invariant-loop-to l = (to : ℕ) → to < l.to → to ≢ l.me → credits_of l.settings l.me to ≤ l.most
