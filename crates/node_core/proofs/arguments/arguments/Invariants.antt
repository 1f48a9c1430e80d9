use Rattle.std.proofs.Common.{take, length, ◌≡◌, ◌≤◌}
use Rattle.wire_message.specs.Reading.{viewed_message}
use Rattle.node_core.proofs.arguments.arguments.Given as goal

abbrev pub invariant-loop-place : goal.invariant-loop-place
invariant-loop-place l = record {
  copied : take l.place l.args ≡ take l.place (viewed_message l.message).args;
  within : l.place ≤ length (viewed_message l.message).args;
  room : length l.args ≡ 16;
}
