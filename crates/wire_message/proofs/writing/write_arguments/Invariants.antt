use Rattle.std.proofs.Common.{◌≡◌, ◌*◌, take, w32}
use Rattle.std.specs.List.{flat_map, AllByRecursion}
use Rattle.std.specs.Int.RustNames.{FitsSigned}
use Rattle.wire_message.specs.Content.{word}
use Rattle.wire_message.proofs.Placed.{placed}
use Rattle.wire_message.proofs.writing.write_arguments.Given as goal

abbrev pub invariant-loop-i : goal.invariant-loop-i
invariant-loop-i l =
    (l.buf ≡ placed l.initial.buf l.at (flat_map word (take l.i l.args)) (4 * l.i))
    × AllByRecursion (FitsSigned w32) (take l.i l.args)
