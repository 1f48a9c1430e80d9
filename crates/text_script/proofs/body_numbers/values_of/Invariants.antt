use Rattle.std.proofs.Common.{◌≡◌, length, map, take}
use Rattle.text_script.specs.Bodies.{operand_value}
use Rattle.text_script.proofs.body_numbers.values_of.Given as goal

-- the numbers of the operands so far
abbrev pub invariant-loop-i : goal.invariant-loop-i
invariant-loop-i l = (length l.values ≡ 17)
    × (take l.i l.values ≡ map (operand_value l.cells l.args) (take l.i l.operands))
