-- The types of a part and of a block, as lenders.
use Rattle.part_window.specs.contracts.block.Block as block
use Rattle.part_window.specs.contracts.block.Part as one
use Rattle.std.specs.Borrow.{RattleType}

abbrev pub part_row : RattleType
part_row = one.the_row

abbrev pub block_row : RattleType
block_row = block.the_row
