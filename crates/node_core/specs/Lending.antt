-- What a core becomes while its cells or its segment are lent.
use Rattle.std.specs.Prelude.{ℕ, ℤ, List}
use Rattle.std.specs.Borrow.{RattleType}
use Rattle.part_handlers.specs.contracts.cells.Cells as cells
use Rattle.node_core.specs.contracts.node.Core as node
use Rattle.node_core.specs.CoreState.{CoreState}

-- the type of a core, as a lender
abbrev pub core_row : RattleType
core_row = node.the_row

-- the type of the cells, as they are lent
abbrev pub cells_row : RattleType
cells_row = cells.the_row

-- the core with these cells
abbrev pub with_cells : CoreState → List ℤ → CoreState
with_cells core values = record core { cells = values }

-- the core with these bytes as its segment
abbrev pub with_segment : CoreState → List ℕ → CoreState
with_segment core bytes = record core { segment = bytes }
