-- The type of a table, as a lender.
use Rattle.std.specs.Borrow.{RattleType}
use Rattle.part_window.specs.contracts.table.SlotTable as table

abbrev pub table_row : RattleType
table_row = table.the_row
