-- What the kept replies, and a place among them, become while a buffer is lent.
use Rattle.std.specs.Prelude.{ℕ, List, []}
use Rattle.std.specs.Borrow.{RattleType, GName}
use mir.Syntax.{named}
use Rattle.part_window.specs.RepliesState.{RepliesState, with_slot_changed, with_written}
use Rattle.part_window.specs.declared.replies.Place.{Place}
use Rattle.part_window.specs.contracts.replies.ReplySlots as table
use Rattle.part_window.specs.contracts.replies.Place as place

-- the type of a table, as a lender
abbrev pub replies_row : RattleType
replies_row = table.the_row

-- the type of a place, as a lender
abbrev pub place_row : RattleType
place_row = place.the_row (record { mir = named 0; lft = [] })

-- the name of the reference to the table
abbrev pub lender_of : Place → GName
lender_of place = place.table.ghost_name

-- the node to which the reply goes
abbrev pub node_of : Place → ℕ
node_of place = place.from

-- the slot in which the reply is kept
abbrev pub slot_of : Place → ℕ
slot_of place = place.slot

-- the table as the place has it
abbrev pub table_of : Place → RepliesState
table_of place = place.table.now

-- the place, with these bytes written into its slot's buffer
abbrev pub with_place_written : Place → List ℕ → Place
with_place_written place written =
    record place {
      table = record place.table {
        now = with_slot_changed place.table.now place.from place.slot
            (with_written written);
      };
    }
