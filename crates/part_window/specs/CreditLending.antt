-- What a requester's slots, and a claim of one, become while a buffer is lent.
use Rattle.std.specs.Prelude.{ℕ, List, []}
use Rattle.std.specs.Borrow.{RattleType, GName}
use mir.Syntax.{named}
use Rattle.part_window.specs.SlotsState.{SlotsState, with_slot_changed, with_written}
use Rattle.part_window.specs.declared.credits.Claimed.{Claimed}
use Rattle.part_window.specs.contracts.credits.CreditSlots as table
use Rattle.part_window.specs.contracts.credits.Claimed as claimed

-- the type of a table, as a lender
abbrev pub table_row : RattleType
table_row = table.the_row

-- the type of a claim, as a lender
abbrev pub claimed_row : RattleType
claimed_row = claimed.the_row (record { mir = named 0; lft = [] })

-- the name of the reference to the table
abbrev pub lender_of : Claimed → GName
lender_of claim = claim.table.ghost_name

-- the node whose slot is claimed
abbrev pub node_of : Claimed → ℕ
node_of claim = claim.to

-- the slot that is claimed, whatever was written into the claim's public fields
abbrev pub slot_of : Claimed → ℕ
slot_of claim = claim.at

-- the table as the claim has it
abbrev pub table_of : Claimed → SlotsState
table_of claim = claim.table.now

-- the table with these bytes written into the claimed slot's buffer
abbrev pub with_claim_written : Claimed → List ℕ → Claimed
with_claim_written claim written =
    record claim {
      table = record claim.table {
        now = with_slot_changed claim.table.now claim.to claim.at
            (with_written written);
      };
    }
