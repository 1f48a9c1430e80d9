-- What is kept of a node's operations.
use Rattle.std.specs.Prelude.{ℕ, ◌≡◌, ◌<◌, Bool, true, false, not, ◌&&◌, if◌then◌else◌, ◌==◌}
use Rattle.std.specs.Prelude.{List, [], ◌∷◌, Option, None, Some, length, slice_get}
use Rattle.std.specs.List.{list_any}
use Rattle.base_lists.specs.Numbered.{element_at}
use Rattle.part_transfers.specs.declared.operation.Next.{Next}
use Rattle.part_transfers.specs.declared.operation.Handle.{Handle}
use Rattle.part_transfers.specs.declared.table.OperationRecord.{OperationRecord}
use Rattle.part_transfers.specs.declared.slots.Waiting.{Waiting}
use Rattle.part_transfers.specs.declared.table.Pick.TheVariants as pick
use Rattle.part_transfers.specs.declared.table.Check.TheVariants.{Unissued, Unfinished}
use Rattle.part_transfers.specs.declared.transfers.Transfers.{Transfers}
use Rattle.part_transfers.specs.Operation.{Operation, returned_of, size, chunk_start, chunk_size, is_complete}
use Rattle.part_transfers.specs.Operation.{unsynced_count}
use Rattle.part_transfers.specs.ChunkSlots.{entry_at}
use Rattle.part_transfers.specs.Outs.{Out, outs}
use Rattle.part_transfers.specs.Table.{taken_count, on_place, fits_pick, has_passing, IsPlaceOf}
use Rattle.part_transfers.specs.Syncs.{Choice, is_name, is_implicit}

-- what is kept of the operation of that number
abbrev pub record_of : (number : ℕ) → Operation → OperationRecord
record_of number operation = record {
  number = number;
  thread = operation.thread;
  transfer = operation.transfer;
  implicit = is_implicit operation.mode;
  region = operation.region;
  issued = length operation.sent;
  returned = returned_of operation.sent;
}

-- the places have the records of the operations that aren't yet synchronised
pub record Keeps (places : List (Option OperationRecord)) (operations : List Operation) : Type 0 where
  pub many : length places ≡ 256
  pub each : (place : ℕ) (record_there : OperationRecord) → slice_get places place ≡ Some (Some record_there)
      → (operation : Operation) × (element_at operations record_there.number ≡ Some operation)
      × (operation.synced ≡ false) × (record_there ≡ record_of record_there.number operation)
  pub all : (number : ℕ) (operation : Operation) → element_at operations number ≡ Some operation
      → operation.synced ≡ false
      → (place : ℕ) × (slice_get places place ≡ Some (Some (record_of number operation)))
  pub once : (place other : ℕ) (first second : OperationRecord) → slice_get places place ≡ Some (Some first)
      → slice_get places other ≡ Some (Some second)
      → first.number ≡ second.number → place ≡ other
  pub count : taken_count places ≡ unsynced_count operations

-- an entry of the table by node and slot says which chunks are out there: none, or one of the operation whose record is
-- in that place
abbrev pub Says : (places : List (Option OperationRecord)) → Option Waiting → List Out → Type 0
Says places None out = out ≡ []
Says places (Some waiting) out =
    (there : OperationRecord) × (slice_get places waiting.place ≡ Some (Some there))
    × (out ≡ record { operation = there.number; request = waiting.request } ∷ [])

-- the table is that of these operations: all that ever began, in order
pub record Stands (table : Transfers) (operations : List Operation) : Type 0 where
  pub keeps : Keeps table.table operations
  pub given : table.given ≡ length operations
  -- the entry of each slot of each node says what is out there
  pub says : (to slot : ℕ) → Says table.table (entry_at table.slots to slot) (outs to slot 1 operations)
  -- an operation that was synchronised is complete
  pub settled : (number : ℕ) (operation : Operation) → element_at operations number ≡ Some operation
      → operation.synced ≡ true → is_complete operation ≡ true

-- the table is that of some operations
abbrev pub HasOperations : Transfers → Type 0
HasOperations table = (operations : List Operation) × Stands table operations

-- this holds of all operations of which the table is that
abbrev pub ForItsOperations : Transfers → (List Operation → Type 0) → Type 0
ForItsOperations table Holds = (operations : List Operation) → Stands table operations → Holds operations

-- for how many nodes there is a table by slot, and how many slots each of them has
pub record Room : Type 0 where
  pub nodes : ℕ
  pub credits : ℕ

abbrev pub room_of : Transfers → Room
room_of table = record { nodes = table.slots.nodes; credits = table.slots.credits }

-- ---- members

-- the record is a member of the handle: of the region of that name, or else the one with that number
abbrev pub member_in : (places : List (Option OperationRecord)) → (handle : ℕ) → OperationRecord → Bool
member_in places handle there =
    if list_any (on_place (fits_pick (pick.Region handle))) places then is_name handle there.region
    else (there.number == handle)

-- the same; the invalid handle has no member
abbrev pub member_of : (places : List (Option OperationRecord)) → Handle → OperationRecord → Bool
member_of places handle there = not (handle.serial == 0) && member_in places handle.serial there

-- the record is a member of one of these handles
abbrev pub member_of_any : (places : List (Option OperationRecord)) → List Handle → OperationRecord → Bool
member_of_any places handles there =
    list_any (λ (handle : Handle). member_of places handle there) handles

-- all members of the handle pass as complete
abbrev pub is_whole_in : (places : List (Option OperationRecord)) → Handle → Bool
is_whole_in places handle =
    not (handle.serial == 0) && not (has_passing (member_in places handle.serial) Unfinished places)

abbrev pub whole_here : (places : List (Option OperationRecord)) → Handle → OperationRecord → Bool
whole_here places handle there = is_whole_in places handle && member_in places handle.serial there

-- the record is a member of one of these handles that is complete
abbrev pub whole_in : (places : List (Option OperationRecord)) → List Handle → OperationRecord → Bool
whole_in places handles there = list_any (λ (handle : Handle). whole_here places handle there) handles

-- the picked records are those of the operations chosen
pub record Agrees (choice : Choice) (test : OperationRecord → Bool) : Type 0 where
  pub chosen : (number : ℕ) (operation : Operation) → operation.synced ≡ false
      → choice number operation ≡ test (record_of number operation)
  pub open_only : (number : ℕ) (operation : Operation) → choice number operation ≡ true → operation.synced ≡ false

-- ---- the next chunk

-- the next chunk of a record
abbrev pub next_of : OperationRecord → Next
next_of there = record {
  number = there.number;
  transfer = there.transfer;
  start = chunk_start there.issued;
  len = chunk_size (size there.transfer) there.issued;
}

-- ---- one record

-- the operation of that number stands, and has an unissued chunk
abbrev pub CanMarkSent : Transfers → (number : ℕ) → Type 0
CanMarkSent table number = (place : ℕ) × IsPlaceOf table.table number Unissued place
