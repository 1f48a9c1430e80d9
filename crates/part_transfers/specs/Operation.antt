-- The operations of a node, by chunks. The number of an operation is its place in the list of all that ever began,
-- counted from 1.
use Rattle.std.specs.Prelude.{ℕ, suc, ◌+◌, ◌-◌, ◌*◌, ◌/◌, ◌==◌, nat_le, nat_lt, Bool, true, false, not, ◌&&◌, ◌||◌}
use Rattle.std.specs.Prelude.{if◌then◌else◌, min}
use Rattle.std.specs.Prelude.{List, [], ◌∷◌, ◌++◌, Option, None, Some, Result, Ok, Err, length, map, slice_get, ◌≡◌}
use Rattle.std.specs.List.{list_all, list_any}
use Rattle.base_lists.specs.Numbered.{element_at, change}
use Rattle.part_transfers.specs.declared.operation.Transfer.{Transfer}
use Rattle.part_transfers.specs.declared.operation.Transfer.TheVariants as transfers
use Rattle.part_transfers.specs.declared.operation.Mode.{Mode}
use Rattle.part_transfers.specs.declared.operation.Mode.TheVariants.{Explicit, Implicit, InRegion}
use Rattle.part_transfers.specs.declared.operation.Handle.{Handle}
use Rattle.part_transfers.specs.declared.operation.TooMany.{TooMany}
use Rattle.part_transfers.specs.declared.operation.Next.{Next}
use Rattle.part_transfers.specs.declared.operation.TheConstants.{MAX_CHUNK}

-- ---- a transfer

abbrev pub target : Transfer → ℕ
target (transfers.Put to remote local len) = to
target (transfers.Get to remote local len) = to
target (transfers.Memset to remote len byte) = to

abbrev pub size : Transfer → ℕ
size (transfers.Put to remote local len) = len
size (transfers.Get to remote local len) = len
size (transfers.Memset to remote len byte) = len

abbrev pub is_get : Transfer → Bool
is_get (transfers.Get to remote local len) = true
is_get _ = false

-- how many chunks of 8,192 bytes there are, the last one shorter
abbrev pub chunks : (size : ℕ) → ℕ
chunks size = (size + (MAX_CHUNK - 1)) / MAX_CHUNK

-- where chunk `index` of a range begins, and how many bytes it has
abbrev pub chunk_start : (index : ℕ) → ℕ
chunk_start index = index * MAX_CHUNK

abbrev pub chunk_size : (size index : ℕ) → ℕ
chunk_size size index = min MAX_CHUNK (size - chunk_start index)

-- ---- an operation

-- a chunk that was accepted as a request to the operation's target
pub record SentChunk : Type 0 where
  pub slot : ℕ
  pub number : ℕ
  pub bytes : List ℕ  -- of a put, what the source held when the chunk was issued
  pub back : Bool

-- how many of them are back
abbrev pub returned_of : List SentChunk → ℕ
returned_of [] = 0
returned_of (sent ∷ later) = (if sent.back then 1 else 0) + returned_of later

-- `sent` has the chunks that were issued, in the order of their ranges. Those after them are unissued.
pub record Operation : Type 0 where
  pub thread : ℕ
  pub transfer : Transfer
  pub mode : Mode
  pub region : Option ℕ
  pub sent : List SentChunk
  pub synced : Bool

-- some chunk is unissued
abbrev pub has_next : Operation → Bool
has_next operation = nat_lt (length operation.sent) (chunks (size operation.transfer))

-- so it is of an operation, if there is one
abbrev pub has_next_in : Option Operation → Bool
has_next_in None = false
has_next_in (Some operation) = has_next operation

-- some chunk of the operation of that number is unissued
abbrev pub has_unissued : (number : ℕ) → List Operation → Bool
has_unissued number operations = has_next_in (element_at operations number)

abbrev pub is_complete : Operation → Bool
is_complete operation = not (has_next operation) && list_all (λ (sent : SentChunk). sent.back) operation.sent

-- ---- the beginning

-- the region that an operation of that number is in
abbrev pub region_of : (number : ℕ) → Mode → Option ℕ
region_of number Explicit = None
region_of number Implicit = None
region_of number (InRegion None) = Some number
region_of number (InRegion (Some name)) = Some name

-- how many aren't yet synchronised
abbrev pub unsynced_count : List Operation → ℕ
unsynced_count [] = 0
unsynced_count (operation ∷ later) = if operation.synced then unsynced_count later else suc (unsynced_count later)

-- 256 records stand, or number 2^64 - 1 was given
abbrev pub is_full : List Operation → Bool
is_full operations = nat_le 256 (unsynced_count operations) || nat_le 18446744073709551615 (length operations)

abbrev pub begin_answer : List Operation → Result Handle TooMany
begin_answer operations =
    if is_full operations then Err (record {}) else Ok (record { serial = suc (length operations) })

abbrev pub fresh : (thread : ℕ) → Transfer → Mode → (number : ℕ) → Operation
fresh thread transfer mode number =
    record {
      thread = thread;
      transfer = transfer;
      mode = mode;
      region = region_of number mode;
      sent = [];
      synced = false;
    }

abbrev pub after_begin : (thread : ℕ) → Transfer → Mode → List Operation → List Operation
after_begin thread transfer mode operations =
    if is_full operations then operations else operations ++ fresh thread transfer mode (suc (length operations)) ∷ []

-- ---- the rule on ticks

-- the first chunk of the operation that is unissued
abbrev pub chunk_of : (number : ℕ) → Operation → Next
chunk_of number operation =
    record {
      number = number;
      transfer = operation.transfer;
      start = chunk_start (length operation.sent);
      len = chunk_size (size operation.transfer) (length operation.sent);
    }

-- the next chunk of the oldest operation that has one to a node that can be asked; the first operation here has this
-- number
abbrev pub next_chunk : (can : ℕ → Bool) → (number : ℕ) → List Operation → Option Next
next_chunk can number [] = None
next_chunk can number (operation ∷ later) =
    if has_next operation && can (target operation.transfer) then Some (chunk_of number operation)
    else next_chunk can (suc number) later

-- the operation after its next chunk was accepted
abbrev pub with_sent : (slot request : ℕ) → (bytes : List ℕ) → Operation → Operation
with_sent slot request bytes operation =
    record operation {
      sent = operation.sent ++ record { slot = slot; number = request; bytes = bytes; back = false } ∷ [];
    }

-- of the oldest operation that has an unissued chunk to this node, the next chunk was accepted as that request, in that
-- slot
abbrev pub issue : (to slot request : ℕ) → (bytes : List ℕ) → List Operation → List Operation
issue to slot request bytes [] = []
issue to slot request bytes (operation ∷ later) =
    if has_next operation && (target operation.transfer == to) then with_sent slot request bytes operation ∷ later
    else operation ∷ issue to slot request bytes later

-- ---- replies

-- the chunk went as that request, in that slot
abbrev pub went_as : (slot request : ℕ) → SentChunk → Bool
went_as slot request sent = (sent.slot == slot) && (sent.number == request)

abbrev pub as_back : (slot request : ℕ) → SentChunk → SentChunk
as_back slot request sent = if went_as slot request sent then record sent { back = true } else sent

abbrev pub with_back : (from slot request : ℕ) → Operation → Operation
with_back from slot request operation =
    if target operation.transfer == from then record operation { sent = map (as_back slot request) operation.sent }
    else operation

-- the reply to that request of the node comes back: the chunk that went as it is back
abbrev pub come_back : (from slot request : ℕ) → List Operation → List Operation
come_back from slot request operations = map (with_back from slot request) operations

-- the chunk went as that request, and isn't back
abbrev pub is_out : (slot request : ℕ) → SentChunk → Bool
is_out slot request sent = went_as slot request sent && not sent.back

abbrev pub awaits : (from slot request : ℕ) → Operation → Bool
awaits from slot request operation =
    (target operation.transfer == from) && list_any (is_out slot request) operation.sent

-- some chunk went to the node as that request, and isn't back
abbrev pub has_out : (from slot request : ℕ) → List Operation → Bool
has_out from slot request operations = list_any (awaits from slot request) operations

-- each chunk that went to the node in that slot is back
abbrev pub IsFreeSlot : (operations : List Operation) → (to slot : ℕ) → Type 0
IsFreeSlot operations to slot =
    (place index : ℕ) (operation : Operation) (sent : SentChunk) → slice_get operations place ≡ Some operation
    → target operation.transfer ≡ to
    → slice_get operation.sent index ≡ Some sent → sent.slot ≡ slot → sent.back ≡ true

-- ---- the next chunk and its operation

-- the next chunk is of the operation of that number: the first that has one to its node
pub record IsFirst (can : ℕ → Bool) (operations : List Operation) (next : Next) : Type 0 where
  pub operation : Operation
  pub here : element_at operations next.number ≡ Some operation
  pub chunk : next ≡ chunk_of next.number operation
  pub has : has_next operation ≡ true
  pub open_to : can (target next.transfer) ≡ true
  pub issued : (slot request : ℕ) (bytes : List ℕ)
      → issue (target next.transfer) slot request bytes operations
      ≡ change (with_sent slot request bytes) operations next.number
