-- The places as keys of a slab, and the lists of those that are taken.
use Rattle.std.specs.Prelude.{ℕ, ◌≡◌, List, map, Option}
use Rattle.std.specs.List.{range_with_len, sum_by}
use Rattle.slab.specs.Slab.{Slab, get}
use Rattle.part_transfers.specs.declared.table.OperationRecord.{OperationRecord}
use Rattle.part_transfers.specs.declared.queue.Queued.{Queued}
use Rattle.part_transfers.specs.Queue.{Queues}
use Rattle.part_transfers.specs.Table.{waits_at, stands_at, regions_of}

-- a place for each key that a slab has room for, with what stands under the key
abbrev pub record_places : {Item : Type 0} → Slab Item → List (Option Item)
record_places slab = map (λ key. get slab key) (range_with_len 0 slab.capacity)

-- the lists have the places with a record, and of those the ones with an unissued chunk, by the numbers of their
-- operations; so many of the records are in regions
pub record IsIndexed (records : Slab OperationRecord) (queue standing : List Queued) (in_regions : ℕ) : Type 0 where
  pub room : records.capacity ≡ 256
  pub waiting : Queues (waits_at (record_places records)) queue
  pub listed : Queues (stands_at (record_places records)) standing
  pub regions : in_regions ≡ sum_by regions_of (record_places records)
