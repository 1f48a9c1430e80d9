-- A job with an area of collectives has their handler, and runs it as collectives are served.
use Rattle.std.proofs.Common.{◌≡◌, Bool, true, false, Some, refl, ap, ◌&&◌, ◌==◌}
use Rattle.part_handlers.specs.Registered.{entry_at, is_for_requests}
use Rattle.part_collective_area.specs.Served.{HasCollectives, ServesCollectives, collective_handler}
use Rattle.node_atomics.specs.BatchRequests.{batch_handler, block_handler}
use Rattle.text_script.specs.Bodies.{is_for_batches, script_meaning}
use Rattle.text_script.specs.Registration.{JobHandlers, collective_entry, entries_first, in_turn, registry_of}
use Rattle.text_script.specs.Registration.{registered_first}
use Rattle.text_script.proofs.Batches.{entry_kept}

-- the handler is there at first
collective_first : (atomics collect : Bool) → collect ≡ true
    → entry_at (entries_first atomics collect) collective_handler ≡ Some collective_entry
collective_first false true is = refl
collective_first true true is = refl
collective_first atomics false is = absurd (cc)

-- so it is when all handlers are registered
pub has_collectives : (handlers : JobHandlers) → handlers.collect ≡ true → HasCollectives (registry_of handlers).table
has_collectives handlers is =
    ap is_for_requests
    (entry_kept (in_turn handlers.texts) (registered_first handlers.atomics handlers.collect) collective_handler
    collective_entry (collective_first handlers.atomics handlers.collect is))

-- it is none of batches
no_batch : (handlers : JobHandlers) → is_for_batches handlers collective_handler ≡ false
no_batch handlers = by_flag handlers.atomics
  where
    by_flag : (atomics : Bool) → (atomics && false) ≡ false
    by_flag true = refl
    by_flag false = refl

-- and it serves collectives
pub serves_collectives : (handlers : JobHandlers) → handlers.collect ≡ true → ServesCollectives (script_meaning handlers)
serves_collectives handlers is = λ frame start. rw (no_batch handlers, is) refl
