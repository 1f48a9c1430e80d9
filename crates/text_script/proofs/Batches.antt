-- A job with atomics has the handlers of batches, and runs them as batches are served.
use Rattle.std.proofs.Common.{◌≡◌, ◌≢◌, ℕ, List, [], ◌∷◌, Bool, true, false, Option, Some, Result, Ok, Err, refl, ap}
use Rattle.std.proofs.Common.{◌∙◌, sym, is_none}
use Rattle.std.specs.List.{fold}
use Rattle.part_handlers.specs.declared.table.Entry.{Entry}
use Rattle.part_handlers.specs.declared.table.EntryFault.{EntryFault}
use Rattle.part_handlers.specs.Registered.{entry_at, index_for, is_for_replies, is_for_requests}
use Rattle.node_atomics.specs.BatchRequests.{batch_handler, block_handler}
use Rattle.node_atomics.specs.Served.{HasBatches, ServesBatches, batch_entry, block_entry}
use Rattle.text_job.specs.declared.job.HandlerText.{HandlerText}
use Rattle.text_script.specs.Bodies.{script_meaning}
use Rattle.text_script.specs.Registration.{JobHandlers, Registry, entries_first, entry_of, in_turn, register, registry_of}
use Rattle.text_script.specs.Registration.{registered_first, with_index}
use Rattle.text_script.proofs.Placing.{IsFree, at_index-set_other, given_free}

-- an index with an entry isn't one that is free
not_free : (table : List (Option Entry)) (index other : ℕ) (entry : Entry) → entry_at table index ≡ Some entry
    → IsFree table other → index ≢ other
not_free table index other entry at free same =
    let none : is_none (entry_at table index) ≡ true = ap (λ (k : ℕ). is_none (entry_at table k)) same ∙ free.free in
    let some : is_none (entry_at table index) ≡ false = ap is_none at in
    let both = sym none ∙ some in
    cc

-- an entry stays where another handler asks for its index
entry_stays : (registry : Registry) (text : HandlerText) (index : ℕ) (entry : Entry)
    → entry_at registry.table index ≡ Some entry → entry_at (register registry text).table index ≡ Some entry
entry_stays registry text index entry at = by_answer (index_for registry.table text.index) refl
  where
    by_answer : (got : Result ℕ EntryFault) → index_for registry.table text.index ≡ got
        → entry_at (with_index registry text got).table index ≡ Some entry
    by_answer (Err fault) is = at
    by_answer (Ok other) is =
        let free = given_free registry.table text.index other is in
        at_index-set_other registry.table other index (Some (record (entry_of text) { index = other })) free.high
        (not_free registry.table index other entry at free)
        ∙ at

-- so it does where all of them ask
pub entry_kept : (texts : List HandlerText) (registry : Registry) (index : ℕ) (entry : Entry)
    → entry_at registry.table index ≡ Some entry → entry_at (fold register registry texts).table index ≡ Some entry
entry_kept [] registry index entry at = at
entry_kept (text ∷ texts) registry index entry at =
    entry_kept texts (register registry text) index entry (entry_stays registry text index entry at)

-- both handlers of batches are there at first
requests_first : (atomics collect : Bool) → atomics ≡ true
    → entry_at (entries_first atomics collect) batch_handler ≡ Some batch_entry
requests_first true false is = refl
requests_first true true is = refl
requests_first false collect is = absurd (cc)

replies_first : (atomics collect : Bool) → atomics ≡ true
    → entry_at (entries_first atomics collect) block_handler ≡ Some block_entry
replies_first true false is = refl
replies_first true true is = refl
replies_first false collect is = absurd (cc)

-- so they are when all handlers are registered
pub has_batches : (handlers : JobHandlers) → handlers.atomics ≡ true → HasBatches (registry_of handlers).table
has_batches handlers is = record {
  requests = ap is_for_requests
      (entry_kept (in_turn handlers.texts) (registered_first handlers.atomics handlers.collect) batch_handler
      batch_entry (requests_first handlers.atomics handlers.collect is));
  replies = ap is_for_replies
      (entry_kept (in_turn handlers.texts) (registered_first handlers.atomics handlers.collect) block_handler
      block_entry (replies_first handlers.atomics handlers.collect is));
}

-- and they serve batches
pub serves_batches : (handlers : JobHandlers) → handlers.atomics ≡ true → ServesBatches (script_meaning handlers)
serves_batches handlers is =
    record { requests = λ frame start. rw is refl; replies = λ frame start. rw is refl }
