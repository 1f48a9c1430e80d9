-- Which handler of a job has which index.
-- Origin: GASNet 1.8.1, core API, the table of handlers; in which order the indexes are given is this project's
-- profile.
use Rattle.std.specs.Prelude.{ℕ, ◌==◌, is_some, Bool, true, false, not, List, [], ◌∷◌, ◌++◌, Option, Result, Ok, Err}
use Rattle.std.specs.Prelude.{if◌then◌else◌}
use Rattle.std.specs.List.{filter, fold}
use Rattle.part_handlers.specs.declared.table.Entry.{Entry}
use Rattle.part_handlers.specs.declared.table.EntryFault.{EntryFault}
use Rattle.part_handlers.specs.Registered.{no_entries, index_for, only, registering}
use Rattle.part_collective_area.specs.Served.{collective_handler}
use Rattle.part_handlers.specs.declared.serves.Serves.TheVariants as serves
use Rattle.node_atomics.specs.Served.{batch_entry, block_entry}
use Rattle.text_job.specs.Locks.{listed_by}
use Rattle.text_steps.specs.declared.steps.Action.{Action}
use Rattle.text_job.specs.declared.job.HandlerText.{HandlerText}
use Rattle.text_job.specs.declared.job.Job.{Job}

-- the handlers of a job: whether those of batches of atomic operations are among them, whether that of collectives is,
-- and the texts of its own
pub record JobHandlers : Type 0 where
  pub atomics : Bool
  pub collect : Bool
  pub texts : List HandlerText

abbrev pub handlers_of : Job → JobHandlers
handlers_of job = record { atomics = job.atomics; collect = is_some job.collect; texts = job.handlers }

-- a table of handlers, and the bodies of those that are registered, with their indexes
pub record Registry : Type 0 where
  pub table : List (Option Entry)
  pub bodies : List (ℕ × List Action)

-- ---- before a job's own handlers

-- the table after an entry asked for its index
abbrev pub with_entry : List (Option Entry) → Entry → List (Option Entry)
with_entry table entry = registering table entry (index_for table entry.index)

-- both handlers of batches are registered, where the job has atomics
abbrev pub batch_entries : (atomics : Bool) → List (Option Entry)
batch_entries false = no_entries
batch_entries true = with_entry (with_entry no_entries batch_entry) block_entry

-- the entry that the handler of collectives asks for
abbrev pub collective_entry : Entry
collective_entry = record { index = collective_handler; serves = serves.Requests; locks = 0 }

-- the table at first: then that of collectives is registered, where the job has an area of them
abbrev pub entries_first : (atomics collect : Bool) → List (Option Entry)
entries_first atomics false = batch_entries atomics
entries_first atomics true = with_entry (batch_entries atomics) collective_entry

-- no handler of the job's own is registered
abbrev pub registered_first : (atomics collect : Bool) → Registry
registered_first atomics collect = record { table = entries_first atomics collect; bodies = [] }

-- ---- a job's own handlers

-- the entry that a handler asks for
abbrev pub entry_of : HandlerText → Entry
entry_of text = record { index = text.index; serves = only text.role; locks = listed_by text.locks }

-- after a handler got this index, if it got one
abbrev pub with_index : Registry → HandlerText → Result ℕ EntryFault → Registry
with_index registry text (Ok index) = record {
  table = registering registry.table (entry_of text) (Ok index);
  bodies = registry.bodies ++ (index, text.body) ∷ [];
}
with_index registry text (Err fault) = registry

-- after a handler asked for its index
abbrev pub register : Registry → HandlerText → Registry
register registry text = with_index registry text (index_for registry.table text.index)

-- those with an index of their own, in order, and then those that ask for any, in order
abbrev pub in_turn : List HandlerText → List HandlerText
in_turn texts = filter (λ text. not (text.index == 0)) texts ++ filter (λ text. text.index == 0) texts

-- all handlers of a job
abbrev pub registry_of : JobHandlers → Registry
registry_of handlers = fold register (registered_first handlers.atomics handlers.collect) (in_turn handlers.texts)

-- the body of this index; none, which does nothing, for another one
abbrev pub body_among : List (ℕ × List Action) → (index : ℕ) → List Action
body_among [] index = []
body_among (body ∷ bodies) index = if body.0 == index then body.1 else body_among bodies index

-- the body of the handler of the job's own that is registered for this index
abbrev pub body_for : JobHandlers → (index : ℕ) → List Action
body_for handlers index = body_among (registry_of handlers).bodies index
