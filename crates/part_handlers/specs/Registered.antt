-- A table of handlers as a value. At place k stands the entry that is registered for the index 128 + k, if there is one.
-- Origin: GASNet 1.8.1, core API, the table of handlers that a client registers: indexes from 128 to 255 are the
-- client's, and 0 means 'don't care'.
use Rattle.std.specs.Prelude.{◌≡◌, length, [], ◌∷◌, Bool, true, false, ℕ, ◌+◌, ◌-◌, ◌==◌, List, Option, Some, None}
use Rattle.std.specs.Prelude.{Result, Ok, Err, nat_lt, bit_or, replicate, slice_get, slice_set, position}
use Rattle.std.specs.Prelude.{if◌then◌else◌, is_none, option_and_then}
use Rattle.part_handlers.specs.declared.rules.Role.{Role}
use Rattle.part_handlers.specs.declared.rules.Role.TheVariants as role
use Rattle.part_handlers.specs.declared.serves.Serves.{Serves}
use Rattle.part_handlers.specs.declared.serves.Serves.TheVariants as served
use Rattle.part_handlers.specs.declared.table.Entry.{Entry}
use Rattle.part_handlers.specs.declared.table.EntryFault.{EntryFault}
use Rattle.part_handlers.specs.declared.table.EntryFault.TheVariants.{Reserved, Taken, Full}

-- nothing is registered
abbrev pub no_entries : List (Option Entry)
no_entries = replicate 128 None

-- the entry of an index; none for an index below 128
abbrev pub entry_at : List (Option Entry) → (index : ℕ) → Option Entry
entry_at table index = if nat_lt index 128 then None else option_and_then (λ e. e) (slice_get table (index - 128))

-- the lowest index from 128 up for which nothing is registered; Full where there is none
abbrev pub lowest_free : Option ℕ → Result ℕ EntryFault
lowest_free None = Err Full
lowest_free (Some place) = Ok (128 + place)

-- the index itself, if nothing is registered for it
abbrev pub unless_taken : (index : ℕ) → Option Entry → Result ℕ EntryFault
unless_taken index None = Ok index
unless_taken index (Some e) = Err Taken

-- the index for an entry that asks for this one: the lowest free one for 0, none from 1 to 127, else the one that it
-- asks for
abbrev pub index_for : List (Option Entry) → (asked : ℕ) → Result ℕ EntryFault
index_for table asked =
    if asked == 0 then lowest_free (position is_none table)
    else if nat_lt asked 128 then Err Reserved
    else unless_taken asked (entry_at table asked)

-- the table with this entry registered for the index, if it got one
abbrev pub registering : List (Option Entry) → Entry → Result ℕ EntryFault → List (Option Entry)
registering table e (Ok index) = slice_set table (index - 128) (Some (record e { index = index }))
registering table e (Err fault) = table

-- ---- the messages that a handler may run for

-- a handler of these messages may run for requests
abbrev pub serves_requests : Serves → Bool
serves_requests served.Requests = true
serves_requests served.Replies = false
serves_requests served.Both = true

-- a handler of these messages may run for replies
abbrev pub serves_replies : Serves → Bool
serves_replies served.Requests = false
serves_replies served.Replies = true
serves_replies served.Both = true

-- a handler of these messages may run for messages of this role
abbrev pub serves : Serves → Role → Bool
serves these role.Request = serves_requests these
serves these role.Reply = serves_replies these

-- the messages of this role alone
abbrev pub only : Role → Serves
only role.Request = served.Requests
only role.Reply = served.Replies

-- an entry is there, and its handler may run for requests
abbrev pub is_for_requests : Option Entry → Bool
is_for_requests None = false
is_for_requests (Some entry) = serves_requests entry.serves

-- an entry is there, and its handler may run for replies
abbrev pub is_for_replies : Option Entry → Bool
is_for_replies None = false
is_for_replies (Some entry) = serves_replies entry.serves

-- a handler that may run for messages of this role is registered for the index
abbrev pub has_entry : List (Option Entry) → Role → (index : ℕ) → Bool
has_entry table role.Request index = is_for_requests (entry_at table index)
has_entry table role.Reply index = is_for_replies (entry_at table index)

-- ---- locks

-- the locks that the handler of a reply may take: bit k for lock k; none where there is no entry, or one for requests
-- alone
abbrev pub locks_in_replies : Option Entry → ℕ
locks_in_replies None = 0
locks_in_replies (Some entry) = if serves_replies entry.serves then entry.locks else 0

-- the locks that any handler of replies may take
abbrev pub reply_locks : List (Option Entry) → ℕ
reply_locks [] = 0
reply_locks (place ∷ places) = bit_or (locks_in_replies place) (reply_locks places)

-- there are 128 places, and these are the locks that any handler of replies may take
pub record IsTable (table : List (Option Entry)) (locks : ℕ) : Type 0 where
  pub places : length table ≡ 128
  pub replies : locks ≡ reply_locks table
