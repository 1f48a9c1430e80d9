-- Which operations a sync speaks of, and what it answers.
use Rattle.std.specs.Prelude.{ℕ, suc, ◌==◌, Bool, true, false, not, ◌&&◌, ◌||◌, if◌then◌else◌, min, unwrap_or}
use Rattle.std.specs.Prelude.{List, [], ◌∷◌, Option, None, Some, slice_get}
use Rattle.std.specs.List.{list_any, list_all}
use Rattle.std.specs.Option.{option_or}
use Rattle.part_transfers.specs.declared.operation.Transfer.{Transfer}
use Rattle.part_transfers.specs.declared.operation.Mode.{Mode}
use Rattle.part_transfers.specs.declared.operation.Mode.TheVariants.{Implicit}
use Rattle.part_transfers.specs.declared.operation.ImplicitKinds.{ImplicitKinds}
use Rattle.part_transfers.specs.declared.operation.ImplicitKinds.TheVariants.{Puts, Gets, All}
use Rattle.part_transfers.specs.declared.operation.Handle.{Handle}
use Rattle.part_transfers.specs.declared.operation.Synced.{Synced}
use Rattle.part_transfers.specs.declared.operation.Synced.TheVariants as synced
use Rattle.part_transfers.specs.Operation.{Operation, target, is_get, has_next, is_complete}

-- the flag of a node; none is false
abbrev pub flag_at : List Bool → (node : ℕ) → Bool
flag_at flags node = unwrap_or (slice_get flags node) false

-- ---- which operations

-- a choice of operations: by its number and the operation
abbrev pub Choice : Type 0
Choice = ℕ → Operation → Bool

-- the operations chosen, where the first one here has this number
abbrev pub chosen : Choice → (number : ℕ) → List Operation → List Operation
chosen choice number [] = []
chosen choice number (operation ∷ later) =
    if choice number operation then operation ∷ chosen choice (suc number) later else chosen choice (suc number) later

-- they are marked as synchronised
abbrev pub go : Choice → (number : ℕ) → List Operation → List Operation
go choice number [] = []
go choice number (operation ∷ later) =
    (if choice number operation then record operation { synced = true } else operation) ∷ go choice (suc number) later

abbrev pub is_empty : List Operation → Bool
is_empty [] = true
is_empty (operation ∷ later) = false

abbrev pub is_name : ℕ → Option ℕ → Bool
is_name name None = false
is_name name (Some region) = region == name

abbrev pub in_region : (name : ℕ) → Choice
in_region name number operation = not operation.synced && is_name name operation.region

-- the members of a handle: those of the region of that name, or else the operation with that number, as far as they
-- aren't synchronised
abbrev pub members : (handle : ℕ) → List Operation → Choice
members handle operations number operation =
    if is_empty (chosen (in_region handle) 1 operations) then not operation.synced && (number == handle)
    else in_region handle number operation

-- memsets are puts
abbrev pub is_kind : ImplicitKinds → Transfer → Bool
is_kind Puts transfer = not (is_get transfer)
is_kind Gets transfer = is_get transfer
is_kind All transfer = true

abbrev pub is_implicit : Mode → Bool
is_implicit Implicit = true
is_implicit _ = false

-- the thread's implicit operations outside regions
abbrev pub implicit_of : (thread : ℕ) → ImplicitKinds → Choice
implicit_of thread which number operation =
    not operation.synced
    && (is_implicit operation.mode && ((operation.thread == thread) && is_kind which operation.transfer))

-- ---- the answers

abbrev pub less : ℕ → Option ℕ → Option ℕ
less node None = Some node
less node (Some other) = Some (min node other)

-- the smallest node that is exhausted and has an unissued chunk of these
abbrev pub exhausted_of : (exhausted : ℕ → Bool) → List Operation → Option ℕ
exhausted_of exhausted [] = None
exhausted_of exhausted (operation ∷ later) =
    if exhausted (target operation.transfer) && has_next operation then less (target operation.transfer) (exhausted_of exhausted later)
    else exhausted_of exhausted later

abbrev pub exhausted_or : Option ℕ → Synced
exhausted_or None = synced.NotReady
exhausted_or (Some node) = synced.Exhausted node

-- a sync of these operations, where there is no fault
abbrev pub sync_answer : (exhausted : ℕ → Bool) → List Operation → Synced
sync_answer exhausted operations = if list_all is_complete operations then synced.Ok else exhausted_or (exhausted_of exhausted operations)

abbrev pub is_other : (thread : ℕ) → Operation → Bool
is_other thread operation = not (operation.thread == thread)

-- what is wrong with a handle that has these members
abbrev pub fault_here : (thread : ℕ) → List Operation → Option Synced
fault_here thread operations =
    if is_empty operations then Some synced.BadHandle
    else (if list_any (is_other thread) operations then Some synced.NotYours else None)

-- the fault, or else the answer
abbrev pub unless_fault : Option Synced → Synced → Synced
unless_fault None answer = answer
unless_fault (Some fault) answer = fault

-- a sync of a handle whose members are these
abbrev pub members_answer : (exhausted : ℕ → Bool) → (thread : ℕ) → List Operation → Synced
members_answer exhausted thread operations = unless_fault (fault_here thread operations) (sync_answer exhausted operations)

abbrev pub handle_answer : (exhausted : ℕ → Bool) → (thread handle : ℕ) → List Operation → Synced
handle_answer exhausted thread handle operations =
    if handle == 0 then synced.Ok else members_answer exhausted thread (chosen (members handle operations) 1 operations)

-- where the answer is Ok those chosen go
abbrev pub left_by : Synced → Choice → List Operation → List Operation
left_by synced.Ok choice operations = go choice 1 operations
left_by _ choice operations = operations

-- what a sync of a handle leaves
abbrev pub after_handle : (answer : Synced) → (handle : ℕ) → List Operation → List Operation
after_handle answer handle operations =
    if handle == 0 then operations else left_by answer (members handle operations) operations

abbrev pub implicit_answer : (exhausted : ℕ → Bool) → (thread : ℕ) → ImplicitKinds → List Operation → Synced
implicit_answer exhausted thread which operations = sync_answer exhausted (chosen (implicit_of thread which) 1 operations)

-- every chunk of every member was issued; None where there is no member
abbrev pub issued_answer : (handle : ℕ) → List Operation → Option Bool
issued_answer handle operations =
    if handle == 0 then Some true
    else (if is_empty (chosen (members handle operations) 1 operations) then None
    else Some (not (list_any has_next (chosen (members handle operations) 1 operations))))

-- ---- lists of handles

-- the first fault of these handles: no member, or another thread's
abbrev pub fault_of : (thread : ℕ) → List Operation → List Handle → Option Synced
fault_of thread operations [] = None
fault_of thread operations (handle ∷ later) =
    if handle.serial == 0 then fault_of thread operations later
    else option_or (fault_here thread (chosen (members handle.serial operations) 1 operations))
    (fault_of thread operations later)

-- the members of these handles
abbrev pub members_of : List Handle → List Operation → Choice
members_of handles operations number operation =
    list_any (λ (handle : Handle). not (handle.serial == 0) && members handle.serial operations number operation)
    handles

-- the sync of all of these handles
abbrev pub all_answer : (exhausted : ℕ → Bool) → (thread : ℕ) → List Handle → List Operation → Synced
all_answer exhausted thread handles operations =
    unless_fault (fault_of thread operations handles)
    (sync_answer exhausted (chosen (members_of handles operations) 1 operations))

-- the handle has operations, and all are complete
abbrev pub is_whole : List Operation → Handle → Bool
is_whole operations handle =
    not (handle.serial == 0) && list_all is_complete (chosen (members handle.serial operations) 1 operations)

-- the members of those of these handles that are complete
abbrev pub whole_of : List Handle → List Operation → Choice
whole_of handles operations number operation =
    list_any (λ (handle : Handle). is_whole operations handle && members handle.serial operations number operation)
    handles

-- the sync of those of these handles that are complete, where there is no fault
abbrev pub some_here : (exhausted : ℕ → Bool) → List Handle → List Operation → Synced
some_here exhausted handles operations =
    if list_all (λ (handle : Handle). handle.serial == 0) handles || list_any (is_whole operations) handles
    then synced.Ok
    else exhausted_or (exhausted_of exhausted (chosen (members_of handles operations) 1 operations))

abbrev pub some_answer : (exhausted : ℕ → Bool) → (thread : ℕ) → List Handle → List Operation → Synced
some_answer exhausted thread handles operations =
    unless_fault (fault_of thread operations handles) (some_here exhausted handles operations)
