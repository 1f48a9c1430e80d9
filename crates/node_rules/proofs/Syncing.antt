-- What the calls of threads leave of the operations keeps what operations and requests say of each other.
use Rattle.std.proofs.Common.{◌≡◌, inl, inr, ℕ, zero, suc, ◌==◌, ◌&&◌, not, Bool, true, true≢false, List, [], ◌∷◌}
use Rattle.std.proofs.Common.{map, Option, None, Some, refl, sym, ap, ◌∙◌, subst, arith}
use Rattle.std.specs.List.{list_any, list_all}
use Rattle.std.proofs.lemmas.Bool.{cases_Bool, and_parts}
use Rattle.base_lists.proofs.Cases.{none_some}
use Rattle.spec_node.specs.Record.{Request}
use Rattle.part_transfers.specs.Regions.{has_begun}
use Rattle.part_transfers.specs.declared.operation.Handle.{Handle}
use Rattle.part_transfers.specs.declared.operation.Mode.{Mode}
use Rattle.part_transfers.specs.declared.operation.Mode.TheVariants.{Explicit}
use Rattle.part_transfers.specs.declared.operation.Synced.{Synced}
use Rattle.part_transfers.specs.declared.operation.Synced.TheVariants as synced
use Rattle.part_transfers.specs.declared.operation.Transfer.{Transfer}
use Rattle.part_transfers.specs.Operation.{Operation, is_complete, is_full}
use Rattle.part_transfers.specs.Syncs.{Choice, chosen, left_by, sync_answer, exhausted_of, exhausted_or, members, members_of}
use Rattle.part_transfers.specs.Syncs.{members_answer}
use Rattle.part_transfers.specs.Syncs.{handle_answer, after_handle, is_empty, is_other, implicit_of, implicit_answer}
use Rattle.part_transfers.specs.Syncs.{unless_fault}
use Rattle.part_transfers.specs.Syncs.{fault_of, all_answer, some_answer, is_whole, whole_of}
use Rattle.part_transfers.proofs.Gone.{chosen_complete}
use Rattle.node_rules.specs.declared.answer.Begun.{Begun}
use Rattle.node_rules.specs.declared.answer.Begun.TheVariants as begun
use Rattle.node_rules.specs.EndpointLocal.{EndpointLocal}
use Rattle.node_rules.specs.TransferCalls.{TransferCall, Begin, BeginImplicit, Sync, SyncHandle, SyncAll}
use Rattle.node_rules.specs.TransferCalls.{SyncSome, SyncImplicit, Caller, transfer_does}
use Rattle.node_rules.specs.TransferCalls.{begin_says, after_beginning, implicit_mode, handle_in}
use Rattle.node_rules.specs.Tracking.{Tracks}
use Rattle.node_rules.proofs.Frames.{transfer_framed}
use Rattle.node_rules.proofs.Chunks.{AreComplete, tracks_begun, tracks_go}

-- ---- what a sync that says Ok finds

complete_by : (choice : Choice) (operations : List Operation)
    → list_all is_complete (chosen choice 1 operations) ≡ true → AreComplete choice operations
complete_by choice operations all zero operation at is = absurd (none_some at)
complete_by choice operations all (suc place) operation at is =
    chosen_complete choice 1 operations place operation all at (ap (λ n. choice n operation) (omega arith) ∙ is)

pub not_exhausted : (exhausted : Option ℕ) → exhausted_or exhausted ≡ synced.Ok → ⊥
not_exhausted None e = cc
not_exhausted (Some node) e = cc

pub sync_all : (exhausted : ℕ → Bool) (operations : List Operation) → sync_answer exhausted operations ≡ synced.Ok
    → list_all is_complete operations ≡ true
sync_all exhausted operations e = elim (cases_Bool (list_all is_complete operations)) [
  | inl all ↦ all
  | inr some ↦ absurd (not_exhausted (exhausted_of exhausted operations) (rw some at e))
]

pub bad_handle : synced.BadHandle ≡ synced.Ok → ⊥
bad_handle e = cc

pub not_yours : synced.NotYours ≡ synced.Ok → ⊥
not_yours e = cc

members_all : (exhausted : ℕ → Bool) (thread : ℕ) (operations : List Operation)
    → members_answer exhausted thread operations ≡ synced.Ok → list_all is_complete operations ≡ true
members_all exhausted thread operations e = elim (cases_Bool (is_empty operations)) [
  | inl none ↦ absurd (bad_handle (rw none at e))
  | inr some ↦ elim (cases_Bool (list_any (is_other thread) operations)) [
    | inl foreign ↦ absurd (not_yours (rw (some, foreign) at e))
    | inr own ↦ sync_all exhausted operations (rw (some, own) at e)
  ]
]

-- where no fault is found, the answer is the one without a fault
faultless : (thread : ℕ) (operations : List Operation) (handles : List Handle) (says : Synced)
    → unless_fault (fault_of thread operations handles) says ≡ synced.Ok → says ≡ synced.Ok
faultless thread operations [] says e = e
faultless thread operations (handle ∷ later) says e = elim (cases_Bool (handle.serial == 0)) [
  | inl invalid ↦ faultless thread operations later says (rw invalid at e)
  | inr valid ↦ elim (cases_Bool (is_empty (chosen (members handle.serial operations) 1 operations))) [
    | inl none ↦ absurd (bad_handle (rw (valid, none) at e))
    | inr some ↦
        elim (cases_Bool (list_any (is_other thread) (chosen (members handle.serial operations) 1 operations))) [
          | inl foreign ↦ absurd (not_yours (rw (valid, some, foreign) at e))
          | inr own ↦ faultless thread operations later says (rw (valid, some, own) at e)
        ]
  ]
]

any_has : {Item : Type 0} (test : Item → Bool) (items : List Item) → list_any test items ≡ true
    → (item : Item) × (test item ≡ true)
any_has test [] e = absurd (true≢false (sym e))
any_has test (item ∷ later) e = elim (cases_Bool (test item)) [
  | inl is ↦ (item, is)
  | inr isnt ↦ any_has test later (rw isnt at e)
]

-- what is whole is complete
whole_complete : (handles : List Handle) (operations : List Operation)
    → AreComplete (whole_of handles operations) operations
whole_complete handles operations number operation at chosen_so =
    let one = any_has (λ (handle : Handle).
    is_whole operations handle && members handle.serial operations number operation) handles chosen_so in
    let both = and_parts (is_whole operations one.0) (members one.0.serial operations number operation) one.1 in
    let whole = and_parts (not (one.0.serial == 0))
    (list_all is_complete (chosen (members one.0.serial operations) 1 operations)) both.0 in
    complete_by (members one.0.serial operations) operations whole.1 number operation at both.1

-- ---- each call

left_tracks : (version : ℕ) (asked : ℕ → List Request) (operations : List Operation) (choice : Choice) (says : Synced)
    → (says ≡ synced.Ok → AreComplete choice operations)
    → Tracks version asked operations → Tracks version asked (left_by says choice operations)
left_tracks version asked operations choice synced.Ok all tracks =
    tracks_go version asked operations choice (all refl) tracks
left_tracks version asked operations choice _ all tracks = tracks

handle_tracks : (version : ℕ) (asked : ℕ → List Request) (operations : List Operation) (exhausted : ℕ → Bool)
    (thread handle : ℕ) → Tracks version asked operations
    → Tracks version asked (after_handle (handle_answer exhausted thread handle operations) handle operations)
handle_tracks version asked operations exhausted thread handle tracks = elim (cases_Bool (handle == 0)) [
  | inl invalid ↦ rw invalid tracks
  | inr valid ↦ rw valid (left_tracks version asked operations (members handle operations)
      (members_answer exhausted thread (chosen (members handle operations) 1 operations))
      (λ ok. complete_by (members handle operations) operations (members_all exhausted thread _ ok)) tracks)
]

begin_tracks : (version : ℕ) (asked : ℕ → List Request) (caller : Caller) (transfer : Transfer) (mode : Mode)
    (says : Begun) (local : EndpointLocal) → Tracks version asked local.operations
    → Tracks version asked (after_beginning caller transfer mode says local).operations
begin_tracks version asked caller transfer mode (begun.Handle handle) local tracks =
    elim (cases_Bool (is_full local.operations)) [
      | inl full ↦ rw full tracks
      | inr free ↦ rw free (tracks_begun version asked local.operations _ refl refl tracks)
    ]
begin_tracks version asked caller transfer mode begun.Done local tracks = tracks
begin_tracks version asked caller transfer mode _ local tracks = tracks

pub transfer_tracks : (version : ℕ) (asked : ℕ → List Request) (caller : Caller) (call : TransferCall)
    (local : EndpointLocal) → Tracks version asked local.operations
    → Tracks version asked (transfer_does caller call local).1.operations
transfer_tracks version asked caller (Begin register transfer) local tracks =
    begin_tracks version asked caller transfer Explicit (begin_says caller transfer local.operations) local tracks
transfer_tracks version asked caller (BeginImplicit transfer) local tracks =
    begin_tracks version asked caller transfer (implicit_mode local.regions caller.thread)
    (begin_says caller transfer local.operations) local tracks
transfer_tracks version asked caller (Sync register) local tracks =
    handle_tracks version asked local.operations caller.exhausted caller.thread
    (handle_in local.registers register).serial tracks
transfer_tracks version asked caller (SyncHandle handle) local tracks =
    handle_tracks version asked local.operations caller.exhausted caller.thread handle.serial tracks
transfer_tracks version asked caller (SyncAll registers) local tracks =
    let operations = local.operations in
    let handles = map (handle_in local.registers) registers in
    left_tracks version asked operations (members_of handles operations)
    (all_answer caller.exhausted caller.thread handles operations)
    (λ ok. complete_by (members_of handles operations) operations
    (sync_all caller.exhausted (chosen (members_of handles operations) 1 operations)
    (faultless caller.thread operations handles _ ok))) tracks
transfer_tracks version asked caller (SyncSome registers) local tracks =
    let operations = local.operations in
    let handles = map (handle_in local.registers) registers in
    left_tracks version asked operations (whole_of handles operations)
    (some_answer caller.exhausted caller.thread handles operations) (λ ok. whole_complete handles operations) tracks
transfer_tracks version asked caller (SyncImplicit some) local tracks =
    elim (cases_Bool (has_begun local.regions caller.thread)) [
      | inl inside ↦ rw inside tracks
      | inr outside ↦ rw outside (left_tracks version asked local.operations (implicit_of caller.thread some)
          (implicit_answer caller.exhausted caller.thread some local.operations)
          (λ ok. complete_by (implicit_of caller.thread some) local.operations
          (sync_all caller.exhausted (chosen (implicit_of caller.thread some) 1 local.operations) ok)) tracks)
    ]
transfer_tracks version asked caller call local tracks =
    subst (Tracks version asked) (sym ((transfer_framed caller call local).operations refl)) tracks
