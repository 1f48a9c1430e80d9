-- What a sync that answers Ok finds and leaves, and what a transfer leaves that is done in its call.
use Rattle.std.proofs.Common.{◌≡◌, ◌⊎◌, inl, inr, ℕ, zero, suc, ◌+◌, ◌==◌, Bool, true, false, true≢false, List, [], ◌∷◌}
use Rattle.std.proofs.Common.{◌++◌, map, length, Option, None, Some, refl, sym, ap, ◌∙◌, subst, arith, eqb}
use Rattle.std.specs.Prelude.{not, ◌&&◌, if◌then◌else◌, Ok, Err}
use Rattle.std.specs.List.{slice_get, list_all, list_any}
use Rattle.std.specs.Option.{option_or}
use Rattle.std.proofs.lemmas.Bool.{cases_Bool, and_parts, or_parts, eqb-true, not-false, not-true}
use Rattle.std.proofs.lemmas.Option.{same_Some}
use Rattle.wire_message.specs.Parameters.{Parameters}
use Rattle.part_handlers.specs.declared.table.Entry.{Entry}
use Rattle.part_handlers.specs.declared.rules.Forbidden.{Forbidden}
use Rattle.part_handlers.specs.declared.message.Which.{Which}
use Rattle.part_handlers.specs.Runs.{Meaning}
use Rattle.base_lists.specs.Numbered.{element_at}
use Rattle.part_transfers.specs.Regions.{has_begun}
use Rattle.spec_node.specs.NodeStep.{OfCall}
use Rattle.spec_network.specs.World.{EventAt, Event, OfNode, world_answer, world_after}
use Rattle.part_transfers.specs.declared.operation.Handle.{Handle}
use Rattle.part_transfers.specs.declared.operation.Mode.{Mode}
use Rattle.part_transfers.specs.declared.operation.Mode.TheVariants.{Explicit}
use Rattle.part_transfers.specs.declared.operation.ImplicitKinds.{ImplicitKinds}
use Rattle.part_transfers.specs.declared.operation.Synced.{Synced}
use Rattle.part_transfers.specs.declared.operation.Synced.TheVariants as synced
use Rattle.part_transfers.specs.declared.operation.Transfer.{Transfer}
use Rattle.part_transfers.specs.Operation.{Operation, target, size, is_complete, is_full}
use Rattle.part_transfers.specs.Syncs.{Choice, chosen, go, members, members_of, whole_of, is_whole, implicit_of, is_implicit}
use Rattle.part_transfers.specs.Syncs.{is_kind, is_empty, is_other, handle_answer, after_handle, members_answer}
use Rattle.part_transfers.specs.Syncs.{fault_of, fault_here, unless_fault, all_answer, some_answer}
use Rattle.part_transfers.specs.Syncs.{implicit_answer, left_by}
use Rattle.part_transfers.proofs.Gone.{chosen_complete}
use Rattle.node_rules.specs.declared.answer.Answer.{Answer}
use Rattle.node_rules.specs.declared.answer.Answer.TheVariants as answers
use Rattle.node_rules.specs.declared.answer.Begun.TheVariants as begun
use Rattle.node_rules.specs.declared.answer.Region.{Region as RegionAnswer}
use Rattle.node_rules.specs.EndpointLocal.{EndpointLocal}
use Rattle.node_core.specs.Kept.{segment_of}
use Rattle.part_segment.specs.Image.{Write}
use Rattle.node_rules.specs.EndpointRules.{OtherCall, Records, job_of}
use Rattle.node_rules.specs.TransferCalls.{TransferCall, Begin, BeginImplicit, Sync, SyncHandle, SyncAll}
use Rattle.node_rules.specs.TransferCalls.{SyncSome, SyncImplicit, Caller, transfer_does}
use Rattle.node_rules.specs.TransferCalls.{handle_in, transfer_fault, is_at_once, begun_as, unless_bad, begin_says}
use Rattle.node_rules.specs.TransferCalls.{after_beginning, implicit_mode, written_at_once}
use Rattle.law_transfers.specs.Chunks.{writes_at}
use Rattle.law_transfers.specs.TransferLaws.{transfer_event, members_by, synced_by, OkGoes, OwnIsDone}
use Rattle.law_transfers.proofs.Begins.{caller_of, left_there, told_there, allowed_there, begun_same, started_same}
use Rattle.node_rules.proofs.Syncing.{sync_all, bad_handle, not_yours}

-- ---- a sync of operations that answers Ok

-- none is another thread's, and all are complete
members_say : (exhausted : ℕ → Bool) (thread : ℕ) (operations : List Operation)
    → members_answer exhausted thread operations ≡ synced.Ok
    → (list_any (is_other thread) operations ≡ false) × (list_all is_complete operations ≡ true)
members_say exhausted thread operations e = elim (cases_Bool (is_empty operations)) [
  | inl none ↦ absurd (bad_handle (rw none at e))
  | inr some ↦ elim (cases_Bool (list_any (is_other thread) operations)) [
    | inl foreign ↦ absurd (not_yours (rw (some, foreign) at e))
    | inr own ↦ (own, sync_all exhausted operations (rw (some, own) at e))
  ]
]

-- ---- those chosen

chosen_own : (thread : ℕ) (choice : Choice) (number : ℕ) (operations : List Operation) (place : ℕ)
    (operation : Operation) → list_any (is_other thread) (chosen choice number operations) ≡ false
    → slice_get operations place ≡ Some operation → choice (number + place) operation ≡ true
    → operation.thread ≡ thread
chosen_own thread choice number [] place operation none at is = absurd (cc)
chosen_own thread choice number (first ∷ later) zero operation none at is =
    let same : first ≡ operation = same_Some _ _ at in
    let here : choice number first ≡ true
    = ap (choice number) same ∙ (ap (λ n. choice n operation) (omega arith) ∙ is) in
    let own = (or_parts (is_other thread first) (list_any (is_other thread) (chosen choice (suc number) later))
    (rw here at none)).0 in
    ap (λ (o : Operation). o.thread) (sym same)
    ∙ eqb-true first.thread thread (not-false (eqb first.thread thread) own)
chosen_own thread choice number (first ∷ later) (suc place) operation none at is =
    elim (cases_Bool (choice number first)) [
      | inl here ↦ chosen_own thread choice (suc number) later place operation
          ((or_parts (is_other thread first) (list_any (is_other thread) (chosen choice (suc number) later))
          (rw here at none)).1) at
          (ap (λ n. choice n operation) (omega arith) ∙ is)
      | inr isnt ↦ chosen_own thread choice (suc number) later place operation (rw isnt at none) at
          (ap (λ n. choice n operation) (omega arith) ∙ is)
    ]

go_at : (choice : Choice) (number : ℕ) (operations : List Operation) (place : ℕ) (operation : Operation)
    → slice_get operations place ≡ Some operation → choice (number + place) operation ≡ true
    → slice_get (go choice number operations) place ≡ Some (record operation { synced = true })
go_at choice number [] place operation at is = absurd (cc)
go_at choice number (first ∷ later) zero operation at is =
    let same : first ≡ operation = same_Some _ _ at in
    let here : choice number first ≡ true
    = ap (choice number) same ∙ (ap (λ n. choice n operation) (omega arith) ∙ is) in
    rw here (ap (λ (o : Operation). Some (record o { synced = true })) same)
go_at choice number (first ∷ later) (suc place) operation at is =
    go_at choice (suc number) later place operation at (ap (λ n. choice n operation) (omega arith) ∙ is)

-- the operation is the thread's and complete, and is marked afterwards
pub record IsOver (after : List Operation) (thread number : ℕ) (operation : Operation) : Type 0 where
  pub own : operation.thread ≡ thread
  pub complete : is_complete operation ≡ true
  pub marked : element_at after number ≡ Some (record operation { synced = true })

-- where those chosen are the thread's and complete, and go
chosen_over : (thread : ℕ) (choice : Choice) (operations : List Operation) (number : ℕ) (operation : Operation)
    → list_any (is_other thread) (chosen choice 1 operations) ≡ false
    → list_all is_complete (chosen choice 1 operations) ≡ true
    → element_at operations number ≡ Some operation → choice number operation ≡ true
    → IsOver (go choice 1 operations) thread number operation
chosen_over thread choice operations zero operation own complete at is = absurd (cc)
chosen_over thread choice operations (suc place) operation own complete at is =
    let here : choice (1 + place) operation ≡ true = ap (λ n. choice n operation) (omega arith) ∙ is in
    record {
      own = chosen_own thread choice 1 operations place operation own at here;
      complete = chosen_complete choice 1 operations place operation complete at here;
      marked = go_at choice 1 operations place operation at here;
    }

-- one that is known to be the thread's
known_over : (thread : ℕ) (choice : Choice) (operations : List Operation) (number : ℕ) (operation : Operation)
    → operation.thread ≡ thread → is_complete operation ≡ true
    → element_at operations number ≡ Some operation → choice number operation ≡ true
    → IsOver (go choice 1 operations) thread number operation
known_over thread choice operations zero operation own complete at is = absurd (cc)
known_over thread choice operations (suc place) operation own complete at is = record {
  own = own;
  complete = complete;
  marked = go_at choice 1 operations place operation at (ap (λ n. choice n operation) (omega arith) ∙ is);
}

-- those chosen are complete
complete_at : (choice : Choice) (operations : List Operation) (number : ℕ) (operation : Operation)
    → list_all is_complete (chosen choice 1 operations) ≡ true
    → element_at operations number ≡ Some operation → choice number operation ≡ true → is_complete operation ≡ true
complete_at choice operations zero operation all at is = absurd (cc)
complete_at choice operations (suc place) operation all at is =
    chosen_complete choice 1 operations place operation all at (ap (λ n. choice n operation) (omega arith) ∙ is)

-- and the thread's
own_at : (thread : ℕ) (choice : Choice) (operations : List Operation) (number : ℕ) (operation : Operation)
    → list_any (is_other thread) (chosen choice 1 operations) ≡ false
    → element_at operations number ≡ Some operation → choice number operation ≡ true → operation.thread ≡ thread
own_at thread choice operations zero operation none at is = absurd (cc)
own_at thread choice operations (suc place) operation none at is =
    chosen_own thread choice 1 operations place operation none at (ap (λ n. choice n operation) (omega arith) ∙ is)

-- ---- a sync of a handle

handle_over : (exhausted : ℕ → Bool) (thread handle : ℕ) (operations : List Operation) (number : ℕ) (operation : Operation)
    → handle_answer exhausted thread handle operations ≡ synced.Ok
    → element_at operations number ≡ Some operation → members_by handle operations number operation ≡ true
    → IsOver (after_handle synced.Ok handle operations) thread number operation
handle_over exhausted thread handle operations number operation ok at is =
    let both = and_parts (not (handle == 0)) (members handle operations number operation) is in
    let valid : (handle == 0) ≡ false = not-true (handle == 0) both.0 in
    let said : members_answer exhausted thread (chosen (members handle operations) 1 operations)
    ≡ synced.Ok = rw valid at ok in
    let it = members_say exhausted thread (chosen (members handle operations) 1 operations) said in
    rw valid (chosen_over thread (members handle operations) operations number operation it.0 it.1 at both.1)

-- ---- lists of handles

-- a fault isn't Ok
here_not_ok : (thread : ℕ) (operations : List Operation) (fault : Synced) → fault_here thread operations ≡ Some fault
    → fault ≡ synced.Ok → ⊥
here_not_ok thread operations fault is ok = elim (cases_Bool (is_empty operations)) [
  | inl none ↦ bad_handle (same_Some _ _ (rw none at is) ∙ ok)
  | inr some ↦ elim (cases_Bool (list_any (is_other thread) operations)) [
    | inl foreign ↦ not_yours (same_Some _ _ (rw (some, foreign) at is) ∙ ok)
    | inr own ↦ nothing (rw (some, own) at is)
  ]
]
  where
    nothing : ◌≡◌ {A = Option Synced} None (Some fault) → ⊥
    nothing e = cc

or_some : (one other : Option Synced) (fault : Synced) → option_or one other ≡ Some fault
    → (one ≡ Some fault) ⊎ (other ≡ Some fault)
or_some None other fault is = inr is
or_some (Some first) other fault is = inl is

or_none : (one other : Option Synced) → option_or one other ≡ None → (one ≡ None) × (other ≡ None)
or_none None other is = (refl, is)
or_none (Some first) other is = absurd (cc)

fault_not_ok : (thread : ℕ) (operations : List Operation) (handles : List Handle) (fault : Synced)
    → fault_of thread operations handles ≡ Some fault → fault ≡ synced.Ok → ⊥
fault_not_ok thread operations [] fault is ok = cc
fault_not_ok thread operations (handle ∷ later) fault is ok = elim (cases_Bool (handle.serial == 0)) [
  | inl invalid ↦ fault_not_ok thread operations later fault (rw invalid at is) ok
  | inr valid ↦ elim (or_some (fault_here thread (chosen (members handle.serial operations) 1 operations))
      (fault_of thread operations later) fault (rw valid at is)) [
        | inl here ↦ here_not_ok thread (chosen (members handle.serial operations) 1 operations) fault here ok
        | inr there ↦ fault_not_ok thread operations later fault there ok
      ]
]

-- an answer that is Ok has no fault
without_fault : (fault : Option Synced) (answer : Synced) → ((one : Synced) → fault ≡ Some one → one ≡ synced.Ok → ⊥)
    → unless_fault fault answer ≡ synced.Ok → (fault ≡ None) × (answer ≡ synced.Ok)
without_fault None answer not_so is = (refl, is)
without_fault (Some fault) answer not_so is = absurd (not_so fault refl is)

-- none of the members of a handle is another thread's
here_own : (thread : ℕ) (operations : List Operation) → fault_here thread operations ≡ None
    → list_any (is_other thread) operations ≡ false
here_own thread operations is = elim (cases_Bool (is_empty operations)) [
  | inl none ↦ absurd (something (rw none at is))
  | inr some ↦ elim (cases_Bool (list_any (is_other thread) operations)) [
    | inl foreign ↦ absurd (something (rw (some, foreign) at is))
    | inr own ↦ own
  ]
]
  where
    something : {one : Synced} → ◌≡◌ {A = Option Synced} (Some one) None → ⊥
    something e = cc

-- a member of one of the handles is the thread's
listed_own : (thread : ℕ) (operations : List Operation) (number : ℕ) (operation : Operation) (test : Handle → Bool)
    (handles : List Handle) → element_at operations number ≡ Some operation
    → ((handle : Handle) → test handle ≡ true
    → ((handle.serial == 0) ≡ false) × (members handle.serial operations number operation ≡ true))
    → fault_of thread operations handles ≡ None → list_any test handles ≡ true → operation.thread ≡ thread
listed_own thread operations number operation test [] at means none any = absurd (true≢false (sym any))
listed_own thread operations number operation test (handle ∷ later) at means none any =
    elim (cases_Bool (test handle)) [
      | inl here ↦ (
          let it = means handle here in
          let parts = or_none (fault_here thread (chosen (members handle.serial operations) 1 operations))
          (fault_of thread operations later) (rw it.0 at none) in
          own_at thread (members handle.serial operations) operations number operation
          (here_own thread (chosen (members handle.serial operations) 1 operations) parts.0) at it.1)
      | inr not_here ↦ elim (cases_Bool (handle.serial == 0)) [
        | inl invalid ↦ listed_own thread operations number operation test later at means (rw invalid at none)
            (rw not_here at any)
        | inr valid ↦ listed_own thread operations number operation test later at means
            ((or_none (fault_here thread (chosen (members handle.serial operations) 1 operations))
            (fault_of thread operations later) (rw valid at none)).1) (rw not_here at any)
      ]
    ]

-- a member of a handle that is whole is complete
whole_complete : (operations : List Operation) (number : ℕ) (operation : Operation) (handles : List Handle)
    → element_at operations number ≡ Some operation
    → list_any (λ (handle : Handle). is_whole operations handle && members handle.serial operations number operation)
    handles ≡ true
    → is_complete operation ≡ true
whole_complete operations number operation [] at any = absurd (true≢false (sym any))
whole_complete operations number operation (handle ∷ later) at any =
    elim (cases_Bool (is_whole operations handle && members handle.serial operations number operation)) [
      | inl here ↦ (
          let both = and_parts (is_whole operations handle) (members handle.serial operations number operation) here in
          let whole = and_parts (not (handle.serial == 0))
          (list_all is_complete (chosen (members handle.serial operations) 1 operations)) both.0 in
          complete_at (members handle.serial operations) operations number operation whole.1 at both.1)
      | inr not_here ↦ whole_complete operations number operation later at (rw not_here at any)
    ]

all_over : (exhausted : ℕ → Bool) (thread : ℕ) (handles : List Handle) (operations : List Operation) (number : ℕ)
    (operation : Operation) → all_answer exhausted thread handles operations ≡ synced.Ok
    → element_at operations number ≡ Some operation → members_of handles operations number operation ≡ true
    → IsOver (left_by synced.Ok (members_of handles operations) operations) thread number operation
all_over exhausted thread handles operations number operation ok at is =
    let it = without_fault (fault_of thread operations handles) _ (fault_not_ok thread operations handles) ok in
    known_over thread (members_of handles operations) operations number operation
    (listed_own thread operations number operation _ handles at
    (λ handle here. let both = and_parts (not (handle.serial == 0)) (members handle.serial operations number operation)
    here in
    (not-true (handle.serial == 0) both.0, both.1)) it.0 is)
    (complete_at (members_of handles operations) operations number operation
    (sync_all exhausted (chosen (members_of handles operations) 1 operations) it.1) at is) at is

some_over : (exhausted : ℕ → Bool) (thread : ℕ) (handles : List Handle) (operations : List Operation) (number : ℕ)
    (operation : Operation) → some_answer exhausted thread handles operations ≡ synced.Ok
    → element_at operations number ≡ Some operation → whole_of handles operations number operation ≡ true
    → IsOver (left_by synced.Ok (whole_of handles operations) operations) thread number operation
some_over exhausted thread handles operations number operation ok at is =
    let it = without_fault (fault_of thread operations handles) _ (fault_not_ok thread operations handles) ok in
    known_over thread (whole_of handles operations) operations number operation
    (listed_own thread operations number operation _ handles at
    (λ handle here. let both = and_parts (is_whole operations handle)
    (members handle.serial operations number operation) here in (
      not-true (handle.serial == 0) (and_parts (not (handle.serial == 0))
          (list_all is_complete (chosen (members handle.serial operations) 1 operations)) both.0).0,
      both.1,
    )) it.0 is)
    (whole_complete operations number operation handles at is) at is

implicit_over : (exhausted : ℕ → Bool) (thread : ℕ) (some : ImplicitKinds) (operations : List Operation) (number : ℕ)
    (operation : Operation) → implicit_answer exhausted thread some operations ≡ synced.Ok
    → element_at operations number ≡ Some operation → implicit_of thread some number operation ≡ true
    → IsOver (left_by synced.Ok (implicit_of thread some) operations) thread number operation
implicit_over exhausted thread some operations number operation ok at is =
    let one = and_parts (not operation.synced)
    (is_implicit operation.mode && ((operation.thread == thread) && is_kind some operation.transfer)) is in
    let two = and_parts (is_implicit operation.mode) ((operation.thread == thread) && is_kind some operation.transfer)
    one.1 in
    let three = and_parts (operation.thread == thread) (is_kind some operation.transfer) two.1 in
    known_over thread (implicit_of thread some) operations number operation
    (eqb-true operation.thread thread three.0)
    (complete_at (implicit_of thread some) operations number operation
    (sync_all exhausted (chosen (implicit_of thread some) 1 operations) ok) at is) at is

-- ---- calls

synced_same : (one other : Synced) → answers.Synced one ≡ answers.Synced other → one ≡ other
synced_same one other e = cc

-- what the call leaves, by its answer
over_as : (after : Synced → List Operation) (says : Synced) (thread number : ℕ) (operation : Operation)
    → says ≡ synced.Ok → IsOver (after synced.Ok) thread number operation → IsOver (after says) thread number operation
over_as after says thread number operation ok it =
    subst (λ (s : Synced). IsOver (after s) thread number operation) (sym ok) it

call_over : (caller : Caller) (call : TransferCall) (local : EndpointLocal) (number : ℕ) (operation : Operation)
    → (transfer_does caller call local).0 ≡ answers.Synced synced.Ok
    → element_at local.operations number ≡ Some operation
    → synced_by call caller.thread local number operation ≡ true
    → IsOver (transfer_does caller call local).1.operations caller.thread number operation
call_over caller (Sync register) local number operation told at is =
    let handle = (handle_in local.registers register).serial in
    let ok = synced_same _ _ told in
    over_as (λ says. after_handle says handle local.operations) _ caller.thread number operation ok
    (handle_over caller.exhausted caller.thread handle local.operations number operation ok at is)
call_over caller (SyncHandle handle) local number operation told at is =
    let ok = synced_same _ _ told in
    over_as (λ says. after_handle says handle.serial local.operations) _ caller.thread number operation ok
    (handle_over caller.exhausted caller.thread handle.serial local.operations number operation ok at is)
call_over caller (SyncAll registers) local number operation told at is =
    let handles = map (handle_in local.registers) registers in
    let ok = synced_same _ _ told in
    over_as (λ says. left_by says (members_of handles local.operations) local.operations) _ caller.thread number
    operation ok
    (all_over caller.exhausted caller.thread handles local.operations number operation ok at is)
call_over caller (SyncSome registers) local number operation told at is =
    let handles = map (handle_in local.registers) registers in
    let ok = synced_same _ _ told in
    over_as (λ says. left_by says (whole_of handles local.operations) local.operations) _ caller.thread number
    operation ok
    (some_over caller.exhausted caller.thread handles local.operations number operation ok at is)
call_over caller (SyncImplicit some) local number operation told at is =
    elim (cases_Bool (has_begun local.regions caller.thread)) [
      | inl inside ↦ absurd (not_synced (rw inside at told))
      | inr outside ↦ rw outside (
          let ok = synced_same _ _ (rw outside at told) in
          over_as (λ says. left_by says (implicit_of caller.thread some) local.operations) _ caller.thread number
          operation ok
          (implicit_over caller.exhausted caller.thread some local.operations number operation ok at is))
    ]
  where
    not_synced : {one : RegionAnswer} → answers.Region one ≡ answers.Synced synced.Ok → ⊥
    not_synced e = cc
call_over caller _ local number operation told at is = absurd (true≢false (sym is))

-- in the job
there_over : (settings : Parameters) (table : List (Option Entry)) (meaning : Meaning) (world : Records)
    (now node thread : ℕ) (call : TransferCall) (number : ℕ) (operation : Operation)
    → world_answer (job_of settings table meaning) world (transfer_event now node thread call)
    ≡ OfNode (OfCall (answers.Synced synced.Ok))
    → element_at (world node).local.operations number ≡ Some operation
    → synced_by call thread (world node).local number operation ≡ true
    → IsOver (world_after (job_of settings table meaning) world (transfer_event now node thread call) node).local.operations
    thread number operation
there_over settings table meaning world now node thread call number operation answered at is =
    let told = told_there settings table meaning world now node thread call (answers.Synced synced.Ok) answered in
    let does = allowed_there settings table meaning world node thread call (answers.Synced synced.Ok)
    (λ forbidden e. never forbidden e) told in
    let left = ap (λ (l : EndpointLocal). l.operations)
    (left_there settings table meaning world now node thread call
    ∙ ap (λ (out : Answer × EndpointLocal). out.1) does) in
    subst (λ (ops : List Operation). IsOver ops thread number operation) (sym left)
    (call_over (caller_of settings world node thread) call (world node).local number operation
    (sym (ap (λ (out : Answer × EndpointLocal). out.0) does) ∙ told) at is)
  where
    never : (forbidden : Forbidden) → answers.Forbidden forbidden ≡ answers.Synced synced.Ok → ⊥
    never forbidden e = cc

pub ok_goes : (settings : Parameters) (table : List (Option Entry)) (meaning : Meaning)
    → OkGoes (job_of settings table meaning)
ok_goes settings table meaning world timed number operation syncs =
    let job = job_of settings table meaning in
    let at = transfer_event timed.now syncs.node syncs.thread syncs.call in
    let is : timed ≡ at = ap (λ (e : Event OtherCall). record { now = timed.now; event = e }) syncs.event in
    let it = there_over settings table meaning world timed.now syncs.node syncs.thread syncs.call number operation
    (ap (world_answer job world) (sym is) ∙ syncs.answered) syncs.there syncs.chosen in
    record {
      own = it.own;
      complete = it.complete;
      marked = ap (λ (e : EventAt OtherCall). element_at (world_after job world e syncs.node).local.operations number) is
          ∙ it.marked;
    }

-- ---- a transfer that is done in its call

done_says : (fault : Option Which) (at_once full : Bool) (next : ℕ)
    → unless_bad fault (if at_once then begun.Done else begun_as
    (if full then Err (record {}) else Ok (record { serial = next })))
    ≡ begun.Done
    → at_once ≡ true
done_says (Some part) at_once full next is = absurd (cc)
done_says None true full next is = refl
done_says None false true next is = absurd (cc)
done_says None false false next is = absurd (cc)

-- it has no bytes, or its target is the local node; and what is written
record IsOwn (node : ℕ) (transfer : Transfer) (segment : List ℕ) (before after : List Write) : Type 0 where
  own : (size transfer ≡ 0) ⊎ (target transfer ≡ node)
  written : after ≡ before ++ written_at_once segment transfer

own_by : (caller : Caller) (transfer : Transfer) (mode : Mode) (local : EndpointLocal)
    → begin_says caller transfer local.operations ≡ begun.Done
    → IsOwn caller.me transfer (segment_of caller.settings local.core) local.core.writes
    (after_beginning caller transfer mode (begin_says caller transfer local.operations) local).core.writes
own_by caller transfer mode local is =
    let it = done_says (transfer_fault caller.settings transfer) (is_at_once caller.me transfer)
    (is_full local.operations) (suc (length local.operations)) is in
    record {
      own = elim (cases_Bool (size transfer == 0)) [
        | inl none ↦ inl (eqb-true (size transfer) 0 none)
        | inr some ↦ inr (eqb-true (target transfer) caller.me (rw some at it))
      ];
      written = ap (λ says. (after_beginning caller transfer mode says local).core.writes) is;
    }

pub own_is_done : (settings : Parameters) (table : List (Option Entry)) (meaning : Meaning)
    → OwnIsDone (job_of settings table meaning)
own_is_done settings table meaning world now node thread (Begin register asked) transfer is =
    let caller = caller_of settings world node thread in
    let call = Begin register asked in
    let answer = answers.Begun begun.Done in
    let told = told_there settings table meaning world now node thread call answer is.1 in
    let does = allowed_there settings table meaning world node thread call answer (λ forbidden e. never forbidden e)
    told in
    let it = own_by caller asked Explicit (world node).local
    (begun_same _ _ (sym (ap (λ (out : Answer × EndpointLocal). out.0) does) ∙ told)) in
    let left = ap (λ (l : EndpointLocal). l.core.writes)
    (left_there settings table meaning world now node thread call
    ∙ ap (λ (out : Answer × EndpointLocal). out.1) does) in
    subst (λ t. ((size t ≡ 0) ⊎ (target t ≡ node))
    × (writes_at (world_after (job_of settings table meaning) world (transfer_event now node thread call)) node
    ≡ writes_at world node ++ written_at_once (segment_of settings (world node).local.core) t)) is.0
    (it.own, left ∙ it.written)
  where
    never : (forbidden : Forbidden) → answers.Forbidden forbidden ≡ answers.Begun begun.Done → ⊥
    never forbidden e = cc
own_is_done settings table meaning world now node thread (BeginImplicit asked) transfer is =
    let caller = caller_of settings world node thread in
    let call = BeginImplicit asked in
    let answer = answers.Started begun.Done in
    let told = told_there settings table meaning world now node thread call answer is.1 in
    let does = allowed_there settings table meaning world node thread call answer (λ forbidden e. never forbidden e)
    told in
    let it = own_by caller asked (implicit_mode (world node).local.regions thread) (world node).local
    (started_same _ _ (sym (ap (λ (out : Answer × EndpointLocal). out.0) does) ∙ told)) in
    let left = ap (λ (l : EndpointLocal). l.core.writes)
    (left_there settings table meaning world now node thread call
    ∙ ap (λ (out : Answer × EndpointLocal). out.1) does) in
    subst (λ t. ((size t ≡ 0) ⊎ (target t ≡ node))
    × (writes_at (world_after (job_of settings table meaning) world (transfer_event now node thread call)) node
    ≡ writes_at world node ++ written_at_once (segment_of settings (world node).local.core) t)) is.0
    (it.own, left ∙ it.written)
  where
    never : (forbidden : Forbidden) → answers.Forbidden forbidden ≡ answers.Started begun.Done → ⊥
    never forbidden e = cc
own_is_done settings table meaning world now node thread _ transfer is = absurd is
