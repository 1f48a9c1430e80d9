-- What the calls of threads leave of what an endpoint's node keeps is good.
use Rattle.std.proofs.Common.{◌≡◌, ◌≢◌, inl, inr, ℕ, zero, suc, ◌+◌, ◌==◌, ◌<◌, ◌≤◌, ◌||◌, not, Bool, true, false}
use Rattle.std.proofs.Common.{true≢false}
use Rattle.std.proofs.Common.{List, [], ◌∷◌, ◌++◌, map, length, Option, None, Some, Result, Ok, Err, refl, sym, subst}
use Rattle.std.proofs.Common.{arith, nat_lt, nat_le}
use Rattle.std.specs.Prelude.{drop, if◌then◌else◌}
use Rattle.std.proofs.lemmas.Bool.{cases_Bool, or_parts, ltb-false, leb-false, eqb-false}
use Rattle.std.proofs.lemmas.List.{length-take, length-replicate}
use Rattle.base_lists.proofs.Cases.{none_some}
use Rattle.base_lists.proofs.Numbered.{numbered_nil, numbered_push}
use Rattle.wire_message.specs.Parameters.{Parameters}
use Rattle.part_segment.specs.Bytes.{part}
use Rattle.part_segment.specs.Image.{AllFit}
use Rattle.part_segment.proofs.Images.{all_fit_none, all_fit_one, all_fit-append}
use Rattle.part_handlers.specs.declared.table.Entry.{Entry}
use Rattle.part_handlers.specs.declared.rules.Forbidden.{Forbidden}
use Rattle.part_handlers.specs.declared.rules.CallKind.TheVariants as kinds
use Rattle.part_handlers.specs.declared.message.Which.{Which}
use Rattle.part_handlers.specs.Runs.{Meaning}
use Rattle.part_handlers.specs.declared.lock_answer.Held.{Held}
use Rattle.part_handlers.specs.declared.lock_answer.Owner.TheVariants as owner
use Rattle.part_handlers.specs.Locks.{holds}
use Rattle.part_transfers.specs.Regions.{has_begun}
use Rattle.part_barrier.specs.Record.{BarrierRecord}
use Rattle.part_barrier.specs.Within.{IsWithin}
use Rattle.part_barrier.proofs.Within.{stays_within}
use Rattle.part_transfers.specs.declared.operation.Handle.{Handle}
use Rattle.part_transfers.specs.declared.operation.Mode.{Mode}
use Rattle.part_transfers.specs.declared.operation.Mode.TheVariants.{Explicit}
use Rattle.part_transfers.specs.declared.operation.Synced.{Synced}
use Rattle.part_transfers.specs.declared.operation.Synced.TheVariants as synced
use Rattle.part_transfers.specs.declared.operation.Transfer.{Transfer}
use Rattle.part_transfers.specs.declared.operation.Transfer.TheVariants as transfers
use Rattle.part_transfers.specs.declared.operation.TooMany.{TooMany}
use Rattle.part_transfers.specs.Operation.{Operation, target, size, is_full, fresh, begin_answer}
use Rattle.part_transfers.specs.Syncs.{Choice, left_by, members, members_of, whole_of, implicit_of, after_handle}
use Rattle.part_transfers.specs.Syncs.{all_answer, some_answer, implicit_answer}
use Rattle.node_core.specs.Kept.{segment_of}
use Rattle.node_core.specs.ClientRules.{rules}
use Rattle.node_core.proofs.LocalKept.{nothing_kept}
use Rattle.node_rules.specs.declared.answer.Answer.{Answer}
use Rattle.node_rules.specs.declared.answer.Begun.{Begun}
use Rattle.node_rules.specs.declared.answer.Begun.TheVariants as begun
use Rattle.node_rules.specs.EndpointLocal.{EndpointLocal, IsEndpointKept, AreByChunks, IsByChunks, own_end}
use Rattle.node_rules.specs.EndpointLocal.{remote_end}
use Rattle.node_rules.specs.EndpointLocal.{has_byte, nothing_begun}
use Rattle.node_rules.specs.TransferCalls.{TransferCall, Begin, BeginImplicit, Sync, SyncHandle, SyncAll}
use Rattle.node_rules.specs.TransferCalls.{SyncSome, SyncImplicit, Caller, transfer_does}
use Rattle.node_rules.specs.TransferCalls.{begin_says, after_beginning, implicit_mode, handle_in}
use Rattle.node_rules.specs.TransferCalls.{transfer_fault}
use Rattle.node_rules.specs.TransferCalls.{transfer_kind, is_at_once, begun_as, unless_bad, own_write}
use Rattle.node_rules.specs.TransferCalls.{written_at_once}
use Rattle.node_rules.specs.BarrierCalls.{BarrierCall, Notify, TryBarrier, barrier_does, identifier, exhausted_for}
use Rattle.node_rules.specs.EndpointRules.{OtherCall, OnCore, OnTransfers, OnBarrier, endpoint_rules, does_call}
use Rattle.node_rules.specs.EndpointRules.{unless_forbidden}
use Rattle.node_rules.proofs.Frames.{transfer_framed}
use Rattle.node_rules.proofs.Chunks.{number_was}
use Rattle.node_rules.proofs.CoreKept.{call_kept}
use Rattle.node_rules.proofs.Noting.{identifier_fits}

-- before all events
pub opening_kept : (settings : Parameters) (me : ℕ) → IsEndpointKept settings me (nothing_begun settings)
opening_kept settings me = record {
  core = nothing_kept settings me;
  operations = λ number operation at. absurd (numbered_nil number operation at);
  barrier = stays_within.0 settings.nodes;
}

-- ---- the beginning of a transfer

-- no part of it is bad
pub record IsFaultless (settings : Parameters) (transfer : Transfer) : Type 0 where
  pub there : target transfer < settings.nodes
  pub own : own_end transfer ≤ settings.segment
  pub remote : remote_end transfer ≤ settings.segment
  pub byte : has_byte transfer ≡ true

pub faultless : (settings : Parameters) (transfer : Transfer) → transfer_fault settings transfer ≡ None
    → IsFaultless settings transfer
faultless settings transfer none = elim (cases_Bool (nat_le settings.nodes (target transfer))) [
  | inl far ↦ absurd (none_some (sym (rw far at none)))
  | inr there ↦ elim (cases_Bool (nat_lt settings.segment (own_end transfer))) [
    | inl past ↦ absurd (none_some (sym (rw (there, past) at none)))
    | inr own ↦
        elim (cases_Bool (nat_lt settings.segment (remote_end transfer) || not (has_byte transfer))) [
          | inl past ↦ absurd (none_some (sym (rw (there, own, past) at none)))
          | inr remote ↦
              let both = or_parts (nat_lt settings.segment (remote_end transfer)) (not (has_byte transfer)) remote in
              record {
                there = leb-false settings.nodes (target transfer) there;
                own = ltb-false settings.segment (own_end transfer) own;
                remote = ltb-false settings.segment (remote_end transfer) both.0;
                byte = is_so (has_byte transfer) both.1;
              }
        ]
  ]
]
  where
    is_so : (test : Bool) → not test ≡ false → test ≡ true
    is_so true e = refl
    is_so false e = absurd (true≢false e)

-- what the answer says of the transfer
handle_says : (caller : Caller) (transfer : Transfer) (operations : List Operation) (handle : Handle)
    → begin_says caller transfer operations ≡ begun.Handle handle
    → IsByChunks caller.settings caller.me transfer
handle_says caller transfer operations handle says =
    by_parts (transfer_fault caller.settings transfer) (is_at_once caller.me transfer) (begin_answer operations) refl
    refl says
  where
    chunks_of : IsFaultless caller.settings transfer → is_at_once caller.me transfer ≡ false
        → IsByChunks caller.settings caller.me transfer
    chunks_of good later =
        let both = or_parts (size transfer == 0) (target transfer == caller.me) later in
        record {
          there = good.there;
          other = eqb-false (target transfer) caller.me both.1;
          some_bytes = positive (size transfer) (eqb-false (size transfer) 0 both.0);
          own = good.own;
          remote = good.remote;
          byte = good.byte;
        }
      where
        positive : (many : ℕ) → many ≢ 0 → 0 < many
        positive zero apart = absurd (apart refl)
        positive (suc many) apart = omega arith

    by_parts : (fault : Option Which) (at_once : Bool) (begins : Result Handle TooMany)
        → transfer_fault caller.settings transfer ≡ fault → is_at_once caller.me transfer ≡ at_once
        → unless_bad fault (if at_once then begun.Done else begun_as begins) ≡ begun.Handle handle
        → IsByChunks caller.settings caller.me transfer
    by_parts None false begins fault_is once_is e =
        chunks_of (faultless caller.settings transfer fault_is) once_is
    by_parts None true begins fault_is once_is e = absurd (cc)
    by_parts (Some part) at_once begins fault_is once_is e = absurd (cc)

pub done_says : (caller : Caller) (transfer : Transfer) (operations : List Operation)
    → begin_says caller transfer operations ≡ begun.Done → IsFaultless caller.settings transfer
done_says caller transfer operations says =
    by_fault (transfer_fault caller.settings transfer) _ refl says
  where
    by_fault : (fault : Option Which) (answer : Begun) → transfer_fault caller.settings transfer ≡ fault
        → unless_bad fault answer ≡ begun.Done → IsFaultless caller.settings transfer
    by_fault None answer is e = faultless caller.settings transfer is
    by_fault (Some part) answer is e = absurd (cc)

-- a part of a range fits where the range does
part_fits : (segment : List ℕ) (end offset from len : ℕ) → offset + len ≤ end
    → offset + length (part segment from len) ≤ end
part_fits segment end offset from len fits = omega (arith, fits, length-take len (drop from segment))

own_fits : (settings : Parameters) (segment : List ℕ) (transfer : Transfer) → IsFaultless settings transfer
    → (own_write segment transfer).offset + length (own_write segment transfer).bytes ≤ settings.segment
own_fits settings segment (transfers.Put to remote local len) good =
    part_fits segment settings.segment remote local len good.remote
own_fits settings segment (transfers.Get to remote local len) good =
    part_fits segment settings.segment local remote len good.own
own_fits settings segment (transfers.Memset to remote len byte) good =
    subst (λ many. remote + many ≤ settings.segment) (sym (length-replicate len byte)) good.remote

-- what is written at once lies inside
pub at_once_fits : (settings : Parameters) (segment : List ℕ) (transfer : Transfer) → IsFaultless settings transfer
    → AllFit settings.segment (written_at_once segment transfer)
at_once_fits settings segment transfer good = elim (cases_Bool (size transfer == 0)) [
  | inl none ↦ rw none (all_fit_none settings.segment)
  | inr some ↦ rw some (all_fit_one settings.segment (own_write segment transfer)
      (own_fits settings segment transfer good))
]

begun_kept : (caller : Caller) (transfer : Transfer) (mode : Mode) (says : Begun) (local : EndpointLocal)
    → begin_says caller transfer local.operations ≡ says → IsEndpointKept caller.settings caller.me local
    → IsEndpointKept caller.settings caller.me (after_beginning caller transfer mode says local)
begun_kept caller transfer mode (begun.Handle handle) local is good = record {
  core = good.core;
  operations = elim (cases_Bool (is_full local.operations)) [
    | inl full ↦ rw full good.operations
    | inr free ↦ rw free pushed
  ];
  barrier = good.barrier;
}
  where
    new : Operation
    new = fresh caller.thread transfer mode (suc (length local.operations))

    pushed : AreByChunks caller.settings caller.me (local.operations ++ new ∷ [])
    pushed number operation at = elim (numbered_push local.operations new number operation at) [
      | inl was ↦ good.operations number operation was
      | inr here ↦ subst (λ (o : Operation). IsByChunks caller.settings caller.me o.transfer) here.1
          (handle_says caller transfer local.operations handle is)
    ]
begun_kept caller transfer mode begun.Done local is good = record {
  core = record {
    writes = all_fit-append caller.settings.segment local.core.writes _ good.core.writes
        (at_once_fits caller.settings (segment_of caller.settings local.core) transfer
        (done_says caller transfer local.operations is));
    locks = good.core.locks;
  };
  operations = good.operations;
  barrier = good.barrier;
}
begun_kept caller transfer mode _ local is good = good

-- ---- syncs

left_kept : (settings : Parameters) (me : ℕ) (operations : List Operation) (choice : Choice) (says : Synced)
    → AreByChunks settings me operations → AreByChunks settings me (left_by says choice operations)
left_kept settings me operations choice synced.Ok good = λ number operation at.
    let was = number_was choice operations number operation at in
    subst (IsByChunks settings me) (sym was.2.transfer) (good number was.0 was.1)
left_kept settings me operations choice _ good = good

handle_kept : (settings : Parameters) (me : ℕ) (operations : List Operation) (says : Synced) (handle : ℕ)
    → AreByChunks settings me operations → AreByChunks settings me (after_handle says handle operations)
handle_kept settings me operations says handle good = elim (cases_Bool (handle == 0)) [
  | inl invalid ↦ rw invalid good
  | inr valid ↦ rw valid (left_kept settings me operations (members handle operations) says good)
]

-- ---- every call on transfers

pub transfer_kept : (caller : Caller) (call : TransferCall) (local : EndpointLocal)
    → IsEndpointKept caller.settings caller.me local
    → IsEndpointKept caller.settings caller.me (transfer_does caller call local).1
transfer_kept caller (Begin register transfer) local good =
    let after = begun_kept caller transfer Explicit (begin_says caller transfer local.operations) local refl good in
    record { core = after.core; operations = after.operations; barrier = after.barrier }
transfer_kept caller (BeginImplicit transfer) local good =
    let after = begun_kept caller transfer (implicit_mode local.regions caller.thread)
    (begin_says caller transfer local.operations) local refl good in
    record { core = after.core; operations = after.operations; barrier = after.barrier }
transfer_kept caller (Sync register) local good = record {
  core = good.core;
  operations = handle_kept caller.settings caller.me local.operations _
      (handle_in local.registers register).serial good.operations;
  barrier = good.barrier;
}
transfer_kept caller (SyncHandle handle) local good = record {
  core = good.core;
  operations = handle_kept caller.settings caller.me local.operations _ handle.serial good.operations;
  barrier = good.barrier;
}
transfer_kept caller (SyncAll registers) local good =
    let handles = map (handle_in local.registers) registers in
    record {
      core = good.core;
      operations = left_kept caller.settings caller.me local.operations (members_of handles local.operations)
          (all_answer caller.exhausted caller.thread handles local.operations) good.operations;
      barrier = good.barrier;
    }
transfer_kept caller (SyncSome registers) local good =
    let handles = map (handle_in local.registers) registers in
    record {
      core = good.core;
      operations = left_kept caller.settings caller.me local.operations (whole_of handles local.operations)
          (some_answer caller.exhausted caller.thread handles local.operations) good.operations;
      barrier = good.barrier;
    }
transfer_kept caller (SyncImplicit some) local good =
    elim (cases_Bool (has_begun local.regions caller.thread)) [
      | inl inside ↦ rw inside good
      | inr outside ↦ rw outside (record {
        core = good.core;
        operations = left_kept caller.settings caller.me local.operations (implicit_of caller.thread some)
            (implicit_answer caller.exhausted caller.thread some local.operations) good.operations;
        barrier = good.barrier;
      })
    ]
transfer_kept caller call local good =
    let framed = transfer_framed caller call local in
    record {
      core = record {
        writes = subst (AllFit caller.settings.segment) (sym (framed.writes refl)) good.core.writes;
        locks = subst (λ (locks : List Held). holds owner.Handler locks ≡ false) (sym (framed.locks refl)) good.core.locks;
      };
      operations = subst (AreByChunks caller.settings caller.me) (sym (framed.operations refl)) good.operations;
      barrier = subst (IsWithin caller.settings.nodes) (sym (framed.barrier refl)) good.barrier;
    }

-- ---- calls on the barrier

barrier_kept : (caller : Caller) (call : BarrierCall) (barrier : BarrierRecord)
    → IsWithin caller.settings.nodes barrier
    → IsWithin caller.settings.nodes (barrier_does caller call barrier).1
barrier_kept caller (Notify id flags) barrier good =
    (stays_within.1 caller.settings.nodes barrier good).notify (identifier id) flags (identifier_fits id)
barrier_kept caller (TryBarrier id flags) barrier good =
    (stays_within.1 caller.settings.nodes barrier good).tried caller.me
    (record { id = identifier id; flags = flags; exhausted = exhausted_for caller barrier })

-- ---- every call

-- one that is judged
judged_kept : (settings : Parameters) (table : List (Option Entry)) (meaning : Meaning) (me thread : ℕ)
    (judged : Result (Unit {0}) Forbidden) (local : EndpointLocal) (outcome : Answer × EndpointLocal)
    → IsEndpointKept settings me local → IsEndpointKept settings me outcome.1
    → IsEndpointKept settings me
    (unless_forbidden (endpoint_rules settings table meaning) thread judged local outcome).1
judged_kept settings table meaning me thread (Ok allowed) local outcome good after = after
judged_kept settings table meaning me thread (Err forbidden) local outcome good after = record {
  core = record { writes = good.core.writes; locks = good.core.locks };
  operations = good.operations;
  barrier = good.barrier;
}

pub calls_kept : (settings : Parameters) (table : List (Option Entry)) (meaning : Meaning) (me : ℕ) (exhausted : ℕ → Bool)
    (thread : ℕ) (call : OtherCall) (local : EndpointLocal) → IsEndpointKept settings me local
    → IsEndpointKept settings me
    (does_call (endpoint_rules settings table meaning) (rules settings table meaning)
    (record { settings = settings; me = me; thread = thread; exhausted = exhausted }) call local).1
calls_kept settings table meaning me exhausted thread (OnCore call) local good = record {
  core = call_kept settings (rules settings table meaning) me thread call local.core
      (λ forbidden. record { writes = good.core.writes; locks = good.core.locks }) good.core;
  operations = good.operations;
  barrier = good.barrier;
}
calls_kept settings table meaning me exhausted thread (OnTransfers call) local good =
    let caller : Caller = record { settings = settings; me = me; thread = thread; exhausted = exhausted } in
    judged_kept settings table meaning me thread
    ((endpoint_rules settings table meaning).judges thread (transfer_kind call) local) local
    (transfer_does caller call local) good (transfer_kept caller call local good)
calls_kept settings table meaning me exhausted thread (OnBarrier call) local good =
    let caller : Caller = record { settings = settings; me = me; thread = thread; exhausted = exhausted } in
    judged_kept settings table meaning me thread
    ((endpoint_rules settings table meaning).judges thread kinds.Barrier local) local _ good
    (record {
      core = good.core;
      operations = good.operations;
      barrier = barrier_kept caller call local.barrier good.barrier;
    })
