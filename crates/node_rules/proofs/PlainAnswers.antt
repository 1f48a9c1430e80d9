-- Every call that makes no request has a plain answer, unless it shows a range.
use Rattle.std.proofs.Common.{◌≡◌, inl, inr, ℕ, ◌+◌, ◌==◌, true, false, true≢false, List, length, Option, None, Some}
use Rattle.std.proofs.Common.{refl, nat_lt}
use Rattle.std.specs.Prelude.{Result, Ok, Err, ◌%◌}
use Rattle.std.proofs.lemmas.Bool.{cases_Bool}
use Rattle.part_handlers.specs.declared.rules.Forbidden.{Forbidden}
use Rattle.part_transfers.specs.declared.regions.Region.{Region}
use Rattle.part_transfers.specs.Regions.{region_of, has_begun}
use Rattle.part_barrier.specs.Record.{BarrierRecord}
use Rattle.spec_node.specs.Behaviour.{Behaviour}
use Rattle.node_core.specs.Kept.{Local, segment_of}
use Rattle.node_rules.specs.declared.answer.Answer.{Answer}
use Rattle.node_rules.specs.declared.answer.Answer.TheVariants as answers
use Rattle.node_rules.specs.EndpointLocal.{EndpointLocal}
use Rattle.node_rules.specs.Memory.{SegmentCall, Show, Set, Fill, LoadWord, SetWord, segment_does}
use Rattle.node_rules.specs.BarrierCalls.{BarrierCall, Notify, barrier_does}
use Rattle.node_rules.specs.CoreCalls.{Poll, Attempt, OnSegment, if_allowed}
use Rattle.node_rules.specs.TransferCalls.{TransferCall, SyncImplicit, RegionBegin, RegionEnd, Caller, transfer_does}
use Rattle.node_rules.specs.TransferCalls.{after_region}
use Rattle.node_rules.specs.EndpointRules.{OnCore, OnTransfers, OnBarrier, unless_forbidden}
use Rattle.node_rules.specs.PlainAnswers.{is_plain_answer, shows, AnswersArePlain}

-- a call that the rule table judges
allowed_plain : (own : Behaviour Local) (thread : ℕ) (judged : Result (Unit {0}) Forbidden) (answer : Answer)
    (kept : Local) → is_plain_answer answer ≡ true → is_plain_answer (if_allowed own thread judged answer kept).0 ≡ true
allowed_plain own thread (Ok allowed) answer kept plain = plain
allowed_plain own thread (Err forbidden) answer kept plain = refl

unless_plain : (behaviour : Behaviour EndpointLocal) (thread : ℕ) (judged : Result (Unit {0}) Forbidden)
    (local : EndpointLocal) (outcome : Answer × EndpointLocal) → is_plain_answer outcome.0 ≡ true
    → is_plain_answer (unless_forbidden behaviour thread judged local outcome).0 ≡ true
unless_plain behaviour thread (Ok allowed) local outcome plain = plain
unless_plain behaviour thread (Err forbidden) local outcome plain = refl

-- a call on the local segment
segment_plain : (bytes : List ℕ) (call : SegmentCall) → shows (OnCore (OnSegment call)) ≡ false
    → is_plain_answer (answers.Local (segment_does bytes call).0) ≡ true
segment_plain bytes (Show offset len) e = absurd (true≢false e)
segment_plain bytes (Set write) e =
    elim (cases_Bool (nat_lt (length bytes) (write.offset + length write.bytes))) [ inl p ↦ rw p refl | inr p ↦ rw p refl ]
segment_plain bytes (Fill offset len byte) e =
    elim (cases_Bool (nat_lt (length bytes) (offset + len))) [ inl p ↦ rw p refl | inr p ↦ rw p refl ]
segment_plain bytes (LoadWord offset) e = elim (cases_Bool (nat_lt (length bytes) (offset + 8))) [
  | inl p ↦ rw p refl
  | inr p ↦ elim (cases_Bool (offset % 8 == 0)) [ inl q ↦ rw (p, q) refl | inr q ↦ rw (p, q) refl ]
]
segment_plain bytes (SetWord offset value) e = elim (cases_Bool (nat_lt (length bytes) (offset + 8))) [
  | inl p ↦ rw p refl
  | inr p ↦ elim (cases_Bool (offset % 8 == 0)) [ inl q ↦ rw (p, q) refl | inr q ↦ rw (p, q) refl ]
]

-- a call on transfers
ended_plain : (caller : Caller) (register : ℕ) (was : Option Region) (local : EndpointLocal)
    → is_plain_answer (after_region caller register was local).0 ≡ true
ended_plain caller register None local = refl
ended_plain caller register (Some was) local = by_name was.name
  where
    by_name : (name : Option ℕ) → is_plain_answer (after_region caller register (Some (record { name = name })) local).0 ≡ true
    by_name None = refl
    by_name (Some name) = refl

transfer_plain : (caller : Caller) (call : TransferCall) (local : EndpointLocal)
    → is_plain_answer (transfer_does caller call local).0 ≡ true
transfer_plain caller (SyncImplicit some) local =
    elim (cases_Bool (has_begun local.regions caller.thread)) [ inl e ↦ rw e refl | inr e ↦ rw e refl ]
transfer_plain caller RegionBegin local =
    elim (cases_Bool (has_begun local.regions caller.thread)) [ inl e ↦ rw e refl | inr e ↦ rw e refl ]
transfer_plain caller (RegionEnd register) local =
    ended_plain caller register (region_of local.regions caller.thread) local
transfer_plain caller _ local = refl

barrier_plain : (caller : Caller) (call : BarrierCall) (barrier : BarrierRecord)
    → is_plain_answer (barrier_does caller call barrier).0 ≡ true
barrier_plain caller (Notify id flags) barrier = refl
barrier_plain caller _ barrier = refl

pub answers_plain : AnswersArePlain
answers_plain behaviour own caller (OnCore Poll) local e = allowed_plain own caller.thread _ answers.Polled local.core refl
answers_plain behaviour own caller (OnCore (Attempt kind)) local e =
    allowed_plain own caller.thread _ answers.Allowed local.core refl
answers_plain behaviour own caller (OnCore (OnSegment call)) local e =
    segment_plain (segment_of caller.settings local.core) call e
answers_plain behaviour own caller (OnCore _) local e = refl
answers_plain behaviour own caller (OnTransfers call) local e =
    unless_plain behaviour caller.thread _ local (transfer_does caller call local) (transfer_plain caller call local)
answers_plain behaviour own caller (OnBarrier call) local e =
    unless_plain behaviour caller.thread _ local _ (barrier_plain caller call local.barrier)
