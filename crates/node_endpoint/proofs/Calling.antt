-- A call that makes no request, as its parts made it, is the endpoint's.
use Rattle.std.proofs.Common.{◌≡◌, ℕ, ℤ, List, Some, length, refl, sym, ap, ◌∙◌, subst}
use Rattle.std.specs.Prelude.{slice_set, slice_index_or, pos, Result, Ok, Err}
use Rattle.std.proofs.lemmas.Option.{same_Some}
use Rattle.wire_message.specs.Parameters.{Parameters}
use Rattle.part_segment.specs.Image.{written_by}
use Rattle.part_segment.proofs.Images.{all_fit-append, length-written_by, image-append}
use Rattle.part_handlers.specs.declared.lock_answer.LockAnswer.{LockAnswer}
use Rattle.part_handlers.specs.declared.lock_answer.UnlockAnswer.{UnlockAnswer}
use Rattle.part_handlers.specs.LogState.{log_of}
use Rattle.part_handlers.specs.Runs.{Meaning}
use Rattle.part_handlers.specs.declared.rules.CallKind.{CallKind}
use Rattle.part_handlers.specs.declared.rules.Forbidden.{Forbidden}
use Rattle.spec_node.specs.Record.{Node}
use Rattle.spec_node.specs.Behaviour.{Behaviour}
use Rattle.spec_node.specs.Step.{with_local, judged_local}
use Rattle.spec_node.specs.NodeStep.{NodeAnswer, OfCall, Does}
use Rattle.spec_node.specs.Under.{under}
use Rattle.spec_node.proofs.NodeKeeps.{same_keeps}
use Rattle.node_core.specs.Kept.{Local, IsKept, segment_of, with_writes}
use Rattle.node_core.specs.ClientRules.{rules}
use Rattle.node_core.specs.CoreState.{CoreState}
use Rattle.node_core.specs.Stands.{CoreStands}
use Rattle.node_core.specs.CoreContracts.{Check, Lock as CoreLock, Unlock as CoreUnlock, CoreTold, Checked, Locked}
use Rattle.node_core.specs.CoreContracts.{Unlocked}
use Rattle.node_core.specs.CoreContracts.{CoreSteps, IsSameNode}
use Rattle.node_rules.specs.EndpointLocal.{EndpointLocal, IsEndpointKept, core_of, with_core}
use Rattle.node_rules.specs.EndpointRules.{OtherCall, OnCore, OnTransfers, OnBarrier, does_call, unless_forbidden}
use Rattle.node_rules.specs.EndpointRules.{RecordEvent, transition, endpoint_rules, with_core_outcome}
use Rattle.node_rules.specs.CoreCalls.{Poll, Attempt, Lock, Unlock, Cell, SetCell, OnSegment, if_allowed}
use Rattle.node_rules.specs.Called.{Meant, Requests, Performs, meant, event_of_call, node_event}
use Rattle.node_rules.specs.Memory.{SegmentCall, segment_does, OnSegment as OnSegmentBytes}
use Rattle.node_rules.specs.TransferCalls.{Caller}
use Rattle.node_rules.specs.Tracking.{NodeTracks}
use Rattle.node_rules.specs.declared.call.Call.{Call}
use Rattle.node_rules.specs.declared.call.Call.TheVariants as call
use Rattle.node_rules.specs.declared.answer.Answer.{Answer}
use Rattle.node_rules.specs.declared.answer.Answer.TheVariants as answers
use Rattle.node_rules.specs.declared.answer.Local.{Local as LocalAnswer}
use Rattle.node_rules.specs.declared.answer.Local.TheVariants as local
use Rattle.node_rules.proofs.CoreKept.{segment_fits, written_fits}
use Rattle.node_endpoint.specs.declared.extended.Extended.{Extended}
use Rattle.node_endpoint.specs.EndpointState.{EndpointStands, NodeSteps}
use Rattle.node_endpoint.specs.Parts.{EndpointKeeps, Parts, PartDoes, endpoint_of, whole, caller_in, judged_kind, judged_as}
use Rattle.node_endpoint.specs.Parts.{allowed_does, CallSteps, IsWhole, IsSameExtended}
use Rattle.node_endpoint.proofs.Stepping.{steps_by, stands_by, keeps_of, barrier_of, nothing_runs, nothing_lawful}
use Rattle.node_endpoint.proofs.Stepping.{same_node, caller_same, stays_whole, has_next}
use Rattle.node_endpoint.proofs.Syncs.{same_core}

-- ---- calls that the rule table judges

-- a call of the core by how the table judges it
judged_core : (own : Behaviour Local) (behaviour : Behaviour EndpointLocal) (thread : ℕ)
    (judged : Result (Unit {0}) Forbidden) (answer : Answer) (kept : EndpointLocal)
    → ((forbidden : Forbidden)
    → with_core_outcome kept (answers.Forbidden forbidden, own.notes thread forbidden kept.core)
    ≡ (answers.Forbidden forbidden, behaviour.notes thread forbidden kept))
    → with_core_outcome kept (if_allowed own thread judged answer kept.core)
    ≡ unless_forbidden behaviour thread judged kept (answer, kept)
judged_core own behaviour thread (Ok allowed) answer kept notes = refl
judged_core own behaviour thread (Err forbidden) answer kept notes = notes forbidden

-- what such a call does, by how the table judges it
abbrev DoesBy : Meaning → CoreState → Caller → OtherCall → CallKind → EndpointLocal → Type 0
DoesBy meaning core caller call kind kept =
    does_call (endpoint_rules core.settings core.table meaning) (rules core.settings core.table meaning) caller call
    kept
    ≡ unless_forbidden (endpoint_rules core.settings core.table meaning) caller.thread
    ((endpoint_rules core.settings core.table meaning).judges caller.thread kind kept) kept
    (allowed_does (Performs call) caller kept)

does_by : (meaning : Meaning) (core : CoreState) (caller : Caller) (call : OtherCall) (kind : CallKind)
    (kept : EndpointLocal) → judged_as call ≡ Some kind → DoesBy meaning core caller call kind kept
does_by meaning core caller (OnCore Poll) kind kept e =
    subst (λ (k : CallKind). DoesBy meaning core caller (OnCore Poll) k kept) (same_Some _ _ e)
    (judged_core (rules core.settings core.table meaning) (endpoint_rules core.settings core.table meaning)
    caller.thread _ answers.Polled kept (λ forbidden. refl))
does_by meaning core caller (OnCore (Attempt attempted)) kind kept e =
    subst (λ (k : CallKind). DoesBy meaning core caller (OnCore (Attempt attempted)) k kept) (same_Some _ _ e)
    (judged_core (rules core.settings core.table meaning) (endpoint_rules core.settings core.table meaning)
    caller.thread _ answers.Allowed kept (λ forbidden. refl))
does_by meaning core caller (OnCore _) kind kept e = absurd (cc)
does_by meaning core caller (OnTransfers call) kind kept e =
    subst (λ (k : CallKind). DoesBy meaning core caller (OnTransfers call) k kept) (same_Some _ _ e) refl
does_by meaning core caller (OnBarrier call) kind kept e =
    subst (λ (k : CallKind). DoesBy meaning core caller (OnBarrier call) k kept) (same_Some _ _ e) refl

-- what is judged
abbrev judgement : NodeAnswer CoreTold → Result (Unit {0}) Forbidden
judgement (OfCall (Checked judged)) = judged
judgement _ = Ok tt

-- the endpoint's other part with another core that stands for a record whose node keeps what it kept
pub keeps_with : (core new : CoreState) (extended : Extended) (node : Node EndpointLocal) (kept : Local)
    → IsSameNode core new → CoreStands new (with_local (under core_of node) kept)
    → EndpointStands (endpoint_of core extended) node
    → EndpointKeeps (endpoint_of new extended) (with_local node (with_core node.local kept))
keeps_with core new extended node kept same there S = record {
  core = there;
  transfers = S.transfers;
  regions_are = S.regions_are;
  registers_are = S.registers_are;
  barrier = barrier_of core new extended.barrier node.local.barrier node.local.barrier same refl S.barrier;
}

-- the same where the core stands for the same record
pub stands_with : (core new : CoreState) (extended : Extended) (node : Node EndpointLocal) → IsSameNode core new
    → CoreStands new (under core_of node) → EndpointStands (endpoint_of core extended) node
    → EndpointStands (endpoint_of new extended) node
stands_with core new extended node same there S =
    stands_by (endpoint_of new extended) node (keeps_with core new extended node node.local.core same there S)
    (subst (λ me. IsEndpointKept new.settings me node.local) (sym same.me_is)
    (subst (λ (s : Parameters). IsEndpointKept s core.me node.local) (sym same.settings) S.kept))
    (subst (λ (s : Parameters). NodeTracks s.version node) (sym same.settings) S.tracks)

-- a check of the core
abbrev pub CoreChecks : CoreState → (thread : ℕ) → CallKind → Result (Unit {0}) Forbidden → CoreState → Type 0
CoreChecks core thread kind judged new =
    (meaning : Meaning) (now : ℕ) → CoreSteps meaning core
    (record { now = now; event = Does thread (Check kind); answer = OfCall (Checked judged) }) new

-- where it allows the call nothing changed
pub allowed_stands : (core new : CoreState) (extended : Extended) (thread : ℕ) (kind : CallKind)
    (node : Node EndpointLocal) → CoreChecks core thread kind (Ok tt) new
    → EndpointStands (endpoint_of core extended) node → EndpointStands (endpoint_of new extended) node
allowed_stands core new extended thread kind node C S =
    let it = (C nothing_runs 0).steps (under core_of node) S.core in
    let own = rules core.settings core.table nothing_runs in
    let is : Ok tt ≡ own.judges thread kind node.local.core = ap judgement it.0 in
    stands_with core new extended node (C nothing_runs 0).same
    (subst (λ (j : Result (Unit {0}) Forbidden).
    CoreStands new (with_local (under core_of node) (judged_local own thread j node.local.core))) (sym is) it.1) S

-- a call that the table forbids
pub forbidden_steps : (core new : CoreState) (extended : Extended) (thread : ℕ) (kind : CallKind)
    (forbidden : Forbidden) (call : Call) → judged_kind (meant call) ≡ Some kind
    → CoreChecks core thread kind (Err forbidden) new
    → CallSteps (endpoint_of core extended) thread call (answers.Forbidden forbidden) (endpoint_of new extended)
forbidden_steps core new extended thread kind forbidden call is C meaning lawful now = by (meant call) is
  where
    by : (m : Meant) → judged_kind m ≡ Some kind
        → NodeSteps meaning (endpoint_of core extended)
        (transition now (node_event thread m) (answers.Forbidden forbidden)) (endpoint_of new extended)
    by (Requests to asking) e = absurd (cc)
    by (Performs other) e =
        steps_by meaning (endpoint_of core extended) (endpoint_of new extended) now (Does thread other) _ lawful
        (C meaning now).same
        (λ node S.
        let it = (C meaning now).steps (under core_of node) S.core in
        let own = rules core.settings core.table meaning in
        let behaviour = endpoint_rules core.settings core.table meaning in
        let caller = caller_in core node thread in
        let judged : Err forbidden ≡ own.judges thread kind node.local.core = ap judgement it.0 in
        let does = does_by meaning core caller other kind node.local e
        ∙ ap (λ (j : Result (Unit {0}) Forbidden).
        unless_forbidden behaviour thread j node.local (allowed_does (Performs other) caller node.local))
        (sym judged) in
        let left = subst (λ (j : Result (Unit {0}) Forbidden).
        CoreStands new (with_local (under core_of node) (judged_local own thread j node.local.core)))
        (sym judged) it.1 in (
          ap (λ (o : Answer × EndpointLocal). o.0) (sym does),
          subst (λ (o : Answer × EndpointLocal). EndpointKeeps (endpoint_of new extended) (with_local node o.1))
              (sym does)
              (keeps_with core new extended node (own.notes thread forbidden node.local.core) (C meaning now).same
              left S),
        ))

-- a call that it allows
pub allowed_steps : (core mid : CoreState) (extended : Extended) (thread : ℕ) (kind : CallKind) (call : Call)
    (answer : Answer) (new : Parts) → judged_kind (meant call) ≡ Some kind
    → CoreChecks core thread kind (Ok tt) mid
    → PartDoes (record { core = mid; extended = extended }) thread (allowed_does (meant call)) answer new
    → CallSteps (endpoint_of core extended) thread call answer (whole new)
allowed_steps core mid extended thread kind call answer new is C P meaning lawful now = by (meant call) is P
  where
    by : (m : Meant) → judged_kind m ≡ Some kind
        → PartDoes (record { core = mid; extended = extended }) thread (allowed_does m) answer new
        → NodeSteps meaning (endpoint_of core extended) (transition now (node_event thread m) answer) (whole new)
    by (Requests to asking) e D = absurd (cc)
    by (Performs other) e D =
        let same = (C meaning now).same in
        steps_by meaning (endpoint_of core extended) (whole new) now (Does thread other) answer lawful
        (same_node core mid new.core same D.same)
        (λ node S.
        let it = (C meaning now).steps (under core_of node) S.core in
        let own = rules core.settings core.table meaning in
        let behaviour = endpoint_rules core.settings core.table meaning in
        let caller = caller_in core node thread in
        let judged : Ok tt ≡ own.judges thread kind node.local.core = ap judgement it.0 in
        let does = does_by meaning core caller other kind node.local e
        ∙ ap (λ (j : Result (Unit {0}) Forbidden).
        unless_forbidden behaviour thread j node.local (allowed_does (Performs other) caller node.local))
        (sym judged) in
        let did = D.steps node (allowed_stands core mid extended thread kind node C S) in
        let callers = caller_same core mid node thread same in (
          did.0 ∙ (ap (λ (c : Caller). (allowed_does (Performs other) c node.local).0) callers
              ∙ ap (λ (o : Answer × EndpointLocal). o.0) (sym does)),
          subst (λ (o : Answer × EndpointLocal). EndpointKeeps (whole new) (with_local node o.1)) (sym does)
              (subst (λ (c : Caller). EndpointKeeps (whole new)
              (with_local node (allowed_does (Performs other) c node.local).1))
              callers did.1),
        ))

-- ---- locks

-- an answer to a call on locks
abbrev core_told : NodeAnswer CoreTold → Answer
core_told (OfCall (Locked answer)) = answers.Lock answer
core_told (OfCall (Unlocked answer)) = answers.Unlock answer
core_told _ = answers.Polled

pub lock_steps : (core new : CoreState) (extended : Extended) (thread lock : ℕ) (answer : LockAnswer)
    → ((meaning : Meaning) (now : ℕ) → CoreSteps meaning core
    (record { now = now; event = Does thread (CoreLock lock); answer = OfCall (Locked answer) }) new)
    → CallSteps (endpoint_of core extended) thread (call.Lock lock) (answers.Lock answer) (endpoint_of new extended)
lock_steps core new extended thread lock answer C meaning lawful now =
    steps_by meaning (endpoint_of core extended) (endpoint_of new extended) now (Does thread (OnCore (Lock lock))) _
    lawful (C meaning now).same
    (λ node S.
    let it = (C meaning now).steps (under core_of node) S.core in
    (ap core_told it.0, keeps_with core new extended node _ (C meaning now).same it.1 S))

pub unlock_steps : (core new : CoreState) (extended : Extended) (thread lock : ℕ) (answer : UnlockAnswer)
    → ((meaning : Meaning) (now : ℕ) → CoreSteps meaning core
    (record { now = now; event = Does thread (CoreUnlock lock); answer = OfCall (Unlocked answer) }) new)
    → CallSteps (endpoint_of core extended) thread (call.Unlock lock) (answers.Unlock answer)
    (endpoint_of new extended)
unlock_steps core new extended thread lock answer C meaning lawful now =
    steps_by meaning (endpoint_of core extended) (endpoint_of new extended) now (Does thread (OnCore (Unlock lock))) _
    lawful (C meaning now).same
    (λ node S.
    let it = (C meaning now).steps (under core_of node) S.core in
    (ap core_told it.0, keeps_with core new extended node _ (C meaning now).same it.1 S))

-- ---- cells and segment

-- a core whose cells and segment are written stands for the record where its node keeps that
pub local_stands : (core : CoreState) (node : Node Local) (cells : List ℤ) (segment : List ℕ) (kept : Local)
    → CoreStands core node → IsKept core.settings core.me kept → cells ≡ kept.cells
    → segment ≡ segment_of core.settings kept → kept.locks ≡ node.local.locks → kept.violations ≡ node.local.violations
    → CoreStands (record core { cells = cells; segment = segment }) (with_local node kept)
local_stands core node cells segment kept S good cells_are segment_is locks violations = record {
  range = S.range;
  me_in = S.me_in;
  invariant_ = same_keeps core.settings (IsKept core.settings) core.me node kept S.invariant_ good;
  last = S.last;
  requests = S.requests;
  no_more = S.no_more;
  replies = S.replies;
  own_ran = S.own_ran;
  segment_is = segment_is;
  locks_are = S.locks_are ∙ sym locks;
  cells_are = cells_are;
  log_is = S.log_is ∙ ap log_of (sym violations);
}

-- the number in a cell
pub cell_steps : (core : CoreState) (extended : Extended) (thread cell : ℕ) (value : ℤ)
    → ((node : Node Local) → CoreStands core node → value ≡ slice_index_or node.local.cells cell (pos 0))
    → CallSteps (endpoint_of core extended) thread (call.Cell cell) (answers.Local (local.Cell value))
    (endpoint_of core extended)
cell_steps core extended thread cell value is meaning lawful now =
    steps_by meaning (endpoint_of core extended) (endpoint_of core extended) now (Does thread (OnCore (Cell cell))) _
    lawful (same_core core)
    (λ node S. (
      ap (λ (v : ℤ). answers.Local (local.Cell v)) (is (under core_of node) S.core),
      keeps_of (endpoint_of core extended) node S,
    ))

-- a number is put into a cell
pub set_cell_steps : (core : CoreState) (extended : Extended) (thread cell : ℕ) (value : ℤ) (cells : List ℤ)
    → cells ≡ slice_set core.cells cell value
    → CallSteps (endpoint_of core extended) thread (call.SetCell cell value) (answers.Local local.Done)
    (endpoint_of (record core { cells = cells }) extended)
set_cell_steps core extended thread cell value cells is meaning lawful now =
    let new : CoreState = record core { cells = cells } in
    let same : IsSameNode core new =
    record { settings = refl; me_is = refl; table = refl; segment_length = refl } in
    steps_by meaning (endpoint_of core extended) (endpoint_of new extended) now
    (Does thread (OnCore (SetCell cell value))) _ lawful same
    (λ node S. (
      refl,
      keeps_with core new extended node (record node.local.core { cells = slice_set node.local.core.cells cell value })
          same
          (local_stands core (under core_of node) cells core.segment
          (record node.local.core { cells = slice_set node.local.core.cells cell value }) S.core
          (record { writes = S.core.invariant_.kept.writes; locks = S.core.invariant_.kept.locks })
          (is ∙ ap (λ ys. slice_set ys cell value) S.core.cells_are) S.core.segment_is refl refl) S,
    ))

-- a call on the local segment
pub segment_steps : (core : CoreState) (extended : Extended) (thread : ℕ) (of_thread : Call) (on : SegmentCall)
    (answer : LocalAnswer) (lent bytes : List ℕ) → meant of_thread ≡ Performs (OnCore (OnSegment on))
    → lent ≡ core.segment → OnSegmentBytes lent on answer bytes
    → CallSteps (endpoint_of core extended) thread of_thread (answers.Local answer)
    (endpoint_of (record core { segment = bytes }) extended)
segment_steps core extended thread of_thread on answer lent bytes is lent_is lent_on meaning lawful now =
    subst (λ (m : Meant). NodeSteps meaning (endpoint_of core extended)
    (transition now (node_event thread m) (answers.Local answer)) (endpoint_of new extended)) (sym is)
    (steps_by meaning (endpoint_of core extended) (endpoint_of new extended) now
    (Does thread (OnCore (OnSegment on))) _ lawful same
    (λ node S.
    let s = core.settings in
    let kept = node.local.core in
    let writes = (segment_does (segment_of s kept) on).1 in (
      ap (λ told. answers.Local told)
          (told_so.answer_is ∙ ap (λ (segment : List ℕ). (segment_does segment on).0) S.core.segment_is),
      keeps_with core new extended node (with_writes kept writes) same
          (local_stands core (under core_of node) core.cells bytes (with_writes kept writes) S.core
          (record {
            writes = all_fit-append s.segment kept.writes writes S.core.invariant_.kept.writes
                (written_fits s core.me kept on S.core.invariant_.kept);
            locks = S.core.invariant_.kept.locks;
          })
          S.core.cells_are
          (told_so.written
          ∙ (ap (λ (segment : List ℕ). written_by segment (segment_does segment on).1) S.core.segment_is
          ∙ sym (image-append s.segment kept.writes writes))) refl refl) S,
    )))
  where
    told_so : OnSegmentBytes core.segment on answer bytes
    told_so = subst (λ (segment : List ℕ). OnSegmentBytes segment on answer bytes) lent_is lent_on

    new : CoreState
    new = record core { segment = bytes }

    same : IsSameNode core new
    same = record {
      settings = refl;
      me_is = refl;
      table = refl;
      segment_length = ap length told_so.written
          ∙ length-written_by (length core.segment) core.segment (segment_does core.segment on).1 refl
          (segment_fits core.segment on);
    }

-- where it is only read
pub segment_read : (core : CoreState) (extended : Extended) (thread : ℕ) (of_thread : Call) (on : SegmentCall)
    (answer : LocalAnswer) (lent : List ℕ) → meant of_thread ≡ Performs (OnCore (OnSegment on))
    → lent ≡ core.segment → OnSegmentBytes lent on answer lent
    → CallSteps (endpoint_of core extended) thread of_thread (answers.Local answer) (endpoint_of core extended)
segment_read core extended thread of_thread on answer lent is lent_is lent_on =
    subst (λ (bytes : List ℕ). CallSteps (endpoint_of core extended) thread of_thread (answers.Local answer)
    (endpoint_of (record core { segment = bytes }) extended)) lent_is
    (segment_steps core extended thread of_thread on answer lent lent is lent_is lent_on)

-- ---- the whole

pub same_extended : (extended : Extended) → IsSameExtended extended extended
same_extended extended = record { nodes = refl; me_is = refl; threads = refl; room = refl }

-- after a step of any lawful handlers
pub step_whole : (core new : CoreState) (extended next : Extended) (now : ℕ) (event : RecordEvent) (answer : Answer)
    → IsWhole core extended → IsSameExtended extended next
    → NodeSteps nothing_runs (endpoint_of core extended) (transition now event answer) (endpoint_of new next)
    → IsWhole new next
step_whole core new extended next now event answer W frame N =
    stays_whole (record { core = core; extended = extended }) (record { core = new; extended = next }) W N.same frame
    (has_next nothing_runs (endpoint_of core extended) (endpoint_of new next) now event answer N W.record_)

-- after a call
pub call_whole : (core new : CoreState) (extended next : Extended) (thread : ℕ) (of_thread : Call) (answer : Answer)
    → IsWhole core extended → IsSameExtended extended next
    → CallSteps (endpoint_of core extended) thread of_thread answer (endpoint_of new next) → IsWhole new next
call_whole core new extended next thread of_thread answer W frame C =
    step_whole core new extended next 0 (event_of_call thread of_thread) answer W frame (C nothing_runs nothing_lawful 0)

-- where the table allows the call
pub allowed_whole : (core new : CoreState) (extended : Extended) (thread : ℕ) (kind : CallKind)
    → IsWhole core extended → CoreChecks core thread kind (Ok tt) new → IsWhole new extended
allowed_whole core new extended thread kind W C =
    stays_whole (record { core = core; extended = extended }) (record { core = new; extended = extended }) W
    (C nothing_runs 0).same (same_extended extended)
    (W.record_.0, allowed_stands core new extended thread kind W.record_.0 C W.record_.1)
