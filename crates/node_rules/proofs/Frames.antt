-- Each call leaves the parts of the record that it doesn't touch as they were.
use Rattle.std.proofs.Common.{◌≡◌, inl, inr, ℕ, true, List, Option, None, Some, refl, ap, ◌∙◌}
use Rattle.std.specs.Prelude.{Result, Ok, Err, if◌then◌else◌}
use Rattle.std.proofs.lemmas.Bool.{cases_Bool}
use Rattle.wire_message.specs.Parameters.{Parameters}
use Rattle.part_handlers.specs.declared.table.Entry.{Entry}
use Rattle.part_handlers.specs.declared.rules.Forbidden.{Forbidden}
use Rattle.part_handlers.specs.declared.rules.Violation.{Violation}
use Rattle.part_handlers.specs.Runs.{Meaning}
use Rattle.part_transfers.specs.declared.regions.Region.{Region}
use Rattle.part_transfers.specs.Regions.{region_of, has_begun}
use Rattle.part_transfers.specs.declared.operation.Mode.{Mode}
use Rattle.part_transfers.specs.declared.operation.Transfer.{Transfer}
use Rattle.node_core.specs.ClientRules.{rules}
use Rattle.node_rules.specs.declared.answer.Answer.{Answer}
use Rattle.node_rules.specs.declared.answer.Begun.{Begun}
use Rattle.node_rules.specs.declared.answer.Begun.TheVariants as begun
use Rattle.node_rules.specs.EndpointLocal.{EndpointLocal, with_core}
use Rattle.node_rules.specs.CoreCalls.{LocalCall, Poll, Attempt, if_allowed, local_does}
use Rattle.node_rules.specs.TransferCalls.{TransferCall, Begin, BeginImplicit, SyncImplicit, RegionBegin, RegionEnd}
use Rattle.node_rules.specs.TransferCalls.{Caller, transfer_does, begin_says, after_beginning, after_region}
use Rattle.node_rules.specs.EndpointRules.{OnCore, OnTransfers, OnBarrier, endpoint_rules}
use Rattle.node_rules.specs.EndpointRules.{unless_forbidden}
use Rattle.node_rules.specs.Touches.{Parts, nothing, touches, IsFramed, CallsAreFramed}

-- the record after a call, but with each part that isn't touched as before
abbrev touched_only : Parts → (before after : EndpointLocal) → EndpointLocal
touched_only touched before after = record {
  core = record {
    writes = if touched.writes then after.core.writes else before.core.writes;
    cells = if touched.cells then after.core.cells else before.core.cells;
    locks = if touched.locks then after.core.locks else before.core.locks;
    violations = after.core.violations;
  };
  operations = if touched.operations then after.operations else before.operations;
  regions = if touched.regions then after.regions else before.regions;
  registers = if touched.registers then after.registers else before.registers;
  barrier = if touched.barrier then after.barrier else before.barrier;
}

-- so a record that equals its own such version meets the frame condition
framed_by : (touched : Parts) (before after : EndpointLocal) → after ≡ touched_only touched before after
    → IsFramed touched before after
framed_by touched before after same = record {
  writes = λ free. ap (λ (l : EndpointLocal). l.core.writes) same ∙ rw free refl;
  cells = λ free. ap (λ (l : EndpointLocal). l.core.cells) same ∙ rw free refl;
  locks = λ free. ap (λ (l : EndpointLocal). l.core.locks) same ∙ rw free refl;
  operations = λ free. ap (λ (l : EndpointLocal). l.operations) same ∙ rw free refl;
  regions = λ free. ap (λ (l : EndpointLocal). l.regions) same ∙ rw free refl;
  registers = λ free. ap (λ (l : EndpointLocal). l.registers) same ∙ rw free refl;
  barrier = λ free. ap (λ (l : EndpointLocal). l.barrier) same ∙ rw free refl;
}

-- ---- calls on transfers

-- the call leaves such a record
abbrev LeavesRest : Caller → TransferCall → EndpointLocal → Type 0
LeavesRest caller call local =
    (transfer_does caller call local).1
    ≡ touched_only (touches (OnTransfers call)) local (transfer_does caller call local).1

begun_rest : (caller : Caller) (transfer : Transfer) (mode : Mode) (says : Begun) (local : EndpointLocal)
    → after_beginning caller transfer mode says local
    ≡ touched_only (record nothing { writes = true; operations = true }) local
    (after_beginning caller transfer mode says local)
begun_rest caller transfer mode (begun.Handle handle) local = refl
begun_rest caller transfer mode begun.Done local = refl
begun_rest caller transfer mode _ local = refl

ended_rest : (caller : Caller) (register : ℕ) (was : Option Region) (local : EndpointLocal)
    → (after_region caller register was local).1
    ≡ touched_only (touches (OnTransfers (RegionEnd register))) local (after_region caller register was local).1
ended_rest caller register None local = refl
ended_rest caller register (Some was) local = by_name was.name
  where
    by_name : (name : Option ℕ)
        → (after_region caller register (Some (record was { name = name })) local).1
        ≡ touched_only (touches (OnTransfers (RegionEnd register))) local
        (after_region caller register (Some (record was { name = name })) local).1
    by_name None = refl
    by_name (Some name) = refl

transfer_rest : (caller : Caller) (call : TransferCall) (local : EndpointLocal) → LeavesRest caller call local
transfer_rest caller (Begin register transfer) local =
    ap (λ (l : EndpointLocal). record l {
      registers = (transfer_does caller (Begin register transfer) local).1.registers;
    })
    (begun_rest caller transfer _ (begin_says caller transfer local.operations) local)
transfer_rest caller (BeginImplicit transfer) local =
    ap (λ (l : EndpointLocal). record l {
      regions = (transfer_does caller (BeginImplicit transfer) local).1.regions;
    })
    (begun_rest caller transfer _ (begin_says caller transfer local.operations) local)
transfer_rest caller (SyncImplicit some) local =
    elim (cases_Bool (has_begun local.regions caller.thread)) [ inl e ↦ rw e refl | inr e ↦ rw e refl ]
transfer_rest caller RegionBegin local =
    elim (cases_Bool (has_begun local.regions caller.thread)) [ inl e ↦ rw e refl | inr e ↦ rw e refl ]
transfer_rest caller (RegionEnd register) local =
    ended_rest caller register (region_of local.regions caller.thread) local
transfer_rest caller _ local = refl

pub transfer_framed : (caller : Caller) (call : TransferCall) (local : EndpointLocal)
    → IsFramed (touches (OnTransfers call)) local (transfer_does caller call local).1
transfer_framed caller call local = framed_by (touches (OnTransfers call)) local _ (transfer_rest caller call local)

-- ---- any call

-- where a violation is noted, nothing else changes
noted_framed : (touched : Parts) (local : EndpointLocal) (violations : List Violation)
    → IsFramed touched local (record local { core = record local.core { violations = violations } })
noted_framed touched local violations = record {
  writes = λ free. refl;
  cells = λ free. refl;
  locks = λ free. refl;
  operations = λ free. refl;
  regions = λ free. refl;
  registers = λ free. refl;
  barrier = λ free. refl;
}

-- a call that the rule table judges
judged_framed : (settings : Parameters) (table : List (Option Entry)) (meaning : Meaning) (touched : Parts)
    (thread : ℕ) (judged : Result (Unit {0}) Forbidden) (local : EndpointLocal) (outcome : Answer × EndpointLocal)
    → IsFramed touched local outcome.1
    → IsFramed touched local (unless_forbidden (endpoint_rules settings table meaning) thread judged local outcome).1
judged_framed settings table meaning touched thread (Ok allowed) local outcome it = it
judged_framed settings table meaning touched thread (Err forbidden) local outcome it = noted_framed touched local _

-- the same of a call on what a core keeps
allowed_framed : (settings : Parameters) (table : List (Option Entry)) (meaning : Meaning) (thread : ℕ)
    (judged : Result (Unit {0}) Forbidden) (answer : Answer) (local : EndpointLocal)
    → IsFramed nothing local
    (with_core local (if_allowed (rules settings table meaning) thread judged answer local.core).1)
allowed_framed settings table meaning thread (Ok allowed) answer local = noted_framed nothing local local.core.violations
allowed_framed settings table meaning thread (Err forbidden) answer local = noted_framed nothing local _

core_framed : (all settings : Parameters) (table : List (Option Entry)) (meaning : Meaning) (thread : ℕ)
    (call : LocalCall) (local : EndpointLocal)
    → IsFramed (touches (OnCore call)) local
    (with_core local (local_does all (rules settings table meaning) thread call local.core).1)
core_framed all settings table meaning thread Poll local = allowed_framed settings table meaning thread _ _ local
core_framed all settings table meaning thread (Attempt kind) local =
    allowed_framed settings table meaning thread _ _ local
core_framed all settings table meaning thread _ local = framed_by _ local _ refl

pub call_framed : CallsAreFramed
call_framed settings table meaning caller (OnCore call) local =
    core_framed caller.settings settings table meaning caller.thread call local
call_framed settings table meaning caller (OnTransfers call) local =
    judged_framed settings table meaning (touches (OnTransfers call)) caller.thread _ local (transfer_does caller call local)
    (transfer_framed caller call local)
call_framed settings table meaning caller (OnBarrier call) local =
    judged_framed settings table meaning (touches (OnBarrier call)) caller.thread _ local _ (framed_by _ local _ refl)
