-- What one event leaves of a node's operations, and of what was written into its segment.
use Rattle.std.proofs.Common.{◌≡◌, inl, inr, ℕ, List, [], ◌++◌, Option, refl, sym, ap, ◌∙◌, append_assoc}
use Rattle.std.proofs.Common.{append-nil}
use Rattle.std.specs.Prelude.{Result, Ok, Err}
use Rattle.std.proofs.lemmas.Bool.{cases_Bool}
use Rattle.wire_message.specs.Parameters.{Parameters}
use Rattle.wire_message.specs.Content.{Content, code, is_ack}
use Rattle.part_segment.specs.Image.{Write}
use Rattle.part_handlers.specs.declared.table.Entry.{Entry}
use Rattle.part_handlers.specs.declared.rules.Forbidden.{Forbidden}
use Rattle.part_handlers.specs.declared.rules.Role.TheVariants as role
use Rattle.part_handlers.specs.Runs.{Meaning}
use Rattle.spec_node.specs.Behaviour.{Contact}
use Rattle.part_transfers.specs.Regions.{has_begun}
use Rattle.part_transfers.specs.declared.operation.Mode.{Mode}
use Rattle.part_transfers.specs.declared.operation.Transfer.{Transfer}
use Rattle.node_core.specs.Kept.{Local, start_from, with_writes}
use Rattle.node_core.specs.HandlerRuns.{NodeHandlers, landing, outcome, run_request, run_reply}
use Rattle.node_core.specs.ClientRules.{rules}
use Rattle.node_rules.specs.EndpointLocal.{EndpointLocal}
use Rattle.node_rules.specs.CoreCalls.{OnSegment}
use Rattle.node_rules.specs.TransferCalls.{TransferCall, Begin, BeginImplicit, Sync, SyncHandle, SyncAll}
use Rattle.node_rules.specs.TransferCalls.{SyncSome, SyncImplicit, Caller, transfer_does}
use Rattle.node_rules.specs.TransferCalls.{after_beginning, begin_says, implicit_mode}
use Rattle.node_rules.specs.EndpointRules.{OtherCall, OnCore, OnTransfers, endpoint_rules, does_call}
use Rattle.node_rules.specs.EndpointRules.{unless_forbidden}
use Rattle.node_rules.specs.declared.answer.Answer.{Answer}
use Rattle.node_rules.specs.declared.answer.Begun.{Begun}
use Rattle.node_rules.specs.declared.answer.Begun.TheVariants as begun
use Rattle.node_rules.proofs.Frames.{call_framed, transfer_framed}
use Rattle.law_transfers.proofs.Marking.{Alike, alike_same, alike_left, alike_handle, alike_begin}

-- ---- writes

abbrev pub Extends : List Write → List Write → Type 0
Extends before after = (later : List Write) × (after ≡ before ++ later)

pub extends_same : (before after : List Write) → after ≡ before → Extends before after
extends_same before after is = ([], is ∙ sym (append-nil before))

pub extends_more : (before between after : List Write) → Extends before between → Extends between after
    → Extends before after
extends_more before between after one two =
    (one.0 ++ two.0, two.1 ∙ (ap (λ (writes : List Write). writes ++ two.0) one.1 ∙ append_assoc before one.0 two.0))

-- what a handler's run writes
pub run_extends : (handlers : NodeHandlers) (contact : Contact) (content : Content) (core : Local)
    → Extends core.writes (run_request handlers contact content core).0.writes
run_extends handlers contact content core =
    let landed = with_writes core (landing content) in
    let run = outcome handlers role.Request contact content (start_from handlers.settings landed) in
    (landing content ++ run.writes, append_assoc core.writes (landing content) run.writes)

pub take_extends : (handlers : NodeHandlers) (contact : Contact) (content : Content) (core : Local)
    → Extends core.writes (run_reply handlers contact content core).writes
take_extends handlers contact content core = elim (cases_Bool (is_ack (code content.kind))) [
  | inl ack ↦ rw ack (extends_same core.writes core.writes refl)
  | inr reply ↦ rw reply (
      let landed = with_writes core (landing content) in
      let run = outcome handlers role.Reply contact content (start_from handlers.settings landed) in
      (landing content ++ run.writes, append_assoc core.writes (landing content) run.writes))
]

-- ---- calls

-- operations are as they were but for their marks, or are new; and more was written
pub record CallEffect (before after : EndpointLocal) : Type 0 where
  pub operations : Alike before.operations after.operations
  pub writes : Extends before.core.writes after.core.writes

no_effect : (before after : EndpointLocal) → after.operations ≡ before.operations
    → after.core.writes ≡ before.core.writes → CallEffect before after
no_effect before after operations writes = record {
  operations = alike_same before.operations after.operations operations;
  writes = extends_same before.core.writes after.core.writes writes;
}

-- the beginning of a transfer
begin_effect : (caller : Caller) (transfer : Transfer) (mode : Mode) (says : Begun) (local : EndpointLocal)
    → CallEffect local (after_beginning caller transfer mode says local)
begin_effect caller transfer mode (begun.Handle handle) local = record {
  operations = alike_begin caller.thread transfer mode local.operations;
  writes = extends_same local.core.writes local.core.writes refl;
}
begin_effect caller transfer mode begun.Done local = record {
  operations = alike_same local.operations local.operations refl;
  writes = (_, refl);
}
begin_effect caller transfer mode (begun.BadArg part) local = no_effect local local refl refl
begin_effect caller transfer mode begun.TooMany local = no_effect local local refl refl

-- on transfers, where the rule table allows it
pub transfer_effect : (caller : Caller) (call : TransferCall) (local : EndpointLocal)
    → CallEffect local (transfer_does caller call local).1
transfer_effect caller (Begin register transfer) local =
    let it = begin_effect caller transfer _ (begin_says caller transfer local.operations) local in
    record { operations = it.operations; writes = it.writes }
transfer_effect caller (BeginImplicit transfer) local =
    let it = begin_effect caller transfer (implicit_mode local.regions caller.thread)
    (begin_says caller transfer local.operations) local in
    record { operations = it.operations; writes = it.writes }
transfer_effect caller (Sync register) local = record {
  operations = alike_handle _ _ local.operations;
  writes = extends_same local.core.writes local.core.writes refl;
}
transfer_effect caller (SyncHandle handle) local = record {
  operations = alike_handle _ _ local.operations;
  writes = extends_same local.core.writes local.core.writes refl;
}
transfer_effect caller (SyncAll registers) local = record {
  operations = alike_left _ _ local.operations;
  writes = extends_same local.core.writes local.core.writes refl;
}
transfer_effect caller (SyncSome registers) local = record {
  operations = alike_left _ _ local.operations;
  writes = extends_same local.core.writes local.core.writes refl;
}
transfer_effect caller (SyncImplicit some) local = elim (cases_Bool (has_begun local.regions caller.thread)) [
  | inl inside ↦ rw inside (no_effect local local refl refl)
  | inr outside ↦ rw outside (record {
    operations = alike_left _ _ local.operations;
    writes = extends_same local.core.writes local.core.writes refl;
  })
]
transfer_effect caller call local =
    let framed = transfer_framed caller call local in
    no_effect local _ (framed.operations refl) (framed.writes refl)

-- a call that the rule table judges
judged_effect : (settings : Parameters) (table : List (Option Entry)) (meaning : Meaning) (thread : ℕ)
    (judged : Result (Unit {0}) Forbidden) (local : EndpointLocal) (out : Answer × EndpointLocal)
    → CallEffect local out.1
    → CallEffect local (unless_forbidden (endpoint_rules settings table meaning) thread judged local out).1
judged_effect settings table meaning thread (Ok allowed) local out it = it
judged_effect settings table meaning thread (Err forbidden) local out it = no_effect local _ refl refl

-- any call
pub call_effect : (settings : Parameters) (table : List (Option Entry)) (meaning : Meaning) (caller : Caller)
    (call : OtherCall) (local : EndpointLocal)
    → CallEffect local (does_call (endpoint_rules settings table meaning) (rules settings table meaning) caller call
    local).1
call_effect settings table meaning caller (OnCore (OnSegment call)) local = record {
  operations = alike_same local.operations local.operations refl;
  writes = (_, refl);
}
call_effect settings table meaning caller (OnTransfers call) local =
    judged_effect settings table meaning caller.thread _ local (transfer_does caller call local)
    (transfer_effect caller call local)
call_effect settings table meaning caller call local =
    let framed = call_framed settings table meaning caller call local in
    no_effect local _ (framed.operations refl) (framed.writes refl)
