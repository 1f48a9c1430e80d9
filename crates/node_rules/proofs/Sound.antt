-- What endpoints do by lawful handlers is sound: what they send and reply may be delivered, and what they leave is
-- good.
use Rattle.std.proofs.Common.{◌≡◌, inl, inr, ℕ, zero, suc, ◌&&◌, true, false, List, Option, refl, sym, ap, ◌∙◌}
use Rattle.std.proofs.Common.{subst}
use Rattle.std.specs.Prelude.{◌==◌}
use Rattle.std.proofs.lemmas.Bool.{cases_Bool, and_parts, eqb-true}
use Rattle.base_lists.proofs.Cases.{none_some}
use Rattle.wire_message.specs.Parameters.{Parameters, AreInRange}
use Rattle.wire_message.specs.Content.{Content}
use Rattle.wire_message.specs.Notifications.{is_no_notification}
use Rattle.part_handlers.specs.declared.table.Entry.{Entry}
use Rattle.part_handlers.specs.Runs.{Meaning, IsLawfulMeaning}
use Rattle.spec_node.specs.declared.answer.SlotRef.{SlotRef}
use Rattle.spec_node.specs.Behaviour.{Contact, RanRequest, IsFirstSent, asks_well}
use Rattle.spec_node.specs.NodeStep.{IsAllSound}
use Rattle.part_barrier.specs.Record.{BarrierRecord}
use Rattle.part_barrier.specs.Within.{IsWithin}
use Rattle.part_barrier.proofs.Within.{stays_within}
use Rattle.part_transfers.specs.Operation.{Operation, issue, come_back}
use Rattle.part_transfers.proofs.Issued.{issue_was}
use Rattle.node_core.specs.Kept.{segment_of}
use Rattle.node_core.specs.Library.{is_library, notification_handler, notification_said, has_wrong_args, run_answer}
use Rattle.node_core.specs.ClientRules.{content_refusal}
use Rattle.node_rules.specs.EndpointLocal.{EndpointLocal, IsEndpointKept, AreByChunks, IsByChunks}
use Rattle.node_rules.specs.BarrierCalls.{has_ranges}
use Rattle.node_rules.specs.EndpointRules.{after_notification, after_sent, sent_as, all_rules}
use Rattle.node_rules.proofs.Chunks.{return_was}
use Rattle.node_rules.proofs.Noting.{heard_notification}
use Rattle.node_rules.proofs.Handled.{asking_well, run_replies, request_kept, reply_kept, well_is, asks_no_ack}
use Rattle.node_rules.proofs.Works.{sending_well}
use Rattle.node_rules.proofs.Kept.{calls_kept}

-- what is heard of a request that isn't refused can be sent on
notification_kept : (settings : Parameters) (table : List (Option Entry)) (content : Content) (barrier : BarrierRecord)
    → asks_well (content_refusal settings table) content ≡ true → IsWithin settings.nodes barrier
    → IsWithin settings.nodes (after_notification settings content barrier)
notification_kept settings table content barrier well good =
    let notification = notification_said settings.version content.args in
    elim (cases_Bool ((content.handler == notification_handler) && has_ranges notification)) [
      | inl heard ↦
          let both = and_parts (content.handler == notification_handler) (has_ranges notification) heard in
          let same : content.handler ≡ notification_handler = eqb-true content.handler notification_handler both.0 in
          let parts = and_parts _ _ well in
          let is = well_is settings table content (asks_no_ack content.kind parts.0) parts.1 in
          let taken = is.right (own content.handler same) in
          let right : is_no_notification settings.version settings.nodes content.args ≡ false =
          ap (λ handler. has_wrong_args settings handler content.args) (sym same) ∙ taken.right in
          rw heard ((stays_within.1 settings.nodes barrier good).hear notification
          (heard_notification settings.version settings.nodes content.args right both.1))
      | inr other ↦ rw other good
    ]
  where
    own : (handler : ℕ) → handler ≡ notification_handler → is_library handler ≡ true
    own handler same = ap is_library same

-- the operations keep their transfers where a reply comes back
returned_kept : (settings : Parameters) (me from slot request : ℕ) (operations : List Operation)
    → AreByChunks settings me operations → AreByChunks settings me (come_back from slot request operations)
returned_kept settings me from slot request operations good number operation at =
    let was = return_was from slot request operations number operation at in
    subst (IsByChunks settings me) (sym was.2.transfer) (good number was.0 was.1)

-- and where a chunk goes out
issued_kept : (settings : Parameters) (me to slot request : ℕ) (bytes : List ℕ) (operations : List Operation)
    → AreByChunks settings me operations → AreByChunks settings me (issue to slot request bytes operations)
issued_kept settings me to slot request bytes operations good zero operation at = absurd (none_some at)
issued_kept settings me to slot request bytes operations good (suc place) operation at =
    let was = issue_was to slot request bytes operations place operation at in
    elim was.2 [
      | inl same ↦ subst (λ (o : Operation). IsByChunks settings me o.transfer) (sym same)
          (good (suc place) was.0 was.1)
      | inr more ↦ subst (λ (o : Operation). IsByChunks settings me o.transfer) (sym more.0)
          (good (suc place) was.0 was.1)
    ]

sent_kept : (settings : Parameters) (contact : Contact) (content : Content) (local : EndpointLocal)
    → IsEndpointKept settings contact.me local
    → IsEndpointKept settings contact.me (after_sent settings contact content local)
sent_kept settings contact content local good = elim (cases_Bool (content.handler == notification_handler)) [
  | inl notification ↦ rw notification (record {
    core = good.core;
    operations = good.operations;
    barrier = (stays_within.1 settings.nodes local.barrier good.barrier).send contact.peer _;
  })
  | inr chunk ↦ rw chunk (record {
    core = good.core;
    operations = issued_kept settings contact.me contact.peer contact.slot contact.number content.payload
        local.operations good.operations;
    barrier = good.barrier;
  })
]

-- a run is told as one
told_run : (version : ℕ) (content : Content) (place : SlotRef) → RanRequest (run_answer version content place) place
told_run version content place = elim (cases_Bool (content.handler == notification_handler)) [
  | inl notification ↦ rw notification refl
  | inr other ↦ rw other refl
]

told_sent : (content : Content) (place : SlotRef) → IsFirstSent (sent_as content place) place
told_sent content place = elim (cases_Bool (content.handler == notification_handler)) [
  | inl notification ↦ rw notification refl
  | inr chunk ↦ rw chunk refl
]

-- the rules of lawful handlers are sound
pub rules_sound : (settings : Parameters) (table : List (Option Entry)) (meaning : Meaning) → AreInRange settings
    → IsLawfulMeaning meaning → IsAllSound (all_rules settings table meaning) (IsEndpointKept settings)
rules_sound settings table meaning range lawful = record {
  messages = record {
    says = λ me asking local good none.
        asking_well settings table (segment_of settings local.core) asking.category asking refl none;
    asks = λ me can local sending good is. sending_well settings table me can local sending range good is;
    replies = λ contact content local good well.
        run_replies settings table meaning contact content local.core lawful well;
    notes = λ me thread forbidden local good. record {
      core = record { writes = good.core.writes; locks = good.core.locks };
      operations = good.operations;
      barrier = good.barrier;
    };
    run = λ contact content local good well. record {
      core = request_kept settings table meaning contact content local.core lawful well good.core;
      operations = good.operations;
      barrier = notification_kept settings table content local.barrier well good.barrier;
    };
    take = λ contact content local good well. record {
      core = reply_kept settings table meaning contact content local.core lawful well good.core;
      operations = returned_kept settings contact.me contact.peer contact.slot contact.number local.operations
          good.operations;
      barrier = good.barrier;
    };
    issued = λ contact can content local good is. sent_kept settings contact content local good;
    runs_as = λ content place. told_run settings.version content place;
    sends_as = told_sent;
  };
  does = λ me exhausted thread call local good. calls_kept settings table meaning me exhausted thread call local good;
}
