-- What a tick sends of the node's own accord: a notification of the barrier, or a chunk.
use Rattle.std.proofs.Common.{◌≡◌, ℕ, ◌==◌, Bool, false, List, Option, None, Some, refl, sym}
use Rattle.std.proofs.lemmas.Option.{same_Some}
use Rattle.wire_message.specs.Parameters.{Parameters}
use Rattle.wire_message.specs.Content.{Content}
use Rattle.base_lists.proofs.Cases.{none_some}
use Rattle.spec_node.specs.Behaviour.{Sending, Contact}
use Rattle.part_barrier.specs.Record.{SentNotification}
use Rattle.part_transfers.specs.declared.operation.Next.{Next}
use Rattle.part_transfers.specs.declared.operation.Transfer.{Transfer}
use Rattle.part_transfers.specs.declared.operation.Transfer.TheVariants as transfers
use Rattle.part_transfers.specs.Operation.{target, next_chunk, issue}
use Rattle.node_core.specs.Kept.{segment_of}
use Rattle.node_core.specs.Library.{Notification, work_content, notification_handler}
use Rattle.node_rules.specs.EndpointLocal.{EndpointLocal}
use Rattle.node_rules.specs.EndpointRules.{next_notification, next_sending, notification_first, sending_of, chunk_work, after_sent}
use Rattle.node_rules.specs.Tracking.{chunk_content}

-- what is sent where the node keeps this and can ask these
pub data IsSent (settings : Parameters) (me : ℕ) (can : ℕ → Bool) (local : EndpointLocal) (sending : Sending)
    : Type 0 where
  IsNotification : (sent : SentNotification) → next_notification settings me can local.barrier ≡ Some sent
      → sending ≡ sending_of settings (segment_of settings local.core) sent.to (Notification sent.notification)
      → IsSent settings me can local sending
  IsChunk : (next : Next) → next_chunk can 1 local.operations ≡ Some next
      → sending ≡ sending_of settings (segment_of settings local.core) (target next.transfer) (chunk_work next)
      → IsSent settings me can local sending

pub sending_is : (settings : Parameters) (me : ℕ) (can : ℕ → Bool) (local : EndpointLocal) (sending : Sending)
    → next_sending settings me can local ≡ Some sending → IsSent settings me can local sending
sending_is settings me can local sending is =
    by_parts (next_notification settings me can local.barrier) (next_chunk can 1 local.operations) refl refl is
  where
    by_parts : (notification : Option SentNotification) (next : Option Next)
        → next_notification settings me can local.barrier ≡ notification → next_chunk can 1 local.operations ≡ next
        → notification_first settings (segment_of settings local.core) notification next ≡ Some sending
        → IsSent settings me can local sending
    by_parts None None notification_is next_is e = absurd (none_some e)
    by_parts None (Some next) notification_is next_is e = IsChunk next next_is (sym (same_Some _ _ e))
    by_parts (Some sent) next notification_is next_is e = IsNotification sent notification_is (sym (same_Some _ _ e))

-- the request of a chunk isn't that of a notification
pub chunk_no_notification : (version : ℕ) (segment : List ℕ) (next : Next)
    → ((work_content version segment (chunk_work next)).handler == notification_handler) ≡ false
chunk_no_notification version segment next = by_kind next.transfer
  where
    by_kind : (transfer : Transfer)
        → ((work_content version segment (chunk_work (record next { transfer = transfer }))).handler == notification_handler)
        ≡ false
    by_kind (transfers.Put to remote local len) = refl
    by_kind (transfers.Get to remote local len) = refl
    by_kind (transfers.Memset to remote len byte) = refl

-- it says what the chunk says, and has its payload
pub says_chunk : (version : ℕ) (segment : List ℕ) (next : Next)
    → work_content version segment (chunk_work next)
    ≡ chunk_content version next (work_content version segment (chunk_work next)).payload
says_chunk version segment next = by_kind next.transfer
  where
    by_kind : (transfer : Transfer) → let chunk : Next = record next { transfer = transfer } in
        work_content version segment (chunk_work chunk)
        ≡ chunk_content version chunk (work_content version segment (chunk_work chunk)).payload
    by_kind (transfers.Put to remote local len) = refl
    by_kind (transfers.Get to remote local len) = refl
    by_kind (transfers.Memset to remote len byte) = refl

-- the operations after a request that isn't a notification's
pub issued_operations : (settings : Parameters) (contact : Contact) (content : Content) (local : EndpointLocal)
    → (content.handler == notification_handler) ≡ false
    → (after_sent settings contact content local).operations
    ≡ issue contact.peer contact.slot contact.number content.payload local.operations
issued_operations settings contact content local other = rw other refl
