-- What ticks send: chunks lie inside the segments, and each request of the library may be delivered.
use Rattle.std.proofs.Common.{◌≡◌, inl, inr, ℕ, zero, suc, ◌+◌, ◌-◌, ◌*◌, ◌<◌, ◌≤◌, ◌^◌, Bool, true, false}
use Rattle.std.proofs.Common.{List, length, Option, Some, refl, sym, ap, ◌∙◌, subst, arith, nat_lt}
use Rattle.std.specs.Prelude.{drop}
use Rattle.std.proofs.Math.Nat.{min-le_left, min-le_right, le-min}
use Rattle.std.proofs.lemmas.Bool.{cases_Bool, or_from, ltb-true, le-ltb}
use Rattle.std.proofs.lemmas.List.{length-take}
use Rattle.std.proofs.lemmas.Option.{same_Some}
use Rattle.base_lists.proofs.Cases.{cases_option, none_some}
use Rattle.wire_message.specs.Parameters.{Parameters, AreInRange}
use Rattle.wire_message.specs.Content.{Content, is_request, code, is_ack}
use Rattle.wire_message.specs.declared.notification.BarrierNotification.{BarrierNotification}
use Rattle.wire_message.specs.Notifications.{high_half, low_half, joined_halves}
use Rattle.wire_message.proofs.Notified.{joined_again, not_refused}
use Rattle.part_segment.specs.Bytes.{part}
use Rattle.part_handlers.specs.declared.table.Entry.{Entry}
use Rattle.part_handlers.specs.Runs.{passes_end}
use Rattle.spec_node.specs.Behaviour.{asks_well, Sending}
use Rattle.part_barrier.specs.Record.{BarrierRecord, SentNotification, notification_to}
use Rattle.part_barrier.proofs.Within.{notifications_fit}
use Rattle.part_transfers.specs.declared.operation.Next.{Next}
use Rattle.part_transfers.specs.declared.operation.Transfer.{Transfer}
use Rattle.part_transfers.specs.declared.operation.Transfer.TheVariants as transfers
use Rattle.part_transfers.specs.Operation.{size, chunks, chunk_start, chunk_size, next_chunk}
use Rattle.part_transfers.proofs.Issued.{next_is_first}
use Rattle.node_core.specs.Kept.{segment_of}
use Rattle.node_core.specs.Library.{Work, Put, Get, Memset, Notification, WorkFits, IsChunk as IsPiece, work_content, is_library}
use Rattle.node_core.specs.Library.{has_library, has_wrong_args}
use Rattle.node_core.specs.ClientRules.{content_refusal}
use Rattle.node_core.proofs.LibraryLaws.{nodes_few}
use Rattle.node_rules.specs.EndpointLocal.{EndpointLocal, IsEndpointKept, IsByChunks}
use Rattle.node_rules.specs.EndpointRules.{notification_among, next_notification, next_sending, chunk_work}
use Rattle.node_rules.proofs.Sending.{IsSent, IsNotification as SendsNotification, IsChunk as SendsChunk, sending_is}

-- ---- chunks

-- a chunk that is there: it has bytes, at most 8,192, and lies inside its range
record IsCut (size index : ℕ) : Type 0 where
  some : 1 ≤ chunk_size size index
  few : chunk_size size index ≤ 8192
  inside : chunk_start index + chunk_size size index ≤ size

cut_is : (size index : ℕ) → index < chunks size → IsCut size index
cut_is size index there =
    let start = index * 8192 in
    let low : index * 8192 < size = omega (arith, there) in
    record {
      some = le-min (omega arith) (omega (arith, low));
      few = min-le_left 8192 (size - start);
      inside = omega (arith, low, min-le_right 8192 (size - start));
    }

-- a part of a range that lies inside
piece : (segment offset whole start len : ℕ) → 1 ≤ len → len ≤ 8192 → start + len ≤ whole → offset + whole ≤ segment
    → IsPiece segment (offset + start) len
piece segment offset whole start len some few inside fits =
    record { some = some; few = few; inside = omega (arith, inside, fits) }

-- the chunk of a transfer by chunks fits
chunk_fits : (settings : Parameters) (me : ℕ) (transfer : Transfer) (number index : ℕ)
    → IsByChunks settings me transfer → IsCut (size transfer) index
    → WorkFits settings (chunk_work (record {
      number = number;
      transfer = transfer;
      start = chunk_start index;
      len = chunk_size (size transfer) index;
    }))
chunk_fits settings me (transfers.Put to remote local len) number index by cut = (
  piece settings.segment local len (chunk_start index) (chunk_size len index) cut.some cut.few cut.inside by.own,
  piece settings.segment remote len (chunk_start index) (chunk_size len index) cut.some cut.few cut.inside by.remote,
)
chunk_fits settings me (transfers.Get to remote local len) number index by cut = (
  piece settings.segment local len (chunk_start index) (chunk_size len index) cut.some cut.few cut.inside by.own,
  piece settings.segment remote len (chunk_start index) (chunk_size len index) cut.some cut.few cut.inside by.remote,
)
chunk_fits settings me (transfers.Memset to remote len byte) number index by cut = (
  piece settings.segment remote len (chunk_start index) (chunk_size len index) cut.some cut.few cut.inside by.remote,
  ltb-true byte 256 by.byte,
)

-- what a chunk asks fits, where the node keeps what is good
pub chunk_work_fits : (settings : Parameters) (me : ℕ) (can : ℕ → Bool) (local : EndpointLocal) (next : Next)
    → IsEndpointKept settings me local → next_chunk can 1 local.operations ≡ Some next
    → WorkFits settings (chunk_work next)
chunk_work_fits settings me can local next kept is =
    let first = next_is_first can local.operations next is in
    let operation = first.operation in
    let index = length operation.sent in
    subst (λ (n : Next). WorkFits settings (chunk_work n)) (sym first.chunk)
    (chunk_fits settings me operation.transfer next.number index (kept.operations next.number operation first.here)
    (cut_is (size operation.transfer) index (ltb-true index (chunks (size operation.transfer)) first.has)))

-- ---- notes

among_is : (due : ℕ → Option BarrierNotification) (can : ℕ → Bool) (node many : ℕ) (sent : SentNotification)
    → notification_among due can node many ≡ Some sent → (can sent.to ≡ true) × (due sent.to ≡ Some sent.notification)
among_is due can node zero sent e = absurd (none_some e)
among_is due can node (suc many) sent e = elim (cases_Bool (can node)) [
  | inl can_be ↦ elim (cases_option (due node)) [
    | inl none ↦ among_is due can (suc node) many sent (rw (can_be, none) at e)
    | inr some ↦
        let here : record { to = node; notification = some.0 } ≡ sent = same_Some _ _ (rw (can_be, some.1) at e) in (
          ap (λ (one : SentNotification). can one.to) (sym here) ∙ can_be,
          ap (λ (one : SentNotification). due one.to) (sym here) ∙ (some.1 ∙ ap (λ (one : SentNotification). Some one.notification) here),
        )
  ]
  | inr shut ↦ among_is due can (suc node) many sent (rw shut at e)
]

-- the notification that goes next: what is due to a node that can be asked
pub next_notification_is : (settings : Parameters) (me : ℕ) (can : ℕ → Bool) (barrier : BarrierRecord) (sent : SentNotification)
    → next_notification settings me can barrier ≡ Some sent
    → (me < settings.nodes) × (can sent.to ≡ true) × (notification_to settings.nodes me barrier sent.to ≡ Some sent.notification)
next_notification_is settings me can barrier sent e = elim (cases_Bool (nat_lt me settings.nodes)) [
  | inl there ↦
      let it = among_is (notification_to settings.nodes me barrier) can 0 settings.nodes sent (rw there at e) in
      (ltb-true me settings.nodes there, it.0, it.1)
  | inr isnt ↦ absurd (none_some (rw isnt at e))
]

pub notification_work_fits : (settings : Parameters) (me : ℕ) (can : ℕ → Bool) (local : EndpointLocal) (sent : SentNotification)
    → AreInRange settings → IsEndpointKept settings me local → next_notification settings me can local.barrier ≡ Some sent
    → WorkFits settings (Notification sent.notification)
notification_work_fits settings me can local sent range kept is =
    let it = next_notification_is settings me can local.barrier sent is in
    notifications_fit settings.nodes me local.barrier sent.to sent.notification range.nodes it.0 kept.barrier it.2

-- ---- requests of the library

-- a content of the library with nothing wrong may be delivered
well_own : (settings : Parameters) (table : List (Option Entry)) (content : Content) → is_request content.kind ≡ true
    → is_ack (code content.kind) ≡ false → is_library content.handler ≡ true
    → has_library content.kind content.handler ≡ true
    → has_wrong_args settings content.handler content.args ≡ false → passes_end settings.segment content ≡ false
    → asks_well (content_refusal settings table) content ≡ true
well_own settings table content asks other own known right inside = rw (asks, own, other, known, right, inside) refl

-- a place inside doesn't pass the end
not_past : (segment offset len : ℕ) (bytes : List ℕ) → length bytes ≤ len → offset + len ≤ segment
    → nat_lt segment (offset + length bytes) ≡ false
not_past segment offset len bytes less inside = le-ltb segment (offset + length bytes) (omega (arith, less, inside))

-- a range, read again
range_again : (segment offset len : ℕ) → segment < 2 ^ 64 → offset + len ≤ segment
    → nat_lt segment (joined_halves (high_half offset) (low_half offset) + len) ≡ false
range_again segment offset len small inside =
    ap (λ place. nat_lt segment (place + len)) (joined_again offset (omega (arith, small, inside)))
    ∙ le-ltb segment (offset + len) inside

pub work_well : (settings : Parameters) (table : List (Option Entry)) (segment : List ℕ) (work : Work)
    → AreInRange settings → WorkFits settings work
    → asks_well (content_refusal settings table) (work_content settings.version segment work) ≡ true
work_well settings table segment (Put local remote len) range fits =
    well_own settings table (work_content settings.version segment (Put local remote len)) refl refl refl refl refl
    (not_past settings.segment remote len (part segment local len)
    (omega (arith, length-take len (drop local segment))) fits.1.inside)
work_well settings table segment (Get local remote len) range fits =
    let small : settings.segment < 2 ^ 64 = omega (arith, range.segment) in
    well_own settings table (work_content settings.version segment (Get local remote len)) refl refl refl refl
    (or_from false _ refl (or_from (nat_lt 8192 len) _ (le-ltb 8192 len fits.0.few)
    (or_from _ _ (range_again settings.segment remote len small fits.1.inside)
    (range_again settings.segment local len small fits.0.inside)))) refl
work_well settings table segment (Memset remote len byte) range fits =
    let small : settings.segment < 2 ^ 64 = omega (arith, range.segment) in
    let low : byte < 256 = fits.1 in
    well_own settings table (work_content settings.version segment (Memset remote len byte)) refl refl refl refl
    (or_from false _ refl (or_from (nat_lt 8192 len) _ (le-ltb 8192 len fits.0.few)
    (or_from (nat_lt 255 byte) _ (le-ltb 255 byte (omega (arith, low)))
    (range_again settings.segment remote len small fits.0.inside)))) refl
work_well settings table segment (Notification notification) range fits =
    well_own settings table (work_content settings.version segment (Notification notification)) refl refl refl refl
    (not_refused settings.version settings.nodes notification range.version (nodes_few settings range) fits) refl

-- what a tick sends goes to a node that can be asked, and may be delivered
pub sending_well : (settings : Parameters) (table : List (Option Entry)) (me : ℕ) (can : ℕ → Bool)
    (local : EndpointLocal) (sending : Sending) → AreInRange settings → IsEndpointKept settings me local
    → next_sending settings me can local ≡ Some sending
    → (can sending.to ≡ true) × (asks_well (content_refusal settings table) sending.content ≡ true)
sending_well settings table me can local sending range kept is =
    by_kind (sending_is settings me can local sending is)
  where
    segment : List ℕ
    segment = segment_of settings local.core

    by_kind : IsSent settings me can local sending
        → (can sending.to ≡ true) × (asks_well (content_refusal settings table) sending.content ≡ true)
    by_kind (SendsNotification sent notification_is same) = (
      ap (λ (one : Sending). can one.to) same ∙ (next_notification_is settings me can local.barrier sent notification_is).1,
      ap (λ (one : Sending). asks_well (content_refusal settings table) one.content) same
          ∙ work_well settings table segment (Notification sent.notification) range
          (notification_work_fits settings me can local sent range kept notification_is),
    )
    by_kind (SendsChunk next next_is same) = (
      ap (λ (one : Sending). can one.to) same ∙ (next_is_first can local.operations next next_is).open_to,
      ap (λ (one : Sending). asks_well (content_refusal settings table) one.content) same
          ∙ work_well settings table segment (chunk_work next) range
          (chunk_work_fits settings me can local next kept next_is),
    )
