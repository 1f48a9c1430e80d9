-- A request is one change of the table: a slot is claimed, a message is written into its buffer, and the slot is
-- committed.
use Rattle.std.proofs.Common.{ℕ, ◌≡◌, ◌≤◌, List, ◌++◌, length, take, ap, ◌∙◌, arith}
use Rattle.base_lists.proofs.Update.{update-same, update-update}
use Rattle.part_window.specs.SlotsState.{PeerState, SlotState, SlotsState, Opened, Committed, Claim, Claims, refill}
use Rattle.part_window.specs.SlotsState.{with_written, as_committed, with_slot_changed, with_slot_in, with_given}
use Rattle.part_window.specs.SlotsState.{with_given_in}
use Rattle.part_window.specs.SlotsState.{with_request}
use Rattle.part_window.proofs.Slots.{refilled-prefix}

-- a slot that was given with a number and then changed
pub with_given-changed : (t : SlotsState) (to k number : ℕ) (s : SlotState) (change : SlotState → SlotState)
    → with_slot_changed (with_given t to k number s) to k change ≡ with_given t to k number (change s)
with_given-changed t to k number s change = ap (λ (peers : List PeerState). record t { peers = peers })
    (update-update t.peers to (λ p. with_given_in p k number s) (λ p. with_slot_in p k change)
    ∙ update-same t.peers to (λ p. with_slot_in (with_given_in p k number s) k change)
    (λ p. with_given_in p k number (change s))
    (λ p. ap (λ (slots : List SlotState). record { given = number; slots = slots })
    (update-update p.slots k (λ _. s) change)))

-- For a caller that claims a slot, writes a message at the beginning of its buffer and commits the message's length: the
-- table it ends with, by
-- what `claim` ensures and what was written.
pub request_committed : {old claimed : SlotsState} {to : ℕ} {claim : Claim} (message rest written : List ℕ)
    → Claims old to claim claimed → written ≡ message ++ rest → length message ≤ 8296
    → with_slot_changed (with_slot_changed claimed to claim.slot (with_written written)) to claim.slot
    (as_committed (length message)) ≡ with_request old to claim message
request_committed {old = old} {to = to} {claim = claim} message rest written h prefix fits =
    let slot = claim.slot in
    let number = claim.number in
    let now = claim.time in
    let message_is : take (length message) (refill h.buffer written) ≡ message =
    ap (λ (bytes : List ℕ). take (length message) (refill h.buffer bytes)) prefix
    ∙ refilled-prefix h.buffer message rest (omega (arith, h.whole)) in
    ap (λ (t : SlotsState). with_slot_changed (with_slot_changed t to slot (with_written written)) to slot
    (as_committed (length message))) h.opened
    ∙ (ap (λ (t : SlotsState). with_slot_changed t to slot (as_committed (length message)))
    (with_given-changed old to slot number (Opened number now h.buffer) (with_written written))
    ∙ (with_given-changed old to slot number (Opened number now (refill h.buffer written)) (as_committed (length message))
    ∙ ap (λ (bytes : List ℕ). with_given old to slot number (Committed number now bytes)) message_is))
