-- A reply is one change of the table: a slot is opened, a reply is written into its buffer, and the slot is committed.
use Rattle.std.proofs.Common.{ℕ, ◌≡◌, ◌≤◌, List, ◌++◌, length, take, ap, ◌∙◌, arith}
use Rattle.base_lists.specs.Update.{update}
use Rattle.base_lists.proofs.Update.{update-same, update-update}
use Rattle.part_window.specs.RepliesState.{ReplyState, RepliesState, Opened, Kept, Places, refill, with_written, as_committed}
use Rattle.part_window.specs.RepliesState.{with_slot_changed, with_slot, with_reply}
use Rattle.part_window.proofs.Slots.{refilled-prefix}

-- a slot that got a state and was then changed
pub with_slot-changed : (t : RepliesState) (from k : ℕ) (s : ReplyState) (change : ReplyState → ReplyState)
    → with_slot_changed (with_slot t from k s) from k change ≡ with_slot t from k (change s)
with_slot-changed t from k s change = ap (λ (peers : List (List ReplyState)). record t { peers = peers })
    (update-update t.peers from (λ p. update p k (λ _. s)) (λ p. update p k change)
    ∙ update-same t.peers from (λ p. update (update p k (λ _. s)) k change) (λ p. update p k (λ _. change s))
    (λ p. update-update p k (λ _. s) change))

-- For a caller that opens a slot, writes a reply at the beginning of its buffer and commits the reply's length: the table it
-- ends with, by
-- what `place` ensures and what was written.
pub reply_committed : {old placed : RepliesState} {from slot number : ℕ} (message rest written : List ℕ)
    → Places old from slot number placed → written ≡ message ++ rest → length message ≤ 8296
    → with_slot_changed (with_slot_changed placed from slot (with_written written)) from slot (as_committed (length message))
    ≡ with_reply old from slot number message
reply_committed {old = old} {placed = placed} {from = from} {slot = slot} {number = number} message rest written h prefix
    fits =
    let message_is : take (length message) (refill h.buffer written) ≡ message =
    ap (λ (bytes : List ℕ). take (length message) (refill h.buffer bytes)) prefix
    ∙ refilled-prefix h.buffer message rest (omega (arith, h.whole)) in
    ap (λ (t : RepliesState). with_slot_changed (with_slot_changed t from slot (with_written written)) from slot
    (as_committed (length message))) h.opened
    ∙ (ap (λ (t : RepliesState). with_slot_changed t from slot (as_committed (length message)))
    (with_slot-changed old from slot (Opened number h.buffer) (with_written written))
    ∙ (with_slot-changed old from slot (Opened number (refill h.buffer written)) (as_committed (length message))
    ∙ ap (λ (bytes : List ℕ). with_slot old from slot (Kept number bytes)) message_is))
