-- What a link tells after each of its answers.
use Rattle.std.specs.Prelude.{◌≡◌, ◌≤◌, ℕ, List, Option, Some, length, take, ⊤}
use Rattle.base_io.specs.Told.{and_then, rest_of, IsEmptyWhereTold, IsFirstWhereTold}
use Rattle.base_io.specs.declared.link.LinkAnswer.{LinkAnswer}
use Rattle.base_io.specs.declared.link.LinkAnswer.TheVariants as answer
use Rattle.base_io.specs.declared.link.Received.{Received}
use Rattle.base_io.specs.declared.link.Received.TheVariants as received

abbrev pub IsFailed : LinkAnswer → Type 0
IsFailed answer.Done = ⊥
IsFailed answer.Failed = ⊤

abbrev pub IsReceiveFailed : Received → Type 0
IsReceiveFailed (received.Got n) = ⊥
IsReceiveFailed received.Empty = ⊥
IsReceiveFailed received.Failed = ⊤

-- bound to this rank, number of nodes and port; a failure changes nothing
abbrev pub BoundTold : LinkAnswer → ℕ × ℕ × ℕ → Option (ℕ × ℕ × ℕ) → Option (ℕ × ℕ × ℕ) → Type 0
BoundTold answer.Done place old new = new ≡ Some place
BoundTold answer.Failed place old new = new ≡ old

-- this datagram was sent to this node; a failure changes nothing
abbrev pub SentTold : LinkAnswer → ℕ × List ℕ → Option (List (ℕ × List ℕ)) → Option (List (ℕ × List ℕ)) → Type 0
SentTold answer.Done datagram old new = new ≡ and_then old datagram
SentTold answer.Failed datagram old new = new ≡ old

-- what was received is the beginning of the buffer, of as many bytes as the answer says
abbrev pub ReceivedTold : Received → List ℕ → Option (List (List ℕ)) → Option (List (List ℕ)) → Type 0
ReceivedTold (received.Got n) buf old new = (n ≤ length buf) × (new ≡ and_then old (take n buf))
ReceivedTold received.Empty buf old new = new ≡ old
ReceivedTold received.Failed buf old new = new ≡ old

-- it was the first that waits, cut to the buffer, and doesn't wait any more; nothing comes only where nothing waits
abbrev pub WaitingTold : Received → List ℕ → Option (List (List ℕ)) → Option (List (List ℕ)) → Type 0
WaitingTold (received.Got n) buf old new = IsFirstWhereTold old (length buf) (take n buf) × (new ≡ rest_of old)
WaitingTold received.Empty buf old new = IsEmptyWhereTold old × (new ≡ old)
WaitingTold received.Failed buf old new = new ≡ old
