-- The route of notifications, in rounds: the number of rounds is the least one whose power of two is at least n.
use Rattle.std.specs.Prelude.{ℕ, zero, suc, ◌+◌, ◌-◌, ◌^◌, ◌%◌, Bool, true, false, ◌&&◌, ◌||◌, ◌==◌, nat_lt}
use Rattle.part_barrier.specs.Masks.{has}

-- of the nodes me, me - 1 and so on, modulo n, the first many are in the mask
abbrev pub has_back : (nodes me mask many : ℕ) → Bool
has_back nodes me mask zero = true
has_back nodes me mask (suc many) = has_back nodes me mask many && has mask ((me + nodes - many) % nodes)

-- in this round, the notification goes to the node that is 2 ^ round further, once the 2 ^ round nodes up to me are
-- known
abbrev pub is_round : (nodes me mask to round : ℕ) → Bool
is_round nodes me mask to round =
    nat_lt (2 ^ round) nodes
    && (((me + 2 ^ round) % nodes) == to)
    && has_back nodes me mask (2 ^ round)

-- in some round below this one
abbrev pub any_round : (nodes me mask to rounds : ℕ) → Bool
any_round nodes me mask to zero = false
any_round nodes me mask to (suc round) = any_round nodes me mask to round || is_round nodes me mask to round

-- a node that has notified, and knows the nodes in the mask, sends to this node
abbrev pub goes_to : (nodes me : ℕ) → (notified : Bool) → (mask to : ℕ) → Bool
goes_to nodes me notified mask to = notified && any_round nodes me mask to nodes
