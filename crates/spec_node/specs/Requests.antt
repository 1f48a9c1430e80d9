-- The requests that a node asked of one peer: their slots and numbers, and which of them is due,
-- by the record.
-- Origin: GASNet 1.8.1, core API, active messages. Credits, slots, numbers and resending are this project's profile.
use Rattle.std.specs.Prelude.{ℕ, zero, suc, ◌+◌, ◌==◌, nat_le, nat_lt, Bool, true, false, not, ◌&&◌, ◌||◌}
use Rattle.std.specs.Prelude.{if◌then◌else◌, List, [], ◌∷◌, ◌++◌, Option, None, Some, length}
use Rattle.std.specs.List.{list_any}
use Rattle.spec_node.specs.Record.{Request}

-- ---- slots

-- the slots of the requests that aren't back
abbrev pub taken_slots : List Request → List ℕ
taken_slots [] = []
taken_slots (request ∷ rest) = if request.back then taken_slots rest else request.slot ∷ taken_slots rest

-- how many requests aren't back
abbrev pub outstanding : List Request → ℕ
outstanding requests = length (taken_slots requests)

-- the smallest number from this one on that isn't among those, of which there are at most so many
abbrev pub least_outside : List ℕ → ℕ → ℕ → ℕ
least_outside those zero number = number
least_outside those (suc many) number =
    if list_any (◌==◌ number) those then least_outside those many (suc number) else number

-- the smallest slot that no request which isn't back has
abbrev pub free_slot : List Request → ℕ
free_slot requests = least_outside (taken_slots requests) (outstanding requests) 0

-- the slot and the number of a request
pub record Claim : Type 0 where
  pub slot : ℕ
  pub number : ℕ

-- those of the request that is accepted next
abbrev pub next_claim : List Request → Claim
next_claim requests = record { slot = free_slot requests; number = suc (length requests) }

-- a request that isn't back, with this slot
abbrev pub is_open : ℕ → Option Request → Bool
is_open slot None = false
is_open slot (Some request) = not request.back && (request.slot == slot)

-- the request of this slot that isn't back, with its number, where these requests are numbered from there on
abbrev pub open_from : ℕ → ℕ → List Request → Option (ℕ × Request)
open_from slot number [] = None
open_from slot number (request ∷ rest) =
    if not request.back && (request.slot == slot) then Some (number, request)
    else open_from slot (suc number) rest

-- the request of this slot that isn't back, with its number
abbrev pub open_in : ℕ → List Request → Option (ℕ × Request)
open_in slot requests = open_from slot 1 requests

-- the request is back
abbrev pub as_back : Request → Request
as_back request = record request { back = true }

-- the request was sent again at this time
abbrev pub sent_at : ℕ → Request → Request
sent_at now request = record request { time = now }

-- ---- resending

-- a request that is due
pub record Due : Type 0 where
  pub time : ℕ  -- when it was last sent
  pub peer : ℕ
  pub slot : ℕ
  pub number : ℕ

-- the one was sent earlier than the other, or at the same time to a lower node, or at the same time to the same node
-- from a lower slot
abbrev pub is_earlier : Due → Due → Bool
is_earlier due other =
    nat_lt due.time other.time
    || ((due.time == other.time)
    && (nat_lt due.peer other.peer || ((due.peer == other.peer) && nat_lt due.slot other.slot)))

-- of the requests of a peer, numbered from there on, those that are due: not back, and last sent `resend` or more
-- before now
abbrev pub dues : (now resend peer number : ℕ) → List Request → List Due
dues now resend peer number [] = []
dues now resend peer number (request ∷ rest) =
    if not request.back && nat_le (request.time + resend) now
    then record { time = request.time; peer = peer; slot = request.slot; number = number }
    ∷ dues now resend peer (suc number) rest
    else dues now resend peer (suc number) rest

-- those of all peers below this one
abbrev pub all_dues : (now resend : ℕ) → (ℕ → List Request) → ℕ → List Due
all_dues now resend asked zero = []
all_dues now resend asked (suc peer) = all_dues now resend asked peer ++ dues now resend peer 1 (asked peer)

-- the one, or another that is earlier
abbrev pub sooner : Due → Option Due → Due
sooner due None = due
sooner due (Some other) = if is_earlier other due then other else due

-- the earliest
abbrev pub earliest : List Due → Option Due
earliest [] = None
earliest (due ∷ rest) = Some (sooner due (earliest rest))
