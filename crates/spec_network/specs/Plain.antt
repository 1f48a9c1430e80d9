-- The plain world: requests, runs and what is back, and what handlers and calls touch, without buffers, kept replies
-- and times.
-- Origin: GASNet 1.8.1, core API, active messages. Slots and repeats are this project's profile.
use Rattle.std.specs.Prelude.{ℕ, zero, suc, ◌≡◌, ◌≢◌, ◌+◌, ◌-◌, ◌<◌, ◌≤◌, ◌==◌, if◌then◌else◌, Bool, true, false, List}
use Rattle.std.specs.Prelude.{[], ◌∷◌, ◌++◌, map, Option, None, Some, length}
use Rattle.std.specs.List.{list_any}
use Rattle.wire_message.specs.Parameters.{Parameters, credits_of}
use Rattle.wire_message.specs.Content.{Content}
use Rattle.base_lists.specs.Numbered.{element_at}
use Rattle.base_lists.specs.Put.{put}
use Rattle.base_lists.specs.Sums.{sum_below}
use Rattle.spec_node.specs.Record.{Request, Run}
use Rattle.spec_network.specs.World.{World}

-- an accepted request
pub record PlainRequest : Type 0 where
  pub content : Content
  pub slot : ℕ

-- the request with this number was run, with this reply
pub record RunReply : Type 0 where
  pub number : ℕ
  pub reply : Content

-- one item for each pair of nodes
abbrev pub ByPair : Type 0 → Type 0
ByPair Item = (from to : ℕ) → Item

pub record Plain (Local : Type 0) : Type 0 where
  pub requests : ByPair (List PlainRequest)  -- the accepted requests of each pair, the earliest first
  pub runs : ByPair (List RunReply)  -- what was run of each pair, the earliest first
  pub back : ByPair (ℕ → Bool)  -- whether the credit of this request of the pair came back
  pub local : ℕ → Local  -- what else each node keeps

-- before all events
abbrev pub plain_opening : {Local : Type 0} → (ℕ → Local) → Plain Local
plain_opening start =
    record { requests = λ from to. []; runs = λ from to. []; back = λ from to number. false; local = start }

-- ---- words

-- that request of the pair
abbrev pub IsRequest : {Local : Type 0} → Plain Local → (from to number : ℕ) → PlainRequest → Type 0
IsRequest plain from to number request = element_at (plain.requests from to) number ≡ Some request

-- a request with this number is among the runs
abbrev pub is_among : ℕ → List RunReply → Bool
is_among number runs = list_any (λ run. run.number == number) runs

-- that request of the pair was run
abbrev pub InRuns : {Local : Type 0} → Plain Local → (from to number : ℕ) → Type 0
InRuns plain from to number = is_among number (plain.runs from to) ≡ true

-- the reply of the request with this number
abbrev pub reply_of : ℕ → List RunReply → Option Content
reply_of number [] = None
reply_of number (run ∷ runs) = if run.number == number then Some run.reply else reply_of number runs

-- how many of the numbers from 1 to this one pass
abbrev pub how_many : (ℕ → Bool) → ℕ → ℕ
how_many test zero = 0
how_many test (suc number) = how_many test number + (if test (suc number) then 1 else 0)

-- how many requests of the pair aren't back
abbrev pub outstanding_in : {Local : Type 0} → Plain Local → (from to : ℕ) → ℕ
outstanding_in plain from to =
    length (plain.requests from to) - how_many (plain.back from to) (length (plain.requests from to))

-- the lowest number of a request of the pair that isn't back; where all are back, the number after the last
pub record IsFirstOut {Local : Type 0} (plain : Plain Local) (from to number : ℕ) : Type 0 where
  pub first : 1 ≤ number
  pub last : number ≤ suc (length (plain.requests from to))
  pub before : (earlier : ℕ) → 1 ≤ earlier → earlier < number → plain.back from to earlier ≡ true
  pub out : number ≤ length (plain.requests from to) → plain.back from to number ≡ false

-- no request of the pair that isn't back has this slot
abbrev pub IsFree : {Local : Type 0} → Plain Local → (from to slot : ℕ) → Type 0
IsFree plain from to slot =
    (number : ℕ) (request : PlainRequest)
    → IsRequest plain from to number request → plain.back from to number ≡ false → request.slot ≢ slot

-- it is the smallest such slot
abbrev pub IsLeastFree : {Local : Type 0} → Plain Local → (from to slot : ℕ) → Type 0
IsLeastFree plain from to slot =
    IsFree plain from to slot × ((lower : ℕ) → lower < slot → IsFree plain from to lower → ⊥)

-- a request of the same slot with a greater number was run
abbrev pub IsPassed : {Local : Type 0} → Plain Local → (from to number : ℕ) → PlainRequest → Type 0
IsPassed plain from to number request =
    (later : ℕ) × (other : PlainRequest) × (number < later) × IsRequest plain from to later other
    × (other.slot ≡ request.slot) × InRuns plain from to later

-- ---- what a node holds

-- the request is there and has this slot
abbrev pub has_slot : (slot : ℕ) → Option PlainRequest → Bool
has_slot slot None = false
has_slot slot (Some request) = request.slot == slot

-- some request of the pair with this slot was run
abbrev pub slot_ran : {Local : Type 0} → Plain Local → (from to slot : ℕ) → Bool
slot_ran plain from to slot =
    list_any (λ run. has_slot slot (element_at (plain.requests from to) run.number)) (plain.runs from to)

-- how many slots below this one are so
abbrev pub slots_ran : {Local : Type 0} → Plain Local → (from to slot : ℕ) → ℕ
slots_ran plain from to zero = 0
slots_ran plain from to (suc slot) =
    slots_ran plain from to slot + (if slot_ran plain from to slot then 1 else 0)

-- what a node holds for a peer: its requests that aren't back, and the slots of the other's of which it ran some
-- request
abbrev pub plain_held_with : {Local : Type 0} → Parameters → Plain Local → (node peer : ℕ) → ℕ
plain_held_with settings plain node peer =
    outstanding_in plain node peer + slots_ran plain peer node (credits_of settings peer node)

-- how many messages the node holds
abbrev pub plain_held : {Local : Type 0} → Parameters → Plain Local → (node : ℕ) → ℕ
plain_held settings plain node = sum_below (plain_held_with settings plain node) settings.nodes

-- ---- what a step leaves

-- the items, but this one at that pair
abbrev pub put_pair : {Item : Type 0} → ByPair Item → (from to : ℕ) → Item → ByPair Item
put_pair items from to item = put items from (put (items from) to item)

-- the node keeps this
abbrev pub with_plain : {Local : Type 0} → Plain Local → (node : ℕ) → Local → Plain Local
with_plain plain node local = record plain { local = put plain.local node local }

-- a request of the pair is accepted with this slot
abbrev pub with_plain_request : {Local : Type 0} → Plain Local → (from to : ℕ) → PlainRequest → Plain Local
with_plain_request plain from to request =
    record plain { requests = put_pair plain.requests from to (plain.requests from to ++ request ∷ []) }

-- a request of the pair is run, with its reply and what that leaves at its target
abbrev pub with_replied : {Local : Type 0} → Plain Local → (from to : ℕ) → RunReply → Local → Plain Local
with_replied plain from to run local =
    record plain {
      runs = put_pair plain.runs from to (plain.runs from to ++ run ∷ []);
      local = put plain.local to local;
    }

-- the credit of that request of the pair is back, with what the run of its reply leaves at its origin
abbrev pub with_credit : {Local : Type 0} → Plain Local → (from to number : ℕ) → Local → Plain Local
with_credit plain from to number local =
    record plain {
      back = put_pair plain.back from to (put (plain.back from to) number true);
      local = put plain.local from local;
    }

-- ---- how a world is read as a plain one

-- of a request its content and its slot
abbrev pub plain_request : Request → PlainRequest
plain_request request = record { content = request.content; slot = request.slot }

-- of a run its number and its reply
abbrev pub run_reply : Run → RunReply
run_reply run = record { number = run.number; reply = run.reply }

-- it is there, and its credit came back
abbrev pub is_back : Option Request → Bool
is_back None = false
is_back (Some request) = request.back

-- the world as a plain one
abbrev pub plain_of : {Local : Type 0} → World Local → Plain Local
plain_of world =
    record {
      requests = λ from to. map plain_request ((world from).asked to);
      runs = λ from to. map run_reply ((world to).ran from);
      back = λ from to number. is_back (element_at ((world from).asked to) number);
      local = λ node. (world node).local;
    }
