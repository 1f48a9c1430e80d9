-- What holds of each ordered pair of nodes in every state of a world.
use Rattle.std.specs.Prelude.{ℕ, ◌≡◌, ◌<◌, true, List, [], Option, Some, slice_get}
use Rattle.wire_message.specs.Parameters.{Parameters}
use Rattle.wire_message.specs.Content.{Content}
use Rattle.base_lists.specs.Numbered.{element_at}
use Rattle.spec_node.specs.declared.answer.Why.{Why}
use Rattle.spec_node.specs.Record.{Request, Run}
use Rattle.spec_node.specs.Executed.{run_of}
use Rattle.spec_node.specs.Credits.{Limits, limits_of}
use Rattle.spec_node.specs.Behaviour.{asks_well, replies_well}
use Rattle.spec_node.specs.Invariant.{IsOrderly}
use Rattle.spec_node.specs.NodeStep.{Job}
use Rattle.spec_network.specs.World.{World}

-- of the requests that one node asked of another, and those that the other one ran; `refuses` says why a node refuses a
-- content
pub record PairInvariant
    (limits : Limits) (refuses : Content → Option Why) (requests : List Request) (runs : List Run) : Type 0 where
  pub orderly : IsOrderly limits requests
  -- each content may be delivered
  pub well : (number : ℕ) (request : Request)
      → element_at requests number ≡ Some request → asks_well refuses request.content ≡ true
  pub replies : (place : ℕ) (run : Run) → slice_get runs place ≡ Some run → replies_well refuses run.reply ≡ true
  -- what is back was run
  pub back_ran : (number : ℕ) (request : Request)
      → element_at requests number ≡ Some request → request.back ≡ true → (run : Run) × (run_of number runs ≡ Some run)
  -- what was run was accepted, and ran with its slot and its content
  pub named : (place : ℕ) (run : Run) → slice_get runs place ≡ Some run
      → (request : Request) × (element_at requests run.number ≡ Some request) × (request.slot ≡ run.slot)
      × (request.content ≡ run.content)
  -- nothing ran twice
  pub once : (place other : ℕ) (run again : Run)
      → slice_get runs place ≡ Some run → slice_get runs other ≡ Some again → run.number ≡ again.number → place ≡ other

-- of all pairs, and of what each node keeps beside
pub record WorldInvariant
    {Local : Type 0} (settings : Parameters) (refuses : Content → Option Why) (IsKept : (me : ℕ) → Local → Type 0)
    (world : World Local) : Type 0 where
  pub pair : (from to : ℕ)
      → PairInvariant (limits_of settings from to) refuses ((world from).asked to) ((world to).ran from)
  -- a node asks nothing of itself, and only nodes ask and are asked
  pub own : (node : ℕ) → (world node).asked node ≡ []
  pub nodes : (from to number : ℕ) (request : Request)
      → element_at ((world from).asked to) number ≡ Some request → (from < settings.nodes) × (to < settings.nodes)
  -- what it keeps is good
  pub kept : (node : ℕ) → IsKept node (world node).local

-- of a world of the job
abbrev pub Holds : {Local Call Told : Type 0}
    → Job Local Call Told → (IsKept : (me : ℕ) → Local → Type 0) → World Local → Type 0
Holds job IsKept world = WorldInvariant job.settings job.behaviour.messages.refuses IsKept world
