-- What this crate proves, at the types of one job. A clause can't range over all types; the lemmas do.
use Rattle.std.specs.Prelude.{ℕ, Bool, List}
use Rattle.std.specs.List.{AllByRecursion}
use Rattle.spec_node.specs.NodeStep.{Job, IsAllSound}
use Rattle.spec_node.specs.EveryEvent.{KeptNumbers, Good}
use Rattle.spec_network.specs.World.{EventAt, IsAmong, opening, run}
use Rattle.spec_network.specs.MostHeld.{most_after}
use Rattle.spec_network.specs.Invariant.{WorldInvariant}
use Rattle.spec_network.specs.Headline.{Headline, IsGreatest}

-- a run by events among the nodes, of a sound behaviour, where what each node keeps is good at the opening
pub record IsRunOf
    (job : Job KeptNumbers ℕ ℕ) (is_kept : ℕ → KeptNumbers → Bool) (start : ℕ → KeptNumbers) (events : List (EventAt ℕ))
    : Type 0 where
  pub sound : IsAllSound job.behaviour (Good is_kept)
  pub starts : (node : ℕ) → Good is_kept node (start node)
  pub among : AllByRecursion (λ (timed : EventAt ℕ). IsAmong job.settings timed.event) events

-- in each such run
abbrev pub InEveryRun :
    ((job : Job KeptNumbers ℕ ℕ) → (ℕ → KeptNumbers → Bool) → (ℕ → KeptNumbers) → List (EventAt ℕ) → Type 0) → Type 0
InEveryRun law =
    (job : Job KeptNumbers ℕ ℕ) (is_kept : ℕ → KeptNumbers → Bool) (start : ℕ → KeptNumbers) (events : List (EventAt ℕ))
    → IsRunOf job is_kept start events → law job is_kept start events

-- the headline holds
abbrev pub HasHeadline : Job KeptNumbers ℕ ℕ → (ℕ → KeptNumbers → Bool) → (ℕ → KeptNumbers) → List (EventAt ℕ) → Type 0
HasHeadline job is_kept start events = Headline job start events

-- what holds of each pair and of what each node keeps holds at the end
abbrev pub KeepsInvariant : Job KeptNumbers ℕ ℕ → (ℕ → KeptNumbers → Bool) → (ℕ → KeptNumbers) → List (EventAt ℕ)
    → Type 0
KeepsInvariant job is_kept start events =
    WorldInvariant job.settings job.behaviour.messages.refuses (Good is_kept) (run job events (opening start))

-- `most_after` is the greatest number that each node held
abbrev pub HasGreatest : Job KeptNumbers ℕ ℕ → (ℕ → KeptNumbers → Bool) → (ℕ → KeptNumbers) → List (EventAt ℕ) → Type 0
HasGreatest job is_kept start events =
    (node : ℕ) → IsGreatest job events (opening start) node (most_after job events (opening start) (λ other. 0) node)
