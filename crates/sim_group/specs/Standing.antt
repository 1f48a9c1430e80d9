-- What a group of the code stands for, and what its calls do of it: they are the events of the groups of the laws.
use Rattle.std.specs.Prelude.{ℕ, ◌≡◌, ◌≤◌, List, Some, slice_get}
use Rattle.part_handlers.specs.Runs.{Meaning}
use Rattle.sim_world.specs.Events.{job_in}
use Rattle.sim_world.specs.Stands.{WorldStands}
use Rattle.spec_network.specs.MostHeld.{most_after}
use Rattle.law_transfers.specs.Chunks.{EndpointJob}
use Rattle.part_collective_area.specs.Area.{Area}
use Rattle.node_collectives.specs.Progress.{Progress}
use Rattle.node_collectives.specs.CollectivesState.{CollectivesState, progress_of}
use Rattle.node_collectives.specs.declared.answers.StartAnswer.{StartAnswer}
use Rattle.node_collectives.specs.declared.answers.StartAnswer.TheVariants as start_answers
use Rattle.node_collectives.specs.declared.answers.StepAnswer.{StepAnswer}
use Rattle.node_collectives.specs.declared.answers.StepAnswer.TheVariants as step_answers
use Rattle.law_collectives.specs.Groups.{Group, GroupAnswer, GroupEvent, OfStart, OfStep, group_does}
use Rattle.sim_group.specs.GroupState.{GroupState}
use Rattle.sim_group.specs.CallsOf.{calls_of}

-- ---- what it stands for

-- each node has this area, and is as far as the group has it
abbrev pub AreAsFar : Area → (ℕ → Progress) → List CollectivesState → Type 0
AreAsFar area progress nodes =
    (node : ℕ) (one : CollectivesState) → slice_get nodes node ≡ Some one
    → (one.area ≡ area) × (progress node ≡ progress_of one)

-- it stands for this group with this area, whose nodes held at most so many buffers
pub record StandsFor (it : GroupState) (area : Area) (group : Group) (most : ℕ → ℕ) : Type 0 where
  pub world : WorldStands it.world group.records most
  pub nodes : AreAsFar area group.progress it.nodes

-- so it does for some such numbers
abbrev pub IsOf : GroupState → Area → Group → Type 0
IsOf it area group = (most : ℕ → ℕ) × StandsFor it area group most

-- this holds of each group for which it stands, whose nodes held at most so many buffers
abbrev pub ForItsGroups : GroupState → (Area → Group → (ℕ → ℕ) → Type 0) → Type 0
ForItsGroups it Holds =
    (area : Area) (group : Group) (most : ℕ → ℕ) → StandsFor it area group most → Holds area group most

-- ---- what a call does of it

-- it stands for what the event leaves of the group; what its nodes held at most is taken after each call of the event
abbrev pub IsLeft : EndpointJob → Area → Group → (ℕ → ℕ) → GroupEvent → GroupState → Type 0
IsLeft job area group most event new =
    StandsFor new area (group_does job area group event).1
    (most_after job (calls_of job area group event) group.records most)

-- the event happens to the group: the answer is the group's, and the code stands for the group's next state
abbrev pub DoesOf : Meaning → GroupState → Area → Group → (ℕ → ℕ) → GroupEvent → GroupAnswer → GroupState → Type 0
DoesOf meaning old area group most event answer new =
    (answer ≡ (group_does (job_in meaning old.world) area group event).0)
    × IsLeft (job_in meaning old.world) area group most event new

-- so it is of each group for which it stood
abbrev pub Does : Meaning → GroupState → GroupEvent → GroupAnswer → GroupState → Type 0
Does meaning old event answer new =
    ForItsGroups old (λ area group most. DoesOf meaning old area group most event answer new)

-- a start; where memory ran out, the group is as before
abbrev pub StartsOf : Meaning → GroupState → Area → Group → (ℕ → ℕ) → GroupEvent → StartAnswer → GroupState → Type 0
StartsOf meaning old area group most event start_answers.NoMemory new = StandsFor new area group most
StartsOf meaning old area group most event answer new = DoesOf meaning old area group most event (OfStart answer) new

abbrev pub DoesStart : Meaning → GroupState → GroupEvent → StartAnswer → GroupState → Type 0
DoesStart meaning old event answer new =
    ForItsGroups old (λ area group most. StartsOf meaning old area group most event answer new)

-- a step that tries all nodes; where memory ran out, a step that tries only some first nodes
abbrev pub StepsOf : Meaning → GroupState → Area → Group → (ℕ → ℕ) → (ℕ → GroupEvent) → StepAnswer → GroupState
    → Type 0
StepsOf meaning old area group most trying step_answers.NoMemory new =
    (among : ℕ) × (among ≤ old.world.settings.nodes)
    × IsLeft (job_in meaning old.world) area group most (trying among) new
StepsOf meaning old area group most trying answer new =
    DoesOf meaning old area group most (trying old.world.settings.nodes) (OfStep answer) new

abbrev pub DoesStep : Meaning → GroupState → (ℕ → GroupEvent) → StepAnswer → GroupState → Type 0
DoesStep meaning old trying answer new =
    ForItsGroups old (λ area group most. StepsOf meaning old area group most trying answer new)
