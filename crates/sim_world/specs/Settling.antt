-- Rounds of ticks and deliveries.
use Rattle.std.specs.Prelude.{◌≡◌, ℕ, zero, suc, List, [], ◌∷◌, ◌++◌, if◌then◌else◌}
use Rattle.std.specs.List.{flat_map}
use Rattle.spec_node.specs.Record.{Request}
use Rattle.spec_node.specs.NodeStep.{Job}
use Rattle.node_rules.specs.EndpointLocal.{EndpointLocal}
use Rattle.spec_network.specs.World.{RequestComes, ReplyComes, Ticks, EventAt, run}
use Rattle.spec_network.specs.MostHeld.{most_after}
use Rattle.node_rules.specs.EndpointRules.{OtherCall, Records, timed_event}
use Rattle.sim_world.specs.Events.{ForItsRecords}
use Rattle.sim_world.specs.Stands.{WorldStands}
use Rattle.sim_world.specs.WorldState.{WorldState}
use Rattle.node_rules.specs.declared.answer.Answer.{Answer}

-- a job as a world of nodes runs it: its settings, and what its nodes do
abbrev pub WorldJob : Type 0
WorldJob = Job EndpointLocal OtherCall Answer

-- of all records for which the world stood: by what the nodes of the job do it stands for the records after the events,
-- which the records decide
abbrev pub Moves : WorldJob → (events : Records → List (EventAt OtherCall)) → WorldState → WorldState → Type 0
Moves job events old new = ForItsRecords old (λ records most.
    WorldStands new (run job (events records) records) (most_after job (events records) records most))

-- the events of each number below the count, in rising order, each decided by the records that the earlier ones leave
abbrev pub in_turn : WorldJob → (events : ℕ → Records → List (EventAt OtherCall)) → (count : ℕ) → Records
    → List (EventAt OtherCall)
in_turn job events zero world = []
in_turn job events (suc count) world =
    let earlier = in_turn job events count world in
    earlier ++ events count (run job earlier world)

-- ---- a pair

-- the numbers of the requests that aren't back, where these requests are numbered from there on
abbrev pub open_numbers : (number : ℕ) → List Request → List ℕ
open_numbers number [] = []
open_numbers number (request ∷ requests) =
    if request.back then open_numbers (suc number) requests else number ∷ open_numbers (suc number) requests

-- each of these requests is back
abbrev pub AreBack : List Request → Type 0
AreBack requests = open_numbers 1 requests ≡ []

-- the request of this number comes, and then its reply
abbrev pub exchange_events : (now from to number : ℕ) → List (EventAt OtherCall)
exchange_events now from to number =
    timed_event now (RequestComes from to number) ∷ timed_event now (ReplyComes from to number) ∷ []

-- the turn of a pair whose requests are these: each that isn't back as the turn comes is delivered, and then its reply
abbrev pub turn_events : (now from to : ℕ) → List Request → List (EventAt OtherCall)
turn_events now from to requests = flat_map (exchange_events now from to) (open_numbers 1 requests)

-- ---- all pairs

-- the turns of the pairs of one node, in rising order of the other one
abbrev pub row_events : WorldJob → (now from : ℕ) → Records → List (EventAt OtherCall)
row_events job now from =
    in_turn job (λ to world. turn_events now from to ((world from).asked to)) job.settings.nodes

-- the turns of all pairs, in rising order of the first node
abbrev pub pair_events : WorldJob → (now : ℕ) → Records → List (EventAt OtherCall)
pair_events job now = in_turn job (row_events job now) job.settings.nodes

-- ---- rounds

-- each node ticks, in rising order
abbrev pub tick_events : WorldJob → (now : ℕ) → Records → List (EventAt OtherCall)
tick_events job now = in_turn job (λ node world. timed_event now (Ticks node) ∷ []) job.settings.nodes

-- a round: the ticks, and then the turns
abbrev pub round_events : WorldJob → (now : ℕ) → Records → List (EventAt OtherCall)
round_events job now world =
    let ticks = tick_events job now world in
    ticks ++ pair_events job now (run job ticks world)

-- so many rounds
abbrev pub settle_events : WorldJob → (now rounds : ℕ) → Records → List (EventAt OtherCall)
settle_events job now = in_turn job (λ turn. round_events job now)
