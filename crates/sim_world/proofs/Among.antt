-- The events of rounds are those of a world.
use Rattle.std.proofs.Common.{ℕ, zero, suc, ◌<◌, List, [], ◌∷◌, ◌++◌, arith}
use Rattle.std.specs.List.{AllByRecursion, flat_map}
use Rattle.wire_message.specs.Parameters.{Parameters}
use Rattle.spec_network.specs.World.{Ticks, EventAt, IsAmong, run}
use Rattle.node_rules.specs.EndpointRules.{OtherCall, Records, timed_event}
use Rattle.sim_world.specs.Settling.{WorldJob, in_turn, open_numbers, exchange_events, turn_events, row_events}
use Rattle.sim_world.specs.Settling.{tick_events, round_events, settle_events}

-- each event of the list is one of the world
abbrev pub AreAmong : Parameters → List (EventAt OtherCall) → Type 0
AreAmong settings events = AllByRecursion (λ (timed : EventAt OtherCall). IsAmong settings timed.event) events

-- of two lists, one after the other
pub both_among : (s : Parameters) (xs ys : List (EventAt OtherCall)) → AreAmong s xs → AreAmong s ys
    → AreAmong s (xs ++ ys)
both_among s [] ys h k = k
both_among s (x ∷ xs) ys h k = (h.0, both_among s xs ys h.1 k)

-- of lists in turn, where those of each number are
turns_among : (job : WorldJob) (events : ℕ → Records → List (EventAt OtherCall)) (count : ℕ) (w : Records)
    → ((number : ℕ) (v : Records) → number < count → AreAmong job.settings (events number v))
    → AreAmong job.settings (in_turn job events count w)
turns_among job events zero w each = tt
turns_among job events (suc count) w each =
    both_among job.settings (in_turn job events count w) _
    (turns_among job events count w (λ number v low. each number v (omega (arith, low))))
    (each count (run job (in_turn job events count w) w) (omega arith))

-- of the numbers of a turn
pub numbers_among : (s : Parameters) (now from to : ℕ) (numbers : List ℕ) → from < s.nodes → to < s.nodes
    → AreAmong s (flat_map (exchange_events now from to) numbers)
numbers_among s now from to [] a b = tt
numbers_among s now from to (number ∷ numbers) a b =
    ((a, b), ((a, b), numbers_among s now from to numbers a b))

-- of the ticks
ticks_among : (job : WorldJob) (now : ℕ) (w : Records) → AreAmong job.settings (tick_events job now w)
ticks_among job now w =
    turns_among job (λ node v. timed_event now (Ticks node) ∷ []) job.settings.nodes w (λ node v low. (low, tt))

-- of the turns of the pairs of one node
row_among : (job : WorldJob) (now from : ℕ) (w : Records) → from < job.settings.nodes
    → AreAmong job.settings (row_events job now from w)
row_among job now from w a =
    turns_among job (λ to v. turn_events now from to ((v from).asked to)) job.settings.nodes w
    (λ to v b. numbers_among job.settings now from to (open_numbers 1 ((v from).asked to)) a b)

-- of a round
round_among : (job : WorldJob) (now : ℕ) (w : Records) → AreAmong job.settings (round_events job now w)
round_among job now w =
    both_among job.settings (tick_events job now w) _ (ticks_among job now w)
    (turns_among job (row_events job now) job.settings.nodes (run job (tick_events job now w) w)
    (λ from v a. row_among job now from v a))

-- of so many rounds
pub settle_among : (job : WorldJob) (now rounds : ℕ) (w : Records)
    → AreAmong job.settings (settle_events job now rounds w)
settle_among job now rounds w =
    turns_among job (λ turn. round_events job now) rounds w (λ turn v low. round_among job now v)
