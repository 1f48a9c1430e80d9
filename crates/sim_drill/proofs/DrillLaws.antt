-- The laws of a run hold of the drill.
use Rattle.std.proofs.Common.{◌≡◌, ℕ, zero, suc, ◌<◌, List, [], ◌∷◌, ◌++◌, Some, subst, lit<}
use Rattle.std.specs.List.{AllByRecursion, slice_get}
use Rattle.std.proofs.lemmas.Option.{same_Some}
use Rattle.wire_message.specs.Parameters.{Parameters}
use Rattle.sim_world.specs.Settling.{WorldJob}
use Rattle.text_steps.specs.declared.steps.TimedEvent.{TimedEvent}
use Rattle.sim_run.specs.Schedules.{Nodes, nodes_behind, opening_nodes, world_job}
use Rattle.text_script.specs.ScriptInvariant.{AreWithin, IsWithin}
use Rattle.sim_run.specs.RunLaws.{RunLaws}
use Rattle.sim_run.proofs.RunLaws.{laws_within}
use Rattle.sim_drill.specs.Draws.{before_round, round_at}
use Rattle.sim_drill.specs.Rounds.{bare_job, deed_lines, drill_job, drill_schedule, drill_settings, round_lines}
use Rattle.sim_drill.specs.Rounds.{rounds_lines}
use Rattle.sim_drill.specs.declared.rounds.Deed.{Deed}
use Rattle.sim_drill.specs.declared.rounds.Deed.TheVariants.{Short, Put, Tick, Request, Reply}
use Rattle.sim_drill.specs.declared.rounds.Round.{Round}
use Rattle.sim_drill.proofs.BareJob.{settings_in_range}
use Rattle.sim_drill.proofs.Drawn.{from_there, to_there}

-- the nodes and threads of each line are there
abbrev AllWithin : Parameters → List TimedEvent → Type 0
AllWithin settings lines = AllByRecursion (λ (line : TimedEvent). IsWithin settings line.event) lines

-- so are those of two lists, one after the other
both_within : (s : Parameters) (xs ys : List TimedEvent) → AllWithin s xs → AllWithin s ys → AllWithin s (xs ++ ys)
both_within s [] ys h k = k
both_within s (x ∷ xs) ys h k = (h.0, both_within s xs ys h.1 k)

-- and of the line at each place
within_by_place : (s : Parameters) (xs : List TimedEvent) → AllWithin s xs → AreWithin s xs
within_by_place s [] h i e at = absurd (cc)
within_by_place s (x ∷ xs) h zero e at =
    subst (λ (y : TimedEvent). IsWithin s y.event) (same_Some x e at) h.0
within_by_place s (x ∷ xs) h (suc i) e at = within_by_place s xs h.1 i e at

-- those of a round
deed_within : (time : ℕ) (deed : Deed) (round : Round) (nodes : Nodes) → round.from < 4 → round.to < 4
    → AllWithin drill_settings (deed_lines time deed round nodes)
deed_within time Short round nodes from to = ((from, lit< tt, tt), tt)
deed_within time Put round nodes from to = ((from, lit< tt, tt), ((from, lit< tt, tt), tt))
deed_within time Tick round nodes from to = (from, tt)
deed_within time Request round nodes from to = ((from, to), tt)
deed_within time Reply round nodes from to = ((from, to), tt)

-- those of all rounds
rounds_within : (job : WorldJob) (seed count : ℕ) (nodes : Nodes)
    → AllWithin drill_settings (rounds_lines job seed count nodes)
unfolding rounds_lines
rounds_within job seed zero nodes = tt
rounds_within job seed (suc count) nodes =
    let earlier = rounds_lines job seed count nodes in
    let round = round_at seed count in
    both_within drill_settings earlier _ (rounds_within job seed count nodes)
    (deed_within count round.deed round (nodes_behind job earlier nodes)
    (from_there (before_round seed count)) (to_there (before_round seed count)))

schedule_within : (seed : ℕ) → AreWithin drill_settings (drill_schedule seed)
unfolding drill_schedule
schedule_within seed =
    within_by_place drill_settings _
    (rounds_within (world_job bare_job) seed 20000 (opening_nodes bare_job))

pub drill_laws : (seed : ℕ) → RunLaws (drill_job seed)
drill_laws seed = laws_within (drill_job seed) settings_in_range tt (schedule_within seed)
