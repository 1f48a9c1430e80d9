-- The events of a run from the opening of a job.
use Rattle.std.specs.Prelude.{List, [], ◌∷◌}
use Rattle.spec_network.specs.World.{EventAt, world_after, run}
use Rattle.node_rules.specs.EndpointRules.{OtherCall, Records, at_the_opening}
use Rattle.law_transfers.specs.Chunks.{EndpointJob, EndpointMoment, Stretch}

-- the records after these events
abbrev pub after_all : EndpointJob → List (EventAt OtherCall) → Records
after_all job events = run job events (at_the_opening job.settings)

-- all of these events
abbrev pub whole_stretch : EndpointJob → List (EventAt OtherCall) → Stretch
whole_stretch job events = record { from = at_the_opening job.settings; events = events }

-- the fact holds at each of these events, from these records on
abbrev pub AtEach : EndpointJob → (EndpointMoment → Type 0) → List (EventAt OtherCall) → Records → Type 0
AtEach job fact [] world = Unit {0}
AtEach job fact (timed ∷ later) world =
    fact (record { before = world; timed = timed; later = later })
    × AtEach job fact later (world_after job world timed)

-- so it is of a run by these events
abbrev pub Always : EndpointJob → (EndpointMoment → Type 0) → List (EventAt OtherCall) → Type 0
Always job fact events = AtEach job fact events (at_the_opening job.settings)
