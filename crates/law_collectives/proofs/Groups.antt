-- The invariant holds after each event of a group.
use Rattle.std.proofs.Common.{List, [], ◌∷◌, Option}
use Rattle.wire_message.specs.Parameters.{Parameters}
use Rattle.part_handlers.specs.declared.table.Entry.{Entry}
use Rattle.part_handlers.specs.Runs.{Meaning}
use Rattle.node_rules.specs.EndpointRules.{job_of}
use Rattle.part_collective_area.specs.Area.{Area}
use Rattle.part_collective_area.specs.Served.{ServesCollectives}
use Rattle.law_collectives.specs.Groups.{AreGroupEvents, End, Group, GroupEvent, IsGroupEvent, Other, Start}
use Rattle.law_collectives.specs.Groups.{Step, group_after, group_does}
use Rattle.law_collectives.specs.Invariant.{GroupHolds}
use Rattle.law_collectives.proofs.Events.{Setting, other_kept}
use Rattle.law_collectives.proofs.Starts.{start_kept}
use Rattle.law_collectives.proofs.Stepped.{step_kept}
use Rattle.law_collectives.proofs.Tried.{end_kept}

pub event_kept : (settings : Parameters) (table : List (Option Entry)) (meaning : Meaning) (area : Area)
    (group : Group) (event : GroupEvent) → Setting settings table meaning area → ServesCollectives meaning
    → GroupHolds (job_of settings table meaning) area group
    → IsGroupEvent (job_of settings table meaning) area group event
    → GroupHolds (job_of settings table meaning) area (group_does (job_of settings table meaning) area group event).1
event_kept settings table meaning area group (Other event) setting serves holds allowed =
    other_kept settings table meaning area group event setting holds allowed
event_kept settings table meaning area group (Start now node thread shape from) setting serves holds allowed =
    start_kept settings table meaning area group now node thread shape from setting serves holds allowed
event_kept settings table meaning area group (Step now node thread among) setting serves holds allowed =
    step_kept settings table meaning area group now node thread among setting holds allowed.0 allowed.1
event_kept settings table meaning area group (End now node thread dest) setting serves holds allowed =
    end_kept settings table meaning area group now node thread dest setting holds allowed

pub events_kept : (settings : Parameters) (table : List (Option Entry)) (meaning : Meaning) (area : Area)
    (group : Group) (events : List GroupEvent) → Setting settings table meaning area → ServesCollectives meaning
    → GroupHolds (job_of settings table meaning) area group
    → AreGroupEvents (job_of settings table meaning) area group events
    → GroupHolds (job_of settings table meaning) area (group_after (job_of settings table meaning) area group events)
events_kept settings table meaning area group [] setting serves holds allowed = holds
events_kept settings table meaning area group (event ∷ later) setting serves holds allowed =
    events_kept settings table meaning area (group_does (job_of settings table meaning) area group event).1 later
    setting serves
    (event_kept settings table meaning area group event setting serves holds allowed.0) allowed.1
