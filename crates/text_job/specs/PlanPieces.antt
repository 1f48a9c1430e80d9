-- How many pieces the plans of a job have.
use Rattle.std.specs.Prelude.{ℕ, ◌+◌, List, [], ◌∷◌}
use Rattle.text_job.specs.StepPieces.{vis_pieces, steps_pieces}
use Rattle.text_job.specs.declared.plan_pieces.TheConstants.{PIECES}
use Rattle.text_job.specs.declared.job.NodeScript.{NodeScript}
use Rattle.text_steps.specs.declared.steps.ScheduledEvent.{ScheduledEvent}
use Rattle.text_steps.specs.declared.steps.ScheduledEvent.TheVariants as event
use Rattle.text_steps.specs.declared.steps.TimedEvent.{TimedEvent}

-- the most pieces of all plans of a job
abbrev pub most_pieces : ℕ
most_pieces = PIECES

-- those of an event, and of all lines of a schedule
abbrev pub event_pieces : ScheduledEvent → ℕ
event_pieces (event.Vis node thread vis) = vis_pieces vis
event_pieces other = 0

abbrev pub schedule_pieces : List TimedEvent → ℕ
schedule_pieces [] = 0
schedule_pieces (timed ∷ others) = event_pieces timed.event + schedule_pieces others

-- those of all scripts
abbrev pub scripts_pieces : List NodeScript → ℕ
scripts_pieces [] = 0
scripts_pieces (script ∷ others) = steps_pieces script.steps + scripts_pieces others
