-- The library's own handlers are lawful, and serve batches and collectives.
use Rattle.std.proofs.Common.{ℕ, Bool, true, false, refl}
use Rattle.std.specs.Prelude.{◌==◌, if◌then◌else◌}
use Rattle.part_handlers.specs.Runs.{Frame, Start, IsLawfulRun, nothing_done}
use Rattle.part_handlers.proofs.Lawful.{lawful-untouched}
use Rattle.node_atomics.specs.Served.{ServesBatches, outcome_of_batch}
use Rattle.node_atomics.proofs.Lawful.{lawful-served}
use Rattle.part_collective_area.specs.Served.{ServesCollectives, collective_handler, outcome_of_piece}
use Rattle.part_collective_area.proofs.Stamping.{lawful-stamped}
use Rattle.gasnet_c.specs.OwnHandlers.{serving}

pub serving_lawful : (handler : ℕ) (frame : Frame) (start : Start)
    → IsLawfulRun frame start (serving handler frame start)
serving_lawful handler frame start = by_handler (handler == collective_handler)
  where
    by_handler : (collective : Bool) → IsLawfulRun frame start
        (if collective then outcome_of_piece frame start (nothing_done start)
        else outcome_of_batch handler frame start (nothing_done start))
    by_handler true = lawful-stamped frame start (nothing_done start) (lawful-untouched frame start)
    by_handler false = lawful-served handler frame start (nothing_done start) (lawful-untouched frame start)

-- so all that is promised of batches and of collectives is said of them
pub serves_batches : ServesBatches serving
serves_batches = record { requests = λ frame start. refl; replies = λ frame start. refl }

pub serves_collectives : ServesCollectives serving
serves_collectives frame start = refl
