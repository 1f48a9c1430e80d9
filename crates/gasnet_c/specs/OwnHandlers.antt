-- What the library's own handlers do: those of batches and that of collectives.
use Rattle.std.specs.Prelude.{◌==◌, if◌then◌else◌}
use Rattle.part_handlers.specs.Runs.{Meaning, nothing_done}
use Rattle.node_atomics.specs.Served.{outcome_of_batch}
use Rattle.part_collective_area.specs.Served.{collective_handler, outcome_of_piece}

-- the handlers serve batches and collectives, and do nothing else
abbrev pub serving : Meaning
serving = λ handler frame start.
    if handler == collective_handler then outcome_of_piece frame start (nothing_done start)
    else outcome_of_batch handler frame start (nothing_done start)
