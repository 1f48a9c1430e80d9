use Rattle.std.proofs.Common.{Some}
use Rattle.proc_runner.specs.StationState.{opening_of}
use Rattle.proc_runner.proofs.threads.run_threads.Given as goal

-- the name: what the station was opened with, the number of its threads, and its ledger
abbrev pub ghosts-run_named-N-StationName : goal.ghosts-run_named-N-StationName
ghosts-run_named-N-StationName g a = record { opening = Some (opening_of a.station) }

abbrev pub ghosts-run_named-N-Crew : goal.ghosts-run_named-N-Crew
ghosts-run_named-N-Crew g a = record { threads = a.threads }

abbrev pub ghosts-run_named-N-Ledger : goal.ghosts-run_named-N-Ledger
ghosts-run_named-N-Ledger g a = record { name = a.blank.name; parts = a.blank.parts }
