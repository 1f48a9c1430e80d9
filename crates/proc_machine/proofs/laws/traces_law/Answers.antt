-- The law of traces.
use Rattle.proc_steps.proofs.Fits.{steps_fit}
use Rattle.proc_machine.proofs.Merging.{traces_run, nodes_open, states_replay}
use Rattle.proc_machine.proofs.laws.traces_law.Goals as goal

pub returns : goal.returns
returns c = record { run = traces_run steps_fit; opens = nodes_open; replays = states_replay }
