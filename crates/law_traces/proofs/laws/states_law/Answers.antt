-- The law of runs, at states with more in them.
use Rattle.law_traces.proofs.WorldRuns.{states_run}
use Rattle.law_traces.proofs.laws.states_law.Goals as goal

pub returns : goal.returns
returns g c = record {
  run = λ form become steps settings table meaning own traces list may few carries go.
      states_run settings table meaning form become steps own traces list may.job may.actions few carries go;
}
