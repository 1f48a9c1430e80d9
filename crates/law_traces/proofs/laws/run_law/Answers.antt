-- The law of runs.
use Rattle.law_traces.proofs.WorldRuns.{scripts_run}
use Rattle.law_traces.proofs.laws.run_law.Goals as goal

pub returns : goal.returns
returns g c = record {
  run = λ form settings table meaning own items may go.
      scripts_run settings table meaning form own items may.job may.actions go;
}
