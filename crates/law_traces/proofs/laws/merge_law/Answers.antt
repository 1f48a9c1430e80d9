-- The law of runs, for the order of a merge.
use Rattle.law_traces.proofs.WorldRuns.{merged_run}
use Rattle.law_traces.proofs.laws.merge_law.Goals as goal

pub returns : goal.returns
returns g c = record {
  run = λ form settings table meaning own traces list may few go.
      merged_run settings table meaning form own traces list may.job may.actions few go;
}
