-- The law, by the lemma.
use Rattle.sim_versions.proofs.Lines.{same_run}
use Rattle.sim_versions.proofs.upgrade_law.Goals as goal

pub returns : goal.returns
returns g = same_run
