use Rattle.gasnet_c.proofs.law.every_job.Goals as goal
use Rattle.gasnet_c.proofs.MeaningsOfC.{c_of_one_meaning}

pub returns : goal.returns
returns c = c_of_one_meaning
