use Rattle.spec_network.proofs.every_run.Goals as goal
use Rattle.spec_node.specs.EveryEvent.{Good}
use Rattle.spec_network.specs.World.{opening}
use Rattle.spec_network.proofs.Worlds.{opening_holds}
use Rattle.spec_network.proofs.Headline.{headline, end_holds, run_greatest}

pub returns-clause-headline : goal.returns-clause-headline
returns-clause-headline c = λ job is_kept start events R.
    headline job (Good is_kept) start events R.sound R.starts R.among

pub returns-clause-invariant_ : goal.returns-clause-invariant_
returns-clause-invariant_ c = λ job is_kept start events R.
    end_holds job (Good is_kept) events (opening start) R.sound R.among
    (opening_holds job (Good is_kept) start R.starts)

pub returns-clause-greatest : goal.returns-clause-greatest
returns-clause-greatest c = λ job is_kept start events R. run_greatest job start events
