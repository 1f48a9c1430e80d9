use Rattle.spec_node.proofs.every_event.Goals as goal
use Rattle.spec_node.specs.EveryEvent.{Good}
use Rattle.spec_node.proofs.NodeEvents.{event_keeps}
use Rattle.spec_node.proofs.Holding.{holding_even}

pub returns-clause-kept : goal.returns-clause-kept
returns-clause-kept c = λ job is_kept me node now event sound holds spelled.
    event_keeps job (Good is_kept) me node now event sound holds spelled

pub returns-clause-even : goal.returns-clause-even
returns-clause-even c = holding_even
