-- What an endpoint does with messages is, of what its core keeps, what the core does.
use Rattle.std.proofs.Common.{List, Option, refl}
use Rattle.wire_message.specs.Parameters.{Parameters}
use Rattle.part_handlers.specs.declared.table.Entry.{Entry}
use Rattle.part_handlers.specs.Runs.{Meaning}
use Rattle.spec_node.specs.Under.{IsOver}
use Rattle.node_core.specs.ClientRules.{rules}
use Rattle.node_rules.specs.EndpointLocal.{core_of}
use Rattle.node_rules.specs.EndpointRules.{endpoint_rules}

pub endpoint_over : (settings : Parameters) (table : List (Option Entry)) (meaning : Meaning)
    → IsOver core_of (endpoint_rules settings table meaning) (rules settings table meaning)
endpoint_over settings table meaning = record {
  judges = λ thread kind local. refl;
  notes = λ thread forbidden local. refl;
  faults = λ asking. refl;
  says = λ asking local. refl;
  refuses = λ content. refl;
  busy = λ content local. refl;
  waits = λ content local. refl;
  run = λ contact content local. refl;
  reply = λ contact content local. refl;
  take = λ contact content local. refl;
}
