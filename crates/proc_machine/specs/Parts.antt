-- Events of an endpoint that don't depend on its record.
-- Origin: this project's profile.
use Rattle.std.specs.Prelude.{ℕ, List}
use Rattle.spec_node.specs.declared.answer.SlotRef.{SlotRef}
use Rattle.node_rules.specs.EndpointRules.{RecordEvent}
use Rattle.proc_steps.specs.Tries.{Happening}

-- these events at one time, whatever record they find, and the slots of what they send
abbrev pub at_once : (now : ℕ) → List RecordEvent → List SlotRef → Happening
at_once now events slots = record { now = now; events = λ node. events; slots = slots }
