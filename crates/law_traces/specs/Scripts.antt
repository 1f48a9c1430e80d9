-- What the scripts of a node's threads do, whatever their steps are.
-- Origin: this project's profile.
use Rattle.std.specs.Prelude.{ℕ, Bool, List, Option}
use Rattle.wire_message.specs.Parameters.{Parameters}
use Rattle.part_handlers.specs.declared.table.Entry.{Entry as TableEntry}
use Rattle.part_handlers.specs.Runs.{Meaning}
use Rattle.spec_node.specs.Record.{Node}
use Rattle.spec_node.specs.NodeStep.{Job}
use Rattle.node_rules.specs.Called.{Meant}
use Rattle.node_rules.specs.EndpointRules.{OtherCall}
use Rattle.node_rules.specs.declared.answer.Answer.{Answer}
use Rattle.law_traces.specs.declared.script_answer.ScriptAnswer.{ScriptAnswer}

-- a call that a thread makes: a request (`Requests`), or another call (`Performs`)
abbrev pub ThreadCall : Type 0
ThreadCall = Meant

-- how a try of a thread's step went
pub record TryResult (Own : Type 0) : Type 0 where
  pub left : Own  -- what is left of the node's scripts
  pub ended : Option ScriptAnswer  -- the answer of the step, where the try ended it
  pub began : Bool  -- the try began its step, or changed the node's collectives, and didn't end the step

-- in which job a step is tried, at which node, by which thread and when
pub record TryContext : Type 0 where
  pub settings : Parameters
  pub table : List (Option TableEntry)
  pub meaning : Meaning
  pub me : ℕ
  pub thread : ℕ
  pub now : ℕ

-- what a try of the thread's next step does: calls, in this order, by the record of the node as the try begins; and
-- then what that record, the record after the calls and the answer of the first of them, if any was made, say
pub record Scripts (Kept Own : Type 0) : Type 0 where
  pub calls : TryContext → Own → (before : Node Kept) → List ThreadCall
  pub tried : TryContext → Own → (before after : Node Kept) → (answer : Option Answer) → TryResult Own

-- what all nodes of a job know: its settings and what its nodes do, its table of handlers and what these mean, which
-- threads poll, by what a node keeps, and what scripts do
pub record NodeJob (Kept Own : Type 0) : Type 0 where
  pub job : Job Kept OtherCall Answer
  pub table : List (Option TableEntry)
  pub meaning : Meaning
  pub polls : (thread : ℕ) → Kept → Bool
  pub scripts : Scripts Kept Own
