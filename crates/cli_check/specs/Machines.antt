-- The machines of the nodes of a job, before all turns and after the entries of their traces.
-- Origin: this project's profile.
use Rattle.std.specs.Prelude.{ℕ, List}
use Rattle.node_rules.specs.EndpointLocal.{EndpointLocal}
use Rattle.text_job.specs.declared.job.Job.{Job as JobState}
use Rattle.text_steps.specs.declared.steps.ScriptStep.{ScriptStep}
use Rattle.base_turns.specs.declared.entry.Entry.{Entry}
use Rattle.proc_machine.specs.NodeState.{script_job, scripts_at}
use Rattle.spec_node.specs.Record.{Node as Record}
use Rattle.law_traces.specs.Actions.{OwnScripts}
use Rattle.law_traces.specs.Order.{replay}
use Rattle.law_traces.specs.Turn.{MachineState}
use Rattle.law_traces.specs.WorldRun.{opening_machines}

-- the node of this rank before all turns, with its scripts
abbrev pub first_machine : JobState → (rank : ℕ) → MachineState EndpointLocal (OwnScripts ScriptStep)
first_machine job rank = opening_machines job.settings (scripts_at job) rank

-- its record after the entries of its trace, which is the one that the run leaves it
abbrev pub last_record : JobState → (rank : ℕ) → List Entry → Record EndpointLocal
last_record job rank entries = (replay (script_job job) rank (first_machine job rank) entries).node
