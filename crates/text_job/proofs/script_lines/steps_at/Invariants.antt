use Rattle.std.proofs.Common.{◌≡◌, ◌≤◌, ◌+◌, ◌-◌, length, []}
use Rattle.text_job.specs.JobReading.{read, with_steps}
use Rattle.text_job.specs.Places.{AtSteps}
use Rattle.text_job.specs.PlanPieces.{scripts_pieces}
use Rattle.text_job.specs.StepPieces.{steps_pieces}
use Rattle.text_job.specs.Scopes.{scope_of}
use Rattle.text_job.specs.declared.job.NodeScript.{NodeScript}
use Rattle.text_job.specs.declared.job.Job.{Job}
use Rattle.text_job.proofs.script_lines.steps_at.Given as goal

abbrev pub invariant-loop-read : goal.invariant-loop-read
invariant-loop-read l = record {
  so_far : (script : NodeScript) (job : Job) → scope_of job ≡ l.scope → scripts_pieces job.scripts ≡ l.before →
      read (record { place = AtSteps (with_steps l.steps.items script); job = job }) l.line l.rest
      ≡ read (record { place = AtSteps (with_steps [] script); job = job }) l.first l.bytes;
  pieces : l.pieces ≡ steps_pieces l.steps.items;
  room : l.before + l.pieces ≤ 65536;
  line : l.line ≡ l.first + length l.steps.items;
  few : length l.steps.items ≤ 4096;
}

abbrev pub decreases-loop-read : goal.decreases-loop-read
decreases-loop-read l = 4096 - length l.steps.items
