use Rattle.std.proofs.Common.{◌≡◌, ◌≤◌, ◌+◌, ◌-◌, length, [], Some}
use Rattle.text_job.specs.JobReading.{amounts_of, read}
use Rattle.text_job.specs.Places.{AtSchedule}
use Rattle.text_job.specs.PlanPieces.{scripts_pieces}
use Rattle.text_job.specs.Scopes.{scope_of}
use Rattle.text_job.specs.declared.job.Job.{Job}
use Rattle.text_job.proofs.schedules.schedule_at.Given as goal

abbrev pub invariant-loop-read : goal.invariant-loop-read
invariant-loop-read l = record {
  lines_so_far : (job : Job) → scope_of job ≡ l.scope → scripts_pieces job.scripts ≡ l.before →
      read (record { place = AtSchedule; job = record job { schedule = Some l.lines.items } }) l.line l.rest
      ≡ read (record { place = AtSchedule; job = record job { schedule = Some [] } }) l.first l.bytes;
  amounts : l.so_far ≡ amounts_of l.before l.lines.items;
  rounds : l.so_far.rounds ≤ 4096;
  pieces : l.so_far.pieces ≤ 65536;
  line : l.line ≡ l.first + length l.lines.items;
  few : length l.lines.items ≤ 65536;
}

abbrev pub decreases-loop-read : goal.decreases-loop-read
decreases-loop-read l = 65536 - length l.lines.items
