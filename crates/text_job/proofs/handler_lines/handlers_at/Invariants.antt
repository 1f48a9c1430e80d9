use Rattle.std.proofs.Common.{◌≡◌, ◌≤◌, ◌+◌, ◌*◌, ◌-◌, length, []}
use Rattle.text_job.specs.JobReading.{read}
use Rattle.text_job.specs.Places.{AtHandlers}
use Rattle.text_job.specs.Scopes.{scope_of}
use Rattle.text_job.specs.declared.job.Job.{Job}
use Rattle.text_job.proofs.handler_lines.handlers_at.Given as goal

abbrev pub invariant-loop-alloc : goal.invariant-loop-alloc
invariant-loop-alloc l = record {
  so_far : (job : Job) → scope_of job ≡ l.scope →
      read (record { place = AtHandlers; job = record job { handlers = l.texts.items } }) l.line l.rest
      ≡ read (record { place = AtHandlers; job = record job { handlers = [] } }) l.first l.bytes;
  line : l.line ≤ l.first + 66 * length l.texts.items;
  few : length l.texts.items ≤ 128;
}

abbrev pub decreases-loop-alloc : goal.decreases-loop-alloc
decreases-loop-alloc l = 128 - length l.texts.items
