use Rattle.std.proofs.Common.{◌≡◌, ◌≤◌, ◌+◌, ◌-◌, length, []}
use Rattle.text_job.specs.JobReading.{read, with_body}
use Rattle.text_job.specs.Places.{AtBody}
use Rattle.text_job.specs.declared.job.HandlerText.{HandlerText}
use Rattle.text_job.specs.declared.job.Job.{Job}
use Rattle.text_job.proofs.handler_lines.body_at.Given as goal

abbrev pub invariant-loop-read : goal.invariant-loop-read
invariant-loop-read l = record {
  so_far : (handler : HandlerText) (job : Job) →
      read (record { place = AtBody (with_body l.actions.items handler); job = job }) l.line l.rest
      ≡ read (record { place = AtBody (with_body [] handler); job = job }) l.first l.bytes;
  line : l.line ≡ l.first + length l.actions.items;
  few : length l.actions.items ≤ 64;
}

abbrev pub decreases-loop-read : goal.decreases-loop-read
decreases-loop-read l = 64 - length l.actions.items
