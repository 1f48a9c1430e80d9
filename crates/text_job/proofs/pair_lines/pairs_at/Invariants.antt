use Rattle.std.proofs.Common.{◌≡◌, ◌≤◌, ◌+◌, ◌-◌, length}
use Rattle.wire_message.specs.Parameters.{AreInRange, credits_in_all}
use Rattle.text_job.specs.JobReading.{job_of_head, read}
use Rattle.text_job.specs.Places.{AtPairs}
use Rattle.text_job.proofs.pair_lines.pairs_at.Given as goal

abbrev pub invariant-loop-head : goal.invariant-loop-head
invariant-loop-head l = record {
  so_far : read (record { place = AtPairs; job = job_of_head l.head }) l.line l.rest ≡ read
      (record { place = AtPairs; job = job_of_head l.fn.first }) 11 l.bytes;
  sum : l.sum ≡ credits_in_all l.head.settings;
  range : AreInRange l.head.settings;
  line : l.line ≡ 11 + length l.head.settings.pairs;
  few : length l.head.settings.pairs ≤ 64;
}

abbrev pub decreases-loop-head : goal.decreases-loop-head
decreases-loop-head l = 64 - length l.head.settings.pairs
