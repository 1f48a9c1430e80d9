use Rattle.std.proofs.Common.{◌≡◌, ◌≤◌, ◌+◌, ◌*◌, ◌-◌, length, []}
use Rattle.std.specs.List.{AllByRecursion}
use Rattle.text_job.specs.JobReading.{read}
use Rattle.text_job.specs.JobText.{AreThreads}
use Rattle.text_job.specs.Places.{AtScripts}
use Rattle.text_job.specs.PlanPieces.{scripts_pieces}
use Rattle.text_job.specs.Scopes.{scope_of}
use Rattle.text_job.specs.declared.job.Job.{Job}
use Rattle.text_job.proofs.Threads.{IsThere}
use Rattle.text_job.proofs.script_lines.scripts_at.Given as goal

abbrev pub invariant-loop-read : goal.invariant-loop-read
invariant-loop-read l = record {
  so_far : (job : Job) → scope_of job ≡ l.scope →
      read (record { place = AtScripts; job = record job { scripts = l.scripts.items } }) l.line l.rest
      ≡ read (record { place = AtScripts; job = record job { scripts = [] } }) l.first l.bytes;
  threads : AreThreads l.scripts.items;
  there : AllByRecursion (IsThere 256 16) l.scripts.items;
  pieces : l.pieces ≡ scripts_pieces l.scripts.items;
  room : l.pieces ≤ 65536;
  few : length l.scripts.items ≤ 4096;
  line : l.line ≤ l.first + 4098 * length l.scripts.items;
}

abbrev pub decreases-loop-read : goal.decreases-loop-read
decreases-loop-read l = 4097 - length l.scripts.items
