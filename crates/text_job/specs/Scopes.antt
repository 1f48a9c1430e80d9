-- What the lines of a job say that decides what later ones may say.
use Rattle.std.specs.Prelude.{is_some}
use Rattle.text_job.specs.declared.job.Job.{Job}
use Rattle.text_calls.specs.declared.scope.Scope.{Scope}

-- what the lines of a job say that decides what later ones may say
abbrev pub scope_of : Job → Scope
scope_of job = record { settings = job.settings; atomics = job.atomics; collect = is_some job.collect }
