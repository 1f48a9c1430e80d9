-- The handlers and calls of a text.
use Rattle.law_atomics.proofs.Laws.{atomics_hold}
use Rattle.text_script.specs.Bodies.{script_meaning}
use Rattle.text_script.specs.LawfulBodies.{lawful-script}
use Rattle.text_script.specs.Registration.{registry_of}
use Rattle.text_script.proofs.Batches.{has_batches, serves_batches}
use Rattle.text_script.proofs.Collectives.{has_collectives, serves_collectives}
use Rattle.proc_script_laws.proofs.Bodies.{handlers_fit, job_fits}
use Rattle.proc_script_laws.proofs.Calls.{calls_fit}
use Rattle.proc_script_laws.proofs.laws.fitting_law.Goals as goal

pub returns : goal.returns
returns c = record {
  handlers = handlers_fit;
  jobs = job_fits;
  calls = calls_fit;
  batches = λ handlers has. (has_batches handlers has, serves_batches handlers has);
  atomics = λ settings handlers range has. atomics_hold settings (registry_of handlers).table (script_meaning handlers)
      range (lawful-script handlers) (has_batches handlers has) (serves_batches handlers has);
  collectives = λ handlers has. (has_collectives handlers has, serves_collectives handlers has);
}
