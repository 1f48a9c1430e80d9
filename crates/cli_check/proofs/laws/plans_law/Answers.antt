-- A job's settings are in range, and its handlers are lawful.
use Rattle.law_vis.proofs.PairsDone.{pairs_are_done}
use Rattle.text_script.specs.Bodies.{script_meaning}
use Rattle.text_script.specs.LawfulBodies.{lawful-script}
use Rattle.text_script.specs.Registration.{handlers_of, registry_of}
use Rattle.cli_check.proofs.laws.plans_law.Goals as goal

pub returns : goal.returns
returns c = record {
  plans = λ job is. pairs_are_done job.settings (registry_of (handlers_of job)).table (script_meaning (handlers_of job))
      is.settings (lawful-script (handlers_of job));
}
