use Rattle.std.proofs.Common.{◌∙◌, ap, sym}
use Rattle.text_script.specs.Registration.{JobHandlers, registry_of}
use Rattle.text_script.proofs.ScheduleNodes.{job_may_collect, job_within}
use Rattle.text_script.proofs.script.Script.new.Goals as goal

pub invariant_of-result : goal.invariant_of-result
invariant_of-result c = record {
  table_is = c.in_ok-handlers.ensures.table
      ∙ ap (λ (handlers : JobHandlers). (registry_of handlers).table) (sym c.in_ok-handlers.ensures.handlers);
  collect_is = ap (λ (handlers : JobHandlers). handlers.collect) c.in_ok-handlers.ensures.handlers ∙ c.is_some.ensures;
  area = c.requires.collect;
  may_collect = job_may_collect c.args.job c.requires;
  within = job_within c.args.job c.requires;
}
