use Rattle.sim_group.specs.GroupState.{group_in}
use Rattle.std.proofs.Common.{sym, subst}
use Rattle.sim_world.specs.Events.{job_in}
use Rattle.part_handlers.specs.Runs.{Meaning}
use Rattle.text_steps.specs.declared.steps.CollectiveText.{CollectiveText}
use Rattle.text_script.specs.declared.collective_texts.CollectiveAnswer.TheVariants as answers
use Rattle.sim_run.specs.ScheduleRun.{Collects}
use Rattle.sim_run.proofs.Collecting.{asks, end_collects, start_collects, step_collects}
use Rattle.sim_run.proofs.nodes.collect.Goals as goal

pub start-requires : goal.start-requires
start-requires g c = record { group = c.requires.group; node = c.requires.node; thread = c.requires.thread }

pub returns-in-Start : goal.returns-in-Start
returns-in-Start g c =
    let meaning : Meaning = g.H.Handlers.meaning c.args.handlers.now in
    let node = c.args.asked.now.node in
    let thread = c.args.asked.now.thread in
    record {
      settings = c.start.ensures.settings;
      table = c.start.ensures.table;
      group = c.start.ensures.group;
      collects = subst (λ (call : CollectiveText).
          Collects (job_in meaning c.args.nodes.now.world) (group_in c.args.nodes.now) (asks c.args.now node thread call)
          (answers.Start c.start.result) (group_in c.start.new.self)) (sym c.in-Start.is)
          (start_collects meaning (group_in c.args.nodes.now) (group_in c.start.new.self) c.args.now node thread c.in-Start.shape c.in-Start.from c.start.result
          c.start.ensures.does);
    }

pub step-requires : goal.step-requires
step-requires g c = record { group = c.requires.group; node = c.requires.node; thread = c.requires.thread }

pub returns-in-Step : goal.returns-in-Step
returns-in-Step g c =
    let meaning : Meaning = g.H.Handlers.meaning c.args.handlers.now in
    let node = c.args.asked.now.node in
    let thread = c.args.asked.now.thread in
    record {
      settings = c.step.ensures.settings;
      table = c.step.ensures.table;
      group = c.step.ensures.group;
      collects = subst (λ (call : CollectiveText).
          Collects (job_in meaning c.args.nodes.now.world) (group_in c.args.nodes.now) (asks c.args.now node thread call)
          (answers.Step c.step.result) (group_in c.step.new.self)) (sym c.in-Step.is)
          (step_collects meaning (group_in c.args.nodes.now) (group_in c.step.new.self) c.args.now node thread c.step.result
          c.step.ensures.does);
    }

pub try_end-requires : goal.try_end-requires
try_end-requires g c = record { group = c.requires.group; node = c.requires.node; thread = c.requires.thread }

pub returns-in-Try : goal.returns-in-Try
returns-in-Try g c =
    let meaning : Meaning = g.H.Handlers.meaning c.args.handlers.now in
    let node = c.args.asked.now.node in
    let thread = c.args.asked.now.thread in
    record {
      settings = c.try_end.ensures.settings;
      table = c.try_end.ensures.table;
      group = c.try_end.ensures.group;
      collects = subst (λ (call : CollectiveText).
          Collects (job_in meaning c.args.nodes.now.world) (group_in c.args.nodes.now) (asks c.args.now node thread call)
          (answers.End c.try_end.result) (group_in c.try_end.new.self)) (sym c.in-Try.is)
          (end_collects meaning (group_in c.args.nodes.now) (group_in c.try_end.new.self) c.args.now node thread c.in-Try.dest c.try_end.result
          c.try_end.ensures.does);
    }
