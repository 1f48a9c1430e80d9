use Rattle.sim_group.specs.GroupState.{group_in}
use Rattle.std.proofs.Common.{sym, ◌∙◌}
use Rattle.base_io.specs.Buffered.{outbox}
use Rattle.sim_world.specs.Events.{job_in}
use Rattle.text_script.specs.Bodies.{script_meaning}
use Rattle.text_script.specs.Registration.{handlers_of}
use Rattle.sim_run.specs.ScheduleRun.{nodes_stage}
use Rattle.sim_run.proofs.Collecting.{asks}
use Rattle.sim_run.proofs.ScheduleRuns.{collected_by, nothing_collected}
use Rattle.sim_run.proofs.run.run_collective.Goals as goal

pub collect-answer-requires : goal.collect-answer-requires
collect-answer-requires g c =
    record { group = c.requires.group; node = c.requires.node; thread = c.requires.thread }

pub returns-then-is_lacking : goal.returns-then-is_lacking
returns-then-is_lacking g c = record {
  job = record {
    job = record { settings = c.collect-answer.ensures.settings; table = c.collect-answer.ensures.table };
    have = λ have some. c.collect-answer.ensures.group;
  };
  runs = λ line time event.
      nothing_collected (job_in (script_meaning (handlers_of c.args.script.now)) c.args.nodes.now.world)
      c.args.at.number line (group_in c.args.nodes.now) (group_in c.collect-answer.new.nodes)
      (outbox g.K.Sink.taken g.K.Sink.faults c.args.sink.now);
}

pub returns : goal.returns
returns g c = record {
  job = record {
    job = record { settings = c.collect-answer.ensures.settings; table = c.collect-answer.ensures.table };
    have = λ have some. c.collect-answer.ensures.group;
  };
  runs = λ line time event.
      let asked = c.args.asked.now in
      collected_by (handlers_of c.args.script.now) c.handlers.result.now c.handlers.ensures c.args.nodes.now.world
      c.args.at.number (asks c.args.at.now asked.node asked.thread asked.call) c.collect-answer.result
      (nodes_stage g.K.Sink.taken g.K.Sink.faults c.args.nodes.now c.args.sink.now)
      (nodes_stage g.K.Sink.taken g.K.Sink.faults c.collect-answer.new.nodes c.write_collective.new.sink)
      c.write_collective.result _ line c.from_wrote.ensures time event
      (sym c.is_lacking.ensures ∙ c.if-is_lacking.false) c.collect-answer.ensures.collects c.write_collective.ensures;
}
