-- The schedule of the drill.
use Rattle.std.specs.Prelude.{ℕ, zero, suc, ◌-◌, ◌*◌, ◌%◌, ◌^◌, max, pos, List, [], ◌∷◌, ◌++◌, map, length, Some, None}
use Rattle.std.specs.Prelude.{false}
use Rattle.spec_network.specs.Plain.{plain_of}
use Rattle.node_rules.specs.EndpointRules.{Records}
use Rattle.wire_message.specs.Parameters.{Parameters}
use Rattle.part_handlers.specs.declared.rules.Role.TheVariants as role
use Rattle.sim_world.specs.Settling.{WorldJob}
use Rattle.text_steps.specs.declared.steps.Action.TheVariants as action
use Rattle.text_job.specs.declared.job.HandlerText.{HandlerText}
use Rattle.part_transfers.specs.declared.operation.ImplicitKinds.TheVariants as implicit
use Rattle.text_job.specs.declared.job.Job.{Job as JobState}
use Rattle.text_calls.specs.declared.values.Operand.TheVariants as operand
use Rattle.text_steps.specs.declared.steps.ReplyAction.TheVariants as reply
use Rattle.text_calls.specs.declared.scheduled.ScheduledCall.TheVariants as call
use Rattle.text_steps.specs.declared.steps.ScheduledEvent.{ScheduledEvent}
use Rattle.text_steps.specs.declared.steps.ScheduledEvent.TheVariants as scheduled
use Rattle.text_steps.specs.declared.steps.TimedEvent.{TimedEvent}
use Rattle.part_transfers.specs.declared.operation.Transfer.TheVariants as transfer
use Rattle.sim_run.specs.Schedules.{Nodes, nodes_behind, opening_nodes, world_job}
use Rattle.sim_drill.specs.Draws.{round_at}
use Rattle.sim_drill.specs.declared.rounds.Deed.{Deed}
use Rattle.sim_drill.specs.declared.rounds.Deed.TheVariants.{Short, Put, Tick, Request, Reply}
use Rattle.sim_drill.specs.declared.rounds.Round.{Round}

-- ---- a round

-- the number of the message that a round delivers: so many before the last request of its pair, and at least 1
abbrev pub delivered_number : Round → Records → ℕ
delivered_number round records = max (length ((plain_of records).requests round.from round.to) - round.rest % 4) 1

-- the events of a round that does this, where it delivers the message with that number
abbrev pub deed_events : Deed → Round → (number : ℕ) → List ScheduledEvent
deed_events Short round number =
    scheduled.Call round.from 0 (call.Short round.to 128 (operand.Number (pos (round.rest % 1000)) ∷ [])) ∷ []
deed_events Put round number =
    scheduled.Call round.from 0 (call.SyncImplicit implicit.All)
    ∷ scheduled.Call round.from 0 (call.BeginImplicit (transfer.Put round.to (round.rest % 8 * 4096) 0 4096)) ∷ []
deed_events Tick round number = scheduled.Tick round.from ∷ []
deed_events Request round number = scheduled.Request round.from round.to number ∷ []
deed_events Reply round number = scheduled.Reply round.from round.to number ∷ []

abbrev pub at_time : (time : ℕ) → ScheduledEvent → TimedEvent
at_time time event = record { time = time; event = event }

-- the lines of a round that does this at this time, where the nodes are so
abbrev pub deed_lines : (time : ℕ) → Deed → Round → Nodes → List TimedEvent
deed_lines time deed round nodes =
    map (at_time time) (deed_events deed round (delivered_number round nodes.group.records))

-- those of a round
abbrev pub round_lines : (time : ℕ) → Round → Nodes → List TimedEvent
round_lines time round = deed_lines time round.deed round

-- ---- all rounds

-- the lines of so many rounds, each at the time of its number from 0, and each by the records that the earlier ones
-- leave
unfoldable pub rounds_lines : WorldJob → (seed count : ℕ) → Nodes → List TimedEvent
rounds_lines job seed zero nodes = []
rounds_lines job seed (suc count) nodes =
    let earlier = rounds_lines job seed count nodes in
    earlier ++ round_lines count (round_at seed count) (nodes_behind job earlier nodes)

-- ---- the job

-- the handler of requests, and that of replies
abbrev pub request_handler : HandlerText
request_handler = record {
  index = 128;
  role = role.Request;
  locks = [];
  body = action.Add 0 (operand.Argument 0) ∷ action.Reply (reply.Short 129 (operand.Argument 0 ∷ [])) ∷ [];
}

abbrev pub reply_handler : HandlerText
reply_handler = record { index = 129; role = role.Reply; locks = []; body = action.Add 1 (operand.Argument 0) ∷ [] }

abbrev pub drill_settings : Parameters
drill_settings = record {
  version = 1;
  job = 7;
  nodes = 4;
  credits = 2;
  pairs = [];
  threads = 1;
  segment = 65536;
  last = 18446744073709551615;
  resend = 8;
}

-- the job of the drill without its schedule
abbrev pub bare_job : JobState
bare_job = record {
  settings = drill_settings;
  patience = 1;
  sieve = record { lose = 0; repeat = 0; swap = 0 };
  atomics = false;
  collect = None;
  handlers = request_handler ∷ reply_handler ∷ [];
  scripts = [];
  schedule = None;
}

-- the lines of the drill: those of 20,000 rounds from the opening
unfoldable pub drill_schedule : (seed : ℕ) → List TimedEvent
drill_schedule seed = rounds_lines (world_job bare_job) seed 20000 (opening_nodes bare_job)

-- the job of the drill
abbrev pub drill_job : (seed : ℕ) → JobState
drill_job seed = record bare_job { schedule = Some (drill_schedule seed) }
