-- What a request is where it is accepted, what it leaves where it runs, and its reply where it comes back.
-- Origin: GASNet 1.8.1, core API, active messages.
use Rattle.std.specs.Prelude.{◌≡◌, ℕ, List, Option, Some}
use Rattle.wire_message.specs.Parameters.{Parameters}
use Rattle.wire_message.specs.Content.{Content}
use Rattle.part_handlers.specs.declared.table.Entry.{Entry}
use Rattle.part_handlers.specs.Runs.{Meaning}
use Rattle.spec_node.specs.declared.answer.Asked.TheVariants as asked
use Rattle.spec_node.specs.Behaviour.{Ask, Contact}
use Rattle.spec_node.specs.NodeStep.{site_of, OfRequest}
use Rattle.spec_network.specs.World.{EventAt, Asks, OfNode, world_answer}
use Rattle.spec_network.specs.Plain.{PlainRequest, reply_of, plain_of}
use Rattle.spec_network.specs.PlainStep.{RequestName, plain_said}
use Rattle.node_core.specs.HandlerRuns.{handlers_of, run_request, run_reply}
use Rattle.node_rules.specs.EndpointRules.{OtherCall, Records, job_of}
use Rattle.law_transfers.specs.History.{after_in}
use Rattle.law_transfers.specs.Chunks.{EndpointJob, EndpointMoment, writes_at}
use Rattle.law_messages.specs.Events.{after_all}

-- ---- it is accepted

-- a request of a thread: what it asks, and the slot and the number that it got
pub record AcceptedName : Type 0 where
  pub from : ℕ
  pub ask : Ask
  pub to : ℕ
  pub slot : ℕ
  pub number : ℕ

-- what the request is that was asked in this state
abbrev pub accepted_request : EndpointJob → Records → AcceptedName → PlainRequest
accepted_request job world name =
    record { content = plain_said (site_of job name.from) (plain_of world) name.ask; slot = name.slot }

-- a thread asks it after these events, and is answered that it is accepted
pub record IsAccepted (job : EndpointJob) (before : List (EventAt OtherCall)) (event : EventAt OtherCall)
    (name : AcceptedName) : Type 0 where
  pub asks : event.event ≡ Asks name.from name.ask
  pub answered : world_answer job (after_all job before) event
      ≡ OfNode (OfRequest (asked.Accepted name.to name.slot name.number))

-- ---- it runs, and its reply

-- after the event the writes at the target are those that the run of this request leaves, and its reply is the run's
pub record RunLeaves (settings : Parameters) (table : List (Option Entry)) (meaning : Meaning) (name : RequestName)
    (content : Content) (moment : EndpointMoment) : Type 0 where
  pub contact : Contact
  pub writes :
      let out = run_request (handlers_of settings table meaning) contact content (moment.before name.to).local.core in
      writes_at (after_in (job_of settings table meaning) moment) name.to ≡ out.0.writes
  pub reply :
      let out = run_request (handlers_of settings table meaning) contact content (moment.before name.to).local.core in
      reply_of name.number ((plain_of (after_in (job_of settings table meaning) moment)).runs name.from name.to)
      ≡ Some out.1

-- after the event the writes at the requester are those that the run of this reply leaves
pub record ReplyLeaves (settings : Parameters) (table : List (Option Entry)) (meaning : Meaning) (name : RequestName)
    (reply : Content) (moment : EndpointMoment) : Type 0 where
  pub contact : Contact
  pub writes : writes_at (after_in (job_of settings table meaning) moment) name.from
      ≡ (run_reply (handlers_of settings table meaning) contact reply (moment.before name.from).local.core).writes
