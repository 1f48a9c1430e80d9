-- What a node sends for the first time has a spelling. This the code shows that writes it.
use Rattle.std.specs.Prelude.{ℕ}
use Rattle.wire_message.specs.Content.{content_of}
use Rattle.wire_message.specs.Message.{Message, IsMessage}
use Rattle.spec_node.specs.declared.answer.Asked.{Asked}
use Rattle.spec_node.specs.declared.answer.Asked.TheVariants as asked
use Rattle.spec_node.specs.Record.{Run, Node}
use Rattle.spec_node.specs.Requests.{next_claim}
use Rattle.spec_node.specs.Behaviour.{Ask}
use Rattle.spec_node.specs.Step.{Site, new_request, request_content, request_answer, with_sender, Verdict, Runs}
use Rattle.spec_node.specs.Step.{verdict}
use Rattle.spec_node.specs.Step.{TickChoice, Sends, tick_choice}
use Rattle.spec_node.specs.NodeStep.{Job, site_of, NodeEvent, Asks, Does, Comes, Ticks}
use Rattle.spec_node.specs.Invariant.{request_message, reply_message}

-- a request of a thread, where it is accepted
abbrev pub IsAskSpelled : {Local : Type 0} → Site Local → Node Local → (now : ℕ) → Ask → Asked → Type 0
IsAskSpelled site node now ask (asked.Accepted to slot number) =
    IsMessage (request_message site.settings site.me ask.to number
    (new_request now slot (request_content site node ask)))
IsAskSpelled site node now ask _ = Unit {0}

-- the run of the request that is delivered
abbrev pub run_made : {Local : Type 0} → Site Local → Node Local → Message → Run
run_made site node message = record {
  number = message.number;
  slot = message.slot;
  content = content_of message;
  reply = (site.behaviour.run (with_sender site.me message) (content_of message) node.local).1;
}

-- its reply, where it runs
abbrev pub IsReplySpelled : {Local : Type 0} → Site Local → Node Local → Message → Verdict → Type 0
IsReplySpelled site node message Runs =
    IsMessage (reply_message site.settings message.from site.me (run_made site node message))
IsReplySpelled site node message _ = Unit {0}

-- a request of the node's own accord, where a tick sends one
abbrev pub IsTickSpelled : {Local : Type 0} → Site Local → Node Local → (now : ℕ) → TickChoice → Type 0
IsTickSpelled site node now (Sends sending) =
    let claim = next_claim (node.asked sending.to) in
    IsMessage
    (request_message site.settings site.me sending.to claim.number (new_request now claim.slot sending.content))
IsTickSpelled site node now _ = Unit {0}

-- what an event sends
abbrev pub IsSpelled : {Local Call Told : Type 0}
    → Job Local Call Told → (me : ℕ) → Node Local → (now : ℕ) → NodeEvent Call → Type 0
IsSpelled job me node now (Asks ask) =
    IsAskSpelled (site_of job me) node now ask (request_answer (site_of job me) node ask)
IsSpelled job me node now (Does thread call) = Unit {0}
IsSpelled job me node now (Comes message) =
    IsReplySpelled (site_of job me) node message (verdict (site_of job me) node message)
IsSpelled job me node now Ticks = IsTickSpelled (site_of job me) node now (tick_choice (site_of job me) node now)
