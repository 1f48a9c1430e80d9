-- A turn that got bytes which its node refuses does what the turn that gets nothing does.
use Rattle.std.proofs.Common.{◌≡◌, ℕ, Bool, true, false, List, [], ◌∷◌, ◌++◌, Option, None, Some, refl, sym, ap, ◌∙◌}
use Rattle.std.specs.Prelude.{◌||◌, if◌then◌else◌, is_some}
use Rattle.std.proofs.lemmas.List.{append_assoc}
use Rattle.wire_message.specs.Message.{Message}
use Rattle.wire_message.specs.Reading.{message_at}
use Rattle.wire_message.specs.Refusals.{first_refusal}
use Rattle.wire_message.specs.declared.refused.Refused.{Refused as BadBytes}
use Rattle.node_rules.specs.EndpointLocal.{EndpointLocal}
use Rattle.node_rules.specs.EndpointRules.{OtherCall}
use Rattle.base_turns.specs.declared.entry.Entry.{Entry}
use Rattle.spec_node.specs.NodeStep.{Job, NodeEvent, Comes, Ticks, site_of, node_after}
use Rattle.spec_node.specs.Record.{Node}
use Rattle.spec_node.specs.Step.{Verdict, after_delivery, refusal, verdict}
use Rattle.spec_node.specs.Step.{unless_refused as verdict_unless}
use Rattle.spec_node.specs.Step.Verdict.{Refused}
use Rattle.spec_node.specs.declared.answer.Why.{Why}
use Rattle.law_traces.specs.Empty.{tried_at}
use Rattle.law_traces.specs.Scripts.{NodeJob, TryResult}
use Rattle.law_traces.specs.Turn.{MachineState, before_try, coming, context, first_events, node_run, node_sends}
use Rattle.law_traces.specs.Turn.{try_answer, try_events}
use Rattle.spec_network.specs.Sent.{Packet, delivered_sends, sends}
use Rattle.law_traces.specs.Rejected.{DoTheSame, HaveSameNode, IsReplayTheSame, packets_by, accepted_entry}
use Rattle.law_traces.specs.Rejected.{turn_of_entry, unless_refused}

-- what becomes of a message that is refused, whatever else would become of it
refused_then : (found : Option Why) (reason : Why) (other : Verdict) → found ≡ Some reason
    → verdict_unless found other ≡ Refused reason
refused_then found reason other is = ap (λ (why : Option Why). verdict_unless why other) is

-- ---- events in two parts

module _ {L C T : Type 0} (job : Job L C T) (me now : ℕ) where
  run_both : (first then_ : List (NodeEvent C)) (node : Node L)
      → node_run job me now (first ++ then_) node ≡ node_run job me now then_ (node_run job me now first node)
  run_both [] then_ node = refl
  run_both (event ∷ events) then_ node = run_both events then_ (node_after job me node now event)

  sends_both : (first then_ : List (NodeEvent C)) (node : Node L)
      → node_sends job me now (first ++ then_) node
      ≡ node_sends job me now first node ++ node_sends job me now then_ (node_run job me now first node)
  sends_both [] then_ node = refl
  sends_both (event ∷ events) then_ node =
      let next = node_after job me node now event in
      ap (λ (rest : List Packet). sends job me node now event ++ rest) (sends_both events then_ next)
      ∙ sym (append_assoc (sends job me node now event) (node_sends job me now events next)
      (node_sends job me now then_ (node_run job me now events next)))

  -- ---- a message that is refused

  -- it becomes nothing else
  refused_as : (node : Node L) (message : Message) (reason : Why)
      → refusal (site_of job me) message ≡ Some reason → verdict (site_of job me) node message ≡ Refused reason
  refused_as node message reason is = refused_then (refusal (site_of job me) message) reason _ is

  -- it leaves the record
  refused_leaves : (node : Node L) (message : Message) (reason : Why)
      → refusal (site_of job me) message ≡ Some reason → node_after job me node now (Comes message) ≡ node
  refused_leaves node message reason is =
      ap (after_delivery (site_of job me) node message) (refused_as node message reason is)

  -- nothing is sent
  refused_sends : (node : Node L) (message : Message) (reason : Why)
      → refusal (site_of job me) message ≡ Some reason → sends job me node now (Comes message) ≡ []
  refused_sends node message reason is =
      ap (delivered_sends (site_of job me) node message) (refused_as node message reason is)

  -- ---- the events before the try

  -- after two lists of events the record is one, and they send the same
  record AreSame (node : Node L) (first other : List (NodeEvent C)) : Type 0 where
    pub leaves : node_run job me now first node ≡ node_run job me now other node
    pub gives : node_sends job me now first node ≡ node_sends job me now other node

  -- what comes, and the tick, where the thread polls
  abbrev polled : (polls : Bool) → (delivery : List (NodeEvent C)) → List (NodeEvent C)
  polled polls delivery = if polls then delivery ++ Ticks ∷ [] else []

  -- a message that is refused may as well not come
  message_same : (node : Node L) (polls : Bool) (message : Message) (reason : Why)
      → refusal (site_of job me) message ≡ Some reason → AreSame node (polled polls (Comes message ∷ [])) (polled polls [])
  message_same node false message reason is = record { leaves = refl; gives = refl }
  message_same node true message reason is =
      let leaves = refused_leaves node message reason is in
      let tick : List (NodeEvent C) = Ticks ∷ [] in
      record {
        leaves = ap (node_run job me now tick) leaves;
        gives = ap (λ (one : Node L). sends job me node now (Comes message) ++ node_sends job me now tick one) leaves
            ∙ ap (λ (sent : List Packet). sent ++ node_sends job me now tick node)
            (refused_sends node message reason is);
      }

  -- bytes that are refused may as well not come
  bytes_same : (node : Node L) (polls : Bool) (bytes : List ℕ) (bad : Option BadBytes) (why : Option Why)
      → first_refusal job.settings.version bytes ≡ bad
      → refusal (site_of job me) (message_at job.settings.version bytes) ≡ why
      → AreSame node (before_try job.settings.version polls (Some bytes))
      (before_try job.settings.version polls (if (is_some bad || is_some why) then None else Some bytes))
  bytes_same node polls bytes (Some fault) why is says =
      let none : List (NodeEvent C) → List (NodeEvent C) = polled polls in
      record {
        leaves = ap (λ found. node_run job me now (none (coming job.settings.version found bytes)) node) is;
        gives = ap (λ found. node_sends job me now (none (coming job.settings.version found bytes)) node) is;
      }
  bytes_same node polls bytes None None is says = record { leaves = refl; gives = refl }
  bytes_same node polls bytes None (Some reason) is says =
      let same = message_same node polls (message_at job.settings.version bytes) reason says in
      let then_ : List (NodeEvent C) → List (NodeEvent C) = polled polls in
      record {
        leaves = ap (λ found. node_run job me now (then_ (coming job.settings.version found bytes)) node) is
            ∙ same.leaves;
        gives = ap (λ found. node_sends job me now (then_ (coming job.settings.version found bytes)) node) is
            ∙ same.gives;
      }

  -- so of what was got
  got_same : (node : Node L) (polls : Bool) (got : Option (List ℕ))
      → AreSame node (before_try job.settings.version polls got)
      (before_try job.settings.version polls (unless_refused job me got))
  got_same node polls None = record { leaves = refl; gives = refl }
  got_same node polls (Some bytes) =
      bytes_same node polls bytes (first_refusal job.settings.version bytes)
      (refusal (site_of job me) (message_at job.settings.version bytes)) refl refl

-- ---- the turn, by the record as its try begins

module _ {Own : Type 0} (job : NodeJob EndpointLocal Own) (me : ℕ) where
  -- the events of the try
  abbrev called : (now thread : ℕ) → Own → Node EndpointLocal → List (NodeEvent OtherCall)
  called now thread own node = try_events job me thread now own node

  -- how it went
  abbrev tried : (now thread : ℕ) → Own → Node EndpointLocal → TryResult Own
  tried now thread own node = tried_at job me thread now own node

  -- an entry as one that got this
  abbrev with_got : Entry → Option (List ℕ) → Entry
  with_got entry got = record entry { got = got }

  -- the turn of an entry, where the try finds this record, and these were sent before it
  record GoesBy (machine : MachineState EndpointLocal Own) (entry : Entry) (node : Node EndpointLocal)
      (sent : List Packet) : Type 0 where
    pub node_is : (turn_of_entry job me machine entry).after.node
        ≡ node_run job.job me entry.now (called entry.now entry.thread machine.own node) node
    pub own_is : (turn_of_entry job me machine entry).after.own ≡ (tried entry.now entry.thread machine.own node).left
    pub packets_are : (turn_of_entry job me machine entry).packets
        ≡ sent ++ node_sends job.job me entry.now (called entry.now entry.thread machine.own node) node
    pub stepped_is : (turn_of_entry job me machine entry).stepped
        ≡ is_some (tried entry.now entry.thread machine.own node).ended

  goes_by : (machine : MachineState EndpointLocal Own) (entry : Entry)
      → GoesBy machine entry
      (node_run job.job me entry.now (first_events job machine entry.thread entry.got) machine.node)
      (node_sends job.job me entry.now (first_events job machine entry.thread entry.got) machine.node)
  goes_by machine entry =
      let first = first_events job machine entry.thread entry.got in
      let node = node_run job.job me entry.now first machine.node in
      let call = called entry.now entry.thread machine.own node in
      let joined = run_both job.job me entry.now first call machine.node in
      let answer = try_answer job me entry.thread entry.now machine.own node in
      let at = context job me entry.thread entry.now in
      record {
        node_is = joined;
        own_is = ap (λ after. (job.scripts.tried at machine.own node after answer).left) joined;
        packets_are = sends_both job.job me entry.now first call machine.node;
        stepped_is = ap (λ after. is_some (job.scripts.tried at machine.own node after answer).ended) joined;
      }

  -- the turn goes by the record that the try finds, by the scripts, and by what was sent before
  same_by : (one other : MachineState EndpointLocal Own) (entry second : Entry) (n m : Node EndpointLocal)
      (sent given : List Packet) → entry.thread ≡ second.thread → entry.now ≡ second.now → one.own ≡ other.own
      → n ≡ m → sent ≡ given → GoesBy one entry n sent → GoesBy other second m given
      → DoTheSame (turn_of_entry job me one entry) (turn_of_entry job me other second)
  same_by one other entry second n m sent given thread now own node gives first then_ =
      let P : ℕ → ℕ → Own → Node EndpointLocal → List Packet → List Packet =
      λ t at o k before. before ++ node_sends job.job me at (called at t o k) k in
      record {
        after = record {
          node = first.node_is ∙ five (λ t at o k _. node_run job.job me at (called at t o k) k) ∙ sym then_.node_is;
          own = first.own_is ∙ five (λ t at o k _. (tried at t o k).left) ∙ sym then_.own_is;
        };
        packets = first.packets_are ∙ five P ∙ sym then_.packets_are;
        stepped = first.stepped_is ∙ five (λ t at o k _. is_some (tried at t o k).ended) ∙ sym then_.stepped_is;
      }
    where
      five : {X : Type 0} (f : ℕ → ℕ → Own → Node EndpointLocal → List Packet → X)
          → f entry.thread entry.now one.own n sent ≡ f second.thread second.now other.own m given
      five f =
          ap (λ t. f t entry.now one.own n sent) thread
          ∙ ap (λ at. f second.thread at one.own n sent) now
          ∙ ap (λ o. f second.thread second.now o n sent) own
          ∙ ap (λ k. f second.thread second.now other.own k sent) node
          ∙ ap (λ before. f second.thread second.now other.own m before) gives

  -- an entry and the rejected one
  pub turn_same : (one other : MachineState EndpointLocal Own) (entry : Entry) → HaveSameNode one other
      → DoTheSame (turn_of_entry job me one entry) (turn_of_entry job me other (accepted_entry job.job me entry))
  turn_same one other entry same =
      let left = unless_refused job.job me entry.got in
      let first : AreSame job.job me entry.now one.node (first_events job one entry.thread entry.got)
      (first_events job one entry.thread left) =
      got_same job.job me entry.now one.node (job.polls entry.thread one.node.local) entry.got in
      let events : Node EndpointLocal → List (NodeEvent OtherCall) = λ node.
      before_try job.job.settings.version (job.polls entry.thread node.local) left in
      same_by one other entry (accepted_entry job.job me entry) _ _ _ _ refl refl same.own
      (first.leaves ∙ ap (λ node. node_run job.job me entry.now (events node) node) same.node)
      (first.gives ∙ ap (λ node. node_sends job.job me entry.now (events node) node) same.node)
      (goes_by one entry) (goes_by other (accepted_entry job.job me entry))

  -- all entries of a trace
  pub replay_same : (one other : MachineState EndpointLocal Own) (entries : List Entry) → HaveSameNode one other
      → IsReplayTheSame job me one other entries
  replay_same one other [] same = record { after = same; packets = refl }
  replay_same one other (entry ∷ entries) same =
      let here = turn_same one other entry same in
      let next = (turn_of_entry job me one entry).after in
      let then_ = (turn_of_entry job me other (accepted_entry job.job me entry)).after in
      let rest = replay_same next then_ entries here.after in
      record {
        after = rest.after;
        packets = ap (λ (sent : List Packet). sent ++ packets_by job me next entries) here.packets
            ∙ ap (λ (sent : List Packet).
            (turn_of_entry job me other (accepted_entry job.job me entry)).packets ++ sent) rest.packets;
      }
