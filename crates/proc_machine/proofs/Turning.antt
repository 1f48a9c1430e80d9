-- A turn of a thread, put together from its parts.
use Rattle.std.proofs.Common.{◌≡◌, ℕ, Bool, ◌||◌, not, List, [], ◌∷◌, ◌++◌, map, length, Option, None, Some, refl, sym}
use Rattle.std.proofs.Common.{ap}
use Rattle.std.proofs.Common.{ap₂, ◌∙◌, subst, suc, arith, cond}
use Rattle.std.specs.Prelude.{is_some}
use Rattle.std.specs.List.{AllByRecursion, Contains}
use Rattle.std.specs.Option.{option_or, option_to_list}
use Rattle.std.proofs.lemmas.List.{length-map}
use Rattle.wire_message.specs.Content.{spelling}
use Rattle.wire_message.specs.Parameters.{Parameters}
use Rattle.part_handlers.specs.Runs.{Meaning, IsLawfulMeaning}
use Rattle.part_handlers.specs.declared.lock_answer.Owner.TheVariants as owner
use Rattle.part_handlers.specs.Locks.{holds}
use Rattle.base_lists.specs.Put.{put}
use Rattle.spec_node.specs.Record.{Node}
use Rattle.spec_node.specs.SlotMessages.{message_at}
use Rattle.spec_node.specs.declared.answer.SlotRef.{SlotRef}
use Rattle.spec_network.specs.Sent.{Packet, Asking, Replying}
use Rattle.node_rules.specs.EndpointLocal.{EndpointLocal, IsEndpointKept}
use Rattle.node_rules.specs.declared.answer.Answer.{Answer}
use Rattle.node_rules.proofs.Sound.{rules_sound}
use Rattle.node_endpoint.specs.EndpointState.{EndpointState, EndpointStands, ForItsRecord}
use Rattle.proc_steps.specs.Forms.{IsJobStep}
use Rattle.text_steps.specs.declared.steps.ScriptStep.{ScriptStep}
use Rattle.node_collectives.specs.CollectivesState.{CollectivesState}
use Rattle.law_traces.specs.Actions.{Progress, OwnScripts, StepContext, collectives_then, step_context, tried_step}
use Rattle.law_traces.specs.Laws.{GotBytes}
use Rattle.law_traces.specs.Outgoing.{slot_of_packet, SentStands}
use Rattle.law_traces.specs.declared.script_answer.ScriptAnswer.{ScriptAnswer}
use Rattle.law_traces.specs.Scripts.{NodeJob, TryResult as FormTried}
use Rattle.law_traces.specs.Turn.{MachineState, before_try, first_events, as_tried, turn_events, tried_answer}
use Rattle.law_traces.specs.Turn.{node_run, is_some_there, datagram, receiver, packet_message}
use Rattle.law_traces.proofs.Outgoings.{sent_stand, turns_come_first}
use Rattle.proc_steps.specs.Forms.{step_form}
use Rattle.proc_steps.specs.Tries.{AreThere, FoundNode, HasHappened, Happen, IsAtSameNode, context_here, step_here}
use Rattle.proc_steps.specs.declared.trial.Tried.{Tried}
use Rattle.proc_machine.specs.Kept.{CanBeSaid}
use Rattle.proc_machine.specs.Parts.{at_once}
use Rattle.proc_machine.specs.Scripted.{NextTrial, TriesNext, events_of_next, tried_next, as_said, progress_after}
use Rattle.proc_machine.specs.NodeState.{datagram_at, as_there}
use Rattle.proc_machine.specs.Turns.{job_of_endpoint, TurnTaken, turn_by, GoesAsTurn, TakesTurn}
use Rattle.proc_machine.proofs.Happening.{happen_then, at_same, run-append, same_then}
use Rattle.proc_machine.proofs.Locks.{turn_keeps}

-- ---- the slots of packets

some_there : (packets : List Packet) → is_some_there (map slot_of_packet packets) ≡ is_some_there packets
some_there [] = refl
some_there (packet ∷ packets) = refl

peer_is : (packet : Packet) → (slot_of_packet packet).peer ≡ receiver packet
peer_is (Asking place content) = refl
peer_is (Replying place content) = refl

here : (packet : Packet) (packets : List Packet) → Contains (packet ∷ packets) packet
here packet packets = (0, omega arith, refl)

there : (other packet : Packet) (packets : List Packet) → Contains packets packet → Contains (other ∷ packets) packet
there other packet packets h = (suc h.0, let low = h.1 in omega (arith, low), h.2)

-- the datagrams at the slots of messages that stand there
stand_there : (settings : Parameters) (me : ℕ) (node : Node EndpointLocal) (packets : List Packet)
    → ((packet : Packet) → Contains packets packet
    → message_at settings me node (slot_of_packet packet) ≡ Some (spelling (packet_message settings packet)))
    → map (datagram_at settings me node) (map slot_of_packet packets) ≡ map as_there (map (datagram settings) packets)
stand_there settings me node [] stand = refl
stand_there settings me node (packet ∷ packets) stand =
    ap₂ (λ (one : ℕ × Option (List ℕ)) (more : List (ℕ × Option (List ℕ))). one ∷ more)
    (ap₂ (λ (to : ℕ) (bytes : Option (List ℕ)). (to, bytes)) (peer_is packet) (stand packet (here packet packets)))
    (stand_there settings me node packets (λ other h. stand other (there packet other packets h)))

-- ---- a turn of a state

-- of what was tried, as the try of the turn says it
tried_is : (meaning : Meaning) (old mid : EndpointState) (new : FoundNode) (taken : TurnTaken)
    (state : MachineState EndpointLocal (OwnScripts ScriptStep)) (slots : List SlotRef) (tried : Tried)
    → EndpointStands old state.node
    → Happen meaning old
    (at_once taken.now (first_events (job_of_endpoint meaning old) state taken.thread taken.got) slots) mid
    → TriesNext meaning (record { endpoint = mid; collectives = state.own.collectives })
    (record { now = taken.now; thread = taken.thread; progress = state.own.threads taken.thread }) tried new
    → let job = job_of_endpoint meaning old in
    let me = old.core.me in
    let node = as_tried job me state taken.thread taken.now taken.got in
    tried_step step_form (step_context (context_here meaning old taken.thread taken.now) state.own)
    (state.own.threads taken.thread).began
    (state.own.threads taken.thread).left node
    (node_run job.job me taken.now (turn_events job me state taken.thread taken.now taken.got) state.node)
    (tried_answer job me state taken.thread taken.now taken.got)
    ≡ as_said (record { now = taken.now; thread = taken.thread; progress = state.own.threads taken.thread }) tried
tried_is meaning old mid new taken state slots tried stands before tries =
    let job = job_of_endpoint meaning old in
    let me = old.core.me in
    let trial : NextTrial =
    record { now = taken.now; thread = taken.thread; progress = state.own.threads taken.thread } in
    let first = first_events job state taken.thread taken.got in
    let node = as_tried job me state taken.thread taken.now taken.got in
    let at : StepContext = step_context (context_here meaning old taken.thread taken.now) state.own in
    let run = run-append job.job me taken.now first (events_of_next at trial.progress node) state.node in
    let so = at_same old.core mid.core (λ settings table me.
    tried_next (record at { place = record at.place { settings = settings; table = table; me = me } }) trial.progress
    node
    ≡ as_said trial tried) before.same
    (tries.tried_so node (before.happened state.node stands).stands) in
    ap (λ (after : Node EndpointLocal). tried_step step_form at trial.progress.began trial.progress.left node after
    (tried_answer job me state taken.thread taken.now taken.got)) run
    ∙ so

-- how far the collectives are then, as the turn says it
far_is : (meaning : Meaning) (old mid : EndpointState) (new : FoundNode) (taken : TurnTaken)
    (state : MachineState EndpointLocal (OwnScripts ScriptStep)) (slots : List SlotRef) (tried : Tried)
    → EndpointStands old state.node
    → Happen meaning old
    (at_once taken.now (first_events (job_of_endpoint meaning old) state taken.thread taken.got) slots) mid
    → TriesNext meaning (record { endpoint = mid; collectives = state.own.collectives })
    (record { now = taken.now; thread = taken.thread; progress = state.own.threads taken.thread }) tried new
    → new.collectives
    ≡ collectives_then step_form (step_context (context_here meaning old taken.thread taken.now) state.own)
    (state.own.threads taken.thread).began (state.own.threads taken.thread).left
    (as_tried (job_of_endpoint meaning old) old.core.me state taken.thread taken.now taken.got)
far_is meaning old mid new taken state slots tried stands before tries =
    let node = as_tried (job_of_endpoint meaning old) old.core.me state taken.thread taken.now taken.got in
    let progress = state.own.threads taken.thread in
    let at : StepContext = step_context (context_here meaning old taken.thread taken.now) state.own in
    at_same old.core mid.core (λ settings table me.
    new.collectives
    ≡ collectives_then step_form (record at { place = record at.place { settings = settings; table = table; me = me } })
    progress.began progress.left node) before.same
    (tries.far node (before.happened state.node stands).stands)

-- what the try did at the node after the events before it, as at the node before them
try_at : (meaning : Meaning) (old mid new : EndpointState) (collectives : Option CollectivesState) (trial : NextTrial)
    (slots : List SlotRef) → IsAtSameNode old.core mid.core
    → Happen meaning mid (record {
      now = trial.now;
      events = events_of_next
          (step_here meaning (record { endpoint = mid; collectives = collectives }) trial.thread trial.now)
          trial.progress;
      slots = slots;
    }) new
    → Happen meaning mid (record {
      now = trial.now;
      events = events_of_next
          (step_here meaning (record { endpoint = old; collectives = collectives }) trial.thread trial.now)
          trial.progress;
      slots = slots;
    }) new
try_at meaning old mid new collectives trial slots same happen =
    let at : StepContext =
    step_here meaning (record { endpoint = old; collectives = collectives }) trial.thread trial.now in
    at_same old.core mid.core (λ settings table me. Happen meaning mid (record {
      now = trial.now;
      events = events_of_next (record at { place = record at.place { settings = settings; table = table; me = me } })
          trial.progress;
      slots = slots;
    }) new) same happen

same_changed : (got slots packets ended began : Bool) (more less : Bool) → slots ≡ packets → ended ≡ more → began ≡ less
    → (got || packets || more || less) ≡ (got || slots || ended || began)
same_changed got slots packets ended began more less e f h =
    sym (ap₂ (λ (x y : Bool). got || x || y || began) e f ∙ ap (λ (x : Bool). got || packets || more || x) h)

-- a turn of a state for which the endpoint stands
state_goes : (meaning : Meaning) (old mid : EndpointState) (new : FoundNode) (taken : TurnTaken)
    (state : MachineState EndpointLocal (OwnScripts ScriptStep)) (slots sent : List SlotRef) (tried : Tried)
    → IsLawfulMeaning meaning → GotBytes taken.got → EndpointStands old state.node
    → Happen meaning old
    (at_once taken.now (first_events (job_of_endpoint meaning old) state taken.thread taken.got) slots) mid
    → TriesNext meaning (record { endpoint = mid; collectives = state.own.collectives })
    (record { now = taken.now; thread = taken.thread; progress = state.own.threads taken.thread }) tried new
    → sent ≡ slots ++ option_to_list tried.sent
    → GoesAsTurn (job_of_endpoint meaning old) old.core.me taken state (record { outgoing = sent; tried = tried })
    × EndpointStands new.endpoint (turn_by (job_of_endpoint meaning old) old.core.me taken state).after.node
    × ((turn_by (job_of_endpoint meaning old) old.core.me taken state).after.own
    ≡ record {
      threads = put state.own.threads taken.thread (progress_after (state.own.threads taken.thread) tried);
      collectives = new.collectives;
    })
state_goes meaning old mid new taken state slots sent tried lawful bytes stands before tries slots_is =
    let it = turn_by job me taken state in
    let sent_is : sent ≡ map slot_of_packet it.packets = slots_is ∙ all.slots_are in (
      record {
        ended = ap (λ (t : FormTried (Progress ScriptStep)). t.ended) went;
        changed = same_changed (is_some taken.got) (is_some_there sent) (is_some_there it.packets)
            (is_some tried.ended) (is_some tried.began) _ _
            (ap is_some_there sent_is ∙ some_there it.packets)
            (ap is_some (sym (ap (λ (t : FormTried (Progress ScriptStep)). t.ended) went)))
            (sym (ap (λ (t : FormTried (Progress ScriptStep)). t.began) went));
        sends = sym (length-map it.packets slot_of_packet) ∙ ap length (sym sent_is);
        sent = subst (λ (l : List SlotRef). map (datagram_at settings me it.after.node) l
            ≡ map as_there (map (datagram settings) it.packets)) (sym sent_is)
            (stand_there settings me it.after.node it.packets stood);
        locks = kept;
      },
      all.stands,
      ap₂ (λ (threads : ℕ → Progress ScriptStep) (now : Option CollectivesState). record {
        threads = threads;
        collectives = now;
      })
          (ap (λ (t : FormTried (Progress ScriptStep)). put state.own.threads taken.thread t.left) went)
          (sym (far_is meaning old mid new taken state slots tried stands before tries)),
    )
  where
    job : NodeJob EndpointLocal (OwnScripts ScriptStep)
    job = job_of_endpoint meaning old

    me : ℕ
    me = old.core.me

    settings : Parameters
    settings = old.core.settings

    trial : NextTrial
    trial = record { now = taken.now; thread = taken.thread; progress = state.own.threads taken.thread }

    at : StepContext
    at = step_context (context_here meaning old taken.thread taken.now) state.own

    node : Node EndpointLocal
    node = as_tried job me state taken.thread taken.now taken.got

    all : HasHappened job.job me (record {
      now = taken.now;
      events = λ (x : Node EndpointLocal). first_events job state taken.thread taken.got
          ++ events_of_next at trial.progress
          (node_run job.job me taken.now (first_events job state taken.thread taken.got) x);
      slots = slots ++ option_to_list tried.sent;
    }) state.node new.endpoint
    all = (happen_then meaning old mid new.endpoint
        (at_once taken.now (first_events job state taken.thread taken.got) slots)
        (record {
          now = taken.now;
          events = events_of_next at trial.progress;
          slots = option_to_list tried.sent;
        }) refl before
        (try_at meaning old mid new.endpoint state.own.collectives trial (option_to_list tried.sent) before.same
        tries.happen)).happened state.node stands

    went : tried_step step_form at (state.own.threads taken.thread).began (state.own.threads taken.thread).left node
        (node_run job.job me taken.now (turn_events job me state taken.thread taken.now taken.got) state.node)
        (tried_answer job me state taken.thread taken.now taken.got)
        ≡ as_said trial tried
    went = tried_is meaning old mid new taken state slots tried stands before tries

    stood : SentStands job.job me taken.now (turn_events job me state taken.thread taken.now taken.got) state.node
    stood = sent_stand job.job (IsEndpointKept settings) me taken.now
        (turn_events job me state taken.thread taken.now taken.got) state.node
        (rules_sound settings old.core.table meaning stands.core.range lawful)
        (turns_come_first job me taken.thread taken.now state taken.got stands.core.range.version bytes) all.well

    kept : tried.ended ≡ None
        → (turn_by job me taken state).after.node.local.core.locks ≡ state.node.local.core.locks
    kept none =
        let run = run-append job.job me taken.now (first_events job state taken.thread taken.got)
        (events_of_next at trial.progress node) state.node in
        ap (λ (x : Node EndpointLocal). x.local.core.locks) run
        ∙ turn_keeps at settings.version (job.polls taken.thread state.node.local) taken.got trial.progress.left
        trial.progress.began state.node
        (ap (λ (after : Node EndpointLocal). (tried_step step_form at trial.progress.began trial.progress.left node
        after (tried_answer job me state taken.thread taken.now taken.got)).ended) (sym run)
        ∙ (ap (λ (t : FormTried (Progress ScriptStep)). t.ended) went ∙ none))

-- what can be said of a script can be said of its rest
rest_said : (settings : Parameters) (step : ScriptStep) (rest : List ScriptStep) (ended : Option ScriptAnswer)
    (later : Option Answer) → AllByRecursion (IsJobStep settings) (step ∷ rest)
    → CanBeSaid settings (cond {A = Progress ScriptStep} (is_some ended) (record { left = rest; began = None })
    (record { left = step ∷ rest; began = later }))
rest_said settings step rest None later said = said
rest_said settings step rest (Some answer) later said = said.1

progress_said : (progress : Progress ScriptStep) (tried : Tried) (settings : Parameters)
    → CanBeSaid settings progress → CanBeSaid settings (progress_after progress tried)
progress_said progress tried settings said = by_left progress.left progress.began said
  where
    by_left : (left : List ScriptStep) (began : Option Answer) → AllByRecursion (IsJobStep settings) left
        → CanBeSaid settings (progress_after (record { left = left; began = began }) tried)
    by_left [] began said = said
    by_left (step ∷ rest) began said =
        rest_said settings step rest tried.ended (option_or tried.began began) said

-- the collectives are still those of the node
pub still_there : (old new : EndpointState) (collectives : Option CollectivesState) → IsAtSameNode old.core new.core
    → AreThere old collectives → AreThere new collectives
still_there old new None same there = tt
still_there old new (Some it) same there = record {
  settings = there.settings ∙ sym same.settings;
  me_is = there.me_is ∙ sym same.me_is;
}

pub turn_goes : (meaning : Meaning) (old : FoundNode) (mid : EndpointState) (new : FoundNode) (taken : TurnTaken)
    (progress : Progress ScriptStep) (polls : Bool) (slots sent : List SlotRef) (tried : Tried)
    → IsLawfulMeaning meaning → GotBytes taken.got
    → ForItsRecord old.endpoint (λ node. polls ≡ not (holds (owner.Thread taken.thread) node.local.core.locks))
    → Happen meaning old.endpoint
    (at_once taken.now (before_try old.endpoint.core.settings.version polls taken.got) slots) mid
    → TriesNext meaning (record { endpoint = mid; collectives = old.collectives })
    (record { now = taken.now; thread = taken.thread; progress = progress }) tried new
    → sent ≡ slots ++ option_to_list tried.sent
    → TakesTurn meaning (old, progress) taken (record { outgoing = sent; tried = tried }) (new, progress_after progress tried)
turn_goes meaning old mid new taken progress polls slots sent tried lawful bytes polled before tries slots_is =
    record {
      same = same_then old.endpoint.core mid.core new.endpoint.core before.same tries.happen.same;
      said = progress_said progress tried;
      goes = λ state stands own far.
          let version = old.endpoint.core.settings.version in
          let it = state_goes meaning old.endpoint mid new taken state slots sent tried lawful bytes stands
          (subst (λ (b : Bool).
          Happen meaning old.endpoint (at_once taken.now (before_try version b taken.got) slots) mid)
          (polled state.node stands) before)
          (subst (λ (c : Option CollectivesState).
          TriesNext meaning (record { endpoint = mid; collectives = c })
          (record { now = taken.now; thread = taken.thread; progress = state.own.threads taken.thread }) tried new)
          (sym far)
          (subst (λ (p : Progress ScriptStep).
          TriesNext meaning (record { endpoint = mid; collectives = old.collectives })
          (record { now = taken.now; thread = taken.thread; progress = p }) tried new) (sym own) tries))
          slots_is in
          let left : Progress ScriptStep → OwnScripts ScriptStep = λ p. record {
            threads = put state.own.threads taken.thread (progress_after p tried);
            collectives = new.collectives;
          } in
          (it.0, it.1, it.2 ∙ ap left own);
    }
