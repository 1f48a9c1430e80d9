-- An empty turn leaves the machine as it was.
use Rattle.std.proofs.Common.{◌≡◌, ℕ, zero, suc, Bool, true, false, true≢false, cond, ◌||◌, List, [], ◌∷◌, ◌++◌, map}
use Rattle.std.proofs.Common.{Option, None, Some, refl, sym, ap, ap₂, ◌∙◌, subst}
use Rattle.std.specs.Prelude.{is_some}
use Rattle.base_lists.specs.Numbered.{element_at, change}
use Rattle.base_lists.proofs.Update.{update-None}
use Rattle.base_lists.specs.Put.{put}
use Rattle.base_lists.proofs.Put.{put_own}
use Rattle.spec_node.specs.Record.{Request, Node}
use Rattle.spec_node.specs.Requests.{sent_at}
use Rattle.spec_node.specs.Step.{Site, TickChoice, Retransmits, Sends, Rests, tick_choice, after_tick}
use Rattle.spec_node.specs.NodeStep.{NodeEvent, Ticks, site_of, node_after}
use Rattle.spec_network.specs.Sent.{Packet, asking, ticked_sends, sends}
use Rattle.node_rules.specs.EndpointRules.{OtherCall}
use Rattle.law_traces.specs.declared.script_answer.ScriptAnswer.{ScriptAnswer}
use Rattle.law_traces.specs.Scripts.{NodeJob}
use Rattle.law_traces.specs.Turn.{MachineState, turn, node_run, node_sends, is_some_there, as_tried, try_of}
use Rattle.law_traces.specs.Turn.{datagram, context, try_events, try_answer}
use Rattle.law_traces.specs.Empty.{IsCalm, EmptyTurnsLeave}

-- ---- a tick that sends nothing

change_past : {X : Type 0} (f : X → X) (xs : List X) (number : ℕ) → element_at xs number ≡ None → change f xs number ≡ xs
change_past f xs zero e = refl
change_past f xs (suc place) e = update-None xs place f e

cons_nil : {X : Type 0} {x : X} {xs : List X} → ◌≡◌ {A = List X} (x ∷ xs) [] → ⊥
cons_nil h = cc

tick_calm : {Kept : Type 0} (site : Site Kept) (me now : ℕ) (node : Node Kept) (choice : TickChoice)
    → ticked_sends me node choice ≡ [] → after_tick site node now choice ≡ node
tick_calm {Kept} site me now node (Retransmits due) e =
    by_asked (element_at (node.asked due.peer) due.number) refl e
  where
    by_asked : (o : Option Request) → element_at (node.asked due.peer) due.number ≡ o
        → asking me due.peer due.number o ≡ [] → after_tick site node now (Retransmits due) ≡ node
    by_asked None at h = ap (λ (f : ℕ → List Request). record node { asked = f })
        (ap (put node.asked due.peer) (change_past (sent_at now) (node.asked due.peer) due.number at)
        ∙ put_own node.asked due.peer)
    by_asked (Some x) at h = absurd (cons_nil h)
tick_calm site me now node (Sends sending) e = absurd (cons_nil e)
tick_calm site me now node Rests e = refl

-- ---- the parts of a turn that didn't change

no_packets : (packets : List Packet) → is_some_there packets ≡ false → packets ≡ []
no_packets [] e = refl
no_packets (p ∷ packets) e = absurd (true≢false e)

pub or_parts : (a b : Bool) → (a || b) ≡ false → (a ≡ false) × (b ≡ false)
or_parts true b e = absurd (true≢false e)
or_parts false b e = (refl, e)

pub none_of : (o : Option ScriptAnswer) → is_some o ≡ false → o ≡ None
none_of None e = refl
none_of (Some a) e = absurd (true≢false e)

nil_parts : (first second : List Packet) → first ++ second ≡ [] → (first ≡ []) × (second ≡ [])
nil_parts [] second e = (refl, e)
nil_parts (p ∷ first) second e = absurd (cons_nil e)

-- the machine, from its parts
machine_is : {Kept Own : Type 0} (state : MachineState Kept Own) (changed : Bool) (node : Node Kept) (own : Own)
    (datagrams : List (ℕ × List ℕ)) (answer : Option ScriptAnswer)
    → changed ≡ false → node ≡ state.node → own ≡ state.own
    → ◌≡◌ {A = MachineState Kept Own} (record {
      node = node;
      own = own;
      outgoing = cond changed datagrams state.outgoing;
      answer = cond changed answer state.answer;
    }) state
machine_is {Kept} {Own} state changed node own datagrams answer e f h =
    subst (λ (b : Bool). ◌≡◌ {A = MachineState Kept Own} (record {
      node = node;
      own = own;
      outgoing = cond b datagrams state.outgoing;
      answer = cond b answer state.answer;
    }) state) (sym e)
    (ap₂ (λ (n : Node Kept) (o : Own). record state { node = n; own = o }) f h)

-- of a turn of a thread that polls or doesn't
turn_calm : {Kept Own : Type 0} (job : NodeJob Kept Own) (me thread now : ℕ) (state : MachineState Kept Own)
    (polls : Bool) → IsCalm job
    → let first : List (NodeEvent OtherCall) = cond polls (Ticks ∷ []) [] in
    let mid = node_run job.job me now first state.node in
    let events = first ++ try_events job me thread now state.own mid in
    let tried = job.scripts.tried (context job me thread now) state.own mid (node_run job.job me now events state.node)
    (try_answer job me thread now state.own mid) in
    tried.ended ≡ None → tried.began ≡ false → node_sends job.job me now events state.node ≡ []
    → node_run job.job me now events state.node ≡ state.node
turn_calm job me thread now state false C e b s = C.node me thread now state.own state.node e b s
turn_calm {Kept} {Own} job me thread now state true C e b s =
    let mid = node_after job.job me state.node now Ticks in
    let parts = nil_parts (sends job.job me state.node now Ticks) _ s in
    let ticked : mid ≡ state.node =
    tick_calm (site_of job.job me) me now state.node (tick_choice (site_of job.job me) state.node now) parts.0 in
    C.node me thread now state.own mid e b parts.1 ∙ ticked

pub empty_turns : {Kept Own : Type 0} (job : NodeJob Kept Own) → IsCalm job → EmptyTurnsLeave job
empty_turns {Kept} {Own} job C me thread now state changed =
    let it = turn job me state thread now None in
    let tried = try_of job me state thread now None in
    let a = or_parts (is_some_there it.packets || is_some tried.ended) tried.began changed in
    let b = or_parts (is_some_there it.packets) (is_some tried.ended) a.0 in
    let ended = none_of tried.ended b.1 in
    machine_is state it.changed it.after.node it.after.own (map (datagram job.job.settings) it.packets) tried.ended
    changed
    (turn_calm job me thread now state (job.polls thread state.node.local) C ended a.1 (no_packets it.packets b.0))
    (C.left (context job me thread now) state.own (as_tried job me state thread now None) it.after.node _ ended a.1)
