-- What the calls of an endpoint do, as parts of a turn.
use Rattle.std.proofs.Common.{◌≡◌, ℕ, List, [], ◌∷◌, ◌++◌, map, Option, Some, None, refl, sym, ap, ap₂, ◌∙◌, subst}
use Rattle.std.proofs.Common.{append_assoc, Bool, true, false, true≢false, Bor, option_copied}
use Rattle.std.specs.Prelude.{IsSome}
use Rattle.std.specs.Option.{option_to_list}
use Rattle.std.proofs.lemmas.List.{map-append}
use Rattle.wire_message.specs.Content.{is_version}
use Rattle.wire_message.specs.Message.{Message, Spells}
use Rattle.wire_message.specs.Parameters.{Parameters}
use Rattle.wire_message.specs.Reading.{message_at}
use Rattle.wire_message.specs.Refusals.{first_refusal}
use Rattle.wire_message.specs.declared.refused.Refused.{Refused}
use Rattle.wire_message.proofs.Laws.{takes}
use Rattle.part_handlers.specs.declared.table.Entry.{Entry}
use Rattle.part_handlers.specs.Runs.{Meaning}
use Rattle.spec_node.specs.Invariant.{NodeInvariant}
use Rattle.spec_node.specs.NodeStep.{Comes, Ticks, node_after}
use Rattle.spec_node.specs.Record.{Node}
use Rattle.spec_node.specs.declared.answer.SlotRef.{SlotRef}
use Rattle.spec_network.specs.Sent.{Packet, sends as sent_by}
use Rattle.node_core.specs.CoreContracts.{IsSameNode}
use Rattle.node_core.specs.CoreState.{CoreState}
use Rattle.node_rules.specs.EndpointLocal.{EndpointLocal, IsEndpointKept}
use Rattle.node_rules.specs.EndpointRules.{RecordEvent, transition, job_of}
use Rattle.node_rules.specs.Sends.{sends}
use Rattle.node_rules.specs.declared.answer.Answer.{Answer}
use Rattle.node_endpoint.specs.EndpointState.{EndpointState, EndpointStands, NodeSteps, BytesCome, job_here}
use Rattle.node_endpoint.specs.Sends.{AreThatOf, NodeSends}
use Rattle.law_traces.specs.Fitting.{AreBytes}
use Rattle.law_traces.specs.Laws.{GotBytes}
use Rattle.law_traces.specs.Outgoing.{slot_of_packet, StaysWell}
use Rattle.law_traces.specs.Turn.{node_run, node_sends, coming, comes, before_try}
use Rattle.proc_steps.specs.Tries.{EndpointJob, Happening, HasHappened, Happen, IsAtSameNode}
use Rattle.proc_machine.specs.Parts.{at_once}
use Rattle.node_endpoint.proofs.Delivering.{version_at}

-- ---- two lists of events, one after the other

pub run-append : (job : EndpointJob) (me now : ℕ) (first second : List RecordEvent) (node : Node EndpointLocal)
    → node_run job me now (first ++ second) node ≡ node_run job me now second (node_run job me now first node)
run-append job me now [] second node = refl
run-append job me now (event ∷ first) second node =
    run-append job me now first second (node_after job me node now event)

pub sends-append : (job : EndpointJob) (me now : ℕ) (first second : List RecordEvent) (node : Node EndpointLocal)
    → node_sends job me now (first ++ second) node
    ≡ node_sends job me now first node ++ node_sends job me now second (node_run job me now first node)
sends-append job me now [] second node = refl
sends-append job me now (event ∷ first) second node =
    let after = node_after job me node now event in
    ap (λ (later : List Packet). sent_by job me node now event ++ later) (sends-append job me now first second after)
    ∙ sym (append_assoc (sent_by job me node now event) (node_sends job me now first after)
    (node_sends job me now second (node_run job me now first after)))

well-append : (job : EndpointJob) (IsKept : (me : ℕ) → EndpointLocal → Type 0) (me now : ℕ)
    (first second : List RecordEvent) (node : Node EndpointLocal)
    → StaysWell job IsKept me now first node
    → StaysWell job IsKept me now second (node_run job me now first node)
    → StaysWell job IsKept me now (first ++ second) node
well-append job IsKept me now [] second node well later = later
well-append job IsKept me now (event ∷ first) second node well later =
    (well.0, well-append job IsKept me now first second (node_after job me node now event) well.1 later)

-- what holds of the same node after an event holds of it before
pub at_same : (old new : CoreState) (P : Parameters → List (Option Entry) → ℕ → Type 0) → IsAtSameNode old new
    → P new.settings new.table new.me → P old.settings old.table old.me
at_same old new P same holds =
    subst (λ me. P old.settings old.table me) same.me_is
    (subst (λ table. P old.settings table new.me) same.table
    (subst (λ settings. P settings new.table new.me) same.settings holds))

pub same_here : (core : CoreState) → IsAtSameNode core core
same_here core = record { settings = refl; me_is = refl; table = refl }

pub same_then : (old mid new : CoreState) → IsAtSameNode old mid → IsAtSameNode mid new → IsAtSameNode old new
same_then old mid new first second = record {
  settings = second.settings ∙ first.settings;
  me_is = second.me_is ∙ first.me_is;
  table = second.table ∙ first.table;
}

at_node : (old new : CoreState) → IsSameNode old new → IsAtSameNode old new
at_node old new same = record { settings = same.settings; me_is = same.me_is; table = same.table }

-- these events, and then those
abbrev pub then_those : (meaning : Meaning) (old : EndpointState) (first second : Happening) → Happening
then_those meaning old first second = record {
  now = first.now;
  events = λ node. first.events node
      ++ second.events (node_run (job_here meaning old) old.core.me first.now (first.events node) node);
  slots = first.slots ++ second.slots;
}

pub happen_then : (meaning : Meaning) (old mid new : EndpointState) (first second : Happening)
    → second.now ≡ first.now → Happen meaning old first mid → Happen meaning mid second new
    → Happen meaning old (then_those meaning old first second) new
happen_then meaning old mid new first second one A B = record {
  same = same_then old.core mid.core new.core A.same B.same;
  happened = λ node stands.
      let job = job_here meaning old in
      let me = old.core.me in
      let a = A.happened node stands in
      let between = node_run job me first.now (first.events node) node in
      let b = at_same old.core mid.core (λ settings table at.
      HasHappened (job_of settings table meaning) at (record second { now = first.now }) between new) A.same
      (subst (λ (now : ℕ). HasHappened (job_here meaning mid) mid.core.me (record second { now = now }) between new) one
      (B.happened between a.stands)) in
      record {
        stands = subst (EndpointStands new)
            (sym (run-append job me first.now (first.events node) (second.events between) node)) b.stands;
        slots_are = ap₂ (λ (p q : List SlotRef). p ++ q) a.slots_are b.slots_are
            ∙ (sym (map-append slot_of_packet (node_sends job me first.now (first.events node) node)
            (node_sends job me first.now (second.events between) between))
            ∙ ap (map slot_of_packet)
            (sym (sends-append job me first.now (first.events node) (second.events between) node)));
        well = well-append job (IsEndpointKept old.core.settings) me first.now (first.events node)
            (second.events between) node a.well b.well;
      };
}

-- ---- one event, or none

-- the invariant of the record for which an endpoint stands
well_of : (endpoint : EndpointState) (node : Node EndpointLocal) → EndpointStands endpoint node
    → NodeInvariant endpoint.core.settings (IsEndpointKept endpoint.core.settings) endpoint.core.me node
well_of endpoint node stands = record {
  orderly = stands.core.invariant_.orderly;
  own = stands.core.invariant_.own;
  asked = stands.core.invariant_.asked;
  replied = stands.core.invariant_.replied;
  kept = stands.kept;
}

-- the slots of the messages that an event sent
slots_there : (at : Option SlotRef) (packets : List Packet) → AreThatOf at packets
    → option_to_list at ≡ map slot_of_packet (packets ++ [])
slots_there None packets are = ap (λ (l : List Packet). map slot_of_packet (l ++ [])) (sym are)
slots_there (Some at) packets are =
    ap (λ (s : SlotRef). s ∷ []) (sym are.2) ∙ ap (λ (l : List Packet). map slot_of_packet (l ++ [])) (sym are.1)

pub one_happens : (meaning : Meaning) (old new : EndpointState) (now : ℕ) (event : RecordEvent) (answer : Answer)
    → NodeSteps meaning old (transition now event answer) new → NodeSends meaning old (transition now event answer)
    → Happen meaning old (at_once now (event ∷ []) (option_to_list (sends answer))) new
one_happens meaning old new now event answer N S = record {
  same = at_node old.core new.core N.same;
  happened = λ node stands.
      let job = job_here meaning old in
      let it = N.steps node stands in
      record {
        stands = it.1;
        slots_are = slots_there (sends answer) (sent_by job old.core.me node now event) (S node stands);
        well = (
          well_of old node stands,
          at_same old.core new.core (λ settings table me. NodeInvariant settings (IsEndpointKept settings) me
              (node_after job old.core.me node now event)) (at_node old.core new.core N.same)
              (well_of new (node_after job old.core.me node now event) it.1),
        );
      };
}

pub none_happens : (meaning : Meaning) (old : EndpointState) (now : ℕ) → Happen meaning old (at_once now [] []) old
none_happens meaning old now = record {
  same = same_here old.core;
  happened = λ node stands. record { stands = stands; slots_are = refl; well = well_of old node stands };
}

-- ---- the delivery of bytes

-- bytes of a known version
known_happen : (meaning : Meaning) (old new : EndpointState) (now : ℕ) (bytes : List ℕ) (answer : Answer)
    → is_version old.core.settings.version ≡ true → AreBytes bytes
    → BytesCome meaning old (transition now bytes answer) new
    → ((message : Message) → message.version ≡ old.core.settings.version → Spells message bytes
    → NodeSends meaning old (transition now (Comes message) answer))
    → Happen meaning old (at_once now (comes old.core.settings.version (Some bytes)) (option_to_list (sends answer)))
    new
known_happen meaning old new now bytes answer known are B S = by_refusal (first_refusal version bytes) refl
  where
    version : ℕ
    version = old.core.settings.version

    by_refusal : (o : Option Refused) → first_refusal version bytes ≡ o
        → Happen meaning old (at_once now (coming version o bytes) (option_to_list (sends answer))) new
    by_refusal None e =
        let spelled = takes version bytes known are e in
        let message = message_at version bytes in
        one_happens meaning old new now (Comes message) answer
        (B.comes message (version_at version bytes) spelled) (S message (version_at version bytes) spelled)
    by_refusal (Some reason) e =
        let none = B.refused reason e in
        subst (λ (endpoint : EndpointState).
        Happen meaning old (at_once now [] (option_to_list (sends answer))) endpoint) (sym none.1)
        (subst (λ (said : Answer). Happen meaning old (at_once now [] (option_to_list (sends said))) old) (sym none.0)
        (none_happens meaning old now))

pub bytes_happen : (meaning : Meaning) (old new : EndpointState) (now : ℕ) (bytes : List ℕ) (answer : Answer)
    → AreBytes bytes → BytesCome meaning old (transition now bytes answer) new
    → ((message : Message) → message.version ≡ old.core.settings.version → Spells message bytes
    → NodeSends meaning old (transition now (Comes message) answer))
    → Happen meaning old (at_once now (comes old.core.settings.version (Some bytes)) (option_to_list (sends answer)))
    new
bytes_happen meaning old new now bytes answer are B S = record {
  same = at_node old.core new.core B.same;
  happened = λ node stands.
      (known_happen meaning old new now bytes answer stands.core.range.version are B S).happened node stands;
}

-- ---- what comes before a try

-- a thread that doesn't poll
pub still_happens : (meaning : Meaning) (old : EndpointState) (now version : ℕ) (polls : Bool) (got : Option (List ℕ))
    (slots : List SlotRef) → polls ≡ false → slots ≡ []
    → Happen meaning old (at_once now (before_try version polls got) slots) old
still_happens meaning old now version polls got slots e none =
    subst (λ (l : List SlotRef). Happen meaning old (at_once now (before_try version polls got) l) old) (sym none)
    (subst (λ (b : Bool). Happen meaning old (at_once now (before_try version b got) []) old) (sym e)
    (none_happens meaning old now))

-- a thread that polls
pub both_happen : (meaning : Meaning) (old mid new : EndpointState) (now version : ℕ) (polls : Bool)
    (got : Option (List ℕ)) (reply tick : Option SlotRef) (slots : List SlotRef) → polls ≡ true
    → slots ≡ option_to_list reply ++ option_to_list tick
    → Happen meaning old (at_once now (comes version got) (option_to_list reply)) mid
    → Happen meaning mid (at_once now (Ticks ∷ []) (option_to_list tick)) new
    → Happen meaning old (at_once now (before_try version polls got) slots) new
both_happen meaning old mid new now version polls got reply tick slots e both first second =
    subst (λ (l : List SlotRef). Happen meaning old (at_once now (before_try version polls got) l) new) (sym both)
    (subst (λ (b : Bool). Happen meaning old
    (at_once now (before_try version b got) (option_to_list reply ++ option_to_list tick)) new) (sym e)
    (happen_then meaning old mid new (at_once now (comes version got) (option_to_list reply))
    (at_once now (Ticks ∷ []) (option_to_list tick)) refl first second))

-- nothing was got by a thread that doesn't poll
pub none_got : (got : Option (Bor (List ℕ))) (polls : Bool) → polls ≡ false → (IsSome got → polls ≡ true)
    → GotBytes (option_copied got)
none_got None polls e asks = tt
none_got (Some bytes) polls e asks = absurd (true≢false (sym (asks refl) ∙ e))
