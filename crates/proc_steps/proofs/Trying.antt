-- What a step of the endpoint leaves, as a try of a form of step.
use Rattle.std.proofs.Common.{◌≡◌, ℕ, Bool, true, false, true≢false, cond, ◌&&◌, ◌||◌, List, [], ◌∷◌, ◌++◌, map, Option}
use Rattle.std.proofs.Common.{None, Some}
use Rattle.std.proofs.Common.{refl, sym, ap, ◌∙◌, subst}
use Rattle.std.specs.Prelude.{is_some, is_none, slice_get}
use Rattle.std.specs.Option.{option_map, option_or, option_to_list}
use Rattle.part_handlers.specs.Runs.{Meaning}
use Rattle.spec_node.specs.Record.{Node}
use Rattle.spec_node.specs.Invariant.{NodeInvariant}
use Rattle.spec_node.specs.NodeStep.{node_answer, node_after}
use Rattle.spec_node.specs.declared.answer.SlotRef.{SlotRef}
use Rattle.spec_network.specs.Sent.{Packet, Asking, Replying}
use Rattle.wire_message.specs.Parameters.{Parameters}
use Rattle.node_core.specs.CoreState.{CoreState}
use Rattle.node_core.specs.CoreContracts.{IsSameNode}
use Rattle.node_rules.specs.Called.{node_event}
use Rattle.node_rules.specs.EndpointLocal.{EndpointLocal, IsEndpointKept}
use Rattle.node_rules.specs.EndpointRules.{answer_told, transition}
use Rattle.node_rules.specs.Sends.{sends}
use Rattle.node_rules.specs.declared.answer.Answer.{Answer}
use Rattle.node_endpoint.specs.EndpointState.{EndpointState, EndpointStands, ForItsRecord, NodeSteps, job_here}
use Rattle.node_endpoint.specs.Sends.{AreThatOf, NodeSends, sender_slot as endpoint_slot}
use Rattle.text_steps.specs.declared.steps.ScriptStep.{ScriptStep}
use Rattle.law_traces.specs.Actions.{Form, Once, Again, Until, Twice, Looks, Several, Progress, calls_of, ended_by}
use Rattle.law_traces.specs.Actions.{begins, moves}
use Rattle.law_traces.specs.Actions.{progress_after, tried_form}
use Rattle.law_traces.specs.Outgoing.{slot_of_packet, StaysWell}
use Rattle.law_traces.specs.declared.script_answer.ScriptAnswer.{ScriptAnswer}
use Rattle.law_traces.specs.Scripts.{ThreadCall, TryResult as FormTried}
use Rattle.law_traces.specs.Turn.{node_run, node_sends, events_of, first_answer}
use Rattle.proc_steps.specs.Tries.{IsAtSameNode, MadeCall}
use Rattle.proc_steps.specs.Tries.{Makes}
use Rattle.proc_steps.specs.Tries.{FormTrial}
use Rattle.proc_steps.specs.Tries.{trial_calls, trial_answer, trial_after, begun_by, moved_by}
use Rattle.proc_steps.specs.Tries.{FoundNode, IsFar, TriesForm, as_form, as_tried, Tries}
use Rattle.proc_steps.specs.declared.trial.Trial.{Trial}
use Rattle.proc_steps.specs.declared.trial.Tried.{Tried}

-- ---- an endpoint, and the slots of its messages

-- the invariant holds of each record for which an endpoint stands
pub well_of : (endpoint : EndpointState) (node : Node EndpointLocal) → EndpointStands endpoint node
    → NodeInvariant endpoint.core.settings (IsEndpointKept endpoint.core.settings) endpoint.core.me node
well_of endpoint node stands =
    record {
      orderly = stands.core.invariant_.orderly;
      own = stands.core.invariant_.own;
      asked = stands.core.invariant_.asked;
      replied = stands.core.invariant_.replied;
      kept = stands.kept;
    }

same_slot : (packet : Packet) → endpoint_slot packet ≡ slot_of_packet packet
same_slot (Asking place content) = refl
same_slot (Replying place content) = refl

-- the slot that an answer tells
pub slots_told : (told_slot : Option SlotRef) (packets : List Packet) → AreThatOf told_slot packets
    → option_to_list told_slot ≡ map slot_of_packet (packets ++ [])
slots_told None packets none = ap (λ (list : List Packet). map slot_of_packet (list ++ [])) (sym none)
slots_told (Some at) packets one =
    ap (λ (slot : SlotRef). slot ∷ []) (sym one.2 ∙ same_slot one.0)
    ∙ ap (λ (list : List Packet). map slot_of_packet (list ++ [])) (sym one.1)

-- what holds at the node after an event holds at the same node before it
pub at_same : (old new : CoreState) (Holds : Parameters → ℕ → Type 0) → IsSameNode old new
    → Holds new.settings new.me → Holds old.settings old.me
at_same old new Holds same holds =
    subst (λ me. Holds old.settings me) same.me_is (subst (λ settings. Holds settings new.me) same.settings holds)

-- a call of a thread
pub call_made : (meaning : Meaning) (old new : EndpointState) (made : MadeCall)
    → NodeSteps meaning old (transition made.now (node_event made.thread made.meant) made.answer) new
    → NodeSends meaning old (transition made.now (node_event made.thread made.meant) made.answer)
    → Makes meaning old made new
call_made meaning old new made steps sent =
    record {
      happen = record {
        same = record { settings = steps.same.settings; me_is = steps.same.me_is; table = steps.same.table };
        happened = λ node stands.
            let event = node_event made.thread made.meant in
            let after = node_after (job_here meaning old) old.core.me node made.now event in
            let it = steps.steps node stands in
            record {
              stands = it.1;
              slots_are = slots_told (sends made.answer) _ (sent node stands);
              well = (
                well_of old node stands,
                at_same old.core new.core
                    (λ (settings : Parameters) (me : ℕ). NodeInvariant settings (IsEndpointKept settings) me after)
                    steps.same (well_of new after it.1),
              );
            };
      };
      answered = λ node stands. (steps.steps node stands).0;
    }

-- ---- a try that makes a call, and one that makes none

-- the call of a try, by every record for which the endpoint stood
pub record Calls (old : EndpointState) (trial : FormTrial) (tried : Tried) (made : MadeCall) (new : EndpointState) : Type 0
  where
    pub now_is : made.now ≡ trial.now
    pub thread_is : made.thread ≡ trial.thread
    pub call_is : ForItsRecord old (λ node. trial_calls trial node ≡ made.meant ∷ [])
    pub sent : tried.sent ≡ sends made.answer
    pub ended : (node after : Node EndpointLocal) → EndpointStands old node → EndpointStands new after
        → tried.ended ≡ ended_by (trial.form node) trial.began after (Some made.answer)
    pub began : ForItsRecord old (λ node.
        tried.began ≡ begun_by (trial.form node) trial.began tried.ended (Some made.answer))

-- of the calls that a form makes
abbrev pub CallsOf : (meaning : Meaning) (old : EndpointState) (trial : FormTrial) (tried : Tried) (new : EndpointState)
    (node : Node EndpointLocal) → List ThreadCall → Type 0
CallsOf meaning old trial tried new node calls =
    let job = job_here meaning old in
    let events = events_of trial.thread calls in
    let after = node_run job old.core.me trial.now events node in
    let answer = first_answer job old.core.me trial.thread trial.now calls node in
    EndpointStands new after
    × (option_to_list tried.sent ≡ map slot_of_packet (node_sends job old.core.me trial.now events node))
    × StaysWell job (IsEndpointKept job.settings) old.core.me trial.now events node
    × (tried.ended ≡ ended_by (trial.form node) trial.began after answer)
    × (tried.began ≡ begun_by (trial.form node) trial.began tried.ended answer)

-- so the try went
pub goes_so : (meaning : Meaning) (old new : EndpointState) (trial : FormTrial) (tried : Tried)
    → IsAtSameNode old.core new.core
    → ForItsRecord old (λ node. CallsOf meaning old trial tried new node (trial_calls trial node))
    → TriesForm meaning old trial tried new
goes_so meaning old new trial tried same all =
    record {
      happen = record {
        same = same;
        happened = λ node stands.
            let it = all node stands in record { stands = it.0; slots_are = it.1; well = it.2 };
      };
      went = λ node stands. let it = all node stands in record { ended = it.3; began = it.4 };
    }

pub tries_call : (meaning : Meaning) (old new : EndpointState) (trial : FormTrial) (tried : Tried) (made : MadeCall)
    → Makes meaning old made new → Calls old trial tried made new → TriesForm meaning old trial tried new
tries_call meaning old new trial tried made makes calls =
    goes_so meaning old new trial tried makes.happen.same
    (λ node stands. subst (CallsOf meaning old trial tried new node) (sym (calls.call_is node stands))
    (with_call node stands trial.now trial.thread calls.now_is calls.thread_is))
  where
    with_call : (node : Node EndpointLocal) → EndpointStands old node → (now thread : ℕ) → made.now ≡ now
        → made.thread ≡ thread
        → CallsOf meaning old (record trial { now = now; thread = thread }) tried new node (made.meant ∷ [])
    with_call node stands now thread now_is thread_is =
        subst (λ t. CallsOf meaning old (record trial { now = now; thread = t }) tried new node (made.meant ∷ []))
        thread_is
        (subst
        (λ n. CallsOf meaning old (record trial { now = n; thread = made.thread }) tried new node (made.meant ∷ []))
        now_is
        (let happened = makes.happen.happened node stands in
        let answered = makes.answered node stands in (
          happened.stands,
          ap option_to_list calls.sent ∙ happened.slots_are,
          happened.well,
          calls.ended node _ stands happened.stands
              ∙ ap (λ (answer : Answer). ended_by (trial.form node) trial.began
              (node_after (job_here meaning old) old.core.me node made.now (node_event made.thread made.meant))
              (Some answer)) answered,
          calls.began node stands
              ∙ ap (λ (answer : Answer). begun_by (trial.form node) trial.began tried.ended (Some answer)) answered,
        )))

none_begun : (starts : Bool) → cond {A = Option Answer} starts None None ≡ None
none_begun true = refl
none_begun false = refl

-- a try that makes no call
pub tries_nothing : (meaning : Meaning) (endpoint : EndpointState) (trial : FormTrial) (tried : Tried)
    → tried.sent ≡ None
    → ForItsRecord endpoint (λ node. trial_calls trial node ≡ [])
    → ForItsRecord endpoint (λ node. tried.ended ≡ ended_by (trial.form node) trial.began node None)
    → ForItsRecord endpoint (λ node. moved_by (trial.form node) trial.began tried.ended ≡ None)
    → tried.began ≡ None → TriesForm meaning endpoint trial tried endpoint
tries_nothing meaning endpoint trial tried sent none ended still began =
    goes_so meaning endpoint endpoint trial tried
    (record { settings = refl; me_is = refl; table = refl })
    (λ node stands. subst (CallsOf meaning endpoint trial tried endpoint node) (sym (none node stands)) (
      stands,
      ap option_to_list sent,
      well_of endpoint node stands,
      ended node stands,
      began ∙ sym (ap (λ (o : Option Answer).
          cond {A = Option Answer} (begins (trial.form node) && is_none trial.began && is_none tried.ended) None o)
          (still node stands)
          ∙ none_begun (begins (trial.form node) && is_none trial.began && is_none tried.ended)),
    ))

-- ---- the try of a step

-- a form that begins something makes its first call
abbrev pub HasFirst : Form EndpointLocal → Type 0
HasFirst form = begins form ≡ true → (call : ThreadCall) × (slice_get (calls_of form None) 0 ≡ Some call)

-- how a try went by whether it begins something and changes the node's collectives, the answer with which its step began,
-- whether and how it ended it, and the answer of its call
went_by : (step : ScriptStep) (rest : List ScriptStep) (starts moved : Bool) (began : Option Answer)
    (ended : Option ScriptAnswer) (answer : Option Answer)
    → (starts ≡ true → began ≡ None → (said : Answer) × (answer ≡ Some said))
    → (moved ≡ true → began ≡ None → ended ≡ None → starts ≡ true)
    → ◌≡◌ {A = FormTried (Progress ScriptStep)}
    (record {
      left = cond {A = Progress ScriptStep} (is_some ended) (record { left = rest; began = None })
          (cond {A = Progress ScriptStep} (starts && is_none began) (record { left = step ∷ rest; began = answer })
          (record { left = step ∷ rest; began = began }));
      ended = ended;
      began = (starts && is_none began || moved) && is_none ended;
    })
    (let begun : Option Answer = cond {A = Option Answer} (starts && is_none began && is_none ended) answer
    (cond {A = Option Answer} (moved && is_none ended) began None) in
    record {
      left = cond {A = Progress ScriptStep} (is_some ended) (record { left = rest; began = None })
          (record { left = step ∷ rest; began = option_or begun began });
      ended = ended;
      began = is_some begun;
    })
went_by step rest true moved None None answer says alone =
    let it = says refl refl in
    subst (λ (o : Option Answer). ◌≡◌ {A = FormTried (Progress ScriptStep)}
    (record { left = record { left = step ∷ rest; began = o }; ended = None; began = true })
    (record { left = record { left = step ∷ rest; began = option_or o None }; ended = None; began = is_some o }))
    (sym it.1) refl
went_by step rest true true None (Some end) answer says alone = refl
went_by step rest true false None (Some end) answer says alone = refl
went_by step rest true true (Some first) None answer says alone = refl
went_by step rest true false (Some first) None answer says alone = refl
went_by step rest true true (Some first) (Some end) answer says alone = refl
went_by step rest true false (Some first) (Some end) answer says alone = refl
went_by step rest false true None None answer says alone = absurd (true≢false (sym (alone refl refl refl)))
went_by step rest false false None None answer says alone = refl
went_by step rest false true None (Some end) answer says alone = refl
went_by step rest false false None (Some end) answer says alone = refl
went_by step rest false true (Some first) None answer says alone = refl
went_by step rest false false (Some first) None answer says alone = refl
went_by step rest false true (Some first) (Some end) answer says alone = refl
went_by step rest false false (Some first) (Some end) answer says alone = refl

moved_is : (form : Form EndpointLocal) (began : Option Answer) (ended : Option ScriptAnswer)
    → moved_by form began ended ≡ cond {A = Option Answer} (moves form began && is_none ended) began None
moved_is (Once call) began ended = refl
moved_is (Again waits call) began ended = refl
moved_is (Until call ends) began ended = refl
moved_is (Twice begin next waits says) began ended = refl
moved_is (Looks begin ready) began ended = refl
moved_is (Several first later) began ended = refl

-- a first try that changes the node's collectives, and doesn't end its step, begins it
moves_alone : (form : Form EndpointLocal) (after : Node EndpointLocal) (answer : Option Answer)
    → moves form None ≡ true → ended_by form None after answer ≡ None → begins form ≡ true
moves_alone (Once call) after answer moved none = absurd (true≢false (sym moved))
moves_alone (Again waits call) after answer moved none = absurd (true≢false (sym moved))
moves_alone (Until call ends) after answer moved none = absurd (true≢false (sym moved))
moves_alone (Twice begin next waits says) after answer moved none = absurd (true≢false (sym moved))
moves_alone (Looks begin ready) after answer moved none = absurd (true≢false (sym moved))
moves_alone (Several first later) after answer moved none =
    ap (λ (o : Option ScriptAnswer). is_none o && is_some first.next) none ∙ moved

-- so of what was told
told_so : (form : Form EndpointLocal) (trial : Trial) (tried : Tried) (after : Node EndpointLocal)
    (answer : Option Answer) → tried.ended ≡ ended_by form trial.began after answer
    → tried.began ≡ begun_by form trial.began tried.ended answer
    → (begins form ≡ true → trial.began ≡ None → (said : Answer) × (answer ≡ Some said)) → (rest : List ScriptStep)
    → tried_form form trial.step.now rest trial.began after answer ≡ as_tried trial tried rest
told_so form trial tried after answer ended began says rest =
    let step = trial.step.now in
    let by_end : Option ScriptAnswer → FormTried (Progress ScriptStep) = λ end.
    record {
      left = progress_after form step rest trial.began end answer;
      ended = end;
      began = (begins form && is_none trial.began || moves form trial.began) && is_none end;
    } in
    let as_told : (end : Option ScriptAnswer) (begun : Option Answer) → FormTried (Progress ScriptStep) = λ end begun.
    record {
      left = cond {A = Progress ScriptStep} (is_some end) (record { left = rest; began = None })
          (record { left = step ∷ rest; began = option_or begun trial.began });
      ended = end;
      began = is_some begun;
    } in
    let begun : Option Answer → Option Answer = λ moved.
    cond {A = Option Answer} (begins form && is_none trial.began && is_none tried.ended) answer moved in
    ap by_end (sym ended)
    ∙ (went_by step rest (begins form) (moves form trial.began) trial.began tried.ended answer says
    (λ moved none open_. moves_alone form after answer (ap (moves form) (sym none) ∙ moved)
    (ap (λ (o : Option Answer). ended_by form o after answer) (sym none) ∙ (sym ended ∙ open_)))
    ∙ ap (as_told tried.ended) (ap begun (sym (moved_is form trial.began tried.ended)) ∙ sym began))

pub tries_step : (meaning : Meaning) (old new : FoundNode) (trial : Trial) (tried : Tried)
    → ForItsRecord old.endpoint (λ node. HasFirst ((as_form meaning old trial).form node))
    → TriesForm meaning old.endpoint (as_form meaning old trial) tried new.endpoint
    → ForItsRecord old.endpoint (IsFar meaning old trial new.collectives) → Tries meaning old trial tried new
tries_step meaning old new trial tried has_first tries far =
    record {
      happen = tries.happen;
      tried_so = λ node stands rest.
          let form = (as_form meaning old trial).form node in
          let went = tries.went node stands in
          told_so form trial tried
          (trial_after (job_here meaning old.endpoint) me (as_form meaning old trial) node)
          (trial_answer (job_here meaning old.endpoint) me (as_form meaning old trial) node) went.ended went.began
          (λ starts none. answered node form (has_first node stands starts) none) rest;
      far = far;
    }
  where
    me : ℕ
    me = old.endpoint.core.me

    told_of : Node EndpointLocal → ThreadCall → Answer
    told_of node call =
        answer_told (node_answer (job_here meaning old.endpoint) me node trial.time (node_event trial.thread call))

    answered : (node : Node EndpointLocal) (form : Form EndpointLocal)
        → (call : ThreadCall) × (slice_get (calls_of form None) 0 ≡ Some call) → trial.began ≡ None
        → (said : Answer)
        × (first_answer (job_here meaning old.endpoint) me trial.thread trial.time (calls_of form trial.began) node
        ≡ Some said)
    answered node form call none = (
      told_of node call.0,
      ap (λ (o : Option Answer). option_map (told_of node) (slice_get (calls_of form o) 0)) none
          ∙ ap (option_map (told_of node)) call.1,
    )
