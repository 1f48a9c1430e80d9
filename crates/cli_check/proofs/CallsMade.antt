-- The calls of a turn are events of the run, and are answered there as the node answers them.
use Rattle.std.proofs.Common.{◌≡◌, ◌≢◌, ℕ, List, [], ◌∷◌, ◌++◌, Option, Some}
use Rattle.std.proofs.Common.{None, refl, sym, ap, ap₂, subst, ◌∙◌, append_assoc}
use Rattle.std.proofs.lemmas.Option.{same_Some}
use Rattle.wire_message.specs.Parameters.{Parameters}
use Rattle.base_lists.specs.Numbered.{element_at}
use Rattle.node_rules.specs.Called.{Requests, Performs, event_at, node_event}
use Rattle.node_rules.specs.EndpointLocal.{EndpointLocal}
use Rattle.node_rules.specs.EndpointRules.{OtherCall, RecordEvent, RecordsEvent, Records, at_the_opening, timed_event, answer_told}
use Rattle.node_rules.specs.declared.answer.Answer.{Answer}
use Rattle.text_job.specs.declared.job.Job.{Job as JobState}
use Rattle.wire_message.specs.Message.{Message}
use Rattle.spec_node.specs.Behaviour.{Ask}
use Rattle.spec_node.specs.NodeStep.{Asks as NodeAsks, Does as NodeDoes, Comes as NodeComes, Ticks as NodeTicks}
use Rattle.spec_node.specs.NodeStep.{node_answer, node_after}
use Rattle.spec_node.specs.Record.{Node, Request, Run}
use Rattle.spec_node.specs.Executed.{run_of}
use Rattle.law_traces.specs.Scripts.{ThreadCall}
use Rattle.law_traces.specs.Turn.{node_run}
use Rattle.law_traces.specs.WorldRun.{AreEvents}
use Rattle.law_traces.proofs.Stages.{fallen_here, fallen_other}
use Rattle.spec_network.specs.World.{Asks, Does, RequestComes, ReplyComes, Ticks, EventAt, Fall, falls}
use Rattle.spec_network.specs.World.{request_event, reply_event, world_answer, world_after, run}
use Rattle.law_transfers.specs.Chunks.{EndpointJob}
use Rattle.cli_check.specs.StepLines.{StepAt}
use Rattle.cli_check.specs.StepsTold.{IsCallMade, IsMadeSince, IsReply, call_event, records_after, rules_of}

-- ---- runs in parts

pub run_append : (job : EndpointJob) (first second : List (EventAt OtherCall)) (world : Records)
    → run job (first ++ second) world ≡ run job second (run job first world)
run_append job [] second world = refl
run_append job (event ∷ first) second world = run_append job first second (world_after job world event)

-- the node after its events
pub run_here : (job : EndpointJob) (node now : ℕ) (events : List RecordEvent) (happened : List (EventAt OtherCall))
    (world : Records) → AreEvents job world node now events happened
    → run job happened world node ≡ node_run job node now events (world node)
run_here job node now [] [] world are = refl
run_here job node now [] (event ∷ happened) world are = absurd are
run_here job node now (event ∷ events) [] world are = absurd are
run_here job node now (event ∷ events) (timed ∷ happened) world are =
    run_here job node now events happened (world_after job world timed) are.2
    ∙ ap (node_run job node now events)
    (fallen_here job world node event timed are.1 ∙ ap (λ k. node_after job node (world node) k event) are.0)

-- and another one
pub run_other : (job : EndpointJob) (node now other : ℕ) (events : List RecordEvent)
    (happened : List (EventAt OtherCall)) (world : Records) → other ≢ node
    → AreEvents job world node now events happened → run job happened world other ≡ world other
run_other job node now other [] [] world apart are = refl
run_other job node now other [] (event ∷ happened) world apart are = absurd are
run_other job node now other (event ∷ events) [] world apart are = absurd are
run_other job node now other (event ∷ events) (timed ∷ happened) world apart are =
    run_other job node now other events happened (world_after job world timed) apart are.2
    ∙ fallen_other job world node event timed are.1 other apart

-- ---- an event of a turn

-- the event at a place of a turn: those before it were the first ones of the node, and it falls as the next one
pub record HappensAt (job : EndpointJob) (world : Records) (node now : ℕ) (events : List RecordEvent)
    (happened : List (EventAt OtherCall)) (first : List RecordEvent) (event : RecordEvent) : Type 0 where
  pub before : List (EventAt OtherCall)
  pub timed : EventAt OtherCall
  pub later : List (EventAt OtherCall)
  pub happened_is : happened ≡ before ++ timed ∷ later
  pub now_is : timed.now ≡ now
  pub falls_so : falls job.settings (run job before world) timed.event ≡ Some (record { node = node; event = event })
  pub node_is : run job before world node ≡ node_run job node now first (world node)

pub happens_at : (job : EndpointJob) (world : Records) (node now : ℕ) (first : List RecordEvent) (event : RecordEvent)
    (rest : List RecordEvent) (happened : List (EventAt OtherCall))
    → AreEvents job world node now (first ++ event ∷ rest) happened
    → HappensAt job world node now (first ++ event ∷ rest) happened first event
happens_at job world node now [] event rest [] are = absurd are
happens_at job world node now [] event rest (timed ∷ happened) are = record {
  before = [];
  timed = timed;
  later = happened;
  happened_is = refl;
  now_is = are.0;
  falls_so = are.1;
  node_is = refl;
}
happens_at job world node now (one ∷ first) event rest [] are = absurd are
happens_at job world node now (one ∷ first) event rest (timed ∷ happened) are =
    let it = happens_at job (world_after job world timed) node now first event rest happened are.2 in
    record {
      before = timed ∷ it.before;
      timed = it.timed;
      later = it.later;
      happened_is = ap (λ (events : List (EventAt OtherCall)). timed ∷ events) it.happened_is;
      now_is = it.now_is;
      falls_so = it.falls_so;
      node_is = it.node_is ∙ ap (node_run job node now first)
          (fallen_here job world node one timed are.1 ∙ ap (λ k. node_after job node (world node) k one) are.0);
    }

-- ---- a call

-- an event that falls as a call of a thread is that call
same_node : (one other : Fall OtherCall) → Some one ≡ Some other → one.node ≡ other.node
same_node one other same = ap (λ (fall : Fall OtherCall). fall.node) (same_Some one other same)

same_event : (one other : Fall OtherCall) → Some one ≡ Some other → one.event ≡ other.event
same_event one other same = ap (λ (fall : Fall OtherCall). fall.event) (same_Some one other same)

no_call : (message : Message) (thread : ℕ) (call : ThreadCall) → NodeComes message ≡ node_event thread call → ⊥
no_call message thread (Requests to asking) same = cc
no_call message thread (Performs call) same = cc

no_tick : (thread : ℕ) (call : ThreadCall) → ◌≡◌ {A = RecordEvent} NodeTicks (node_event thread call) → ⊥
no_tick thread (Requests to asking) same = cc
no_tick thread (Performs call) same = cc

same_ask : (one other : Ask) → ◌≡◌ {A = RecordEvent} (NodeAsks one) (NodeAsks other) → one ≡ other
same_ask one other same = cc

no_fall : {A : Type 0} (fall : A) → None ≡ Some fall → ⊥
no_fall fall same = cc

asked_same : (asked : Option Request) (settings : Parameters) (from to number node thread : ℕ) (call : ThreadCall)
    → request_event settings from to number asked ≡ Some (record { node = node; event = node_event thread call }) → ⊥
asked_same None settings from to number node thread call is = no_fall _ is
asked_same (Some request) settings from to number node thread call is = no_call _ thread call (same_event _ _ is)

replied_same : (ran : Option Run) (settings : Parameters) (from to node thread : ℕ) (call : ThreadCall)
    → reply_event settings from to ran ≡ Some (record { node = node; event = node_event thread call }) → ⊥
replied_same None settings from to node thread call is = no_fall _ is
replied_same (Some one) settings from to node thread call is = no_call _ thread call (same_event _ _ is)

asks_as : (from node thread : ℕ) (ask : Ask) (call : ThreadCall) → from ≡ node
    → NodeAsks ask ≡ node_event thread call → Asks from ask ≡ event_at node thread call
asks_as from node thread ask (Requests to asking) same is =
    ap₂ (λ (n : ℕ) (one : Ask). Asks n one) same (same_ask _ _ is)
asks_as from node thread ask (Performs call) same is = absurd (cc)

does_as : (from node by thread : ℕ) (other : OtherCall) (call : ThreadCall) → from ≡ node
    → NodeDoes by other ≡ node_event thread call → Does from by other ≡ event_at node thread call
does_as from node by thread other (Requests to asking) same is = absurd (cc)
does_as from node by thread other (Performs call) same is = cc

falls_as_call : (settings : Parameters) (world : Records) (event : RecordsEvent) (node thread : ℕ) (call : ThreadCall)
    → falls settings world event ≡ Some (record { node = node; event = node_event thread call })
    → event ≡ event_at node thread call
falls_as_call settings world (Asks from ask) node thread call is =
    asks_as from node thread ask call (same_node _ _ is) (same_event _ _ is)
falls_as_call settings world (Does from by other) node thread call is =
    does_as from node by thread other call (same_node _ _ is) (same_event _ _ is)
falls_as_call settings world (RequestComes from to number) node thread call is =
    absurd (asked_same (element_at ((world from).asked to) number) settings from to number node thread call is)
falls_as_call settings world (ReplyComes from to number) node thread call is =
    absurd (replied_same (run_of number ((world to).ran from)) settings from to node thread call is)
falls_as_call settings world (Ticks from) node thread call is = absurd (no_tick thread call (same_event _ _ is))

-- what the world answers to it
reply_is : (job : EndpointJob) (world : Records) (at : StepAt) (now : ℕ) (call : ThreadCall)
    → IsReply call (answer_told (node_answer job at.rank (world at.rank) now (node_event at.thread call)))
    (world_answer job world (call_event at now call))
reply_is job world at now (Requests to asking) = (_, refl, refl)
reply_is job world at now (Performs call) = refl

-- a call that is one of the events of a turn was made behind the past
pub made_at : (job : JobState) (past : List (EventAt OtherCall)) (at : StepAt) (now : ℕ) (first : List RecordEvent)
    (call : ThreadCall) (rest : List RecordEvent) (happened : List (EventAt OtherCall)) (node : Node EndpointLocal)
    → records_after job past at.rank ≡ node
    → AreEvents (rules_of job) (records_after job past) at.rank now (first ++ node_event at.thread call ∷ rest) happened
    → IsMadeSince job past (past ++ happened) at call
    (answer_told (node_answer (rules_of job) at.rank (node_run (rules_of job) at.rank now first node) now
    (node_event at.thread call)))
made_at job past at now first call rest happened node is are =
    let it = happens_at (rules_of job) (records_after job past) at.rank now first (node_event at.thread call) rest
    happened are in
    let world = run (rules_of job) it.before (records_after job past) in
    let event : it.timed ≡ call_event at now call =
    ap₂ (λ (n : ℕ) (e : RecordsEvent). timed_event n e) it.now_is
    (falls_as_call (rules_of job).settings world it.timed.event at.rank at.thread call it.falls_so) in
    let there : records_after job (past ++ it.before) ≡ world =
    run_append (rules_of job) past it.before (at_the_opening job.settings) in
    let found : world at.rank ≡ node_run (rules_of job) at.rank now first node =
    it.node_is ∙ ap (node_run (rules_of job) at.rank now first) is in
    let answer = answer_told (node_answer (rules_of job) at.rank (node_run (rules_of job) at.rank now first node) now
    (node_event at.thread call)) in
    record {
      made = record {
        before = past ++ it.before;
        now = now;
        later = it.later;
        run_is = ap (λ (events : List (EventAt OtherCall)). past ++ events)
            (it.happened_is ∙ ap (λ (e : EventAt OtherCall). it.before ++ e ∷ it.later) event)
            ∙ sym (append_assoc past it.before (call_event at now call ∷ it.later));
        answered = subst (λ (w : Records). IsReply call answer (world_answer (rules_of job) w (call_event at now call)))
            (sym there)
            (subst (λ (n : Node EndpointLocal). IsReply call
            (answer_told (node_answer (rules_of job) at.rank n now (node_event at.thread call)))
            (world_answer (rules_of job) world (call_event at now call))) found
            (reply_is (rules_of job) world at now call));
      };
      between = it.before;
      before_is = refl;
    }

-- more events follow
abbrev pub made_before : (job : JobState) (run more : List (EventAt OtherCall)) (at : StepAt) (call : ThreadCall)
    (answer : Answer) → IsCallMade job run at call answer → IsCallMade job (run ++ more) at call answer
made_before job run more at call answer made = record {
  before = made.before;
  now = made.now;
  later = made.later ++ more;
  run_is = ap (λ (events : List (EventAt OtherCall)). events ++ more) made.run_is
      ∙ append_assoc made.before (call_event at made.now call ∷ made.later) more;
  answered = made.answered;
}
