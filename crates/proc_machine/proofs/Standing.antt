-- What a machine stands for after a turn.
use Rattle.std.proofs.Common.{◌≡◌, inl, inr, ℕ, ◌<◌, Bool, true, false, true≢false, cond, ◌||◌, not, List, [], map}
use Rattle.std.proofs.Common.{length, Option, None, Some, refl, sym, ap, ap₂, ◌∙◌, subst, slice_get}
use Rattle.std.proofs.Common.{length-set, Bor, option_copied}
use Rattle.std.specs.Option.{option_map}
use Rattle.std.specs.Prelude.{is_some, slice_set}
use Rattle.std.proofs.lemmas.List.{map-set}
use Rattle.std.proofs.Math.Path.{fun_ext}
use Rattle.std.proofs.lemmas.Bool.{cases_eq}
use Rattle.std.proofs.lemmas.Option.{same_Some, slice_get-map}
use Rattle.wire_message.specs.Parameters.{Parameters}
use Rattle.part_handlers.specs.declared.table.Entry.{Entry}
use Rattle.part_handlers.specs.declared.lock_answer.Held.{Held}
use Rattle.part_handlers.specs.declared.lock_answer.Owner.TheVariants as owner
use Rattle.part_handlers.specs.Locks.{holds}
use Rattle.base_lists.specs.Put.{put}
use Rattle.base_lists.proofs.Indexes.{get-set_same, get-set_other}
use Rattle.base_lists.proofs.Put.{put_same, put_other}
use Rattle.base_turns.specs.declared.turns.Turned.{Turned}
use Rattle.spec_node.specs.Record.{Node}
use Rattle.spec_node.specs.SlotMessages.{message_at}
use Rattle.spec_node.specs.declared.answer.SlotRef.{SlotRef}
use Rattle.node_rules.specs.EndpointLocal.{EndpointLocal}
use Rattle.law_traces.specs.declared.script_answer.ScriptAnswer.{ScriptAnswer}
use Rattle.node_collectives.specs.CollectivesState.{CollectivesState}
use Rattle.node_endpoint.specs.EndpointState.{EndpointState, EndpointStands}
use Rattle.text_job.specs.declared.job.Job.{Job as JobState}
use Rattle.text_steps.specs.declared.steps.ScriptStep.{ScriptStep}
use Rattle.text_script.specs.Bodies.{script_meaning}
use Rattle.text_script.specs.Registration.{JobHandlers, handlers_of, registry_of}
use Rattle.law_traces.specs.Actions.{Progress, OwnScripts, scripts_of}
use Rattle.law_traces.specs.Scripts.{NodeJob}
use Rattle.law_traces.specs.Turn.{MachineState, try_of, datagram, is_some_there}
use Rattle.law_traces.specs.WorldRun.{endpoint_job}
use Rattle.law_traces.proofs.Emptying.{empty_turns, or_parts, none_of}
use Rattle.proc_steps.specs.Forms.{step_form}
use Rattle.proc_steps.specs.Laws.{WaitingIsCalm}
use Rattle.proc_steps.specs.Tries.{AreThere, FoundNode}
use Rattle.proc_machine.specs.Cursors.{progress_of, progress_of_all}
use Rattle.proc_machine.specs.declared.cursor.Cursor.{Cursor}
use Rattle.proc_machine.specs.Machines.{MachineTakes}
use Rattle.proc_machine.specs.Kept.{MachineKept, progress_or_none, own_scripts, own_threads, polls_at, CanBeSaid}
use Rattle.proc_machine.specs.Kept.{IsMachine}
use Rattle.proc_machine.specs.NodeState.{NodeState, state_of, script_job, after_turn, turn_result, datagram_at, as_there}
use Rattle.proc_machine.specs.NodeState.{NodeStands}
use Rattle.proc_machine.specs.Turns.{job_of_endpoint, TurnTaken, turn_by, is_changed, GoesAsTurn, TakesTurn}
use Rattle.proc_machine.specs.declared.turn.TurnDone.{TurnDone}

-- ---- scripts

-- what is left of the scripts, where one thread's went on
own_set : (scripts : List (Progress ScriptStep)) (thread : ℕ) (progress : Progress ScriptStep)
    → thread < length scripts
    → put (own_threads scripts) thread progress ≡ own_threads (slice_set scripts thread progress)
own_set scripts thread progress inside = fun_ext (λ other. elim (cases_eq other thread) [
  | inl same ↦
      ap (put (own_threads scripts) thread progress) same
      ∙ (put_same (own_threads scripts) thread progress
      ∙ (sym (ap progress_or_none (get-set_same scripts thread progress inside))
      ∙ ap (own_threads (slice_set scripts thread progress)) (sym same)))
  | inr apart ↦
      put_other (own_threads scripts) thread progress other apart
      ∙ sym (ap progress_or_none (get-set_other scripts thread progress other apart))
])

-- ---- a turn of a machine

-- a machine that took a turn: what it was, the turn, what the turn did, and the endpoint and the script then
pub record Turning : Type 0 where
  pub machine : MachineKept
  pub taken : TurnTaken
  pub done : TurnDone
  pub found : FoundNode
  pub progress : Progress ScriptStep

-- what the machine's turn found
abbrev pub found_by : MachineKept → FoundNode
found_by machine = record { endpoint = machine.endpoint; collectives = machine.collectives }

abbrev pub found_in : EndpointState → Option CollectivesState → FoundNode
found_in endpoint collectives = record { endpoint = endpoint; collectives = collectives }

-- all that is known of it
pub record IsTurning (it : Turning) : Type 0 where
  pub is : IsMachine it.machine
  pub inside : it.taken.thread < length it.machine.scripts
  pub before : Progress ScriptStep
  pub there : slice_get it.machine.scripts it.taken.thread ≡ Some before
  pub takes : TakesTurn (script_meaning (handlers_of it.machine.job)) (found_by it.machine, before) it.taken it.done
      (it.found, it.progress)
  pub there_then : AreThere it.found.endpoint it.found.collectives

-- the scripts after it
abbrev pub scripts_then : Turning → List (Progress ScriptStep)
scripts_then it = slice_set it.machine.scripts it.taken.thread it.progress

-- the machine after it, with these datagrams and this answer
abbrev pub machine_with : Turning → (outgoing : List SlotRef) → (answer : Option ScriptAnswer) → MachineKept
machine_with it outgoing answer = record {
  job = it.machine.job;
  endpoint = it.found.endpoint;
  collectives = it.found.collectives;
  scripts = scripts_then it;
  outgoing = outgoing;
  answer = answer;
}

-- of a job and a node, what is known of the turn of a state
pub record Facts (it : Turning) (state : MachineState EndpointLocal (OwnScripts ScriptStep))
    (job : NodeJob EndpointLocal (OwnScripts ScriptStep)) (me : ℕ) : Type 0 where
  pub goes : GoesAsTurn job me it.taken state it.done
  pub node : EndpointStands it.found.endpoint (turn_by job me it.taken state).after.node
  pub own : (turn_by job me it.taken state).after.own
      ≡ record {
        threads = put state.own.threads it.taken.thread it.progress;
        collectives = it.found.collectives;
      }

-- the job of a machine is that of its endpoint
job_same : (machine : MachineKept) → IsMachine machine
    → job_of_endpoint (script_meaning (handlers_of machine.job)) machine.endpoint ≡ script_job machine.job
job_same machine is = ap₂ (λ (settings : Parameters) (table : List (Option Entry)).
    endpoint_job settings table (script_meaning (handlers_of machine.job)) (scripts_of step_form))
    is.node.settings_are is.node.table_is

facts_at : (it : Turning) → IsTurning it → (state : MachineState EndpointLocal (OwnScripts ScriptStep))
    → EndpointStands it.machine.endpoint state.node → state.own ≡ own_scripts it.machine
    → Facts it state (script_job it.machine.job) it.machine.endpoint.core.me
facts_at it T state stands own =
    let meaning = script_meaning (handlers_of it.machine.job) in
    let G = T.takes.goes state stands
    (ap (λ (f : OwnScripts ScriptStep). f.threads it.taken.thread) own ∙ ap progress_or_none T.there)
    (ap (λ (f : OwnScripts ScriptStep). f.collectives) own) in
    subst (λ (job : NodeJob EndpointLocal (OwnScripts ScriptStep)).
    Facts it state job it.machine.endpoint.core.me) (job_same it.machine T.is)
    (record { goes = G.0; node = G.1; own = G.2 })

facts_of : (it : Turning) → IsTurning it → (state : NodeState) → NodeStands it.machine state
    → Facts it state.ranked.state (script_job state.job) state.ranked.me
facts_of it T state S =
    subst (λ (me : ℕ). Facts it state.ranked.state (script_job state.job) me) (sym S.me_is)
    (subst (λ (job : JobState). Facts it state.ranked.state (script_job job) it.machine.endpoint.core.me) (sym S.job_is)
    (facts_at it T state.ranked.state S.node S.own_is))

-- the machine's node is the same
me_then : (it : Turning) → IsTurning it → (state : NodeState) → NodeStands it.machine state
    → state.ranked.me ≡ it.found.endpoint.core.me
me_then it T state S = S.me_is ∙ sym T.takes.same.me_is

own_then : (it : Turning) → IsTurning it → (state : NodeState) → NodeStands it.machine state
    → (turn_by (script_job state.job) state.ranked.me it.taken state.ranked.state).after.own
    ≡ record { threads = own_threads (scripts_then it); collectives = it.found.collectives }
own_then it T state S =
    (facts_of it T state S).own
    ∙ ap (λ (threads : ℕ → Progress ScriptStep). record { threads = threads; collectives = it.found.collectives })
    (ap (λ (own : OwnScripts ScriptStep). put own.threads it.taken.thread it.progress) S.own_is
    ∙ own_set it.machine.scripts it.taken.thread it.progress T.inside)

-- a turn that changed something
pub changed_stands : (it : Turning) → IsTurning it → (state : NodeState) → NodeStands it.machine state
    → is_changed it.taken it.done ≡ true
    → NodeStands (machine_with it it.done.outgoing it.done.tried.ended)
    (after_turn state it.taken.thread it.taken.now it.taken.got)
changed_stands it T state S changed =
    let F = facts_of it T state S in
    let job = script_job state.job in
    let next = turn_by job state.ranked.me it.taken state.ranked.state in
    let is : next.changed ≡ true = F.goes.changed ∙ changed in
    record {
      job_is = S.job_is;
      me_is = me_then it T state S;
      node = F.node;
      own_is = own_then it T state S;
      outgoing_is = ap₂ (λ (text : JobState) (me : ℕ).
          map (datagram_at text.settings me next.after.node) it.done.outgoing)
          (sym S.job_is) (sym (me_then it T state S))
          ∙ (F.goes.sent
          ∙ ap (map as_there) (sym (ap (λ (b : Bool).
          cond b (map (datagram state.job.settings) next.packets) state.ranked.state.outgoing) is)));
      answer_is = ap (λ (b : Bool). cond b
          (try_of job state.ranked.me state.ranked.state it.taken.thread it.taken.now it.taken.got).ended
          state.ranked.state.answer) is
          ∙ F.goes.ended;
    }

-- an empty turn leaves the state
pub empty_leaves : WaitingIsCalm → (state : NodeState) (thread now : ℕ) → (turn_result state thread now None).changed ≡ false
    → after_turn state thread now None ≡ state
empty_leaves calm state thread now quiet =
    ap (λ (machine : MachineState EndpointLocal (OwnScripts ScriptStep)).
    state_of state.job (record { me = state.ranked.me; state = machine }))
    (empty_turns (script_job state.job)
    (calm state.job.settings (registry_of (handlers_of state.job)).table (script_meaning (handlers_of state.job)))
    state.ranked.me thread now state.ranked.state quiet)

none_got : (got : Option (List ℕ)) → is_some got ≡ false → got ≡ None
none_got None e = refl
none_got (Some bytes) e = absurd (true≢false e)

-- of a turn that changed nothing
pub record IsQuiet (taken : TurnTaken) (done : TurnDone) : Type 0 where
  pub got : taken.got ≡ None
  pub ended : is_some done.tried.ended ≡ false

pub quiet_is : (taken : TurnTaken) (done : TurnDone) → is_changed taken done ≡ false → IsQuiet taken done
quiet_is taken done quiet =
    let a = or_parts (is_some taken.got || is_some_there done.outgoing || is_some done.tried.ended) (is_some done.tried.began)
    quiet in
    let b = or_parts (is_some taken.got || is_some_there done.outgoing) (is_some done.tried.ended) a.0 in
    let c = or_parts (is_some taken.got) (is_some_there done.outgoing) b.0 in
    record { got = none_got taken.got c.0; ended = b.1 }

-- what a turn told
pub told_is : (it : Turning) → IsTurning it → (state : NodeState) → NodeStands it.machine state
    → turn_result state it.taken.thread it.taken.now it.taken.got
    ≡ record {
      changed = is_changed it.taken it.done;
      stepped = is_some it.done.tried.ended;
      sends = cond (is_changed it.taken it.done) (length it.done.outgoing) 0;
    }
told_is it T state S =
    let F = facts_of it T state S in
    let next = turn_by (script_job state.job) state.ranked.me it.taken state.ranked.state in
    ap₂ (λ (changed stepped : Bool). record {
      changed = changed;
      stepped = stepped;
      sends = cond changed (length next.packets) 0;
    }) F.goes.changed (ap is_some F.goes.ended)
    ∙ ap (λ (count : ℕ). record {
      changed = is_changed it.taken it.done;
      stepped = is_some it.done.tried.ended;
      sends = cond (is_changed it.taken it.done) count 0;
    }) F.goes.sends

-- an empty turn
pub quiet_stands : WaitingIsCalm → (it : Turning) → IsTurning it → (state : NodeState) → NodeStands it.machine state
    → is_changed it.taken it.done ≡ false
    → NodeStands (machine_with it it.machine.outgoing it.machine.answer)
    (after_turn state it.taken.thread it.taken.now it.taken.got)
quiet_stands calm it T state S quiet =
    let F = facts_of it T state S in
    let job = script_job state.job in
    let got = (quiet_is it.taken it.done quiet).got in
    let next = turn_by job state.ranked.me it.taken state.ranked.state in
    let still : (turn_result state it.taken.thread it.taken.now None).changed ≡ false =
    subst (λ (o : Option (List ℕ)). (turn_result state it.taken.thread it.taken.now o).changed ≡ false) got
    (F.goes.changed ∙ quiet) in
    let same : after_turn state it.taken.thread it.taken.now it.taken.got ≡ state =
    ap (after_turn state it.taken.thread it.taken.now) got
    ∙ empty_leaves calm state it.taken.thread it.taken.now still in
    let left : next.after ≡ state.ranked.state = ap (λ (x : NodeState). x.ranked.state) same in
    record {
      job_is = S.job_is;
      me_is = me_then it T state S;
      node = F.node;
      own_is = own_then it T state S;
      outgoing_is = ap (λ (me : ℕ).
          map (datagram_at it.machine.job.settings me next.after.node) it.machine.outgoing) T.takes.same.me_is
          ∙ subst (λ (x : MachineState EndpointLocal (OwnScripts ScriptStep)).
          map (datagram_at it.machine.job.settings it.machine.endpoint.core.me x.node) it.machine.outgoing
          ≡ map as_there x.outgoing) (sym left) S.outgoing_is;
      answer_is = ap (λ (x : MachineState EndpointLocal (OwnScripts ScriptStep)). x.answer) left ∙ S.answer_is;
    }

-- ---- what needs no state at hand

-- a state of a record of the endpoint
abbrev pub some_state : MachineKept → Node EndpointLocal → MachineState EndpointLocal (OwnScripts ScriptStep)
some_state machine node =
    record { node = node; own = own_scripts machine; outgoing = []; answer = None }

-- of the record for which the endpoint stands
some_facts : (it : Turning) → (T : IsTurning it)
    → Facts it (some_state it.machine T.is.record_.0) (script_job it.machine.job) it.machine.endpoint.core.me
some_facts it T = facts_at it T (some_state it.machine T.is.record_.0) T.is.record_.1 refl

-- whether a thread polls changes only in a turn that ends a step
pub polls_stay : (it : Turning) → IsTurning it → is_some it.done.tried.ended ≡ false
    → (outgoing : List SlotRef) (answer : Option ScriptAnswer) (thread : ℕ)
    → polls_at (machine_with it outgoing answer) thread ≡ polls_at it.machine thread
polls_stay it T none outgoing answer thread =
    let F = some_facts it T in
    let locks : it.found.endpoint.core.locks ≡ it.machine.endpoint.core.locks =
    F.node.core.locks_are ∙ (F.goes.locks (none_of it.done.tried.ended none) ∙ sym T.is.record_.1.core.locks_are) in
    ap (λ (held : List Held). not (holds (owner.Thread thread) held)) locks

-- the machine after it is one
pub machine_is : (it : Turning) → IsTurning it → (outgoing : List SlotRef) (answer : Option ScriptAnswer)
    → IsMachine (machine_with it outgoing answer)
machine_is it T outgoing answer = record {
  job = T.is.job;
  node = record {
    settings_are = T.takes.same.settings ∙ T.is.node.settings_are;
    me_is = refl;
    table_is = T.takes.same.table ∙ T.is.node.table_is;
  };
  there = T.there_then;
  threads = length-set it.machine.scripts it.taken.thread it.progress ∙ T.is.threads;
  said = λ thread progress at. elim (cases_eq thread it.taken.thread) [
    | inl same ↦
        subst (CanBeSaid it.machine.job.settings) (same_Some it.progress progress
        (sym (get-set_same it.machine.scripts it.taken.thread it.progress T.inside)
        ∙ (ap (slice_get (scripts_then it)) (sym same) ∙ at)))
        (T.takes.said it.machine.job.settings (T.is.said it.taken.thread T.before T.there))
    | inr apart ↦
        T.is.said thread progress
        (sym (get-set_other it.machine.scripts it.taken.thread it.progress thread apart) ∙ at)
  ];
  record_ = (_, (some_facts it T).node);
}

-- an option behind a reference
copied_some : (got : Option (Bor (List ℕ))) → is_some got ≡ is_some (option_copied got)
copied_some None = refl
copied_some (Some bytes) = refl

-- ---- from what the code says

-- a machine that has these cursors
abbrev pub machine_at : JobState → FoundNode → List Cursor → List SlotRef → Option ScriptAnswer → MachineKept
machine_at job found cursors outgoing answer = record {
  job = job;
  endpoint = found.endpoint;
  collectives = found.collectives;
  scripts = progress_of_all cursors;
  outgoing = outgoing;
  answer = answer;
}

-- the cursor of the thread was read
pub record Reads (job : JobState) (cursors : List Cursor) (thread : ℕ) (cursor : Cursor) : Type 0 where
  pub low : thread < job.settings.threads
  pub read : slice_get cursors thread ≡ Some cursor

pub reads_is : (machine : MachineKept) (job : JobState) (cursors from : List Cursor) (thread place : ℕ)
    (cursor : Cursor)
    → job ≡ machine.job → thread < machine.job.settings.threads → place ≡ thread → from ≡ cursors
    → slice_get from place ≡ Some cursor → Reads job cursors thread cursor
reads_is machine job cursors from thread place cursor same low at is read = record {
  low = subst (λ (it : JobState). thread < it.settings.threads) (sym same) low;
  read = ap₂ (λ (xs : List Cursor) (i : ℕ). slice_get xs i) (sym is) (sym at) ∙ read;
}

-- what is left of the thread's script can be said
pub read_said : (job : JobState) (found : FoundNode) (cursors : List Cursor) (outgoing : List SlotRef)
    (answer : Option ScriptAnswer) (thread : ℕ) (cursor : Cursor)
    → IsMachine (machine_at job found cursors outgoing answer) → Reads job cursors thread cursor
    → CanBeSaid found.endpoint.core.settings (progress_of cursor)
read_said job found cursors outgoing answer thread cursor is R =
    subst (λ settings. CanBeSaid settings (progress_of cursor)) (sym is.node.settings_are)
    (is.said thread (progress_of cursor)
    (slice_get-map progress_of cursors thread ∙ ap (option_map progress_of) R.read))

pub turning_is : (job : JobState) (found : FoundNode) (cursors : List Cursor) (outgoing : List SlotRef)
    (answer : Option ScriptAnswer) (taken : TurnTaken) (cursor : Cursor) (handlers : JobHandlers) (done : TurnDone)
    (later : FoundNode) (progress : Progress ScriptStep)
    → IsMachine (machine_at job found cursors outgoing answer) → Reads job cursors taken.thread cursor
    → handlers ≡ handlers_of job
    → TakesTurn (script_meaning handlers) (found, progress_of cursor) taken done (later, progress)
    → AreThere later.endpoint later.collectives
    → IsTurning (record {
      machine = machine_at job found cursors outgoing answer;
      taken = taken;
      done = done;
      found = later;
      progress = progress;
    })
turning_is job found cursors outgoing answer taken cursor handlers done later progress is R same takes there_then =
    record {
      is = is;
      inside = subst (λ (n : ℕ). taken.thread < n) (sym is.threads) R.low;
      before = progress_of cursor;
      there = slice_get-map progress_of cursors taken.thread ∙ ap (option_map progress_of) R.read;
      takes = subst (λ (of : JobHandlers).
          TakesTurn (script_meaning of) (found, progress_of cursor) taken done (later, progress)) same takes;
      there_then = there_then;
    }

-- the scripts, where one cursor went on
pub cursors_set : (cursors : List Cursor) (thread place : ℕ) (cursor : Cursor) → place ≡ thread
    → slice_set (progress_of_all cursors) thread (progress_of cursor) ≡ progress_of_all (slice_set cursors place cursor)
cursors_set cursors thread place cursor at =
    ap (λ (i : ℕ). slice_set (progress_of_all cursors) i (progress_of cursor)) (sym at)
    ∙ sym (map-set progress_of cursors place cursor)

-- the machine took the turn
pub takes_is : WaitingIsCalm → (it : Turning) → IsTurning it
    → MachineTakes it.machine it.taken it.done (machine_with it it.machine.outgoing it.machine.answer)
takes_is calm it T = record {
  job = refl;
  changed = λ changed state S. changed_stands it T state S changed;
  quiet = λ quiet state S. quiet_stands calm it T state S quiet;
  told = λ state S. told_is it T state S;
  polls = λ none thread. polls_stay it T none it.machine.outgoing it.machine.answer thread;
}

-- both of a machine whose cursors were read and written
pub record Took (job : JobState) (found : FoundNode) (cursors : List Cursor) (outgoing : List SlotRef)
    (answer : Option ScriptAnswer) (taken : TurnTaken) (done : TurnDone) (later : FoundNode) (more : List Cursor) : Type 0
  where
    pub is : IsMachine (machine_at job later more outgoing answer)
    pub takes : MachineTakes (machine_at job found cursors outgoing answer) taken done
        (machine_at job later more outgoing answer)

pub took : WaitingIsCalm → (job : JobState) (found : FoundNode) (cursors : List Cursor)
    (outgoing : List SlotRef) (answer : Option ScriptAnswer) (taken : TurnTaken) (place : ℕ) (cursor next : Cursor)
    (handlers : JobHandlers) (done : TurnDone) (later : FoundNode)
    → IsMachine (machine_at job found cursors outgoing answer) → Reads job cursors taken.thread cursor
    → place ≡ taken.thread → handlers ≡ handlers_of job
    → TakesTurn (script_meaning handlers) (found, progress_of cursor) taken done (later, progress_of next)
    → AreThere later.endpoint later.collectives
    → Took job found cursors outgoing answer taken done later (slice_set cursors place next)
took calm job found cursors outgoing answer taken place cursor next handlers done later is R at same takes there_then =
    let it : Turning = record {
      machine = machine_at job found cursors outgoing answer;
      taken = taken;
      done = done;
      found = later;
      progress = progress_of next;
    } in
    let T = turning_is job found cursors outgoing answer taken cursor handlers done later (progress_of next) is R
    same takes there_then in
    let scripts = cursors_set cursors taken.thread place next at in
    record {
      is = subst (λ (these : List (Progress ScriptStep)).
          IsMachine (record (machine_with it outgoing answer) { scripts = these })) scripts
          (machine_is it T outgoing answer);
      takes = subst (λ (these : List (Progress ScriptStep)).
          MachineTakes (machine_at job found cursors outgoing answer) taken done
          (record (machine_with it outgoing answer) { scripts = these })) scripts (takes_is calm it T);
    }

-- what the machine keeps of a turn is nothing that holds of every machine
pub still_machine : (machine : MachineKept) (outgoing : List SlotRef) (answer : Option ScriptAnswer) → IsMachine machine
    → IsMachine (record machine { outgoing = outgoing; answer = answer })
still_machine machine outgoing answer is =
    record {
      job = is.job;
      node = is.node;
      there = is.there;
      threads = is.threads;
      said = is.said;
      record_ = is.record_;
    }

-- an empty turn, as the trait says it
pub empty_turn : WaitingIsCalm → (old : MachineKept) (taken : TurnTaken) (done : TurnDone) (new : MachineKept)
    → MachineTakes old taken done new → is_changed taken done ≡ false → (got : Option (List ℕ)) → taken.got ≡ got
    → got ≡ None → (state : NodeState) → NodeStands old state → NodeStands new state
empty_turn calm old taken done new M quiet got is none state S =
    let still : (turn_result state taken.thread taken.now None).changed ≡ false =
    subst (λ (o : Option (List ℕ)). (turn_result state taken.thread taken.now o).changed ≡ false) (is ∙ none)
    (ap (λ (t : Turned). t.changed) (M.told state S) ∙ quiet) in
    subst (NodeStands new)
    (ap (after_turn state taken.thread taken.now) (is ∙ none) ∙ empty_leaves calm state taken.thread taken.now still)
    (M.quiet quiet state S)

-- what is told of an empty turn
pub told_quiet : (old : MachineKept) (taken : TurnTaken) (done : TurnDone) (new : MachineKept)
    → MachineTakes old taken done new → is_changed taken done ≡ false → (state : NodeState) → NodeStands old state
    → ◌≡◌ {A = Turned} (record { changed = false; stepped = false; sends = 0 })
    (turn_result state taken.thread taken.now taken.got)
told_quiet old taken done new M quiet state S =
    sym (M.told state S
    ∙ ap₂ (λ (changed stepped : Bool). record {
      changed = changed;
      stepped = stepped;
      sends = cond changed (length done.outgoing) 0;
    }) quiet (quiet_is taken done quiet).ended)

-- what is told of another turn
pub told_changed : (old : MachineKept) (taken : TurnTaken) (done : TurnDone) (new : MachineKept) (stepped : Bool)
    (count : ℕ)
    → MachineTakes old taken done new → is_changed taken done ≡ true → stepped ≡ is_some done.tried.ended
    → count ≡ length done.outgoing → (state : NodeState) → NodeStands old state
    → ◌≡◌ {A = Turned} (record { changed = true; stepped = stepped; sends = count })
    (turn_result state taken.thread taken.now taken.got)
told_changed old taken done new stepped count M changed ends counts state S =
    ap₂ (λ (b : Bool) (n : ℕ). record { changed = true; stepped = b; sends = n }) ends counts
    ∙ sym (M.told state S
    ∙ ap (λ (b : Bool). record {
      changed = b;
      stepped = is_some done.tried.ended;
      sends = cond b (length done.outgoing) 0;
    }) changed)

-- the test of the code
pub change_is : (taken : TurnTaken) (done : TurnDone) (got : Option (Bor (List ℕ))) (result came value : Bool)
    → taken.got ≡ option_copied got
    → result ≡ (came || is_some_there done.outgoing || is_some done.tried.ended || is_some done.tried.began)
    → came ≡ is_some got → result ≡ value → is_changed taken done ≡ value
change_is taken done got result came value is test says e =
    ap (λ (b : Bool). b || is_some_there done.outgoing || is_some done.tried.ended || is_some done.tried.began)
    (ap is_some is ∙ (sym (copied_some got) ∙ sym says))
    ∙ (sym test ∙ e)

-- ---- the datagram at a place

-- the datagram of a slot is the one at its place
pub datagram_is : (settings : Parameters) (me : ℕ) (node : Node EndpointLocal) (slots : List SlotRef)
    (out : List (ℕ × List ℕ)) (i : ℕ) (at : Option SlotRef)
    → map (datagram_at settings me node) slots ≡ map as_there out → at ≡ slice_get slots i
    → option_map (datagram_at settings me node) at ≡ option_map as_there (slice_get out i)
datagram_is settings me node slots out i at same is =
    ap (option_map (datagram_at settings me node)) is
    ∙ (sym (slice_get-map (datagram_at settings me node) slots i)
    ∙ (ap (λ (l : List (ℕ × Option (List ℕ))). slice_get l i) same ∙ slice_get-map as_there out i))

pub none_there : (settings : Parameters) (me : ℕ) (node : Node EndpointLocal) (datagram : Option (ℕ × List ℕ))
    → option_map (datagram_at settings me node) None ≡ option_map as_there datagram → None ≡ datagram
none_there settings me node None e = refl
none_there settings me node (Some datagram) e = absurd cc

pub one_there : (settings : Parameters) (me : ℕ) (node : Node EndpointLocal) (at : SlotRef) (bytes : Option (List ℕ))
    (datagram : Option (ℕ × List ℕ))
    → option_map (datagram_at settings me node) (Some at) ≡ option_map as_there datagram
    → bytes ≡ message_at settings me node at → option_map (λ (these : List ℕ). (at.peer, these)) bytes ≡ datagram
one_there settings me node at bytes None e is = absurd cc
one_there settings me node at bytes (Some datagram) e is =
    let pair = same_Some (datagram_at settings me node at) (as_there datagram) e in
    let there : bytes ≡ Some datagram.1 = is ∙ ap (λ (x : ℕ × Option (List ℕ)). x.1) pair in
    ap (option_map (λ (these : List ℕ). (at.peer, these))) there
    ∙ ap (λ (to : ℕ). Some (to, datagram.1)) (ap (λ (x : ℕ × Option (List ℕ)). x.0) pair)
