-- What the recorder of a node is after a turn, and what is told of the step that ended in it.
use Rattle.std.proofs.Common.{◌≡◌, ◌≤◌, ℕ, zero, suc, Bool, true, false, ◌||◌, List, [], ◌∷◌, ◌++◌, Option, Some}
use Rattle.std.proofs.Common.{None, refl, sym, ap, ap₂, subst, ◌∙◌, append-nil, append_assoc, arith, max, decimal, zero-add}
use Rattle.std.specs.Prelude.{is_some, if◌then◌else◌, IfSome, IsSomeAnd}
use Rattle.std.proofs.lemmas.Bool.{false≢true, true≢false}
use Rattle.std.proofs.lemmas.List.Concat.{flat_map-append}
use Rattle.wire_message.specs.Parameters.{Parameters, credits_of}
use Rattle.base_lists.proofs.Sums.{sum_none}
use Rattle.base_io.specs.Buffered.{Gathering, Gathers, GathersAll, outbox}
use Rattle.base_io.specs.declared.writing.Wrote.{Wrote}
use Rattle.base_io.specs.declared.writing.Wrote.TheVariants as wrote
use Rattle.base_io.specs.Memory.{SinkState}
use Rattle.node_endpoint.specs.EndpointState.{EndpointState, EndpointStands, ForItsRecord, IsNodeOf}
use Rattle.node_rules.specs.EndpointLocal.{EndpointLocal}
use Rattle.node_rules.specs.EndpointRules.{at_the_opening}
use Rattle.text_job.specs.declared.job.Job.{Job as JobState}
use Rattle.base_turns.specs.declared.entry.Entry.{Entry}
use Rattle.base_turns.specs.declared.turns.Turned.{Turned}
use Rattle.proc_machine.specs.Kept.{MachineKept}
use Rattle.proc_machine.specs.NodeState.{NodeState, NodeStands, after_turn, opening_state, script_job, turn_result}
use Rattle.spec_node.specs.Executed.{slots_run}
use Rattle.spec_node.specs.Held.{held_buffers, held_with}
use Rattle.spec_node.specs.Record.{Node as Record}
use Rattle.law_traces.specs.Turn.{is_some_there, try_of, turn}
use Rattle.text_script.specs.AnswersTold.{sight_at}
use Rattle.text_script.specs.AnswerWords.{sight_of}
use Rattle.base_text.specs.LineTexts.{Line, line_text, spell}
use Rattle.text_script.specs.Registration.{handlers_of, registry_of}
use Rattle.law_traces.specs.declared.script_answer.ScriptAnswer.{ScriptAnswer}
use Rattle.cli_check.specs.Merging.{IsOfItsJob}
use Rattle.cli_check.specs.Recording.{BeginningsNameNothing, RecordedState, RecorderKept, RecorderStands, ScriptedNode}
use Rattle.cli_check.specs.Recording.{entry_lines, held_in, opening_record, record_after, text_of}
use Rattle.cli_check.specs.StepLines.{machine_after, answer_of_step, lines_of_answer, script_words}
use Rattle.cli_check.specs.StepsWritten.{CanTellStep, NamesWhatIsThere, TellsStep, lines_told}
use Rattle.cli_check.specs.declared.steps.StepAt.{StepAt}
use Rattle.cli_check.proofs.Names.{after_beginnings, ended_names, first_beginnings}

-- ---- the text

-- bytes that went into the sink before one in memory stand at the end of its text
pub text_more : (old new : Gathering SinkState) (bytes : List ℕ)
    → Gathers (outbox (λ s. Some s.taken) (λ s. s.faults) old) (outbox (λ s. Some s.taken) (λ s. s.faults) new) bytes
    → text_of new ≡ text_of old ++ bytes
text_more old new bytes gathers =
    ap (λ (prefix : List ℕ). prefix ++ new.pending) gathers.given
    ∙ append_assoc old.inner.taken gathers.gone new.pending
    ∙ ap (λ (rest : List ℕ). old.inner.taken ++ rest) (sym gathers.whole)
    ∙ sym (append_assoc old.inner.taken old.pending bytes)

-- ---- a turn

-- what a turn at a time, in which this was got, does to the machine of a node: that of whatever state it stood for
pub record Turns (entry : Entry) (old new : MachineKept) (told : Turned) : Type 0 where
  pub after : (state : NodeState) → NodeStands old state
      → NodeStands new (after_turn state entry.thread entry.now entry.got)
  pub tells : (state : NodeState) → NodeStands old state → told ≡ turn_result state entry.thread entry.now entry.got

none_of : {A : Type 0} (found : Option A) → is_some found ≡ false → found ≡ None
none_of None is = refl
none_of (Some x) is = absurd (true≢false is)

is_there : {A : Type 0} (found : Option A) (P : A → Type 0) → IsSomeAnd found P → is_some found ≡ true
is_there None P holds = absurd holds
is_there (Some x) P holds = refl

there_is : {A : Type 0} (found : Option A) (P : A → Type 0) → is_some found ≡ true → IfSome found P → IsSomeAnd found P
there_is None P is holds = absurd (false≢true is)
there_is (Some x) P is holds = holds

-- one ended: the machine keeps its answer
ended_changes : (got there began : Bool) → (((got || there) || true) || began) ≡ true
ended_changes true there began = refl
ended_changes false true began = refl
ended_changes false false began = refl

answer_kept : (job : JobState) (rank : ℕ) (machine : ScriptedNode) (entry : Entry)
    → is_some (answer_of_step job rank machine entry) ≡ true
    → (machine_after job rank machine entry).answer ≡ answer_of_step job rank machine entry
answer_kept job rank machine entry some =
    let it = turn (script_job job) rank machine entry.thread entry.now entry.got in
    let began = (try_of (script_job job) rank machine entry.thread entry.now entry.got).began in
    let changed : it.changed ≡ true =
    subst (λ (ended : Bool). (((is_some entry.got || is_some_there it.packets) || ended) || began) ≡ true) (sym some)
    (ended_changes (is_some entry.got) (is_some_there it.packets) began) in
    ap (λ (b : Bool). if b then answer_of_step job rank machine entry else machine.answer) changed

-- the line of the step that ended in the turn of an entry of the node, if one did
abbrev pub lines_in : NodeState → Entry → List Line
lines_in state entry = entry_lines state.job state.ranked.me state.ranked.state entry

-- the answer of that step
abbrev pub answer_in : NodeState → Entry → Option ScriptAnswer
answer_in state entry = answer_of_step state.job state.ranked.me state.ranked.state entry

-- the state after it
abbrev pub state_then : NodeState → Entry → NodeState
state_then state entry = after_turn state entry.thread entry.now entry.got

module _ (entry : Entry) (old new : MachineKept) (told : Turned) (turns : Turns entry old new told)
    (state : NodeState) (stands : NodeStands old state) where
  -- whether a step ended
  stepped_so : told.stepped ≡ is_some (answer_in state entry)
  stepped_so = ap (λ (it : Turned). it.stepped) (turns.tells state stands)

  -- its answer is the one that the code's machine keeps then
  kept_so : told.stepped ≡ true → answer_in state entry ≡ new.answer
  kept_so some =
      sym (answer_kept state.job state.ranked.me state.ranked.state entry (sym stepped_so ∙ some))
      ∙ (turns.after state stands).answer_is

  -- the endpoint is that of a node of the job
  settings_so : IsOfItsJob new → new.endpoint.core.settings ≡ state.job.settings
  settings_so own =
      own.settings_are ∙ ap (λ (one : JobState). one.settings) (sym (turns.after state stands).job_is)

  me_so : new.endpoint.core.me ≡ state.ranked.me
  me_so = sym (turns.after state stands).me_is

  -- what the answer names is there
  pub can_tell : BeginningsNameNothing state.ranked.state → IsOfItsJob new → CanTellStep told.stepped new
  can_tell beginnings own some =
      let answer = kept_so some in
      there_is new.answer (NamesWhatIsThere new.endpoint) (ap is_some (sym answer) ∙ (sym stepped_so ∙ some))
      (subst (λ (found : Option ScriptAnswer). IfSome found (NamesWhatIsThere new.endpoint)) answer
      (ended_names state.job state.ranked.me state.ranked.state entry new.endpoint beginnings
      (turns.after state stands).node (settings_so own)))

  -- the line that is told then is that of the step
  lines_so : (rank : ℕ) → rank ≡ state.ranked.me → IsOfItsJob new
      → (if told.stepped then lines_told (record { rank = rank; thread = entry.thread })
      (sight_at new.endpoint (state_then state entry).ranked.state.node) new.answer else []) ≡ lines_in state entry
  lines_so rank is own = by_step told.stepped refl
    where
      node : Record EndpointLocal
      node = (state_then state entry).ranked.state.node

      same_lines : (answer : Option ScriptAnswer)
          → lines_told (record { rank = state.ranked.me; thread = entry.thread })
          (sight_of state.job.settings state.ranked.me node) answer
          ≡ lines_of_answer state.job (record { rank = state.ranked.me; thread = entry.thread }) node answer
      same_lines None = refl
      same_lines (Some answer) = refl

      by_step : (stepped : Bool) → told.stepped ≡ stepped
          → (if stepped then lines_told (record { rank = rank; thread = entry.thread })
          (sight_at new.endpoint node) new.answer else []) ≡ lines_in state entry
      by_step false none =
          ap (lines_of_answer state.job (record { rank = state.ranked.me; thread = entry.thread }) node)
          (sym (none_of (answer_in state entry) (sym stepped_so ∙ none)))
      by_step true some =
          ap (λ n. lines_told (record { rank = n; thread = entry.thread }) (sight_at new.endpoint node) new.answer) is
          ∙ ap (λ (s : Parameters). lines_told (record { rank = state.ranked.me; thread = entry.thread })
          (sight_of s new.endpoint.core.me node) new.answer) (settings_so own)
          ∙ ap (λ n. lines_told (record { rank = state.ranked.me; thread = entry.thread })
          (sight_of state.job.settings n node) new.answer) me_so
          ∙ ap (lines_told (record { rank = state.ranked.me; thread = entry.thread })
          (sight_of state.job.settings state.ranked.me node)) (sym (kept_so some))
          ∙ same_lines (answer_in state entry)

-- what the endpoint of a machine holds is what its state does
pub held_so : (kept : MachineKept) (state : NodeState) (value : ℕ) → NodeStands kept state → IsOfItsJob kept
    → ForItsRecord kept.endpoint (λ node. value ≡ held_buffers kept.endpoint.core.settings kept.endpoint.core.me node)
    → value ≡ held_in state
held_so kept state value stands own holds =
    holds state.ranked.state.node stands.node
    ∙ ap (λ (s : Parameters). held_buffers s kept.endpoint.core.me state.ranked.state.node)
    (own.settings_are ∙ ap (λ (one : JobState). one.settings) (sym stands.job_is))
    ∙ ap (λ n. held_buffers state.job.settings n state.ranked.state.node) (sym stands.me_is)

at_most : (a b : ℕ) → b ≤ max a b
at_most a b = omega arith

no_more : (a b : ℕ) → b ≤ a → max a b ≡ a
no_more a b less = omega arith

-- ---- a turn of a recorder

-- what the turn of an entry does to it
pub record Records (entry : Entry) (old new : RecorderKept) (turn_result : Turned) : Type 0 where
  pub turns : Turns entry old.node new.node turn_result
  pub own : IsOfItsJob new.node
  pub rank_is : new.rank ≡ old.rank
  pub told : Bool
  pub tells : TellsStep (record { rank = old.rank; thread = entry.thread }) turn_result.stepped new.node old.text new.text
      told
  pub whole_is : new.whole ≡ true → (old.whole ≡ true) × (told ≡ true)
  pub value : ℕ
  pub holds : ForItsRecord new.node.endpoint (λ node.
      value ≡ held_buffers new.node.endpoint.core.settings new.node.endpoint.core.me node)
  pub most_is : new.most ≡ max old.most value

-- so it is where the endpoint of the node told this
pub own_node : (kept : MachineKept) (endpoint : EndpointState) → endpoint ≡ kept.endpoint
    → IsNodeOf kept.job.settings (registry_of (handlers_of kept.job)).table endpoint.core.me endpoint → IsOfItsJob kept
own_node kept endpoint same node =
    subst
    (λ (one : EndpointState). IsNodeOf kept.job.settings (registry_of (handlers_of kept.job)).table one.core.me one)
    same node

pub own_held : (kept : MachineKept) (endpoint : EndpointState) (value : ℕ) → endpoint ≡ kept.endpoint
    → ForItsRecord endpoint (λ node. value ≡ held_buffers endpoint.core.settings endpoint.core.me node)
    → ForItsRecord kept.endpoint (λ node. value ≡ held_buffers kept.endpoint.core.settings kept.endpoint.core.me node)
own_held kept endpoint value same holds =
    subst (λ (one : EndpointState). ForItsRecord one (λ node. value ≡ held_buffers one.core.settings one.core.me node)) same
    holds

module _ (entry : Entry) (old new : RecorderKept) (turn_result : Turned) (records : Records entry old new turn_result)
    (state : RecordedState) (stands : RecorderStands old state) where
  -- it is that of the state after the turn
  pub recorded : RecorderStands new (record_after state entry.thread entry.now entry.got)
  recorded =
      let node = records.turns.after state.node stands.node in
      let most : new.most ≡ max state.most (held_in (state_then state.node entry)) =
      records.most_is
      ∙ ap (λ n. max n records.value) stands.most_is
      ∙ ap (max state.most)
      (held_so new.node (state_then state.node entry) records.value node records.own records.holds) in
      record {
        node = node;
        beginnings = after_beginnings state.node.job state.node.ranked.me state.node.ranked.state entry
            stands.beginnings;
        rank_is = records.rank_is ∙ stands.rank_is;
        text_is = λ whole.
            let both = records.whole_is whole in
            let after = (state_then state.node entry).ranked.state.node in
            let told = if turn_result.stepped then lines_told (record { rank = old.rank; thread = entry.thread })
            (sight_at new.node.endpoint after) new.node.answer else [] in
            records.tells both.1 after node.node
            ∙ ap (λ (text : List ℕ). text ++ spell told) (stands.text_is both.0)
            ∙ ap (λ (lines : List Line). spell state.lines ++ spell lines)
            (lines_so entry old.node new.node turn_result records.turns state.node stands.node old.rank stands.rank_is
            records.own)
            ∙ sym (flat_map-append line_text state.lines (lines_in state.node entry));
        most_is = most;
        holds = at_most state.most (held_in (state_then state.node entry));
      }

  -- where it ended no step and left the state of the node, it is that of the state before it
  pub still : turn_result.stepped ≡ false → NodeStands new.node state.node → RecorderStands new state
  still none node =
      let value = held_so new.node state.node records.value node records.own records.holds in
      record {
        node = node;
        beginnings = stands.beginnings;
        rank_is = records.rank_is ∙ stands.rank_is;
        text_is = λ whole.
            let both = records.whole_is whole in
            let told = lines_told (record { rank = old.rank; thread = entry.thread })
            (sight_at new.node.endpoint state.node.ranked.state.node) new.node.answer in
            records.tells both.1 state.node.ranked.state.node node.node
            ∙ ap (λ (b : Bool). old.text ++ spell (if b then told else [])) none
            ∙ append-nil old.text ∙ stands.text_is both.0;
        most_is = records.most_is ∙ ap (λ n. max n records.value) stands.most_is
            ∙ ap (max state.most) value ∙ no_more state.most (held_in state.node) stands.holds;
        holds = stands.holds;
      }

-- ---- the line of a step

abbrev MemoryGathers : (old new : Gathering SinkState) → List ℕ → Wrote → Type 0
MemoryGathers old new bytes said =
    GathersAll (outbox (λ s. Some s.taken) (λ s. s.faults) old) (outbox (λ s. Some s.taken) (λ s. s.faults) new) bytes
    said

-- none ended
pub told_none : (at : StepAt) (stepped : Bool) (kept : MachineKept) (text : List ℕ) → stepped ≡ false
    → TellsStep at stepped kept text text true
told_none at true kept text is = absurd (true≢false is)
told_none at false kept text is = λ whole node stands. sym (append-nil text)

-- one did, and its line went in
pub told_one : (at : StepAt) (stepped : Bool) (kept : MachineKept) (old new : Gathering SinkState)
    (endpoint : EndpointState) (answer : ScriptAnswer) → stepped ≡ true → endpoint ≡ kept.endpoint
    → kept.answer ≡ Some answer
    → ForItsRecord endpoint (λ node. MemoryGathers old new (line_text (decimal at.rank ∷ decimal at.thread
    ∷ script_words (sight_at endpoint node) answer)) wrote.Done)
    → TellsStep at stepped kept (text_of old) (text_of new) true
told_one at false kept old new endpoint answer some same is written = absurd (false≢true some)
told_one at true kept old new endpoint answer some same is written = λ whole node stands.
    let Line : EndpointState → Type 0 = λ one. EndpointStands one node → text_of new ≡ text_of old
    ++ spell (lines_told at (sight_at one node) (Some answer)) in
    let line : Line endpoint = λ own.
    let words = decimal at.rank ∷ decimal at.thread ∷ script_words (sight_at endpoint node) answer in
    text_more old new (line_text words) (written node own)
    ∙ ap (λ (bytes : List ℕ). text_of old ++ bytes) (sym (append-nil (line_text words))) in
    subst (λ (found : Option ScriptAnswer). text_of new ≡ text_of old
    ++ spell (lines_told at (sight_at kept.endpoint node) found)) (sym is) (subst Line same line stands)

-- the answer that is told names what is there
pub answer_names : (stepped : Bool) (kept : MachineKept) (endpoint : EndpointState) (answer : ScriptAnswer)
    → CanTellStep stepped kept → stepped ≡ true → endpoint ≡ kept.endpoint → kept.answer ≡ Some answer
    → NamesWhatIsThere endpoint answer
answer_names false kept endpoint answer can some same is = absurd (false≢true some)
answer_names true kept endpoint answer can some same is =
    subst (λ (one : EndpointState). NamesWhatIsThere one answer) (sym same)
    (subst (λ (found : Option ScriptAnswer). IsSomeAnd found (NamesWhatIsThere kept.endpoint)) is (can refl))

-- and there is one
pub answer_there : (stepped : Bool) (kept : MachineKept) → CanTellStep stepped kept → stepped ≡ true
    → is_some kept.answer ≡ true
answer_there false kept can some = absurd (false≢true some)
answer_there true kept can some = is_there kept.answer (NamesWhatIsThere kept.endpoint) (can refl)

-- ---- before all turns

runs_none : (n : ℕ) → slots_run [] n ≡ 0
runs_none zero = refl
runs_none (suc n) = let before = runs_none n in omega arith

-- a node that did nothing holds nothing
opening_holds : (settings : Parameters) (me : ℕ) → held_buffers settings me (at_the_opening settings me) ≤ 0
opening_holds settings me =
    let none = sum_none (held_with settings me (at_the_opening settings me)) settings.nodes
    (λ peer. zero-add (slots_run [] (credits_of settings peer me)) ∙ runs_none (credits_of settings peer me)) in
    omega (arith, none)

-- nothing went into a sink before one in memory that took nothing
pub no_text : (sink : Gathering SinkState) (inner : SinkState) → sink.inner ≡ inner → sink.pending ≡ []
    → inner.taken ≡ [] → text_of sink ≡ []
no_text sink inner same none nothing =
    ap₂ (λ (prefix back : List ℕ). prefix ++ back) (ap (λ (it : SinkState). it.taken) same ∙ nothing) none

pub opened : (job : JobState) (rank : ℕ) (node : MachineKept) (text : List ℕ)
    → NodeStands node (opening_state job rank) → text ≡ []
    → RecorderStands (record { node = node; rank = rank; text = text; whole = true; most = 0 })
    (opening_record job rank)
opened job rank node text stands none = record {
  node = stands;
  beginnings = first_beginnings job rank;
  rank_is = refl;
  text_is = λ whole. none;
  most_is = refl;
  holds = opening_holds job.settings rank;
}
