-- Reading a job line by line: the first bad line, and the first reason that applies to it.
use Rattle.std.specs.Prelude.{ℕ, ◌+◌, ◌-◌, ◌*◌, List, [], ◌∷◌, ◌++◌, length, map, Option, Some, None, Result, Ok, Err}
use Rattle.std.specs.Prelude.{Bool, true, false}
use Rattle.std.specs.Prelude.{not, ◌&&◌, ◌||◌, nat_le, nat_lt, ◌==◌, if◌then◌else◌}
use Rattle.std.specs.List.{list_any}
use Rattle.wire_message.specs.Parameters.{with_pair}
use Rattle.wire_message.specs.declared.pairs.PairCredits.{PairCredits}
use Rattle.node_atomics.specs.BatchRequests.{batch_handler, block_handler}
use Rattle.base_text.specs.Lines.{◌>>=◌, after_newline}
use Rattle.base_text.specs.Reasons.{reason}
use Rattle.text_job.specs.Places.{Setting, Version, Nodes, Credits, Threads, Segment, Last, Resend, Patience}
use Rattle.text_job.specs.Scopes.{scope_of}
use Rattle.text_calls.specs.declared.scope.Scope.{Scope}
use Rattle.text_job.specs.Places.{AtAtomics, AtCollect, HandlerItem, CollectItem, AtomicsItem, PairItem}
use Rattle.part_collective_area.specs.Served.{collective_handler}
use Rattle.text_job.specs.Places.{Place, AtSetting, AtSieve, AtPairs, AtHandlers, AtBody, AtScripts, AtSteps}
use Rattle.text_job.specs.Places.{AtSchedule, AtDone, Over, NamedOr, Named, Other, Item, item_at, item_form}
use Rattle.text_job.specs.Places as places
use Rattle.text_job.specs.PlanPieces.{most_pieces, event_pieces, schedule_pieces}
use Rattle.text_job.specs.StepPieces.{step_pieces, steps_pieces}
use Rattle.text_job.specs.PlanPieces.{scripts_pieces}
use Rattle.base_text.specs.declared.why.LineWhy.{LineWhy}
use Rattle.base_text.specs.declared.why.LineWhy.TheVariants.{Size, Early, Entry, Count, After}
use Rattle.text_steps.specs.declared.steps.Action.{Action}
use Rattle.text_job.specs.declared.job.CollectArea.{CollectArea}
use Rattle.text_job.specs.declared.job.HandlerText.{HandlerText}
use Rattle.text_job.specs.declared.job.Head.{Head}
use Rattle.text_job.specs.declared.job.Job.{Job}
use Rattle.text_job.specs.declared.job.NodeScript.{NodeScript}
use Rattle.text_steps.specs.declared.steps.ScheduledEvent.{ScheduledEvent}
use Rattle.text_steps.specs.declared.steps.ScheduledEvent.TheVariants as event
use Rattle.text_steps.specs.declared.steps.ScriptStep.{ScriptStep}
use Rattle.text_steps.specs.declared.steps.TimedEvent.{TimedEvent}
use Rattle.text_job.specs.declared.schedules.Amounts.{Amounts}
use Rattle.text_job.specs.declared.sections.HandlerHeader.{HandlerHeader}
use Rattle.text_job.specs.declared.sections.Section.{Section}
use Rattle.text_job.specs.declared.sections.Section.TheVariants as section
use Rattle.text_job.specs.declared.schedules.TheConstants.{LINES}
use Rattle.text_job.specs.declared.reading.TheConstants.{MAX_JOB_BYTES}

-- ---- what was read so far

-- the next line's place, and the job that the lines before it say, in which all else is as small as it can be
pub record State : Type 0 where
  pub place : Place
  pub job : Job

-- a job of which no line was read
abbrev pub least_job : Job
least_job = record {
  settings = record {
    version = 1;
    job = 0;
    nodes = 1;
    credits = 1;
    pairs = [];
    threads = 1;
    segment = 4096;
    last = 1;
    resend = 1;
  };
  patience = 1;
  sieve = record { lose = 0; repeat = 0; swap = 0 };
  atomics = false;
  collect = None;
  handlers = [];
  scripts = [];
  schedule = None;
}

-- the job of a head alone
abbrev pub job_of_head : Head → Job
job_of_head head = record {
  settings = head.settings;
  patience = head.patience;
  sieve = head.sieve;
  atomics = head.atomics;
  collect = head.collect;
  handlers = [];
  scripts = [];
  schedule = None;
}

-- before the first line
abbrev pub start : State
start = record { place = AtSetting Version; job = least_job }

-- ---- what a line adds

-- the number of a setting
abbrev pub with_number : Setting → ℕ → Job → Job
with_number Version number job = record job { settings = record job.settings { version = number } }
with_number places.Job number job = record job { settings = record job.settings { job = number } }
with_number Nodes number job = record job { settings = record job.settings { nodes = number } }
with_number Credits number job = record job { settings = record job.settings { credits = number } }
with_number Threads number job = record job { settings = record job.settings { threads = number } }
with_number Segment number job = record job { settings = record job.settings { segment = number } }
with_number Last number job = record job { settings = record job.settings { last = number } }
with_number Resend number job = record job { settings = record job.settings { resend = number } }
with_number Patience number job = record job { patience = number }

-- the place behind a setting
abbrev pub behind_setting : Setting → Place
behind_setting Version = AtSetting places.Job
behind_setting places.Job = AtSetting Nodes
behind_setting Nodes = AtSetting Credits
behind_setting Credits = AtSetting Threads
behind_setting Threads = AtSetting Segment
behind_setting Segment = AtSetting Last
behind_setting Last = AtSetting Resend
behind_setting Resend = AtSetting Patience
behind_setting Patience = AtSieve

-- a pair
abbrev pub with_own : PairCredits → Job → Job
with_own pair job = record job { settings = with_pair job.settings pair }

-- the line of atomics
abbrev pub with_atomics : Job → Job
with_atomics job = record job { atomics = true }

-- the line of collectives
abbrev pub with_collect : CollectArea → Job → Job
with_collect area job = record job { collect = Some area }

-- an action
abbrev pub with_action : Action → HandlerText → HandlerText
with_action action handler = record handler { body = handler.body ++ action ∷ [] }

-- a handler's actions, in place of those that it had
abbrev pub with_body : List Action → HandlerText → HandlerText
with_body body handler = record handler { body = body }

-- a handler
abbrev pub with_handler : HandlerText → Job → Job
with_handler handler job = record job { handlers = job.handlers ++ handler ∷ [] }

-- a step
abbrev pub with_step : ScriptStep → NodeScript → NodeScript
with_step step script = record script { steps = script.steps ++ step ∷ [] }

-- a script's steps, in place of those that it had
abbrev pub with_steps : List ScriptStep → NodeScript → NodeScript
with_steps steps script = record script { steps = steps }

-- a script
abbrev pub with_script : NodeScript → Job → Job
with_script script job = record job { scripts = job.scripts ++ script ∷ [] }

-- the lines of the schedule, none where there is none
abbrev pub lines_of : Option (List TimedEvent) → List TimedEvent
lines_of None = []
lines_of (Some lines) = lines

-- a line of the schedule
abbrev pub with_line : TimedEvent → Job → Job
with_line timed job = record job { schedule = Some (lines_of job.schedule ++ timed ∷ []) }

-- ---- entries and counts

-- whether a pair of nodes, or a handler's index, stood in a line before
abbrev pub has_pair : List PairCredits → PairCredits → Bool
has_pair pairs pair = list_any (λ other. (other.from == pair.from) && (other.to == pair.to)) pairs

abbrev pub has_index : List HandlerText → ℕ → Bool
has_index handlers index = not (index == 0) && list_any (λ other. other == index) (map
    (λ handler. handler.index) handlers)

-- an index that the handlers of batches have, or that of collectives
abbrev pub is_reserved : Scope → (index : ℕ) → Bool
is_reserved scope index =
    (scope.atomics && ((index == batch_handler) || (index == block_handler)))
    || (scope.collect && (index == collective_handler))

-- how many handlers a job may have beside those of batches and that of collectives, where it has these
abbrev pub most_beside : (atomics collect : Bool) → ℕ
most_beside true true = 125
most_beside true false = 126
most_beside false true = 127
most_beside false false = 128

abbrev pub most_handlers : Scope → ℕ
most_handlers scope = most_beside scope.atomics scope.collect

-- whether a thread of a node has a script
abbrev pub has_thread : List NodeScript → (node thread : ℕ) → Bool
has_thread scripts node thread = list_any (λ script. (script.node == node) && (script.thread == thread)) scripts

-- the rounds of a line
abbrev pub rounds_of : ScheduledEvent → ℕ
rounds_of (event.Settle rounds) = rounds
rounds_of other = 0

-- the rounds of all lines
abbrev pub total_rounds : List TimedEvent → ℕ
total_rounds [] = 0
total_rounds (timed ∷ others) = rounds_of timed.event + total_rounds others

-- whether rounds of that many nodes are too many in all
abbrev pub are_too_many : (nodes rounds : ℕ) → Bool
are_too_many nodes rounds = nat_lt 4096 rounds || nat_lt 262144 (rounds * nodes)

-- what these lines have, where the plans of the scripts before them have so many pieces
abbrev pub amounts_of : (before : ℕ) → List TimedEvent → Amounts
amounts_of before lines = record {
  lines = length lines;
  rounds = total_rounds lines;
  pieces = before + schedule_pieces lines;
}

-- the same with one line more
abbrev pub with_event : Amounts → ScheduledEvent → Amounts
with_event so_far event = record {
  lines = so_far.lines + 1;
  rounds = so_far.rounds + rounds_of event;
  pieces = so_far.pieces + event_pieces event;
}

-- whether there is no room for the event behind so much
abbrev pub is_full : (nodes : ℕ) → Amounts → ScheduledEvent → Bool
is_full nodes so_far event =
    nat_le LINES so_far.lines
    || (are_too_many nodes (so_far.rounds + rounds_of event)
    || nat_lt most_pieces (so_far.pieces + event_pieces event))

-- how much there is with the event, where there is room for it
abbrev pub amounts_with : (nodes : ℕ) → Amounts → ScheduledEvent → Option Amounts
amounts_with nodes so_far event = if is_full nodes so_far event then None else Some (with_event so_far event)

-- whether there is no room for the step behind so many, where all plans so far have so many pieces
abbrev pub is_full_script : (pieces steps : ℕ) → ScriptStep → Bool
is_full_script pieces steps step = nat_le 4096 steps || nat_lt most_pieces (pieces + step_pieces step)

-- why a handler with this index may not stand behind these
abbrev pub handler_why : Scope → List HandlerText → (index : ℕ) → Option LineWhy
handler_why scope handlers index =
    if has_index handlers index || is_reserved scope index then Some Entry
    else (if nat_le (most_handlers scope) (length handlers) then Some Count else None)

-- why a pair may not
abbrev pub pair_why : List PairCredits → PairCredits → Option LineWhy
pair_why pairs pair = if has_pair pairs pair then Some Entry else (if nat_le 64
    (length pairs) then Some Count else None)

-- why an action may not
abbrev pub action_why : List Action → Option LineWhy
action_why actions = if nat_le 64 (length actions) then Some Count else None

-- why a line that begins a script, or another part, may not
abbrev pub section_why : List NodeScript → Section → Option LineWhy
section_why scripts (section.Script node thread) = if has_thread scripts node thread then Some Entry else None
section_why scripts other = None

-- why a step may not, where the scripts before have so many pieces
abbrev pub step_why : (before : ℕ) → List ScriptStep → ScriptStep → Option LineWhy
step_why before steps step =
    if is_full_script (before + steps_pieces steps) (length steps) step then Some Count else None

-- why a line of the schedule may not
abbrev pub line_why : (nodes before : ℕ) → List TimedEvent → TimedEvent → Option LineWhy
line_why nodes before lines timed = if is_full nodes (amounts_of before lines) timed.event then Some Count else None

-- ---- a line

-- what is read then, unless there is a reason against it
abbrev pub unless : Option LineWhy → State → Result State LineWhy
unless None state = Ok state
unless (Some why) state = Err why

-- behind the scripts, where a schedule comes or none
abbrev pub behind_scripts : (schedule : Bool) → Job → State
behind_scripts true job = record { place = AtSchedule; job = record job { schedule = Some [] } }
behind_scripts false job = record { place = Over; job = job }

-- a script without steps, and a handler without actions
abbrev pub begun_script : (node thread : ℕ) → NodeScript
begun_script node thread = record { node = node; thread = thread; steps = [] }

abbrev pub new_handler : HandlerHeader → HandlerText
new_handler header = record { index = header.index; role = header.role; locks = header.locks; body = [] }

-- whether a line begins the schedule
abbrev pub is_schedule : Section → Bool
is_schedule section.Schedule = true
is_schedule other = false

-- behind a line that begins a part behind the handlers
abbrev pub behind_section : Job → Section → State
behind_section job (section.Script node thread) =
    record { place = AtSteps (begun_script node thread); job = job }
behind_section job other = behind_scripts (is_schedule other) job

-- the same, unless there is a reason against it
abbrev pub after_section : Job → Section → Result State LineWhy
after_section job section = unless (section_why job.scripts section) (behind_section job section)

-- behind the first line of a handler, or such a line
abbrev pub after_handler_line : Job → HandlerItem → Result State LineWhy
after_handler_line job (Named header) =
    unless (handler_why (scope_of job) job.handlers header.index) (record {
      place = AtBody (new_handler header);
      job = job;
    })
after_handler_line job (Other section) = after_section job section

-- behind the line of collectives, or one of these
abbrev pub after_collect : Job → CollectItem → Result State LineWhy
after_collect job (Named area) = Ok (record { place = AtHandlers; job = with_collect area job })
after_collect job (Other item) = after_handler_line job item

-- behind the line of atomics, or one of these
abbrev pub after_atomics : Job → AtomicsItem → Result State LineWhy
after_atomics job (Named line) = Ok (record { place = AtCollect; job = with_atomics job })
after_atomics job (Other item) = after_collect job item

-- behind a pair, or one of these
abbrev pub after_pair : Job → PairItem → Result State LineWhy
after_pair job (Named pair) = unless (pair_why job.settings.pairs pair)
    (record { place = AtPairs; job = with_own pair job })
after_pair job (Other item) = after_atomics job item

-- behind an action, or the line `end`
abbrev pub after_action : HandlerText → Job → Option Action → Result State LineWhy
after_action handler job None = Ok (record { place = AtHandlers; job = with_handler handler job })
after_action handler job (Some action) =
    unless (action_why handler.body) (record { place = AtBody (with_action action handler); job = job })

-- behind a step, or the line `end`
abbrev pub after_script_line : NodeScript → Job → Option ScriptStep → Result State LineWhy
after_script_line script job None = Ok (record { place = AtScripts; job = with_script script job })
after_script_line script job (Some step) =
    unless (step_why (scripts_pieces job.scripts) script.steps step)
    (record { place = AtSteps (with_step step script); job = job })

-- behind a line of the schedule, or the line `end`
abbrev pub after_event : Job → Option TimedEvent → Result State LineWhy
after_event job None = Ok (record { place = AtDone; job = job })
after_event job (Some timed) =
    unless (line_why job.settings.nodes (scripts_pieces job.scripts) (lines_of job.schedule) timed)
    (record { place = AtSchedule; job = with_line timed job })

-- what a line says adds to what was read
abbrev pub next : (place : Place) → Job → Item place → Result State LineWhy
next (AtSetting setting) job number = Ok (record {
  place = behind_setting setting;
  job = with_number setting number job;
})
next AtSieve job rule = Ok (record { place = AtPairs; job = record job { sieve = rule } })
next AtPairs job item = after_pair job item
next AtAtomics job item = after_atomics job item
next AtCollect job item = after_collect job item
next AtHandlers job item = after_handler_line job item
next (AtBody handler) job item = after_action handler job item
next AtScripts job section = after_section job section
next (AtSteps script) job item = after_script_line script job item
next AtSchedule job item = after_event job item
next AtDone job item = Ok (record { place = Over; job = job })
next Over job item = absurd item

-- what the first line says, where `at` reads its words, and the bytes after the line
abbrev pub item_of_line : {A : Type 0} → (at : List ℕ → Option (A × List ℕ)) → List ℕ → Option (A × List ℕ)
item_of_line at bytes = at bytes >>= λ item. after_newline item.1 >>= λ rest. Some (item.0, rest)

abbrev pub line_at : (place : Place) → Scope → List ℕ → Option (Item place × List ℕ)
line_at place scope bytes = item_of_line (item_at place scope) bytes

-- why it says nothing
abbrev pub why_at : (place : Place) → Scope → List ℕ → LineWhy
why_at place scope bytes = reason (item_form place scope) bytes

-- what was read, with the bytes after it
abbrev pub onward : List ℕ → Result State LineWhy → Result (State × List ℕ) LineWhy
onward rest (Err why) = Err why
onward rest (Ok state) = Ok (state, rest)

abbrev pub after_item : (place : Place) → Job → LineWhy → Option (Item place × List ℕ) → Result (State × List ℕ) LineWhy
after_item place job why None = Err why
after_item place job why (Some item) = onward item.1 (next place job item.0)

-- what was read with the first line, and the bytes after it; or the first reason that applies to that line
unfoldable pub step : State → List ℕ → Result (State × List ℕ) LineWhy
step state bytes =
    after_item state.place state.job (why_at state.place (scope_of state.job) bytes)
    (line_at state.place (scope_of state.job) bytes)

-- ---- line by line

-- the first bad line, counted from 1, and its reason
pub record BadLine : Type 0 where
  pub line : ℕ
  pub why : LineWhy

-- behind the end of a line: the bytes from the next line on, if there is one, before those from the later lines on
abbrev pub also_from : List ℕ → List (List ℕ) → List (List ℕ)
also_from [] later = later
also_from (b ∷ bytes) later = (b ∷ bytes) ∷ later

-- for each line but the first one, the bytes from it on
abbrev pub from_later_lines : List ℕ → List (List ℕ)
from_later_lines [] = []
from_later_lines (b ∷ bytes) =
    if b == 10 then also_from bytes (from_later_lines bytes) else from_later_lines bytes

-- for each line, the bytes from it on
unfoldable pub from_lines : List ℕ → List (List ℕ)
from_lines bytes = also_from bytes (from_later_lines bytes)

-- a job with whose text bytes begin, the number of the line behind it, and the bytes from there on
pub record LeadingJob : Type 0 where
  pub job : Job
  pub line : ℕ
  pub rest : List ℕ

abbrev pub leading_job : Job → (line : ℕ) → (rest : List ℕ) → LeadingJob
leading_job job line rest = record { job = job; line = line; rest = rest }

-- behind the last line of a job it is told, and else something goes on
abbrev pub over_or : {A : Type 0} → Place → (told other : A) → A
over_or Over told other = told
over_or place told other = other

-- a line was read, or not
abbrev pub after_step : (line : ℕ) → (State → Result LeadingJob BadLine) → Result (State × List ℕ) LineWhy
    → Result LeadingJob BadLine
after_step line more (Err why) = Err (record { line = line; why = why })
after_step line more (Ok x) = more x.0

-- the lines from these places on up to the last one of a job
unfoldable pub read_lines : State → (line : ℕ) → List (List ℕ) → Result LeadingJob BadLine
read_lines state line [] =
    over_or state.place (Ok (leading_job state.job line [])) (Err (record { line = line; why = Early }))
read_lines state line (bytes ∷ later) =
    over_or state.place (Ok (leading_job state.job line bytes))
    (after_step line (λ then_state. read_lines then_state (line + 1) later) (step state bytes))

-- the bytes from a line on
unfoldable pub read : State → (line : ℕ) → List ℕ → Result LeadingJob BadLine
read state line bytes = read_lines state line (from_lines bytes)

-- what is made of the leading job, unless a line was bad
abbrev pub of_prefix : {A : Type 0} → (LeadingJob → Result A BadLine) → Result LeadingJob BadLine → Result A BadLine
of_prefix make (Ok prefix) = make prefix
of_prefix make (Err bad) = Err bad

-- the job, where no byte stands behind it
abbrev pub alone : LeadingJob → Result Job BadLine
alone prefix = if length prefix.rest == 0 then Ok prefix.job else Err (record { line = prefix.line; why = After })

-- what a text is read as
unfoldable pub job_of : List ℕ → Result Job BadLine
job_of bytes =
    if nat_lt MAX_JOB_BYTES (length bytes)
    then Err (record { line = 0; why = Size })
    else of_prefix alone (read start 1 bytes)

-- the job at the beginning of so many bytes, and the size of its text, which is not too long
abbrev pub within_size : (count : ℕ) → LeadingJob → Result (Job × ℕ) BadLine
within_size count prefix =
    if nat_lt MAX_JOB_BYTES (count - length prefix.rest) then Err (record { line = 0; why = Size })
    else Ok (prefix.job, count - length prefix.rest)

-- what bytes are read as that go on behind a job's text
unfoldable pub prefix_of : List ℕ → Result (Job × ℕ) BadLine
prefix_of bytes = of_prefix (within_size (length bytes)) (read start 1 bytes)
