-- What a refusal means beside the reader: of the lines before a bad one, and of the bad one. Whether a line is one of
-- words, has a form, repeats what stood before or finds no room is said by the reader's own tests (`is_text`,
-- `item_form`, `has_pair`, `has_thread`, `is_full`).
use Rattle.std.specs.Prelude.{◌≡◌, ◌≢◌, ◌⊎◌, ℕ, zero, suc, ◌+◌, ◌-◌, ◌<◌, ◌≤◌, List, [], ◌∷◌, ◌++◌, length, map, codes}
use Rattle.std.specs.Prelude.{Some, None, is_some, true, false, ◌==◌, ◌||◌, if◌then◌else◌, Result, Ok, Err}
use Rattle.base_text.specs.Reasons.{is_text}
use Rattle.text_job.specs.Scopes.{scope_of}
use Rattle.text_calls.specs.declared.scope.Scope.{Scope}
use Rattle.text_steps.specs.Bodies.{action_text}
use Rattle.text_steps.specs.Scripts.{step_text}
use Rattle.text_job.specs.Places as places
use Rattle.text_job.specs.Places.{Setting, Version, Nodes, Credits, Threads, Segment, Last, Resend, Patience}
use Rattle.text_job.specs.Places.{Place, AtSetting, AtSieve, AtPairs, AtAtomics, AtCollect, AtHandlers}
use Rattle.text_job.specs.Places.{AtBody}
use Rattle.text_job.specs.Places.{AtScripts, AtSteps, HandlerItem, CollectItem, AtomicsItem}
use Rattle.text_job.specs.Places.{AtSchedule, AtDone, Over, NamedOr, Named, Other, Item, item_form, item_text}
use Rattle.text_job.specs.Places.{IsItem}
use Rattle.text_job.specs.JobReading.{job_of, prefix_of, with_handler, with_script, lines_of}
use Rattle.text_job.specs.JobReading.{amounts_of}
use Rattle.text_job.specs.PlanPieces.{scripts_pieces}
use Rattle.text_job.specs.StepPieces.{steps_pieces}
use Rattle.text_job.specs.JobReading.{has_index, is_reserved, most_handlers}
use Rattle.text_job.specs.JobReading.{has_pair, has_thread, is_full, is_full_script}
use Rattle.text_job.specs.declared.sections.HandlerHeader.{HandlerHeader}
use Rattle.text_job.specs.declared.sections.Section.{Section}
use Rattle.text_job.specs.declared.sections.Section.TheVariants as section
use Rattle.text_job.specs.JobText.{Line, spell, setting_line, all_settings, header_line, script_line}
use Rattle.text_job.specs.JobText.{timed_lines}
use Rattle.text_job.specs.JobText.{schedule_lines, lines_with_pairs, lines_with_atomics}
use Rattle.text_job.specs.JobText.{lines_with_handlers, lines_with_scripts}
use Rattle.text_job.specs.JobText.{job_lines, IsJob, job_text}
use Rattle.text_job.specs.declared.fault.JobFault.{JobFault}
use Rattle.text_job.specs.declared.fault.JobFault.TheVariants as faults
use Rattle.base_text.specs.declared.why.LineWhy.{LineWhy}
use Rattle.base_text.specs.declared.why.LineWhy.TheVariants.{Size, Early, Text, Form, Value as BadValue, Entry, Count}
use Rattle.base_text.specs.declared.why.LineWhy.TheVariants.{After}
use Rattle.text_job.specs.declared.job.Job.{Job}
use Rattle.text_steps.specs.declared.steps.TimedEvent.{TimedEvent}
use Rattle.text_job.specs.declared.reading.TheConstants.{MAX_JOB_BYTES}

-- the first so many lines, each with its ending byte, which the last one may lack
abbrev pub first_lines : (count : ℕ) → List ℕ → List ℕ
first_lines count [] = []
first_lines zero (b ∷ bytes) = []
first_lines (suc count) (b ∷ bytes) = b ∷ (if b == 10 then first_lines count bytes else first_lines (suc count) bytes)

-- the bytes behind them
abbrev pub after_lines : (count : ℕ) → List ℕ → List ℕ
after_lines count [] = []
after_lines zero (b ∷ bytes) = b ∷ bytes
after_lines (suc count) (b ∷ bytes) = if b == 10 then after_lines count bytes else after_lines (suc count) bytes

-- some job's text, its size apart, begins with the bytes
pub record IsPrefix (bytes : List ℕ) : Type 0 where
  pub job : Job
  pub more : List ℕ
  pub is : IsJob job
  pub text : job_text job ≡ bytes ++ more

-- no job's text does
abbrev pub IsNoPrefix : List ℕ → Type 0
IsNoPrefix bytes = (job : Job) (more : List ℕ) → IsJob job → job_text job ≡ bytes ++ more → ⊥

-- ---- a line, and what came before it

-- the job that the lines so far are of, with the handler or the script that they end with
abbrev pub completed_job : Place → Job → Job
completed_job (AtBody handler) job = with_handler handler job
completed_job (AtSteps script) job = with_script script job
completed_job place job = job

-- the settings before one
abbrev pub settings_before : Setting → List Setting
settings_before Version = []
settings_before places.Job = Version ∷ []
settings_before Nodes = Version ∷ places.Job ∷ []
settings_before Credits = Version ∷ places.Job ∷ Nodes ∷ []
settings_before Threads = Version ∷ places.Job ∷ Nodes ∷ Credits ∷ []
settings_before Segment = Version ∷ places.Job ∷ Nodes ∷ Credits ∷ Threads ∷ []
settings_before Last = Version ∷ places.Job ∷ Nodes ∷ Credits ∷ Threads ∷ Segment ∷ []
settings_before Resend = Version ∷ places.Job ∷ Nodes ∷ Credits ∷ Threads ∷ Segment ∷ Last ∷ []
settings_before Patience = Version ∷ places.Job ∷ Nodes ∷ Credits ∷ Threads ∷ Segment ∷ Last ∷ Resend ∷ []

-- the lines before a place, of a job of which these were read
abbrev pub so_far : Place → Job → List Line
so_far (AtSetting setting) job = map (setting_line job) (settings_before setting)
so_far AtSieve job = map (setting_line job) all_settings
so_far AtPairs job = lines_with_pairs job
so_far AtAtomics job = lines_with_pairs job
so_far AtCollect job = lines_with_atomics job
so_far AtHandlers job = lines_with_handlers job
so_far (AtBody handler) job = lines_with_handlers job ++ (header_line handler ∷ map action_text handler.body)
so_far AtScripts job = lines_with_scripts job
so_far (AtSteps script) job = lines_with_scripts job ++ (script_line script ∷ map step_text script.steps)
so_far AtSchedule job = lines_with_scripts job ++ (codes "schedule" ∷ timed_lines job.settings (lines_of job.schedule))
so_far AtDone job = lines_with_scripts job ++ schedule_lines job.settings job.schedule
so_far Over job = job_lines job

-- what no line has said yet isn't there
abbrev pub IsUnread : Place → Job → Type 0
IsUnread (AtSetting setting) job =
    (job.settings.pairs ≡ []) × (job.atomics ≡ false) × (job.collect ≡ None) × (job.handlers ≡ []) × (job.scripts ≡ [])
    × (job.schedule ≡ None)
IsUnread AtSieve job =
    (job.settings.pairs ≡ []) × (job.atomics ≡ false) × (job.collect ≡ None) × (job.handlers ≡ []) × (job.scripts ≡ [])
    × (job.schedule ≡ None)
IsUnread AtPairs job =
    (job.atomics ≡ false) × (job.collect ≡ None) × (job.handlers ≡ []) × (job.scripts ≡ []) × (job.schedule ≡ None)
IsUnread AtAtomics job =
    (job.atomics ≡ false) × (job.collect ≡ None) × (job.handlers ≡ []) × (job.scripts ≡ []) × (job.schedule ≡ None)
IsUnread AtCollect job = (job.collect ≡ None) × (job.handlers ≡ []) × (job.scripts ≡ []) × (job.schedule ≡ None)
IsUnread AtHandlers job = (job.scripts ≡ []) × (job.schedule ≡ None)
IsUnread (AtBody handler) job = (job.scripts ≡ []) × (job.schedule ≡ None)
IsUnread AtScripts job = job.schedule ≡ None
IsUnread (AtSteps script) job = job.schedule ≡ None
IsUnread AtSchedule job = (lines : List TimedEvent) × (job.schedule ≡ Some lines)
IsUnread AtDone job = (lines : List TimedEvent) × (job.schedule ≡ Some lines)
IsUnread Over job = Unit {0}

-- lines lead there: behind the pairs, before the line of collectives or what may stand instead, the line of atomics
-- came; before a handler or another part, the line of collectives came, or a handler; before a script or another part a
-- script came
abbrev pub IsReached : Place → Job → Type 0
IsReached AtAtomics job = ⊥
IsReached AtCollect job = job.atomics ≡ true
IsReached AtHandlers job = (is_some job.collect ≡ true) ⊎ (job.handlers ≢ [])
IsReached AtScripts job = job.scripts ≢ []
IsReached place job = Unit {0}

-- what came before a line: the place behind the lines before it, and the job that they say
pub record Before (bytes : List ℕ) (line : ℕ) : Type 0 where
  pub place : Place
  pub job : Job
  pub is : IsJob (completed_job place job)
  pub unread : IsUnread place job
  pub reached : IsReached place job
  pub count : line ≡ length (so_far place job) + 1
  pub lines : first_lines (line - 1) bytes ≡ spell (so_far place job)

-- the first line says this
abbrev pub Says : (place : Place) → Scope → List ℕ → Item place → Type 0
Says place scope rest item =
    IsItem place scope item × ((more : List ℕ) × (rest ≡ item_text place scope item ++ 10 ∷ more))

-- the thread has a script, or the index or the pair stood in a line before, or the index is one of batches or that of
-- collectives
abbrev pub IsTakenThread : Job → Section → Type 0
IsTakenThread job (section.Script node thread) = has_thread job.scripts node thread ≡ true
IsTakenThread job other = ⊥

abbrev pub IsTakenIndex : Job → HandlerItem → Type 0
IsTakenIndex job (Named header) =
    (has_index job.handlers header.index || is_reserved (scope_of job) header.index) ≡ true
IsTakenIndex job (Other section) = IsTakenThread job section

abbrev pub IsTakenBehind : Job → CollectItem → Type 0
IsTakenBehind job (Named area) = ⊥
IsTakenBehind job (Other item) = IsTakenIndex job item

abbrev pub IsTakenLater : Job → AtomicsItem → Type 0
IsTakenLater job (Named line) = ⊥
IsTakenLater job (Other item) = IsTakenBehind job item

abbrev pub IsTaken : (place : Place) → Job → Item place → Type 0
IsTaken AtPairs job (Named pair) = has_pair job.settings.pairs pair ≡ true
IsTaken AtPairs job (Other item) = IsTakenLater job item
IsTaken AtAtomics job item = IsTakenLater job item
IsTaken AtCollect job item = IsTakenBehind job item
IsTaken AtHandlers job item = IsTakenIndex job item
IsTaken AtScripts job section = IsTakenThread job section
IsTaken place job item = ⊥

-- there is no room for one more
abbrev pub IsFullOfHandlers : Job → HandlerItem → Type 0
IsFullOfHandlers job (Named header) = most_handlers (scope_of job) ≤ length job.handlers
IsFullOfHandlers job (Other section) = ⊥

abbrev pub IsFullBehind : Job → CollectItem → Type 0
IsFullBehind job (Named area) = ⊥
IsFullBehind job (Other item) = IsFullOfHandlers job item

abbrev pub IsFullLater : Job → AtomicsItem → Type 0
IsFullLater job (Named line) = ⊥
IsFullLater job (Other item) = IsFullBehind job item

abbrev pub IsFull : (place : Place) → Job → Item place → Type 0
IsFull AtPairs job (Named pair) = 64 ≤ length job.settings.pairs
IsFull AtPairs job (Other item) = IsFullLater job item
IsFull AtAtomics job item = IsFullLater job item
IsFull AtCollect job item = IsFullBehind job item
IsFull AtHandlers job item = IsFullOfHandlers job item
IsFull (AtBody handler) job (Some action) = 64 ≤ length handler.body
IsFull (AtSteps script) job (Some step) =
    is_full_script (scripts_pieces job.scripts + steps_pieces script.steps) (length script.steps) step ≡ true
IsFull AtSchedule job (Some timed) =
    is_full job.settings.nodes (amounts_of (scripts_pieces job.scripts) (lines_of job.schedule)) timed.event ≡ true
IsFull place job item = ⊥

-- the first line says nothing that can be said there
abbrev pub SaysNothing : (place : Place) → Job → List ℕ → Type 0
SaysNothing place job rest = (item : Item place) → Says place (scope_of job) rest item → ⊥

-- the line isn't one of words
pub record HasNoText (place : Place) (job : Job) (rest : List ℕ) : Type 0 where
  pub to_come : place ≢ Over
  pub some : rest ≢ []
  pub no_text : is_text rest ≡ false
  pub says_nothing : SaysNothing place job rest

-- it is one of words, which have no form that may stand there
pub record HasNoForm (place : Place) (job : Job) (rest : List ℕ) : Type 0 where
  pub to_come : place ≢ Over
  pub text : is_text rest ≡ true
  pub no_form : item_form place (scope_of job) rest ≡ false
  pub says_nothing : SaysNothing place job rest

-- its words have such a form, and one of them isn't in its set or range
pub record HasBadValue (place : Place) (job : Job) (rest : List ℕ) : Type 0 where
  pub to_come : place ≢ Over
  pub text : is_text rest ≡ true
  pub form : item_form place (scope_of job) rest ≡ true
  pub says_nothing : SaysNothing place job rest

-- it says what stood in a line before
pub record IsRepeated (place : Place) (job : Job) (rest : List ℕ) : Type 0 where
  pub item : Item place
  pub says : Says place (scope_of job) rest item
  pub taken : IsTaken place job item

-- it says something new, for which there is no room
pub record IsTooMany (place : Place) (job : Job) (rest : List ℕ) : Type 0 where
  pub item : Item place
  pub says : Says place (scope_of job) rest item
  pub is_new : IsTaken place job item → ⊥
  pub full : IsFull place job item

-- what is wrong with the bytes from a line on, where this was read before them
abbrev pub IsAtFault : LineWhy → Place → Job → List ℕ → Type 0
IsAtFault Early place job rest = (place ≢ Over) × (rest ≡ [])
IsAtFault Text place job rest = HasNoText place job rest
IsAtFault Form place job rest = HasNoForm place job rest
IsAtFault BadValue place job rest = HasBadValue place job rest
IsAtFault Entry place job rest = IsRepeated place job rest
IsAtFault Count place job rest = IsTooMany place job rest
IsAtFault After place job rest = (place ≡ Over) × (rest ≢ [])
IsAtFault Size place job rest = ⊥

-- no job's text begins with the lines up to this one; where the next line is missing, or is none of words, more bytes
-- could mend it
abbrev pub NoneGoesOn : LineWhy → List ℕ → Type 0
NoneGoesOn Early lines = Unit {0}
NoneGoesOn Text lines = Unit {0}
NoneGoesOn why lines = IsNoPrefix lines

-- the lines before this one begin some job's text, those with it begin none, and by what they say this is wrong with it
pub record IsWrong (bytes : List ℕ) (line : ℕ) (why : LineWhy) : Type 0 where
  pub before : Before bytes line
  pub fault : IsAtFault why before.place before.job (after_lines (line - 1) bytes)
  pub prefix : IsPrefix (first_lines (line - 1) bytes)
  pub none : NoneGoesOn why (first_lines line bytes)

-- what a refusal at a line means
abbrev pub Means : List ℕ → (line : ℕ) → LineWhy → Type 0
Means bytes line Size = (line ≡ 0) × (MAX_JOB_BYTES < length bytes)
Means bytes line why = IsWrong bytes line why × (length bytes ≤ MAX_JOB_BYTES)

-- a refusal means that, unless memory ran out
abbrev pub IsMeant : List ℕ → JobFault → Type 0
IsMeant bytes faults.NoMemory = Unit {0}
IsMeant bytes (faults.Bad line why) = Means bytes line why

-- memory ran out
abbrev pub IsNoMemory : JobFault → Type 0
IsNoMemory faults.NoMemory = Unit {0}
IsNoMemory (faults.Bad line why) = ⊥

-- this line and this reason are told, unless memory ran out
abbrev pub IsTold : {A : Type 0} → Result A JobFault → (line : ℕ) → LineWhy → Type 0
IsTold (Ok read) line why = ⊥
IsTold (Err fault) line why = IsNoMemory fault ⊎ (fault ≡ faults.Bad line why)

-- the fault names the first bad line of the bytes, and the first reason that applies to it
abbrev pub IsBadLine : List ℕ → JobFault → Type 0
IsBadLine bytes faults.NoMemory = ⊥
IsBadLine bytes (faults.Bad line why) = job_of bytes ≡ Err (record { line = line; why = why })

-- ---- bytes that begin with a job's text

-- the bytes begin with a job's text that is too long
pub record IsTooLong (bytes : List ℕ) : Type 0 where
  pub job : Job
  pub is : IsJob job
  pub rest : List ℕ
  pub text : bytes ≡ job_text job ++ rest
  pub long : MAX_JOB_BYTES < length (job_text job)

-- what a refusal means where any bytes may follow a job's text
abbrev pub PrefixMeans : List ℕ → (line : ℕ) → LineWhy → Type 0
PrefixMeans bytes line Size = (line ≡ 0) × IsTooLong bytes
PrefixMeans bytes line After = ⊥
PrefixMeans bytes line why = IsWrong bytes line why

-- a refusal means that, unless memory ran out
abbrev pub IsPrefixMeant : List ℕ → JobFault → Type 0
IsPrefixMeant bytes faults.NoMemory = Unit {0}
IsPrefixMeant bytes (faults.Bad line why) = PrefixMeans bytes line why

-- the fault names the first bad line of the bytes up to a job's last line, and the first reason that applies to it
abbrev pub IsBadPrefix : List ℕ → JobFault → Type 0
IsBadPrefix bytes faults.NoMemory = ⊥
IsBadPrefix bytes (faults.Bad line why) = prefix_of bytes ≡ Err (record { line = line; why = why })
