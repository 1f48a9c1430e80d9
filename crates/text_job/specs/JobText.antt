-- The one text of a job.
use Rattle.std.specs.Prelude.{◌≡◌, ◌≢◌, ℕ, ◌<◌, ◌≤◌, ◌+◌, ◌*◌, ◌^◌, ◌⊎◌, ◌++◌, List, [], ◌∷◌, length, map, take, codes}
use Rattle.std.specs.Prelude.{Option, Some, None, slice_get, Bool, true, false, if◌then◌else◌}
use Rattle.std.specs.List.{AllByRecursion, flat_map}
use Rattle.wire_message.specs.Parameters.{Parameters, AreInRange, credits_in_all}
use Rattle.wire_message.specs.declared.pairs.PairCredits.{PairCredits}
use Rattle.text_calls.specs.Forms.{none_text, entry_text}
use Rattle.text_steps.specs.Bodies.{action_text, IsAction}
use Rattle.text_steps.specs.Events.{timed_text, IsTimed}
use Rattle.text_steps.specs.Scripts.{step_text, IsStep}
use Rattle.text_job.specs.Places.{Setting, Version, Nodes, Credits, Threads, Segment, Last, Resend, Patience}
use Rattle.text_job.specs.Places as places
use Rattle.text_job.specs.Places.{setting_entry, sieve_entry, pair_text, atomics_text, collect_text}
use Rattle.text_job.specs.Places.{header_text}
use Rattle.text_job.specs.Places.{section_text}
use Rattle.text_job.specs.CollectAreas.{IsCollectOrNone}
use Rattle.text_job.specs.Locks.{are_listed}
use Rattle.text_job.specs.Scopes.{scope_of}
use Rattle.text_calls.specs.declared.scope.Scope.{Scope}
use Rattle.text_job.specs.JobReading.{has_thread, total_rounds, is_reserved, lines_of, most_handlers}
use Rattle.text_job.specs.PlanPieces.{most_pieces, schedule_pieces, scripts_pieces}
use Rattle.text_job.specs.declared.job.CollectArea.{CollectArea}
use Rattle.text_job.specs.declared.job.HandlerText.{HandlerText}
use Rattle.text_job.specs.declared.job.Job.{Job}
use Rattle.text_job.specs.declared.job.NodeScript.{NodeScript}
use Rattle.text_job.specs.declared.job.SieveRule.{SieveRule}
use Rattle.text_steps.specs.declared.steps.TimedEvent.{TimedEvent}
use Rattle.text_job.specs.declared.sections.Section.TheVariants as section
use Rattle.text_job.specs.declared.head.TheConstants.{MAX_CREDITS, MAX_SEGMENT}
use Rattle.text_job.specs.declared.schedules.TheConstants.{LINES}
use Rattle.text_job.specs.declared.reading.TheConstants.{MAX_JOB_BYTES}

-- ---- lines

-- the bytes of a line, without its ending byte
abbrev pub Line : Type 0
Line = List ℕ

-- lines, each with its ending byte
abbrev pub spell : List Line → List ℕ
spell lines = flat_map (λ line. line ++ 10 ∷ []) lines

-- the number of a setting
abbrev pub setting_number : Setting → Job → ℕ
setting_number Version job = job.settings.version
setting_number places.Job job = job.settings.job
setting_number Nodes job = job.settings.nodes
setting_number Credits job = job.settings.credits
setting_number Threads job = job.settings.threads
setting_number Segment job = job.settings.segment
setting_number Last job = job.settings.last
setting_number Resend job = job.settings.resend
setting_number Patience job = job.patience

abbrev pub setting_line : Job → Setting → Line
setting_line job setting = entry_text none_text (setting_entry setting (setting_number setting job))

abbrev pub all_settings : List Setting
all_settings = Version ∷ places.Job ∷ Nodes ∷ Credits ∷ Threads ∷ Segment ∷ Last ∷ Resend ∷ Patience ∷ []

abbrev pub sieve_line : SieveRule → Line
sieve_line rule = entry_text none_text (sieve_entry rule)

abbrev pub pair_line : PairCredits → Line
pair_line pair = pair_text pair

-- the line of atomics, where the nodes serve batches
abbrev pub atomics_lines : Bool → List Line
atomics_lines atomics = if atomics then atomics_text tt ∷ [] else []

-- the line of collectives, where the nodes run them
abbrev pub collect_lines : Option CollectArea → List Line
collect_lines None = []
collect_lines (Some area) = collect_text area ∷ []

abbrev pub header_line : HandlerText → Line
header_line handler =
    header_text (record { index = handler.index; role = handler.role; locks = handler.locks })

-- the lines of a handler
abbrev pub handler_lines : HandlerText → List Line
handler_lines handler = header_line handler ∷ (map action_text handler.body ++ codes "end" ∷ [])

abbrev pub script_line : NodeScript → Line
script_line script = section_text (section.Script script.node script.thread)

-- the lines of a script
abbrev pub script_lines : NodeScript → List Line
script_lines script = script_line script ∷ (map step_text script.steps ++ codes "end" ∷ [])

-- the lines of a schedule
abbrev pub timed_lines : Parameters → List TimedEvent → List Line
timed_lines settings events = map (timed_text settings.nodes settings.threads) events

-- the lines of the schedule, where there is one
abbrev pub schedule_lines : Parameters → Option (List TimedEvent) → List Line
schedule_lines settings None = []
schedule_lines settings (Some events) = codes "schedule" ∷ (timed_lines settings events ++ codes "end" ∷ [])

-- the lines before the pairs, before that of atomics, before that of collectives, before the handlers, before the
-- scripts, and before the schedule
abbrev pub head_lines : Job → List Line
head_lines job = map (setting_line job) all_settings ++ sieve_line job.sieve ∷ []

abbrev pub lines_with_pairs : Job → List Line
lines_with_pairs job = head_lines job ++ map pair_line job.settings.pairs

abbrev pub lines_with_atomics : Job → List Line
lines_with_atomics job = lines_with_pairs job ++ atomics_lines job.atomics

abbrev pub lines_with_collect : Job → List Line
lines_with_collect job = lines_with_atomics job ++ collect_lines job.collect

abbrev pub lines_with_handlers : Job → List Line
lines_with_handlers job = lines_with_collect job ++ flat_map handler_lines job.handlers

abbrev pub lines_with_scripts : Job → List Line
lines_with_scripts job = lines_with_handlers job ++ flat_map script_lines job.scripts

-- the lines of a job
abbrev pub job_lines : Job → List Line
job_lines job = lines_with_scripts job ++ (schedule_lines job.settings job.schedule ++ codes "done" ∷ [])

-- ---- ranges

-- a handler whose index is 0 or a client's, whose locks rise strictly up to 63, with at most 64 actions
pub record IsHandler (handler : HandlerText) : Type 0 where
  pub index : (handler.index ≡ 0) ⊎ ((128 ≤ handler.index) × (handler.index < 256))
  pub locks : are_listed 0 handler.locks ≡ true
  pub count : length handler.body ≤ 64
  pub actions : AllByRecursion IsAction handler.body

-- no index but 0 stands twice
abbrev pub AreApart : List HandlerText → Type 0
AreApart handlers =
    (k l : ℕ) (one other : HandlerText) → slice_get handlers k ≡ Some one → slice_get handlers l ≡ Some other
    → one.index ≢ 0 → one.index ≡ other.index → k ≡ l

-- none has an index that the handlers of batches have, or that of collectives
abbrev pub AreUnreserved : Scope → List HandlerText → Type 0
AreUnreserved scope handlers = AllByRecursion (λ handler. is_reserved scope handler.index ≡ false) handlers

-- a script of a thread that is there, with at most 4,096 steps
pub record IsNodeScript (scope : Scope) (script : NodeScript) : Type 0 where
  pub node : script.node < scope.settings.nodes
  pub thread : script.thread < scope.settings.threads
  pub count : length script.steps ≤ 4096
  pub steps : AllByRecursion (IsStep scope) script.steps

-- no two scripts are of the same thread: behind each one there is none of its thread
abbrev pub AreThreads : List NodeScript → Type 0
AreThreads [] = Unit {0}
AreThreads (script ∷ scripts) = (has_thread scripts script.node script.thread ≡ false) × AreThreads scripts

-- a schedule: at most 65,536 lines, and at most 4,096 rounds in all, which times the nodes are at most 262,144
pub record IsSchedule (scope : Scope) (events : List TimedEvent) : Type 0 where
  pub count : length events ≤ LINES
  pub rounds : total_rounds events ≤ 4096
  pub rounds_of_nodes : total_rounds events * scope.settings.nodes ≤ 262144
  pub events_are : AllByRecursion (IsTimed scope) events

-- a schedule, where there is one
abbrev pub IsScheduleOrNone : Scope → Option (List TimedEvent) → Type 0
IsScheduleOrNone scope None = Unit {0}
IsScheduleOrNone scope (Some events) = IsSchedule scope events

-- the three numbers of the sieve are in range
pub record IsSieve (rule : SieveRule) : Type 0 where
  pub lose : rule.lose ≤ 65535
  pub repeat : rule.repeat ≤ 65535
  pub swap : rule.swap ≤ 65535

-- the settings with the first so many pairs
abbrev pub with_first_pairs : ℕ → Parameters → Parameters
with_first_pairs count settings = record settings { pairs = take count settings.pairs }

-- the pieces of all plans of a job
abbrev pub all_pieces : Job → ℕ
all_pieces job = scripts_pieces job.scripts + schedule_pieces (lines_of job.schedule)

-- a job whose words are in range; behind the line of each pair the sum of all credits is
pub record IsJob (job : Job) : Type 0 where
  pub settings : AreInRange job.settings
  pub segment : job.settings.segment ≤ MAX_SEGMENT
  pub segments : job.settings.nodes * job.settings.segment ≤ 268435456
  pub job_fits : job.settings.job < 2 ^ 64
  pub last_fits : job.settings.last < 2 ^ 64
  pub sums : (count : ℕ) → credits_in_all (with_first_pairs count job.settings) ≤ MAX_CREDITS
  pub some_patience : 1 ≤ job.patience
  pub patience : job.patience ≤ 1000000
  pub sieve : IsSieve job.sieve
  pub atomics : job.atomics ≡ true → job.settings.version ≡ 2
  pub collect : IsCollectOrNone job.settings job.collect
  pub few_handlers : length job.handlers ≤ most_handlers (scope_of job)
  pub handlers : AllByRecursion IsHandler job.handlers
  pub apart : AreApart job.handlers
  pub unreserved : AreUnreserved (scope_of job) job.handlers
  pub scripts : AllByRecursion (IsNodeScript (scope_of job)) job.scripts
  pub threads : AreThreads job.scripts
  pub schedule : IsScheduleOrNone (scope_of job) job.schedule
  pub pieces : all_pieces job ≤ most_pieces

-- the text of a job
abbrev pub job_text : Job → List ℕ
job_text job = spell (job_lines job)

-- these bytes are the text of the job
pub record JobText (job : Job) (bytes : List ℕ) : Type 0 where
  pub is_job : IsJob job
  pub text : bytes ≡ job_text job
  pub within : length bytes ≤ MAX_JOB_BYTES

-- the bytes begin with the text of the job, which has this size
pub record BeginsWith (job : Job) (size : ℕ) (bytes : List ℕ) : Type 0 where
  pub is_job : IsJob job
  pub rest : List ℕ
  pub text : bytes ≡ job_text job ++ rest
  pub long : size ≡ length (job_text job)
  pub within : size ≤ MAX_JOB_BYTES
