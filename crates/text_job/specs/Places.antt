-- What may stand at each place of a job's text.
use Rattle.std.specs.Prelude.{ℕ, ◌-◌, ◌*◌, ◌%◌, ◌^◌, List, [], ◌∷◌, Option, Some, None, Bool, true, false}
use Rattle.std.specs.Prelude.{not, ◌&&◌, ◌||◌, nat_le, nat_lt, ◌==◌, if◌then◌else◌, codes}
use Rattle.std.specs.Str.{bytes_eq}
use Rattle.wire_message.specs.Parameters.{Parameters, credits_in_all}
use Rattle.wire_message.specs.declared.pairs.PairCredits.{PairCredits}
use Rattle.base_text.specs.Lines.{Word, ◌>>=◌, first_word, behind_word}
use Rattle.text_calls.specs.Forms.{Number, Role, Shape, End, ◌▸◌, Any, Maker, Row, Entry}
use Rattle.text_calls.specs.Forms.{table_at, entry_text, IsOf, none_at, none_text, none_fits, U64, U16, U8}
use Rattle.text_job.specs.CollectAreas.{area_of, is_area}
use Rattle.text_job.specs.Locks.{are_listed}
use Rattle.text_calls.specs.FormTests.{table_form}
use Rattle.base_text.specs.Reasons.{words_left}
use Rattle.text_steps.specs.Bodies.{action_at, action_form, action_text, IsAction}
use Rattle.text_steps.specs.Events.{timed_at, timed_form, timed_text, IsTimed}
use Rattle.text_steps.specs.Scripts.{step_at, step_form, step_text, IsStep}
use Rattle.text_calls.specs.Versions.{is_second}
use Rattle.text_calls.specs.declared.scope.Scope.{Scope}
use Rattle.text_steps.specs.declared.steps.Action.{Action}
pub use Rattle.text_job.specs.declared.forms.Setting.{Setting}
pub use Rattle.text_job.specs.declared.forms.Setting.TheVariants.{Version, Job, Nodes, Credits, Threads, Segment}
pub use Rattle.text_job.specs.declared.forms.Setting.TheVariants.{Last, Resend, Patience}
use Rattle.text_job.specs.declared.forms.JobForm.{JobForm}
use Rattle.text_job.specs.declared.forms.JobForm.TheVariants as forms
use Rattle.text_job.specs.declared.job.CollectArea.{CollectArea}
use Rattle.text_job.specs.declared.job.HandlerText.{HandlerText}
use Rattle.text_job.specs.declared.job.NodeScript.{NodeScript}
use Rattle.text_steps.specs.declared.steps.ScriptStep.{ScriptStep}
use Rattle.text_job.specs.declared.job.SieveRule.{SieveRule}
use Rattle.text_steps.specs.declared.steps.TimedEvent.{TimedEvent}
use Rattle.text_job.specs.declared.sections.HandlerHeader.{HandlerHeader}
use Rattle.text_job.specs.declared.sections.Section.{Section}
use Rattle.text_job.specs.declared.sections.Section.TheVariants as section
use Rattle.text_job.specs.declared.head.TheConstants.{MAX_CREDITS, MAX_SEGMENT}

-- ---- places

-- what line comes next
pub data Place : Type 0 where
  AtSetting : Setting → Place
  AtSieve : Place
  AtPairs : Place  -- a pair, or what may stand instead
  AtAtomics : Place  -- the line of atomics, or what may stand instead
  AtCollect : Place  -- the line of collectives, or what may stand instead
  AtHandlers : Place  -- a handler, or what may stand instead
  AtBody : HandlerText → Place  -- an action of this handler, whose former actions it has, or its end
  AtScripts : Place  -- a script, the schedule, or the end of the text
  AtSteps : NodeScript → Place  -- a step of this script, whose former steps it has, or its end
  AtSchedule : Place  -- a line of the schedule, or its end
  AtDone : Place
  Over : Place  -- none

-- a line that begins with a name, or another one
pub data NamedOr (A B : Type 0) : Type 0 where
  Named : A → NamedOr A B
  Other : B → NamedOr A B

-- what begins a handler or another part; that or the line of collectives; that or the line of atomics; that or a pair
abbrev pub HandlerItem : Type 0
HandlerItem = NamedOr HandlerHeader Section

abbrev pub CollectItem : Type 0
CollectItem = NamedOr CollectArea HandlerItem

abbrev pub AtomicsItem : Type 0
AtomicsItem = NamedOr (Unit {0}) CollectItem

abbrev pub PairItem : Type 0
PairItem = NamedOr PairCredits AtomicsItem

-- what a line there says: one of several where it may be, and none for the line `end`
abbrev pub Item : Place → Type 0
Item (AtSetting setting) = ℕ
Item AtSieve = SieveRule
Item AtPairs = PairItem
Item AtAtomics = AtomicsItem
Item AtCollect = CollectItem
Item AtHandlers = HandlerItem
Item (AtBody handler) = Option Action
Item AtScripts = Section
Item (AtSteps script) = Option ScriptStep
Item AtSchedule = Option TimedEvent
Item AtDone = Unit {0}
Item Over = ⊥

-- ---- lines of a name and a number

abbrev pub setting_name : Setting → Word
setting_name Version = codes "gasnet"
setting_name Job = codes "job"
setting_name Nodes = codes "nodes"
setting_name Credits = codes "credits"
setting_name Threads = codes "threads"
setting_name Segment = codes "segment"
setting_name Last = codes "last"
setting_name Resend = codes "resend"
setting_name Patience = codes "patience"

-- the number is from `least` to `greatest`
abbrev pub least : Setting → ℕ
least Job = 0
least Segment = 4096
least setting = 1

abbrev pub greatest : Setting → ℕ
greatest Version = 2
greatest Job = 2 ^ 64 - 1
greatest Nodes = 256
greatest Credits = 32
greatest Threads = 16
greatest Segment = MAX_SEGMENT
greatest Last = 2 ^ 64 - 1
greatest Resend = 1000000
greatest Patience = 1000000

-- and fits the settings before it
abbrev pub setting_fits : Setting → Parameters → ℕ → Bool
setting_fits Nodes settings number = nat_le number 64 || (settings.version == 2)
setting_fits Credits settings number = nat_le (settings.nodes * (settings.nodes - 1) * number) MAX_CREDITS
setting_fits Segment settings number = (number % 4096 == 0) && nat_le (settings.nodes * number) 268435456
setting_fits setting settings number = true

abbrev pub number_row : Word → (low high : ℕ) → Row ⊥ ℕ
number_row name low high = record { name = name; shape = Number low high ▸ End; make = λ number. number }

abbrev pub setting_row : Setting → Row ⊥ ℕ
setting_row setting = number_row (setting_name setting) (least setting) (greatest setting)

abbrev pub setting_entry : Setting → ℕ → Entry ⊥ ℕ
setting_entry setting number = record { row = setting_row setting; values = (number, tt) }

-- ---- the sieve

abbrev pub sieve_row : Row ⊥ SieveRule
sieve_row = record {
  name = codes "sieve";
  shape = Number 0 65535 ▸ Number 0 65535 ▸ Number 0 65535 ▸ End;
  make = λ lose repeat swap. record { lose = lose; repeat = repeat; swap = swap };
}

abbrev pub sieve_entry : SieveRule → Entry ⊥ SieveRule
sieve_entry rule = record { row = sieve_row; values = (rule.lose, (rule.repeat, (rule.swap, tt))) }

-- ---- pairs

abbrev pub pair_row : Row ⊥ PairCredits
pair_row = record {
  name = codes "pair";
  shape = Number 0 255 ▸ Number 0 255 ▸ Number 1 32 ▸ End;
  make = λ from to credits. record { from = from; to = to; credits = credits };
}

abbrev pub pair_entry : PairCredits → Entry ⊥ PairCredits
pair_entry pair = record { row = pair_row; values = (pair.from, (pair.to, (pair.credits, tt))) }

-- the settings where this pair has such credits, in place of those that it had
abbrev pub in_place : Parameters → PairCredits → Parameters
in_place settings pair = record settings { pairs = pair ∷ settings.pairs }

-- two nodes that are there and differ, and credits with which all pairs have at most 65,536
abbrev pub pair_fits : Parameters → PairCredits → Bool
pair_fits settings pair =
    nat_lt pair.from settings.nodes && (nat_lt pair.to settings.nodes && (not (pair.from == pair.to)
    && nat_le (credits_in_all (in_place settings pair)) MAX_CREDITS))

-- what reads a pair
unfoldable pub pair_at : Parameters → List ℕ → Option (PairCredits × List ℕ)
pair_at settings bytes = table_at none_at (pair_row ∷ []) (pair_fits settings) bytes

-- ---- atomics

abbrev pub atomics_row : Row ⊥ (Unit {0})
atomics_row = record { name = codes "atomics"; shape = End; make = tt }

abbrev pub atomics_entry : Unit {0} → Entry ⊥ (Unit {0})
atomics_entry line = record { row = atomics_row; values = tt }

-- nodes serve batches of remote atomics where the datagrams have the second version
abbrev pub atomics_fit : Scope → Unit {0} → Bool
atomics_fit scope line = is_second scope

-- what reads the line of atomics
unfoldable pub atomics_at : Scope → List ℕ → Option (Unit {0} × List ℕ)
atomics_at scope bytes = table_at none_at (atomics_row ∷ []) (atomics_fit scope) bytes

-- ---- collectives

-- where the area begins, and the room of a part
abbrev pub collect_row : Row ⊥ CollectArea
collect_row = record {
  name = codes "collect";
  shape = U64 ▸ U64 ▸ End;
  make = λ base room. record { base = base; room = room };
}

abbrev pub collect_entry : CollectArea → Entry ⊥ CollectArea
collect_entry area = record { row = collect_row; values = (area.base, (area.room, tt)) }

-- nodes run collectives where the datagrams have the second version, and the segments have the area
abbrev pub collect_fits : Scope → CollectArea → Bool
collect_fits scope area = is_second scope && is_area scope.settings.segment (area_of scope.settings.nodes area)

-- what reads the line of collectives
unfoldable pub collect_at : Scope → List ℕ → Option (CollectArea × List ℕ)
collect_at scope bytes = table_at none_at (collect_row ∷ []) (collect_fits scope) bytes

-- ---- handlers

abbrev pub header_row : Row ⊥ HandlerHeader
header_row = record {
  name = codes "handler";
  shape = U8 ▸ Role ▸ Any U8;
  make = λ index role locks. record { index = index; role = role; locks = locks };
}

abbrev pub header_entry : HandlerHeader → Entry ⊥ HandlerHeader
header_entry header = record { row = header_row; values = (header.index, (header.role, header.locks)) }

-- the index of a handler is 0, or one of a client's; its locks rise strictly, and none is above 63
abbrev pub header_fits : HandlerHeader → Bool
header_fits header = ((header.index == 0) || nat_le 128 header.index) && are_listed 0 header.locks

-- what reads the first line of a handler
unfoldable pub header_at : List ℕ → Option (HandlerHeader × List ℕ)
header_at bytes = table_at none_at (header_row ∷ []) header_fits bytes

-- ---- lines that begin another part

abbrev pub form : Word → (shape : Shape) → Maker ⊥ shape Section → Row ⊥ Section
form name shape make = record { name = name; shape = shape; make = make }

abbrev pub script_row : Row ⊥ Section
script_row = form (codes "script") (U16 ▸ U16 ▸ End) section.Script

abbrev pub schedule_row : Row ⊥ Section
schedule_row = form (codes "schedule") End section.Schedule

abbrev pub done_row : Row ⊥ Section
done_row = form (codes "done") End section.Done

abbrev pub sections : List (Row ⊥ Section)
sections = script_row ∷ schedule_row ∷ done_row ∷ []

-- how such a line is written
abbrev pub section_entry : Section → Entry ⊥ Section
section_entry (section.Script node thread) = record { row = script_row; values = (node, (thread, tt)) }
section_entry section.Schedule = record { row = schedule_row; values = tt }
section_entry section.Done = record { row = done_row; values = tt }

-- the node and the thread of a script are there
abbrev pub section_fits : (nodes threads : ℕ) → Section → Bool
section_fits nodes threads (section.Script node thread) = nat_lt node nodes && nat_lt thread threads
section_fits nodes threads other = true

-- what reads such a line
unfoldable pub section_at : (nodes threads : ℕ) → List ℕ → Option (Section × List ℕ)
section_at nodes threads bytes = table_at none_at sections (section_fits nodes threads) bytes

unfoldable pub section_form : List ℕ → Bool
section_form bytes = table_form (λ b. false) sections bytes

-- ---- the forms in code

-- the name of a form
abbrev pub form_name : JobForm → Word
form_name forms.Sieve = sieve_row.name
form_name forms.Pair = pair_row.name
form_name forms.Atomics = atomics_row.name
form_name forms.Collect = collect_row.name
form_name forms.Handler = header_row.name
form_name forms.Script = script_row.name
form_name forms.Schedule = schedule_row.name
form_name forms.End = codes "end"
form_name forms.Done = done_row.name

-- whether so many words may follow it
abbrev pub form_fits : JobForm → (words : ℕ) → Bool
form_fits forms.Sieve words = words == 3
form_fits forms.Pair words = words == 3
form_fits forms.Collect words = words == 2
form_fits forms.Handler words = nat_le 2 words
form_fits forms.Script words = words == 2
form_fits other words = words == 0

-- ---- lines of two kinds, told apart by their first word

-- what reads such a line
abbrev pub named_or : {A B : Type 0} → Word → (List ℕ → Option (A × List ℕ)) → (List ℕ → Option (B × List ℕ))
    → List ℕ → Option (NamedOr A B × List ℕ)
named_or name at other bytes =
    if bytes_eq (first_word bytes) name then (at bytes >>= λ x. Some (Named x.0, x.1))
    else (other bytes >>= λ x. Some (Other x.0, x.1))

-- whether it has a form, where so many words stand behind the name
abbrev pub named_or_form : Word → (count : ℕ → Bool) → (List ℕ → Bool) → List ℕ → Bool
named_or_form name count other bytes =
    if bytes_eq (first_word bytes) name then count (words_left (behind_word bytes)) else other bytes

-- its text
abbrev pub named_or_text : {A B : Type 0} → (A → List ℕ) → (B → List ℕ) → NamedOr A B → List ℕ
named_or_text text other (Named item) = text item
named_or_text text other (Other item) = other item

-- what can be said so
abbrev pub named_or_fits : {A B : Type 0} → (A → Type 0) → (B → Type 0) → NamedOr A B → Type 0
named_or_fits fits other (Named item) = fits item
named_or_fits fits other (Other item) = other item

-- ---- lines up to the line `end`

-- the line `end`, or what reads another
abbrev pub end_or : {A : Type 0} → (List ℕ → Option (A × List ℕ)) → List ℕ → Option (Option A × List ℕ)
end_or at bytes =
    if bytes_eq (first_word bytes) (codes "end") then Some (None, behind_word bytes) else (at bytes >>= λ x. Some (Some x.0, x.1))

-- its text
abbrev pub end_or_text : {A : Type 0} → (A → List ℕ) → Option A → List ℕ
end_or_text text None = codes "end"
end_or_text text (Some item) = text item

-- what can be said so
abbrev pub end_or_fits : {A : Type 0} → (A → Type 0) → Option A → Type 0
end_or_fits fits None = Unit {0}
end_or_fits fits (Some item) = fits item

-- ---- a line by its place

abbrev pub pair_text : PairCredits → List ℕ
pair_text pair = entry_text none_text (pair_entry pair)

abbrev pub header_text : HandlerHeader → List ℕ
header_text header = entry_text none_text (header_entry header)

abbrev pub section_text : Section → List ℕ
section_text section = entry_text none_text (section_entry section)

abbrev pub IsPairLine : Parameters → PairCredits → Type 0
IsPairLine settings pair = IsOf none_fits pair_entry (pair_fits settings) pair

abbrev pub atomics_text : Unit {0} → List ℕ
atomics_text line = entry_text none_text (atomics_entry line)

abbrev pub IsAtomicsLine : Scope → Unit {0} → Type 0
IsAtomicsLine scope line = IsOf none_fits atomics_entry (atomics_fit scope) line

abbrev pub collect_text : CollectArea → List ℕ
collect_text area = entry_text none_text (collect_entry area)

abbrev pub IsCollectLine : Scope → CollectArea → Type 0
IsCollectLine scope area = IsOf none_fits collect_entry (collect_fits scope) area

abbrev pub IsHeader : HandlerHeader → Type 0
IsHeader header = IsOf none_fits header_entry header_fits header

abbrev pub IsSection : (nodes threads : ℕ) → Section → Type 0
IsSection nodes threads section = IsOf none_fits section_entry (section_fits nodes threads) section

-- a handler, or what begins another part
abbrev pub header_or_section_at : Parameters → List ℕ → Option (HandlerItem × List ℕ)
header_or_section_at settings bytes =
    named_or (codes "handler") header_at (section_at settings.nodes settings.threads) bytes

abbrev pub header_or_section_form : List ℕ → Bool
header_or_section_form bytes = named_or_form (codes "handler") (λ n. nat_le 2 n) section_form bytes

abbrev pub header_or_section_text : HandlerItem → List ℕ
header_or_section_text item = named_or_text header_text section_text item

abbrev pub IsHeaderOrSection : Parameters → HandlerItem → Type 0
IsHeaderOrSection settings item = named_or_fits IsHeader (IsSection settings.nodes settings.threads) item

-- the line of collectives, or one of these
abbrev pub collect_or_later_at : Scope → List ℕ → Option (CollectItem × List ℕ)
collect_or_later_at scope bytes =
    named_or (codes "collect") (collect_at scope) (header_or_section_at scope.settings) bytes

abbrev pub collect_or_later_form : Scope → List ℕ → Bool
collect_or_later_form scope bytes =
    named_or_form (codes "collect") (λ n. is_second scope && (n == 2)) header_or_section_form bytes

abbrev pub collect_or_later_text : CollectItem → List ℕ
collect_or_later_text item = named_or_text collect_text header_or_section_text item

abbrev pub IsCollectOrLater : Scope → CollectItem → Type 0
IsCollectOrLater scope item = named_or_fits (IsCollectLine scope) (IsHeaderOrSection scope.settings) item

-- the line of atomics, or one of these
abbrev pub atomics_or_later_at : Scope → List ℕ → Option (AtomicsItem × List ℕ)
atomics_or_later_at scope bytes =
    named_or (codes "atomics") (atomics_at scope) (collect_or_later_at scope) bytes

abbrev pub atomics_or_later_form : Scope → List ℕ → Bool
atomics_or_later_form scope bytes =
    named_or_form (codes "atomics") (λ n. is_second scope && (n == 0)) (collect_or_later_form scope) bytes

abbrev pub atomics_or_later_text : AtomicsItem → List ℕ
atomics_or_later_text item = named_or_text atomics_text collect_or_later_text item

abbrev pub IsAtomicsOrLater : Scope → AtomicsItem → Type 0
IsAtomicsOrLater scope item = named_or_fits (IsAtomicsLine scope) (IsCollectOrLater scope) item

-- whether a line among the pairs has a form
abbrev pub pairs_form : Scope → List ℕ → Bool
pairs_form scope bytes = named_or_form (codes "pair") (λ n. n == 3) (atomics_or_later_form scope) bytes

-- the line `done`
abbrev pub done_at : List ℕ → Option (Unit {0} × List ℕ)
done_at bytes = if bytes_eq (first_word bytes) (codes "done") then Some (tt, behind_word bytes) else None

-- what reads the words of a line
abbrev pub item_at : (place : Place) → Scope → List ℕ → Option (Item place × List ℕ)
item_at (AtSetting setting) scope bytes =
    table_at none_at (setting_row setting ∷ []) (setting_fits setting scope.settings) bytes
item_at AtSieve scope bytes = table_at none_at (sieve_row ∷ []) (λ rule. true) bytes
item_at AtPairs scope bytes =
    named_or (codes "pair") (pair_at scope.settings) (atomics_or_later_at scope) bytes
item_at AtAtomics scope bytes = atomics_or_later_at scope bytes
item_at AtCollect scope bytes = collect_or_later_at scope bytes
item_at AtHandlers scope bytes = header_or_section_at scope.settings bytes
item_at (AtBody handler) scope bytes = end_or action_at bytes
item_at AtScripts scope bytes = section_at scope.settings.nodes scope.settings.threads bytes
item_at (AtSteps script) scope bytes = end_or (step_at scope) bytes
item_at AtSchedule scope bytes = end_or (timed_at scope) bytes
item_at AtDone scope bytes = done_at bytes
item_at Over scope bytes = None

-- whether a line has a form that may stand there, where it isn't the line `end`
abbrev pub item_form : (place : Place) → Scope → List ℕ → Bool
item_form (AtSetting setting) scope bytes = table_form (λ b. false) (setting_row setting ∷ []) bytes
item_form AtSieve scope bytes = table_form (λ b. false) (sieve_row ∷ []) bytes
item_form AtPairs scope bytes = pairs_form scope bytes
item_form AtAtomics scope bytes = atomics_or_later_form scope bytes
item_form AtCollect scope bytes = collect_or_later_form scope bytes
item_form AtHandlers scope bytes = header_or_section_form bytes
item_form (AtBody handler) scope bytes = action_form bytes
item_form AtScripts scope bytes = section_form bytes
item_form (AtSteps script) scope bytes = step_form scope bytes
item_form AtSchedule scope bytes = timed_form scope bytes
item_form AtDone scope bytes = false
item_form Over scope bytes = false

-- the words of a line
abbrev pub item_text : (place : Place) → Scope → Item place → List ℕ
item_text (AtSetting setting) scope number = entry_text none_text (setting_entry setting number)
item_text AtSieve scope rule = entry_text none_text (sieve_entry rule)
item_text AtPairs scope item = named_or_text pair_text atomics_or_later_text item
item_text AtAtomics scope item = atomics_or_later_text item
item_text AtCollect scope item = collect_or_later_text item
item_text AtHandlers scope item = header_or_section_text item
item_text (AtBody handler) scope item = end_or_text action_text item
item_text AtScripts scope section = section_text section
item_text (AtSteps script) scope item = end_or_text step_text item
item_text AtSchedule scope item =
    end_or_text (timed_text scope.settings.nodes scope.settings.threads) item
item_text AtDone scope item = codes "done"
item_text Over scope item = absurd item

-- what can be said there
abbrev pub IsItem : (place : Place) → Scope → Item place → Type 0
IsItem (AtSetting setting) scope number =
    IsOf none_fits (setting_entry setting) (setting_fits setting scope.settings) number
IsItem AtSieve scope rule = IsOf none_fits sieve_entry (λ r. true) rule
IsItem AtPairs scope item = named_or_fits (IsPairLine scope.settings) (IsAtomicsOrLater scope) item
IsItem AtAtomics scope item = IsAtomicsOrLater scope item
IsItem AtCollect scope item = IsCollectOrLater scope item
IsItem AtHandlers scope item = IsHeaderOrSection scope.settings item
IsItem (AtBody handler) scope item = end_or_fits IsAction item
IsItem AtScripts scope section = IsSection scope.settings.nodes scope.settings.threads section
IsItem (AtSteps script) scope item = end_or_fits (IsStep scope) item
IsItem AtSchedule scope item = end_or_fits (IsTimed scope) item
IsItem AtDone scope item = Unit {0}
IsItem Over scope item = ⊥
