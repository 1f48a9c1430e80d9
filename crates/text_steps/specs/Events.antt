-- The forms of events, and lines of a schedule.
use Rattle.std.specs.Prelude.{ℕ, ◌-◌, ◌^◌, ◌<◌, List, [], ◌∷◌, ◌++◌, Option, Some, Bool, true, not, ◌==◌, codes}
use Rattle.std.specs.Prelude.{decimal}
use Rattle.base_text.specs.Lines.{Word, ◌>>=◌, behind_word, after_space}
use Rattle.text_calls.specs.Forms.{Number, Shape, End, ◌▸◌, Inner, Maker, Values, Row, Entry}
use Rattle.text_calls.specs.Forms.{if_passes, row_at, word_at, table_at, entry_text, IsOf, U64, Below}
use Rattle.text_calls.specs.FormTests.{table_form, behind}
use Rattle.text_calls.specs.Tables.{first_named}
use Rattle.text_steps.specs.declared.event_forms.EventForm.{EventForm}
use Rattle.text_steps.specs.declared.event_forms.EventForm.TheVariants as forms
use Rattle.text_steps.specs.ThreadActions.{thread_action_at, thread_action_form, thread_action_text}
use Rattle.text_steps.specs.ThreadActions.{IsThreadAction}
use Rattle.text_steps.specs.declared.thread_actions.ThreadAction.{ThreadAction}
use Rattle.text_steps.specs.declared.thread_actions.ThreadAction.TheVariants as does
use Rattle.text_calls.specs.declared.scope.Scope.{Scope}
use Rattle.text_steps.specs.declared.steps.ScheduledEvent.{ScheduledEvent}
use Rattle.text_steps.specs.declared.steps.ScheduledEvent.TheVariants as event
use Rattle.text_steps.specs.declared.steps.TimedEvent.{TimedEvent}

-- a form of event
abbrev pub row_of_event : Word → (shape : Shape) → Maker ThreadAction shape ScheduledEvent
    → Row ThreadAction ScheduledEvent
row_of_event name shape make = record { name = name; shape = shape; make = make }

-- what a thread of a node does
abbrev pub event_of : (node thread : ℕ) → ThreadAction → ScheduledEvent
event_of node thread (does.Call call) = event.Call node thread call
event_of node thread (does.Vis vis) = event.Vis node thread vis
event_of node thread (does.Collective call) = event.Collective node thread call

abbrev pub call_row : (nodes threads : ℕ) → Row ThreadAction ScheduledEvent
call_row nodes threads = row_of_event (codes "call") (Below nodes ▸ Below threads ▸ Inner) event_of

abbrev pub request_row : (nodes : ℕ) → Row ThreadAction ScheduledEvent
request_row nodes =
    row_of_event (codes "request") (Below nodes ▸ Below nodes ▸ Number 1 (2 ^ 64 - 1) ▸ End) event.Request

abbrev pub reply_row : (nodes : ℕ) → Row ThreadAction ScheduledEvent
reply_row nodes = row_of_event (codes "reply") (Below nodes ▸ Below nodes ▸ Number 1 (2 ^ 64 - 1) ▸ End) event.Reply

abbrev pub tick_row : (nodes : ℕ) → Row ThreadAction ScheduledEvent
tick_row nodes = row_of_event (codes "tick") (Below nodes ▸ End) event.Tick

abbrev pub settle_row : Row ThreadAction ScheduledEvent
settle_row = row_of_event (codes "settle") (Number 1 4096 ▸ End) event.Settle

-- from `tick` on
abbrev pub later_events : (nodes : ℕ) → List (Row ThreadAction ScheduledEvent)
later_events nodes = tick_row nodes ∷ settle_row ∷ []

-- the forms of events
abbrev pub events : (nodes threads : ℕ) → List (Row ThreadAction ScheduledEvent)
events nodes threads = call_row nodes threads ∷ request_row nodes ∷ reply_row nodes ∷ later_events nodes

-- the row of a form of the code's table
abbrev pub event_form_row : (nodes threads : ℕ) → EventForm → Row ThreadAction ScheduledEvent
event_form_row nodes threads forms.Call = call_row nodes threads
event_form_row nodes threads forms.Request = request_row nodes
event_form_row nodes threads forms.Reply = reply_row nodes
event_form_row nodes threads forms.Tick = tick_row nodes
event_form_row nodes threads forms.Settle = settle_row

-- the forms, in the order of the rows
unfoldable pub event_forms : List EventForm
event_forms = forms.Call ∷ forms.Request ∷ forms.Reply ∷ forms.Tick ∷ forms.Settle ∷ []

-- the form of this name: how many nodes and threads there are doesn't matter
unfoldable pub event_named : Word → Option EventForm
event_named name = first_named (λ form. (event_form_row 1 1 form).name) event_forms name

-- the words of an event
abbrev pub words : (row : Row ThreadAction ScheduledEvent) → Values ThreadAction row.shape
    → Entry ThreadAction ScheduledEvent
words row values = record { row = row; values = values }

-- how an event is written
abbrev pub event_entry : (nodes threads : ℕ) → ScheduledEvent → Entry ThreadAction ScheduledEvent
event_entry nodes threads (event.Call node thread call) =
    words (call_row nodes threads) (node, (thread, does.Call call))
event_entry nodes threads (event.Vis node thread vis) =
    words (call_row nodes threads) (node, (thread, does.Vis vis))
event_entry nodes threads (event.Collective node thread call) =
    words (call_row nodes threads) (node, (thread, does.Collective call))
event_entry nodes threads (event.Request from to number) = words (request_row nodes) (from, (to, (number, tt)))
event_entry nodes threads (event.Reply from to number) = words (reply_row nodes) (from, (to, (number, tt)))
event_entry nodes threads (event.Tick node) = words (tick_row nodes) (node, tt)
event_entry nodes threads (event.Settle rounds) = words settle_row (rounds, tt)

-- two nodes of a delivery differ
abbrev pub is_apart : ScheduledEvent → Bool
is_apart (event.Request from to number) = not (from == to)
is_apart (event.Reply from to number) = not (from == to)
is_apart event = true

-- what reads the words of a form behind its name
unfoldable pub event_words_at : Scope → EventForm → List ℕ → Option (ScheduledEvent × List ℕ)
event_words_at scope form bytes =
    row_at (thread_action_at scope) (event_form_row scope.settings.nodes scope.settings.threads form) bytes
    >>= if_passes is_apart

-- what reads an event
unfoldable pub event_at : Scope → List ℕ → Option (ScheduledEvent × List ℕ)
event_at scope bytes =
    table_at (thread_action_at scope) (events scope.settings.nodes scope.settings.threads) is_apart bytes

-- whether bytes have the form of an event
unfoldable pub event_form : Scope → List ℕ → Bool
event_form scope bytes =
    table_form (thread_action_form scope) (events scope.settings.nodes scope.settings.threads) bytes

-- whether bytes have the form of a line of a schedule: the time is any word
unfoldable pub timed_form : Scope → List ℕ → Bool
timed_form scope bytes = behind (event_form scope) (after_space (behind_word bytes))

-- what reads a line of a schedule
unfoldable pub timed_at : Scope → List ℕ → Option (TimedEvent × List ℕ)
timed_at scope bytes =
    word_at U64 bytes >>= λ time. after_space time.1 >>= λ rest. event_at scope rest >>= λ event.
    Some (record { time = time.0; event = event.0 }, event.1)

-- the text of an event
abbrev pub event_text : (nodes threads : ℕ) → ScheduledEvent → List ℕ
event_text nodes threads event = entry_text thread_action_text (event_entry nodes threads event)

-- an event whose words can be said, and which may stand in the job
abbrev pub IsEvent : Scope → ScheduledEvent → Type 0
IsEvent scope event =
    IsOf (IsThreadAction scope) (event_entry scope.settings.nodes scope.settings.threads) is_apart event

-- the text of a line of a schedule
abbrev pub timed_text : (nodes threads : ℕ) → TimedEvent → List ℕ
timed_text nodes threads timed = decimal timed.time ++ (32 ∷ event_text nodes threads timed.event)

-- a line of a schedule whose words can be said, and which may stand in the job
pub record IsTimed (scope : Scope) (timed : TimedEvent) : Type 0 where
  pub time : timed.time < 2 ^ 64
  pub event : IsEvent scope timed.event
