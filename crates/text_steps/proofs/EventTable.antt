-- The table of events in code.
use Rattle.std.proofs.Common.{◌≡◌, refl, ap, ◌∙◌, ℕ, List, Option, map}
use Rattle.base_text.specs.Lines.{Word, ◌>>=◌, first_word, behind_word}
use Rattle.text_calls.specs.Forms.{Row, row_at, if_passes, table_at}
use Rattle.text_calls.specs.FormTests.{table_form}
use Rattle.text_calls.specs.Tables.{first_named}
use Rattle.text_calls.specs.declared.scope.Scope.{Scope}
use Rattle.text_calls.proofs.TableLaws.{found_form, read_table, test_named}
use Rattle.text_steps.specs.Events.{event_at, event_form, event_form_row, event_forms, event_named, event_words_at}
use Rattle.text_steps.specs.Events.{events, is_apart}
use Rattle.text_steps.specs.ThreadActions.{thread_action_at, thread_action_form}
use Rattle.text_steps.specs.declared.event_forms.EventForm.{EventForm}
use Rattle.text_steps.specs.declared.steps.ScheduledEvent.{ScheduledEvent}
use Rattle.text_steps.specs.declared.thread_actions.ThreadAction.{ThreadAction}

-- the forms have the rows of the table
rows_are : (nodes threads : ℕ) → events nodes threads ≡ map (event_form_row nodes threads) event_forms
unfolding event_forms
rows_are nodes threads = refl

-- whatever nodes and threads there are, a form has one name
named_is : (nodes threads : ℕ) (name : Word)
    → first_named (λ form. (event_form_row nodes threads form).name) event_forms name ≡ event_named name
unfolding event_forms event_named
named_is nodes threads name = refl

-- reading an event is reading the words of the form of its name
pub read_events : (scope : Scope) (bytes : List ℕ)
    → event_at scope bytes ≡ (event_named (first_word bytes) >>= λ form. event_words_at scope form (behind_word bytes))
unfolding event_at event_words_at
read_events scope bytes =
    let nodes = scope.settings.nodes in
    let threads = scope.settings.threads in
    ap (λ (rows : List (Row ThreadAction ScheduledEvent)). table_at (thread_action_at scope) rows is_apart bytes)
    (rows_are nodes threads)
    ∙ read_table (thread_action_at scope) (event_form_row nodes threads) event_forms is_apart bytes
    ∙ ap (λ (found : Option EventForm). found >>= λ form. row_at (thread_action_at scope) (event_form_row nodes threads
    form) (behind_word bytes) >>= if_passes is_apart) (named_is nodes threads (first_word bytes))

-- and a line has the form of one by the words of that form
pub test_events : (scope : Scope) (bytes : List ℕ) → event_form scope bytes
    ≡ found_form (thread_action_form scope) (event_form_row scope.settings.nodes scope.settings.threads)
    (event_named (first_word bytes)) (behind_word bytes)
unfolding event_form
test_events scope bytes =
    let nodes = scope.settings.nodes in
    let threads = scope.settings.threads in
    ap (λ (rows : List (Row ThreadAction ScheduledEvent)). table_form (thread_action_form scope) rows bytes)
    (rows_are nodes threads)
    ∙ test_named (thread_action_form scope) (event_form_row nodes threads) event_forms (first_word bytes) (behind_word bytes)
    ∙ ap (λ (found : Option EventForm). found_form (thread_action_form scope) (event_form_row nodes threads) found
    (behind_word bytes)) (named_is nodes threads (first_word bytes))
