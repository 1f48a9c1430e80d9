-- The forms of steps in a script.
use Rattle.std.specs.Prelude.{ℕ, List, [], ◌∷◌, Option, Some, Bool, true, false, not, ◌&&◌, ◌||◌, codes}
use Rattle.std.specs.Str.{bytes_eq}
use Rattle.base_text.specs.Lines.{Word, ◌>>=◌, ◌<|>◌, first_word}
use Rattle.text_calls.specs.Forms.{Value, Integer, Implicit, Collective, Shape, End, ◌▸◌, Many, Maker, Values}
use Rattle.text_calls.specs.Forms.{Row, Entry}
use Rattle.text_calls.specs.Forms.{row_at, table_at, entry_text, IsOf, none_at, none_text, none_fits, U64, U16, U8}
use Rattle.text_calls.specs.FormTests.{table_form}
use Rattle.text_calls.specs.Tables.{first_named}
use Rattle.text_steps.specs.declared.waiting_forms.WaitingForm.{WaitingForm}
use Rattle.text_steps.specs.declared.waiting_forms.WaitingForm.TheVariants as forms
use Rattle.text_calls.specs.Calls.{move_shape, fill_shape, call_text, IsCall}
use Rattle.text_vis.specs.VisLines.{vis_text, IsVis}
use Rattle.text_steps.specs.CollectiveLines.{collective_text, shape_of, IsCollective}
use Rattle.text_steps.specs.ThreadActions.{thread_action_at, thread_action_form}
use Rattle.text_steps.specs.declared.thread_actions.ThreadAction.{ThreadAction}
use Rattle.text_steps.specs.declared.thread_actions.ThreadAction.TheVariants as does
use Rattle.text_calls.specs.Versions.{is_second}
use Rattle.text_calls.specs.declared.scope.Scope.{Scope}
use Rattle.text_steps.specs.declared.steps.PutText.{PutText}
use Rattle.text_steps.specs.declared.steps.ScriptStep.{ScriptStep}
use Rattle.text_steps.specs.declared.steps.ScriptStep.TheVariants as step
use Rattle.part_transfers.specs.declared.operation.Transfer.{Transfer}
use Rattle.part_transfers.specs.declared.operation.Transfer.TheVariants as transfer
use Rattle.text_steps.specs.declared.steps.WaitingStep.{WaitingStep}
use Rattle.text_steps.specs.declared.steps.WaitingStep.TheVariants as waiting

-- ---- what scripts alone have

-- a form of step that waits
abbrev pub row_of_step : Word → (shape : Shape) → Maker ⊥ shape WaitingStep → Row ⊥ WaitingStep
row_of_step name shape make = record { name = name; shape = shape; make = make }

abbrev pub until_row : Row ⊥ WaitingStep
until_row = row_of_step (codes "until") (U8 ▸ Value ▸ End) waiting.Until

abbrev pub until_word_row : Row ⊥ WaitingStep
until_word_row = row_of_step (codes "until-word") (U64 ▸ U64 ▸ End) waiting.UntilWord

-- blocking transfers (GASNet 1.8.1, extended API: gasnet_put, gasnet_get, gasnet_memset)
abbrev pub put_row : Row ⊥ WaitingStep
put_row =
    row_of_step (codes "put") move_shape (λ to remote local len. waiting.Transfer (transfer.Put to remote local len))

abbrev pub get_row : Row ⊥ WaitingStep
get_row =
    row_of_step (codes "get") move_shape (λ to remote local len. waiting.Transfer (transfer.Get to remote local len))

abbrev pub memset_row : Row ⊥ WaitingStep
memset_row = row_of_step (codes "memset") fill_shape
    (λ to remote len byte. waiting.Transfer (transfer.Memset to remote len byte))

-- puts that wait until all was sent (gasnet_put_nb, gasnet_put_nbi)
abbrev pub put : (to remote local len : ℕ) → PutText
put to remote local len = record { to = to; remote = remote; local = local; len = len }

abbrev pub put_begin_row : Row ⊥ WaitingStep
put_begin_row = row_of_step (codes "put-nb") (U8 ▸ move_shape)
    (λ register to remote local len. waiting.PutBegin register (put to remote local len))

abbrev pub put_implicit_row : Row ⊥ WaitingStep
put_implicit_row = row_of_step (codes "put-nbi") move_shape
    (λ to remote local len. waiting.PutImplicit (put to remote local len))

-- synchronisation that waits (gasnet_wait_syncnb and its like), of up to 16 registers
abbrev pub wait_row : Row ⊥ WaitingStep
wait_row = row_of_step (codes "wait") (U8 ▸ End) waiting.Wait

abbrev pub wait_all_row : Row ⊥ WaitingStep
wait_all_row = row_of_step (codes "wait-all") (Many 1 16 U8) waiting.WaitAll

abbrev pub wait_some_row : Row ⊥ WaitingStep
wait_some_row = row_of_step (codes "wait-some") (Many 1 16 U8) waiting.WaitSome

abbrev pub wait_implicit_row : Row ⊥ WaitingStep
wait_implicit_row = row_of_step (codes "wait-nbi") (Implicit ▸ End) waiting.WaitImplicit

-- the barrier (gasnet_barrier_wait)
abbrev pub barrier_wait_row : Row ⊥ WaitingStep
barrier_wait_row = row_of_step (codes "barrier-wait") (Integer ▸ U8 ▸ End) waiting.BarrierWait

-- a whole collective (this project's profile): the kind, the root, the first byte that the node gives, how many bytes
-- it gives, and where the result goes
abbrev pub coll_row : Row ⊥ WaitingStep
coll_row = row_of_step (codes "coll") (Collective ▸ U16 ▸ U64 ▸ U64 ▸ U64 ▸ End)
    (λ kind root from len dest. waiting.Collective (shape_of kind root len) from dest)

-- from `until-word` on
unfoldable pub later_waits : List (Row ⊥ WaitingStep)
later_waits = until_word_row ∷ coll_row ∷ []

-- from `wait` on
unfoldable pub sync_waits : List (Row ⊥ WaitingStep)
sync_waits = wait_row ∷ wait_all_row ∷ wait_some_row ∷ wait_implicit_row ∷ barrier_wait_row ∷ later_waits

-- the forms of steps that wait
unfoldable pub waits : List (Row ⊥ WaitingStep)
waits = until_row ∷ put_row ∷ get_row ∷ memset_row ∷ put_begin_row ∷ put_implicit_row ∷ sync_waits

-- the row of a form of the code's table
abbrev pub waiting_row : WaitingForm → Row ⊥ WaitingStep
waiting_row forms.Until = until_row
waiting_row forms.Put = put_row
waiting_row forms.Get = get_row
waiting_row forms.Memset = memset_row
waiting_row forms.PutBegin = put_begin_row
waiting_row forms.PutImplicit = put_implicit_row
waiting_row forms.Wait = wait_row
waiting_row forms.WaitAll = wait_all_row
waiting_row forms.WaitSome = wait_some_row
waiting_row forms.WaitImplicit = wait_implicit_row
waiting_row forms.BarrierWait = barrier_wait_row
waiting_row forms.UntilWord = until_word_row
waiting_row forms.Coll = coll_row

-- the forms, in the order of the rows
unfoldable pub waiting_forms : List WaitingForm
waiting_forms =
    forms.Until ∷ forms.Put ∷ forms.Get ∷ forms.Memset ∷ forms.PutBegin ∷ forms.PutImplicit ∷ forms.Wait
    ∷ forms.WaitAll ∷ forms.WaitSome ∷ forms.WaitImplicit ∷ forms.BarrierWait ∷ forms.UntilWord ∷ forms.Coll ∷ []

-- the form of this name
unfoldable pub waiting_named : Word → Option WaitingForm
waiting_named name = first_named (λ form. (waiting_row form).name) waiting_forms name

-- what reads the words of a form behind its name
unfoldable pub waiting_words_at : WaitingForm → List ℕ → Option (WaitingStep × List ℕ)
waiting_words_at form bytes = row_at none_at (waiting_row form) bytes

-- the words of such a step
abbrev pub words : (row : Row ⊥ WaitingStep) → Values ⊥ row.shape → Entry ⊥ WaitingStep
words row values = record { row = row; values = values }

-- how a blocking transfer is written
abbrev pub transfer_entry : Transfer → Entry ⊥ WaitingStep
transfer_entry (transfer.Put to remote local len) = words put_row (to, (remote, (local, (len, tt))))
transfer_entry (transfer.Get to remote local len) = words get_row (to, (remote, (local, (len, tt))))
transfer_entry (transfer.Memset to remote len byte) = words memset_row (to, (remote, (len, (byte, tt))))

-- how a step that waits is written
abbrev pub waiting_entry : WaitingStep → Entry ⊥ WaitingStep
waiting_entry (waiting.Until cell operand) = words until_row (cell, (operand, tt))
waiting_entry (waiting.Transfer transfer) = transfer_entry transfer
waiting_entry (waiting.PutBegin register put) =
    words put_begin_row (register, (put.to, (put.remote, (put.local, (put.len, tt)))))
waiting_entry (waiting.PutImplicit put) =
    words put_implicit_row (put.to, (put.remote, (put.local, (put.len, tt))))
waiting_entry (waiting.Wait register) = words wait_row (register, tt)
waiting_entry (waiting.WaitAll registers) = words wait_all_row registers
waiting_entry (waiting.WaitSome registers) = words wait_some_row registers
waiting_entry (waiting.WaitImplicit which) = words wait_implicit_row (which, tt)
waiting_entry (waiting.BarrierWait id flags) = words barrier_wait_row (id, (flags, tt))
waiting_entry (waiting.UntilWord offset number) = words until_word_row (offset, (number, tt))
waiting_entry (waiting.Collective shape from dest) =
    words coll_row (shape.kind, (shape.root, (from, (shape.len, (dest, tt)))))

-- whether such a step may stand in a job: to wait for a word, where the datagrams have the second version; a
-- collective, where the job has an area of collectives
abbrev pub waiting_fits : Scope → WaitingStep → Bool
waiting_fits scope (waiting.UntilWord offset number) = is_second scope
waiting_fits scope (waiting.Collective shape from dest) = scope.collect
waiting_fits scope step = true

-- what reads a step that waits
unfoldable pub waiting_at : Scope → List ℕ → Option (WaitingStep × List ℕ)
waiting_at scope bytes = table_at none_at waits (waiting_fits scope) bytes

-- a word names a step that waits of the job, if it names one
abbrev pub is_waiting_name : Scope → Word → Bool
is_waiting_name scope name =
    (is_second scope || not (bytes_eq name (codes "until-word")))
    && (scope.collect || not (bytes_eq name (codes "coll")))

-- whether bytes have the form of one
unfoldable pub waiting_form : Scope → List ℕ → Bool
waiting_form scope bytes = table_form (λ bytes. false) waits bytes && is_waiting_name scope (first_word bytes)

-- the text of one
abbrev pub waiting_text : WaitingStep → List ℕ
waiting_text step = entry_text none_text (waiting_entry step)

-- one whose words can be said, and which may stand in the job
abbrev pub IsWaiting : Scope → WaitingStep → Type 0
IsWaiting scope step = IsOf none_fits waiting_entry (waiting_fits scope) step

-- ---- steps

-- the step that a call is, or the beginning of a transfer of many pieces, or a call of collectives
abbrev pub step_of : ThreadAction → ScriptStep
step_of (does.Call call) = step.Call call
step_of (does.Vis vis) = step.Vis vis
step_of (does.Collective call) = step.Collective call

-- what reads a step: one of these, or what scripts alone have; no two of these forms have the same name
unfoldable pub step_at : Scope → List ℕ → Option (ScriptStep × List ℕ)
step_at scope bytes =
    (thread_action_at scope bytes >>= λ x. Some (step_of x.0, x.1))
    <|> (waiting_at scope bytes >>= λ x. Some (step.Waiting x.0, x.1))

-- whether bytes have the form of a step
unfoldable pub step_form : Scope → List ℕ → Bool
step_form scope bytes = thread_action_form scope bytes || waiting_form scope bytes

-- the text of a step
abbrev pub step_text : ScriptStep → List ℕ
step_text (step.Call call) = call_text call
step_text (step.Vis vis) = vis_text vis
step_text (step.Collective call) = collective_text call
step_text (step.Waiting waiting) = waiting_text waiting

-- a step whose words can be said, and which may stand in the job
abbrev pub IsStep : Scope → ScriptStep → Type 0
IsStep scope (step.Call call) = IsCall scope call
IsStep scope (step.Vis vis) = IsVis scope vis
IsStep scope (step.Collective call) = IsCollective scope call
IsStep scope (step.Waiting waiting) = IsWaiting scope waiting
