-- The forms of calls in a schedule.
use Rattle.std.specs.Prelude.{ℕ, List, [], ◌∷◌, Option, Some, None, Bool, true, false, not, ◌&&◌, ◌||◌}
use Rattle.std.specs.Prelude.{is_none, if◌then◌else◌, codes}
use Rattle.std.specs.Str.{bytes_eq}
use Rattle.node_atomics.specs.BatchRequests.{batch_fault}
use Rattle.node_atomics.specs.declared.word.WordOp.{WordOp}
use Rattle.base_text.specs.Lines.{Word, ◌>>=◌, first_word}
use Rattle.text_calls.specs.Forms.{Number, Value, Kind, Bytes, Payload, Integer, Implicit, Shape, End, ◌▸◌}
use Rattle.text_calls.specs.Forms.{Many, Maker}
use Rattle.text_calls.specs.Forms.{Bundles, Operations}
use Rattle.text_calls.specs.Forms.{Values, Row, Entry}
use Rattle.text_calls.specs.Forms.{if_passes, row_at, table_at, entry_text, IsOf, none_at, none_text, none_fits, U64}
use Rattle.text_calls.specs.Forms.{U16, U8}
use Rattle.text_calls.specs.FormTests.{table_form}
use Rattle.text_calls.specs.Tables.{first_named}
use Rattle.text_calls.specs.Batches.{BatchWords}
use Rattle.text_calls.specs.declared.scope.Scope.{Scope}
use Rattle.text_calls.specs.declared.scheduled.MediumText.{MediumText}
use Rattle.text_calls.specs.declared.scheduled.LongText.{LongText}
use Rattle.text_calls.specs.declared.values.Payload.{Payload as PayloadValue}
use Rattle.text_calls.specs.declared.values.Operand.{Operand}
use Rattle.part_transfers.specs.declared.operation.Transfer.{Transfer}
use Rattle.part_transfers.specs.declared.operation.Transfer.TheVariants as transfer
use Rattle.text_calls.specs.declared.forms.CallForm.{CallForm}
use Rattle.text_calls.specs.declared.forms.CallForm.TheVariants as forms
use Rattle.text_calls.specs.declared.scheduled.ScheduledCall.{ScheduledCall}
use Rattle.text_calls.specs.declared.scheduled.ScheduledCall.TheVariants as call
use Rattle.wire_message.specs.declared.limits.TheConstants.{MAX_PAYLOAD}

-- a form of call
abbrev pub form : Word → (shape : Shape) → Maker ⊥ shape ScheduledCall → Row ⊥ ScheduledCall
form name shape make = record { name = name; shape = shape; make = make }

abbrev pub short_row : Row ⊥ ScheduledCall
short_row = form (codes "short") (U16 ▸ U8 ▸ Many 0 17 Value) call.Short

-- a Medium request, and a Long one
abbrev pub medium : (to handler : ℕ) → PayloadValue → List Operand → MediumText
medium to handler payload operands =
    record { to = to; handler = handler; payload = payload; operands = operands }

abbrev pub long : (to handler : ℕ) → PayloadValue → (offset : ℕ) → List Operand → LongText
long to handler payload offset operands =
    record { to = to; handler = handler; payload = payload; offset = offset; operands = operands }

abbrev pub medium_row : Row ⊥ ScheduledCall
medium_row = form (codes "medium") (U16 ▸ U8 ▸ Payload ▸ Many 0 17 Value)
    (λ to handler payload operands. call.Medium (medium to handler payload operands))

abbrev pub long_row : Row ⊥ ScheduledCall
long_row = form (codes "long") (U16 ▸ U8 ▸ Payload ▸ U64 ▸ Many 0 17 Value)
    (λ to handler payload offset operands. call.Long (long to handler payload offset operands))

abbrev pub async_row : Row ⊥ ScheduledCall
async_row = form (codes "async") (U16 ▸ U8 ▸ Payload ▸ U64 ▸ Many 0 17 Value)
    (λ to handler payload offset operands. call.LongAsync (long to handler payload offset operands))

abbrev pub lock_row : Row ⊥ ScheduledCall
lock_row = form (codes "lock") (U8 ▸ End) call.Lock

abbrev pub unlock_row : Row ⊥ ScheduledCall
unlock_row = form (codes "unlock") (U8 ▸ End) call.Unlock

abbrev pub poll_row : Row ⊥ ScheduledCall
poll_row = form (codes "poll") End call.Poll

abbrev pub attempt_row : Row ⊥ ScheduledCall
attempt_row = form (codes "attempt") (Kind ▸ End) call.Attempt

abbrev pub cell_row : Row ⊥ ScheduledCall
cell_row = form (codes "cell") (U8 ▸ End) call.Cell

abbrev pub set_cell_row : Row ⊥ ScheduledCall
set_cell_row = form (codes "set-cell") (U8 ▸ Value ▸ End) call.SetCell

abbrev pub show_row : Row ⊥ ScheduledCall
show_row = form (codes "show") (U64 ▸ Number 0 MAX_PAYLOAD ▸ End) call.Show

abbrev pub set_row : Row ⊥ ScheduledCall
set_row = form (codes "set") (U64 ▸ Bytes ▸ End) call.Set

abbrev pub fill_row : Row ⊥ ScheduledCall
fill_row = form (codes "fill") (U64 ▸ U64 ▸ U8 ▸ End) call.Fill

abbrev pub word_row : Row ⊥ ScheduledCall
word_row = form (codes "word") (U64 ▸ End) call.Word

abbrev pub set_word_row : Row ⊥ ScheduledCall
set_word_row = form (codes "set-word") (U64 ▸ U64 ▸ End) call.SetWord

-- the words of a put and of a get (GASNet 1.8.1, extended API): the node, the offset in its segment, that in the
-- local one, and how many bytes
abbrev pub move_shape : Shape
move_shape = U16 ▸ U64 ▸ U64 ▸ U64 ▸ End

-- the words of a memset: the node, the offset in its segment, how many bytes, and the byte
abbrev pub fill_shape : Shape
fill_shape = U16 ▸ U64 ▸ U64 ▸ U8 ▸ End

-- explicit transfers, each behind the register of its handle
abbrev pub put_row : Row ⊥ ScheduledCall
put_row = form (codes "put-nb-bulk") (U8 ▸ move_shape)
    (λ register to remote local len. call.Begin register (transfer.Put to remote local len))

abbrev pub get_row : Row ⊥ ScheduledCall
get_row = form (codes "get-nb") (U8 ▸ move_shape)
    (λ register to remote local len. call.Begin register (transfer.Get to remote local len))

abbrev pub memset_row : Row ⊥ ScheduledCall
memset_row = form (codes "memset-nb") (U8 ▸ fill_shape)
    (λ register to remote len byte. call.Begin register (transfer.Memset to remote len byte))

-- implicit transfers
abbrev pub implicit_put_row : Row ⊥ ScheduledCall
implicit_put_row = form (codes "put-nbi-bulk") move_shape
    (λ to remote local len. call.BeginImplicit (transfer.Put to remote local len))

abbrev pub implicit_get_row : Row ⊥ ScheduledCall
implicit_get_row = form (codes "get-nbi") move_shape
    (λ to remote local len. call.BeginImplicit (transfer.Get to remote local len))

abbrev pub implicit_memset_row : Row ⊥ ScheduledCall
implicit_memset_row = form (codes "memset-nbi") fill_shape
    (λ to remote len byte. call.BeginImplicit (transfer.Memset to remote len byte))

abbrev pub issued_row : Row ⊥ ScheduledCall
issued_row = form (codes "issued") (U8 ▸ End) call.IsIssued

-- synchronisation without waiting (GASNet 1.8.1, extended API: gasnet_try_syncnb and its like), of up to 16 registers
abbrev pub try_row : Row ⊥ ScheduledCall
try_row = form (codes "try") (U8 ▸ End) call.Sync

abbrev pub try_all_row : Row ⊥ ScheduledCall
try_all_row = form (codes "try-all") (Many 1 16 U8) call.SyncAll

abbrev pub try_some_row : Row ⊥ ScheduledCall
try_some_row = form (codes "try-some") (Many 1 16 U8) call.SyncSome

abbrev pub try_implicit_row : Row ⊥ ScheduledCall
try_implicit_row = form (codes "try-nbi") (Implicit ▸ End) call.SyncImplicit

-- access regions (GASNet 1.8.1, extended API: gasnet_begin_nbi_accessregion, gasnet_end_nbi_accessregion)
abbrev pub region_begin_row : Row ⊥ ScheduledCall
region_begin_row = form (codes "region-begin") End call.RegionBegin

abbrev pub region_end_row : Row ⊥ ScheduledCall
region_end_row = form (codes "region-end") (U8 ▸ End) call.RegionEnd

-- barriers (GASNet 1.8.1, extended API: gasnet_barrier_notify, gasnet_barrier_try)
abbrev pub notify_row : Row ⊥ ScheduledCall
notify_row = form (codes "notify") (Integer ▸ U8 ▸ End) call.Notify

abbrev pub try_barrier_row : Row ⊥ ScheduledCall
try_barrier_row = form (codes "try-barrier") (Integer ▸ U8 ▸ End) call.TryBarrier

-- remote atomics (this project's profile): the node, the place of the block, the tag, and the operations
abbrev pub batch : (to local tag : ℕ) → List WordOp → BatchWords
batch to local tag ops = record { to = to; request = record { local = local; tag = tag; ops = ops } }

abbrev pub atomic_row : Row ⊥ ScheduledCall
atomic_row = form (codes "atomic") (U16 ▸ U64 ▸ U64 ▸ Bundles 1 16 Operations)
    (λ to local tag ops. call.Atomic (batch to local tag ops))

-- the forms of calls on the barrier
unfoldable pub barrier_calls : List (Row ⊥ ScheduledCall)
barrier_calls = notify_row ∷ try_barrier_row ∷ []

-- from `issued` on
unfoldable pub sync_calls : List (Row ⊥ ScheduledCall)
sync_calls =
    issued_row ∷ try_row ∷ try_all_row ∷ try_some_row ∷ try_implicit_row ∷ region_begin_row ∷ region_end_row
    ∷ barrier_calls

-- from `put-nbi-bulk` on
unfoldable pub implicit_calls : List (Row ⊥ ScheduledCall)
implicit_calls = implicit_put_row ∷ implicit_get_row ∷ implicit_memset_row ∷ sync_calls

-- from `put-nb-bulk` on
unfoldable pub transfer_calls : List (Row ⊥ ScheduledCall)
transfer_calls = put_row ∷ get_row ∷ memset_row ∷ implicit_calls

-- from `show` on
unfoldable pub segment_calls : List (Row ⊥ ScheduledCall)
segment_calls = show_row ∷ set_row ∷ fill_row ∷ word_row ∷ set_word_row ∷ transfer_calls

-- from `lock` on
unfoldable pub own_calls : List (Row ⊥ ScheduledCall)
own_calls = lock_row ∷ unlock_row ∷ poll_row ∷ attempt_row ∷ cell_row ∷ set_cell_row ∷ segment_calls

-- from `medium` on
unfoldable pub later_calls : List (Row ⊥ ScheduledCall)
later_calls = medium_row ∷ long_row ∷ async_row ∷ own_calls

-- the forms of calls, in groups, each of which goes on with the next one
unfoldable pub calls : List (Row ⊥ ScheduledCall)
calls = short_row ∷ atomic_row ∷ later_calls

-- ---- the table in code

-- the row of a form
abbrev pub call_form_row : CallForm → Row ⊥ ScheduledCall
call_form_row forms.Short = short_row
call_form_row forms.Atomic = atomic_row
call_form_row forms.Medium = medium_row
call_form_row forms.Long = long_row
call_form_row forms.Async = async_row
call_form_row forms.Lock = lock_row
call_form_row forms.Unlock = unlock_row
call_form_row forms.Poll = poll_row
call_form_row forms.Attempt = attempt_row
call_form_row forms.Cell = cell_row
call_form_row forms.SetCell = set_cell_row
call_form_row forms.Show = show_row
call_form_row forms.Set = set_row
call_form_row forms.Fill = fill_row
call_form_row forms.Word = word_row
call_form_row forms.SetWord = set_word_row
call_form_row forms.Put = put_row
call_form_row forms.Get = get_row
call_form_row forms.Memset = memset_row
call_form_row forms.ImplicitPut = implicit_put_row
call_form_row forms.ImplicitGet = implicit_get_row
call_form_row forms.ImplicitMemset = implicit_memset_row
call_form_row forms.Issued = issued_row
call_form_row forms.Try = try_row
call_form_row forms.TryAll = try_all_row
call_form_row forms.TrySome = try_some_row
call_form_row forms.TryImplicit = try_implicit_row
call_form_row forms.RegionBegin = region_begin_row
call_form_row forms.RegionEnd = region_end_row
call_form_row forms.Notify = notify_row
call_form_row forms.TryBarrier = try_barrier_row

-- its name
abbrev pub form_name : CallForm → Word
form_name form = (call_form_row form).name

-- the forms in the order of the rows: from `issued` on
unfoldable pub sync_forms : List CallForm
sync_forms =
    forms.Issued ∷ forms.Try ∷ forms.TryAll ∷ forms.TrySome ∷ forms.TryImplicit ∷ forms.RegionBegin
    ∷ forms.RegionEnd ∷ forms.Notify ∷ forms.TryBarrier ∷ []

-- from `put-nb-bulk` on
unfoldable pub transfer_forms : List CallForm
transfer_forms =
    forms.Put ∷ forms.Get ∷ forms.Memset ∷ forms.ImplicitPut ∷ forms.ImplicitGet ∷ forms.ImplicitMemset ∷ sync_forms

-- from `lock` on
unfoldable pub own_forms : List CallForm
own_forms =
    forms.Lock ∷ forms.Unlock ∷ forms.Poll ∷ forms.Attempt ∷ forms.Cell ∷ forms.SetCell ∷ forms.Show ∷ forms.Set
    ∷ forms.Fill ∷ forms.Word ∷ forms.SetWord ∷ transfer_forms

-- and all of them
unfoldable pub call_forms : List CallForm
call_forms = forms.Short ∷ forms.Atomic ∷ forms.Medium ∷ forms.Long ∷ forms.Async ∷ own_forms

-- the form of this name
unfoldable pub call_named : Word → Option CallForm
call_named name = first_named form_name call_forms name

-- ---- writing

-- the words of a call
abbrev pub words : (row : Row ⊥ ScheduledCall) → Values ⊥ row.shape → Entry ⊥ ScheduledCall
words row values = record { row = row; values = values }

-- how an explicit transfer is written
abbrev pub begin_entry : (register : ℕ) → Transfer → Entry ⊥ ScheduledCall
begin_entry register (transfer.Put to remote local len) =
    words put_row (register, (to, (remote, (local, (len, tt)))))
begin_entry register (transfer.Get to remote local len) =
    words get_row (register, (to, (remote, (local, (len, tt)))))
begin_entry register (transfer.Memset to remote len byte) =
    words memset_row (register, (to, (remote, (len, (byte, tt)))))

-- and an implicit one
abbrev pub implicit_entry : Transfer → Entry ⊥ ScheduledCall
implicit_entry (transfer.Put to remote local len) = words implicit_put_row (to, (remote, (local, (len, tt))))
implicit_entry (transfer.Get to remote local len) = words implicit_get_row (to, (remote, (local, (len, tt))))
implicit_entry (transfer.Memset to remote len byte) = words implicit_memset_row (to, (remote, (len, (byte, tt))))

-- how a call is written
abbrev pub call_entry : ScheduledCall → Entry ⊥ ScheduledCall
call_entry (call.Short to handler operands) = words short_row (to, (handler, operands))
call_entry (call.Medium text) = words medium_row (text.to, (text.handler, (text.payload, text.operands)))
call_entry (call.Long text) =
    words long_row (text.to, (text.handler, (text.payload, (text.offset, text.operands))))
call_entry (call.LongAsync text) =
    words async_row (text.to, (text.handler, (text.payload, (text.offset, text.operands))))
call_entry (call.Lock lock) = words lock_row (lock, tt)
call_entry (call.Unlock lock) = words unlock_row (lock, tt)
call_entry call.Poll = words poll_row tt
call_entry (call.Attempt call) = words attempt_row (call, tt)
call_entry (call.Cell cell) = words cell_row (cell, tt)
call_entry (call.SetCell cell operand) = words set_cell_row (cell, (operand, tt))
call_entry (call.Show offset len) = words show_row (offset, (len, tt))
call_entry (call.Set offset bytes) = words set_row (offset, (bytes, tt))
call_entry (call.Fill offset len byte) = words fill_row (offset, (len, (byte, tt)))
call_entry (call.Word offset) = words word_row (offset, tt)
call_entry (call.SetWord offset number) = words set_word_row (offset, (number, tt))
call_entry (call.Begin register transfer) = begin_entry register transfer
call_entry (call.BeginImplicit transfer) = implicit_entry transfer
call_entry (call.IsIssued register) = words issued_row (register, tt)
call_entry (call.Sync register) = words try_row (register, tt)
call_entry (call.SyncAll registers) = words try_all_row registers
call_entry (call.SyncSome registers) = words try_some_row registers
call_entry (call.SyncImplicit which) = words try_implicit_row (which, tt)
call_entry call.RegionBegin = words region_begin_row tt
call_entry (call.RegionEnd register) = words region_end_row (register, tt)
call_entry (call.Notify id flags) = words notify_row (id, (flags, tt))
call_entry (call.TryBarrier id flags) = words try_barrier_row (id, (flags, tt))
call_entry (call.Atomic batch) =
    words atomic_row (batch.to, (batch.request.local, (batch.request.tag, batch.request.ops)))

-- whether batches are served in a job, and nothing is wrong with this one
abbrev pub batch_fits : Scope → BatchWords → Bool
batch_fits scope batch = scope.atomics && is_none (batch_fault scope.settings batch.to batch.request)

-- the batch, where that is so
abbrev pub batch_in : Scope → BatchWords → Option BatchWords
batch_in scope batch = if batch_fits scope batch then Some batch else None

-- whether a call may stand in a job
abbrev pub call_fits : Scope → ScheduledCall → Bool
call_fits scope (call.Atomic batch) = batch_fits scope batch
call_fits scope call = true

-- what was found, where it may stand in the job
abbrev pub fitting : Scope → Option (ScheduledCall × List ℕ) → Option (ScheduledCall × List ℕ)
fitting scope found = found >>= if_passes (call_fits scope)

-- what reads the words of a form behind its name, where the call may stand in the job
unfoldable pub form_at : Scope → CallForm → List ℕ → Option (ScheduledCall × List ℕ)
form_at scope form bytes = fitting scope (row_at none_at (call_form_row form) bytes)

-- what reads a call
unfoldable pub call_at : Scope → List ℕ → Option (ScheduledCall × List ℕ)
call_at scope bytes = table_at none_at calls (call_fits scope) bytes

-- a word names a call of the job, if it names one
abbrev pub is_call_name : Scope → Word → Bool
is_call_name scope name = scope.atomics || not (bytes_eq name (codes "atomic"))

-- whether bytes have the form of a call
unfoldable pub call_form : Scope → List ℕ → Bool
call_form scope bytes = table_form (λ bytes. false) calls bytes && is_call_name scope (first_word bytes)

-- the text of a call
abbrev pub call_text : ScheduledCall → List ℕ
call_text call = entry_text none_text (call_entry call)

-- a call whose words can be said, and which may stand in the job
abbrev pub IsCall : Scope → ScheduledCall → Type 0
IsCall scope call = IsOf none_fits call_entry (call_fits scope) call
