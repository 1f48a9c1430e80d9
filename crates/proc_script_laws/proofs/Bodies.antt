-- What a body of a handler leaves and says fits, where what it finds does.
use Rattle.std.proofs.Common.{◌≡◌, inl, inr, ℕ, zero, suc, ◌+◌, ◌++◌, ◌<◌, ◌^◌, ◌||◌, Bool, true, false, List, []}
use Rattle.std.proofs.Common.{◌∷◌, map, length, Option, None, Some, Result, Ok, Err, refl, ◌∙◌, arith}
use Rattle.std.proofs.Common.{rules, ℤ, nat_lt}
use Rattle.std.specs.Prelude.{◌==◌, ◌&&◌, ◌%◌, nat_le, if◌then◌else◌, pos, slice_index_or}
use Rattle.std.specs.List.{AllByRecursion, flat_map, fold, filter}
use Rattle.std.specs.Int.{w32, w64, int_wrap, to_le_bytes}
use Rattle.std.specs.Int.RustNames.{FitsSigned}
use Rattle.std.specs.Option.{option_map}
use Rattle.std.proofs.lemmas.Bool.{cases_Bool}
use Rattle.std.proofs.lemmas.List.{length-set}
use Rattle.base_lists.proofs.Members.{all_append}
use Rattle.wire_message.specs.Content.{Content}
use Rattle.wire_message.specs.Parameters.{Parameters, AreInRange}
use Rattle.part_segment.specs.Image.{Write, overwritten, written_by}
use Rattle.part_handlers.specs.declared.message.Replied.{Replied}
use Rattle.part_handlers.specs.declared.message.Replied.TheVariants as replies_as
use Rattle.part_handlers.specs.declared.table.EntryFault.{EntryFault}
use Rattle.part_handlers.specs.Registered.{index_for}
use Rattle.part_handlers.specs.Runs.{Arrival, Frame, Start, Outcome, answer, after_answer, nothing_done}
use Rattle.part_collective_area.specs.Served.{header_at, header_for, number_at as header_number, outcome_of_piece}
use Rattle.node_atomics.specs.declared.word.WordOp.{WordOp}
use Rattle.node_atomics.specs.BatchRequests.{BatchRequest, batch_handler}
use Rattle.node_atomics.specs.Served.{after_batch, after_request, block_reply, change_of, changes_of, olds_of}
use Rattle.node_atomics.specs.Served.{request_for, outcome_of_batch, word_in}
use Rattle.node_atomics.specs.Words.{applied_by}
use Rattle.text_steps.specs.Bodies.{IsAction, IsReply}
use Rattle.text_job.specs.JobText.{IsHandler}
use Rattle.text_calls.specs.Payloads.{IsBodyPayload}
use Rattle.text_calls.specs.Kinds.{IsOperand}
use Rattle.text_calls.specs.declared.operands.NumberPlace.TheVariants.{Body}
use Rattle.text_steps.specs.declared.steps.Action.{Action}
use Rattle.text_steps.specs.declared.steps.Action.TheVariants as action
use Rattle.text_job.specs.declared.job.HandlerText.{HandlerText}
use Rattle.text_calls.specs.declared.values.Operand.{Operand}
use Rattle.text_calls.specs.declared.values.Operand.TheVariants as operand
use Rattle.text_calls.specs.declared.values.Payload.{Payload}
use Rattle.text_calls.specs.declared.values.Payload.TheVariants as payload
use Rattle.text_steps.specs.declared.steps.ReplyAction.{ReplyAction}
use Rattle.text_steps.specs.declared.steps.ReplyAction.TheVariants as reply
use Rattle.text_script.specs.Bodies.{operand_value, operand_at, with_cell, segment_at, placed_bytes}
use Rattle.text_script.specs.Bodies.{range_bytes, payload_bytes, kept_write, writing_if, reply_content, replying_if}
use Rattle.text_script.specs.Bodies.{act}
use Rattle.text_script.specs.Bodies.{acts, is_for_batches, is_for_collectives, other_meaning, script_meaning}
use Rattle.text_script.specs.LawfulBodies.{lawful-script}
use Rattle.text_script.specs.Registration.{JobHandlers, Registry, with_index, register, in_turn, registry_of}
use Rattle.text_script.specs.Registration.{body_among, body_for, registered_first}
use Rattle.law_traces.specs.Fitting.{AreNumbers, AreBytes, ContentFits, ReplyFits, FindsFitting, LeavesFitting}
use Rattle.law_traces.specs.Fitting.{WriteBytes}
use Rattle.law_traces.specs.Fitting.{IsFittingMeaning, IsFittingJob}
use Rattle.law_traces.proofs.Bytes.{bytes_append, bytes_none, bytes_part, bytes_word, bytes_written}
use Rattle.law_traces.proofs.Speaking.{numbers_set}

-- ---- numbers

wraps : (number : ℤ) → FitsSigned w32 (int_wrap w32 number)
unfolding int_wrap
wraps number = search rules

source_fits : (source : ℕ) → source < 2 ^ 16 → FitsSigned w32 (pos source)
source_fits source low = search rules

zero_fits : FitsSigned w32 (pos 0)
zero_fits = search rules

pub number_at : (numbers : List ℤ) (place : ℕ) → AreNumbers numbers
    → FitsSigned w32 (slice_index_or numbers place (pos 0))
number_at [] place all = zero_fits
number_at (number ∷ numbers) zero all = all.0
number_at (number ∷ numbers) (suc place) all = number_at numbers place all.1

operand_fits : (cells args : List ℤ) (one : Operand) → IsOperand Body one → AreNumbers cells → AreNumbers args
    → FitsSigned w32 (operand_value cells args one)
operand_fits cells args (operand.Number number) is all given = is
operand_fits cells args (operand.Cell cell) is all given = number_at cells cell all
operand_fits cells args (operand.Argument place) is all given = number_at args place given

operands_fit : (cells args : List ℤ) (operands : List Operand) → AllByRecursion (IsOperand Body) operands
    → AreNumbers cells → AreNumbers args → AreNumbers (map (operand_value cells args) operands)
operands_fit cells args [] is all given = tt
operands_fit cells args (one ∷ operands) is all given =
    (operand_fits cells args one is.0 all given, operands_fit cells args operands is.1 all given)

-- ---- bytes

pub said_bytes : (bytes : List ℕ) → AllByRecursion (λ (byte : ℕ). byte < 256) bytes → AreBytes bytes
said_bytes [] all place = bytes_none place
said_bytes (byte ∷ bytes) all zero = all.0
said_bytes (byte ∷ bytes) all (suc place) = said_bytes bytes all.1 place

-- the segment as an action finds it
found_bytes : (frame : Frame) (start : Start) (outcome : Outcome) → FindsFitting frame start → LeavesFitting outcome
    → AreBytes (segment_at start outcome)
found_bytes frame start outcome finds leaves = bytes_written start.segment outcome.writes finds.segment leaves.writes

placed_fit : (bytes segment : List ℕ) (place : Option (ℕ × ℕ)) → AreBytes bytes → AreBytes segment
    → AreBytes (placed_bytes bytes segment place)
placed_fit bytes segment None given all = given
placed_fit bytes segment (Some place) given all = bytes_part segment place.0 place.1 all

-- a payload, where there is one
abbrev HasBytes : Option (List ℕ) → Type 0
HasBytes None = Unit {0}
HasBytes (Some bytes) = AreBytes bytes

range_fit : (segment : List ℕ) (offset len : ℕ) → AreBytes segment → HasBytes (range_bytes segment offset len)
range_fit segment offset len all = elim (cases_Bool (nat_lt (length segment) (offset + len))) [
  | inl past ↦ rw past tt
  | inr inside ↦ rw inside (bytes_part segment offset len all)
]

payload_fit : (arrival : Arrival) (segment : List ℕ) (load : Payload) → IsBodyPayload load → AreBytes arrival.payload
    → AreBytes segment → HasBytes (payload_bytes arrival segment load)
payload_fit arrival segment (payload.Bytes bytes) is given all = said_bytes bytes is.1
payload_fit arrival segment (payload.Range offset len) is given all = range_fit segment offset len all
payload_fit arrival segment payload.Message is given all =
    placed_fit arrival.payload segment arrival.place given all

-- ---- replies

loaded_fit : (make : List ℕ → Content) (load : Option (List ℕ)) → HasBytes load
    → ((bytes : List ℕ) → AreBytes bytes → ContentFits (make bytes)) → ReplyFits (option_map make load)
loaded_fit make None has fits = tt
loaded_fit make (Some bytes) has fits = fits bytes has

replied_fits : (frame : Frame) (content : Content) (outcome : Outcome) (answered : Replied) → ContentFits content
    → LeavesFitting outcome → LeavesFitting (after_answer answered content outcome)
replied_fits frame content outcome replies_as.Sent fits leaves =
    record { cells = leaves.cells; writes = leaves.writes; reply = fits }
replied_fits frame content outcome (replies_as.Forbidden forbidden) fits leaves =
    record { cells = leaves.cells; writes = leaves.writes; reply = leaves.reply }
replied_fits frame content outcome (replies_as.BadArg part) fits leaves = leaves

replying_fits : (frame : Frame) (content : Option Content) (outcome : Outcome) → ReplyFits content
    → LeavesFitting outcome → LeavesFitting (replying_if frame content outcome)
replying_fits frame None outcome fits leaves = leaves
replying_fits frame (Some content) outcome fits leaves =
    replied_fits frame content outcome (answer frame content outcome) fits leaves

reply_fits : (frame : Frame) (start : Start) (outcome : Outcome) (asked : ReplyAction) → IsReply asked
    → FindsFitting frame start → LeavesFitting outcome
    → ReplyFits (reply_content frame.arrival (segment_at start outcome) (map (operand_at frame outcome)) asked)
reply_fits frame start outcome (reply.Short handler operands) is finds leaves = record {
  args = operands_fit outcome.cells frame.arrival.args operands is.0.1.2 leaves.cells finds.args;
  payload = bytes_none;
}
reply_fits frame start outcome (reply.Medium handler load operands) is finds leaves =
    loaded_fit _ (payload_bytes frame.arrival (segment_at start outcome) load)
    (payload_fit frame.arrival (segment_at start outcome) load is.0.1.0 finds.payload
    (found_bytes frame start outcome finds leaves))
    (λ bytes fit. record {
      args = operands_fit outcome.cells frame.arrival.args operands is.0.1.1.2 leaves.cells finds.args;
      payload = fit;
    })
reply_fits frame start outcome (reply.Long handler load offset operands) is finds leaves =
    loaded_fit _ (payload_bytes frame.arrival (segment_at start outcome) load)
    (payload_fit frame.arrival (segment_at start outcome) load is.0.1.0 finds.payload
    (found_bytes frame start outcome finds leaves))
    (λ bytes fit. record {
      args = operands_fit outcome.cells frame.arrival.args operands is.0.1.1.1.2 leaves.cells finds.args;
      payload = fit;
    })

-- ---- actions

cell_fits : (outcome : Outcome) (cell : ℕ) (number : ℤ) → FitsSigned w32 number → LeavesFitting outcome
    → LeavesFitting (with_cell outcome cell number)
cell_fits outcome cell number fits leaves = record {
  cells = numbers_set outcome.cells cell number leaves.cells fits;
  writes = leaves.writes;
  reply = leaves.reply;
}

keep_fits : (len offset : ℕ) (bytes : List ℕ) (outcome : Outcome) → AreBytes bytes → LeavesFitting outcome
    → LeavesFitting (writing_if (kept_write len offset bytes) outcome)
keep_fits len offset bytes outcome fit leaves =
    elim (cases_Bool ((length bytes == 0) || nat_lt len (offset + length bytes))) [
      | inl none ↦ rw none leaves
      | inr some ↦ rw some (record {
        cells = leaves.cells;
        writes = all_append (λ (write : Write). AreBytes write.bytes) outcome.writes
            (record { offset = offset; bytes = bytes } ∷ []) leaves.writes (fit, tt);
        reply = leaves.reply;
      })
    ]

act_fits : (frame : Frame) (start : Start) (outcome : Outcome) (one : Action) → IsAction one
    → FindsFitting frame start → LeavesFitting outcome → LeavesFitting (act frame start outcome one)
act_fits frame start outcome (action.Add cell number) is finds leaves = cell_fits outcome cell _ (wraps _) leaves
act_fits frame start outcome (action.SetCell cell number) is finds leaves =
    cell_fits outcome cell (operand_at frame outcome number)
    (operand_fits outcome.cells frame.arrival.args number is.0.1.0 leaves.cells finds.args) leaves
act_fits frame start outcome (action.Source cell) is finds leaves =
    cell_fits outcome cell (pos frame.arrival.source) (source_fits frame.arrival.source finds.source) leaves
act_fits frame start outcome (action.Sum cell) is finds leaves = cell_fits outcome cell _ (wraps _) leaves
act_fits frame start outcome (action.Keep offset) is finds leaves =
    keep_fits (length start.segment) offset frame.arrival.payload outcome finds.payload leaves
act_fits frame start outcome (action.Lock lock) is finds leaves =
    record { cells = leaves.cells; writes = leaves.writes; reply = leaves.reply }
act_fits frame start outcome (action.Unlock lock) is finds leaves =
    record { cells = leaves.cells; writes = leaves.writes; reply = leaves.reply }
act_fits frame start outcome (action.Attempt kind) is finds leaves =
    record { cells = leaves.cells; writes = leaves.writes; reply = leaves.reply }
act_fits frame start outcome (action.Reply asked) is finds leaves =
    replying_fits frame
    (reply_content frame.arrival (segment_at start outcome) (map (operand_at frame outcome)) asked) outcome
    (reply_fits frame start outcome asked is.0 finds leaves) leaves

acts_fit : (frame : Frame) (start : Start) (outcome : Outcome) (body : List Action) → AllByRecursion IsAction body
    → FindsFitting frame start → LeavesFitting outcome → LeavesFitting (acts frame start outcome body)
acts_fit frame start outcome [] is finds leaves = leaves
acts_fit frame start outcome (one ∷ body) is finds leaves =
    acts_fit frame start (act frame start outcome one) body is.1 finds
    (act_fits frame start outcome one is.0 finds leaves)

-- ---- the bodies of a job

-- each body is of such actions, and the table has 128 places
record IsRegistry (registry : Registry) : Type 0 where
  bodies : AllByRecursion (λ (body : ℕ × List Action). AllByRecursion IsAction body.1) registry.bodies
  places : length registry.table ≡ 128

index_is : (registry : Registry) (text : HandlerText) (given : Result ℕ EntryFault) → IsHandler text
    → IsRegistry registry → IsRegistry (with_index registry text given)
index_is registry text (Ok index) is holds = record {
  bodies = all_append (λ (body : ℕ × List Action). AllByRecursion IsAction body.1) registry.bodies
      ((index, text.body) ∷ []) holds.bodies (is.actions, tt);
  places = length-set registry.table _ _ ∙ holds.places;
}
index_is registry text (Err fault) is holds = holds

all_are : (registry : Registry) (texts : List HandlerText) → AllByRecursion IsHandler texts → IsRegistry registry
    → IsRegistry (fold register registry texts)
all_are registry [] is holds = holds
all_are registry (text ∷ texts) is holds =
    all_are (register registry text) texts is.1
    (index_is registry text (index_for registry.table text.index) is.0 holds)

all_filtered : {X : Type 0} (P : X → Type 0) (test : X → Bool) (xs : List X) → AllByRecursion P xs
    → AllByRecursion P (filter test xs)
all_filtered P test [] all = tt
all_filtered P test (x ∷ xs) all = elim (cases_Bool (test x)) [
  | inl passes ↦ rw passes (all.0, all_filtered P test xs all.1)
  | inr fails ↦ rw fails (all_filtered P test xs all.1)
]

-- no body is there at first
first_is : (atomics collect : Bool) → IsRegistry (registered_first atomics collect)
first_is true true = record { bodies = tt; places = refl }
first_is true false = record { bodies = tt; places = refl }
first_is false true = record { bodies = tt; places = refl }
first_is false false = record { bodies = tt; places = refl }

registered_is : (handlers : JobHandlers) → AllByRecursion IsHandler handlers.texts → IsRegistry (registry_of handlers)
registered_is handlers is =
    all_are (registered_first handlers.atomics handlers.collect) (in_turn handlers.texts)
    (all_append IsHandler (filter _ handlers.texts) (filter _ handlers.texts)
    (all_filtered IsHandler _ handlers.texts is) (all_filtered IsHandler _ handlers.texts is))
    (first_is handlers.atomics handlers.collect)

body_is : (bodies : List (ℕ × List Action)) (index : ℕ)
    → AllByRecursion (λ (body : ℕ × List Action). AllByRecursion IsAction body.1) bodies
    → AllByRecursion IsAction (body_among bodies index)
body_is [] index all = tt
body_is (body ∷ bodies) index all = elim (cases_Bool (body.0 == index)) [
  | inl here ↦ rw here all.0
  | inr later ↦ rw later (body_is bodies index all.1)
]

-- ---- batches

changes_fit : (segment : List ℕ) (ops : List WordOp) → WriteBytes (changes_of segment ops)
changes_fit segment [] = tt
changes_fit segment (word ∷ ops) = (
  bytes_word (applied_by (word_in segment word.offset) word),
  changes_fit (overwritten segment (change_of segment word)) ops,
)

words_fit : (numbers : List ℕ) → AreBytes (flat_map (to_le_bytes w64) numbers)
words_fit [] = bytes_none
words_fit (number ∷ numbers) =
    bytes_append (to_le_bytes w64 number) (flat_map (to_le_bytes w64) numbers) (bytes_word number) (words_fit numbers)

batch_fits : (frame : Frame) (segment : List ℕ) (said : Option BatchRequest) (outcome : Outcome)
    → LeavesFitting outcome → LeavesFitting (after_batch frame segment said outcome)
batch_fits frame segment None outcome leaves = leaves
batch_fits frame segment (Some request) outcome leaves =
    let acted : Outcome = record outcome { writes = outcome.writes ++ changes_of segment request.ops } in
    replied_fits frame (block_reply segment request) acted (answer frame (block_reply segment request) acted)
    (record { args = tt; payload = words_fit (olds_of segment request.ops ++ request.tag ∷ []) })
    (record {
      cells = leaves.cells;
      writes = all_append (λ (write : Write). AreBytes write.bytes) outcome.writes (changes_of segment request.ops)
          leaves.writes (changes_fit segment request.ops);
      reply = leaves.reply;
    })

served_fits : (handler : ℕ) (frame : Frame) (start : Start) (outcome : Outcome) → LeavesFitting outcome
    → LeavesFitting (outcome_of_batch handler frame start outcome)
served_fits handler frame start outcome leaves = by_handler (handler == batch_handler)
  where
    by_handler : (requests : Bool)
        → LeavesFitting (if requests then after_request frame start outcome else outcome)
    by_handler true =
        batch_fits frame (written_by start.segment outcome.writes) (request_for (length start.segment) frame.arrival)
        outcome leaves
    by_handler false = leaves

-- ---- collectives

header_fits : (segment : ℕ) (args : List ℤ) (place : Option (ℕ × ℕ)) → WriteBytes (header_for segment args place)
header_fits segment args None = tt
header_fits segment args (Some place) =
    by_test ((length args == 4) && (nat_le 16 place.0 && ((place.0 % 8 == 0) && nat_le place.0 segment)))
  where
    by_test : (good : Bool)
        → WriteBytes (if good then header_at place.0 (header_number args 0) (header_number args 2) else [])
    by_test true = (bytes_word (header_number args 0), (bytes_word (header_number args 2), tt))
    by_test false = tt

stamped_fits : (frame : Frame) (start : Start) (outcome : Outcome) → LeavesFitting outcome
    → LeavesFitting (outcome_of_piece frame start outcome)
stamped_fits frame start outcome leaves = record {
  cells = leaves.cells;
  writes = all_append (λ (write : Write). AreBytes write.bytes) outcome.writes
      (header_for (length start.segment) frame.arrival.args frame.arrival.place) leaves.writes
      (header_fits (length start.segment) frame.arrival.args frame.arrival.place);
  reply = leaves.reply;
}

-- ---- handlers

other_fits : (handlers : JobHandlers) → AllByRecursion IsHandler handlers.texts → (index : ℕ) (frame : Frame)
    (start : Start) → FindsFitting frame start → LeavesFitting (nothing_done start)
    → LeavesFitting (other_meaning handlers index frame start)
other_fits handlers is index frame start finds nothing = by_handler (is_for_collectives handlers index)
  where
    by_handler : (collective : Bool)
        → LeavesFitting
        (if collective then outcome_of_piece frame start (nothing_done start)
        else acts frame start (nothing_done start) (body_for handlers index))
    by_handler true = stamped_fits frame start (nothing_done start) nothing
    by_handler false =
        acts_fit frame start (nothing_done start) (body_for handlers index)
        (body_is (registry_of handlers).bodies index (registered_is handlers is).bodies) finds nothing

pub handlers_fit : (handlers : JobHandlers) → AllByRecursion IsHandler handlers.texts
    → IsFittingMeaning (script_meaning handlers)
handlers_fit handlers is index frame start finds = by_handler (is_for_batches handlers index)
  where
    nothing : LeavesFitting (nothing_done start)
    nothing = record { cells = finds.cells; writes = tt; reply = tt }

    by_handler : (batches : Bool)
        → LeavesFitting
        (if batches then outcome_of_batch index frame start (nothing_done start) else other_meaning handlers index frame start)
    by_handler true = served_fits index frame start (nothing_done start) nothing
    by_handler false = other_fits handlers is index frame start finds nothing

pub job_fits : (settings : Parameters) (handlers : JobHandlers)
    → AreInRange settings → settings.job < 2 ^ 64 → settings.last < 2 ^ 64
    → AllByRecursion IsHandler handlers.texts
    → IsFittingJob settings (registry_of handlers).table (script_meaning handlers)
job_fits settings handlers range job last is = record {
  range = range;
  job = job;
  last = last;
  indexes = let places = (registered_is handlers is).places in omega (arith, places);
  lawful = lawful-script handlers;
  fitting = handlers_fit handlers is;
}
