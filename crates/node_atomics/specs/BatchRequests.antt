-- What a batch asks of the node that it is for. A message says it in one way, and what may be wrong with it is listed
-- (this project's profile).
use Rattle.std.specs.Prelude.{ℕ, zero, suc, ℤ, ◌+◌, ◌*◌, ◌/◌, ◌%◌, ◌==◌, ◌&&◌, nat_lt, nat_le, not, Bool}
use Rattle.std.specs.Prelude.{if◌then◌else◌, List, [], ◌∷◌, ◌++◌, length, take, drop, Option, None, Some, option_map}
use Rattle.std.specs.List.{flat_map, list_all}
use Rattle.std.specs.Int.{w64, to_be_bytes, from_be_bytes}
use Rattle.part_segment.specs.Bytes.{part}
use Rattle.wire_message.specs.Content.{Content, medium_request}
use Rattle.wire_message.specs.Notifications.{high_half, low_half, joined_halves, argument}
use Rattle.wire_message.specs.Parameters.{Parameters}
use Rattle.node_atomics.specs.declared.word.WordOp.{WordOp}
use Rattle.node_atomics.specs.declared.batch.BatchFault.{BatchFault}
use Rattle.node_atomics.specs.declared.batch.BatchFault.TheVariants as fault
use Rattle.node_atomics.specs.Words.{code_of, op_of}

-- the handler of requests of batches, and that of their replies
abbrev pub batch_handler : ℕ
batch_handler = 252

abbrev pub block_handler : ℕ
block_handler = 253

-- where the block of the reply goes in the requester's segment; a number that comes back with it; and the operations on
-- words of the segment of the node that is asked, in order
pub record BatchRequest : Type 0 where
  pub local : ℕ
  pub tag : ℕ
  pub ops : List WordOp

-- ---- as a message

-- 32 bytes: the number of the operation, the offset and the operands, 8 bytes each, big-endian
abbrev pub spelled_op : WordOp → List ℕ
spelled_op word =
    to_be_bytes w64 (code_of word.op) ++ (to_be_bytes w64 word.offset ++ (to_be_bytes w64 word.a
    ++ to_be_bytes w64 word.b))

abbrev pub spelled_ops : List WordOp → List ℕ
spelled_ops ops = flat_map spelled_op ops

-- the place of the block and the tag, each as two words with the upper half first
abbrev pub batch_arguments : (local tag : ℕ) → List ℤ
batch_arguments local tag = high_half local ∷ low_half local ∷ high_half tag ∷ low_half tag ∷ []

-- the request
abbrev pub batch_content : BatchRequest → Content
batch_content request =
    medium_request batch_handler (batch_arguments request.local request.tag) (spelled_ops request.ops)

-- ---- read again

-- the number that 8 bytes from there on spell
abbrev pub number_in : List ℕ → (at : ℕ) → ℕ
number_in bytes at = from_be_bytes w64 (part bytes at 8)

-- the operation that 32 bytes spell; none where no operation has that number
abbrev pub op_in : List ℕ → Option WordOp
op_in bytes =
    option_map
    (λ op. record { op = op; offset = number_in bytes 8; a = number_in bytes 16; b = number_in bytes 24 })
    (op_of (number_in bytes 0))

-- one operation before others, where all of them are there
abbrev pub with_first : Option WordOp → Option (List WordOp) → Option (List WordOp)
with_first None later = None
with_first (Some word) None = None
with_first (Some word) (Some later) = Some (word ∷ later)

-- the operations that so many times 32 bytes spell
abbrev pub ops_in : (count : ℕ) → List ℕ → Option (List WordOp)
ops_in zero bytes = Some []
ops_in (suc count) bytes = with_first (op_in (take 32 bytes)) (ops_in count (drop 32 bytes))

-- a batch has 1 to 64 operations
abbrev pub is_count : (count : ℕ) → Bool
is_count count = nat_lt 0 count && nat_le count 64

-- the operations that a payload spells: 1 to 64 of them
abbrev pub ops_said : List ℕ → Option (List WordOp)
ops_said bytes =
    if (length bytes % 32 == 0) && is_count (length bytes / 32) then ops_in (length bytes / 32) bytes else None

-- the number whose upper half is that argument, and its lower half the one behind it
abbrev pub number_of_halves : List ℤ → (place : ℕ) → ℕ
number_of_halves args place = joined_halves (argument args place) (argument args (place + 1))

-- what a message with these arguments and this payload asks, if it has four arguments and spells operations
abbrev pub request_said : List ℤ → (payload : List ℕ) → Option BatchRequest
request_said args payload =
    if length args == 4
    then option_map (λ ops. record { local = number_of_halves args 0; tag = number_of_halves args 2; ops = ops })
    (ops_said payload)
    else None

-- ---- what may be wrong

-- all words lie inside a segment of so many bytes
abbrev pub are_inside : (segment : ℕ) → List WordOp → Bool
are_inside segment ops = list_all (λ word. nat_le (word.offset + 8) segment) ops

-- how many bytes the block of the reply has: a word for each operation, and the tag
abbrev pub block_size : List WordOp → ℕ
block_size ops = 8 * length ops + 8

-- each word begins at a multiple of 8
abbrev pub are_words_aligned : List WordOp → Bool
are_words_aligned ops = list_all (λ word. word.offset % 8 == 0) ops

-- and so does the block
abbrev pub are_aligned : (local : ℕ) → List WordOp → Bool
are_aligned local ops = (local % 8 == 0) && are_words_aligned ops

-- the fault of the first line that applies
abbrev pub first_of_faults : List (Bool × BatchFault) → Option BatchFault
first_of_faults [] = None
first_of_faults (line ∷ rest) = if line.0 then Some line.1 else first_of_faults rest

-- what may be wrong with the places of a batch, where each segment has so many bytes: a word that passes the end of the
-- target's, a block that passes the end of the local one, and a place that isn't a multiple of 8
abbrev pub place_faults : (segment local : ℕ) → List WordOp → List (Bool × BatchFault)
place_faults segment local ops =
    (not (are_inside segment ops), fault.Offset)
    ∷ (nat_lt segment (local + block_size ops), fault.Local)
    ∷ (not (are_aligned local ops), fault.Unaligned)
    ∷ []

abbrev pub place_fault : (segment local : ℕ) → List WordOp → Option BatchFault
place_fault segment local ops = first_of_faults (place_faults segment local ops)

-- what may be wrong with a batch: its target is no node, it has no or too many operations, or one of its places
abbrev pub batch_fault : Parameters → (to : ℕ) → BatchRequest → Option BatchFault
batch_fault settings to request =
    first_of_faults ((nat_le settings.nodes to, fault.Node) ∷ (not (is_count (length request.ops)), fault.Count)
    ∷ place_faults settings.segment request.local request.ops)
