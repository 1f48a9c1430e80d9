-- The words of a line, as they are written.
use Rattle.std.specs.Prelude.{ℕ, List, [], ◌∷◌, ◌++◌, codes, decimal}
use Rattle.std.specs.Fmt.{signed_decimal}
use Rattle.std.specs.List.{flat_map}
use Rattle.base_text.specs.HexBytes.{bytes_word}
use Rattle.text_calls.specs.Payloads.{payload_word}
use Rattle.text_calls.specs.Kinds.{collective_word, implicit_word, kind_word, op_word, operand_word}
use Rattle.text_calls.specs.Kinds.{role_word}
use Rattle.node_vis.specs.declared.shapes.Way.{Way}
use Rattle.node_vis.specs.declared.shapes.Way.TheVariants.{Put, Get}
use Rattle.text_calls.specs.Forms.{Operations, Spans, Strides, bundle_text}
use Rattle.text_job.specs.Places.{setting_name}
use Rattle.text_print.specs.declared.head.NumberLine.{NumberLine}
use Rattle.text_print.specs.declared.words.Word.{Word}
use Rattle.text_print.specs.declared.words.Word.TheVariants as word
use Rattle.text_print.specs.declared.forms.Last.{Last}
use Rattle.text_print.specs.declared.forms.Last.TheVariants as last

-- the bytes of a word
abbrev pub word_bytes : Word → List ℕ
word_bytes (word.U8 number) = decimal number
word_bytes (word.U16 number) = decimal number
word_bytes (word.U32 number) = decimal number
word_bytes (word.U64 number) = decimal number
word_bytes (word.Integer number) = signed_decimal number
word_bytes (word.Value operand) = operand_word operand
word_bytes (word.Kind kind) = kind_word kind
word_bytes (word.Role role) = role_word role
word_bytes (word.Implicit which) = implicit_word which
word_bytes (word.Operation op) = op_word op
word_bytes (word.Collective kind) = collective_word kind
word_bytes (word.Bytes bytes) = bytes_word bytes.now
word_bytes (word.Payload payload) = payload_word payload.now

-- a space and the bytes of a word
abbrev pub spaced_word : Word → List ℕ
spaced_word word = 32 ∷ word_bytes word

-- a space and each word of a list
abbrev pub last_text : Last → List ℕ
last_text last.Nothing = []
last_text (last.Operands operands) = flat_map (λ operand. 32 ∷ operand_word operand) operands.now
last_text (last.Registers registers) = flat_map (λ register. 32 ∷ decimal register) registers.now
last_text (last.Locks locks) = flat_map (λ lock. 32 ∷ decimal lock) locks.now
last_text (last.WordOps ops) = flat_map (bundle_text Operations) ops.now
last_text (last.Levels levels) = flat_map (bundle_text Strides) levels.now
last_text (last.Ranges remote local) =
    flat_map (bundle_text Spans) remote.now ++ flat_map (bundle_text Spans) local.now

-- a space and a word for each, and then these bytes
abbrev pub words_then : List Word → List ℕ → List ℕ
words_then [] bytes = bytes
words_then (word ∷ words) bytes = 32 ∷ (word_bytes word ++ words_then words bytes)

-- the line of a setting
abbrev pub number_line : NumberLine → List ℕ
number_line line = setting_name line.0 ++ words_then (line.1 ∷ []) []

-- the names of strided and of indexed transfers
abbrev pub strided_name : Way → List ℕ
strided_name Put = codes "put-s"
strided_name Get = codes "get-s"

abbrev pub indexed_name : Way → List ℕ
indexed_name Put = codes "put-v"
indexed_name Get = codes "get-v"
