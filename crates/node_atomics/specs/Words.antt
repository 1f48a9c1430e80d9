-- Operations on words of 64 bits, and what they make of one (this project's profile).
use Rattle.std.specs.Prelude.{ℕ, ◌+◌, ◌-◌, ◌%◌, ◌^◌, ◌<◌, ◌==◌, if◌then◌else◌, min, max, bit_and, bit_or, bit_xor}
use Rattle.std.specs.Prelude.{List, [], ◌∷◌, Option, slice_get}
use Rattle.std.specs.List.{AllByRecursion}
use Rattle.node_atomics.specs.declared.word.Op.{Op}
use Rattle.node_atomics.specs.declared.word.Op.TheVariants as op
use Rattle.node_atomics.specs.declared.word.WordOp.{WordOp}

-- what an operation makes of a word
abbrev pub word_after : Op → (old a b : ℕ) → ℕ
word_after op.Get old a b = old
word_after op.Swap old a b = a
word_after op.CompareSwap old a b = if old == a then b else old
word_after op.Add old a b = (old + a) % 2 ^ 64
word_after op.Sub old a b = (old + (2 ^ 64 - a)) % 2 ^ 64
word_after op.And old a b = bit_and old a
word_after op.Or old a b = bit_or old a
word_after op.Xor old a b = bit_xor old a
word_after op.Min old a b = min old a
word_after op.Max old a b = max old a

-- the same, with its operands
abbrev pub applied_by : (old : ℕ) → WordOp → ℕ
applied_by old word = word_after word.op old word.a word.b

-- the numbers of an operation have 64 bits
pub record Has64Bits (word : WordOp) : Type 0 where
  pub offset : word.offset < 2 ^ 64
  pub a : word.a < 2 ^ 64
  pub b : word.b < 2 ^ 64

-- so have those of all of these
abbrev pub AllHave64Bits : List WordOp → Type 0
AllHave64Bits ops = AllByRecursion Has64Bits ops

-- ---- in messages

-- the number that stands for an operation
abbrev pub code_of : Op → ℕ
code_of op.Get = 0
code_of op.Swap = 1
code_of op.CompareSwap = 2
code_of op.Add = 3
code_of op.Sub = 4
code_of op.And = 5
code_of op.Or = 6
code_of op.Xor = 7
code_of op.Min = 8
code_of op.Max = 9

-- all operations, in the order of these numbers
abbrev pub all_ops : List Op
all_ops =
    op.Get ∷ op.Swap ∷ op.CompareSwap ∷ op.Add ∷ op.Sub ∷ op.And ∷ op.Or ∷ op.Xor ∷ op.Min ∷ op.Max ∷ []

-- the operation for which a number stands, if any
abbrev pub op_of : (code : ℕ) → Option Op
op_of code = slice_get all_ops code
