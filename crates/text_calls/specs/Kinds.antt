-- The words of operands, of kinds of calls, of roles and of operations.
use Rattle.std.specs.Prelude.{List, [], ◌<◌, ◌∷◌, Option, Some, codes, decimal, drop, slice_index, ◌==◌}
use Rattle.std.specs.Prelude.{if◌then◌else◌}
use Rattle.std.specs.Int.{w32}
use Rattle.std.specs.Int.RustNames.{FitsSigned}
use Rattle.std.specs.Fmt.{signed_decimal}
use Rattle.base_text.specs.Lines.{Word, ◌>>=◌}
use Rattle.base_text.specs.Words.{number_in, integer_of}
use Rattle.part_transfers.specs.declared.operation.ImplicitKinds.{ImplicitKinds}
use Rattle.part_transfers.specs.declared.operation.ImplicitKinds.TheVariants as implicit
use Rattle.text_calls.specs.declared.values.Operand.{Operand}
use Rattle.text_calls.specs.declared.values.Operand.TheVariants as operand
use Rattle.text_calls.specs.declared.operands.NumberPlace.{NumberPlace}
use Rattle.text_calls.specs.declared.operands.NumberPlace.TheVariants.{Schedule, Body}
use Rattle.part_collective_area.specs.declared.shape.CollectiveKind.{CollectiveKind}
use Rattle.part_collective_area.specs.declared.shape.CollectiveKind.TheVariants as collective
use Rattle.node_atomics.specs.declared.word.Op.{Op}
use Rattle.node_atomics.specs.declared.word.Op.TheVariants as op
use Rattle.part_handlers.specs.declared.rules.CallKind.{CallKind}
use Rattle.part_handlers.specs.declared.rules.CallKind.TheVariants as kind
use Rattle.part_handlers.specs.declared.rules.Role.{Role}
use Rattle.part_handlers.specs.declared.rules.Role.TheVariants as role

-- a number of a schedule: itself, or `cN`
unfoldable pub schedule_operand : Word → Option Operand
schedule_operand word = if slice_index word 0 == 99 then (number_in 0 255 (drop 1 word) >>= λ n. Some
    (operand.Cell n)) else (integer_of word >>= λ z. Some (operand.Number z))

-- a number of a handler's body: also `aN`
unfoldable pub body_operand : Word → Option Operand
body_operand word = if slice_index word 0 == 97 then (number_in 0 15 (drop 1 word) >>= λ n. Some
    (operand.Argument n)) else schedule_operand word

-- a number of an action at a place
abbrev pub operand_of : NumberPlace → Word → Option Operand
operand_of Schedule word = schedule_operand word
operand_of Body word = body_operand word

-- the word of a number of an action
abbrev pub operand_word : Operand → Word
operand_word (operand.Number n) = signed_decimal n
operand_word (operand.Cell cell) = 99 ∷ decimal cell
operand_word (operand.Argument place) = 97 ∷ decimal place

-- a number of an action at a place
abbrev pub IsOperand : NumberPlace → Operand → Type 0
IsOperand place (operand.Number n) = FitsSigned w32 n
IsOperand place (operand.Cell cell) = cell < 256
IsOperand Schedule (operand.Argument argument) = ⊥
IsOperand Body (operand.Argument argument) = argument < 16

-- the word of a kind of call; the last three have none in a text
abbrev pub kind_word : CallKind → Word
kind_word kind.Request = codes "request"
kind_word kind.Reply = codes "reply"
kind_word kind.Poll = codes "poll"
kind_word kind.Transfer = codes "transfer"
kind_word kind.Sync = codes "sync"
kind_word kind.Region = codes "region"
kind_word kind.Barrier = codes "barrier"
kind_word kind.Source = codes "source"
kind_word kind.Lock = []
kind_word kind.Unlock = []
kind_word kind.Return = []

-- the kinds of calls that have a word
abbrev pub IsNamed : CallKind → Type 0
IsNamed kind.Lock = ⊥
IsNamed kind.Unlock = ⊥
IsNamed kind.Return = ⊥
IsNamed k = Unit {0}

-- these kinds, in the order in which a word is looked up
abbrev pub named_kinds : List CallKind
named_kinds =
    kind.Request ∷ kind.Reply ∷ kind.Poll ∷ kind.Transfer ∷ kind.Sync ∷ kind.Region ∷ kind.Barrier ∷ kind.Source
    ∷ []

-- the word of a role
abbrev pub role_word : Role → Word
role_word role.Request = codes "request"
role_word role.Reply = codes "reply"

-- the roles, in the order in which a word is looked up
abbrev pub all_roles : List Role
all_roles = role.Request ∷ role.Reply ∷ []

-- the word of implicit operations (GASNet 1.8.1, extended API: gasnet_try_syncnbi_puts, _gets and _all)
abbrev pub implicit_word : ImplicitKinds → Word
implicit_word implicit.Puts = codes "puts"
implicit_word implicit.Gets = codes "gets"
implicit_word implicit.All = codes "all"

-- the implicit operations, in that order
abbrev pub all_implicit : List ImplicitKinds
all_implicit = implicit.Puts ∷ implicit.Gets ∷ implicit.All ∷ []

-- the word of an operation of remote atomics
abbrev pub op_word : Op → Word
op_word op.Get = codes "get"
op_word op.Swap = codes "swap"
op_word op.CompareSwap = codes "cas"
op_word op.Add = codes "add"
op_word op.Sub = codes "sub"
op_word op.And = codes "and"
op_word op.Or = codes "or"
op_word op.Xor = codes "xor"
op_word op.Min = codes "min"
op_word op.Max = codes "max"

-- the word of a kind of collective
abbrev pub collective_word : CollectiveKind → Word
collective_word collective.Broadcast = codes "broadcast"
collective_word collective.Gather = codes "gather"
collective_word collective.AllGather = codes "all-gather"
collective_word collective.Sum = codes "sum"
collective_word collective.Min = codes "min"
collective_word collective.Max = codes "max"
collective_word collective.AllSum = codes "all-sum"
collective_word collective.AllMin = codes "all-min"
collective_word collective.AllMax = codes "all-max"

-- the kinds of collectives, in that order
abbrev pub all_collectives : List CollectiveKind
all_collectives =
    collective.Broadcast ∷ collective.Gather ∷ collective.AllGather ∷ collective.Sum ∷ collective.Min
    ∷ collective.Max ∷ collective.AllSum ∷ collective.AllMin ∷ collective.AllMax ∷ []
