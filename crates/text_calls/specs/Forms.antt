-- The forms of lines, as data: which words follow a name, and what value they make.
use Rattle.std.specs.Prelude.{◌≡◌, ℕ, ℤ, zero, suc, ◌<◌, ◌≤◌, ◌-◌, ◌^◌, List, [], ◌∷◌, ◌++◌, length, Option, Some, None}
use Rattle.std.specs.Prelude.{Bool, true, nat_le, ◌==◌, slice_index, if◌then◌else◌, decimal}
use Rattle.std.specs.Prelude.{drop}
use Rattle.std.specs.Fmt.{signed_decimal}
use Rattle.std.specs.Int.{w32}
use Rattle.std.specs.Int.RustNames.{FitsSigned}
use Rattle.std.specs.List.{AllByRecursion, flat_map}
use Rattle.std.specs.Str.{bytes_eq}
use Rattle.base_text.specs.Lines.{Word, ◌>>=◌, first_word, behind_word, after_space, has_space}
use Rattle.base_text.specs.Words.{integer_of, integer_read, number_in}
use Rattle.text_calls.specs.Kinds.{operand_of, operand_word, IsOperand}
use Rattle.text_calls.specs.Kinds.{kind_word, named_kinds, IsNamed, role_word, all_roles, implicit_word, all_implicit}
use Rattle.text_calls.specs.Kinds.{op_word, collective_word, all_collectives}
use Rattle.text_calls.specs.Names.{first_named}
use Rattle.text_calls.specs.Payloads.{payload_of, body_payload_of, payload_word, IsPayload, IsBodyPayload}
use Rattle.base_text.specs.HexBytes.{bytes_of}
use Rattle.base_text.specs.HexBytes.{bytes_word, AreBytes}
use Rattle.part_transfers.specs.declared.operation.ImplicitKinds.{ImplicitKinds}
use Rattle.text_calls.specs.declared.values.Operand.{Operand}
use Rattle.text_calls.specs.declared.values.Operand.TheVariants as operand
use Rattle.text_calls.specs.declared.values.Payload.{Payload as PayloadValue}
use Rattle.text_calls.specs.declared.operands.NumberPlace.{NumberPlace}
use Rattle.text_calls.specs.declared.operands.NumberPlace.TheVariants.{Schedule, Body}
use Rattle.part_collective_area.specs.declared.shape.CollectiveKind.{CollectiveKind}
use Rattle.node_atomics.specs.declared.word.Op.{Op}
use Rattle.node_atomics.specs.Words.{all_ops}
use Rattle.node_atomics.specs.declared.word.WordOp.{WordOp}
use Rattle.node_vis.specs.declared.shapes.Level.{Level}
use Rattle.part_handlers.specs.declared.rules.CallKind.{CallKind}
use Rattle.part_handlers.specs.declared.rules.Role.{Role as HandlerRole}

-- ---- words

-- what a word of a line may be
pub data Part : Type 0 where
  Number : (low high : ℕ) → Part  -- a number of a range
  NumberOf : NumberPlace → Part  -- a number of an action: itself, or `cN`; in a handler's body also `aN`
  Kind : Part  -- a kind of call
  Role : Part  -- a handler's role
  Bytes : Part  -- bytes, as `x` and two digits for each
  Payload : Part  -- a payload of a schedule: bytes, or `OFF+LEN`
  BodyPayload : Part  -- a payload of a handler's body: also `p`
  Integer : Part  -- a number of 32 bits, itself
  Implicit : Part  -- implicit operations
  Operation : Part  -- an operation of remote atomics
  Collective : Part  -- a kind of collective

-- a number of a schedule or a script, and one of a handler's body
abbrev pub Value : Part
Value = NumberOf Schedule

abbrev pub BodyValue : Part
BodyValue = NumberOf Body

-- what such a word says
abbrev pub Meaning : Part → Type 0
Meaning (Number low high) = ℕ
Meaning (NumberOf place) = Operand
Meaning Kind = CallKind
Meaning Role = HandlerRole
Meaning Bytes = List ℕ
Meaning Payload = PayloadValue
Meaning BodyPayload = PayloadValue
Meaning Integer = ℤ
Meaning Implicit = ImplicitKinds
Meaning Operation = Op
Meaning Collective = CollectiveKind

-- the word that says it
abbrev pub word_text : (p : Part) → Meaning p → Word
word_text (Number low high) n = decimal n
word_text (NumberOf place) v = operand_word v
word_text Kind k = kind_word k
word_text Role r = role_word r
word_text Bytes bytes = bytes_word bytes
word_text Payload said = payload_word said
word_text BodyPayload said = payload_word said
word_text Integer n = signed_decimal n
word_text Implicit kind = implicit_word kind
word_text Operation op = op_word op
word_text Collective kind = collective_word kind

-- what can be said so
abbrev pub IsSaid : (p : Part) → Meaning p → Type 0
IsSaid (Number low high) n = (low ≤ n) × (n ≤ high) × (n < 2 ^ 64)
IsSaid (NumberOf place) v = IsOperand place v
IsSaid Kind k = IsNamed k
IsSaid Role r = Unit {0}
IsSaid Bytes bytes = AreBytes bytes
IsSaid Payload said = IsPayload said
IsSaid BodyPayload said = IsBodyPayload said
IsSaid Integer n = FitsSigned w32 n
IsSaid Implicit kind = Unit {0}
IsSaid Operation op = Unit {0}
IsSaid Collective kind = Unit {0}

-- what a word says
abbrev pub word_says : (p : Part) → Word → Option (Meaning p)
word_says (Number low high) word = number_in low high word
word_says (NumberOf place) word = operand_of place word
word_says Kind word = first_named kind_word named_kinds word
word_says Role word = first_named role_word all_roles word
word_says Bytes word = bytes_of word
word_says Payload word = payload_of word
word_says BodyPayload word = body_payload_of word
word_says Integer word = integer_of word
word_says Implicit word = first_named implicit_word all_implicit word
word_says Operation word = first_named op_word all_ops word
word_says Collective word = first_named collective_word all_collectives word

-- what the first word says, and the bytes after it
unfoldable pub word_at : (p : Part) → List ℕ → Option (Meaning p × List ℕ)
word_at p bytes = word_says p (first_word bytes) >>= λ x. Some (x, behind_word bytes)

-- the same behind a space
unfoldable pub part_at : (p : Part) → List ℕ → Option (Meaning p × List ℕ)
part_at p bytes = after_space bytes >>= word_at p

-- what the first word says as a number of a schedule, by the first byte
unfoldable pub value_read : List ℕ → Option (Operand × List ℕ)
value_read bytes = if slice_index bytes 0 == 99 then (word_at (Number 0 255) (drop 1 bytes) >>= λ x. Some
    (operand.Cell x.0, x.1)) else (integer_read bytes >>= λ x. Some (operand.Number x.0, x.1))

-- the same as a number of a handler's body
unfoldable pub body_value_read : List ℕ → Option (Operand × List ℕ)
body_value_read bytes = if slice_index bytes 0 == 97 then (word_at (Number 0 15) (drop 1 bytes) >>= λ x. Some
    (operand.Argument x.0, x.1)) else value_read bytes

-- as many as there are behind spaces, up to a number, where `at` reads one
unfoldable pub each_at : {A : Type 0} → (at : List ℕ → Option (A × List ℕ)) → (most : ℕ) → List ℕ
    → Option (List A × List ℕ)
each_at at zero bytes = Some ([], bytes)
each_at at (suc most) bytes =
    if has_space bytes then (at bytes >>= λ x. each_at at most x.1 >>= λ xs. Some (
      x.0 ∷ xs.0,
      xs.1,
    )) else Some ([], bytes)

-- as many such words
unfoldable pub parts_at : (p : Part) → (most : ℕ) → List ℕ → Option (List (Meaning p) × List ℕ)
parts_at p most bytes = each_at (part_at p) most bytes

-- a number of them
unfoldable pub many_at : (least most : ℕ) → (p : Part) → List ℕ → Option (List (Meaning p) × List ℕ)
many_at least most p bytes = parts_at p most bytes >>= λ xs. if nat_le least (length xs.0) then Some xs else None

-- a number of 64, of 16, and of 8 bits, and one below a count
abbrev pub U64 : Part
U64 = Number 0 (2 ^ 64 - 1)

abbrev pub U16 : Part
U16 = Number 0 65535

abbrev pub U8 : Part
U8 = Number 0 255

abbrev pub Below : ℕ → Part
Below count = Number 0 (count - 1)

-- ---- words that stand together

-- what they say
abbrev pub Together : List Part → Type 0
Together [] = Unit {0}
Together (p ∷ parts) = Meaning p × Together parts

-- the bytes that say it
abbrev pub together_text : (parts : List Part) → Together parts → List ℕ
together_text [] said = []
together_text (p ∷ parts) said = 32 ∷ (word_text p said.0 ++ together_text parts said.1)

-- what can be said so
abbrev pub AreTogether : (parts : List Part) → Together parts → Type 0
AreTogether [] said = Unit {0}
AreTogether (p ∷ parts) said = IsSaid p said.0 × AreTogether parts said.1

-- what the bytes say, and the bytes after them
abbrev pub together_at : (parts : List Part) → List ℕ → Option (Together parts × List ℕ)
together_at [] bytes = Some (tt, bytes)
together_at (p ∷ parts) bytes =
    part_at p bytes >>= λ x. together_at parts x.1 >>= λ xs. Some ((x.0, xs.0), xs.1)

-- what such words may be that come again and again
pub data Bundle : Type 0 where
  Operations : Bundle  -- an operation of remote atomics, the offset of its word and its two operands
  Strides : Bundle  -- a level of a strided transfer: how often, and the strides there and here
  Spans : Bundle  -- a range of a segment: its first byte and its length

abbrev pub parts_of : Bundle → List Part
parts_of Operations = Operation ∷ U64 ∷ U64 ∷ U64 ∷ []
parts_of Strides = U64 ∷ U64 ∷ U64 ∷ []
parts_of Spans = U64 ∷ U64 ∷ []

-- the value of them
abbrev pub BundleValue : Bundle → Type 0
BundleValue Operations = WordOp
BundleValue Strides = Level
BundleValue Spans = ℕ × ℕ

abbrev pub bundle_value : (b : Bundle) → Together (parts_of b) → BundleValue b
bundle_value Operations said = record { op = said.0; offset = said.1.0; a = said.1.1.0; b = said.1.1.1.0 }
bundle_value Strides said = record { count = said.0; remote = said.1.0; local = said.1.1.0 }
bundle_value Spans said = (said.0, said.1.0)

-- and the words of a value
abbrev pub bundle_words : (b : Bundle) → BundleValue b → Together (parts_of b)
bundle_words Operations word = (word.op, (word.offset, (word.a, (word.b, tt))))
bundle_words Strides level = (level.count, (level.remote, (level.local, tt)))
bundle_words Spans range = (range.0, (range.1, tt))

-- the bytes that say it
abbrev pub bundle_text : (b : Bundle) → BundleValue b → List ℕ
bundle_text b value = together_text (parts_of b) (bundle_words b value)

-- what can be said so
abbrev pub IsBundle : (b : Bundle) → BundleValue b → Type 0
IsBundle b value = AreTogether (parts_of b) (bundle_words b value)

-- what the bytes say, and the bytes after them
unfoldable pub bundle_at : (b : Bundle) → List ℕ → Option (BundleValue b × List ℕ)
bundle_at b bytes = together_at (parts_of b) bytes >>= λ x. Some (bundle_value b x.0, x.1)

-- a number of them
unfoldable pub bundles_at : (least most : ℕ) → (b : Bundle) → List ℕ → Option (List (BundleValue b) × List ℕ)
bundles_at least most b bytes =
    each_at (bundle_at b) most bytes >>= λ xs. if nat_le least (length xs.0) then Some xs else None

-- how many come first, these, and others: 1 to so many each
unfoldable pub split_at : (most : ℕ) → (b : Bundle) → List ℕ
    → Option ((List (BundleValue b) × List (BundleValue b)) × List ℕ)
split_at most b bytes =
    part_at (Number 1 most) bytes >>= λ count. bundles_at count.0 count.0 b count.1 >>= λ first.
    bundles_at 1 most b first.1 >>= λ others. Some ((first.0, others.0), others.1)

-- the bytes that say it
abbrev pub split_text : (b : Bundle) → List (BundleValue b) × List (BundleValue b) → List ℕ
split_text b v =
    32 ∷ (decimal (length v.0) ++ (flat_map (bundle_text b) v.0 ++ flat_map (bundle_text b) v.1))

-- ---- what follows a name

-- the words that follow a name
infixr 5 ◌▸◌
pub data Shape : Type 0 where
  End : Shape  -- nothing
  ◌▸◌ : Part → Shape → Shape  -- a word, and more
  Many : (least most : ℕ) → Part → Shape  -- such words to the end of the line
  Any : Part → Shape  -- such words to the end of the line, however many
  Bundles : (least most : ℕ) → Bundle → Shape  -- such words together, again and again to the end of the line
  Split : (most : ℕ) → Bundle → Shape  -- how many come first, these, and others to the end of the line
  Inner : Shape  -- a line of another table

-- what they say together, where X is what the other table says
abbrev pub Values : Type 0 → Shape → Type 0
Values X End = Unit {0}
Values X (p ▸ s) = Meaning p × Values X s
Values X (Many least most p) = List (Meaning p)
Values X (Any p) = List (Meaning p)
Values X (Bundles least most b) = List (BundleValue b)
Values X (Split most b) = List (BundleValue b) × List (BundleValue b)
Values X Inner = X

-- what makes an A of them
abbrev pub Maker : Type 0 → Shape → Type 0 → Type 0
Maker X End A = A
Maker X (p ▸ s) A = Meaning p → Maker X s A
Maker X (Many least most p) A = List (Meaning p) → A
Maker X (Any p) A = List (Meaning p) → A
Maker X (Bundles least most b) A = List (BundleValue b) → A
Maker X (Split most b) A = (first others : List (BundleValue b)) → A
Maker X Inner A = X → A

-- the A that it makes
abbrev pub value_made : (X : Type 0) → {A : Type 0} → (s : Shape) → Maker X s A → Values X s → A
value_made X End make v = make
value_made X (p ▸ s) make v = value_made X s (make v.0) v.1
value_made X (Many least most p) make v = make v
value_made X (Any p) make v = make v
value_made X (Bundles least most b) make v = make v
value_made X (Split most b) make v = make v.0 v.1
value_made X Inner make v = make v

-- what the bytes say, and the bytes after them, where at reads a line of the other table
abbrev pub values_at : {X : Type 0} → (at : List ℕ → Option (X × List ℕ)) → (s : Shape) → List ℕ → Option (Values X s
    × List ℕ)
values_at at End bytes = Some (tt, bytes)
values_at at (p ▸ s) bytes = part_at p bytes >>= λ x. values_at at s x.1 >>= λ xs. Some ((x.0, xs.0), xs.1)
values_at at (Many least most p) bytes = many_at least most p bytes
values_at at (Any p) bytes = parts_at p (length bytes) bytes
values_at at (Bundles least most b) bytes = bundles_at least most b bytes
values_at at (Split most b) bytes = split_at most b bytes
values_at at Inner bytes = after_space bytes >>= at

-- the bytes that say it, where text writes a line of the other table
abbrev pub values_text : {X : Type 0} → (text : X → List ℕ) → (s : Shape) → Values X s → List ℕ
values_text text End v = []
values_text text (p ▸ s) v = 32 ∷ (word_text p v.0 ++ values_text text s v.1)
values_text text (Many least most p) v = flat_map (λ x. 32 ∷ word_text p x) v
values_text text (Any p) v = flat_map (λ x. 32 ∷ word_text p x) v
values_text text (Bundles least most b) v = flat_map (bundle_text b) v
values_text text (Split most b) v = split_text b v
values_text text Inner v = 32 ∷ text v

-- what can be said so
abbrev pub AreSaid : {X : Type 0} → (fits : X → Type 0) → (s : Shape) → Values X s → Type 0
AreSaid fits End v = Unit {0}
AreSaid fits (p ▸ s) v = IsSaid p v.0 × AreSaid fits s v.1
AreSaid fits (Many least most p) v = (least ≤ length v) × (length v ≤ most) × AllByRecursion (IsSaid p) v
AreSaid fits (Any p) v = AllByRecursion (IsSaid p) v
AreSaid fits (Bundles least most b) v = (least ≤ length v) × (length v ≤ most) × AllByRecursion (IsBundle b) v
AreSaid fits (Split most b) v =
    IsSaid (Number 1 most) (length v.0) × AllByRecursion (IsBundle b) v.0 × (1 ≤ length v.1) × (length v.1 ≤ most)
    × AllByRecursion (IsBundle b) v.1
AreSaid fits Inner v = fits v

-- ---- tables

-- a form of line: its name, the words after it, and what they make
pub record Row (X A : Type 0) : Type 0 where
  pub name : Word
  pub shape : Shape
  pub make : Maker X shape A

-- a row, and what the words of a line say
pub record Entry (X A : Type 0) : Type 0 where
  pub row : Row X A
  pub values : Values X row.shape

-- what a row makes of the bytes after its name
abbrev pub row_at : {X A : Type 0} → (at : List ℕ → Option (X × List ℕ)) → Row X A → List ℕ → Option (A × List ℕ)
row_at {X} at row bytes = values_at at row.shape bytes >>= λ v. Some (value_made X row.shape row.make v.0, v.1)

-- what the row of this name makes of the bytes after it
abbrev pub named_at : {X A : Type 0} → (at : List ℕ → Option (X × List ℕ)) → List (Row X A) → (name : Word) → List ℕ
    → Option (A × List ℕ)
named_at at [] name bytes = None
named_at at (row ∷ rows) name bytes = if bytes_eq name row.name then row_at at row bytes else named_at at rows name
    bytes

-- what passes a test
abbrev pub if_passes : {A : Type 0} → (A → Bool) → A × List ℕ → Option (A × List ℕ)
if_passes test x = if test x.0 then Some x else None

-- what a table makes of bytes, and the bytes after them
abbrev pub table_at : {X A : Type 0} → (at : List ℕ → Option (X × List ℕ)) → List (Row X A) → (A → Bool) → List ℕ
    → Option (A × List ℕ)
table_at at rows test bytes = named_at at rows (first_word bytes) (behind_word bytes) >>= if_passes test

-- the bytes of an entry
abbrev pub entry_text : {X A : Type 0} → (text : X → List ℕ) → Entry X A → List ℕ
entry_text text e = e.row.name ++ values_text text e.row.shape e.values

-- an entry whose words can be said
abbrev pub IsEntry : {X A : Type 0} → (fits : X → Type 0) → Entry X A → Type 0
IsEntry fits e = AreSaid fits e.row.shape e.values

-- what can be said by a table
abbrev pub IsOf : {X A : Type 0} → (X → Type 0) → (A → Entry X A) → (A → Bool) → A → Type 0
IsOf fits entry test a = IsEntry fits (entry a) × (test a ≡ true)

-- ---- what tables share

-- a table with no other table in it
abbrev pub none_at : List ℕ → Option (⊥ × List ℕ)
none_at bytes = None

abbrev pub none_text : ⊥ → List ℕ
none_text x = absurd x

abbrev pub none_fits : ⊥ → Type 0
none_fits x = ⊥
