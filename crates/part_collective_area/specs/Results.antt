-- What the nodes give to a collective, and what each of them gets (this project's profile).
use Rattle.std.specs.Prelude.{ℕ, zero, suc, ◌+◌, ◌*◌, ◌/◌, ◌%◌, ◌^◌, ◌==◌, if◌then◌else◌, min, max, List, [], ◌∷◌, ◌++◌}
use Rattle.std.specs.Prelude.{None, Some, slice_get, fold}
use Rattle.std.specs.List.{flat_map}
use Rattle.std.specs.Int.{w64, to_le_bytes, from_le_bytes}
use Rattle.part_segment.specs.Bytes.{part}
use Rattle.part_collective_area.specs.declared.shape.CollectiveKind.{CollectiveKind}
use Rattle.part_collective_area.specs.declared.shape.CollectiveKind.TheVariants as kind
use Rattle.part_collective_area.specs.declared.shape.Shape.{Shape}

-- what a node starts a phase with: the shape, and the bytes of its source range then
pub record Contribution : Type 0 where
  pub shape : Shape
  pub bytes : List ℕ

-- the bytes of a node
abbrev pub contribution_of : List (List ℕ) → (node : ℕ) → List ℕ
contribution_of given node = elim (slice_get given node) [ Some bytes ↦ bytes | None ↦ [] ]

-- ---- words, taken together

abbrev pub sum_of : (one other : ℕ) → ℕ
sum_of one other = (one + other) % 2 ^ 64

-- how a reduction takes two words together
abbrev pub combination : CollectiveKind → (one other : ℕ) → ℕ
combination kind.Min one other = min one other
combination kind.AllMin one other = min one other
combination kind.Max one other = max one other
combination kind.AllMax one other = max one other
combination other_kind one other = sum_of one other

-- the word at a place of bytes, little-endian
abbrev pub word_at_place : (place : ℕ) → List ℕ → ℕ
word_at_place place bytes = from_le_bytes w64 (part bytes (8 * place) 8)

-- the words of all nodes at a place, taken together
abbrev pub together_at : (ℕ → ℕ → ℕ) → List (List ℕ) → (place : ℕ) → ℕ
together_at with [] place = 0
together_at with (first ∷ others) place = fold (λ word bytes. with word (word_at_place place bytes)) (word_at_place place first) others

-- at this place and the next ones, so many
abbrev pub together_from : (ℕ → ℕ → ℕ) → List (List ℕ) → (place count : ℕ) → List ℕ
together_from with given place zero = []
together_from with given place (suc count) =
    to_le_bytes w64 (together_at with given place) ++ together_from with given (suc place) count

-- the bytes of all nodes, taken together word by word
abbrev pub together : (ℕ → ℕ → ℕ) → (len : ℕ) → List (List ℕ) → List ℕ
together with len given = together_from with given 0 (len / 8)

-- ---- results

-- only the root gets this
abbrev pub at_root : Shape → (node : ℕ) → List (List ℕ) → List (List ℕ)
at_root shape node pieces = if node == shape.root then pieces else []

-- what a node gets, in the pieces in which it is written, where all nodes started with this shape and gave these bytes,
-- in the order of the nodes
abbrev pub pieces_by : CollectiveKind → Shape → List (List ℕ) → (node : ℕ) → List (List ℕ)
pieces_by kind.Broadcast shape given node = contribution_of given shape.root ∷ []
pieces_by kind.Gather shape given node = at_root shape node given
pieces_by kind.AllGather shape given node = given
pieces_by kind.Sum shape given node = at_root shape node (together sum_of shape.len given ∷ [])
pieces_by kind.Min shape given node = at_root shape node (together min shape.len given ∷ [])
pieces_by kind.Max shape given node = at_root shape node (together max shape.len given ∷ [])
pieces_by kind.AllSum shape given node = together sum_of shape.len given ∷ []
pieces_by kind.AllMin shape given node = together min shape.len given ∷ []
pieces_by kind.AllMax shape given node = together max shape.len given ∷ []

abbrev pub pieces_of : Shape → List (List ℕ) → (node : ℕ) → List (List ℕ)
pieces_of shape given node = pieces_by shape.kind shape given node

-- the bytes that it gets
abbrev pub result_of : Shape → List (List ℕ) → (node : ℕ) → List ℕ
result_of shape given node = flat_map (λ bytes. bytes) (pieces_of shape given node)

-- how many there are among so many nodes
abbrev pub len_at_root : Shape → (node len : ℕ) → ℕ
len_at_root shape node len = if node == shape.root then len else 0

abbrev pub len_by : CollectiveKind → Shape → (nodes node : ℕ) → ℕ
len_by kind.Broadcast shape nodes node = shape.len
len_by kind.Gather shape nodes node = len_at_root shape node (nodes * shape.len)
len_by kind.AllGather shape nodes node = nodes * shape.len
len_by kind.Sum shape nodes node = len_at_root shape node shape.len
len_by kind.Min shape nodes node = len_at_root shape node shape.len
len_by kind.Max shape nodes node = len_at_root shape node shape.len
len_by kind.AllSum shape nodes node = shape.len
len_by kind.AllMin shape nodes node = shape.len
len_by kind.AllMax shape nodes node = shape.len

abbrev pub result_len : Shape → (nodes node : ℕ) → ℕ
result_len shape nodes node = len_by shape.kind shape nodes node
