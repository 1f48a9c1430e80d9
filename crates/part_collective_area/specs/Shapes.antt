-- What a collective is, and the word that says it (this project's profile).
use Rattle.std.specs.Prelude.{ℕ, ◌+◌, ◌*◌, ◌^◌, ◌==◌, Bool, true, false}
use Rattle.part_collective_area.specs.declared.shape.CollectiveKind.{CollectiveKind}
use Rattle.part_collective_area.specs.declared.shape.CollectiveKind.TheVariants as kind
use Rattle.part_collective_area.specs.declared.shape.Shape.{Shape}

-- the number that stands for a kind
abbrev pub kind_code : CollectiveKind → ℕ
kind_code kind.Broadcast = 0
kind_code kind.Gather = 1
kind_code kind.AllGather = 2
kind_code kind.Sum = 3
kind_code kind.Min = 4
kind_code kind.Max = 5
kind_code kind.AllSum = 6
kind_code kind.AllMin = 7
kind_code kind.AllMax = 8

-- it takes words together
abbrev pub is_reduction : CollectiveKind → Bool
is_reduction kind.Broadcast = false
is_reduction kind.Gather = false
is_reduction kind.AllGather = false
is_reduction kind.Sum = true
is_reduction kind.Min = true
is_reduction kind.Max = true
is_reduction kind.AllSum = true
is_reduction kind.AllMin = true
is_reduction kind.AllMax = true

-- it has a root
abbrev pub has_root : CollectiveKind → Bool
has_root kind.Broadcast = true
has_root kind.Gather = true
has_root kind.AllGather = false
has_root kind.Sum = true
has_root kind.Min = true
has_root kind.Max = true
has_root kind.AllSum = false
has_root kind.AllMin = false
has_root kind.AllMax = false

-- the word that says a shape
abbrev pub shape_word : Shape → ℕ
shape_word shape = kind_code shape.kind * 2 ^ 48 + shape.root * 2 ^ 32 + shape.len

-- a node has a result
abbrev pub has_result : Shape → (node : ℕ) → Bool
has_result shape node = result_by shape.kind
  where
    result_by : CollectiveKind → Bool
    result_by kind.Broadcast = true
    result_by kind.Gather = node == shape.root
    result_by kind.AllGather = true
    result_by kind.Sum = node == shape.root
    result_by kind.Min = node == shape.root
    result_by kind.Max = node == shape.root
    result_by kind.AllSum = true
    result_by kind.AllMin = true
    result_by kind.AllMax = true

-- the result of the one node uses the bytes of the other
abbrev pub uses : Shape → (from to : ℕ) → Bool
uses shape from to = used_by shape.kind
  where
    used_by : CollectiveKind → Bool
    used_by kind.Broadcast = from == shape.root
    used_by kind.Gather = to == shape.root
    used_by kind.AllGather = true
    used_by kind.Sum = to == shape.root
    used_by kind.Min = to == shape.root
    used_by kind.Max = to == shape.root
    used_by kind.AllSum = true
    used_by kind.AllMin = true
    used_by kind.AllMax = true
