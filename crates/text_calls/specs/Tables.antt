-- Tables of forms in code.
use Rattle.std.specs.Prelude.{◌≡◌, ℕ, ◌+◌, Bool, ◌&&◌, nat_le, ◌==◌}
use Rattle.base_text.specs.Lines.{Word}
use Rattle.text_calls.specs.Forms.{Shape, End, ◌▸◌, Many, Any, Bundles, Split, Inner, Operations, Row}
use Rattle.text_calls.specs.FormTests.{are_bundles}
pub use Rattle.text_calls.specs.Names.{first_named}
use Rattle.text_calls.specs.declared.tables.WordCount.{WordCount}
use Rattle.text_calls.specs.declared.tables.WordCount.TheVariants as counts

-- whether so many words may follow the name
abbrev pub fits : WordCount → (words : ℕ) → Bool
fits (counts.Exactly count) words = words == count
fits (counts.Between least most) words = nat_le least words && nat_le words most
fits (counts.Operations before) words = are_bundles before 1 16 4 words

-- a shape whose words are told by their count alone, where n words came before
abbrev pub IsCounted : (n : ℕ) → Shape → WordCount → Type 0
IsCounted n End count = count ≡ counts.Exactly n
IsCounted n (p ▸ s) count = IsCounted (n + 1) s count
IsCounted n (Many least most p) count = count ≡ counts.Between (n + least) (n + most)
IsCounted n (Any p) count = ⊥
IsCounted n (Bundles least most b) count =
    (count ≡ counts.Operations n) × (least ≡ 1) × (most ≡ 16) × (b ≡ Operations)
IsCounted n (Split most b) count = ⊥
IsCounted n Inner count = ⊥

-- the name and the count that the code has of a row
pub record IsRow {X A : Type 0} (row : Row X A) (name : Word) (count : WordCount) : Type 0 where
  pub name_is : name ≡ row.name
  pub count_is : IsCounted 0 row.shape count
