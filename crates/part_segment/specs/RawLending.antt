-- What the bytes end as once a part that was lent is given back.
use Rattle.std.specs.Prelude.{ℕ, List}
use Rattle.std.specs.Borrow.{Lends, MutBor, Fml, Array, u8}
use Rattle.part_segment.specs.declared.raw.Bytes.{Bytes}
use Rattle.part_segment.specs.contracts.raw.Bytes.{the_row}
use Rattle.part_segment.specs.Bytes.{with_lent}

abbrev pub with_written_run : Bytes → (offset len : ℕ) → List ℕ → Bytes
with_written_run bytes offset len written = record bytes { items = with_lent bytes.items offset len written }

abbrev pub LendsRun : MutBor Bytes → (offset len : ℕ) → MutBor (List ℕ) → Fml
LendsRun bytes offset len lent =
    Lends the_row (Array u8 0) bytes lent (with_written_run bytes.now offset len)
