use Rattle.std.proofs.Common.{ℕ, List, refl, ap, ◌∙◌}
use Rattle.std.specs.List.{refill}
use Rattle.part_window.proofs.block.Part.bytes_mut.Goals as goal

pub returns : goal.returns
returns c = (
  (
    refl,
    λ w. ap (λ (n : ℕ). refill n c.self.inside.bytes.items w) c.self.invariant
        ∙ ap (λ (b : List ℕ). refill 8296 b w) c.self.view_is,
  ),
  record {
    writes_back = tt;
    value = c.as_mut_slice.ensures.value
        ∙ c.self.view_is;
    len = ap Rattle.std.specs.Prelude.length c.as_mut_slice.ensures.value ∙ c.self.invariant;
  },
)
