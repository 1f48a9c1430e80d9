use Rattle.std.proofs.Common.{refl, sym, ◌∙◌}
use Rattle.part_transfers.proofs.transfers.Transfers.members.Goals as goal

pub returns-then-has_region : goal.returns-then-has_region
returns-then-has_region c there = rw (sym c.has_region.ensures ∙ c.if-has_region.true) refl

pub returns-else-has_region : goal.returns-else-has_region
returns-else-has_region c there = rw (sym c.has_region.ensures ∙ c.if-has_region.false) refl
