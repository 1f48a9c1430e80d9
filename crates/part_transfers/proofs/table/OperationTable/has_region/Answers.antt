use Rattle.std.proofs.Common.{sym, ap, ◌∙◌}
use Rattle.std.specs.List.{sum_by}
use Rattle.part_transfers.specs.declared.table.Pick.TheVariants as pick
use Rattle.part_transfers.specs.Table.{fits_pick, regions_of}
use Rattle.part_transfers.proofs.Places.{no_region}
use Rattle.part_transfers.proofs.Members.{any_plain}
use Rattle.part_transfers.proofs.table.OperationTable.has_region.Goals as goal

pub returns-then-self-eq0 : goal.returns-then-self-eq0
returns-then-self-eq0 c =
    sym (no_region c.args.self.now c.args.name
    (ap (sum_by regions_of) (sym c.self.view_is) ∙ (sym c.self.invariant.regions ∙ c.if-self-eq0.true)))

pub returns : goal.returns
returns c = c.any_passes.ensures ∙ any_plain (fits_pick (pick.Region c.args.name)) c.args.self.now
