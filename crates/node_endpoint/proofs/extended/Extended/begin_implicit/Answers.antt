use Rattle.std.proofs.Common.{◌≡◌, ap, sym, ◌∙◌, true, false}
use Rattle.part_transfers.specs.declared.operation.Mode.TheVariants.{InRegion}
use Rattle.part_transfers.specs.Regions.{has_begun}
use Rattle.node_rules.specs.TransferCalls.{implicit_mode}
use Rattle.node_endpoint.proofs.Beginnings.{implicit_begins}
use Rattle.node_endpoint.proofs.extended.Extended.begin_implicit.Goals as goal
use Rattle.node_endpoint.proofs.extended.Extended.begin_implicit.Goals.{then-is_begun, else-is_begun}

pub returns : goal.returns
returns c =
    let regions = c.args.self.now.regions in
    let mode_is : c.if-is_begun.mode ≡ implicit_mode regions c.args.thread = elim c.if-is_begun.branch [
      | then-is_begun w ↦
          (let begun : has_begun regions c.args.thread ≡ true = sym c.is_begun.ensures ∙ w.if-is_begun.true in
          rw begun (w.mode-is ∙ ap (λ n. InRegion n) w.name.ensures))
      | else-is_begun w ↦
          (let none : has_begun regions c.args.thread ≡ false = sym c.is_begun.ensures ∙ w.if-is_begun.false in
          rw none w.mode-is)
    ] in
    implicit_begins (record { core = c.args.core.now; extended = c.args.self.now })
    (record { core = c.begun-says.new.core; extended = c.begun-says.new.self }) c.args.thread c.args.transfer.now
    c.if-is_begun.mode c.begun-says.result c.name_region.new.regions mode_is c.begun-says.ensures
    c.name_region.ensures
