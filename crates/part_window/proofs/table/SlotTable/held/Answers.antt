use Rattle.std.proofs.Common.{◌<◌, ap, sym}
use Rattle.std.proofs.Common.{◌∙◌, arith}
use Rattle.std.specs.Prelude.{count_by}
use Rattle.part_window.specs.TableState.{TableState, is_taken}
use Rattle.part_window.proofs.Masks.{held-small}
use Rattle.part_window.proofs.TableViewed.{taken-views}
use Rattle.part_window.proofs.table.SlotTable.held.Goals as goal

pub returns-clause-count : goal.returns-clause-count
returns-clause-count c =
    c.self.invariant.0.counted
    ∙ (sym (taken-views c.self.inside.contents c.self.inside.block)
    ∙ ap (λ (table : TableState). count_by is_taken table.slots) c.self.view_is)

pub returns-clause-small : goal.returns-clause-small
returns-clause-small c =
    let few : c.self.inside.held < 65537 =
    held-small c.self.inside.peers.items c.self.inside.contents c.self.inside.held c.self.invariant.0 in
    omega (arith, few)
