use Rattle.std.proofs.Common.{subst}
use Rattle.part_transfers.specs.Queue.{Queues}
use Rattle.part_transfers.specs.Table.{waits_at}
use Rattle.part_transfers.proofs.Places.{many_places}
use Rattle.part_transfers.proofs.Waiting.{place_found, place_missed, place_within}
use Rattle.part_transfers.proofs.table.OperationTable.place_of.Goals as goal

pub returns : goal.returns
returns c =
    let places = c.args.self.now in
    let queue = c.self.inside.queue in
    let Q = subst (λ ps. Queues (waits_at ps) queue) c.self.view_is c.self.invariant.waiting in
    let found = place_found places queue c.args.number c.place_of.result Q c.place_of.ensures.found in
    let many = many_places c.self.inside.records places c.self.view_is c.self.invariant.room in
    record {
      found = found;
      none = place_missed places queue c.args.number c.place_of.result Q c.place_of.ensures.none;
      within = place_within places c.args.number c.place_of.result many found;
    }
