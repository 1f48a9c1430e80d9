use Rattle.std.proofs.Common.{ap}
use Rattle.std.specs.Prelude.{is_some}
use Rattle.std.proofs.lemmas.Option.{slice_get_within}
use Rattle.part_transfers.proofs.Queueing.{queue_left}
use Rattle.part_transfers.proofs.queue.Queue.leave.Goals as goal

pub remove-requires : goal.remove-requires
remove-requires c =
    let at = c.index_of-index.ensures in
    slice_get_within c.args.self.now c.index_of-index.result at.entry at.here

pub returns : goal.returns
returns c =
    queue_left c.args.place c.args.was c.args.self.now c.remove.new.self c.index_of-index.result
    (ap is_some c.in-Some.is) c.index_of-index.ensures c.remove.ensures.is c.remove.ensures.queue
