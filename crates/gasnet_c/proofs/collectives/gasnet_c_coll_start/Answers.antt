use Rattle.std.proofs.Common.{rules}
use Rattle.gasnet_c.specs.CollectiveCalls.{StartsFor, handles, pair}
use Rattle.gasnet_c.proofs.CollectiveCalling.{both_are, calls_live}
use Rattle.gasnet_c.proofs.collectives.gasnet_c_coll_start.Goals as goal

pub returns-clause-starts : goal.returns-clause-starts
returns-clause-starts c =
    calls_live (StartsFor c.args.now c.args.what.now) (handles c.args.handle.now c.args.collectives.now)
    (handles c.put.new.handle c.put_collectives.new.handle) (pair c.deref_mut.result.now c.deref_mut-2.result.now)
    (pair c.start-told.new.self c.start-told.new.collectives) c.start-told.result
    (both_are c.args.handle.now.place.held c.args.collectives.now.place.held c.deref_mut.result.now
    c.deref_mut-2.result.now (search rules) (search rules))
    (both_are c.put.new.handle.place.held c.put_collectives.new.handle.place.held c.start-told.new.self
    c.start-told.new.collectives (search rules) (search rules)) c.start-told.ensures.starts
