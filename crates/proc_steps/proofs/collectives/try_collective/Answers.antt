-- One call of the node's collectives.
use Rattle.std.proofs.Common.{refl}
use Rattle.proc_steps.specs.Forms.{collective_form}
use Rattle.proc_steps.proofs.Collecting.{call_told, none_told, some_there, still_of}
use Rattle.proc_steps.proofs.collectives.try_collective.Goals as goal

pub try_part-part-requires-clause-of : goal.try_part-part-requires-clause-of
try_part-part-requires-clause-of g c =
    some_there c.args.endpoint.now c.args.collectives.now c.in-Some.it c.in-Some.is c.requires.there

pub returns-in-Some-clause-tries : goal.returns-in-Some-clause-tries
returns-in-Some-clause-tries g c =
    call_told (g.H.Handlers.meaning c.args.handlers.now) c.args.endpoint.now c.try_part-part.new.endpoint
    c.args.collectives.now c.in-Some.it c.try_part-part.new.collectives c.args.trial.now c.args.call c.at.result
    c.try_part-part.result c.of_part.result c.in-Some.is c.requires.there c.at.ensures c.of_part.ensures
    c.try_part-part.ensures.same c.try_part-part.ensures.same_node c.try_part-part.ensures.tried

pub returns-in-Some-clause-there : goal.returns-in-Some-clause-there
returns-in-Some-clause-there g c =
    still_of c.args.endpoint.now c.try_part-part.new.endpoint c.in-Some.it c.try_part-part.new.collectives
    c.try_part-part.ensures.same c.try_part-part.ensures.same_node
    (some_there c.args.endpoint.now c.args.collectives.now c.in-Some.it c.in-Some.is c.requires.there)

pub returns-in-None-clause-tries : goal.returns-in-None-clause-tries
returns-in-None-clause-tries g c =
    none_told (g.H.Handlers.meaning c.args.handlers.now) c.args.endpoint.now c.args.collectives.now c.args.trial.now
    (collective_form c.args.call) c.nothing_there.result c.in-None.is c.nothing_there.ensures (λ node. refl)

pub returns-in-None-clause-there : goal.returns-in-None-clause-there
returns-in-None-clause-there g c = c.requires.there
