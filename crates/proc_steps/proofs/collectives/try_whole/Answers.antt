-- The try of a step that runs a whole collective.
use Rattle.std.proofs.Common.{refl}
use Rattle.proc_steps.specs.Forms.{whole_form}
use Rattle.proc_steps.proofs.Collecting.{none_told, some_there, told_so}
use Rattle.proc_steps.proofs.collectives.try_whole.Goals as goal

pub whole_part-requires-clause-of : goal.whole_part-requires-clause-of
whole_part-requires-clause-of g c =
    some_there c.args.endpoint.now c.args.collectives.now c.in-Some.it c.in-Some.is c.requires.there

pub returns-in-Some-clause-tries : goal.returns-in-Some-clause-tries
returns-in-Some-clause-tries g c =
    told_so (g.H.Handlers.meaning c.args.handlers.now) c.args.endpoint.now c.args.collectives.now c.in-Some.it
    c.args.trial.now (whole_form c.args.text.start.shape c.args.text.start.from c.args.text.dest) c.whole_part.result
    c.whole_part.result _ c.in-Some.is refl c.whole_part.ensures.tries

pub returns-in-None-clause-tries : goal.returns-in-None-clause-tries
returns-in-None-clause-tries g c =
    none_told (g.H.Handlers.meaning c.args.handlers.now) c.args.endpoint.now c.args.collectives.now c.args.trial.now
    (whole_form c.args.text.start.shape c.args.text.start.from c.args.text.dest) c.nothing_there.result c.in-None.is
    c.nothing_there.ensures (λ node. refl)

pub returns-in-Some-clause-there : goal.returns-in-Some-clause-there
returns-in-Some-clause-there g c = c.whole_part.ensures.there

pub returns-in-None-clause-there : goal.returns-in-None-clause-there
returns-in-None-clause-there g c = c.requires.there
