use Rattle.gasnet_c.proofs.Telling.{dead_is_none, dead_tells}
use Rattle.gasnet_c.proofs.serving.gasnet_c_serve.Goals as goal

pub returns-then-not-handle-clause-tells : goal.returns-then-not-handle-clause-tells
returns-then-not-handle-clause-tells c =
    dead_tells _ _ _ _ _ _ (dead_is_none _ _ c.requires c.if-not-handle.true) c.dead.ensures

pub returns-clause-tells : goal.returns-clause-tells
returns-clause-tells c = c.stepped.ensures.tells
