use Rattle.node_atomics.proofs.serving.serve.Goals as goal

pub returns-then-handler-eq-BATCH_HANDLER-clause-served :
    goal.returns-then-handler-eq-BATCH_HANDLER-clause-served
returns-then-handler-eq-BATCH_HANDLER-clause-served c cells opening outcome at =
    rw c.if-handler-eq-BATCH_HANDLER.true (c.serve_request.ensures.at cells opening outcome at)
