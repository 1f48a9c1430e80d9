use Rattle.std.proofs.Common.{ap, rules}
use Rattle.part_handlers.specs.declared.token.Token.{Token}
use Rattle.part_handlers.specs.Tokens.{frame_of}
use Rattle.node_core.proofs.HandlerContexts.{ran_is}
use Rattle.node_core.proofs.context.run_with_token.Goals as goal

pub returns : goal.returns
returns g c =
    let made = c.new-token.ensures in
    let ran =
    ran_is (g.H.Handlers.meaning c.args.handlers.now) c.args.work.now _ _ c.new-token.result c.run.new.token _ _ _
    (g.met.H.Handlers.is_lawful c.args.handlers.now) c.requires.free.unheld c.run.ensures
    (ap (λ (token : Token). frame_of token) made) (ap (λ (token : Token). token.locks.now) made)
    (ap (λ (token : Token). token.log.now) made) (ap (λ (token : Token). token.buffer.now) made)
    c.close.ensures.locks c.close.ensures.log c.close.ensures.buffer c.close.ensures.value in
    search (rules, ran)
