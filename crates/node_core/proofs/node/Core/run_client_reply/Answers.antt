use Rattle.std.proofs.Common.{ℕ, length, subst, sym, ◌∙◌}
use Rattle.wire_message.specs.Content.{content_of}
use Rattle.wire_message.specs.Reading.{viewed_message}
use Rattle.part_handlers.specs.Runs.{IsPlaced}
use Rattle.spec_node.specs.Step.{with_sender}
use Rattle.node_core.specs.HandlerRuns.{place_of}
use Rattle.node_core.proofs.InPlace.{reply_meant}
use Rattle.node_core.proofs.node.Core.run_client_reply.Goals as goal

pub returns : goal.returns
returns g c =
    let message = viewed_message c.args.reply.now in
    let core = c.args.self.now in
    let placed : IsPlaced (length core.segment) (place_of (content_of message)) =
    subst (λ (n : ℕ). IsPlaced n (place_of (content_of message))) (sym c.requires.segment)
    c.requires.reply.ours.known.placed in
    c.run_reply_on.ensures
    ∙ reply_meant c.args.landing (g.H.Handlers.meaning c.args.handlers.now) core (with_sender core.me message)
    (content_of message) c.requires.quiet placed
