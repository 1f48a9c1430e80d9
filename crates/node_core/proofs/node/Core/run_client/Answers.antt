use Rattle.std.proofs.Common.{ℕ, length, subst, sym}
use Rattle.wire_message.specs.Content.{content_of}
use Rattle.wire_message.specs.Reading.{viewed_message}
use Rattle.part_handlers.specs.Runs.{IsPlaced}
use Rattle.node_core.specs.HandlerRuns.{place_of}
use Rattle.node_core.proofs.InPlace.{request_meant}
use Rattle.node_core.proofs.node.Core.run_client.Goals as goal

pub returns : goal.returns
returns g c =
    let message = viewed_message c.args.message.now in
    let placed : IsPlaced (length c.args.self.now.segment) (place_of (content_of message)) =
    subst (λ (n : ℕ). IsPlaced n (place_of (content_of message))) (sym c.requires.segment)
    c.requires.new.ours.known.placed in
    request_meant c.args.landing (g.H.Handlers.meaning c.args.handlers.now) c.args.self.now message
    c.run_new.new.self c.requires.quiet placed c.run_new.ensures
