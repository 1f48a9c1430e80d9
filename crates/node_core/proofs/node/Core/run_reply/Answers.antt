use Rattle.std.proofs.Common.{◌≡◌, ◌∙◌, ℕ, List, ap}
use Rattle.wire_message.specs.Content.{Content, content_of}
use Rattle.part_segment.specs.Image.{written_by}
use Rattle.node_core.specs.HandlerRuns.{landing}
use Rattle.wire_message.specs.Reading.{viewed_message}
use Rattle.spec_node.specs.Step.{with_sender}
use Rattle.node_core.specs.CoreState.{CoreState}
use Rattle.node_core.specs.CoreStep.{landed_core}
use Rattle.node_core.specs.InPlace.{meant_in}
use Rattle.node_core.proofs.LibraryLaws.{library_reply_ran}
use Rattle.node_core.proofs.node.Core.run_reply.Goals as goal

-- the core with these bytes
abbrev landed : CoreState → List ℕ → CoreState
landed core bytes = record core { segment = bytes }

pub returns-then-reply-le-LAST_OWN : goal.returns-then-reply-le-LAST_OWN
returns-then-reply-le-LAST_OWN g c =
    let message = viewed_message c.args.reply.now in
    let content = content_of message in
    let core = c.args.self.now in
    landed_is _ core c.land.new.segment content c.self.view_is c.land.ensures.landed
    ∙ library_reply_ran (meant_in c.args.landing core.segment (g.H.Handlers.meaning c.args.handlers.now)) core
    (with_sender core.me message) message
    c.requires.reply.ours c.requires.reply.runs c.if-reply-le-LAST_OWN.true
  where
    landed_is : (inside core : CoreState) (bytes : List ℕ) (content : Content) → inside ≡ core
        → bytes ≡ written_by inside.segment (landing content) → landed inside bytes ≡ landed_core core content
    landed_is inside core bytes content view is =
        ap (landed inside) is ∙ ap (λ (one : CoreState). landed_core one content) view
