use Rattle.std.proofs.Common.{sym, subst, ◌∙◌, ◌≡◌}
use Rattle.wire_message.specs.Content.{content_of}
use Rattle.wire_message.specs.Reading.{viewed_message}
use Rattle.spec_node.specs.declared.answer.Delivered.TheVariants as delivered
use Rattle.node_core.specs.CoreState.{CoreState}
use Rattle.node_core.specs.Library.{run_answer}
use Rattle.node_core.proofs.LibraryLaws.{noted_answer}
use Rattle.node_core.proofs.node.Core.told.Goals as goal

pub returns : goal.returns
returns c =
    let content = content_of (viewed_message c.args.message.now) in
    let settings = c.self.inside.settings in
    let found = c.in-Some.ensures.found in
    subst (λ (core : CoreState). delivered.Notified c.args.at c.in-Some.notification ≡ run_answer core.settings.version content
    c.args.at)
    c.self.view_is
    (noted_answer settings content c.args.at c.in-Some.notification c.nodes-nodes.ensures.range c.if-message-ne-NOTE.false
    (rw c.nodes-nodes.ensures.nodes at found.0)
    (sym c.arguments-count.ensures.args ∙ rw c.version-version.ensures.version at found.1))
