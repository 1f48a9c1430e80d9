use Rattle.std.proofs.Common.{arith}
use Rattle.part_window.specs.declared.order.DueEntry.{DueEntry}
use Rattle.part_window.proofs.Entries.{head-changed, entry-changed}
use Rattle.part_window.proofs.order.Entries.set_next.Goals as goal

pub returns-then-index-self : goal.returns-then-index-self
returns-then-index-self c =
    head-changed c.self.inside.written.items c.self.inside.places c.self.inside.head c.args.index
    (λ (entry : DueEntry). record entry { next = c.args.next }) c.args.self.now
    (omega (arith, c.self.invariant.0, c.self.inside.written.ok.0)) c.if-index-self.true c.self.view_is

pub returns-else-index-self : goal.returns-else-index-self
returns-else-index-self c =
    entry-changed c.self.inside.written.items c.self.inside.places c.self.inside.head c.args.index
    (λ (entry : DueEntry). record entry { next = c.args.next }) c.index_mut.result.now c.args.self.now
    (omega (arith, c.self.invariant.0, c.self.inside.written.ok.0)) c.requires c.if-index-self.false
    c.index_mut.ensures.value c.self.view_is
