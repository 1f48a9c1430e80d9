use Rattle.std.proofs.Common.{ap, sym, ◌∙◌}
use Rattle.part_window.specs.RepliesState.{held_count}
use Rattle.part_window.proofs.RepliesViewed.{held-is}
use Rattle.part_window.proofs.replies.ReplySlots.held.Goals as goal

pub returns-clause-count : goal.returns-clause-count
returns-clause-count c =
    c.held.ensures.count ∙ (sym (held-is c.self.inside.table c.self.invariant) ∙ ap held_count c.self.view_is)
