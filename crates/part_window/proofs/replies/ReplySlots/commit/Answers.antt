use Rattle.std.proofs.Common.{◌<◌, ap, sym, ◌∙◌, subst}
use Rattle.base_lists.specs.Cut.{count_at}
use Rattle.part_window.specs.TableState.{as_committed as slot_committed}
use Rattle.part_window.specs.RepliesState.{RepliesState, with_slot_changed, as_committed}
use Rattle.part_window.specs.ReplyViews.{replies_view, IsReplies}
use Rattle.part_window.proofs.RepliesViewed.{changed-is, as_committed-is, in-range, replies-after, number-as_committed}
use Rattle.part_window.proofs.replies.ReplySlots.commit.Goals as goal
use Rattle.part_window.proofs.Slots.{place-there}

pub commit-requires-clause-in_range : goal.commit-requires-clause-in_range
commit-requires-clause-in_range c =
    in-range c.self.inside.table c.args.self.now c.args.from c.args.slot c.self.view_is c.self.invariant
    c.requires.in_range

pub invariant_of-self : goal.invariant_of-self
invariant_of-self c =
    let table = c.self.inside.table in
    let kept = c.self.invariant in
    let from = c.args.from in
    let slot = c.args.slot in
    let inside : slot < count_at table.counts from =
    in-range table c.args.self.now from slot c.self.view_is kept c.requires.in_range in
    let there = place-there table from slot inside kept.whole in
    subst IsReplies (sym c.commit.ensures.changed)
    (replies-after table from slot there.0 (slot_committed c.args.len) kept there.1
    (λ number is. kept.numbered _ number there.0 there.1 (sym (number-as_committed c.args.len there.0) ∙ is)))

pub returns : goal.returns
returns c =
    let table = c.self.inside.table in
    let from = c.args.from in
    let slot = c.args.slot in
    let inside : slot < count_at table.counts from =
    in-range table c.args.self.now from slot c.self.view_is c.self.invariant c.requires.in_range in
    ap replies_view c.commit.ensures.changed
    ∙ (changed-is table from slot (slot_committed c.args.len) (as_committed c.args.len) (as_committed-is c.args.len) inside
    ∙ ap (λ (u : RepliesState). with_slot_changed u from slot (as_committed c.args.len)) c.self.view_is)
