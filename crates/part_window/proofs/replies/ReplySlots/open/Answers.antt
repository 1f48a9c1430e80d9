use Rattle.std.proofs.Common.{◌≡◌, ◌<◌, ap, sym, ◌∙◌, subst, refl, arith}
use Rattle.base_lists.specs.Cut.{count_at}
use Rattle.part_window.specs.TableState.{Opened}
use Rattle.part_window.specs.RepliesState.{Opened as Placed, RepliesState, with_slot_changed}
use Rattle.part_window.specs.ReplyViews.{replies_view, IsReplies}
use Rattle.part_window.proofs.RepliesViewed.{changed-is, in-range, replies-after}
use Rattle.part_window.proofs.replies.ReplySlots.open.Goals as goal
use Rattle.part_window.proofs.Slots.{place-there}

pub open-requires : goal.open-requires
open-requires c =
    in-range c.self.inside.table c.args.self.now c.args.from c.args.slot c.self.view_is c.self.invariant
    c.requires.in_range

pub invariant_of-self : goal.invariant_of-self
invariant_of-self c =
    let table = c.self.inside.table in
    let kept = c.self.invariant in
    let from = c.args.from in
    let slot = c.args.slot in
    let inside : slot < count_at table.counts from =
    in-range table c.args.self.now from slot c.self.view_is kept c.requires.in_range in
    let there = place-there table from slot inside kept.whole in
    subst IsReplies (sym c.open.ensures.opened)
    (replies-after table from slot there.0 (λ _. Opened c.args.number 0 c.open.ensures.buffer) kept there.1
    (λ number is none. let same : c.args.number ≡ number = cc in absurd
    (omega (arith, c.requires.some, same, none))))

pub returns : goal.returns
returns c =
    let table = c.self.inside.table in
    let from = c.args.from in
    let slot = c.args.slot in
    let inside : slot < count_at table.counts from =
    in-range table c.args.self.now from slot c.self.view_is c.self.invariant c.requires.in_range in
    record {
      buffer = c.open.ensures.buffer;
      whole = c.open.ensures.whole;
      opened = ap replies_view c.open.ensures.opened
          ∙ (changed-is table from slot (λ _. Opened c.args.number 0 c.open.ensures.buffer)
          (λ _. Placed c.args.number c.open.ensures.buffer) (λ _. refl) inside
          ∙ ap (λ (u : RepliesState). with_slot_changed u from slot (λ _. Placed c.args.number c.open.ensures.buffer))
          c.self.view_is);
    }
