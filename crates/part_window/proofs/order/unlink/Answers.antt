use Rattle.std.proofs.Common.{◌≡◌, refl, ap, subst, ◌∙◌, inr, arith}
use Rattle.part_window.specs.Ring.{IsOn}
use Rattle.part_window.specs.Order.{head_of, listed_at}
use Rattle.part_window.proofs.Entries.{read-next, read-previous, unlinked-by, on-kept, listed-kept, head-kept}
use Rattle.part_window.proofs.order.unlink.Goals as goal

pub set_next-requires : goal.set_next-requires
set_next-requires c =
    let entries = c.args.entries.now in
    subst (IsOn (head_of entries) (listed_at entries))
    (read-previous entries c.args.place c.listed-entry.result c.listed-entry.ensures)
    (c.requires.order.ring.previous_on c.args.place (inr c.requires.listed))

pub set_previous-requires : goal.set_previous-requires
set_previous-requires c =
    let entries = c.args.entries.now in
    on-kept entries c.set_next.new.self c.listed-entry.result.previous _ c.listed-entry.result.next (λ _. refl)
    c.set_next.ensures
    (subst (IsOn (head_of entries) (listed_at entries))
    (read-next entries c.args.place c.listed-entry.result c.listed-entry.ensures)
    (c.requires.order.ring.next_on c.args.place (inr c.requires.listed)))

pub set_unlisted-requires-clause-listed : goal.set_unlisted-requires-clause-listed
set_unlisted-requires-clause-listed c =
    let entries = c.args.entries.now in
    ap (λ (listed : _). listed c.args.place)
    (listed-kept c.set_next.new.self c.set_previous.new.self c.listed-entry.result.next _ (λ _. refl)
    c.set_previous.ensures
    ∙ listed-kept entries c.set_next.new.self c.listed-entry.result.previous _ (λ _. refl) c.set_next.ensures)
    ∙ c.requires.listed

pub set_unlisted-requires-clause-no_head : goal.set_unlisted-requires-clause-no_head
set_unlisted-requires-clause-no_head c =
    let entries = c.args.entries.now in
    let same : head_of c.set_previous.new.self ≡ head_of entries =
    head-kept c.set_next.new.self c.set_previous.new.self c.listed-entry.result.next _ c.set_previous.ensures
    ∙ head-kept entries c.set_next.new.self c.listed-entry.result.previous _ c.set_next.ensures in
    λ equal. absurd (omega (arith, c.requires.order.ring.below c.args.place c.requires.listed, equal, same))

pub returns-clause-order : goal.returns-clause-order
returns-clause-order c =
    (unlinked-by c.args.entries.now c.args.place c.listed-entry.result c.set_next.new.self c.set_previous.new.self
    c.set_unlisted.new.self c.requires.order c.requires.listed c.listed-entry.ensures c.set_next.ensures
    c.set_previous.ensures c.set_unlisted.ensures).0

pub returns-clause-unlisted : goal.returns-clause-unlisted
returns-clause-unlisted c =
    (unlinked-by c.args.entries.now c.args.place c.listed-entry.result c.set_next.new.self c.set_previous.new.self
    c.set_unlisted.new.self c.requires.order c.requires.listed c.listed-entry.ensures c.set_next.ensures
    c.set_previous.ensures c.set_unlisted.ensures).1
