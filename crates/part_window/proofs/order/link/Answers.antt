use Rattle.std.proofs.Common.{true, refl, subst, arith}
use Rattle.part_window.specs.Ring.{IsOn}
use Rattle.part_window.specs.Order.{head_of, listed_at}
use Rattle.part_window.specs.declared.order.DueEntry.{DueEntry}
use Rattle.part_window.proofs.Entries.{on-listed, on-kept, next-low, linked-by}
use Rattle.part_window.proofs.order.link.Goals as goal

pub overflow_cast-entry-2 : goal.overflow_cast-entry-2
overflow_cast-entry-2 c =
    let low =
    next-low c.args.entries.now c.args.at c.args.next c.requires.order c.requires.spot.on c.requires.next in
    record { fits = omega (arith, low, c.requires.order.small) }

pub set_next-requires : goal.set_next-requires
set_next-requires c =
    on-listed c.args.entries.now c.set.new.self c.args.place _ c.args.at (omega (arith, c.requires.inside)) refl
    c.set.ensures c.requires.spot.on

pub set_previous-requires : goal.set_previous-requires
set_previous-requires c =
    let entries = c.args.entries.now in
    on-kept c.set.new.self c.set_next.new.self c.args.at _ c.args.next (λ _. refl) c.set_next.ensures
    (on-listed entries c.set.new.self c.args.place _ c.args.next (omega (arith, c.requires.inside)) refl
    c.set.ensures
    (subst (IsOn (head_of entries) (listed_at entries)) c.requires.next
    (c.requires.order.ring.next_on c.args.at c.requires.spot.on)))

pub returns-clause-order : goal.returns-clause-order
returns-clause-order c =
    let entry : DueEntry = record {
      time = c.args.due.time;
      node = c.args.due.node;
      slot = c.args.due.slot;
      previous = c.args.at;
      next = c.args.next;
      listed = true;
    } in
    (linked-by c.args.entries.now c.args.place c.args.at c.args.next entry c.set.new.self c.set_next.new.self
    c.set_previous.new.self c.requires.order c.requires.inside c.requires.unlisted c.requires.spot c.requires.next refl
    refl refl c.set.ensures c.set_next.ensures c.set_previous.ensures).0

pub returns-clause-listed : goal.returns-clause-listed
returns-clause-listed c =
    let entry : DueEntry = record {
      time = c.args.due.time;
      node = c.args.due.node;
      slot = c.args.due.slot;
      previous = c.args.at;
      next = c.args.next;
      listed = true;
    } in
    (linked-by c.args.entries.now c.args.place c.args.at c.args.next entry c.set.new.self c.set_next.new.self
    c.set_previous.new.self c.requires.order c.requires.inside c.requires.unlisted c.requires.spot c.requires.next refl
    refl refl c.set.ensures c.set_next.ensures c.set_previous.ensures).1
