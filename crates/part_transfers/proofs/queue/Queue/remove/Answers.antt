use Rattle.std.proofs.Common.{◌≡◌, sym, ap, ◌∙◌, subst, arith, length}
use Rattle.std.specs.List.{remove}
use Rattle.part_transfers.specs.Queue.{IsQueue}
use Rattle.part_transfers.proofs.Queueing.{queue_removed, removed_some}
use Rattle.part_transfers.proofs.queue.Queue.remove.Goals as goal
use Rattle.part_transfers.proofs.queue.Queue.remove.Goals.{After-remove}

is : (c : After-remove) → c.remove.new.self.items ≡ remove c.self.inside.entries.items c.args.index
is c =
    let entries = c.self.inside.entries in
    let many = ap length c.self.view_is in
    removed_some c.remove.result
    (c.remove.ensures.succeeds (record { number = 0; place = 0 }) (omega (arith, c.requires, many, entries.ok.0)))
    c.remove.ensures.items

pub invariant_of-self : goal.invariant_of-self
invariant_of-self c = (
  omega (arith, c.remove.ensures.capacity, c.self.invariant.0),
  subst IsQueue (sym (is (goal.at.invariant_of-self c).After-remove))
      (queue_removed c.self.inside.entries.items c.args.index c.self.invariant.1),
)

pub returns : goal.returns
returns c = record {
  is = is (goal.at.returns c).After-remove ∙ ap (λ xs. remove xs c.args.index) c.self.view_is;
  queue = subst IsQueue c.self.view_is c.self.invariant.1;
}
