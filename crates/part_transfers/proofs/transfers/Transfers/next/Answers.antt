use Rattle.std.proofs.Common.{Some, None, refl, sym, ap, ◌∙◌, subst}
use Rattle.part_transfers.specs.Stands.{CanMarkSent}
use Rattle.part_transfers.proofs.Oldest.{oldest_is}
use Rattle.part_transfers.proofs.transfers.Transfers.next.Goals as goal

pub next_of-requires : goal.next_of-requires
next_of-requires g c = c.in-Some.ensures.unissued.2

pub returns-in-Some-clause-next : goal.returns-in-Some-clause-next
returns-in-Some-clause-next g c flag F operations S =
    ap Some c.next_of.ensures
    ∙ oldest_is flag c.args.self.now operations (Some c.in-Some.operation) S (c.in-Some.ensures.least flag F)

pub returns-in-None-clause-next : goal.returns-in-None-clause-next
returns-in-None-clause-next g c flag F operations S =
    oldest_is flag c.args.self.now operations None S (c.in-None.ensures.least flag F)

pub returns-in-Some-clause-can_mark_sent : goal.returns-in-Some-clause-can_mark_sent
returns-in-Some-clause-can_mark_sent g c =
    let it = c.in-Some.ensures.unissued in
    subst (λ next. CanMarkSent c.args.self.now next.number) (sym c.next_of.ensures)
    (it.0, (c.in-Some.operation, it.1, refl, it.2))
