use Rattle.std.proofs.Common.{◌≡◌, ◌+◌, Some, set, sym, ap, ◌∙◌, subst}
use Rattle.std.proofs.lemmas.Option.{same_Some}
use Rattle.part_transfers.specs.declared.table.OperationRecord.{OperationRecord}
use Rattle.part_transfers.specs.declared.operation.Next.{Next}
use Rattle.part_transfers.specs.Operation.{Operation, target, with_sent, issue}
use Rattle.base_lists.specs.Numbered.{element_at, change}
use Rattle.part_transfers.specs.ChunkSlots.{HasSet}
use Rattle.part_transfers.specs.Stands.{Stands}
use Rattle.part_transfers.proofs.Issued.{next_is_first}
use Rattle.part_transfers.proofs.Changed.{stands_noted}
use Rattle.part_transfers.proofs.transfers.Transfers.mark_sent.Goals as goal

pub unreachable-requires : goal.unreachable-requires
unreachable-requires c = c.in_default.ensures.none c.requires.stands.0 c.requires.stands.1

pub returns-clause-stands : goal.returns-clause-stands
returns-clause-stands c can bytes operations S next free =
    let first = next_is_first can operations c.args.next.now next in
    let found = c.in-Some.ensures.found in
    let at = c.in-Some-at.ensures in
    let same : found.0 ≡ c.in-Some-at.operation = same_Some _ _ (same_Some _ _ (sym found.1 ∙ at)) in
    let number : c.in-Some-at.operation.number ≡ c.args.next.now.number = ap (λ (z : OperationRecord). z.number) (sym same)
    ∙ found.2 in
    let o = S.keeps.each c.in-Some.place c.in-Some-at.operation at in
    let here : o.0 ≡ first.operation = same_Some _ _ (sym o.1 ∙ (ap (element_at operations) number ∙ first.here)) in
    let to : target c.in-Some-at.operation.transfer ≡ target c.args.next.now.transfer =
    ap (λ (z : OperationRecord). target z.transfer) o.3
    ∙ (ap (λ (z : Operation). target z.transfer) here ∙ ap (λ (z : Next). target z.transfer) (sym first.chunk)) in
    let H = subst (λ node. HasSet c.args.self.now.slots node c.args.slot (Some (record {
      request = c.args.request;
      place = c.in-Some.place;
    })) c.set.new.self) c.target.ensures c.set.ensures in
    subst (λ places. Stands (record c.args.self.now {
      table = places;
      slots = c.set.new.self;
    }) (issue (target c.args.next.now.transfer) c.args.slot c.args.request bytes operations)) (sym c.change.ensures)
    (subst (Stands (record c.args.self.now {
      table = set c.args.self.now.table c.in-Some.place
          (Some (record c.in-Some-at.operation { issued = c.in-Some-at.operation.issued + 1 }));
      slots = c.set.new.self;
    })) (ap (change (with_sent c.args.slot c.args.request bytes) operations) number
    ∙ sym (first.issued c.args.slot c.args.request bytes))
    (stands_noted c.args.self.now operations c.in-Some.place c.in-Some-at.operation
    (target c.args.next.now.transfer) c.args.slot c.args.request bytes c.set.new.self S at to free H))
