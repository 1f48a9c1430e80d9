use Rattle.std.proofs.Common.{◌+◌, Some, set, sym, ap, ◌∙◌, subst, arith}
use Rattle.part_transfers.specs.Operation.{has_out, come_back}
use Rattle.part_transfers.specs.Stands.{Stands}
use Rattle.part_transfers.proofs.Backs.{not_out, other_out, this_out, stands_unless, place_within, outstanding}
use Rattle.part_transfers.proofs.Changed.{stands_returned}
use Rattle.part_transfers.proofs.transfers.Transfers.back.Goals as goal

pub returns-in_default-clause-answer : goal.returns-in_default-clause-answer
returns-in_default-clause-answer c operations S =
    sym (not_out c.args.self.now operations c.args.to c.args.slot c.args.number S (sym c.at.ensures ∙ c.in_default.is))

pub returns-in_default-clause-stands : goal.returns-in_default-clause-stands
returns-in_default-clause-stands c operations S =
    stands_unless c.args.self.now operations c.args.to c.args.slot c.args.number S
    (not_out c.args.self.now operations c.args.to c.args.slot c.args.number S (sym c.at.ensures ∙ c.in_default.is))

pub returns-then-waiting-number-clause-answer : goal.returns-then-waiting-number-clause-answer
returns-then-waiting-number-clause-answer c operations S =
    sym (other_out c.args.self.now operations c.args.to c.args.slot c.args.number c.in-Some.waiting S
    (sym c.at.ensures ∙ c.in-Some.is) c.if-waiting-number.true)

pub returns-then-waiting-number-clause-stands : goal.returns-then-waiting-number-clause-stands
returns-then-waiting-number-clause-stands c operations S =
    stands_unless c.args.self.now operations c.args.to c.args.slot c.args.number S
    (other_out c.args.self.now operations c.args.to c.args.slot c.args.number c.in-Some.waiting S
    (sym c.at.ensures ∙ c.in-Some.is) c.if-waiting-number.true)

pub at-requires-2 : goal.at-requires-2
at-requires-2 c =
    place_within c.args.self.now c.requires.0 c.args.to c.args.slot c.in-Some.waiting c.requires.1
    (sym c.at.ensures ∙ c.in-Some.is)

pub overflow_add-operation : goal.overflow_add-operation
overflow_add-operation c =
    let less = outstanding c.args.self.now c.requires.0 c.args.to c.args.slot c.in-Some.waiting c.in-Some-at.operation
    c.requires.1 (sym c.at.ensures ∙ c.in-Some.is) c.in-Some-at.ensures in
    omega (arith, less)

pub returns-clause-answer : goal.returns-clause-answer
returns-clause-answer c operations S =
    sym (this_out c.args.self.now operations c.args.to c.args.slot c.in-Some.waiting S
    (sym c.at.ensures ∙ c.in-Some.is))
    ∙ ap (λ number. has_out c.args.to c.args.slot number operations) c.if-waiting-number.false

pub returns-clause-stands : goal.returns-clause-stands
returns-clause-stands c operations S =
    subst (λ places. Stands (record c.args.self.now {
      table = places;
      slots = c.set.new.self;
    }) (come_back c.args.to c.args.slot c.args.number operations)) (sym c.change.ensures)
    (subst (λ number. Stands (record c.args.self.now {
      table = set c.args.self.now.table c.in-Some.waiting.place
          (Some (record c.in-Some-at.operation { returned = c.in-Some-at.operation.returned + 1 }));
      slots = c.set.new.self;
    }) (come_back c.args.to c.args.slot number operations)) c.if-waiting-number.false
    (stands_returned c.args.self.now operations c.in-Some-at.operation c.args.to c.args.slot c.in-Some.waiting
    c.set.new.self S (sym c.at.ensures ∙ c.in-Some.is) c.in-Some-at.ensures c.set.ensures))
