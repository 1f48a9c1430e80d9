use Rattle.std.proofs.Common.{◌≡◌, ◌+◌, Some, Ok, set, refl, sym, ap, ◌∙◌, subst, arith}
use Rattle.part_transfers.specs.declared.table.OperationRecord.{OperationRecord}
use Rattle.part_transfers.specs.Operation.{after_begin, fresh}
use Rattle.part_transfers.specs.Stands.{Stands, record_of}
use Rattle.part_transfers.proofs.Began.{taken_less, not_full, stands_begun}
use Rattle.part_transfers.proofs.transfers.Transfers.begin.Goals as goal

pub returns-clause-answer : goal.returns-clause-answer
returns-clause-answer c operations S =
    let less = taken_less c.args.self.now.table c.in-Some-insert._place c.in-Some-insert.ensures.blank in
    let count = S.keeps.count in
    let many = S.keeps.many in
    let given = S.given in
    let number = c.in-Some.ensures in
    rw (not_full operations (omega (arith, less, count, many)) (omega (arith, given, number)))
    (ap (λ n. Ok (record { serial = n })) (omega (arith, given, number)))

pub returns-clause-stands : goal.returns-clause-stands
returns-clause-stands c operations S =
    let given = S.given in
    let number = c.in-Some.ensures in
    let is : c.in-Some.number ≡ c.args.self.now.given + 1 = omega (arith, number) in
    let record_is : record {
      number = c.in-Some.number;
      thread = c.args.thread;
      transfer = c.args.transfer;
      implicit = c.is_implicit.result;
      region = c.region_of.result;
      issued = 0;
      returned = 0;
    } ≡ record_of (c.args.self.now.given + 1) (fresh c.args.thread c.args.transfer c.args.mode (c.args.self.now.given + 1))
    = rw (c.is_implicit.ensures, c.region_of.ensures, is) refl in
    subst (λ t. Stands (record c.args.self.now {
      given = c.in-Some.number;
      table = t;
    }) (after_begin c.args.thread c.args.transfer c.args.mode operations))
    (sym (c.in-Some-insert.ensures.put
    ∙ ap (λ (r : OperationRecord). set c.args.self.now.table c.in-Some-insert._place (Some r)) record_is))
    (subst (λ n. Stands (record c.args.self.now {
      given = n;
      table = set c.args.self.now.table c.in-Some-insert._place
          (Some (record_of (c.args.self.now.given + 1)
          (fresh c.args.thread c.args.transfer c.args.mode (c.args.self.now.given + 1))));
    }) (after_begin c.args.thread c.args.transfer c.args.mode operations)) (sym is)
    (stands_begun c.args.self.now operations c.in-Some-insert._place c.args.thread c.args.transfer c.args.mode S
    c.in-Some-insert.ensures.blank (omega (arith, given, number))))
