use Rattle.std.proofs.Common.{sym, ap, ◌∙◌, ne_eqb}
use Rattle.part_transfers.specs.Syncs.{members, sync_answer, chosen, unless_fault}
use Rattle.part_transfers.specs.Stands.{member_in}
use Rattle.part_transfers.specs.Table.{fits_pick}
use Rattle.part_transfers.proofs.Members.{members_agree, agrees_by, settled_answer, settled_complete}
use Rattle.part_transfers.proofs.Gone.{stands_gone}
use Rattle.part_transfers.proofs.Lists.{here_stays}
use Rattle.part_transfers.proofs.transfers.Transfers.try_sync.Goals as goal

pub returns-then-is_settled-clause-answer : goal.returns-then-is_settled-clause-answer
returns-then-is_settled-clause-answer g c flag F operations S =
    let table = c.args.self.now.table in
    let handle = c.args.handle.serial in
    let test = fits_pick c.members-pick.result in
    let A = agrees_by (members handle operations) (member_in table handle) test c.members-pick.ensures
    (members_agree table operations handle S.keeps) in
    rw (ne_eqb handle 0 c.if-handle-eq0.false)
    (settled_answer table operations (members handle operations) test flag c.args.thread S.keeps
    A (sym c.is_settled.ensures ∙ c.if-is_settled.true))

pub returns-then-is_settled-clause-stands : goal.returns-then-is_settled-clause-stands
returns-then-is_settled-clause-stands g c operations S =
    let table = c.args.self.now.table in
    let handle = c.args.handle.serial in
    let test = fits_pick c.members-pick.result in
    let A = agrees_by (members handle operations) (member_in table handle) test c.members-pick.ensures
    (members_agree table operations handle S.keeps) in
    rw (ne_eqb handle 0 c.if-handle-eq0.false)
    (stands_gone c.args.self.now c.drop_picked.new.self operations (members handle operations) test S A
    c.drop_picked.ensures
    (settled_complete table operations (members handle operations) test c.args.thread S.keeps A
    (sym c.is_settled.ensures ∙ c.if-is_settled.true)))

pub returns-in-Some-clause-answer : goal.returns-in-Some-clause-answer
returns-in-Some-clause-answer g c flag F operations S =
    let table = c.args.self.now.table in
    let handle = c.args.handle.serial in
    let A = agrees_by (members handle operations) (member_in table handle) (fits_pick c.members-pick.result)
    c.members-pick.ensures (members_agree table operations handle S.keeps) in
    rw (ne_eqb handle 0 c.if-handle-eq0.false)
    (ap (λ found. unless_fault found
    (sync_answer flag (chosen (members handle operations) 1 operations)))
    (sym c.in-Some.is ∙ c.fault.ensures operations S (members handle operations) A))

pub returns-in-Some-clause-stands : goal.returns-in-Some-clause-stands
returns-in-Some-clause-stands g c operations S =
    let table = c.args.self.now.table in
    let handle = c.args.handle.serial in
    let A = agrees_by (members handle operations) (member_in table handle) (fits_pick c.members-pick.result)
    c.members-pick.ensures (members_agree table operations handle S.keeps) in
    rw (ne_eqb handle 0 c.if-handle-eq0.false)
    (here_stays c.args.self.now operations c.args.thread (chosen (members handle operations) 1 operations)
    (members handle operations) c.in-Some.fault
    (sym (c.fault.ensures operations S (members handle operations) A) ∙ c.in-Some.is) S)

pub returns-in-None-clause-answer : goal.returns-in-None-clause-answer
returns-in-None-clause-answer g c flag F operations S =
    let table = c.args.self.now.table in
    let handle = c.args.handle.serial in
    let A = agrees_by (members handle operations) (member_in table handle) (fits_pick c.members-pick.result)
    c.members-pick.ensures (members_agree table operations handle S.keeps) in
    rw (ne_eqb handle 0 c.if-handle-eq0.false)
    (c.sync_picked.ensures.answer flag F operations S (members handle operations) A
    ∙ ap (λ found. unless_fault found
    (sync_answer flag (chosen (members handle operations) 1 operations)))
    (sym c.in-None.is ∙ c.fault.ensures operations S (members handle operations) A))

pub returns-in-None-clause-stands : goal.returns-in-None-clause-stands
returns-in-None-clause-stands g c operations S =
    let table = c.args.self.now.table in
    let handle = c.args.handle.serial in
    let A = agrees_by (members handle operations) (member_in table handle) (fits_pick c.members-pick.result)
    c.members-pick.ensures (members_agree table operations handle S.keeps) in
    rw (ne_eqb handle 0 c.if-handle-eq0.false)
    (c.sync_picked.ensures.stands operations S (members handle operations) A)
