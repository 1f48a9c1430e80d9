use Rattle.std.proofs.Common.{◌||◌, Some, None, false, refl, sym, ap, ap₂, ◌∙◌, subst}
use Rattle.part_transfers.specs.Syncs.{exhausted_or, whole_of, members_of}
use Rattle.part_transfers.specs.Stands.{whole_in, member_of_any}
use Rattle.part_transfers.specs.Table.{IsFirstExhausted}
use Rattle.part_transfers.proofs.Marks.{no_marks, only}
use Rattle.part_transfers.proofs.Lists.{any_agrees}
use Rattle.part_transfers.proofs.Exhausted.{exhausted_is}
use Rattle.part_transfers.proofs.Gone.{stands_gone}
use Rattle.part_transfers.proofs.Whole.{any_whole_is, whole_agrees, all_whole}
use Rattle.part_transfers.proofs.transfers.Transfers.sync_some.Goals as goal

pub returns-then-either-clause-answer : goal.returns-then-either-clause-answer
returns-then-either-clause-answer g c flag F operations S =
    let go = c.either.ensures
    ∙ ap₂ (λ invalid whole. invalid || whole) c.all_invalid.ensures
    (c.any_whole.ensures ∙ sym (any_whole_is c.args.self.now.table operations c.args.handles.now S.keeps)) in
    rw (sym go ∙ c.if-either.true) refl

pub returns-then-either-clause-stands : goal.returns-then-either-clause-stands
returns-then-either-clause-stands g c operations S =
    let table = c.args.self.now.table in
    let handles = c.args.handles.now in
    let test = whole_in table handles in
    stands_gone c.args.self.now c.drop_marked.new.self operations (whole_of handles operations) test S
    (whole_agrees table operations handles S.keeps)
    (c.drop_marked.ensures test
    (only test table c.mark_whole.new.marks (c.mark_whole.ensures (λ there. false) (no_marks table))))
    (all_whole operations handles)

pub returns-in-Some-clause-answer : goal.returns-in-Some-clause-answer
returns-in-Some-clause-answer g c flag F operations S =
    let table = c.args.self.now.table in
    let handles = c.args.handles.now in
    let test = member_of_any table handles in
    let M = only test table c.mark_all.new.marks (c.mark_all.ensures (λ there. false) (no_marks table)) in
    let go = c.either.ensures
    ∙ ap₂ (λ invalid whole. invalid || whole) c.all_invalid.ensures
    (c.any_whole.ensures ∙ sym (any_whole_is table operations handles S.keeps)) in
    rw (sym go ∙ c.if-either.false)
    (ap exhausted_or (exhausted_is flag table operations (members_of handles operations) test
    (Some c.in-Some.node) S.keeps (any_agrees table operations handles S.keeps)
    (subst (IsFirstExhausted flag test table) c.in-Some.is (c.smallest_marked.ensures flag F test M))))

pub returns-in-None-clause-answer : goal.returns-in-None-clause-answer
returns-in-None-clause-answer g c flag F operations S =
    let table = c.args.self.now.table in
    let handles = c.args.handles.now in
    let test = member_of_any table handles in
    let M = only test table c.mark_all.new.marks (c.mark_all.ensures (λ there. false) (no_marks table)) in
    let go = c.either.ensures
    ∙ ap₂ (λ invalid whole. invalid || whole) c.all_invalid.ensures
    (c.any_whole.ensures ∙ sym (any_whole_is table operations handles S.keeps)) in
    rw (sym go ∙ c.if-either.false)
    (ap exhausted_or (exhausted_is flag table operations (members_of handles operations) test None S.keeps
    (any_agrees table operations handles S.keeps)
    (subst (IsFirstExhausted flag test table) c.in-None.is (c.smallest_marked.ensures flag F test M))))
