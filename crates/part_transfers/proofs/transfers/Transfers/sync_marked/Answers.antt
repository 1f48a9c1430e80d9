use Rattle.std.proofs.Common.{Some, None, not, sym, ap, ◌∙◌, subst, refl}
use Rattle.part_transfers.specs.Syncs.{exhausted_or}
use Rattle.part_transfers.specs.Table.{IsFirstExhausted}
use Rattle.part_transfers.proofs.Members.{complete_is}
use Rattle.part_transfers.proofs.Exhausted.{exhausted_is}
use Rattle.part_transfers.proofs.Gone.{stands_gone}
use Rattle.part_transfers.proofs.transfers.Transfers.sync_marked.Goals as goal

pub returns-then-not-has-clause-answer : goal.returns-then-not-has-clause-answer
returns-then-not-has-clause-answer g c flag F operations S choice test M A =
    rw (complete_is c.args.self.now.table operations choice test S.keeps A
    ∙ ap not (sym (c.has.ensures test M) ∙ c.if-not-has.true)) refl

pub returns-then-not-has-clause-stands : goal.returns-then-not-has-clause-stands
returns-then-not-has-clause-stands g c operations S choice test M A =
    stands_gone c.args.self.now c.drop_marked.new.self operations choice test S A (c.drop_marked.ensures test M)
    (complete_is c.args.self.now.table operations choice test S.keeps A
    ∙ ap not (sym (c.has.ensures test M) ∙ c.if-not-has.true))

pub returns-in-Some-clause-answer : goal.returns-in-Some-clause-answer
returns-in-Some-clause-answer g c flag F operations S choice test M A =
    rw (complete_is c.args.self.now.table operations choice test S.keeps A
    ∙ ap not (sym (c.has.ensures test M) ∙ c.if-not-has.false))
    (ap exhausted_or (exhausted_is flag c.args.self.now.table operations choice test
    (Some c.in-Some.node) S.keeps A
    (subst (IsFirstExhausted flag test c.args.self.now.table) c.in-Some.is
    (c.smallest_marked.ensures flag F test M))))

pub returns-in-None-clause-answer : goal.returns-in-None-clause-answer
returns-in-None-clause-answer g c flag F operations S choice test M A =
    rw (complete_is c.args.self.now.table operations choice test S.keeps A
    ∙ ap not (sym (c.has.ensures test M) ∙ c.if-not-has.false))
    (ap exhausted_or (exhausted_is flag c.args.self.now.table operations choice test None S.keeps A
    (subst (IsFirstExhausted flag test c.args.self.now.table) c.in-None.is
    (c.smallest_marked.ensures flag F test M))))
