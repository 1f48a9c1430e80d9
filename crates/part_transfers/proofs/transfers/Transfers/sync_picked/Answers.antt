use Rattle.std.proofs.Common.{Some, None, not, sym, ap, ◌∙◌, subst, refl}
use Rattle.part_transfers.specs.Syncs.{exhausted_or}
use Rattle.part_transfers.specs.Table.{fits_pick, IsFirstExhausted}
use Rattle.part_transfers.proofs.Members.{complete_is}
use Rattle.part_transfers.proofs.Exhausted.{exhausted_is}
use Rattle.part_transfers.proofs.Gone.{stands_gone}
use Rattle.part_transfers.proofs.transfers.Transfers.sync_picked.Goals as goal

pub returns-then-not-any_passes-clause-answer : goal.returns-then-not-any_passes-clause-answer
returns-then-not-any_passes-clause-answer g c flag F operations S choice A =
    rw (complete_is c.args.self.now.table operations choice (fits_pick c.args.pick) S.keeps A
    ∙ ap not (sym (c.any_passes.ensures) ∙ c.if-not-any_passes.true)) refl

pub returns-then-not-any_passes-clause-stands : goal.returns-then-not-any_passes-clause-stands
returns-then-not-any_passes-clause-stands g c operations S choice A =
    stands_gone c.args.self.now c.drop_picked.new.self operations choice (fits_pick c.args.pick) S A c.drop_picked.ensures
    (complete_is c.args.self.now.table operations choice (fits_pick c.args.pick) S.keeps A
    ∙ ap not (sym (c.any_passes.ensures) ∙ c.if-not-any_passes.true))

pub returns-in-Some-clause-answer : goal.returns-in-Some-clause-answer
returns-in-Some-clause-answer g c flag F operations S choice A =
    rw (complete_is c.args.self.now.table operations choice (fits_pick c.args.pick) S.keeps A
    ∙ ap not (sym (c.any_passes.ensures) ∙ c.if-not-any_passes.false))
    (ap exhausted_or (exhausted_is flag c.args.self.now.table operations choice (fits_pick c.args.pick)
    (Some c.in-Some.node) S.keeps A
    (subst (IsFirstExhausted flag (fits_pick c.args.pick) c.args.self.now.table) c.in-Some.is
    (c.smallest_target.ensures flag F))))

pub returns-in-None-clause-answer : goal.returns-in-None-clause-answer
returns-in-None-clause-answer g c flag F operations S choice A =
    rw (complete_is c.args.self.now.table operations choice (fits_pick c.args.pick) S.keeps A
    ∙ ap not (sym (c.any_passes.ensures) ∙ c.if-not-any_passes.false))
    (ap exhausted_or (exhausted_is flag c.args.self.now.table operations choice (fits_pick c.args.pick) None S.keeps A
    (subst (IsFirstExhausted flag (fits_pick c.args.pick) c.args.self.now.table) c.in-None.is
    (c.smallest_target.ensures flag F))))
