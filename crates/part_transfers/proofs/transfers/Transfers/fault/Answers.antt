use Rattle.std.proofs.Common.{sym, ◌∙◌, refl}
use Rattle.std.proofs.lemmas.Bool.{not-true, not-false}
use Rattle.part_transfers.specs.Table.{fits_pick}
use Rattle.part_transfers.specs.Syncs.{chosen, is_empty}
use Rattle.part_transfers.proofs.Members.{any_there, others_is}
use Rattle.part_transfers.proofs.transfers.Transfers.fault.Goals as goal

pub returns-then-not-any_passes : goal.returns-then-not-any_passes
returns-then-not-any_passes c operations S choice A =
    let there = any_there c.args.self.now.table operations choice (fits_pick c.args.pick) S.keeps A in
    rw (not-false (is_empty (chosen choice 1 operations))
    (sym there ∙ (sym c.any_passes.ensures ∙ c.if-not-any_passes.true))) refl

pub returns-then-any_passes : goal.returns-then-any_passes
returns-then-any_passes c operations S choice A =
    let there = any_there c.args.self.now.table operations choice (fits_pick c.args.pick) S.keeps A in
    let others = others_is c.args.self.now.table operations choice (fits_pick c.args.pick) c.args.thread S.keeps A in
    rw (
      not-true (is_empty (chosen choice 1 operations))
          (sym there ∙ (sym c.any_passes.ensures ∙ c.if-not-any_passes.false)),
      sym others ∙ (sym c.any_passes-2.ensures ∙ c.if-any_passes.true),
    ) refl

pub returns : goal.returns
returns c operations S choice A =
    let there = any_there c.args.self.now.table operations choice (fits_pick c.args.pick) S.keeps A in
    let others = others_is c.args.self.now.table operations choice (fits_pick c.args.pick) c.args.thread S.keeps A in
    rw (
      not-true (is_empty (chosen choice 1 operations))
          (sym there ∙ (sym c.any_passes.ensures ∙ c.if-not-any_passes.false)),
      sym others ∙ (sym c.any_passes-2.ensures ∙ c.if-any_passes.false),
    ) refl
