use Rattle.std.proofs.Common.{not, sym, ap, ◌∙◌, refl, Some, ne_eqb}
use Rattle.std.proofs.lemmas.Bool.{not-true, not-false}
use Rattle.part_transfers.specs.Syncs.{chosen, members, is_empty}
use Rattle.part_transfers.specs.Table.{fits_pick}
use Rattle.part_transfers.specs.Stands.{member_in}
use Rattle.part_transfers.proofs.Members.{members_agree, agrees_by, any_there, unissued_is}
use Rattle.part_transfers.proofs.transfers.Transfers.issued.Goals as goal

pub returns-then-not-any_passes : goal.returns-then-not-any_passes
returns-then-not-any_passes c operations S =
    let table = c.args.self.now.table in
    let handle = c.args.handle.serial in
    let test = fits_pick c.members-pick.result in
    let A = agrees_by (members handle operations) (member_in table handle) test c.members-pick.ensures
    (members_agree table operations handle S.keeps) in
    let there = any_there table operations (members handle operations) test S.keeps A in
    rw (
      ne_eqb handle 0 c.if-handle-eq0.false,
      not-false (is_empty (chosen (members handle operations) 1 operations))
          (sym there ∙ (sym c.any_passes.ensures ∙ c.if-not-any_passes.true)),
    ) refl

pub returns : goal.returns
returns c operations S =
    let table = c.args.self.now.table in
    let handle = c.args.handle.serial in
    let test = fits_pick c.members-pick.result in
    let A = agrees_by (members handle operations) (member_in table handle) test c.members-pick.ensures
    (members_agree table operations handle S.keeps) in
    let there = any_there table operations (members handle operations) test S.keeps A in
    rw (
      ne_eqb handle 0 c.if-handle-eq0.false,
      not-true (is_empty (chosen (members handle operations) 1 operations))
          (sym there ∙ (sym c.any_passes.ensures ∙ c.if-not-any_passes.false)),
    )
    (ap (λ unissued. Some (not unissued)) (c.any_passes-2.ensures
    ∙ unissued_is table operations (members handle operations) test S.keeps A))
