use Rattle.std.proofs.Common.{◌∙◌, sym}
use Rattle.base_text.proofs.Names.{behind_first}
use Rattle.base_text.proofs.words.behind_name.Goals as goal

pub split_at-requires : goal.split_at-requires
split_at-requires c =
    (behind_first c.args.bytes.now c.args.name.now (sym c.begins.ensures ∙ c.if-not-begins.false)).0

pub returns-clause-rest : goal.returns-clause-rest
returns-clause-rest c =
    c.split_at.ensures.back
    ∙ (behind_first c.args.bytes.now c.args.name.now (sym c.begins.ensures ∙ c.if-not-begins.false)).1
