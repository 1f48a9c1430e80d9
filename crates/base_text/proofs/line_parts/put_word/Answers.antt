use Rattle.std.proofs.Common.{◌∷◌, []}
use Rattle.base_io.proofs.Outboxes.{gathers_more}
use Rattle.base_text.proofs.line_parts.put_word.Goals as goal

pub returns-clause-gathers : goal.returns-clause-gathers
returns-clause-gathers g c =
    gathers_more _ _ _ (32 ∷ []) c.args.word.now c.put.ensures.gathers c.put-2.ensures.gathers
