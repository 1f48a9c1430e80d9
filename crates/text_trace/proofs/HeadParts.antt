-- The lines of a trace before its entries, one after another.
use Rattle.std.proofs.Common.{◌≡◌, ℕ, ◌++◌, sym, ap, ◌∙◌, append-nil}
use Rattle.std.specs.Prelude.{codes}
use Rattle.base_text.specs.LineTexts.{line_text}
use Rattle.text_trace.specs.TraceText.{line_of_number, head_text}

pub head_parts : (version version' job rank rank' : ℕ) → version' ≡ version → rank' ≡ rank
    → head_text version job rank
    ≡ line_text (line_of_number (codes "trace") version')
    ++ (line_text (line_of_number (codes "job") job) ++ line_text (line_of_number (codes "rank") rank'))
head_parts version version' job rank rank' e f =
    ap (λ w. line_text (line_of_number (codes "trace") version) ++ (line_text (line_of_number (codes "job") job) ++ w))
    (append-nil (line_text (line_of_number (codes "rank") rank)))
    ∙ ap (λ v. line_text (line_of_number (codes "trace") v)
    ++ (line_text (line_of_number (codes "job") job) ++ line_text (line_of_number (codes "rank") rank))) (sym e)
    ∙ ap (λ r. line_text (line_of_number (codes "trace") version')
    ++ (line_text (line_of_number (codes "job") job) ++ line_text (line_of_number (codes "rank") r))) (sym f)
