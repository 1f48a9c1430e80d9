-- The table of such lines in code.
use Rattle.std.proofs.Common.{◌≡◌, refl, ap, ◌∙◌, false, ℕ, List, map}
use Rattle.base_text.specs.Lines.{◌>>=◌}
use Rattle.text_calls.specs.Forms.{none_at, Row, named_at, row_at}
use Rattle.text_calls.specs.FormTests.{named_form}
use Rattle.text_calls.proofs.TableLaws.{found_form, read_named, test_named}
use Rattle.text_vis.specs.VisLines.{vis_form_row, vis_forms, vis_named, vis_rows}
use Rattle.text_vis.specs.declared.vis.VisWords.{VisWords}

-- the forms have the rows of the table
rows_are : vis_rows ≡ map vis_form_row vis_forms
unfolding vis_rows vis_forms
rows_are = refl

-- reading a line is reading the words of the form of its name
pub read_vis : (name bytes : List ℕ) → named_at none_at vis_rows name bytes
    ≡ (vis_named name >>= λ form. row_at none_at (vis_form_row form) bytes)
unfolding vis_named
read_vis name bytes =
    ap (λ (rows : List (Row ⊥ VisWords)). named_at none_at rows name bytes) rows_are
    ∙ read_named none_at vis_form_row vis_forms name bytes

-- and it has the form of one by the words of that form
pub test_vis : (name bytes : List ℕ) → named_form (λ bytes. false) vis_rows name bytes
    ≡ found_form (λ bytes. false) vis_form_row (vis_named name) bytes
unfolding vis_named
test_vis name bytes =
    ap (λ (rows : List (Row ⊥ VisWords)). named_form (λ bytes. false) rows name bytes) rows_are
    ∙ test_named (λ bytes. false) vis_form_row vis_forms name bytes
