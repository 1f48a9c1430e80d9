-- The table of calls of collectives in code.
use Rattle.std.proofs.Common.{◌≡◌, refl, ap, ◌∙◌, false, ℕ, List, map}
use Rattle.base_text.specs.Lines.{◌>>=◌}
use Rattle.text_calls.specs.Forms.{none_at, Row, named_at, row_at}
use Rattle.text_calls.specs.FormTests.{named_form}
use Rattle.text_calls.proofs.TableLaws.{found_form, read_named, test_named}
use Rattle.text_steps.specs.CollectiveLines.{collective_form_row, collective_forms, collective_named, collective_rows}
use Rattle.text_steps.specs.declared.steps.CollectiveText.{CollectiveText}

-- the forms have the rows of the table
rows_are : collective_rows ≡ map collective_form_row collective_forms
unfolding collective_rows collective_forms
rows_are = refl

-- reading a call is reading the words of the form of its name
pub read_collectives : (name bytes : List ℕ) → named_at none_at collective_rows name bytes
    ≡ (collective_named name >>= λ form. row_at none_at (collective_form_row form) bytes)
unfolding collective_named
read_collectives name bytes =
    ap (λ (rows : List (Row ⊥ CollectiveText)). named_at none_at rows name bytes) rows_are
    ∙ read_named none_at collective_form_row collective_forms name bytes

-- and a line has the form of one by the words of that form
pub test_collectives : (name bytes : List ℕ) → named_form (λ bytes. false) collective_rows name bytes
    ≡ found_form (λ bytes. false) collective_form_row (collective_named name) bytes
unfolding collective_named
test_collectives name bytes =
    ap (λ (rows : List (Row ⊥ CollectiveText)). named_form (λ bytes. false) rows name bytes) rows_are
    ∙ test_named (λ bytes. false) collective_form_row collective_forms name bytes
