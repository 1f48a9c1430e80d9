-- The table of steps that wait in code.
use Rattle.std.proofs.Common.{◌≡◌, refl, ap, ◌∙◌, false, ℕ, List, map}
use Rattle.base_text.specs.Lines.{◌>>=◌}
use Rattle.text_calls.specs.Forms.{none_at, Row, named_at}
use Rattle.text_calls.specs.FormTests.{named_form}
use Rattle.text_calls.proofs.TableLaws.{found_form, read_named, test_named}
use Rattle.text_steps.specs.Scripts.{later_waits, sync_waits, waiting_forms, waiting_named, waiting_row, waiting_words_at, waits}
use Rattle.text_steps.specs.declared.steps.WaitingStep.{WaitingStep}

-- the forms have the rows of the table
rows_are : waits ≡ map waiting_row waiting_forms
unfolding waits sync_waits later_waits waiting_forms
rows_are = refl

-- reading a step is reading the words of the form of its name
pub read_waits : (name bytes : List ℕ) → named_at none_at waits name bytes
    ≡ (waiting_named name >>= λ form. waiting_words_at form bytes)
unfolding waiting_named waiting_words_at
read_waits name bytes =
    ap (λ (rows : List (Row ⊥ WaitingStep)). named_at none_at rows name bytes) rows_are
    ∙ read_named none_at waiting_row waiting_forms name bytes

-- and a line has the form of one by the words of that form
pub test_waits : (name bytes : List ℕ) → named_form (λ bytes. false) waits name bytes
    ≡ found_form (λ bytes. false) waiting_row (waiting_named name) bytes
unfolding waiting_named
test_waits name bytes =
    ap (λ (rows : List (Row ⊥ WaitingStep)). named_form (λ bytes. false) rows name bytes) rows_are
    ∙ test_named (λ bytes. false) waiting_row waiting_forms name bytes
