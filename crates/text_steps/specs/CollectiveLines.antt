-- The forms of lines that are calls of collectives (this project's profile).
use Rattle.std.specs.Prelude.{ℕ, List, [], ◌∷◌, Option, Bool, false, ◌&&◌, codes}
use Rattle.part_collective_area.specs.declared.shape.CollectiveKind.{CollectiveKind}
use Rattle.part_collective_area.specs.declared.shape.Shape.{Shape as CollectiveShape}
use Rattle.base_text.specs.Lines.{Word}
use Rattle.text_calls.specs.Forms.{Collective, Shape, End, ◌▸◌, Maker, Values, Row, Entry}
use Rattle.text_calls.specs.Forms.{table_at, entry_text, IsOf, none_at, none_text, none_fits, U64, U16}
use Rattle.text_calls.specs.FormTests.{table_form}
use Rattle.text_calls.specs.Tables.{first_named}
use Rattle.text_steps.specs.declared.collective_forms.CollectiveForm.{CollectiveForm}
use Rattle.text_steps.specs.declared.collective_forms.CollectiveForm.TheVariants as forms
use Rattle.text_calls.specs.declared.scope.Scope.{Scope}
use Rattle.text_steps.specs.declared.steps.CollectiveText.{CollectiveText}
use Rattle.text_steps.specs.declared.steps.CollectiveText.TheVariants as text

-- a form of such a line
abbrev pub row_of_collective : Word → (shape : Shape) → Maker ⊥ shape CollectiveText → Row ⊥ CollectiveText
row_of_collective name shape make = record { name = name; shape = shape; make = make }

-- a collective
abbrev pub shape_of : CollectiveKind → (root len : ℕ) → CollectiveShape
shape_of kind root len = record { kind = kind; root = root; len = len }

-- the kind, the root, the first byte that the node gives, and how many bytes it gives
abbrev pub start_row : Row ⊥ CollectiveText
start_row = row_of_collective (codes "coll-start") (Collective ▸ U16 ▸ U64 ▸ U64 ▸ End)
    (λ kind root from len. text.Start (shape_of kind root len) from)

abbrev pub step_row : Row ⊥ CollectiveText
step_row = row_of_collective (codes "coll-step") End text.Step

abbrev pub try_row : Row ⊥ CollectiveText
try_row = row_of_collective (codes "coll-try") (U64 ▸ End) text.Try

-- the forms of such lines
unfoldable pub collective_rows : List (Row ⊥ CollectiveText)
collective_rows = start_row ∷ step_row ∷ try_row ∷ []

-- the row of a form of the code's table
abbrev pub collective_form_row : CollectiveForm → Row ⊥ CollectiveText
collective_form_row forms.Start = start_row
collective_form_row forms.Step = step_row
collective_form_row forms.Try = try_row

-- the forms, in the order of the rows
unfoldable pub collective_forms : List CollectiveForm
collective_forms = forms.Start ∷ forms.Step ∷ forms.Try ∷ []

-- the form of this name
unfoldable pub collective_named : Word → Option CollectiveForm
collective_named name = first_named (λ form. (collective_form_row form).name) collective_forms name

-- the words of such a line
abbrev pub words : (row : Row ⊥ CollectiveText) → Values ⊥ row.shape → Entry ⊥ CollectiveText
words row values = record { row = row; values = values }

-- how such a line is written
abbrev pub collective_entry : CollectiveText → Entry ⊥ CollectiveText
collective_entry (text.Start shape from) = words start_row (shape.kind, (shape.root, (from, (shape.len, tt))))
collective_entry text.Step = words step_row tt
collective_entry (text.Try dest) = words try_row (dest, tt)

-- whether such a line may stand in a job: it has an area of collectives
abbrev pub collective_fits : Scope → CollectiveText → Bool
collective_fits scope call = scope.collect

-- what reads such a line
unfoldable pub collective_at : Scope → List ℕ → Option (CollectiveText × List ℕ)
collective_at scope bytes = table_at none_at collective_rows (collective_fits scope) bytes

-- whether bytes have the form of one
unfoldable pub collective_form : Scope → List ℕ → Bool
collective_form scope bytes = table_form (λ bytes. false) collective_rows bytes && scope.collect

-- the text of one
abbrev pub collective_text : CollectiveText → List ℕ
collective_text call = entry_text none_text (collective_entry call)

-- one whose words can be said, and which may stand in the job
abbrev pub IsCollective : Scope → CollectiveText → Type 0
IsCollective scope call = IsOf none_fits collective_entry (collective_fits scope) call
