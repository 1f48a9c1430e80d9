-- The forms of lines that begin transfers of many pieces.
-- Origin: this project's profile, over the implicit transfers of GASNet 1.8.1, extended API.
use Rattle.std.specs.Prelude.{◌≡◌, ℕ, List, [], ◌∷◌, Option, Some, None, Bool, false, ◌&&◌, nat_le, is_none}
use Rattle.std.specs.Prelude.{if◌then◌else◌, length, codes}
use Rattle.wire_message.specs.Parameters.{Parameters}
use Rattle.node_vis.specs.declared.shapes.Indexed.{Indexed}
use Rattle.node_vis.specs.declared.shapes.Level.{Level}
use Rattle.node_vis.specs.declared.shapes.PlanFault.{PlanFault}
use Rattle.node_vis.specs.declared.shapes.Strided.{Strided}
use Rattle.node_vis.specs.declared.shapes.Way.{Way}
use Rattle.node_vis.specs.declared.shapes.Way.TheVariants.{Put, Get}
use Rattle.node_vis.specs.Faults.{strided_fault, indexed_fault}
use Rattle.node_vis.specs.Plans.{PlanState, strided_plan, indexed_plan}
use Rattle.base_text.specs.Lines.{Word, ◌>>=◌}
use Rattle.text_calls.specs.Forms.{Number, Shape, ◌▸◌, Bundles, Split, Strides, Spans, Maker, Values, Row}
use Rattle.text_calls.specs.Forms.{Entry}
use Rattle.text_calls.specs.Forms.{table_at, entry_text, IsOf, none_at, none_text, none_fits, U64, U16, U8}
use Rattle.text_calls.specs.FormTests.{table_form}
use Rattle.text_calls.specs.Tables.{first_named}
use Rattle.text_calls.specs.Versions.{is_second}
use Rattle.text_calls.specs.declared.scope.Scope.{Scope}
use Rattle.text_vis.specs.declared.vis_forms.VisForm.{VisForm}
use Rattle.text_vis.specs.declared.vis_forms.VisForm.TheVariants as forms
use Rattle.text_vis.specs.declared.vis.VisShape.{VisShape}
use Rattle.text_vis.specs.declared.vis.VisShape.TheVariants as shapes
use Rattle.text_vis.specs.declared.vis.VisText.{VisText}
use Rattle.text_vis.specs.declared.vis.VisWords.{VisWords}

-- a form of such a line
abbrev pub row_of_vis : Word → (shape : Shape) → Maker ⊥ shape VisWords → Row ⊥ VisWords
row_of_vis name shape make = record { name = name; shape = shape; make = make }

-- what the words say
abbrev pub words_of : Way → (register from to : ℕ) → VisShape → VisWords
words_of way register from to shape =
    record { register = register; from = from; way = way; to = to; shape = shape }

-- strided: the register of the handle, the piece to begin from, the node, the first bytes there and here, how many
-- bytes, and the levels
abbrev pub strided_shape : Shape
strided_shape = U8 ▸ Number 0 1024 ▸ U16 ▸ U64 ▸ U64 ▸ U64 ▸ Bundles 0 4 Strides

abbrev pub strided_row : Word → Way → Row ⊥ VisWords
strided_row name way = row_of_vis name strided_shape
    (λ register from to remote local len levels.
    words_of way register from to (shapes.Strided remote local len levels))

-- indexed: the same up to the node, how many ranges are there, these, and those here
abbrev pub indexed_shape : Shape
indexed_shape = U8 ▸ Number 0 1024 ▸ U16 ▸ Split 16 Spans

abbrev pub indexed_row : Word → Way → Row ⊥ VisWords
indexed_row name way = row_of_vis name indexed_shape
    (λ register from to remote local. words_of way register from to (shapes.Indexed remote local))

abbrev pub put_strided_row : Row ⊥ VisWords
put_strided_row = strided_row (codes "put-s") Put

abbrev pub get_strided_row : Row ⊥ VisWords
get_strided_row = strided_row (codes "get-s") Get

abbrev pub put_indexed_row : Row ⊥ VisWords
put_indexed_row = indexed_row (codes "put-v") Put

abbrev pub get_indexed_row : Row ⊥ VisWords
get_indexed_row = indexed_row (codes "get-v") Get

-- the forms of such lines
unfoldable pub vis_rows : List (Row ⊥ VisWords)
vis_rows = put_strided_row ∷ get_strided_row ∷ put_indexed_row ∷ get_indexed_row ∷ []

-- the row of a form of the code's table
abbrev pub vis_form_row : VisForm → Row ⊥ VisWords
vis_form_row forms.PutStrided = put_strided_row
vis_form_row forms.GetStrided = get_strided_row
vis_form_row forms.PutIndexed = put_indexed_row
vis_form_row forms.GetIndexed = get_indexed_row

-- the forms, in the order of the rows
unfoldable pub vis_forms : List VisForm
vis_forms = forms.PutStrided ∷ forms.GetStrided ∷ forms.PutIndexed ∷ forms.GetIndexed ∷ []

-- the form of this name
unfoldable pub vis_named : Word → Option VisForm
vis_named name = first_named (λ form. (vis_form_row form).name) vis_forms name

-- the words of such a line
abbrev pub entry : (row : Row ⊥ VisWords) → Values ⊥ row.shape → Entry ⊥ VisWords
entry row values = record { row = row; values = values }

-- how such a line is written
abbrev pub entry_by : Way → VisShape → (register from to : ℕ) → Entry ⊥ VisWords
entry_by Put (shapes.Strided remote local len levels) register from to =
    entry put_strided_row (register, (from, (to, (remote, (local, (len, levels))))))
entry_by Get (shapes.Strided remote local len levels) register from to =
    entry get_strided_row (register, (from, (to, (remote, (local, (len, levels))))))
entry_by Put (shapes.Indexed remote local) register from to =
    entry put_indexed_row (register, (from, (to, (remote, local))))
entry_by Get (shapes.Indexed remote local) register from to =
    entry get_indexed_row (register, (from, (to, (remote, local))))

abbrev pub vis_entry : VisWords → Entry ⊥ VisWords
vis_entry words = entry_by words.way words.shape words.register words.from words.to

-- ---- plans

-- the transfers that are wanted; their slices lie at no place, which nothing here asks
abbrev pub strided_transfer : Way → (to remote local len : ℕ) → List Level → Strided
strided_transfer way to remote local len levels = record {
  way = way;
  to = to;
  remote = remote;
  local = local;
  len = len;
  levels = record { ref_ptr = (0, 0); now = levels };
}

abbrev pub indexed_transfer : Way → (to : ℕ) → (remote local : List (ℕ × ℕ)) → Indexed
indexed_transfer way to remote local =
    record {
      way = way;
      to = to;
      remote = record { ref_ptr = (0, 0); now = remote };
      local = record { ref_ptr = (0, 0); now = local };
    }

-- why there is no plan of them, if there is none
abbrev pub shape_fault : Parameters → Way → (to : ℕ) → VisShape → Option PlanFault
shape_fault settings way to (shapes.Strided remote local len levels) =
    strided_fault settings (strided_transfer way to remote local len levels)
shape_fault settings way to (shapes.Indexed remote local) =
    indexed_fault settings (indexed_transfer way to remote local)

-- and the plan, where there is one
abbrev pub shape_plan : Parameters → Way → (to : ℕ) → VisShape → PlanState
shape_plan settings way to (shapes.Strided remote local len levels) =
    strided_plan settings (strided_transfer way to remote local len levels)
shape_plan settings way to (shapes.Indexed remote local) = indexed_plan settings (indexed_transfer way to remote local)

abbrev pub vis_plan : Parameters → VisWords → PlanState
vis_plan settings words = shape_plan settings words.way words.to words.shape

-- the words, and the plan that is made of them in a job of these settings
abbrev pub with_plan : Parameters → VisWords → VisText
with_plan settings words = record { words = words; plan = vis_plan settings words }

-- whether such a line may stand in a job: there is a plan, and the piece to begin from is at most their number
abbrev pub vis_fits : Scope → VisWords → Bool
vis_fits scope words =
    (is_second scope && is_none (shape_fault scope.settings words.way words.to words.shape))
    && nat_le words.from (length (vis_plan scope.settings words).pieces)

-- the same where it may
abbrev pub plan_in : Scope → VisWords → Option VisText
plan_in scope words = if vis_fits scope words then Some (with_plan scope.settings words) else None

-- what reads such a line
unfoldable pub vis_at : Scope → List ℕ → Option (VisText × List ℕ)
vis_at scope bytes =
    table_at none_at vis_rows (vis_fits scope) bytes >>= λ x. Some (with_plan scope.settings x.0, x.1)

-- whether bytes have the form of one
unfoldable pub vis_form : Scope → List ℕ → Bool
vis_form scope bytes = table_form (λ bytes. false) vis_rows bytes && is_second scope

-- the text of one
abbrev pub vis_text : VisText → List ℕ
vis_text vis = entry_text none_text (vis_entry vis.words)

-- one whose words can be said, and which may stand in the job, with its plan
abbrev pub IsVis : Scope → VisText → Type 0
IsVis scope vis =
    IsOf none_fits vis_entry (vis_fits scope) vis.words × (vis.plan ≡ vis_plan scope.settings vis.words)
