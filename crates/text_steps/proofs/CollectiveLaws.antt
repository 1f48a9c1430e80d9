-- The table of lines that are calls of collectives.
use Rattle.std.proofs.Common.{◌≡◌, ℕ, refl, List, ◌∷◌, ◌++◌, None}
use Rattle.text_calls.specs.Forms.{none_at, none_text, none_fits}
use Rattle.text_calls.specs.Calls.{calls, later_calls, own_calls, segment_calls, transfer_calls}
use Rattle.text_calls.specs.Calls.{implicit_calls}
use Rattle.text_calls.specs.Calls.{sync_calls, barrier_calls, call_at}
use Rattle.text_steps.specs.CollectiveLines.{collective_rows, collective_entry, collective_fits, collective_at}
use Rattle.text_steps.specs.CollectiveLines.{collective_text, IsCollective}
use Rattle.text_vis.specs.VisLines.{vis_at, vis_rows}
use Rattle.text_steps.specs.declared.steps.CollectiveText.{CollectiveText}
use Rattle.text_steps.specs.declared.steps.CollectiveText.TheVariants as text
use Rattle.text_calls.specs.declared.scope.Scope.{Scope}
use Rattle.text_calls.proofs.FormLaws.{IsExact, IsTable, IsEntryOf, entry_of, table_exact, none_exact}

-- an entry makes its call, by the first row of its name
collective_again : (c : CollectiveText) → IsEntryOf collective_rows collective_entry c
unfolding collective_rows
collective_again (text.Start shape from) = entry_of refl refl refl
collective_again text.Step = entry_of refl refl refl
collective_again (text.Try dest) = entry_of refl refl refl

collectives_are : (scope : Scope) → IsTable collective_rows collective_entry (collective_fits scope)
unfolding collective_rows
collectives_are scope = record {
  makes = (λ v. refl, (λ v. refl, (λ v. refl, tt)));
  again = λ c h. collective_again c;
}

-- reading such a line is the inverse of writing it
pub collectives_exact : (scope : Scope) → IsExact (collective_at scope) collective_text (IsCollective scope)
unfolding collective_at
collectives_exact scope =
    table_exact none_at none_text none_fits collective_rows collective_entry (collective_fits scope) none_exact
    (collectives_are scope)

-- the text of one is no call's
pub other_call : (scope : Scope) (c : CollectiveText) (rest : List ℕ)
    → call_at scope (collective_text c ++ 10 ∷ rest) ≡ None
unfolding call_at calls later_calls own_calls segment_calls transfer_calls implicit_calls sync_calls barrier_calls
other_call scope (text.Start shape from) rest = refl
other_call scope text.Step rest = refl
other_call scope (text.Try dest) rest = refl

-- nor does it begin a transfer of many pieces
pub other_vis : (scope : Scope) (c : CollectiveText) (rest : List ℕ)
    → vis_at scope (collective_text c ++ 10 ∷ rest) ≡ None
unfolding vis_at vis_rows
other_vis scope (text.Start shape from) rest = refl
other_vis scope text.Step rest = refl
other_vis scope (text.Try dest) rest = refl
