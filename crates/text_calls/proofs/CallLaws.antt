-- The table of calls.
use Rattle.std.proofs.Common.{◌≡◌, refl, ap, ◌∙◌, false, ℕ, List, map}
use Rattle.base_text.specs.Lines.{◌>>=◌, first_word, behind_word}
use Rattle.text_calls.specs.declared.scope.Scope.{Scope}
use Rattle.text_calls.specs.declared.scheduled.ScheduledCall.{ScheduledCall}
use Rattle.text_calls.specs.declared.scheduled.ScheduledCall.TheVariants as call
use Rattle.part_transfers.specs.declared.operation.Transfer.TheVariants as transfer
use Rattle.text_calls.specs.Forms.{none_at, none_text, none_fits, Row, table_at}
use Rattle.text_calls.specs.FormTests.{named_form}
use Rattle.text_calls.specs.Calls.{calls, later_calls, own_calls, segment_calls, transfer_calls}
use Rattle.text_calls.specs.Calls.{implicit_calls}
use Rattle.text_calls.specs.Calls.{sync_calls, barrier_calls, call_entry, call_at, call_fits}
use Rattle.text_calls.specs.Calls.{call_form_row, call_forms, call_named, form_at, own_forms, sync_forms}
use Rattle.text_calls.specs.Calls.{transfer_forms}
use Rattle.text_calls.specs.Calls.{call_text}
use Rattle.text_calls.specs.Calls.{IsCall}
use Rattle.text_calls.proofs.FormLaws.{AreMade, IsExact, IsTable, IsEntryOf, entry_of, table_exact}
use Rattle.text_calls.proofs.FormLaws.{none_exact}
use Rattle.text_calls.proofs.TableLaws.{found_form, read_table, test_named}

-- an entry makes its call, by the first row of its name
call_again : (c : ScheduledCall) → IsEntryOf calls call_entry c
unfolding calls later_calls own_calls segment_calls transfer_calls implicit_calls sync_calls barrier_calls
call_again (call.Begin register (transfer.Put to remote local len)) = entry_of refl refl refl
call_again (call.Begin register (transfer.Get to remote local len)) = entry_of refl refl refl
call_again (call.Begin register (transfer.Memset to remote len byte)) = entry_of refl refl refl
call_again (call.BeginImplicit (transfer.Put to remote local len)) = entry_of refl refl refl
call_again (call.BeginImplicit (transfer.Get to remote local len)) = entry_of refl refl refl
call_again (call.BeginImplicit (transfer.Memset to remote len byte)) = entry_of refl refl refl
call_again _ = entry_of refl refl refl

-- ---- the rows make what the entries say

-- calls on the barrier
barrier_calls_are : AreMade call_entry barrier_calls
unfolding barrier_calls
barrier_calls_are = (λ v. refl, (λ v. refl, tt))

-- from `issued` on
sync_calls_are : AreMade call_entry sync_calls
unfolding sync_calls
sync_calls_are =
    (λ v. refl, (λ v. refl, (λ v. refl, (λ v. refl, (λ v. refl, (λ v. refl, (λ v. refl, barrier_calls_are)))))))

-- from `put-nbi-bulk` on
implicit_calls_are : AreMade call_entry implicit_calls
unfolding implicit_calls
implicit_calls_are = (λ v. refl, (λ v. refl, (λ v. refl, sync_calls_are)))

-- from `put-nb-bulk` on
transfer_calls_are : AreMade call_entry transfer_calls
unfolding transfer_calls
transfer_calls_are = (λ v. refl, (λ v. refl, (λ v. refl, implicit_calls_are)))

-- from `show` on
segment_calls_are : AreMade call_entry segment_calls
unfolding segment_calls
segment_calls_are = (λ v. refl, (λ v. refl, (λ v. refl, (λ v. refl, (λ v. refl, transfer_calls_are)))))

-- from `lock` on
own_calls_are : AreMade call_entry own_calls
unfolding own_calls
own_calls_are = (λ v. refl, (λ v. refl, (λ v. refl, (λ v. refl, (λ v. refl, (λ v. refl, segment_calls_are))))))

-- from `medium` on
later_calls_are : AreMade call_entry later_calls
unfolding later_calls
later_calls_are = (λ v. refl, (λ v. refl, (λ v. refl, own_calls_are)))

-- all of them
calls_are : (scope : Scope) → IsTable calls call_entry (call_fits scope)
unfolding calls
calls_are scope = record { makes = (λ v. refl, (λ v. refl, later_calls_are)); again = λ c h. call_again c }

-- reading a call is the inverse of writing it
pub calls_exact : (scope : Scope) → IsExact (call_at scope) call_text (IsCall scope)
unfolding call_at
calls_exact scope =
    table_exact none_at none_text none_fits calls call_entry (call_fits scope) none_exact (calls_are scope)

-- ---- the table in code

-- the forms have the rows of the table
rows_are : calls ≡ map call_form_row call_forms
unfolding calls later_calls own_calls segment_calls transfer_calls implicit_calls sync_calls barrier_calls
    call_forms own_forms transfer_forms sync_forms
rows_are = refl

-- reading a call is reading the words of the form of its name
pub read_calls : (scope : Scope) (bytes : List ℕ)
    → call_at scope bytes ≡ (call_named (first_word bytes) >>= λ form. form_at scope form (behind_word bytes))
unfolding call_at form_at call_named
read_calls scope bytes =
    ap (λ (rows : List (Row ⊥ ScheduledCall)). table_at none_at rows (call_fits scope) bytes) rows_are
    ∙ read_table none_at call_form_row call_forms (call_fits scope) bytes

-- and a line has the form of a call by the words of that form
pub test_calls : (name bytes : List ℕ) → named_form (λ bytes. false) calls name bytes
    ≡ found_form (λ bytes. false) call_form_row (call_named name) bytes
unfolding call_named
test_calls name bytes =
    ap (λ (rows : List (Row ⊥ ScheduledCall)). named_form (λ bytes. false) rows name bytes) rows_are
    ∙ test_named (λ bytes. false) call_form_row call_forms name bytes
