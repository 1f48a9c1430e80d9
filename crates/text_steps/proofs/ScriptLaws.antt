-- The table of steps that wait, and steps.
use Rattle.std.proofs.Common.{◌≡◌, ℕ, refl, List, ◌∷◌, ◌++◌, Some, None}
use Rattle.text_calls.specs.declared.scope.Scope.{Scope}
use Rattle.text_steps.specs.declared.steps.ScriptStep.{ScriptStep}
use Rattle.text_steps.specs.declared.steps.ScriptStep.TheVariants as step
use Rattle.part_transfers.specs.declared.operation.Transfer.TheVariants as transfer
use Rattle.text_steps.specs.declared.steps.WaitingStep.{WaitingStep}
use Rattle.text_steps.specs.declared.steps.WaitingStep.TheVariants as waiting
use Rattle.text_calls.specs.Forms.{none_at, none_text, none_fits}
use Rattle.text_calls.specs.Calls.{calls, later_calls, own_calls, segment_calls, transfer_calls}
use Rattle.text_calls.specs.Calls.{implicit_calls}
use Rattle.text_calls.specs.Calls.{sync_calls, barrier_calls, call_at}
use Rattle.text_steps.specs.Scripts.{waits, sync_waits, later_waits, waiting_entry, waiting_at, waiting_fits}
use Rattle.text_steps.specs.Scripts.{waiting_text}
use Rattle.text_steps.specs.Scripts.{IsWaiting}
use Rattle.text_steps.specs.Scripts.{step_at, step_of, step_text, IsStep}
use Rattle.text_steps.specs.ThreadActions.{thread_action_at, thread_action_text, IsThreadAction}
use Rattle.text_steps.specs.CollectiveLines.{collective_at, collective_rows}
use Rattle.text_vis.specs.VisLines.{vis_at, vis_rows}
use Rattle.text_steps.specs.declared.thread_actions.ThreadAction.{ThreadAction}
use Rattle.text_steps.specs.declared.thread_actions.ThreadAction.TheVariants as does
use Rattle.base_text.proofs.Takes.{Takes, takes_some, takes_then, takes_or}
use Rattle.text_calls.proofs.FormLaws.{AreMade, IsExact, IsTable, IsEntryOf, IsFlat, entry_of, table_exact}
use Rattle.text_calls.proofs.FormLaws.{none_exact}
use Rattle.text_steps.proofs.VisLaws.{thread_actions_exact}

-- an entry makes its step, by the first row of its name
waiting_again : (w : WaitingStep) → IsEntryOf waits waiting_entry w
unfolding waits sync_waits later_waits
waiting_again (waiting.Until cell operand) = entry_of refl refl refl
waiting_again (waiting.Transfer (transfer.Put to remote local len)) = entry_of refl refl refl
waiting_again (waiting.Transfer (transfer.Get to remote local len)) = entry_of refl refl refl
waiting_again (waiting.Transfer (transfer.Memset to remote len byte)) = entry_of refl refl refl
waiting_again (waiting.PutBegin register put) = entry_of refl refl refl
waiting_again (waiting.PutImplicit put) = entry_of refl refl refl
waiting_again (waiting.Wait register) = entry_of refl refl refl
waiting_again (waiting.WaitAll registers) = entry_of refl refl refl
waiting_again (waiting.WaitSome registers) = entry_of refl refl refl
waiting_again (waiting.WaitImplicit which) = entry_of refl refl refl
waiting_again (waiting.BarrierWait id flags) = entry_of refl refl refl
waiting_again (waiting.UntilWord offset number) = entry_of refl refl refl
waiting_again (waiting.Collective shape from dest) = entry_of refl refl refl

-- from `wait` on
sync_waits_are : AreMade waiting_entry sync_waits
unfolding sync_waits later_waits
sync_waits_are = (λ v. refl, (λ v. refl, (λ v. refl, (λ v. refl, (λ v. refl, (λ v. refl, (λ v. refl, tt)))))))

-- all of them
waits_are : (scope : Scope) → IsTable waits waiting_entry (waiting_fits scope)
unfolding waits
waits_are scope = record {
  makes = (λ v. refl, (λ v. refl, (λ v. refl, (λ v. refl, (λ v. refl, (λ v. refl, sync_waits_are))))));
  again = λ w h. waiting_again w;
}

-- reading a step that waits is the inverse of writing it
waits_exact : (scope : Scope) → IsExact (waiting_at scope) waiting_text (IsWaiting scope)
unfolding waiting_at
waits_exact scope =
    table_exact none_at none_text none_fits waits waiting_entry (waiting_fits scope) none_exact (waits_are scope)

-- ---- steps

-- a step that waits is no call
no_call : (scope : Scope) (w : WaitingStep) (rest : List ℕ) → call_at scope (waiting_text w ++ 10 ∷ rest) ≡ None
unfolding call_at calls later_calls own_calls segment_calls transfer_calls implicit_calls sync_calls barrier_calls
no_call scope (waiting.Until cell operand) rest = refl
no_call scope (waiting.Transfer (transfer.Put to remote local len)) rest = refl
no_call scope (waiting.Transfer (transfer.Get to remote local len)) rest = refl
no_call scope (waiting.Transfer (transfer.Memset to remote len byte)) rest = refl
no_call scope (waiting.PutBegin register put) rest = refl
no_call scope (waiting.PutImplicit put) rest = refl
no_call scope (waiting.Wait register) rest = refl
no_call scope (waiting.WaitAll registers) rest = refl
no_call scope (waiting.WaitSome registers) rest = refl
no_call scope (waiting.WaitImplicit which) rest = refl
no_call scope (waiting.BarrierWait id flags) rest = refl
no_call scope (waiting.UntilWord offset number) rest = refl
no_call scope (waiting.Collective shape from dest) rest = refl

-- nor does it begin a transfer of many pieces
no_vis : (scope : Scope) (w : WaitingStep) (rest : List ℕ) → vis_at scope (waiting_text w ++ 10 ∷ rest) ≡ None
unfolding vis_at vis_rows
no_vis scope (waiting.Until cell operand) rest = refl
no_vis scope (waiting.Transfer (transfer.Put to remote local len)) rest = refl
no_vis scope (waiting.Transfer (transfer.Get to remote local len)) rest = refl
no_vis scope (waiting.Transfer (transfer.Memset to remote len byte)) rest = refl
no_vis scope (waiting.PutBegin register put) rest = refl
no_vis scope (waiting.PutImplicit put) rest = refl
no_vis scope (waiting.Wait register) rest = refl
no_vis scope (waiting.WaitAll registers) rest = refl
no_vis scope (waiting.WaitSome registers) rest = refl
no_vis scope (waiting.WaitImplicit which) rest = refl
no_vis scope (waiting.BarrierWait id flags) rest = refl
no_vis scope (waiting.UntilWord offset number) rest = refl
no_vis scope (waiting.Collective shape from dest) rest = refl

-- nor is it a call of collectives
no_collective : (scope : Scope) (w : WaitingStep) (rest : List ℕ)
    → collective_at scope (waiting_text w ++ 10 ∷ rest) ≡ None
unfolding collective_at collective_rows
no_collective scope (waiting.Until cell operand) rest = refl
no_collective scope (waiting.Transfer (transfer.Put to remote local len)) rest = refl
no_collective scope (waiting.Transfer (transfer.Get to remote local len)) rest = refl
no_collective scope (waiting.Transfer (transfer.Memset to remote len byte)) rest = refl
no_collective scope (waiting.PutBegin register put) rest = refl
no_collective scope (waiting.PutImplicit put) rest = refl
no_collective scope (waiting.Wait register) rest = refl
no_collective scope (waiting.WaitAll registers) rest = refl
no_collective scope (waiting.WaitSome registers) rest = refl
no_collective scope (waiting.WaitImplicit which) rest = refl
no_collective scope (waiting.BarrierWait id flags) rest = refl
no_collective scope (waiting.UntilWord offset number) rest = refl
no_collective scope (waiting.Collective shape from dest) rest = refl

no_action : (scope : Scope) (w : WaitingStep) (rest : List ℕ)
    → thread_action_at scope (waiting_text w ++ 10 ∷ rest) ≡ None
unfolding thread_action_at
no_action scope w rest = rw (no_call scope w rest, no_vis scope w rest, no_collective scope w rest) refl

-- the bytes are the text of a step, and the bytes after it
abbrev pub IsStepOf : Scope → List ℕ → ScriptStep × List ℕ → Type 0
IsStepOf scope bytes x = (bytes ≡ step_text x.0 ++ x.1) × IsStep scope x.0

-- what a thread does is a step of the same text
action_step : (scope : Scope) (bytes : List ℕ) (a : ThreadAction) (rest : List ℕ)
    → (bytes ≡ thread_action_text a ++ rest) × IsThreadAction scope a → IsStepOf scope bytes (step_of a, rest)
action_step scope bytes (does.Call c) rest h = h
action_step scope bytes (does.Vis vis) rest h = h
action_step scope bytes (does.Collective c) rest h = h

-- a step that was read
step_takes : (scope : Scope) (bytes : List ℕ) → Takes (IsStepOf scope bytes) (step_at scope bytes)
unfolding step_at
step_takes scope bytes = takes_or {P = IsStepOf scope bytes}
    (takes_then (λ (x : ThreadAction × List ℕ). (bytes ≡ thread_action_text x.0 ++ x.1) × IsThreadAction scope x.0)
    ((thread_actions_exact scope).takes bytes) (λ x h.
    takes_some {P = IsStepOf scope bytes} {x = (step_of x.0, x.1)} (action_step scope bytes x.0 x.1 h)))
    (takes_then (λ (x : WaitingStep × List ℕ). (bytes ≡ waiting_text x.0 ++ x.1) × IsWaiting scope x.0)
    ((waits_exact scope).takes bytes) (λ x h. takes_some {P = IsStepOf scope bytes} {x = (step.Waiting x.0, x.1)} h))

-- a step is read again
step_again : (scope : Scope) (s : ScriptStep) (rest : List ℕ) → IsStep scope s
    → step_at scope (step_text s ++ 10 ∷ rest) ≡ Some (s, 10 ∷ rest)
unfolding step_at
step_again scope (step.Call c) rest h = rw ((thread_actions_exact scope).again (does.Call c) rest h) refl
step_again scope (step.Vis vis) rest h = rw ((thread_actions_exact scope).again (does.Vis vis) rest h) refl
step_again scope (step.Collective c) rest h = rw ((thread_actions_exact scope).again (does.Collective c) rest h) refl
step_again scope (step.Waiting w) rest h = rw (no_action scope w rest, (waits_exact scope).again w rest h) refl

-- a step ends no line
step_flat : (scope : Scope) (s : ScriptStep) → IsStep scope s → IsFlat (step_text s)
step_flat scope (step.Call c) h = (thread_actions_exact scope).flat (does.Call c) h
step_flat scope (step.Vis vis) h = (thread_actions_exact scope).flat (does.Vis vis) h
step_flat scope (step.Collective c) h = (thread_actions_exact scope).flat (does.Collective c) h
step_flat scope (step.Waiting w) h = (waits_exact scope).flat w h

-- reading a step is the inverse of writing it
pub steps_exact : (scope : Scope) → IsExact (step_at scope) step_text (IsStep scope)
steps_exact scope = record { takes = step_takes scope; again = step_again scope; flat = step_flat scope }
