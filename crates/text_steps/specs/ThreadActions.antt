-- What a thread does in a line: a call, the beginning of a transfer of many pieces, or a call of collectives.
use Rattle.std.specs.Prelude.{ℕ, List, Option, Some, Bool, ◌||◌}
use Rattle.base_text.specs.Lines.{◌>>=◌, ◌<|>◌}
use Rattle.text_calls.specs.Calls.{call_at, call_form, call_text, IsCall}
use Rattle.text_vis.specs.VisLines.{vis_at, vis_form, vis_text, IsVis}
use Rattle.text_steps.specs.CollectiveLines.{collective_at, collective_form, collective_text, IsCollective}
use Rattle.text_calls.specs.declared.scope.Scope.{Scope}
use Rattle.text_steps.specs.declared.thread_actions.ThreadAction.{ThreadAction}
use Rattle.text_steps.specs.declared.thread_actions.ThreadAction.TheVariants as does

-- what reads it, where it is no call
abbrev pub other_action_at : Scope → List ℕ → Option (ThreadAction × List ℕ)
other_action_at scope bytes =
    (vis_at scope bytes >>= λ x. Some (does.Vis x.0, x.1))
    <|> (collective_at scope bytes >>= λ x. Some (does.Collective x.0, x.1))

-- what reads it; no two of these forms have the same name
unfoldable pub thread_action_at : Scope → List ℕ → Option (ThreadAction × List ℕ)
thread_action_at scope bytes =
    (call_at scope bytes >>= λ x. Some (does.Call x.0, x.1)) <|> other_action_at scope bytes

-- whether bytes have the form of it
unfoldable pub thread_action_form : Scope → List ℕ → Bool
thread_action_form scope bytes = call_form scope bytes || (vis_form scope bytes || collective_form scope bytes)

-- the text of it
abbrev pub thread_action_text : ThreadAction → List ℕ
thread_action_text (does.Call call) = call_text call
thread_action_text (does.Vis vis) = vis_text vis
thread_action_text (does.Collective call) = collective_text call

-- its words can be said, and it may stand in the job
abbrev pub IsThreadAction : Scope → ThreadAction → Type 0
IsThreadAction scope (does.Call call) = IsCall scope call
IsThreadAction scope (does.Vis vis) = IsVis scope vis
IsThreadAction scope (does.Collective call) = IsCollective scope call
