-- The table of lines that begin transfers of many pieces, and what a thread does in a line.
use Rattle.std.proofs.Common.{◌≡◌, ℕ, ◌≤◌, ◌&&◌, true, leb, length, List, ◌∷◌, ◌++◌, Some, None, refl, ap, sym}
use Rattle.std.proofs.Common.{subst, ◌∙◌}
use Rattle.std.specs.Prelude.{is_none}
use Rattle.std.proofs.lemmas.Bool.{and_parts, leb-true}
use Rattle.wire_message.specs.Parameters.{Parameters}
use Rattle.node_vis.specs.declared.shapes.Way.{Way}
use Rattle.node_vis.specs.declared.shapes.Way.TheVariants.{Put, Get}
use Rattle.node_vis.specs.Plans.{PlanState}
use Rattle.text_calls.specs.Forms.{none_at, none_text, none_fits, table_at, entry_text, IsOf}
use Rattle.text_calls.specs.Calls.{calls, later_calls, own_calls, segment_calls, transfer_calls}
use Rattle.text_calls.specs.Calls.{implicit_calls}
use Rattle.text_calls.specs.Calls.{sync_calls, barrier_calls, call_at, call_text, IsCall}
use Rattle.text_vis.specs.VisLines.{vis_rows, words_of, entry_by, vis_entry, with_plan, vis_fits, vis_at}
use Rattle.text_vis.specs.VisLines.{vis_text, IsVis}
use Rattle.text_vis.specs.VisLines.{shape_fault, shape_plan, vis_plan}
use Rattle.text_calls.specs.Versions.{is_second}
use Rattle.text_steps.specs.CollectiveLines.{collective_text, IsCollective}
use Rattle.text_steps.specs.ThreadActions.{thread_action_at, other_action_at, thread_action_text}
use Rattle.text_steps.specs.ThreadActions.{IsThreadAction}
use Rattle.text_steps.specs.declared.steps.CollectiveText.{CollectiveText}
use Rattle.text_calls.specs.declared.scope.Scope.{Scope}
use Rattle.text_calls.specs.declared.scheduled.ScheduledCall.{ScheduledCall}
use Rattle.text_vis.specs.declared.vis.VisShape.{VisShape}
use Rattle.text_vis.specs.declared.vis.VisShape.TheVariants as shapes
use Rattle.text_vis.specs.declared.vis.VisText.{VisText}
use Rattle.text_vis.specs.declared.vis.VisWords.{VisWords}
use Rattle.text_steps.specs.declared.thread_actions.ThreadAction.{ThreadAction}
use Rattle.text_steps.specs.declared.thread_actions.ThreadAction.TheVariants as does
use Rattle.base_text.proofs.Takes.{Takes, takes_some, takes_then, takes_or}
use Rattle.text_calls.proofs.FormLaws.{IsExact, IsTable, IsEntryOf, IsFlat, entry_of, table_exact, none_exact}
use Rattle.text_calls.proofs.CallLaws.{calls_exact}
use Rattle.text_steps.proofs.CollectiveLaws.{collectives_exact, other_call, other_vis}

-- an entry makes its words, by the first row of its name
again_by : (way : Way) (shape : VisShape) (register from to : ℕ)
    → IsEntryOf vis_rows vis_entry (words_of way register from to shape)
unfolding vis_rows
again_by Put (shapes.Strided remote local len levels) register from to = entry_of refl refl refl
again_by Get (shapes.Strided remote local len levels) register from to = entry_of refl refl refl
again_by Put (shapes.Indexed remote local) register from to = entry_of refl refl refl
again_by Get (shapes.Indexed remote local) register from to = entry_of refl refl refl

vis_are : (scope : Scope) → IsTable vis_rows vis_entry (vis_fits scope)
unfolding vis_rows
vis_are scope = record {
  makes = (λ v. refl, (λ v. refl, (λ v. refl, (λ v. refl, tt))));
  again = λ words h. again_by words.way words.shape words.register words.from words.to;
}

-- reading the words is the inverse of writing them
words_exact : (scope : Scope) → IsExact (table_at none_at vis_rows (vis_fits scope))
    (λ words. entry_text none_text (vis_entry words)) (IsOf none_fits vis_entry (vis_fits scope))
words_exact scope =
    table_exact none_at none_text none_fits vis_rows vis_entry (vis_fits scope) none_exact (vis_are scope)

-- the bytes are the text of such a line, and the bytes after it
abbrev pub IsVisOf : Scope → List ℕ → VisText × List ℕ → Type 0
IsVisOf scope bytes x = (bytes ≡ vis_text x.0 ++ x.1) × IsVis scope x.0

vis_takes : (scope : Scope) (bytes : List ℕ) → Takes (IsVisOf scope bytes) (vis_at scope bytes)
unfolding vis_at
vis_takes scope bytes =
    takes_then (λ (x : VisWords × List ℕ). (bytes ≡ entry_text none_text (vis_entry x.0) ++ x.1)
    × IsOf none_fits vis_entry (vis_fits scope) x.0) ((words_exact scope).takes bytes) (λ x h.
    takes_some {P = IsVisOf scope bytes} {x = (with_plan scope.settings x.0, x.1)} (h.0, (h.1, refl)))

vis_again : (scope : Scope) (vis : VisText) (rest : List ℕ) → IsVis scope vis
    → vis_at scope (vis_text vis ++ 10 ∷ rest) ≡ Some (vis, 10 ∷ rest)
unfolding vis_at
vis_again scope vis rest h =
    rw ((words_exact scope).again vis.words rest h.0)
    (ap (λ (plan : PlanState). Some (record { words = vis.words; plan = plan }, 10 ∷ rest)) (sym h.1))

vis_exact : (scope : Scope) → IsExact (vis_at scope) vis_text (IsVis scope)
vis_exact scope = record {
  takes = vis_takes scope;
  again = vis_again scope;
  flat = λ vis h. (words_exact scope).flat vis.words h.0;
}

-- ---- what a thread does

-- the text of such a line is no call's
none_by : (scope : Scope) (way : Way) (shape : VisShape) (register from to : ℕ) (rest : List ℕ)
    → call_at scope (entry_text none_text (entry_by way shape register from to) ++ 10 ∷ rest) ≡ None
unfolding call_at calls later_calls own_calls segment_calls transfer_calls implicit_calls sync_calls barrier_calls
none_by scope Put (shapes.Strided remote local len levels) register from to rest = refl
none_by scope Get (shapes.Strided remote local len levels) register from to rest = refl
none_by scope Put (shapes.Indexed remote local) register from to rest = refl
none_by scope Get (shapes.Indexed remote local) register from to rest = refl

no_call : (scope : Scope) (vis : VisText) (rest : List ℕ) → call_at scope (vis_text vis ++ 10 ∷ rest) ≡ None
no_call scope vis rest =
    let words = vis.words in none_by scope words.way words.shape words.register words.from words.to rest

-- the bytes are the text of it, and the bytes after it
abbrev pub IsThreadActionOf : Scope → List ℕ → ThreadAction × List ℕ → Type 0
IsThreadActionOf scope bytes x = (bytes ≡ thread_action_text x.0 ++ x.1) × IsThreadAction scope x.0

other_takes : (scope : Scope) (bytes : List ℕ) → Takes (IsThreadActionOf scope bytes) (other_action_at scope bytes)
other_takes scope bytes = takes_or {P = IsThreadActionOf scope bytes}
    (takes_then (IsVisOf scope bytes) (vis_takes scope bytes) (λ x h.
    takes_some {P = IsThreadActionOf scope bytes} {x = (does.Vis x.0, x.1)} h))
    (takes_then (λ (x : CollectiveText × List ℕ). (bytes ≡ collective_text x.0 ++ x.1) × IsCollective scope x.0)
    ((collectives_exact scope).takes bytes) (λ x h.
    takes_some {P = IsThreadActionOf scope bytes} {x = (does.Collective x.0, x.1)} h))

action_takes : (scope : Scope) (bytes : List ℕ) → Takes (IsThreadActionOf scope bytes) (thread_action_at scope bytes)
unfolding thread_action_at
action_takes scope bytes = takes_or {P = IsThreadActionOf scope bytes}
    (takes_then (λ (x : ScheduledCall × List ℕ). (bytes ≡ call_text x.0 ++ x.1) × IsCall scope x.0)
    ((calls_exact scope).takes bytes) (λ x h. takes_some {P = IsThreadActionOf scope bytes} {x = (does.Call x.0, x.1)} h))
    (other_takes scope bytes)

action_again : (scope : Scope) (a : ThreadAction) (rest : List ℕ) → IsThreadAction scope a
    → thread_action_at scope (thread_action_text a ++ 10 ∷ rest) ≡ Some (a, 10 ∷ rest)
unfolding thread_action_at
action_again scope (does.Call c) rest h = rw ((calls_exact scope).again c rest h) refl
action_again scope (does.Vis vis) rest h = rw (no_call scope vis rest, vis_again scope vis rest h) refl
action_again scope (does.Collective c) rest h =
    rw (other_call scope c rest, other_vis scope c rest, (collectives_exact scope).again c rest h) refl

action_flat : (scope : Scope) (a : ThreadAction) → IsThreadAction scope a → IsFlat (thread_action_text a)
action_flat scope (does.Call c) h = (calls_exact scope).flat c h
action_flat scope (does.Vis vis) h = (vis_exact scope).flat vis h
action_flat scope (does.Collective c) h = (collectives_exact scope).flat c h

-- reading it is the inverse of writing it
pub thread_actions_exact : (scope : Scope) → IsExact (thread_action_at scope) thread_action_text (IsThreadAction scope)
thread_actions_exact scope = record { takes = action_takes scope; again = action_again scope; flat = action_flat scope }

-- ---- what is known of such a line of a job

-- what is known of it
pub vis_parts : (scope : Scope) (vis : VisText) → IsVis scope vis → (is_second scope ≡ true)
    × (vis.words.from ≤ length vis.plan.pieces)
vis_parts scope vis is =
    let words = vis.words in
    let none = is_none (shape_fault scope.settings words.way words.to words.shape) in
    let pieces = (vis_plan scope.settings words).pieces in
    let fits = and_parts (is_second scope && none) (leb words.from (length pieces)) is.0.1 in
    let parts = and_parts (is_second scope) none fits.0 in
    (parts.0, subst (λ (plan : PlanState). words.from ≤ length plan.pieces) (sym is.1) (leb-true words.from (length pieces) fits.1))

-- the datagrams have the second version
pub vis_second : (scope : Scope) (vis : VisText) → IsVis scope vis → is_second scope ≡ true
vis_second scope vis is = (vis_parts scope vis is).0

-- the plan has the piece to begin from, or ends before it
pub vis_from : (scope : Scope) (vis : VisText) → IsVis scope vis → vis.words.from ≤ length vis.plan.pieces
vis_from scope vis is = (vis_parts scope vis is).1

-- the plan is for the settings of the job
settings_by : (settings : Parameters) (way : Way) (to : ℕ) (shape : VisShape)
    → (shape_plan settings way to shape).settings ≡ settings
settings_by settings way to (shapes.Strided remote local len levels) = refl
settings_by settings way to (shapes.Indexed remote local) = refl

pub vis_settings : (scope : Scope) (vis : VisText) → IsVis scope vis → vis.plan.settings ≡ scope.settings
vis_settings scope vis is =
    let words = vis.words in
    ap (λ (plan : PlanState). plan.settings) is.1 ∙ settings_by scope.settings words.way words.to words.shape
