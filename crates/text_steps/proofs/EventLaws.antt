-- The table of events, and lines of a schedule.
use Rattle.std.proofs.Common.{◌≡◌, ℕ, List, ◌∷◌, ◌++◌, Some, refl, ap, sym, ◌∙◌, arith, decimal, append_assoc}
use Rattle.text_calls.specs.declared.scope.Scope.{Scope}
use Rattle.text_steps.specs.declared.steps.ScheduledEvent.{ScheduledEvent}
use Rattle.text_steps.specs.declared.steps.ScheduledEvent.TheVariants as event
use Rattle.text_steps.specs.declared.steps.TimedEvent.{TimedEvent}
use Rattle.text_calls.specs.Forms.{U64}
use Rattle.text_steps.specs.ThreadActions.{thread_action_at, thread_action_text, IsThreadAction}
use Rattle.text_steps.specs.declared.thread_actions.ThreadAction.{ThreadAction}
use Rattle.text_steps.specs.declared.thread_actions.ThreadAction.TheVariants as does
use Rattle.text_steps.specs.Events.{event_of, call_row}
use Rattle.text_steps.specs.Events.{events, event_entry, is_apart, event_at, event_text, IsEvent, timed_at}
use Rattle.text_steps.specs.Events.{timed_text}
use Rattle.text_steps.specs.Events.{IsTimed}
use Rattle.base_text.proofs.Takes.{Takes, takes_some, takes_then}
use Rattle.text_calls.proofs.FormLaws.{IsExact, IsTable, IsEntryOf, entry_of, table_exact}
use Rattle.text_calls.proofs.FormLaws.{IsWordOf, word_at_takes, word_at_again, word_flat, flat_join}
use Rattle.base_text.proofs.Seams.{spaced_takes}
use Rattle.text_steps.proofs.VisLaws.{thread_actions_exact}

-- an entry makes its event, by the first row of its name
event_again : (nodes threads : ℕ) (e : ScheduledEvent) → IsEntryOf (events nodes threads) (event_entry nodes threads) e
event_again nodes threads (event.Call node thread call) = entry_of refl refl refl
event_again nodes threads (event.Vis node thread vis) = entry_of refl refl refl
event_again nodes threads (event.Collective node thread call) = entry_of refl refl refl
event_again nodes threads (event.Request from to number) = entry_of refl refl refl
event_again nodes threads (event.Reply from to number) = entry_of refl refl refl
event_again nodes threads (event.Tick node) = entry_of refl refl refl
event_again nodes threads (event.Settle rounds) = entry_of refl refl refl

-- what a thread does has its row
action_makes : (nodes threads node thread : ℕ) (a : ThreadAction) → event_entry nodes threads (event_of node thread a)
    ≡ record { row = call_row nodes threads; values = (node, (thread, a)) }
action_makes nodes threads node thread (does.Call c) = refl
action_makes nodes threads node thread (does.Vis vis) = refl
action_makes nodes threads node thread (does.Collective c) = refl

-- the rows make what the entries say
events_are : (nodes threads : ℕ) → IsTable (events nodes threads) (event_entry nodes threads) is_apart
events_are nodes threads = record {
  makes = (λ v. action_makes nodes threads v.0 v.1.0 v.1.1, (λ v. refl, (λ v. refl, (λ v. refl, (λ v. refl, tt)))));
  again = λ e h. event_again nodes threads e;
}

-- the texts in a scope
abbrev pub event_line : Scope → ScheduledEvent → List ℕ
event_line scope event = event_text scope.settings.nodes scope.settings.threads event

abbrev pub timed_line : Scope → TimedEvent → List ℕ
timed_line scope timed = timed_text scope.settings.nodes scope.settings.threads timed

-- reading an event is the inverse of writing it
pub events_exact : (scope : Scope) → IsExact (event_at scope) (event_line scope) (IsEvent scope)
unfolding event_at
events_exact scope =
    let nodes = scope.settings.nodes in
    let threads = scope.settings.threads in
    table_exact (thread_action_at scope) thread_action_text (IsThreadAction scope) (events nodes threads) (event_entry nodes threads) is_apart
    (thread_actions_exact scope) (events_are nodes threads)

-- a line of a schedule, and the bytes after it
abbrev pub IsTimedOf : Scope → List ℕ → TimedEvent × List ℕ → Type 0
IsTimedOf scope bytes x = (bytes ≡ timed_line scope x.0 ++ x.1) × IsTimed scope x.0

-- the parts of a line, joined
joined : (time line rest r e bytes : List ℕ) → bytes ≡ time ++ r → r ≡ 32 ∷ e → e ≡ line ++ rest
    → bytes ≡ (time ++ (32 ∷ line)) ++ rest
joined time line rest r e bytes a b c =
    a ∙ ap (λ (x : List ℕ). time ++ x) (b ∙ ap (λ (x : List ℕ). 32 ∷ x) c) ∙ sym (append_assoc time (32 ∷ line) rest)

-- a line that was read
timed_takes : (scope : Scope) (bytes : List ℕ) → Takes (IsTimedOf scope bytes)
    (timed_at scope bytes)
unfolding timed_at
timed_takes scope bytes =
    takes_then (IsWordOf U64 bytes) (word_at_takes U64 bytes) (λ t h.
    takes_then (λ (r : List ℕ). t.1 ≡ 32 ∷ r) (spaced_takes t.1) (λ r k.
    takes_then (λ (e : ScheduledEvent × List ℕ). (r ≡ event_line scope e.0 ++ e.1) × IsEvent scope e.0)
    ((events_exact scope).takes r) (λ e m.
    takes_some {P = IsTimedOf scope bytes} {x = (record { time = t.0; event = e.0 }, e.1)} (
      joined (decimal t.0) (event_line scope e.0) e.1 t.1 r bytes h.0 k m.0,
      record {
        time = h.1.2;
        event = m.1;
      },
    ))))

-- a line is read again
timed_again : (scope : Scope) (t : TimedEvent) (rest : List ℕ) → IsTimed scope t
    → timed_at scope (timed_line scope t ++ 10 ∷ rest) ≡ Some (t, 10 ∷ rest)
unfolding timed_at
timed_again scope t rest h =
    let lt = h.time in
    rw (
      append_assoc (decimal t.time) (32 ∷ event_line scope t.event) (10 ∷ rest),
      word_at_again U64 t.time (32 ∷ (event_line scope t.event ++ 10 ∷ rest)) (
        omega arith,
        omega arith,
        h.time,
      ) refl,
      (events_exact scope).again t.event rest h.event,
    ) refl

-- reading a line of a schedule is the inverse of writing it
pub timed_exact : (scope : Scope) → IsExact (timed_at scope) (timed_line scope)
    (IsTimed scope)
timed_exact scope = record {
  takes = timed_takes scope;
  again = timed_again scope;
  flat = λ t h.
      let lt = h.time in
      flat_join (decimal t.time) (32 ∷ event_line scope t.event) (word_flat U64 t.time
      (omega arith, omega arith, h.time))
      (refl, (events_exact scope).flat t.event h.event);
}
