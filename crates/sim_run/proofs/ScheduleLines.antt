-- A line of a schedule as it was read, and what it stands for.
use Rattle.std.proofs.Common.{◌≡◌, ℕ, zero, suc, ◌+◌, ◌<◌, List, [], ◌∷◌, length, drop, Option, None, Some, refl, ap}
use Rattle.std.proofs.Common.{subst, ◌∙◌, arith}
use Rattle.std.specs.List.{slice_get}
use Rattle.std.specs.Option.{IfSome}
use Rattle.std.proofs.lemmas.Option.{same_Some}
use Rattle.sim_world.specs.Events.{event_of}
use Rattle.node_rules.specs.EndpointRules.{Records, RecordsEvent, timed_event}
use Rattle.sim_world.specs.declared.event.WorldEvent.{WorldEvent}
use Rattle.sim_world.specs.Settling.{WorldJob}
use Rattle.spec_network.specs.World.{run}
use Rattle.sim_run.specs.Schedules.{Nodes, scheduled_event, line_events, line_group}
use Rattle.sim_run.specs.RunText.{event_words, words_at}
use Rattle.text_steps.specs.declared.steps.ScheduledEvent.{ScheduledEvent}
use Rattle.text_steps.specs.declared.steps.ScheduledEvent.TheVariants as scheduled
use Rattle.text_steps.specs.declared.steps.TimedEvent.{TimedEvent}

-- a place that is there has a line
pub timed_there : (es : List TimedEvent) (place : ℕ) → place < length es
    → (e : TimedEvent) × (slice_get es place ≡ Some e)
timed_there [] place low = absurd (omega (arith, low))
timed_there (e ∷ es) zero low = (e, refl)
timed_there (e ∷ es) (suc place) low = timed_there es place (omega (arith, low))

-- it is the first of those from there on
pub timed_next : (es : List TimedEvent) (place : ℕ) (e : TimedEvent) → slice_get es place ≡ Some e
    → drop place es ≡ e ∷ drop (place + 1) es
timed_next es place e h =
    go es place h ∙ ap (λ n. e ∷ drop n es) (let next : suc place ≡ place + 1 = omega arith in next)
  where
    go : (xs : List TimedEvent) (p : ℕ) → slice_get xs p ≡ Some e → drop p xs ≡ e ∷ drop (suc p) xs
    go [] p h = absurd (cc)
    go (x ∷ xs) zero h = ap (λ y. y ∷ xs) (same_Some x e h)
    go (x ∷ xs) (suc p) h = go xs p h

-- the events of a line, by its one event
pub one_event : (job : WorldJob) (nodes : Nodes) (now : ℕ) (e : ScheduledEvent) (x : RecordsEvent)
    → scheduled_event nodes.group.records e ≡ Some x → line_events job nodes now e ≡ timed_event now x ∷ []
one_event job nodes now (scheduled.Call node thread c) x h = ap (λ (y : RecordsEvent). timed_event now y ∷ []) (same_Some _ x h)
one_event job nodes now (scheduled.Request from to number) x h =
    ap (λ (y : RecordsEvent). timed_event now y ∷ []) (same_Some _ x h)
one_event job nodes now (scheduled.Reply from to number) x h = ap (λ (y : RecordsEvent). timed_event now y ∷ []) (same_Some _ x h)
one_event job nodes now (scheduled.Tick node) x h = ap (λ (y : RecordsEvent). timed_event now y ∷ []) (same_Some _ x h)
one_event job nodes now (scheduled.Vis node thread vis) x h = absurd (cc)
one_event job nodes now (scheduled.Collective node thread call) x h = absurd (cc)
one_event job nodes now (scheduled.Settle rounds) x h = absurd (cc)

-- the words of a line, by its one event
pub one_answer : (job : WorldJob) (nodes : Nodes) (now : ℕ) (e : ScheduledEvent) (x : RecordsEvent)
    → scheduled_event nodes.group.records e ≡ Some x
    → words_at job nodes now e ≡ event_words job nodes.group.records (timed_event now x)
one_answer job nodes now (scheduled.Call node thread c) x h =
    ap (λ (y : RecordsEvent). event_words job nodes.group.records (timed_event now y)) (same_Some _ x h)
one_answer job nodes now (scheduled.Request from to number) x h =
    ap (λ (y : RecordsEvent). event_words job nodes.group.records (timed_event now y)) (same_Some _ x h)
one_answer job nodes now (scheduled.Reply from to number) x h =
    ap (λ (y : RecordsEvent). event_words job nodes.group.records (timed_event now y)) (same_Some _ x h)
one_answer job nodes now (scheduled.Tick node) x h =
    ap (λ (y : RecordsEvent). event_words job nodes.group.records (timed_event now y)) (same_Some _ x h)
one_answer job nodes now (scheduled.Vis node thread vis) x h = absurd (cc)
one_answer job nodes now (scheduled.Collective node thread call) x h = absurd (cc)
one_answer job nodes now (scheduled.Settle rounds) x h = absurd (cc)

-- what a line leaves of the group, by its one event
pub one_left : (job : WorldJob) (nodes : Nodes) (now : ℕ) (e : ScheduledEvent) (x : RecordsEvent)
    → scheduled_event nodes.group.records e ≡ Some x
    → line_group job nodes now e
    ≡ record nodes.group { records = run job (line_events job nodes now e) nodes.group.records }
one_left job nodes now (scheduled.Call node thread c) x h = refl
one_left job nodes now (scheduled.Request from to number) x h = refl
one_left job nodes now (scheduled.Reply from to number) x h = refl
one_left job nodes now (scheduled.Tick node) x h = refl
one_left job nodes now (scheduled.Vis node thread vis) x h = absurd (cc)
one_left job nodes now (scheduled.Collective node thread call) x h = absurd (cc)
one_left job nodes now (scheduled.Settle rounds) x h = absurd (cc)
