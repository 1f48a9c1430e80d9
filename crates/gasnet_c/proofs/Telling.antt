-- What an export tells, from what its event did.
use Rattle.std.proofs.Common.{◌≡◌, ℕ, Bool, true, false, List, Option, Some, None, is_some, refl, sym, ap, ◌∙◌, subst}
use Rattle.std.proofs.Common.{[], ◌∷◌, length, arith}
use Rattle.std.specs.Borrow.{Bor}
use Rattle.std.specs.Prelude.{◌==◌}
use Rattle.std.proofs.lemmas.Bool.{false≢true}
use Rattle.part_handlers.specs.Runs.{Meaning}
use Rattle.node_rules.specs.declared.call.Call.{Call}
use Rattle.node_rules.specs.declared.call.Event.{Event}
use Rattle.node_rules.specs.declared.call.Event.TheVariants as event
use Rattle.node_rules.specs.Called.{HasTarget}
use Rattle.node_core.specs.InPlace.{keeping_in}
use Rattle.node_endpoint.specs.EndpointState.{EndpointState, RunsNone}
use Rattle.gasnet_c.specs.Calls.{asked_call, IsToAnother}
use Rattle.gasnet_c.specs.Replayed.{asked_in, asking, both_replayed_by}
use Rattle.gasnet_c.specs.Telling.{IsDead, OwnAsked, Tells, TellsOf, TellsOwn}
use Rattle.gasnet_c.specs.Whole.{AsksNone, RunsNoneIn}
use Rattle.gasnet_c.specs.declared.messages.Ask.{Ask}
use Rattle.gasnet_c.specs.declared.replay.Reply.{Reply}
use Rattle.gasnet_c.specs.declared.replay.Run.{Run}
use Rattle.gasnet_c.specs.declared.told.Told.{Told}

-- ---- a dead handle

-- no node is in it
pub dead_is_none : {X : Type 0} (held : Option X) (live : Bool) → live ≡ is_some held → live ≡ false → held ≡ None
dead_is_none None live whole dead = refl
dead_is_none (Some x) live whole dead = absurd (false≢true (sym dead ∙ whole))

pub dead_tells : (meaning : Meaning) (held : Option EndpointState) (now : ℕ) (event : Event) (told : Told)
    (buffer : List ℕ) → held ≡ None → IsDead told → Tells meaning held now event told buffer held
dead_tells meaning None now event told buffer none dead = (dead, refl)
dead_tells meaning (Some x) now event told buffer none dead = absurd (false≢true (sym (ap is_some none)))

pub dead_own : (held : Option EndpointState) (now : ℕ) (asked : OwnAsked) (told : Told) → held ≡ None → IsDead told
    → TellsOwn held now asked told held
dead_own None now asked told none dead = (dead, refl)
dead_own (Some x) now asked told none dead = absurd (false≢true (sym (ap is_some none)))

-- ---- a live one

pub tells_in : (meaning : Meaning) (old new : Option EndpointState) (from to : EndpointState) (now : ℕ) (event : Event)
    (told : Told) (buffer : List ℕ) → old ≡ Some from → new ≡ Some to
    → TellsOf meaning from now event told buffer to → Tells meaning old now event told buffer new
tells_in meaning old new from to now event told buffer is becomes tells =
    subst (λ (held : Option EndpointState). Tells meaning held now event told buffer new) (sym is)
    (subst (λ (held : Option EndpointState). Tells meaning (Some from) now event told buffer held) (sym becomes) tells)

-- a delivery whose handler C ran
pub asked_tells : (reply : Reply) (old new : Option EndpointState) (from to : EndpointState) (now : ℕ) (event : Event)
    (told : Told) (buffer : List ℕ) → old ≡ Some from → new ≡ Some to
    → TellsOf (keeping_in from.core.segment (λ handler frame start. asking reply frame start)) from now event told buffer
    to
    → Tells (asked_in old reply) old now event told buffer new
asked_tells reply old new from to now event told buffer is becomes tells =
    subst (λ (held : Option EndpointState). Tells (asked_in held reply) held now event told buffer new) (sym is)
    (subst (λ (held : Option EndpointState). Tells (asked_in (Some from) reply) (Some from) now event told buffer held)
    (sym becomes) tells)

pub runs_none_in : (old : Option EndpointState) (from : EndpointState) (event : Event) → old ≡ Some from
    → RunsNoneIn old event → RunsNone from event
runs_none_in old from event is none = subst (λ (held : Option EndpointState). RunsNoneIn held event) is none

pub own_in : (old new : Option EndpointState) (from to : EndpointState) (now : ℕ) (asked : OwnAsked) (told : Told)
    → old ≡ Some from → new ≡ Some to → TellsOwn (Some from) now asked told (Some to) → TellsOwn old now asked told new
own_in old new from to now asked told is becomes tells =
    subst (λ (held : Option EndpointState). TellsOwn held now asked told new) (sym is)
    (subst (λ (held : Option EndpointState). TellsOwn (Some from) now asked told held) (sym becomes) tells)

-- a buffer without bytes
pub empty_is : (bytes : List ℕ) → length bytes ≡ 0 → bytes ≡ []
empty_is [] none = refl
empty_is (byte ∷ bytes) none = absurd (omega arith)

-- ---- events at which no handler runs

-- a tick
pub tick_runs_none : (held : Option EndpointState) → RunsNoneIn held event.Tick
tick_runs_none None = tt
tick_runs_none (Some endpoint) = tt

-- a call that is no request
pub asks_none_in : (held : Option EndpointState) (call : Call) → AsksNone call → RunsNoneIn held (event.Call 0 call)
asks_none_in None call none = tt
asks_none_in (Some endpoint) call none = none endpoint.core.me

-- the target of a request is the one that C names
targeted : (ask : Ask) (node : ℕ) (short medium : Bool) → (ask.category == 0) ≡ short → (ask.category == 1) ≡ medium
    → HasTarget (asked_call ask) node → ask.to ≡ node
targeted ask node true medium is_short is_medium has = rw is_short at has
targeted ask node false true is_short is_medium has = rw is_medium at (rw is_short at has)
targeted ask node false false is_short is_medium has = rw is_medium at (rw is_short at has)

-- a request to another node
pub asks_another_in : (held : Option EndpointState) (ask : Ask) → IsToAnother held ask.to
    → RunsNoneIn held (event.Call 0 (asked_call ask))
asks_another_in None ask apart = tt
asks_another_in (Some endpoint) ask apart = λ has. apart (targeted ask endpoint.core.me _ _ refl refl has)

-- ---- a request to the local node

pub own_of : (old new : EndpointState) (now : ℕ) (made call : Call) (run : Run) (reply_left : Bor (List ℕ))
    (told : Told) (buffer : List ℕ) → made ≡ call → buffer ≡ []
    → TellsOf (both_replayed_by (record { request = run; reply = record { bytes = reply_left } })) old now
    (event.Call 0 made) told buffer new
    → TellsOwn (Some old) now (record { call = call; run = run; reply_left = reply_left }) told (Some new)
own_of old new now made call run reply_left told buffer same none tells =
    subst (λ (asked : Call). TellsOf
    (both_replayed_by (record { request = run; reply = record { bytes = reply_left } })) old now
    (event.Call 0 asked) told [] new) same
    (subst (λ (bytes : List ℕ). TellsOf
    (both_replayed_by (record { request = run; reply = record { bytes = reply_left } })) old now
    (event.Call 0 made) told bytes new) none tells)
