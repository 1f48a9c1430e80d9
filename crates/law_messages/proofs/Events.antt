-- Facts of the events of a run.
use Rattle.std.proofs.Common.{◌≡◌, inl, inr, List, [], ◌∷◌, refl}
use Rattle.wire_message.specs.Parameters.{Parameters}
use Rattle.part_handlers.specs.declared.table.Entry.{Entry}
use Rattle.std.specs.Prelude.{Option}
use Rattle.part_handlers.specs.Runs.{Meaning}
use Rattle.spec_node.specs.NodeStep.{Job}
use Rattle.spec_network.specs.World.{World, EventAt, world_after, run}
use Rattle.spec_network.proofs.Headline.{end_holds}
use Rattle.spec_network.proofs.Worlds.{step_keeps, opening_holds}
use Rattle.node_rules.specs.EndpointLocal.{IsEndpointKept, nothing_begun}
use Rattle.node_rules.specs.EndpointRules.{OtherCall, Records, at_the_opening, job_of}
use Rattle.node_rules.proofs.Kept.{opening_kept}
use Rattle.law_transfers.specs.History.{Moment, end_of, Sometime}
use Rattle.law_transfers.specs.Chunks.{EndpointMoment}
use Rattle.law_transfers.specs.TransferLaws.{AreAmong}
use Rattle.law_transfers.proofs.Happening.{Around}
use Rattle.law_transfers.proofs.Stretches.{AreSound, AllHolds}
use Rattle.law_messages.specs.Events.{after_all, AtEach, Always}

-- what is found at a moment is found once for all
pub sometime_pull : {Local Call Told X : Type 0} (job : Job Local Call Told) (P : X → Moment Local Call → Type 0)
    (events : List (EventAt Call)) (world : World Local)
    → Sometime job (λ moment. (x : X) × P x moment) events world → (x : X) × Sometime job (P x) events world
sometime_pull job P [] world it = absurd it
sometime_pull job P (e ∷ events) world it = elim it [
  | inl here ↦ (here.0, inl here.1)
  | inr later ↦ let found = sometime_pull job P events (world_after job world e) later in (found.0, inr found.1)
]

-- the opening
pub opening_all : (settings : Parameters) (table : List (Option Entry)) (meaning : Meaning)
    → AllHolds settings table meaning (at_the_opening settings)
opening_all settings table meaning =
    opening_holds (job_of settings table meaning) (IsEndpointKept settings) (λ node. nothing_begun settings)
    (opening_kept settings)

-- the records after events
pub all_holds : (settings : Parameters) (table : List (Option Entry)) (meaning : Meaning)
    (events : List (EventAt OtherCall)) → AreSound settings table meaning
    → AreAmong (job_of settings table meaning) events
    → AllHolds settings table meaning (after_all (job_of settings table meaning) events)
all_holds settings table meaning events sound among =
    end_holds (job_of settings table meaning) (IsEndpointKept settings) events (at_the_opening settings) sound among
    (opening_all settings table meaning)

-- a fact of each moment of which the invariant holds
each_around : (settings : Parameters) (table : List (Option Entry)) (meaning : Meaning) (fact : EndpointMoment → Type 0)
    (last : Records) (events : List (EventAt OtherCall)) (world : Records) → AreSound settings table meaning
    → AreAmong (job_of settings table meaning) events → AllHolds settings table meaning world
    → run (job_of settings table meaning) events world ≡ last
    → ((moment : EndpointMoment) → Around (job_of settings table meaning) (IsEndpointKept settings) moment
    → end_of (job_of settings table meaning) moment ≡ last → fact moment)
    → AtEach (job_of settings table meaning) fact events world
each_around settings table meaning fact last [] world sound among holds is each = tt
each_around settings table meaning fact last (e ∷ events) world sound among holds is each =
    let job = job_of settings table meaning in (
      each (record { before = world; timed = e; later = events })
          (record { holds = holds; here = among.0; later = among.1 }) is,
      each_around settings table meaning fact last events (world_after job world e) sound among.1
          (step_keeps job (IsEndpointKept settings) world e sound holds among.0) is each,
    )

pub always_around : (settings : Parameters) (table : List (Option Entry)) (meaning : Meaning)
    (fact : EndpointMoment → Type 0) (events : List (EventAt OtherCall)) → AreSound settings table meaning
    → AreAmong (job_of settings table meaning) events
    → ((moment : EndpointMoment) → Around (job_of settings table meaning) (IsEndpointKept settings) moment
    → end_of (job_of settings table meaning) moment ≡ after_all (job_of settings table meaning) events → fact moment)
    → Always (job_of settings table meaning) fact events
always_around settings table meaning fact events sound among each =
    each_around settings table meaning fact (after_all (job_of settings table meaning) events) events
    (at_the_opening settings) sound among (opening_all settings table meaning) refl each
