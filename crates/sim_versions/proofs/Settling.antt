-- The events of rounds, by two versions.
use Rattle.std.proofs.Common.{◌≡◌, ℕ, zero, suc, ◌<◌, List, [], ◌∷◌, ◌++◌, map, arith}
use Rattle.std.proofs.Common.{refl, ap, ◌∙◌, inl, inr}
use Rattle.std.specs.List.{flat_map}
use Rattle.std.proofs.lemmas.Bool.{cases_Bool}
use Rattle.wire_message.specs.Content.{Content}
use Rattle.wire_message.specs.Parameters.{Parameters}
use Rattle.spec_node.specs.Record.{Request}
use Rattle.spec_node.specs.NodeStep.{IsAllSound}
use Rattle.spec_network.specs.World.{EventAt, Ticks, run}
use Rattle.spec_network.specs.Invariant.{Holds}
use Rattle.node_rules.specs.EndpointLocal.{IsEndpointKept}
use Rattle.node_rules.specs.EndpointRules.{OtherCall, Records, timed_event}
use Rattle.sim_world.specs.Settling.{in_turn, open_numbers, exchange_events, turn_events, row_events, pair_events}
use Rattle.sim_world.specs.Settling.{tick_events, round_events, settle_events}
use Rattle.sim_world.proofs.Among.{AreAmong, both_among, numbers_among}
use Rattle.sim_versions.specs.Respelled.{Versions, one_job, other_job, respell_request, respell_world, HaveNotifications}
use Rattle.sim_versions.proofs.Worlds.{run_alike}

-- a world of the one version, as a run of a job leaves it
pub record Stood (v : Versions) (world : Records) : Type 0 where
  pub holds : Holds (one_job v) (IsEndpointKept v.settings) world
  pub notes : HaveNotifications v.settings world

-- events that the records decide are the same by both versions, and are among the nodes
pub record EventsAlike (v : Versions) (one other : Records → List (EventAt OtherCall)) : Type 0 where
  pub same : (world : Records) → Stood v world → other (respell_world v.spell world) ≡ one world
  pub among : (world : Records) → AreAmong v.settings (one world)

abbrev pub AreSound : Versions → Type 0
AreSound v = IsAllSound v.one (IsEndpointKept v.settings)

-- what a run of such events leaves
pub after_events : (v : Versions) → AreSound v → (events : List (EventAt OtherCall)) (world : Records) → Stood v world
    → AreAmong v.settings events
    → (run (other_job v) events (respell_world v.spell world) ≡ respell_world v.spell (run (one_job v) events world))
    × Stood v (run (one_job v) events world)
after_events v sound events world stood among =
    let alike = run_alike v events world sound stood.holds stood.notes among in
    (alike.after, record { holds = alike.holds; notes = alike.notes })

-- ---- one list after the other

both_same : (v : Versions) (sound : AreSound v) (first other_first : List (EventAt OtherCall))
    (one other : Records → List (EventAt OtherCall)) (world : Records) → Stood v world → other_first ≡ first
    → AreAmong v.settings first → EventsAlike v one other
    → other_first ++ other (run (other_job v) other_first (respell_world v.spell world))
    ≡ first ++ one (run (one_job v) first world)
both_same v sound first other_first one other world stood same among alike =
    let after = after_events v sound first world stood among in
    ap (λ (es : List (EventAt OtherCall)). es ++ other (run (other_job v) es (respell_world v.spell world))) same
    ∙ (ap (λ (w : Records). first ++ other w) after.0
    ∙ ap (λ (es : List (EventAt OtherCall)). first ++ es) (alike.same (run (one_job v) first world) after.1))

then_alike : (v : Versions) (sound : AreSound v) (first other_first one other : Records → List (EventAt OtherCall))
    → EventsAlike v first other_first → EventsAlike v one other
    → EventsAlike v (λ w. first w ++ one (run (one_job v) (first w) w))
    (λ w. other_first w ++ other (run (other_job v) (other_first w) w))
then_alike v sound first other_first one other earlier later = record {
  same = λ w stood. both_same v sound (first w) (other_first (respell_world v.spell w)) one other w stood
      (earlier.same w stood) (earlier.among w) later;
  among = λ w. both_among v.settings (first w) _ (earlier.among w) (later.among (run (one_job v) (first w) w));
}

turns_alike : (v : Versions) (sound : AreSound v) (one other : ℕ → Records → List (EventAt OtherCall)) (count : ℕ)
    → ((number : ℕ) → number < count → EventsAlike v (one number) (other number))
    → EventsAlike v (in_turn (one_job v) one count) (in_turn (other_job v) other count)
turns_alike v sound one other zero each = record { same = λ w stood. refl; among = λ w. tt }
turns_alike v sound one other (suc count) each =
    then_alike v sound (in_turn (one_job v) one count) (in_turn (other_job v) other count) (one count) (other count)
    (turns_alike v sound one other count (λ number low. each number (omega (arith, low))))
    (each count (omega arith))

-- ---- a turn

open_respelled : (spell : Content → Content) (number : ℕ) (requests : List Request)
    → open_numbers number (map (respell_request spell) requests) ≡ open_numbers number requests
open_respelled spell number [] = refl
open_respelled spell number (r ∷ rs) = elim (cases_Bool r.back) [
  | inl back ↦ rw back (open_respelled spell (suc number) rs)
  | inr out ↦ rw out (ap (λ (numbers : List ℕ). number ∷ numbers) (open_respelled spell (suc number) rs))
]

turn_alike : (v : Versions) (now from to : ℕ) → from < v.settings.nodes → to < v.settings.nodes
    → EventsAlike v (λ w. turn_events now from to ((w from).asked to))
    (λ w. turn_events now from to ((w from).asked to))
turn_alike v now from to a b = record {
  same = λ w stood. ap (flat_map (exchange_events now from to)) (open_respelled v.spell 1 ((w from).asked to));
  among = λ w. numbers_among v.settings now from to (open_numbers 1 ((w from).asked to)) a b;
}

tick_alike : (v : Versions) (now node : ℕ) → node < v.settings.nodes
    → EventsAlike v (λ w. timed_event now (Ticks node) ∷ []) (λ w. timed_event now (Ticks node) ∷ [])
tick_alike v now node low = record { same = λ w stood. refl; among = λ w. (low, tt) }

-- ---- rounds

row_alike : (v : Versions) (sound : AreSound v) (now from : ℕ) → from < v.settings.nodes
    → EventsAlike v (row_events (one_job v) now from) (row_events (other_job v) now from)
row_alike v sound now from a =
    turns_alike v sound (λ to w. turn_events now from to ((w from).asked to))
    (λ to w. turn_events now from to ((w from).asked to))
    v.settings.nodes (λ to b. turn_alike v now from to a b)

round_alike : (v : Versions) (sound : AreSound v) (now : ℕ)
    → EventsAlike v (round_events (one_job v) now) (round_events (other_job v) now)
round_alike v sound now =
    then_alike v sound (tick_events (one_job v) now) (tick_events (other_job v) now)
    (pair_events (one_job v) now) (pair_events (other_job v) now)
    (turns_alike v sound (λ node w. timed_event now (Ticks node) ∷ []) (λ node w. timed_event now (Ticks node) ∷ [])
    v.settings.nodes
    (λ node low. tick_alike v now node low))
    (turns_alike v sound (row_events (one_job v) now) (row_events (other_job v) now) v.settings.nodes
    (λ from a. row_alike v sound now from a))

pub settle_alike : (v : Versions) (sound : AreSound v) (now rounds : ℕ)
    → EventsAlike v (settle_events (one_job v) now rounds) (settle_events (other_job v) now rounds)
settle_alike v sound now rounds =
    turns_alike v sound (λ turn. round_events (one_job v) now) (λ turn. round_events (other_job v) now) rounds
    (λ turn low. round_alike v sound now)
