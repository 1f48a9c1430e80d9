-- The invariant holds before all events.
use Rattle.std.proofs.Common.{◌≡◌, inl, zero, suc, ℕ, ◌%◌, ◌<◌, ◌-◌, Bool, true, false, List, [], Option, Some}
use Rattle.std.proofs.Common.{refl, sym, ap, ◌∙◌, arith, true≢false, take}
use Rattle.std.specs.Prelude.{◌==◌, nat_lt, slice_get, if◌then◌else◌}
use Rattle.std.specs.Int.{w64, from_le_bytes}
use Rattle.std.proofs.lemmas.Bool.{le-ltb}
use Rattle.std.proofs.lemmas.List.{drop-replicate, take-replicate}
use Rattle.base_lists.proofs.Numbered.{numbered_nil}
use Rattle.wire_message.specs.Parameters.{Parameters}
use Rattle.part_handlers.specs.declared.table.Entry.{Entry}
use Rattle.part_handlers.specs.Runs.{Meaning}
use Rattle.base_lists.specs.Numbered.{element_at}
use Rattle.spec_network.proofs.Worlds.{opening_holds}
use Rattle.node_rules.specs.EndpointLocal.{IsEndpointKept, nothing_begun}
use Rattle.node_rules.specs.EndpointRules.{job_of, at_the_opening}
use Rattle.node_rules.proofs.Kept.{opening_kept}
use Rattle.law_transfers.specs.Chunks.{segment_at}
use Rattle.part_collective_area.specs.Area.{Area, part_place, stamp_in}
use Rattle.law_collectives.specs.Phases.{PairHolds}
use Rattle.law_collectives.specs.Groups.{opening_group}
use Rattle.law_collectives.specs.Invariant.{GroupHolds, asks_phase, phases_of}
use Rattle.part_collective_area.proofs.Places.{part_inside}
use Rattle.law_collectives.proofs.Events.{Setting}

-- nothing was given
none_given : {X : Type 0} (place : ℕ) (x : X) → slice_get [] place ≡ Some x → ⊥
none_given zero x is = cc
none_given (suc place) x is = cc

-- nothing was asked
none_asked : (phase number : ℕ) → asks_phase phase (element_at [] number) ≡ false
none_asked phase zero = refl
none_asked phase (suc place) = refl

-- nothing was sent, and nothing ran
none_sent : (own : Bool) → (if own then zero else zero) ≡ zero
none_sent true = refl
none_sent false = refl

no_run : (phase : ℕ) (own : Bool) → (if own then nat_lt phase 0 else false) ≡ false
no_run phase true = le-ltb phase 0 (omega arith)
no_run phase false = refl

-- a segment of zeros has no stamp
no_stamp : (settings : Parameters) (table : List (Option Entry)) (meaning : Meaning) (area : Area)
    (node parity from : ℕ) → Setting settings table meaning area → parity < 2 → from < area.nodes
    → stamp_in (segment_at (job_of settings table meaning) (at_the_opening settings) node) area parity from ≡ 0
no_stamp settings table meaning area node parity from setting low there =
    let place = part_place area parity from in
    let inside = part_inside area parity from low there in
    let whole = setting.good.inside in
    ap (from_le_bytes w64)
    (ap (take 8) (drop-replicate place settings.segment 0)
    ∙ take-replicate 8 (settings.segment - place) 0 (omega (arith, inside, whole)))

pub opening_group_holds : (settings : Parameters) (table : List (Option Entry)) (meaning : Meaning) (area : Area)
    → Setting settings table meaning area
    → GroupHolds (job_of settings table meaning) area (opening_group settings)
opening_group_holds settings table meaning area setting =
    let job = job_of settings table meaning in
    record {
      records = opening_holds job (IsEndpointKept settings) (λ node. nothing_begun settings)
          (λ node. opening_kept settings node);
      phases = record {
        node = λ node has. record { ended = omega arith; started = omega arith };
        pair = λ from to has_from has_to. first_pair from to has_from has_to;
      };
      progress = λ node has. record {
        started = refl;
        shape = λ given low gave. absurd (none_given 0 given gave);
        given = λ phase given gave. absurd (none_given phase given gave);
        small = omega arith;
      };
      messages = λ from to number request has_from has_to there handler. absurd (numbered_nil number request there);
      once = λ from to number other phase is other_is.
          absurd (true≢false (sym is ∙ none_asked phase number));
      parts = λ node from phase given has has_from stands gave. absurd (none_given phase given gave);
    }
  where
    first_pair : (from to : ℕ) → from < settings.nodes → to < settings.nodes
        → PairHolds (phases_of (job_of settings table meaning) area (opening_group settings)) from to
    first_pair from to has_from has_to =
        let sent = none_sent (to == from) in
        let there : from < area.nodes = (let same = setting.nodes in omega (arith, same, has_from)) in
        let zero_stamp = λ (parity : ℕ) (low : parity < 2).
        no_stamp settings table meaning area to parity from setting low there in
        record {
          before = omega arith;
          sent = omega (arith, sent);
          ran = λ phase is. absurd (true≢false (sym is ∙ no_run phase (to == from)));
          ended = λ phase low. absurd (omega (arith, low));
          stands = λ phase is. absurd (let none = zero_stamp (phase % 2) (omega arith) in omega (arith, is, none));
          latest = λ phase is. absurd (true≢false (sym is ∙ no_run phase (to == from)));
          parity = λ parity low. inl (zero_stamp parity low);
        }
