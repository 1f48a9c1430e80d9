-- The headline holds of every run of a world of these handlers.
use Rattle.std.specs.Prelude.{ℕ, List, Option}
use Rattle.std.specs.List.{AllByRecursion}
use Rattle.wire_message.specs.Parameters.{Parameters, AreInRange}
use Rattle.part_handlers.specs.declared.table.Entry.{Entry}
use Rattle.part_handlers.specs.Runs.{Meaning, IsLawfulMeaning}
use Rattle.node_rules.specs.EndpointLocal.{IsEndpointKept, nothing_begun}
use Rattle.spec_network.specs.World.{EventAt, IsAmong}
use Rattle.spec_network.specs.MostHeld.{most_after}
use Rattle.spec_network.specs.Headline.{Headline, IsGreatest}
use Rattle.spec_network.proofs.Headline.{headline as any_headline, run_greatest as any_greatest}
use Rattle.node_rules.specs.EndpointRules.{OtherCall, job_of, at_the_opening}
use Rattle.node_rules.proofs.Sound.{rules_sound}
use Rattle.node_rules.proofs.Kept.{opening_kept}

-- the headline, for lawful handlers
pub headline : (s : Parameters) (table : List (Option Entry)) (meaning : Meaning) (es : List (EventAt OtherCall))
    → AreInRange s → IsLawfulMeaning meaning → AllByRecursion (λ (e : EventAt OtherCall). IsAmong s e.event) es
    → Headline (job_of s table meaning) (λ i. nothing_begun s) es
headline s table meaning es range lawful among =
    any_headline (job_of s table meaning) (IsEndpointKept s) (λ i. nothing_begun s) es
    (rules_sound s table meaning range lawful)
    (λ i. opening_kept s i)
    among

-- the most that a node held in a run from the opening
pub run_greatest : (s : Parameters) (table : List (Option Entry)) (meaning : Meaning) (es : List (EventAt OtherCall))
    (i : ℕ)
    → IsGreatest (job_of s table meaning) es (at_the_opening s) i
    (most_after (job_of s table meaning) es (at_the_opening s) (λ j. 0) i)
run_greatest s table meaning es i = any_greatest (job_of s table meaning) (λ j. nothing_begun s) es i
