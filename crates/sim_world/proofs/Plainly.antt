-- What the records say of an event is a step of the plain world.
use Rattle.std.proofs.Common.{◌≡◌, ℕ}
use Rattle.part_handlers.specs.Runs.{Meaning, IsLawfulMeaning}
use Rattle.node_rules.specs.EndpointLocal.{IsEndpointKept}
use Rattle.spec_network.specs.World.{world_answer, world_after}
use Rattle.spec_network.specs.PlainStep.{PlainStep}
use Rattle.spec_network.specs.Plain.{plain_of}
use Rattle.node_rules.specs.EndpointRules.{Records, RecordsEvent, timed_event, transition}
use Rattle.sim_world.specs.WorldTold.{world_told}
use Rattle.node_rules.proofs.Sound.{rules_sound}
use Rattle.sim_world.specs.WorldState.{WorldState}
use Rattle.sim_world.specs.Stands.{WorldStands}
use Rattle.sim_world.specs.Events.{job_in, StepsInWorld, StepsPlainly}
use Rattle.spec_network.specs.Laws.{IsLawful}
use Rattle.sim_world.specs.declared.event.WorldAnswer.{WorldAnswer}
use Rattle.sim_world.specs.declared.event.WorldAnswer.TheVariants as answers
use Rattle.spec_network.proofs.Laws.{lawful}
use Rattle.spec_network.proofs.PlainSteps.{step_plain}

-- an answer that is the records' is that of a step of the plain world
answers_plainly : (meaning : Meaning) (v : WorldState) (now : ℕ) (e : RecordsEvent) (a : WorldAnswer) (w : Records)
    (most : ℕ → ℕ)
    → IsLawfulMeaning meaning → WorldStands v w most → a ≡ world_told (world_answer (job_in meaning v) w (timed_event now e))
    → (a ≡ world_told (world_answer (job_in meaning v) w (timed_event now e)))
    × PlainStep (job_in meaning v) (plain_of w) e (world_answer (job_in meaning v) w (timed_event now e))
    (plain_of (world_after (job_in meaning v) w (timed_event now e)))
answers_plainly meaning v now e a w most lawful S is = (
  is,
  step_plain (job_in meaning v) (IsEndpointKept v.settings) w (timed_event now e)
      (rules_sound v.settings v.table meaning S.range lawful)
      S.invariant_,
)

-- a step of the world is one of the plain world
pub plainly : (meaning : Meaning) (old : WorldState) (now : ℕ) (e : RecordsEvent) (a : WorldAnswer) (new : WorldState)
    → IsLawfulMeaning meaning → StepsInWorld meaning old (transition now e a) new
    → StepsPlainly meaning old (transition now e a)
plainly meaning old now e answers.NoMemory new sound steps = tt
plainly meaning old now e (answers.Node answer) new sound steps =
    λ w most S. answers_plainly meaning old now e (answers.Node answer) w most sound S (steps w most S).0
plainly meaning old now e answers.Unsent new sound steps =
    λ w most S. answers_plainly meaning old now e answers.Unsent w most sound S (steps w most S).0

-- the records for which a world stands are lawful
pub stands_lawful : (meaning : Meaning) (v : WorldState) (w : Records) (most : ℕ → ℕ) → IsLawfulMeaning meaning
    → WorldStands v w most → IsLawful (job_in meaning v) w
stands_lawful meaning v w most sound S =
    lawful (job_in meaning v) (IsEndpointKept v.settings) w (rules_sound v.settings v.table meaning S.range sound)
    S.invariant_
