-- What is told of the replays of what the nodes of a run gave.
use Rattle.std.specs.Prelude.{◌≡◌, ℕ, List, [], ◌++◌}
use Rattle.cli_report.specs.Gathering.{GivesOne, GivesTo}
use Rattle.cli_report.specs.declared.replays.Replays.{Ghosts as Replays}
use Rattle.cli_report.specs.declared.status.Ending.{Ending}
use Rattle.cli_report.specs.declared.status.Ending.TheVariants as endings
use Rattle.cli_report.specs.declared.texts.Texts.{Ghosts as Texts}
use Rattle.cli_report.specs.declared.unsent.SentMessage.{SentMessage}

-- what the replay at a place sent
abbrev pub AreSent : {R : Type 0} → Replays R → R → (place : ℕ) → List SentMessage → Type 0
AreSent given replays place sent = GivesTo (GivesOne (given.sent replays place)) (given.sends replays place) sent

-- it was added
pub record AddsSent {R : Type 0} (given : Replays R) (replays : R) (place : ℕ)
    (old new : List SentMessage) : Type 0 where
  pub sent : List SentMessage
  pub are : AreSent given replays place sent
  pub is : new ≡ old ++ sent

-- the steps of the node at a place that ended
abbrev pub AreSteps : {T R : Type 0} → Texts T → Replays R → List ℕ → R → (place : ℕ) → List ℕ → Type 0
AreSteps texts given job replays place text = texts.steps job (given.lines replays place) text

-- those that its threads wait for
abbrev pub AreWaits : {T R : Type 0} → Texts T → Replays R → List ℕ → R → (place : ℕ) → List ℕ → Type 0
AreWaits texts given job replays place text =
    texts.waits job (given.ranks replays place) (given.lines replays place) text

-- all steps that ended, and then all that are waited for
pub record AreStepsAndWaits {T R : Type 0} (texts : Texts T) (given : Replays R) (job : List ℕ) (replays : R)
    (text : List ℕ) : Type 0 where
  pub steps : List ℕ
  pub waits : List ℕ
  pub are_steps : GivesTo (AreSteps texts given job replays) (given.places replays) steps
  pub are_waits : GivesTo (AreWaits texts given job replays) (given.places replays) waits
  pub is : text ≡ steps ++ waits

-- so it is where there is no run
abbrev pub IsPrefixText : {T R : Type 0} → Texts T → Replays R → Ending → (job : List ℕ) → R → (text : List ℕ) → Type 0
IsPrefixText texts given endings.Run job replays text = text ≡ []
IsPrefixText texts given endings.NoRun job replays text = AreStepsAndWaits texts given job replays text
IsPrefixText texts given endings.Failed job replays text = AreStepsAndWaits texts given job replays text
