-- What is told after the run of a command.
use Rattle.std.specs.Prelude.{◌≡◌, ◌⊎◌, ℕ, List, [], Bool, Option, Some, None, Result, Ok, Err, String, IfOk}
use Rattle.std.specs.Prelude.{string_bytes}
use Rattle.std.specs.Global.{Global}
use Rattle.std.specs.Bool.{MatchBool}
use Rattle.std.specs.declared.alloc.AllocError.{AllocError}
use Rattle.cli_report.specs.Causes.{IsFaultOf}
use Rattle.cli_report.specs.Command.{kind_of, name_of}
use Rattle.cli_report.specs.Facts.{IsDroppedText, IsEndsText, IsLinkText, IsStartText}
use Rattle.cli_report.specs.Gathering.{GivesOne, GivesTo}
use Rattle.cli_report.specs.Report.{IsToldBy}
use Rattle.cli_report.specs.Status.{IsLastLine, ending_of, line_status}
use Rattle.cli_report.specs.Telling.{TellsMade, after_text}
use Rattle.cli_report.specs.declared.command.Command.{Command}
use Rattle.cli_report.specs.declared.command.CommandKind.{CommandKind}
use Rattle.cli_report.specs.declared.command.CommandKind.TheVariants as kinds
use Rattle.cli_report.specs.declared.counted.KeptOutput.{KeptOutput}
use Rattle.cli_report.specs.declared.facts.ChildSeen.{ChildSeen}
use Rattle.cli_report.specs.declared.findings.NodeFinding.{NodeFinding}
use Rattle.cli_report.specs.declared.ran.Heard.{Heard}
use Rattle.cli_report.specs.declared.ran.Outcome.{Outcome}
use Rattle.cli_report.specs.declared.replays.Replays.{Ghosts as Replays}
use Rattle.cli_report.specs.declared.report.Judged.{Judged}
use Rattle.cli_report.specs.declared.status.Ending.{Ending}
use Rattle.cli_report.specs.declared.texts.Texts.{Ghosts as Texts}

-- how the run of a check or a launch ended, by its last line
abbrev pub ending_by : CommandKind → (line : List ℕ) → Option Ending
ending_by kinds.Check line = ending_of (line_status line)
ending_by kinds.Launch line = ending_of (line_status line)
ending_by kinds.World line = None
ending_by kinds.Other line = None

pub record IsToldEnding (command : Command) (ending : Option Ending) : Type 0 where
  pub line : List ℕ
  pub is_last : IsLastLine command.output.bytes.items line
  pub is : ending ≡ ending_by (kind_of (name_of command.words.items)) line

-- the steps of the nodes of a check or a launch, the lines of a world's schedule, and of other commands nothing
abbrev pub AreStepsBy : {T : Type 0} → Texts T → CommandKind → (input output text : List ℕ) → Type 0
AreStepsBy texts kinds.Check input output text = texts.steps input output text
AreStepsBy texts kinds.Launch input output text = texts.steps input output text
AreStepsBy texts kinds.World input output text = texts.schedules input output text
AreStepsBy texts kinds.Other input output text = text ≡ []

-- the steps, where they are asked for
abbrev pub IsStepsOf : {T : Type 0} → Texts T → Command → (text : List ℕ) → Type 0
IsStepsOf texts command text =
    MatchBool command.steps
    (AreStepsBy texts (kind_of (name_of command.words.items)) command.input.bytes.items command.output.bytes.items text)
    (text ≡ [])

-- the replays of what was given: of a check what it read, else the outputs
abbrev pub AreReplays : {R : Type 0} → Replays R → CommandKind → (input : List ℕ) → List KeptOutput → R → Type 0
AreReplays given kinds.Check input outputs replays = given.of_check input replays
AreReplays given kinds.Launch input outputs replays = given.of_launch input outputs replays
AreReplays given kinds.World input outputs replays = given.of_launch input outputs replays
AreReplays given kinds.Other input outputs replays = given.of_launch input outputs replays

-- what the replays tell of a run that ended so, node by node
pub record IsFindingsBy {T R : Type 0} (texts : Texts T) (given : Replays R) (command : Command) (ending : Ending)
    (outputs : List KeptOutput) (text : List ℕ) : Type 0 where
  pub replays : R
  pub judged : Judged
  pub nodes : List NodeFinding
  pub ending_is : judged.ending ≡ ending
  pub kind_is : judged.kind ≡ kind_of (name_of command.words.items)
  pub are_replays : AreReplays given (kind_of (name_of command.words.items)) command.input.bytes.items outputs replays
  pub are : GivesTo (GivesOne (given.finds replays)) (given.places replays) nodes
  pub is : IsToldBy texts given judged command.input.bytes.items nodes replays text

abbrev pub IsFindingsAt : {T R : Type 0} → Texts T → Replays R → Command → Option Ending → List KeptOutput → List ℕ
    → Type 0
IsFindingsAt texts given command None outputs text = text ≡ []
IsFindingsAt texts given command (Some ending) outputs text = IsFindingsBy texts given command ending outputs text

-- what the outputs of the nodes of a check or a launch tell
pub record IsFindings {T R : Type 0} (texts : Texts T) (given : Replays R) (command : Command)
    (outputs : List KeptOutput) (text : List ℕ) : Type 0 where
  pub ending : Option Ending
  pub is_ending : IsToldEnding command ending
  pub is : IsFindingsAt texts given command ending outputs text

-- a text that was made, or none
abbrev pub made_or_nothing : Result (String Global) AllocError → List ℕ
made_or_nothing (Ok text) = string_bytes text
made_or_nothing (Err fault) = []

-- a text is so, or memory ran out and it is empty
abbrev pub IsOrNothing : (List ℕ → Type 0) → List ℕ → Type 0
IsOrNothing is text = is text ⊎ (text ≡ [])

-- all that is told after a run, in order, by what was heard of it
pub record IsToldOf {T : Type 0} (texts : Texts T) (command : Command) (is_help : Bool) (heard : Heard)
    (text : List ℕ) : Type 0 where
  pub steps : List ℕ
  pub fault : List ℕ
  pub are_steps : IsStepsOf texts command steps
  pub is_fault : IsFaultOf texts command (string_bytes heard.link) (string_bytes heard.start) fault
  pub is : text ≡ after_text is_help (string_bytes heard.dropped) (string_bytes heard.findings)
      (string_bytes heard.ends) steps fault

-- each part of it
pub record IsToldAfter {T R C : Type 0} (texts : Texts T) (given : Replays R)
    (ended : C → ℕ → Option ChildSeen → Type 0) (command : Command) (outcome : Outcome C) (text : List ℕ) : Type 0 where
  pub heard : Heard
  pub dropped : IsOrNothing (IsDroppedText outcome.facts) (string_bytes heard.dropped)
  pub findings : IsOrNothing (IsFindings texts given command outcome.outputs.items) (string_bytes heard.findings)
  pub ends : IsOrNothing (IsEndsText (ended outcome.children.now)) (string_bytes heard.ends)
  pub link : IsOrNothing (IsLinkText outcome.facts.fault) (string_bytes heard.link)
  pub start : IsOrNothing (IsStartText outcome.facts.unstarted) (string_bytes heard.start)
  pub is : IsToldOf texts command outcome.is_help heard text

-- it was told, if there was memory for it; what was told before, and after
pub record TellsAfter {T R C : Type 0} (texts : Texts T) (given : Replays R)
    (ended : C → ℕ → Option ChildSeen → Type 0) (told : Option (List ℕ) × Option (List ℕ)) (command : Command)
    (outcome : Outcome C) : Type 0 where
  pub made : Result (String Global) AllocError
  pub all : Bool
  pub is_text : IfOk made (λ text. IsToldAfter texts given ended command outcome (string_bytes text))
  pub tells : TellsMade told.0 told.1 made all
