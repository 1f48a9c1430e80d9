-- How the line of the step that ended in the last turn of a node is written.
-- Origin: this project's profile.
use Rattle.std.specs.Prelude.{◌≡◌, ℕ, Bool, true, if◌then◌else◌, List, [], ◌∷◌, ◌++◌, Option, None, Some, IsSomeAnd}
use Rattle.std.specs.Prelude.{decimal}
use Rattle.node_endpoint.specs.EndpointState.{EndpointState, ForItsRecord}
use Rattle.proc_machine.specs.Kept.{MachineKept}
use Rattle.law_traces.specs.declared.script_answer.ScriptAnswer.{ScriptAnswer}
use Rattle.law_traces.specs.declared.script_answer.ScriptAnswer.TheVariants as said
use Rattle.text_script.specs.AnswersTold.{NamesWhatIs, sight_at}
use Rattle.text_script.specs.AnswerWords.{Sight}
use Rattle.base_text.specs.LineTexts.{Line, spell}
use Rattle.cli_check.specs.StepLines.{script_words}
use Rattle.cli_check.specs.declared.steps.StepAt.{StepAt}

-- what the answer of a step names is there at the endpoint as it stands after it
abbrev pub NamesWhatIsThere : EndpointState → ScriptAnswer → Type 0
NamesWhatIsThere endpoint (said.Call answer) = NamesWhatIs endpoint answer
NamesWhatIsThere endpoint (said.Vis vis) = Unit {0}
NamesWhatIsThere endpoint (said.Start answer) = Unit {0}
NamesWhatIsThere endpoint (said.Step answer) = Unit {0}
NamesWhatIsThere endpoint (said.End answer) = Unit {0}

-- where a step ended, the machine keeps its answer, and what that names is there
abbrev pub CanTellStep : (stepped : Bool) → MachineKept → Type 0
CanTellStep stepped kept = stepped ≡ true → IsSomeAnd kept.answer (NamesWhatIsThere kept.endpoint)

-- the line of an answer, if there is one, by what it names
abbrev pub lines_told : StepAt → Sight → Option ScriptAnswer → List Line
lines_told at sight None = []
lines_told at sight (Some answer) = (decimal at.rank ∷ decimal at.thread ∷ script_words sight answer) ∷ []

-- where it was told whole, the line of the step went in behind the text so far, if one ended
abbrev pub TellsStep : StepAt → (stepped : Bool) → MachineKept → (old new : List ℕ) → (whole : Bool) → Type 0
TellsStep at stepped kept old new whole = whole ≡ true → ForItsRecord kept.endpoint (λ node.
    new ≡ old ++ spell (if stepped then lines_told at (sight_at kept.endpoint node) kept.answer else []))
