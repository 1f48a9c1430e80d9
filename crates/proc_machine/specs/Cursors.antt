-- What is left of a thread's script, as the code keeps it.
-- Origin: this project's profile.
use Rattle.std.specs.Prelude.{List, map}
use Rattle.text_steps.specs.declared.steps.ScriptStep.{ScriptStep}
use Rattle.law_traces.specs.Actions.{Progress}
use Rattle.proc_machine.specs.declared.cursor.Cursor.{Cursor}

abbrev pub progress_of : Cursor → Progress ScriptStep
progress_of cursor = record { left = cursor.left.now; began = cursor.began }

-- of each thread
abbrev pub progress_of_all : List Cursor → List (Progress ScriptStep)
progress_of_all cursors = map progress_of cursors
