-- How many pieces the plans of steps have.
use Rattle.std.specs.Prelude.{ℕ, ◌+◌, List, [], ◌∷◌, length}
use Rattle.text_steps.specs.declared.steps.ScriptStep.{ScriptStep}
use Rattle.text_steps.specs.declared.steps.ScriptStep.TheVariants as step
use Rattle.text_vis.specs.declared.vis.VisText.{VisText}

-- the pieces of the plan of a line
abbrev pub vis_pieces : VisText → ℕ
vis_pieces vis = length vis.plan.pieces

-- those of a step, and of all steps of a script
abbrev pub step_pieces : ScriptStep → ℕ
step_pieces (step.Vis vis) = vis_pieces vis
step_pieces other = 0

abbrev pub steps_pieces : List ScriptStep → ℕ
steps_pieces [] = 0
steps_pieces (one ∷ others) = step_pieces one + steps_pieces others
