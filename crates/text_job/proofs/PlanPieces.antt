-- The pieces of plans, line by line.
use Rattle.std.proofs.Common.{◌≡◌, ℕ, ◌+◌, ◌-◌, ◌≤◌, Bool, true, false, ltb, List, [], ◌∷◌, ◌++◌, refl, sym, arith}
use Rattle.std.proofs.lemmas.Bool.{ltb-true, ltb-false, lt-ltb, le-ltb}
use Rattle.text_job.specs.PlanPieces.{event_pieces, schedule_pieces, scripts_pieces}
use Rattle.text_job.specs.StepPieces.{step_pieces, steps_pieces}
use Rattle.text_job.specs.declared.job.NodeScript.{NodeScript}
use Rattle.text_steps.specs.declared.steps.ScriptStep.{ScriptStep}
use Rattle.text_steps.specs.declared.steps.TimedEvent.{TimedEvent}

-- those of lines and others behind them
pub schedule_join : (prefix rest : List TimedEvent) → schedule_pieces (prefix ++ rest)
    ≡ schedule_pieces prefix + schedule_pieces rest
schedule_join [] rest = omega arith
schedule_join (t ∷ prefix) rest = let e = schedule_join prefix rest in omega arith

-- those of steps and others behind them
pub steps_join : (prefix rest : List ScriptStep) → steps_pieces (prefix ++ rest)
    ≡ steps_pieces prefix + steps_pieces rest
steps_join [] rest = omega arith
steps_join (s ∷ prefix) rest = let e = steps_join prefix rest in omega arith

-- those of scripts and others behind them
pub scripts_join : (prefix rest : List NodeScript) → scripts_pieces (prefix ++ rest)
    ≡ scripts_pieces prefix + scripts_pieces rest
scripts_join [] rest = omega arith
scripts_join (s ∷ prefix) rest = let e = scripts_join prefix rest in omega arith

-- and with one more
pub schedule_more : (lines : List TimedEvent) (t : TimedEvent) → schedule_pieces (lines ++ t ∷ [])
    ≡ schedule_pieces lines + event_pieces t.event
schedule_more lines t = let e = schedule_join lines (t ∷ []) in omega arith

pub steps_more : (steps : List ScriptStep) (s : ScriptStep) → steps_pieces (steps ++ s ∷ [])
    ≡ steps_pieces steps + step_pieces s
steps_more steps s = let e = steps_join steps (s ∷ []) in omega arith

pub scripts_more : (scripts : List NodeScript) (s : NodeScript) → scripts_pieces (scripts ++ s ∷ [])
    ≡ scripts_pieces scripts + steps_pieces s.steps
scripts_more scripts s = let e = scripts_join scripts (s ∷ []) in omega arith

-- whether there are too many, by how many are left
too_many_by : (pieces more : ℕ) (t : Bool) → ltb (65536 - pieces) more ≡ t → pieces ≤ 65536
    → ltb 65536 (pieces + more) ≡ t
too_many_by pieces more true e few =
    let lt = ltb-true (65536 - pieces) more e in lt-ltb 65536 (pieces + more) (omega (arith, lt, few))
too_many_by pieces more false e few =
    let le = ltb-false (65536 - pieces) more e in le-ltb 65536 (pieces + more) (omega (arith, le, few))

pub too_many : (pieces more : ℕ) → pieces ≤ 65536 → ltb (65536 - pieces) more ≡ ltb 65536 (pieces + more)
too_many pieces more few = sym (too_many_by pieces more (ltb (65536 - pieces) more) refl few)
