-- The try of a thread's next step, from that of a step.
use Rattle.std.proofs.Common.{◌≡◌, ℕ, List, [], ◌∷◌, Option, None, Some, refl, sym, ap, subst, slice_get}
use Rattle.std.proofs.lemmas.Option.{same_Some}
use Rattle.part_handlers.specs.Runs.{Meaning}
use Rattle.node_rules.specs.declared.answer.Answer.{Answer}
use Rattle.text_steps.specs.declared.steps.ScriptStep.{ScriptStep}
use Rattle.proc_steps.specs.Tries.{FoundNode, Tries}
use Rattle.proc_steps.specs.declared.trial.Trial.{Trial}
use Rattle.proc_steps.specs.declared.trial.Tried.{Tried}
use Rattle.proc_machine.specs.Scripted.{TriesNext}
use Rattle.proc_machine.proofs.Happening.{none_happens}

pub next_tried : (meaning : Meaning) (old new : FoundNode) (trial : Trial) (tried : Tried) (rest : List ScriptStep)
    → Tries meaning old trial tried new
    → TriesNext meaning old (record {
      now = trial.time;
      thread = trial.thread;
      progress = record { left = trial.step.now ∷ rest; began = trial.began };
    }) tried new
next_tried meaning old new trial tried rest T = record {
  happen = record { same = T.happen.same; happened = T.happen.happened };
  tried_so = λ node stands. T.tried_so node stands rest;
  far = T.far;
}

pub no_next : (meaning : Meaning) (old : FoundNode) (now thread : ℕ) (began : Option Answer)
    → TriesNext meaning old (record { now = now; thread = thread; progress = record { left = []; began = began } })
    (record { sent = None; ended = None; began = None }) old
no_next meaning old now thread began = record {
  happen = none_happens meaning old.endpoint now;
  tried_so = λ node stands. refl;
  far = λ node stands. refl;
}

-- ---- by the first of the steps that are left

first_there : (left : List ScriptStep) (step : ScriptStep) → Some step ≡ slice_get left 0
    → (rest : List ScriptStep) × (left ≡ step ∷ rest)
first_there [] step e = absurd cc
first_there (first ∷ rest) step e =
    (rest, ap (λ (s : ScriptStep). s ∷ rest) (sym (same_Some step first e)))

none_there : (left : List ScriptStep) → None ≡ slice_get left 0 → left ≡ []
none_there [] e = refl
none_there (first ∷ rest) e = absurd cc

-- a step is tried
pub next_from : (meaning : Meaning) (old new : FoundNode) (trial : Trial) (tried : Tried) (left : List ScriptStep)
    → Some trial.step.now ≡ slice_get left 0 → Tries meaning old trial tried new
    → TriesNext meaning old (record {
      now = trial.time;
      thread = trial.thread;
      progress = record { left = left; began = trial.began };
    }) tried new
next_from meaning old new trial tried left first T =
    let it = first_there left trial.step.now first in
    subst (λ (l : List ScriptStep). TriesNext meaning old (record {
      now = trial.time;
      thread = trial.thread;
      progress = record { left = l; began = trial.began };
    }) tried new) (sym it.1) (next_tried meaning old new trial tried it.0 T)

-- there is none
pub none_from : (meaning : Meaning) (old : FoundNode) (now thread : ℕ) (left : List ScriptStep)
    (began : Option Answer) → None ≡ slice_get left 0
    → TriesNext meaning old (record { now = now; thread = thread; progress = record { left = left; began = began } })
    (record { sent = None; ended = None; began = None }) old
none_from meaning old now thread left began none =
    subst (λ (l : List ScriptStep). TriesNext meaning old
    (record { now = now; thread = thread; progress = record { left = l; began = began } })
    (record { sent = None; ended = None; began = None }) old) (sym (none_there left none))
    (no_next meaning old now thread began)
