use Rattle.std.proofs.Common.{◌≡◌, ℕ, List, Option, Some, None, Bor, sym, subst, slice_get}
use Rattle.std.specs.Option.{IfSome, option_map}
use Rattle.wire_message.specs.Parameters.{Parameters}
use Rattle.text_job.specs.declared.job.Job.{Job as JobState}
use Rattle.text_script.specs.ScriptInvariant.{IsWithin, AreWithin, MayCollect, AllMayCollect}
use Rattle.text_job.specs.JobReading.{lines_of}
use Rattle.text_job.specs.declared.job.CollectArea.{CollectArea}
use Rattle.text_steps.specs.declared.steps.TimedEvent.{TimedEvent}
use Rattle.text_script.proofs.script.Script.timed.Goals as goal

-- a line of lines whose calls are within is within
line_within : (settings : Parameters) (es : List TimedEvent) (i : ℕ) (r : Option (Bor TimedEvent))
    → option_map (λ e. e.now) r ≡ slice_get es i → AreWithin settings es
    → IfSome r (λ e. IsWithin settings e.now.event)
line_within settings es i None e h = tt
line_within settings es i (Some x) e h = h i x.now (sym e)

-- so it is with calls of collectives
line_may : (collect : Option CollectArea) (es : List TimedEvent) (i : ℕ) (r : Option (Bor TimedEvent))
    → option_map (λ e. e.now) r ≡ slice_get es i → AllMayCollect collect es
    → IfSome r (λ e. MayCollect collect e.now.event)
line_may collect es i None e h = tt
line_may collect es i (Some x) e h = h i x.now (sym e)

pub returns-clause-within : goal.returns-clause-within
returns-clause-within c =
    let h : AreWithin c.args.self.now.settings (lines_of c.self.inside.schedule) =
    subst (λ (j : JobState). AreWithin j.settings (lines_of c.self.inside.schedule)) c.self.view_is
    c.self.invariant.within in
    line_within c.args.self.now.settings (lines_of c.self.inside.schedule) c.args.i c.line_at.result
    c.line_at.ensures h

pub returns-clause-collect : goal.returns-clause-collect
returns-clause-collect c =
    let h : AllMayCollect c.args.self.now.collect (lines_of c.self.inside.schedule) =
    subst (λ (j : JobState). AllMayCollect j.collect (lines_of c.self.inside.schedule)) c.self.view_is
    c.self.invariant.may_collect in
    line_may c.args.self.now.collect (lines_of c.self.inside.schedule) c.args.i c.line_at.result
    c.line_at.ensures h
