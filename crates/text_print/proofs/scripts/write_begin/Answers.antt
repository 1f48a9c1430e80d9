use Rattle.std.proofs.Common.{◌∷◌, []}
use Rattle.base_io.proofs.Outboxes.{gathers_first, gathers_then}
use Rattle.text_job.specs.JobText.{script_line}
use Rattle.text_print.proofs.scripts.write_begin.Goals as goal

pub returns-in-Fault : goal.returns-in-Fault
returns-in-Fault g c =
    gathers_first _ _ (script_line c.args.script.now) (10 ∷ []) c.in-Fault.ensures

pub returns : goal.returns
returns g c =
    gathers_then _ _ _ (script_line c.args.script.now) (10 ∷ []) _ c.in_default.ensures c.write_all.ensures
