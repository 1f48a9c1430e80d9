use Rattle.std.proofs.Common.{[], sym, subst}
use Rattle.proc_runner.specs.declared.ends.EndedStation.{EndedStation}
use Rattle.proc_runner.specs.Leaving.{StationLeaves}
use Rattle.proc_runner.specs.StationState.{new_station}
use Rattle.proc_runner.proofs.Keeping.{opened_facts}
use Rattle.proc_runner.proofs.Leaving.{leaves}
use Rattle.proc_station.specs.NodeRuns.{opening_over}
use Rattle.proc_station.proofs.node.run_bound.Goals as goal

-- no turn was taken
pub returns-in-Err : goal.returns-in-Err
returns-in-Err g c =
    let opening = opening_over c.args.node.link c.args.recorder c.args.node in
    subst
    (λ (e : EndedStation _ _ _ _). StationLeaves g.M.Machine g.L.Link g.C.Clock g.D.Recorder opening e)
    (sym c.in-Err.ensures.made)
    (leaves g.M.Machine g.L.Link g.C.Clock g.D.Recorder opening [] (new_station opening)
    (opened_facts g.M.Machine g.L.Link g.C.Clock g.D.Recorder opening) c.requires)
