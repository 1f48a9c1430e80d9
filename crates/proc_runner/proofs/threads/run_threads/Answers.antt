use Rattle.std.proofs.Common.{refl, sym, subst}
use Rattle.proc_runner.specs.StationState.{opening_of}
use Rattle.proc_runner.specs.Leaving.{StationLeaves}
use Rattle.proc_runner.proofs.Leaving.{leaves}
use Rattle.proc_runner.proofs.threads.run_threads.Goals as goal

-- the name says what the station was opened with
pub returns : goal.returns
returns g c =
    let opening = opening_of c.args.station in
    let had = c.run_named.ensures.facts opening refl in
    subst (StationLeaves g.M.Machine g.L.Link g.C.Clock g.K.Recorder opening) (sym c.into_ended.ensures)
    (leaves g.M.Machine g.L.Link g.C.Clock g.K.Recorder opening had.0 c.run_named.result
    had.1 c.requires.new.1)
