use Rattle.std.proofs.Common.{refl}
use Rattle.text_job.specs.Places.{AtDone, Over}
use Rattle.text_job.proofs.LineRuns.{read_on, line_bad}
use Rattle.text_job.proofs.HandlerRuns.{told_by}
use Rattle.text_job.proofs.endings.done_line.Goals as goal

pub returns-in-Ok : goal.returns-in-Ok
returns-in-Ok c = λ job. read_on AtDone job c.args.line c.args.bytes.now c.in-Ok.rest.now tt
    (record { place = Over; job = job }) c.in-Ok.ensures refl

pub returns-in-Err : goal.returns-in-Err
returns-in-Err c = λ job. told_by _ c.args.line _ c.reason_of-why.result
    (line_bad AtDone tt job c.args.line c.args.bytes.now c.in-Err.ensures) c.reason_of-why.ensures
