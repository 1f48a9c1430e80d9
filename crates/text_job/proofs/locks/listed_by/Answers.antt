use Rattle.std.proofs.Common.{refl}
use Rattle.text_job.proofs.LockLaws.{listed_locks}
use Rattle.text_job.proofs.locks.listed_by.Goals as goal

pub loop-lock-init : goal.loop-lock-init
loop-lock-init c = record { so_far = refl; later = listed_locks 0 c.args.locks.now c.requires }
