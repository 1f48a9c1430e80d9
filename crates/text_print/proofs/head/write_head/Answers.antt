use Rattle.std.proofs.Common.{map}
use Rattle.base_io.proofs.Outboxes.{nothing_yet, past_done, past_fault, past_last}
use Rattle.text_job.specs.JobText.{all_settings, setting_line, sieve_line}
use Rattle.text_print.proofs.Pieces.{one_more}
use Rattle.text_print.proofs.head.write_head.Goals as goal

pub returns-in-Fault : goal.returns-in-Fault
returns-in-Fault g c =
    past_fault _ _ _ _ _ _ _ (one_more (map (setting_line c.args.job.now) all_settings) (sieve_line
    (c.args.job.now).sieve)) (nothing_yet _ _) c.in-Fault.ensures

pub returns : goal.returns
returns g c =
    past_last _ _ _ _ _ _
    (past_done _ _ _ _ _ _ _ (one_more (map (setting_line c.args.job.now) all_settings) (sieve_line
    (c.args.job.now).sieve)) (nothing_yet _ _) c.in_default.ensures)
    c.write_sieve.ensures
