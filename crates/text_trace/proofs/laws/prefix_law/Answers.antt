-- The laws of prefixes, by the lemmas on them.
use Rattle.text_trace.proofs.PrefixLemmas.{can_go_later, one_stuck, run_not_stuck}
use Rattle.text_trace.proofs.CutLemmas.{cut_run}
use Rattle.text_trace.proofs.SilentLemmas.{silent_run}
use Rattle.text_trace.proofs.Deciding.{run_or_stuck}
use Rattle.text_trace.proofs.laws.prefix_law.Goals as goal

pub returns-clause-later : goal.returns-clause-later
returns-clause-later g c = λ s xs f o n same within h. can_go_later s xs f o n same within h

pub returns-clause-one : goal.returns-clause-one
returns-clause-one g c = λ s xs f o hf ho. one_stuck s xs f o hf ho

pub returns-clause-run_or_stuck : goal.returns-clause-run_or_stuck
returns-clause-run_or_stuck g c = λ s xs. run_or_stuck s xs

pub returns-clause-not_both : goal.returns-clause-not_both
returns-clause-not_both g c = λ s xs f run stuck. run_not_stuck s xs f run stuck

pub returns-clause-cut : goal.returns-clause-cut
returns-clause-cut g c = λ s xs f ns h. cut_run s xs f ns h

pub returns-clause-silent : goal.returns-clause-silent
returns-clause-silent g c = λ s xs f run silent. silent_run s xs f run.0 run.1 silent
