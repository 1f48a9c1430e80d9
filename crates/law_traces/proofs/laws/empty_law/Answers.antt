-- Empty turns.
use Rattle.law_traces.proofs.Emptying.{empty_turns}
use Rattle.law_traces.proofs.laws.empty_law.Goals as goal

pub returns : goal.returns
returns g c = λ job calm. empty_turns job calm
