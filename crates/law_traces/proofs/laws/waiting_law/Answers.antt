-- Tries that wait.
use Rattle.law_traces.proofs.Acting.{scripts_same}
use Rattle.law_traces.proofs.laws.waiting_law.Goals as goal

pub returns : goal.returns
returns g c = λ form at own before after answer ended began.
    scripts_same form at own before after answer ended began
