-- Orders of machines that are others.
use Rattle.law_traces.proofs.Carrying.{goes_back}
use Rattle.law_traces.proofs.laws.carrying_law.Goals as goal

pub returns : goal.returns
returns g c = λ become first second carries nodes list prefix to go.
    goes_back become first second carries nodes list prefix to go
