use Rattle.std.proofs.Common.{ap, ◌∙◌}
use Rattle.node_core.specs.CoreState.{CoreState}
use Rattle.node_core.proofs.node.Core.log.Goals as goal

pub returns : goal.returns
returns c = λ r S. ap (λ (v : CoreState). v.log) c.self.view_is ∙ S.log_is
