use Rattle.std.proofs.Common.{◌≡◌, false, sym, subst, ◌∙◌}
use Rattle.spec_node.specs.Step.{is_exhausted}
use Rattle.spec_node.specs.Under.{under}
use Rattle.node_rules.specs.EndpointLocal.{core_of}
use Rattle.node_endpoint.proofs.OwnNumbers.{own_exhausted}
use Rattle.node_endpoint.proofs.extended.Extended.has_exhausted.Goals as goal

pub returns : goal.returns
returns c record_ S = c.exhausted.ensures (under core_of record_) S.core

pub returns-then-node-self : goal.returns-then-node-self
returns-then-node-self c record_ S =
    sym (subst (λ n. is_exhausted c.args.core.now.settings record_ n ≡ false)
    (sym (c.if-node-self.true ∙ c.requires.whole.me_is)) (own_exhausted c.args.core.now c.args.self.now record_ S))
