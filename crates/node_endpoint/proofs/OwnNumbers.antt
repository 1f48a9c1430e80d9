-- The local node's numbers.
use Rattle.std.proofs.Common.{◌≡◌, ap, ◌∙◌, length, false, arith}
use Rattle.std.specs.Prelude.{nat_le}
use Rattle.std.proofs.lemmas.Bool.{lt-leb}
use Rattle.spec_node.specs.Record.{Node}
use Rattle.spec_node.specs.Step.{is_exhausted}
use Rattle.node_core.specs.CoreState.{CoreState}
use Rattle.node_rules.specs.EndpointLocal.{EndpointLocal}
use Rattle.node_endpoint.specs.declared.extended.Extended.{Extended}
use Rattle.node_endpoint.specs.EndpointState.{EndpointStands}
use Rattle.node_endpoint.specs.Parts.{endpoint_of}

-- the local node's numbers aren't used up
pub own_exhausted : (core : CoreState) (extended : Extended) (node : Node EndpointLocal)
    → EndpointStands (endpoint_of core extended) node → is_exhausted core.settings node core.me ≡ false
own_exhausted core extended node S =
    ap (λ requests. nat_le core.settings.last (length requests)) S.core.invariant_.own
    ∙ lt-leb core.settings.last 0 (omega (arith, S.core.range.last))
