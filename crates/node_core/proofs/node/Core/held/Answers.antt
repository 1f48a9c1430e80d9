use Rattle.std.proofs.Common.{◌≡◌, ◌≤◌, ◌∙◌, ◌+◌, ap₂, subst, sym, ℕ}
use Rattle.spec_node.specs.Credits.{greatest_holding}
use Rattle.spec_node.specs.Record.{Node}
use Rattle.spec_node.specs.Held.{held_buffers}
use Rattle.node_core.specs.Kept.{Local}
use Rattle.node_core.specs.CoreState.{CoreState}
use Rattle.node_core.specs.Stands.{CoreStands}
use Rattle.node_core.proofs.Bounds.{holds_few}
use Rattle.node_core.proofs.Counts.{held_is}
use Rattle.node_core.proofs.node.Core.held.Goals as goal

pub returns : goal.returns
returns c =
    let is =
    subst (λ (e : CoreState). (node : Node Local) → CoreStands e node
    → c.held.result + c.held-2.result ≡ held_buffers e.settings e.me node) c.self.view_is
    (λ node stands. ap₂ (λ (m n : ℕ). m + n) c.held.ensures.count c.held-2.ensures.count
    ∙ held_is _ node stands c.self.invariant.0)
    in
    record {
      is = is;
      few = λ node stands.
          subst (λ (count : ℕ). count ≤ greatest_holding c.args.self.now.settings c.args.self.now.me)
          (sym (is node stands)) (holds_few c.args.self.now node stands);
    }
