-- One slot more, and one peer more.
use Rattle.std.proofs.Common.{◌≡◌, ℕ, ◌+◌, refl, sym, ap, add-one}
use Rattle.wire_message.specs.Parameters.{Parameters}
use Rattle.node_rules.specs.EndpointLocal.{EndpointLocal}
use Rattle.base_lists.specs.Sums.{sum_below}
use Rattle.spec_node.specs.Record.{Node}
use Rattle.cli_check.specs.NodeReplays.{one_if_open, open_among, open_below}

module _ (settings : Parameters) (me : ℕ) (node : Node EndpointLocal) where
  pub none_below : (peer : ℕ) → 0 ≡ open_below settings me node peer 0
  unfolding open_below
  none_below peer = refl

  pub one_more : (peer slot : ℕ)
      → open_below settings me node peer slot + one_if_open settings me node peer slot
      ≡ open_below settings me node peer (slot + 1)
  unfolding open_below
  one_more peer slot = ap (sum_below (one_if_open settings me node peer)) (sym (add-one slot))

  pub none_among : 0 ≡ open_among settings me node 0
  unfolding open_among
  none_among = refl

  pub peer_more : (peer : ℕ)
      → open_among settings me node peer + open_below settings me node peer 32 ≡ open_among settings me node (peer + 1)
  unfolding open_among
  peer_more peer = ap (sum_below (λ one. open_below settings me node one 32)) (sym (add-one peer))
