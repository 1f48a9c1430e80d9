-- A new world stands for records that are empty.
use Rattle.std.proofs.Common.{◌≡◌, inl, inr, ℕ, ◌+◌, ◌*◌, ◌<◌, List, [], ◌∷◌, ◌++◌, length, replicate}
use Rattle.std.proofs.Common.{Option, sym, ap, ◌∙◌, subst, subst₂, arith}
use Rattle.std.specs.List.{slice_get}
use Rattle.std.proofs.lemmas.List.{length-replicate}
use Rattle.wire_message.specs.Parameters.{Parameters, AreInRange}
use Rattle.part_handlers.specs.declared.table.Entry.{Entry}
use Rattle.spec_node.specs.Record.{opening_node}
use Rattle.node_rules.specs.EndpointLocal.{nothing_begun, IsEndpointKept}
use Rattle.node_core.specs.ClientRules.{content_refusal}
use Rattle.spec_node.proofs.Lists.{slice_get_push, numbered_nil}
use Rattle.spec_node.proofs.Holding.{held_nothing}
use Rattle.node_rules.specs.EndpointRules.{at_the_opening}
use Rattle.sim_world.specs.ExchangesState.{ExchangesState}
use Rattle.node_endpoint.specs.EndpointState.{EndpointState, EndpointStands, IsNodeOf}
use Rattle.sim_world.specs.Sizes.{IsWorldSized, AreOpening, AreEmpty}
use Rattle.sim_world.specs.Stands.{WorldStands, StandsForPair, IsWholeWorld}
use Rattle.sim_world.specs.declared.exchanges.Exchange.{Exchange}
use Rattle.spec_network.proofs.Worlds.{opening_keeps}
use Rattle.sim_world.proofs.EventScopes.{pair_place}
use Rattle.node_rules.proofs.Kept.{opening_kept}
use Rattle.base_lists.proofs.Places.{slice_get_there, slice_get-replicate}

-- one endpoint more
pub opening_push : (s : Parameters) (table : List (Option Entry)) (es : List EndpointState) (e : EndpointState)
    → AreOpening s table es → IsNodeOf s table (length es) e → EndpointStands e (opening_node (nothing_begun s))
    → AreOpening s table (es ++ e ∷ [])
opening_push s table es e A N S i x at = elim (slice_get_push es e i x at) [
  | inl was ↦ A i x was
  | inr last ↦ subst₂ (λ (n : ℕ) (y : EndpointState). IsNodeOf s table n y × EndpointStands y
      (opening_node (nothing_begun s))) (sym last.0) last.1 (N, S)
]

-- no exchange of a pair that asked nothing
empty_pair : (list : List Exchange) → list ≡ [] → StandsForPair list [] []
empty_pair list e = record {
  count = ap length e;
  each = λ k x at. absurd (numbered_nil k x at);
}

-- the world of endpoints that are new, where no pair has exchanges
pub stands_opening : (s : Parameters) (table : List (Option Entry)) (es : List EndpointState)
    (xs : List ExchangesState) (most : List ℕ)
    → AreInRange s → length es ≡ s.nodes → AreOpening s table es → length xs ≡ s.nodes * s.nodes → AreEmpty xs
    → most ≡ replicate s.nodes 0
    → WorldStands (record { settings = s; table = table; endpoints = es; exchanges = xs; most = most })
    (at_the_opening s) (λ i. 0)
stands_opening s table es xs most range count A pairs E zeros = record {
  range = range;
  invariant_ =
      opening_keeps s (content_refusal s table) (IsEndpointKept s) (λ i. nothing_begun s) (λ i. opening_kept s i);
  endpoints =
      λ i low. let it = slice_get_there es i (omega (arith, low, count)) in let at = A i it.0 it.1 in
      (it.0, it.1, at.0, at.1);
  exchanges = λ i j i_in j_in.
      let it = slice_get_there xs (i * s.nodes + j)
      (subst (λ n. i * s.nodes + j < n) (sym pairs) (pair_place s.nodes i j i_in j_in)) in
      (it.0.list, it.0.room, it.1, empty_pair it.0.list (E (i * s.nodes + j) it.0 it.1));
  most_is = λ i low. ap (λ ms. slice_get ms i) zeros ∙ slice_get-replicate s.nodes i 0 low;
  held_le = λ i low. omega (arith, held_nothing s i (nothing_begun s));
  most_few = λ i low. omega arith;
}

-- and it has its sizes
pub sized_opening : (s : Parameters) (table : List (Option Entry)) (es : List EndpointState) (xs : List ExchangesState)
    (most : List ℕ) → length es ≡ s.nodes → AreOpening s table es → length xs ≡ s.nodes * s.nodes
    → most ≡ replicate s.nodes 0 → IsWorldSized s table es xs most
sized_opening s table es xs most count A pairs zeros = record {
  endpoints_are = count;
  nodes = λ i e at. (A i e at).0;
  exchanges_are = pairs;
  most_are = ap length zeros ∙ length-replicate s.nodes 0;
}

-- and so it is whole
pub whole_opening : (s : Parameters) (table : List (Option Entry)) (es : List EndpointState)
    (xs : List ExchangesState) (most : List ℕ)
    → AreInRange s → length es ≡ s.nodes → AreOpening s table es → length xs ≡ s.nodes * s.nodes → AreEmpty xs
    → most ≡ replicate s.nodes 0
    → IsWholeWorld (record { settings = s; table = table; endpoints = es; exchanges = xs; most = most })
whole_opening s table es xs most range count A pairs E zeros = record {
  sized = sized_opening s table es xs most count A pairs zeros;
  founded = record {
    records = at_the_opening s;
    most = λ i. 0;
    stands = stands_opening s table es xs most range count A pairs E zeros;
  };
}
