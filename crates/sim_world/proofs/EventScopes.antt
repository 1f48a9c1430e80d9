-- The scope of an event in a world that is read and written there.
use Rattle.std.proofs.Common.{◌≡◌, inl, inr, ℕ, ◌+◌, ◌*◌, ◌<◌, List, [], ◌∷◌, ◌++◌, length, length-set, set, get_or}
use Rattle.std.proofs.Common.{Option, take}
use Rattle.std.proofs.Common.{Some, refl, sym, ap, ◌∙◌, subst₂, arith, zero, suc}
use Rattle.std.specs.List.{slice_get}
use Rattle.std.proofs.lemmas.Option.{slice_get_read, slice_get_within, same_Some}
use Rattle.std.proofs.lemmas.Bool.{cases_eq}
use Rattle.wire_message.specs.Parameters.{Parameters}
use Rattle.part_handlers.specs.declared.table.Entry.{Entry}
use Rattle.node_core.specs.CoreContracts.{IsSameNode}
use Rattle.sim_world.specs.ExchangesState.{ExchangesState}
use Rattle.node_endpoint.specs.EndpointState.{EndpointState}
use Rattle.sim_world.specs.WorldState.{WorldState}
use Rattle.node_endpoint.specs.EndpointState.{IsNodeOf}
use Rattle.sim_world.specs.Sizes.{IsWorldSized}
use Rattle.sim_world.specs.EventScopes.{EventScope, ChangesOne}
use Rattle.sim_world.proofs.Standing.{Falls, get_set_same, get_set_other}

-- the place of a pair is among those of all pairs
pub pair_place : (n i j : ℕ) → i < n → j < n → i * n + j < n * n
pair_place n i j a b = grind (arith)

-- a list written whole, that has the length that it had
refilled : {X : Type 0} (new rest : List X) (len : ℕ) → length new ≡ len → take len (new ++ rest) ≡ new
refilled [] rest zero e = refl
refilled [] rest (suc len) e = absurd (omega (arith, e))
refilled (x ∷ new) rest zero e = absurd (omega (arith, e))
refilled {X = X} (x ∷ new) rest (suc len) e = ap (λ (ys : List X). x ∷ ys) (refilled new rest len (omega (arith, e)))

-- endpoints that are lent as a list and come back with one of them changed
pub changes_kept : (items lent back rest : List EndpointState) (len node at : ℕ) (was is : EndpointState)
    → lent ≡ items → length items ≡ len → node ≡ at → ChangesOne lent back node was is
    → ChangesOne items (take len (back ++ rest)) at was is
changes_kept items lent back rest len node at was is same count here C =
    let long : length back ≡ len = ap length C.changed
    ∙ (length-set lent node is ∙ (ap (λ (l : List EndpointState). length l) same ∙ count)) in
    subst₂ (λ (l : List EndpointState) (n : ℕ). ChangesOne l (take len (back ++ rest)) n was is) same here (record {
      there = C.there;
      changed = refilled back rest len long ∙ C.changed;
      same = C.same;
    })

-- a world where a scope is written
pub falls_at : (s : Parameters) (table : List (Option Entry)) (v z : WorldState) (es ends : List EndpointState)
    (xs : List ExchangesState) (most : List ℕ) (i j node at place : ℕ) (old new : EventScope)
    → record { settings = s; table = table; endpoints = es; exchanges = xs; most = most } ≡ v
    → IsWorldSized s table es xs most
    → i < v.settings.nodes → j < v.settings.nodes → node < v.settings.nodes → at ≡ node → place ≡ i * s.nodes + j
    → ChangesOne es ends at old.endpoint new.endpoint → old.exchanges ≡ get_or xs place old.exchanges
    → old.most ≡ get_or most at old.most
    → record {
      settings = s;
      table = table;
      endpoints = ends;
      exchanges = set xs place new.exchanges;
      most = set most at new.most;
    } ≡ z
    → Falls v z node (i * v.settings.nodes + j) old new
falls_at s table v z es ends xs most i j node at place old new view sized i_in j_in node_in at_is place_is C x_is m_is
    after =
    let settings : s ≡ v.settings = ap (λ (w : WorldState). w.settings) view in
    let nodes : s.nodes ≡ v.settings.nodes = ap (λ (t : Parameters). t.nodes) settings in
    let low : at < s.nodes = omega (arith, at_is, node_in, nodes) in
    let within : place < length xs = subst₂ (λ p l. p < l) (sym place_is) (sym sized.exchanges_are)
    (pair_place s.nodes i j (omega (arith, i_in, nodes)) (omega (arith, j_in, nodes))) in
    subst₂ (λ n p. Falls v z n p old new) at_is (place_is ∙ ap (λ n. i * n + j) nodes) (record {
      settings = sym (ap (λ (w : WorldState). w.settings) after) ∙ settings;
      table = sym (ap (λ (w : WorldState). w.table) after) ∙ ap (λ (w : WorldState). w.table) view;
      endpoint_was = ap (λ (w : WorldState). slice_get w.endpoints at) (sym view) ∙ C.there;
      exchanges_were =
          ap (λ (w : WorldState). slice_get w.exchanges place) (sym view)
          ∙ slice_get_read xs (length xs) place old.exchanges refl within x_is;
      most_was =
          ap (λ (w : WorldState). slice_get w.most at) (sym view)
          ∙ slice_get_read most (length most) at old.most refl (omega (arith, low, sized.most_are)) m_is;
      endpoints =
          ap (λ (w : WorldState). w.endpoints) (sym after)
          ∙ (C.changed ∙ ap (λ (w : WorldState). set w.endpoints at new.endpoint) view);
      exchanges =
          ap (λ (w : WorldState). w.exchanges) (sym after)
          ∙ ap (λ (w : WorldState). set w.exchanges place new.exchanges) view;
      most_is = ap (λ (w : WorldState). w.most) (sym after) ∙ ap (λ (w : WorldState). set w.most at new.most) view;
    })

-- the node of an endpoint that keeps its settings, its node and its table
pub node_kept : (s : Parameters) (table : List (Option Entry)) (i : ℕ) (e new : EndpointState) → IsNodeOf s table i e
    → IsSameNode e.core new.core → IsNodeOf s table i new
node_kept s table i e new N I =
    record { settings_are = I.settings ∙ N.settings_are; me_is = I.me_is ∙ N.me_is; table_is = I.table ∙ N.table_is }

-- the endpoints are those of the nodes still, where one is written that stays the same node's
pub nodes_after : (s : Parameters) (table : List (Option Entry)) (es : List EndpointState) (at : ℕ)
    (e new : EndpointState) → ((i : ℕ) (y : EndpointState) → slice_get es i ≡ Some y → IsNodeOf s table i y)
    → slice_get es at ≡ Some e → IsSameNode e.core new.core → (i : ℕ) (y : EndpointState)
    → slice_get (set es at new) i ≡ Some y → IsNodeOf s table i y
nodes_after s table es at e new S there same i y f = elim (cases_eq i at) [
  | inl h ↦ (
      let low : at < length es = omega (
        arith,
        length-set es at new,
        slice_get_within (set es at new) at y
            (ap (slice_get (set es at new)) (sym h) ∙ f),
      ) in
      let it = S at e there in
      let is : new ≡ y = same_Some _ _
      (sym (get_set_same es at new low) ∙ (ap (slice_get (set es at new)) (sym h) ∙ f)) in
      subst₂ (λ n z. IsNodeOf s table n z) (sym h) is (node_kept s table at e new it same))
  | inr h ↦ S i y (sym (get_set_other es at i new h) ∙ f)
]

-- the sizes are kept where the endpoint stays the same node's
pub sized_after : (s : Parameters) (table : List (Option Entry)) (es ends : List EndpointState)
    (xs : List ExchangesState) (most : List ℕ) (at place : ℕ) (e new : EndpointState) (x : ExchangesState) (m : ℕ)
    → IsWorldSized s table es xs most → ChangesOne es ends at e new
    → IsWorldSized s table ends (set xs place x) (set most at m)
sized_after s table es ends xs most at place e new x m S C = record {
  endpoints_are = ap length C.changed ∙ (length-set es at new ∙ S.endpoints_are);
  nodes =
      λ i y f. nodes_after s table es at e new S.nodes C.there C.same i y
      (ap (λ l. slice_get l i) (sym C.changed) ∙ f);
  exchanges_are = length-set xs place x ∙ S.exchanges_are;
  most_are = length-set most at m ∙ S.most_are;
}
