-- What is read of a world is what its records give.
use Rattle.std.proofs.Common.{◌≡◌, ℕ, ◌+◌, ◌*◌, ◌<◌, List, length, get_or, Option, None, Some, refl, sym, ap, ◌∙◌}
use Rattle.std.proofs.Common.{subst, subst₂, arith, eq-eqb, ne_eqb}
use Rattle.std.specs.Prelude.{true, false, not, ◌≢◌, ◌==◌, Bool, IfSome, is_some, unwrap_or, if◌then◌else◌}
use Rattle.std.specs.List.{slice_get}
use Rattle.std.proofs.lemmas.Option.{slice_get_read, same_Some}
use Rattle.wire_message.specs.Parameters.{Parameters}
use Rattle.part_handlers.specs.declared.table.Entry.{Entry}
use Rattle.spec_node.specs.Record.{Request, Run, element_at}
use Rattle.node_rules.specs.EndpointRules.{Records}
use Rattle.sim_world.specs.ExchangesState.{ExchangesState}
use Rattle.node_endpoint.specs.EndpointState.{EndpointState, EndpointStands, IsTickTarget}
use Rattle.sim_world.specs.Sizes.{IsWorldSized}
use Rattle.sim_world.specs.WorldState.{WorldState}
use Rattle.sim_world.specs.Stands.{StandsForPair, WorldStands, IsWholeWorld}
use Rattle.sim_world.specs.Aims.{IsAimOfTick, aim_of, other_of}
use Rattle.spec_network.specs.Plain.{is_back}
use Rattle.sim_world.specs.declared.exchanges.Exchange.{Exchange}
use Rattle.sim_world.specs.declared.event.WorldEvent.TheVariants as world_event
use Rattle.sim_world.proofs.EventScopes.{pair_place}
use Rattle.sim_world.proofs.PairStands.{sent_is, none_sent}

-- the parts of a world
abbrev pub world_of : Parameters → List (Option Entry) → List EndpointState → List ExchangesState → List ℕ
    → WorldState
world_of s table es xs most =
    record { settings = s; table = table; endpoints = es; exchanges = xs; most = most }

-- a node's endpoint
pub endpoint_read : (s : Parameters) (table : List (Option Entry)) (v : WorldState) (es : List EndpointState)
    (xs : List ExchangesState) (most : List ℕ) (node : ℕ) (e : EndpointState)
    → world_of s table es xs most ≡ v → IsWorldSized s table es xs most → node < v.settings.nodes
    → e ≡ get_or es node e
    → (w : Records) (greatest : ℕ → ℕ) → WorldStands v w greatest → EndpointStands e (w node)
endpoint_read s table v es xs most node e view sized low read w greatest S =
    let it = S.endpoints node low in
    let within : node < length es = omega
    (arith, low, sized.endpoints_are, ap (λ (t : WorldState). t.settings.nodes) view) in
    let at = slice_get_read es (length es) node e refl within read in
    let same : it.0 ≡ e = same_Some _ _
    (sym it.1 ∙ (ap (λ (t : WorldState). slice_get t.endpoints node) (sym view) ∙ at)) in
    subst (λ (y : EndpointState). EndpointStands y (w node)) same it.3

-- a pair's exchanges
pub pair_read : (s : Parameters) (table : List (Option Entry)) (v : WorldState) (es : List EndpointState)
    (xs : List ExchangesState) (most : List ℕ) (i j place : ℕ) (x : ExchangesState)
    → world_of s table es xs most ≡ v → IsWorldSized s table es xs most → i < v.settings.nodes
    → j < v.settings.nodes → place ≡ i * s.nodes + j → x ≡ get_or xs place x
    → (w : Records) (greatest : ℕ → ℕ) → WorldStands v w greatest
    → StandsForPair x.list ((w i).asked j) ((w j).ran i)
pair_read s table v es xs most i j place x view sized i_in j_in is read w greatest S =
    let it = S.exchanges i j i_in j_in in
    let nodes : s.nodes ≡ v.settings.nodes = ap (λ (t : WorldState). t.settings.nodes) view in
    let within : place < length xs = subst₂ (λ p l. p < l) (sym is) (sym sized.exchanges_are)
    (pair_place s.nodes i j (omega (arith, i_in, nodes)) (omega (arith, j_in, nodes))) in
    let at = slice_get_read xs (length xs) place x refl within read in
    let there : slice_get v.exchanges (i * v.settings.nodes + j) ≡ Some x = ap (slice_get v.exchanges)
    (ap (λ n. i * n + j) (sym nodes) ∙ sym is)
    ∙ (ap (λ (t : WorldState). slice_get t.exchanges place) (sym view) ∙ at) in
    let same : record { list = it.0; room = it.1 } ≡ x = same_Some _ _ (sym it.2 ∙ there) in
    subst (λ (y : ExchangesState). StandsForPair y.list ((w i).asked j) ((w j).ran i))
    same it.3

-- a node's greatest number held
pub most_read : (s : Parameters) (table : List (Option Entry)) (v : WorldState) (es : List EndpointState)
    (xs : List ExchangesState) (most : List ℕ) (node m : ℕ)
    → world_of s table es xs most ≡ v → IsWorldSized s table es xs most → node < v.settings.nodes
    → m ≡ get_or most node m
    → (w : Records) (greatest : ℕ → ℕ) → WorldStands v w greatest → m ≡ greatest node
most_read s table v es xs most node m view sized low read w greatest S =
    let within : node < length most = omega
    (arith, low, sized.most_are, ap (λ (t : WorldState). t.settings.nodes) view) in
    let at = slice_get_read most (length most) node m refl within read in
    same_Some _ _ (sym (ap (λ (t : WorldState). slice_get t.most node) (sym view) ∙ at) ∙ S.most_is node low)

-- the other node of a tick's pair is the one to which it sends, if it does
other_is : (node to : ℕ) (target : Option ℕ) → to ≡ unwrap_or target node
    → ((t : ℕ) → target ≡ Some t → t ≢ node) → other_of node to ≡ target
other_is node to None is apart = ap (λ (b : Bool). if b then None else Some to) (eq-eqb node to (sym is))
other_is node to (Some t) is apart =
    ap (λ (b : Bool). if b then None else Some to) (ne_eqb node to (λ e. apart t refl (sym (e ∙ is)))) ∙ ap Some is

-- there is one where the two differ
pub other_there : (from to : ℕ) → is_some (other_of from to) ≡ not (from == to)
other_there from to = by_test (from == to)
  where
    by_test : (same : Bool) → is_some (if same then None else Some to) ≡ not same
    by_test true = refl
    by_test false = refl

-- where a tick falls, by the node to which its endpoint says that it sends
pub tick_aim : (inside v : WorldState) (now node : ℕ) (e : EndpointState) (target : Option ℕ) (to : ℕ)
    → inside ≡ v → IsWholeWorld inside → node < v.settings.nodes → e ≡ get_or inside.endpoints node e
    → IsTickTarget e now target → IfSome target (λ t. t < e.core.settings.nodes) → IfSome target (λ t. t ≢ e.core.me)
    → to ≡ unwrap_or target node
    → IsAimOfTick v now node (aim_of (world_event.Tick node) node to)
tick_aim inside v now node e target to view whole low read sends there other is =
    let within : node < length inside.endpoints = omega
    (arith, low, whole.sized.endpoints_are, ap (λ (t : WorldState). t.settings.nodes) view) in
    let at = slice_get_read inside.endpoints (length inside.endpoints) node e refl within read in
    let here : slice_get v.endpoints node ≡ Some e = ap (λ (t : WorldState). slice_get t.endpoints node) (sym view) ∙ at
    in
    let home = whole.sized.nodes node e at in
    let apart : (t : ℕ) → target ≡ Some t → t ≢ node = λ t t_is. subst (λ m. t ≢ m) home.me_is
    (some_holds target t (λ n. n ≢ e.core.me) t_is other) in
    subst (λ (o : Option ℕ). IsAimOfTick v now node (record { node = node; from = node; to = to; target = o }))
    (sym (other_is node to target is apart)) (record {
      node_is = refl;
      from_is = refl;
      to_is = is;
      there = λ t t_is. (
        omega (
          arith,
          some_holds target t (λ n. n < e.core.settings.nodes) t_is there,
          ap (λ (s : Parameters). s.nodes) home.settings_are,
          ap (λ (w : WorldState). w.settings.nodes) view,
        ),
        apart t t_is,
      );
      sends = λ d d_at. subst (λ (y : EndpointState). IsTickTarget y now target)
          (same_Some _ _ (sym here ∙ d_at)) sends;
    })
  where
    some_holds : (o : Option ℕ) (t : ℕ) (P : ℕ → Type 0) → o ≡ Some t → IfSome o P → P t
    some_holds (Some x) t P e h = subst P (same_Some _ _ e) h
    some_holds None t P e h = cc

-- whether a request is back, by its exchange
pub back_is : (list : List Exchange) (xs : List Request) (rs : List Run) (k : ℕ) (e : Exchange)
    → StandsForPair list xs rs → element_at list k ≡ Some e → e.back ≡ is_back (element_at xs k)
back_is list xs rs k e P at = let it = sent_is list xs rs k e P at in it.stands.back ∙ ap is_back (sym it.at)

-- what has no exchange isn't back
pub none_back : (list : List Exchange) (xs : List Request) (rs : List Run) (k : ℕ) → StandsForPair list xs rs
    → element_at list k ≡ None → false ≡ is_back (element_at xs k)
none_back list xs rs k P at = ap is_back (sym (none_sent list xs rs k P at))
