-- A world whose one scope changed stands for the records' next state.
use Rattle.std.proofs.Common.{◌≡◌, ◌≢◌, inl, inr, ℕ, zero, suc, ◌+◌, ◌*◌, ◌/◌, ◌%◌, ◌<◌, ◌≤◌, max, List, [], ◌∷◌}
use Rattle.std.proofs.Common.{length, set, Option, Some, refl, sym, ap, ap₂, ◌∙◌, subst, subst₂, arith}
use Rattle.std.specs.List.{slice_get}
use Rattle.std.proofs.lemmas.Bool.{cases_eq}
use Rattle.std.proofs.lemmas.Option.{same_Some, slice_get_within}
use Rattle.std.proofs.lemmas.Nat.{div-mul-add, mod-mul-add}
use Rattle.wire_message.specs.Parameters.{Parameters}
use Rattle.part_handlers.specs.declared.table.Entry.{Entry}
use Rattle.spec_node.specs.Record.{Request, Run, Node}
use Rattle.spec_node.specs.Step.{put}
use Rattle.spec_node.specs.Held.{held_buffers}
use Rattle.node_rules.specs.EndpointLocal.{EndpointLocal, IsEndpointKept}
use Rattle.node_core.specs.ClientRules.{content_refusal}
use Rattle.spec_node.proofs.Puts.{put_same, put_other}
use Rattle.spec_network.specs.MostHeld.{most_then}
use Rattle.spec_network.specs.Invariant.{WorldInvariant}
use Rattle.spec_node.specs.Credits.{greatest_holding}
use Rattle.node_rules.specs.EndpointRules.{Records}
use Rattle.sim_world.specs.ExchangesState.{ExchangesState}
use Rattle.node_endpoint.specs.EndpointState.{EndpointStands}
use Rattle.node_endpoint.specs.EndpointState.{IsNodeOf}
use Rattle.sim_world.specs.WorldState.{WorldState}
use Rattle.sim_world.specs.EventScopes.{EventScope, IsSame}
use Rattle.sim_world.specs.Stands.{StandsForPair, WorldStands}
use Rattle.sim_world.specs.declared.exchanges.Exchange.{Exchange}
use Rattle.spec_network.proofs.Laws.{holding_few as few_records}

-- ---- places

-- a place that was written
pub get_set_same : {X : Type 0} (xs : List X) (i : ℕ) (x : X) → i < length xs → slice_get (set xs i x) i ≡ Some x
get_set_same [] i x l = absurd (omega arith)
get_set_same (y ∷ xs) zero x l = refl
get_set_same (y ∷ xs) (suc i) x l = get_set_same xs i x (omega arith)

-- each other place
pub get_set_other : {X : Type 0} (xs : List X) (i j : ℕ) (x : X) → j ≢ i → slice_get (set xs i x) j ≡ slice_get xs j
get_set_other [] i j x n = refl
get_set_other (y ∷ xs) zero zero x n = absurd (n refl)
get_set_other (y ∷ xs) zero (suc j) x n = refl
get_set_other (y ∷ xs) (suc i) zero x n = refl
get_set_other (y ∷ xs) (suc i) (suc j) x n = get_set_other xs i j x (λ e. n (ap suc e))

-- the places of two pairs of nodes are equal only where the pairs are
same_place : (n i j k l : ℕ) → j < n → l < n → i * n + j ≡ k * n + l → (i ≡ k) × (j ≡ l)
same_place n i j k l a b e = (
  sym (div-mul-add i n j a) ∙ (ap (λ q. q / n) e ∙ div-mul-add k n l b),
  sym (mod-mul-add i n j a)
      ∙ (ap (λ q. q % n) e ∙ mod-mul-add k n l b),
)

-- ---- the scope of an event

-- the world z is v but for the scope of an event at that node, and at that place among the pairs
pub record Falls (v z : WorldState) (node place : ℕ) (old new : EventScope) : Type 0 where
  pub settings : z.settings ≡ v.settings
  pub table : z.table ≡ v.table
  pub endpoint_was : slice_get v.endpoints node ≡ Some old.endpoint
  pub exchanges_were : slice_get v.exchanges place ≡ Some old.exchanges
  pub most_was : slice_get v.most node ≡ Some old.most
  pub endpoints : z.endpoints ≡ set v.endpoints node new.endpoint
  pub exchanges : z.exchanges ≡ set v.exchanges place new.exchanges
  pub most_is : z.most ≡ set v.most node new.most

-- what was written at a place is there
set_here : {X : Type 0} (xs ys : List X) (i : ℕ) (x y : X) → slice_get xs i ≡ Some x → ys ≡ set xs i y
    → slice_get ys i ≡ Some y
set_here xs ys i x y was is = ap (λ zs. slice_get zs i) is ∙ get_set_same xs i y (slice_get_within xs i x was)

-- what was at another place is there
set_there : {X : Type 0} (xs ys : List X) (i j : ℕ) (y : X) → ys ≡ set xs i y → j ≢ i → slice_get ys j ≡ slice_get xs j
set_there xs ys i j y is other = ap (λ zs. slice_get zs j) is ∙ get_set_other xs i j y other

-- ---- what is sent

-- what an event sends stands at the place of the pair (a, b), and every other pair's messages stand still
pub record Sends (w z : Records) (a b : ℕ) (new : EventScope) : Type 0 where
  pub pair : StandsForPair new.exchanges.list ((z a).asked b) ((z b).ran a)
  pub others : (c d : ℕ) → ((c ≡ a) × (d ≡ b) → ⊥) → (list : List Exchange)
      → StandsForPair list ((w c).asked d) ((w d).ran c)
      → StandsForPair list ((z c).asked d) ((z d).ran c)

-- the records changed at one node alone, in what it asked of one peer
pub only_asked : (w : Records) (i : ℕ) (x : Node EndpointLocal) (j : ℕ) (xs : List Request)
    → x.asked ≡ put (w i).asked j xs → x.ran ≡ (w i).ran
    → (c d : ℕ) → ((c ≡ i) × (d ≡ j) → ⊥) → (list : List Exchange)
    → StandsForPair list ((w c).asked d) ((w d).ran c)
    → StandsForPair list ((put w i x c).asked d) ((put w i x d).ran c)
only_asked w i x j xs asks runs c d other list P =
    subst₂ (λ A R. StandsForPair list A R) (sym asked_there) (sym ran_there) P
  where
    asked_there : (put w i x c).asked d ≡ (w c).asked d
    asked_there = elim (cases_eq c i) [
      | inl e ↦ elim (cases_eq d j) [
        | inl f ↦ absurd (other (e, f))
        | inr f ↦ ap (λ n. (put w i x n).asked d) e
            ∙ (ap (λ (r : Node EndpointLocal). r.asked d) (put_same w i x)
            ∙ (ap (λ g. g d) asks ∙ (put_other (w i).asked j xs d f ∙ ap (λ n. (w n).asked d) (sym e))))
      ]
      | inr e ↦ ap (λ (r : Node EndpointLocal). r.asked d) (put_other w i x c e)
    ]

    ran_there : (put w i x d).ran c ≡ (w d).ran c
    ran_there = elim (cases_eq d i) [
      | inl e ↦ ap (λ n. (put w i x n).ran c) e
          ∙ (ap (λ (r : Node EndpointLocal). r.ran c) (put_same w i x)
          ∙ (ap (λ g. g c) runs ∙ ap (λ n. (w n).ran c) (sym e)))
      | inr e ↦ ap (λ (r : Node EndpointLocal). r.ran c) (put_other w i x d e)
    ]

-- the records changed at one node alone, in what it ran of one peer
pub only_ran : (w : Records) (i : ℕ) (x : Node EndpointLocal) (j : ℕ) (rs : List Run) → x.asked ≡ (w i).asked
    → x.ran ≡ put (w i).ran j rs
    → (c d : ℕ) → ((c ≡ j) × (d ≡ i) → ⊥) → (list : List Exchange)
    → StandsForPair list ((w c).asked d) ((w d).ran c)
    → StandsForPair list ((put w i x c).asked d) ((put w i x d).ran c)
only_ran w i x j rs asks runs c d other list P =
    subst₂ (λ A R. StandsForPair list A R) (sym asked_there) (sym ran_there) P
  where
    asked_there : (put w i x c).asked d ≡ (w c).asked d
    asked_there = elim (cases_eq c i) [
      | inl e ↦ ap (λ n. (put w i x n).asked d) e
          ∙ (ap (λ (r : Node EndpointLocal). r.asked d) (put_same w i x)
          ∙ (ap (λ g. g d) asks ∙ ap (λ n. (w n).asked d) (sym e)))
      | inr e ↦ ap (λ (r : Node EndpointLocal). r.asked d) (put_other w i x c e)
    ]

    ran_there : (put w i x d).ran c ≡ (w d).ran c
    ran_there = elim (cases_eq d i) [
      | inl e ↦ elim (cases_eq c j) [
        | inl f ↦ absurd (other (f, e))
        | inr f ↦ ap (λ n. (put w i x n).ran c) e
            ∙ (ap (λ (r : Node EndpointLocal). r.ran c) (put_same w i x)
            ∙ (ap (λ g. g c) runs ∙ (put_other (w i).ran j rs c f ∙ ap (λ n. (w n).ran c) (sym e))))
      ]
      | inr e ↦ ap (λ (r : Node EndpointLocal). r.ran c) (put_other w i x d e)
    ]

-- the node x stands for its exchanges where the node r did: it ran the same, and what it asked has the same messages
pub record IsQuiet (r x : Node EndpointLocal) : Type 0 where
  pub asked : (peer : ℕ) (list : List Exchange) (rs : List Run)
      → StandsForPair list (r.asked peer) rs → StandsForPair list (x.asked peer) rs
  pub ran : x.ran ≡ r.ran

-- every pair stands still
pub quiet_pairs : (w : Records) (i : ℕ) (x : Node EndpointLocal) → IsQuiet (w i) x
    → (c d : ℕ) (list : List Exchange) → StandsForPair list ((w c).asked d) ((w d).ran c)
    → StandsForPair list ((put w i x c).asked d) ((put w i x d).ran c)
quiet_pairs w i x Q c d list P =
    subst (λ R. StandsForPair list ((put w i x c).asked d) R) (sym ran_there) (elim (cases_eq c i) [
      | inl e ↦ subst (λ n. StandsForPair list ((put w i x n).asked d) ((w d).ran n)) (sym e)
          (subst (λ (r : Node EndpointLocal). StandsForPair list (r.asked d) ((w d).ran i)) (sym (put_same w i x))
          (Q.asked d list ((w d).ran i)
          (subst (λ n. StandsForPair list ((w n).asked d) ((w d).ran n)) e P)))
      | inr e ↦ subst (λ (r : Node EndpointLocal). StandsForPair list (r.asked d) ((w d).ran c))
          (sym (put_other w i x c e)) P
    ])
  where
    ran_there : (put w i x d).ran c ≡ (w d).ran c
    ran_there = elim (cases_eq d i) [
      | inl e ↦ ap (λ n. (put w i x n).ran c) e
          ∙ (ap (λ (r : Node EndpointLocal). r.ran c) (put_same w i x)
          ∙ (ap (λ g. g c) Q.ran ∙ ap (λ n. (w n).ran c) (sym e)))
      | inr e ↦ ap (λ (r : Node EndpointLocal). r.ran c) (put_other w i x d e)
    ]

-- ---- what stands

-- what changed at a node
pub record Moves (v : WorldState) (w : Records) (most : ℕ → ℕ) (i : ℕ) (x : Node EndpointLocal) (new : EventScope) : Type 0
  where
    pub invariant_ : WorldInvariant v.settings (content_refusal v.settings v.table) (IsEndpointKept v.settings)
        (put w i x)
    pub node : IsNodeOf v.settings v.table i new.endpoint
    pub stands : EndpointStands new.endpoint x
    pub most_is : new.most ≡ max (most i) (held_buffers v.settings i x)

-- a world of the same settings and table, by its other parts
with_settings : (v z : WorldState) (w : Records) (most : ℕ → ℕ) → z.settings ≡ v.settings → z.table ≡ v.table
    → WorldStands (record z { settings = v.settings; table = v.table }) w most → WorldStands z w most
with_settings v z w most e f S =
    subst (λ (t : WorldState). WorldStands t w most)
    (ap₂ (λ (s : Parameters) (t : List (Option Entry)). record z { settings = s; table = t }) (sym e) (sym f)) S

-- what was the greatest is so still
pub max_same : (a b : ℕ) → b ≤ a → a ≡ max a b
max_same a b le = omega arith

-- the greater of two isn't above what neither is above
max_few : (a b c : ℕ) → a ≤ c → b ≤ c → max a b ≤ c
max_few a b c low few = omega arith

-- the world stands where one node changed, and what it sent stands
pub moves_stand : (v z : WorldState) (w : Records) (most : ℕ → ℕ) (i a b : ℕ) (x : Node EndpointLocal) (old new : EventScope)
    → WorldStands v w most → b < v.settings.nodes → Falls v z i (a * v.settings.nodes + b) old new
    → Moves v w most i x new
    → Sends w (put w i x) a b new
    → WorldStands z (put w i x) (most_then v.settings (put w i x) most)
moves_stand v z w most i a b x old new S b_in F M A =
    let s = v.settings in
    let w' = put w i x in
    with_settings v z w' (most_then s w' most) F.settings F.table (record {
      range = S.range;
      invariant_ = M.invariant_;
      endpoints = λ k low. elim (cases_eq k i) [
        | inl e ↦ (
          new.endpoint,
          ap (slice_get z.endpoints) e
              ∙ set_here v.endpoints z.endpoints i old.endpoint new.endpoint F.endpoint_was F.endpoints,
          subst (λ n. IsNodeOf s v.table n new.endpoint) (sym e) M.node,
          subst (λ n. EndpointStands new.endpoint (put w i x n)) (sym e)
              (subst (λ (r : Node EndpointLocal). EndpointStands new.endpoint r) (sym (put_same w i x)) M.stands),
        )
        | inr e ↦ (let it = S.endpoints k low in (
          it.0,
          set_there v.endpoints z.endpoints i k new.endpoint F.endpoints e
              ∙ it.1,
          it.2,
          subst (λ (r : Node EndpointLocal). EndpointStands it.0 r) (sym (put_other w i x k e)) it.3,
        ))
      ];
      exchanges = λ c d c_in d_in. elim (cases_eq (c * s.nodes + d) (a * s.nodes + b)) [
        | inl e ↦ (let at = same_place s.nodes c d a b d_in b_in e in (
          new.exchanges.list,
          new.exchanges.room,
          ap (slice_get z.exchanges) e
              ∙ set_here v.exchanges z.exchanges (a * s.nodes + b) old.exchanges new.exchanges F.exchanges_were
              F.exchanges,
          subst₂ (λ p q. StandsForPair new.exchanges.list ((put w i x p).asked q) ((put w i x q).ran p)) (sym at.0)
              (sym at.1) A.pair,
        ))
        | inr e ↦ (let it = S.exchanges c d c_in d_in in (
          it.0,
          it.1,
          set_there v.exchanges z.exchanges (a * s.nodes + b) (c * s.nodes + d) new.exchanges F.exchanges e ∙ it.2,
          A.others c d (λ at. e (ap₂ (λ p q. p * s.nodes + q) at.0 at.1)) it.0 it.3,
        ))
      ];
      most_is = λ k low. elim (cases_eq k i) [
        | inl e ↦ (
            ap (slice_get z.most) e
            ∙ (set_here v.most z.most i old.most new.most F.most_was F.most_is
            ∙ ap Some (M.most_is
            ∙ (ap (λ (r : Node EndpointLocal). max (most i) (held_buffers s i r)) (sym (put_same w i x))
            ∙ ap (λ n. max (most n) (held_buffers s n (put w i x n))) (sym e)))))
        | inr e ↦ set_there v.most z.most i k new.most F.most_is e
            ∙ (S.most_is k low ∙ ap Some
            (max_same (most k) (held_buffers s k (w k)) (S.held_le k low)
            ∙ ap (λ (r : Node EndpointLocal). max (most k) (held_buffers s k r)) (sym (put_other w i x k e))))
      ];
      held_le = λ k low. omega arith;
      most_few =
          λ k low. max_few (most k) (held_buffers s k (w' k)) (greatest_holding s k) (S.most_few k low)
          (few_records s (content_refusal v.settings v.table) (IsEndpointKept v.settings) w' M.invariant_ k);
    })

-- ---- nothing changed

-- the same, where only the room changed
pub same_stands : (v z : WorldState) (w : Records) (most : ℕ → ℕ) (node place : ℕ) (old new : EventScope)
    → WorldStands v w most
    → Falls v z node place old new → IsSame old new → WorldStands z w most
same_stands v z w most node place old new S F I =
    let s = v.settings in
    with_settings v z w most F.settings F.table (record {
      range = S.range;
      invariant_ = S.invariant_;
      endpoints =
          λ k low. let it = S.endpoints k low in (
            it.0,
            as_before v.endpoints z.endpoints node k old.endpoint new.endpoint F.endpoint_was F.endpoints
                I.endpoint ∙ it.1,
            it.2,
            it.3,
          );
      exchanges = λ c d c_in d_in. let it = S.exchanges c d c_in d_in in elim (cases_eq (c * s.nodes + d) place) [
        | inl e ↦ (let was : old.exchanges ≡ record { list = it.0; room = it.1 } = same_Some _ _
            (sym F.exchanges_were ∙ (ap (slice_get v.exchanges) (sym e) ∙ it.2)) in (
              new.exchanges.list,
              new.exchanges.room,
              ap (slice_get z.exchanges) e
                  ∙ set_here v.exchanges z.exchanges place old.exchanges new.exchanges F.exchanges_were F.exchanges,
              subst (λ l. StandsForPair l ((w c).asked d) ((w d).ran c))
                  (sym (I.list ∙ ap (λ (x : ExchangesState). x.list) was)) it.3,
            ))
        | inr e ↦ (
          it.0,
          it.1,
          set_there v.exchanges z.exchanges place (c * s.nodes + d) new.exchanges F.exchanges e ∙ it.2,
          it.3,
        )
      ];
      most_is =
          λ k low. as_before v.most z.most node k old.most new.most F.most_was F.most_is I.most_is ∙ S.most_is k low;
      held_le = S.held_le;
      most_few = S.most_few;
    })
  where
    as_before : {X : Type 0} (xs ys : List X) (i k : ℕ) (x y : X) → slice_get xs i ≡ Some x → ys ≡ set xs i y → y ≡ x
        → slice_get ys k ≡ slice_get xs k
    as_before xs ys i k x y was is same = elim (cases_eq k i) [
      | inl e ↦ ap (slice_get ys) e
          ∙ (set_here xs ys i x y was is ∙ (ap Some same ∙ (sym was ∙ ap (slice_get xs) (sym e))))
      | inr e ↦ set_there xs ys i k y is e
    ]

-- after an event that changed no record
pub still_stands : (z : WorldState) (s : Parameters) (w : Records) (most : ℕ → ℕ) → z.settings ≡ s
    → WorldStands z w most
    → WorldStands z w (most_then s w most)
still_stands z s w most e S = record {
  range = S.range;
  invariant_ = S.invariant_;
  endpoints = S.endpoints;
  exchanges = S.exchanges;
  most_is =
      λ k low. S.most_is k low
      ∙ ap Some (max_same (most k) (held_buffers s k (w k)) (subst (λ t. held_buffers t k (w k) ≤ most k) e (S.held_le k low)));
  held_le = λ k low. omega (arith, S.held_le k low);
  most_few =
      λ k low. subst (λ m. m ≤ greatest_holding z.settings k)
      (max_same (most k) (held_buffers s k (w k)) (subst (λ t. held_buffers t k (w k) ≤ most k) e (S.held_le k low)))
      (S.most_few k low);
}
