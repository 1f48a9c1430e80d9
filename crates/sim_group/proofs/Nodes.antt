-- How far the nodes of a group are, after one more is there or one of them did something.
use Rattle.std.proofs.Common.{◌≡◌, ℕ, ◌<◌, false, List, [], ◌∷◌, ◌++◌, length, get_or, Some, inl, inr, sym, ap, ◌∙◌}
use Rattle.std.proofs.Common.{◌+◌, subst, arith, length-append, length-set}
use Rattle.std.specs.Prelude.{◌≢◌, slice_get, slice_set}
use Rattle.std.proofs.Math.Path.{fun_ext}
use Rattle.std.proofs.lemmas.Bool.{cases_eq, cases_lt}
use Rattle.std.proofs.lemmas.List.{get_or-replicate, get_or_past, length-replicate}
use Rattle.std.proofs.lemmas.Option.{get_or_from_slice_get, same_Some}
use Rattle.base_lists.proofs.Places.{slice_get_there}
use Rattle.base_lists.proofs.Indexes.{get-set_same, get-set_other}
use Rattle.spec_node.proofs.Lists.{slice_get_push}
use Rattle.wire_message.specs.Parameters.{Parameters}
use Rattle.part_collective_area.specs.Area.{Area}
use Rattle.node_collectives.specs.Progress.{Progress, idle}
use Rattle.node_collectives.specs.CollectivesState.{CollectivesState, IsFresh, IsSameNode, has, no_nodes, progress_of}
use Rattle.sim_world.specs.WorldState.{WorldState}
use Rattle.sim_group.specs.GroupState.{AreAt, IsGroup}
use Rattle.sim_group.specs.Opening.{AreIdle}
use Rattle.sim_group.specs.Standing.{AreAsFar}

-- ---- nodes that are there

pub at_none : (settings : Parameters) → AreAt settings []
at_none settings node one is = absurd (cc)

-- the one at a place
pub at_place : (nodes : List CollectivesState) (place : ℕ) (one : CollectivesState) → place < length nodes
    → one ≡ get_or nodes place one → slice_get nodes place ≡ Some one
at_place nodes place one low is =
    let found = slice_get_there nodes place low in
    found.1 ∙ ap Some (sym (is ∙ get_or_from_slice_get nodes place found.0 one found.1))

-- one more
pub many_more : (nodes : List CollectivesState) (last : CollectivesState) (many : ℕ) → length nodes ≡ many
    → length (nodes ++ last ∷ []) ≡ many + 1
many_more nodes last many is = let whole = length-append nodes (last ∷ []) in omega (arith, whole, is)

-- one more, at the next place
pub at_more : (settings : Parameters) (nodes : List CollectivesState) (last : CollectivesState) → AreAt settings nodes
    → last.settings ≡ settings → last.me ≡ length nodes → AreAt settings (nodes ++ last ∷ [])
at_more settings nodes last all settings_are me_is node one is = elim (slice_get_push nodes last node one is) [
  | inl was ↦ all node one was
  | inr here ↦ (
    ap (λ (it : CollectivesState). it.settings) (sym here.1) ∙ settings_are,
    ap (λ (it : CollectivesState). it.me) (sym here.1) ∙ (me_is ∙ sym here.0),
  )
]

-- what is read at the place of one that did something
pub set_here : (nodes : List CollectivesState) (place node : ℕ) (new one : CollectivesState) → place < length nodes
    → node ≡ place → slice_get (slice_set nodes place new) node ≡ Some one → new ≡ one
set_here nodes place node new one low here is =
    same_Some new one
    (sym (get-set_same nodes place new low) ∙ (ap (slice_get (slice_set nodes place new)) (sym here) ∙ is))

-- one that did something, at its place
pub at_set : (settings : Parameters) (nodes : List CollectivesState) (place : ℕ) (old new : CollectivesState)
    → AreAt settings nodes → place < length nodes → slice_get nodes place ≡ Some old → IsSameNode old new
    → AreAt settings (slice_set nodes place new)
at_set settings nodes place old new all low was same node one is = elim (cases_eq node place) [
  | inl here ↦ (
      let found = set_here nodes place node new one low here is in
      let known = all place old was in (
        ap (λ (it : CollectivesState). it.settings) (sym found) ∙ (same.settings_are ∙ known.0),
        ap (λ (it : CollectivesState). it.me) (sym found) ∙ (same.me_is ∙ (known.1 ∙ sym here)),
      ))
  | inr apart ↦ all node one (sym (get-set_other nodes place new node apart) ∙ is)
]

-- so the nodes stay those of the world
pub group_set : (world next : WorldState) (nodes : List CollectivesState) (place : ℕ) (old new : CollectivesState)
    → IsGroup world nodes → next.settings ≡ world.settings → place < length nodes
    → slice_get nodes place ≡ Some old → IsSameNode old new → IsGroup next (slice_set nodes place new)
group_set world next nodes place old new is settings low was same = record {
  count = length-set nodes place new ∙ (is.count ∙ sym (ap (λ (s : Parameters). s.nodes) settings));
  at = subst (λ (s : Parameters). AreAt s (slice_set nodes place new)) (sym settings)
      (at_set world.settings nodes place old new is.at low was same);
}

-- ---- how far they are

-- no node is marked
pub none_has : has no_nodes ≡ (λ node. false)
none_has = fun_ext (λ node. elim (cases_lt node 256) [
  | inl low ↦ get_or-replicate 256 node false false low
  | inr past ↦ get_or_past no_nodes node false (omega (arith, past, length-replicate 256 false))
])

-- a node that has started nothing
pub fresh_idle : (settings : Parameters) (me base room : ℕ) (it : CollectivesState)
    → IsFresh settings me base room it → idle ≡ progress_of it
fresh_idle settings me base room it fresh =
    let sent : has it.sent ≡ (λ node. false) = ap has fresh.sent ∙ none_has in
    let exhausted : has it.exhausted ≡ (λ node. false) = ap has fresh.exhausted ∙ none_has in
    let same : progress_of it ≡ idle = λ i. record {
      started = fresh.started i;
      ended = fresh.ended i;
      shape = fresh.shape i;
      sent = sent i;
      exhausted = exhausted i;
    } in
    sym same

pub idle_none : (area : Area) → AreIdle area []
idle_none area node one is = absurd (cc)

pub idle_more : (area : Area) (nodes : List CollectivesState) (last : CollectivesState) → AreIdle area nodes
    → last.area ≡ area → idle ≡ progress_of last → AreIdle area (nodes ++ last ∷ [])
idle_more area nodes last all area_is idle_is node one is = elim (slice_get_push nodes last node one is) [
  | inl was ↦ all node one was
  | inr here ↦ (
    ap (λ (it : CollectivesState). it.area) (sym here.1) ∙ area_is,
    idle_is ∙ ap progress_of here.1,
  )
]

-- one that did something: the others are as far as before
pub far_set : (area : Area) (progress next : ℕ → Progress) (nodes : List CollectivesState) (place : ℕ)
    (new : CollectivesState) → AreAsFar area progress nodes → place < length nodes → new.area ≡ area
    → next place ≡ progress_of new → ((other : ℕ) → other ≢ place → next other ≡ progress other)
    → AreAsFar area next (slice_set nodes place new)
far_set area progress next nodes place new all low area_is far others node one is = elim (cases_eq node place) [
  | inl here ↦ (
      let found = set_here nodes place node new one low here is in (
        ap (λ (it : CollectivesState). it.area) (sym found) ∙ area_is,
        ap next here ∙ (far ∙ ap progress_of found),
      ))
  | inr apart ↦ (
      let known = all node one (sym (get-set_other nodes place new node apart) ∙ is) in
      (known.0, others node apart ∙ known.1))
]
