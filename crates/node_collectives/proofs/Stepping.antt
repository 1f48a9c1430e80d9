-- Nodes that are asked one after another.
use Rattle.std.proofs.Common.{◌≡◌, ℤ, ℕ, suc, ◌+◌, ◌-◌, ◌%◌, ◌<◌, List, Bool, true, false, Option, Some, None, refl, sym, ap}
use Rattle.std.proofs.Common.{◌∙◌, length, subst, arith}
use Rattle.std.proofs.lemmas.Bool.{lt-ltb}
use Rattle.wire_message.specs.Parameters.{Parameters}
use Rattle.spec_node.specs.Behaviour.{PayloadFrom}
use Rattle.node_core.specs.ClientRules.{long_asking}
use Rattle.node_rules.specs.Called.{Requests}
use Rattle.node_endpoint.specs.Sites.{IsThere, Site, ThreadCall}
use Rattle.part_collective_area.specs.Area.{data_place}
use Rattle.part_collective_area.specs.Served.{collective_handler, header_arguments}
use Rattle.part_collective_area.specs.Shapes.{shape_word}
use Rattle.node_endpoint.specs.declared.caller.Caller.{Ghosts}
use Rattle.node_collectives.specs.declared.answers.StepAnswer.{StepAnswer}
use Rattle.node_collectives.specs.declared.answers.StepAnswer.TheVariants as step_answers
use Rattle.node_collectives.specs.Progress.{is_left, is_open}
use Rattle.node_collectives.specs.CollectivesState.{CollectivesState, Stands, progress_of}
use Rattle.node_collectives.specs.Steps.{Rests, Sends, Steps, StepsFrom, payload_for, step_call}

-- the call that is made is that of the step
pub step_call_is : (it : CollectivesState) (thread to offset : ℕ) (payload : PayloadFrom) (args : List ℤ)
    → args ≡ header_arguments (it.ended + 1) (shape_word it.shape) → payload ≡ payload_for it to offset
    → offset ≡ data_place it.area (it.ended % 2) it.me
    → ◌≡◌ {A = ThreadCall}
    (record { thread = thread; call = Requests to (long_asking collective_handler args payload offset) })
    (step_call it thread to)
step_call_is it thread to offset payload args args_are payload_is offset_is = cc

-- what holds where the nodes below this one are done: what the rest of the step does from here is what the whole step
-- does from its beginning
pub record Going {K : Type 0} (caller : Ghosts K) (thread : ℕ) (first : CollectivesState) (old : K) (to : ℕ)
    (it : CollectivesState) (now : K) : Type 0 where
  pub site : caller.site now ≡ caller.site old
  pub reference : caller.lent now ≡ caller.lent old
  pub settings : it.settings ≡ first.settings
  pub me : it.me ≡ first.me
  pub area : it.area ≡ first.area
  pub opened : it.ended < it.started
  pub rest : (answer : StepAnswer) (next : CollectivesState) (new : K)
      → StepsFrom caller thread to (first.area.nodes - to) it now answer next new
      → StepsFrom caller thread 0 first.area.nodes first old answer next new

pub going_first : {K : Type 0} (caller : Ghosts K) (thread : ℕ) (it : CollectivesState) (old : K)
    → it.ended < it.started → Going caller thread it old 0 it old
going_first caller thread it old opened = record {
  site = refl;
  reference = refl;
  settings = refl;
  me = refl;
  area = refl;
  opened = opened;
  rest = λ answer next new steps.
      let all : it.area.nodes - 0 ≡ it.area.nodes = omega arith in
      subst (λ (many : ℕ). StepsFrom caller thread 0 many it old answer next new) all steps;
}

-- what a step does from this node on, by whether the node is left
abbrev AsksOrPasses : {K : Type 0} → (caller : Ghosts K) → (thread to many : ℕ) → CollectivesState → K → StepAnswer
    → CollectivesState → K → (left : Bool) → Type 0
AsksOrPasses {K} caller thread to many it old answer next new left = elim left [
  | false ↦ StepsFrom caller thread (suc to) many it old answer next new
  | true ↦ (stop : Option StepAnswer) × (after : CollectivesState) × (between : K)
      × Sends caller thread to it old stop after between
      × (elim stop [
        | Some end ↦ Rests after between end answer next new
        | None ↦ StepsFrom caller thread (suc to) many after between answer next new
      ])
]

counted : (node nodes : ℕ) → node < nodes → nodes - node ≡ suc (nodes - (node + 1))
counted node nodes low = omega (arith, low)

next_is : (node : ℕ) → suc node ≡ node + 1
next_is node = omega arith

-- the node isn't left, and is passed
pub going_past : {K : Type 0} (caller : Ghosts K) (thread : ℕ) (first : CollectivesState) (old : K) (to : ℕ)
    (it : CollectivesState) (now : K) → Going caller thread first old to it now → to < first.area.nodes
    → is_left it.me to (progress_of it) ≡ false → Going caller thread first old (to + 1) it now
going_past {K} caller thread first old to it now going low is = record {
  site = going.site;
  reference = going.reference;
  settings = going.settings;
  me = going.me;
  area = going.area;
  opened = going.opened;
  rest = λ answer next new steps.
      let rest = first.area.nodes - (to + 1) in
      let here : StepsFrom caller thread (suc to) rest it now answer next new =
      subst (λ (at : ℕ). StepsFrom caller thread at rest it now answer next new) (sym (next_is to)) steps in
      let whole : StepsFrom caller thread to (suc rest) it now answer next new =
      subst (AsksOrPasses caller thread to rest it now answer next new) (sym is) here in
      going.rest answer next new
      (subst (λ (many : ℕ). StepsFrom caller thread to many it now answer next new)
      (sym (counted to first.area.nodes low)) whole);
}

-- the node was asked, and the step goes on
pub going_on : {K : Type 0} (caller : Ghosts K) (thread : ℕ) (first : CollectivesState) (old : K) (to : ℕ)
    (it : CollectivesState) (now : K) (stop : Option StepAnswer) (after : CollectivesState) (between : K)
    → Going caller thread first old to it now → to < first.area.nodes → is_left it.me to (progress_of it) ≡ true
    → Sends caller thread to it now stop after between → stop ≡ None
    → Going caller thread first old (to + 1) after between
going_on {K} caller thread first old to it now stop after between going low is sends none = record {
  site = sends.called.site ∙ going.site;
  reference = sends.called.reference ∙ going.reference;
  settings = ap (λ (one : CollectivesState). one.settings) sends.next_is ∙ going.settings;
  me = ap (λ (one : CollectivesState). one.me) sends.next_is ∙ going.me;
  area = ap (λ (one : CollectivesState). one.area) sends.next_is ∙ going.area;
  opened = subst (λ (one : CollectivesState). one.ended < one.started) (sym sends.next_is) going.opened;
  rest = λ answer next new steps.
      let rest = first.area.nodes - (to + 1) in
      let here : StepsFrom caller thread (suc to) rest after between answer next new =
      subst (λ (at : ℕ). StepsFrom caller thread at rest after between answer next new) (sym (next_is to)) steps in
      let on : Sends caller thread to it now None after between =
      subst (λ (one : Option StepAnswer). Sends caller thread to it now one after between) none sends in
      let whole : StepsFrom caller thread to (suc rest) it now answer next new =
      subst (AsksOrPasses caller thread to rest it now answer next new) (sym is) (None, after, between, on, here) in
      going.rest answer next new
      (subst (λ (many : ℕ). StepsFrom caller thread to many it now answer next new)
      (sym (counted to first.area.nodes low)) whole);
}

-- the node was asked, and the step ends
pub going_ends : {K : Type 0} (caller : Ghosts K) (thread : ℕ) (first : CollectivesState) (old : K) (to : ℕ)
    (it : CollectivesState) (now : K) (stop : Option StepAnswer) (end : StepAnswer) (after : CollectivesState)
    (between : K)
    → Going caller thread first old to it now → to < first.area.nodes → is_left it.me to (progress_of it) ≡ true
    → Sends caller thread to it now stop after between → stop ≡ Some end
    → StepsFrom caller thread 0 first.area.nodes first old end after between
going_ends caller thread first old to it now stop end after between going low is sends some =
    let rest = first.area.nodes - (to + 1) in
    let on : Sends caller thread to it now (Some end) after between =
    subst (λ (one : Option StepAnswer). Sends caller thread to it now one after between) some sends in
    let rests : Rests after between end end after between =
    record { answer_is = refl; next_is = refl; same = refl } in
    let whole : StepsFrom caller thread to (suc rest) it now end after between =
    subst (AsksOrPasses caller thread to rest it now end after between) (sym is)
    (Some end, after, between, on, rests) in
    going.rest end after between
    (subst (λ (many : ℕ). StepsFrom caller thread to many it now end after between)
    (sym (counted to first.area.nodes low)) whole)

-- no node is left
pub going_none : {K : Type 0} (caller : Ghosts K) (thread : ℕ) (first : CollectivesState) (old : K) (to : ℕ)
    (it : CollectivesState) (now : K) → Going caller thread first old to it now → first.area.nodes - to ≡ 0
    → StepsFrom caller thread 0 first.area.nodes first old step_answers.Nothing it now
going_none caller thread first old to it now going none =
    let rests : StepsFrom caller thread to 0 it now step_answers.Nothing it now =
    record { answer_is = refl; next_is = refl; same = refl } in
    going.rest step_answers.Nothing it now
    (subst (λ (many : ℕ). StepsFrom caller thread to many it now step_answers.Nothing it now) (sym none) rests)

-- it is the step of a node with an open phase
pub steps_open : {K : Type 0} (caller : Ghosts K) (thread : ℕ) (it : CollectivesState) (old : K) (answer : StepAnswer)
    (next : CollectivesState) (new : K) → it.ended < it.started
    → StepsFrom caller thread 0 it.area.nodes it old answer next new → Steps caller thread it old answer next new
steps_open caller thread it old answer next new opened steps =
    let P : Bool → Type 0 = λ (open_now : Bool). elim open_now [
      | true ↦ StepsFrom caller thread 0 it.area.nodes it old answer next new
      | false ↦ Rests it old step_answers.Nothing answer next new
    ] in
    subst P (sym (lt-ltb it.ended it.started opened)) steps

-- the node is there
pub there_of : (it : CollectivesState) (site : Site) → Stands it → it.settings ≡ site.settings → it.me ≡ site.node
    → IsThere site
there_of it site good settings me =
    let nodes = ap (λ (one : Parameters). one.nodes) settings in
    let there = good.there in
    omega (arith, nodes, there, me)

-- it is the step of a node without one
pub steps_closed : {K : Type 0} (caller : Ghosts K) (thread : ℕ) (it : CollectivesState) (old : K)
    → is_open (progress_of it) ≡ false → Steps caller thread it old step_answers.Nothing it old
steps_closed caller thread it old closed =
    let P : Bool → Type 0 = λ (open_now : Bool). elim open_now [
      | true ↦ StepsFrom caller thread 0 it.area.nodes it old step_answers.Nothing it old
      | false ↦ Rests it old step_answers.Nothing step_answers.Nothing it old
    ] in
    let rests : Rests it old step_answers.Nothing step_answers.Nothing it old =
    record { answer_is = refl; next_is = refl; same = refl } in
    subst P (sym closed) rests

-- the same of equal values
pub going_same : {K : Type 0} (caller : Ghosts K) (thread : ℕ) (first : CollectivesState) (old : K) (to : ℕ)
    (it : CollectivesState) (now : K) (same_it : CollectivesState) (same_now : K) → Going caller thread first old to it now
    → same_it ≡ it → same_now ≡ now → Going caller thread first old to same_it same_now
going_same {K} caller thread first old to it now same_it same_now going it_is now_is =
    subst (λ (one : CollectivesState). Going caller thread first old to one same_now) (sym it_is)
    (subst (λ (one : K). Going caller thread first old to it one) (sym now_is) going)

pub none_then : (stop : Option StepAnswer) → ((end : StepAnswer) → stop ≡ Some end → ⊥) → stop ≡ None
none_then None never = refl
none_then (Some end) never = absurd (never end refl)

-- ---- the marks of a node

-- other marks of as many nodes
pub stands_sent : (it : CollectivesState) (marks : List Bool) → length marks ≡ 256 → Stands it
    → Stands (record it { sent = marks })
stands_sent it marks long good = record {
  there = good.there;
  nodes = good.nodes;
  few_nodes = good.few_nodes;
  small = good.small;
  area_good = good.area_good;
  ended = good.ended;
  started = good.started;
  count = good.count;
  shape_good = good.shape_good;
  sent_long = long;
  exhausted_long = good.exhausted_long;
}

pub stands_exhausted : (it : CollectivesState) (marks : List Bool) → length marks ≡ 256 → Stands it
    → Stands (record it { exhausted = marks })
stands_exhausted it marks long good = record {
  there = good.there;
  nodes = good.nodes;
  few_nodes = good.few_nodes;
  small = good.small;
  area_good = good.area_good;
  ended = good.ended;
  started = good.started;
  count = good.count;
  shape_good = good.shape_good;
  sent_long = good.sent_long;
  exhausted_long = long;
}

-- a node has a mark
pub mark_inside : (it : CollectivesState) (to place : ℕ) → Stands it → place ≡ to → to < it.area.nodes → place < 256
mark_inside it to place good same low =
    let nodes = good.nodes in
    let few = good.few_nodes in
    omega (arith, nodes, few, same, low)
