-- Pieces that are begun one after another.
use Rattle.std.proofs.Common.{◌≡◌, ℕ, zero, suc, ◌+◌, ◌-◌, ◌<◌, ◌≤◌, true, false, List, [], ◌∷◌, ◌++◌, length, take, drop}
use Rattle.std.proofs.Common.{Some, None, Ok, inl, inr, refl, sym, subst, ap, ap₂, ◌∙◌, arith, add-one}
use Rattle.std.specs.Prelude.{◌==◌, slice_get, Option}
use Rattle.std.proofs.lemmas.Bool.{cases_Bool, eqb-true}
use Rattle.std.proofs.lemmas.List.{drop_all, length-drop, map-append, take_all}
use Rattle.base_lists.proofs.Cut.{get-drop}
use Rattle.base_lists.proofs.Places.{slice_get_there}
use Rattle.part_transfers.specs.declared.operation.Transfer.{Transfer}
use Rattle.node_endpoint.specs.TransferCalls.{BeginImplicit, RegionBegin, RegionEnd}
use Rattle.spec_node.specs.Record.{Node}
use Rattle.node_endpoint.specs.EndpointLocal.{EndpointLocal}
use Rattle.node_endpoint.specs.Answer.{Answer}
use Rattle.node_endpoint.specs.declared.caller.Caller.{Ghosts}
use Rattle.node_endpoint.specs.Sites.{Site, ThreadCall, answer_at, node_then, node_in_the_end}
use Rattle.node_endpoint.specs.Making.{ForItsNode, Makes, MakesOne}
use Rattle.node_endpoint.proofs.Joining.{Follows, known_then, makes_none, makes_then}
use Rattle.node_vis.specs.declared.shapes.Piece.{Piece}
use Rattle.node_vis.specs.Plans.{PlanState}
use Rattle.node_vis.specs.Beginning.{BeginCall, beginning, beginnings, calls_made, first_refused, in_region, is_refused}
use Rattle.node_vis.specs.Beginning.{on_transfers, transfer_of, vis_by}
use Rattle.node_vis.specs.Begins.{Begins}
use Rattle.node_vis.specs.Opening.{Closes, Opens, TriesPlan, pieces_tried}

-- ---- lists

pub drop_there : {X : Type 0} (xs : List X) (place : ℕ) (x : X) → slice_get xs place ≡ Some x
    → drop place xs ≡ x ∷ drop (suc place) xs
drop_there [] place x at = absurd (cc)
drop_there (y ∷ xs) zero x at = cc
drop_there (y ∷ xs) (suc place) x at = drop_there xs place x at

pub take_there : {X : Type 0} (xs : List X) (place : ℕ) (x : X) → slice_get xs place ≡ Some x
    → take (suc place) xs ≡ take place xs ++ x ∷ []
take_there [] place x at = absurd (cc)
take_there (y ∷ xs) zero x at = cc
take_there (y ∷ xs) (suc place) x at = ap (λ ys. y ∷ ys) (take_there xs place x at)

-- those from one place on, up to a later one
abbrev pub between : {X : Type 0} → (xs : List X) → (from place : ℕ) → List X
between xs from place = take (place - from) (drop from xs)

between_more : {X : Type 0} (xs : List X) (from place : ℕ) (x : X) → from ≤ place → slice_get xs place ≡ Some x
    → between xs from (place + 1) ≡ between xs from place ++ x ∷ []
between_more xs from place x after at =
    let whole : from + (place - from) ≡ place = omega (arith, after) in
    let here : slice_get (drop from xs) (place - from) ≡ Some x
    = get-drop from (place - from) xs ∙ ap (slice_get xs) whole ∙ at in
    let one : place + 1 - from ≡ suc (place - from) = omega (arith, after) in
    ap (λ n. take n (drop from xs)) one ∙ take_there (drop from xs) (place - from) x here

-- ---- what is known while pieces are tried

pub record Tried {K : Type 0} (caller : Ghosts K) (old now : K) (plan : PlanState) (thread from place : ℕ) : Type 0 where
  pub made : Makes caller old (beginnings plan thread (between plan.pieces from place)) now
  -- none was refused so far
  pub none : ForItsNode caller old (λ node.
      first_refused (caller.site old) node from (beginnings plan thread (drop from plan.pieces))
      ≡ first_refused (caller.site old)
      (node_in_the_end (caller.site old) node (beginnings plan thread (between plan.pieces from place))) place
      (beginnings plan thread (drop place plan.pieces)))

pub tried_first : {K : Type 0} (caller : Ghosts K) (old : K) (plan : PlanState) (thread from : ℕ)
    → Tried caller old old plan thread from from
tried_first caller old plan thread from =
    let zero_left : from - from ≡ 0 = omega arith in
    let nothing : between plan.pieces from from ≡ [] = ap (λ n. take n (drop from plan.pieces)) zero_left in
    let P : List Piece → Type 0 = λ ps. Makes caller old (beginnings plan thread ps) old in
    record {
      made = subst P (sym nothing) (makes_none caller old);
      none = λ whole stands.
          ap (λ ps. first_refused (caller.site old) (node_in_the_end (caller.site old)
          (caller.record_in (caller.site old) whole) (beginnings plan thread ps)) from
          (beginnings plan thread (drop from plan.pieces))) (sym nothing);
    }

-- what one more call leaves
in_the_end_one : (at : Site) (node : Node EndpointLocal) (calls : List ThreadCall) (made : ThreadCall)
    → node_in_the_end at node (calls ++ made ∷ []) ≡ node_then at (node_in_the_end at node calls) made
in_the_end_one at node [] made = refl
in_the_end_one at node (first ∷ calls) made = in_the_end_one at (node_then at node first) calls made

-- one more piece was begun
pub tried_more : {K : Type 0} (caller : Ghosts K) → Follows caller → (old now new : K) (plan : PlanState)
    (thread from place : ℕ) (piece : Piece) (answer : Answer) → Tried caller old now plan thread from place
    → from ≤ place → slice_get plan.pieces place ≡ Some piece
    → MakesOne caller now (beginning plan thread piece) (Some answer) new → is_refused answer ≡ false
    → Tried caller old new plan thread from (place + 1)
tried_more caller follows old now new plan thread from place piece answer tried after at one isnt =
    let so_far = beginnings plan thread (between plan.pieces from place) in
    let more : beginnings plan thread (between plan.pieces from (place + 1)) ≡ so_far ++ beginning plan thread piece ∷ []
    = ap (beginnings plan thread) (between_more plan.pieces from place piece after at)
    ∙ map-append (beginning plan thread) (between plan.pieces from place) (piece ∷ []) in
    let rest : drop place plan.pieces ≡ piece ∷ drop (place + 1) plan.pieces
    = rw add-one (drop_there plan.pieces place piece at) in
    let P : List ThreadCall → Type 0 = λ calls. Makes caller old calls new in
    record {
      made = subst P (sym more) (makes_then caller old now new so_far (beginning plan thread piece ∷ []) tried.made one.0);
      none = λ whole stands.
          let site = caller.site old in
          let node = node_in_the_end site (caller.record_in site whole) so_far in
          let said : answer ≡ answer_at site node (beginning plan thread piece)
          = known_then caller follows old now so_far
          (λ (s : Site) (n : Node EndpointLocal). answer ≡ answer_at s n (beginning plan thread piece)) tried.made one.1
          whole stands in
          let test : is_refused (answer_at site node (beginning plan thread piece)) ≡ false
          = ap is_refused (sym said) ∙ isnt in
          let after_it = first_refused site (node_then site node (beginning plan thread piece)) (suc place)
          (beginnings plan thread (drop (place + 1) plan.pieces)) in
          let step : first_refused site node place (beginnings plan thread (drop place plan.pieces)) ≡ after_it
          = ap (λ ps. first_refused site node place (beginnings plan thread ps)) rest ∙ rw test refl in
          let ends : node_then site node (beginning plan thread piece)
          ≡ node_in_the_end site (caller.record_in site whole)
          (beginnings plan thread (between plan.pieces from (place + 1)))
          = sym (ap (node_in_the_end site (caller.record_in site whole)) more
          ∙ in_the_end_one site (caller.record_in site whole) so_far (beginning plan thread piece)) in
          let count : suc place ≡ place + 1 = omega arith in
          tried.none whole stands ∙ step
          ∙ ap₂ (λ n k. first_refused site n k (beginnings plan thread (drop (place + 1) plan.pieces))) ends count;
    }

-- it was refused
pub tried_refused : {K : Type 0} (caller : Ghosts K) → Follows caller → (old now new : K) (plan : PlanState)
    (thread from place : ℕ) (piece : Piece) (answer : Answer) → Tried caller old now plan thread from place
    → from ≤ place → slice_get plan.pieces place ≡ Some piece
    → MakesOne caller now (beginning plan thread piece) (Some answer) new → is_refused answer ≡ true
    → Makes caller old (beginnings plan thread (between plan.pieces from (place + 1))) new
    × ForItsNode caller old (λ node.
    Some place ≡ first_refused (caller.site old) node from (beginnings plan thread (drop from plan.pieces)))
tried_refused caller follows old now new plan thread from place piece answer tried after at one is =
    let so_far = beginnings plan thread (between plan.pieces from place) in
    let more : beginnings plan thread (between plan.pieces from (place + 1)) ≡ so_far ++ beginning plan thread piece ∷ []
    = ap (beginnings plan thread) (between_more plan.pieces from place piece after at)
    ∙ map-append (beginning plan thread) (between plan.pieces from place) (piece ∷ []) in
    let rest : drop place plan.pieces ≡ piece ∷ drop (place + 1) plan.pieces
    = rw add-one (drop_there plan.pieces place piece at) in
    let P : List ThreadCall → Type 0 = λ calls. Makes caller old calls new in (
      subst P (sym more) (makes_then caller old now new so_far (beginning plan thread piece ∷ []) tried.made one.0),
      λ whole stands.
          let site = caller.site old in
          let node = node_in_the_end site (caller.record_in site whole) so_far in
          let said : answer ≡ answer_at site node (beginning plan thread piece)
          = known_then caller follows old now so_far
          (λ (s : Site) (n : Node EndpointLocal). answer ≡ answer_at s n (beginning plan thread piece)) tried.made one.1
          whole stands in
          let test : is_refused (answer_at site node (beginning plan thread piece)) ≡ true
          = ap is_refused (sym said) ∙ is in
          let step : first_refused site node place (beginnings plan thread (drop place plan.pieces)) ≡ Some place
          = ap (λ ps. first_refused site node place (beginnings plan thread ps)) rest ∙ rw test refl in
          sym (tried.none whole stands ∙ step),
    )

-- all were begun
pub tried_all : {K : Type 0} (caller : Ghosts K) (old now : K) (plan : PlanState) (thread from place : ℕ)
    → Tried caller old now plan thread from place → length plan.pieces ≤ place
    → Makes caller old (beginnings plan thread (drop from plan.pieces)) now
    × ForItsNode caller old (λ node.
    None ≡ first_refused (caller.site old) node from (beginnings plan thread (drop from plan.pieces)))
tried_all caller old now plan thread from place tried end =
    let short : length (drop from plan.pieces) ≤ place - from = simp length-drop (omega (arith, end)) in
    let P : List Piece → Type 0 = λ ps. Makes caller old (beginnings plan thread ps) now in (
      subst P (take_all (place - from) (drop from plan.pieces) short) tried.made,
      λ whole stands.
          let site = caller.site old in
          sym (tried.none whole stands
          ∙ ap (λ ps. first_refused site (node_in_the_end site (caller.record_in site whole)
          (beginnings plan thread (between plan.pieces from place))) place (beginnings plan thread ps))
          (drop_all place plan.pieces end)),
    )

-- ---- by the transfer of the code

abbrev pub IsOfPiece : PlanState → (place : ℕ) → Transfer → Type 0
IsOfPiece plan place transfer =
    (piece : Piece) → slice_get plan.pieces place ≡ Some piece → transfer ≡ transfer_of plan piece

pub more_at : {K : Type 0} (caller : Ghosts K) → Follows caller → (old now new : K) (plan : PlanState)
    (thread from place : ℕ) (transfer : Transfer) (answer : Answer) → Tried caller old now plan thread from place
    → from ≤ place → place < length plan.pieces → IsOfPiece plan place transfer
    → MakesOne caller now (on_transfers thread (BeginImplicit transfer)) (Some answer) new → is_refused answer ≡ false
    → Tried caller old new plan thread from (place + 1)
more_at caller follows old now new plan thread from place transfer answer tried after within is one isnt =
    let there = slice_get_there plan.pieces place within in
    let P : Transfer → Type 0 = λ t. MakesOne caller now (on_transfers thread (BeginImplicit t)) (Some answer) new in
    tried_more caller follows old now new plan thread from place there.0 answer tried after there.1
    (subst P (is there.0 there.1) one) isnt

pub refused_at : {K : Type 0} (caller : Ghosts K) → Follows caller → (old now new : K) (plan : PlanState)
    (thread from place : ℕ) (transfer : Transfer) (answer : Answer) → Tried caller old now plan thread from place
    → from ≤ place → place < length plan.pieces → IsOfPiece plan place transfer
    → MakesOne caller now (on_transfers thread (BeginImplicit transfer)) (Some answer) new → is_refused answer ≡ true
    → Makes caller old (beginnings plan thread (between plan.pieces from (place + 1))) new
    × ForItsNode caller old (λ node.
    Some place ≡ first_refused (caller.site old) node from (beginnings plan thread (drop from plan.pieces)))
refused_at caller follows old now new plan thread from place transfer answer tried after within is one refused =
    let there = slice_get_there plan.pieces place within in
    let P : Transfer → Type 0 = λ t. MakesOne caller now (on_transfers thread (BeginImplicit t)) (Some answer) new in
    tried_refused caller follows old now new plan thread from place there.0 answer tried after there.1
    (subst P (is there.0 there.1) one) refused

-- ---- all of it

-- the calls of the parts are those that the answer tells
made_by : {K : Type 0} (caller : Ghosts K) (old new : K) (asked : BeginCall) (refused : Option ℕ)
    → Makes caller old (in_region asked (pieces_tried asked.from refused (drop asked.from asked.plan.pieces))) new
    → Makes caller old (calls_made asked (vis_by asked.from refused)) new
made_by caller old new asked None made = made
made_by caller old new asked (Some next) made = elim (cases_Bool (next == asked.from)) [
  | inl same ↦ (
      let is : next ≡ asked.from = eqb-true next asked.from same in
      let one : next + 1 - asked.from ≡ 1 = omega (arith, is) in
      let P : ℕ → Type 0 = λ n. Makes caller old (in_region asked (take n (drop asked.from asked.plan.pieces))) new in
      rw same (subst P one made))
  | inr other ↦ rw other made
]

pub begins_all : {K : Type 0} (caller : Ghosts K) → Follows caller → (old opened tried_by new : K) (asked : BeginCall)
    (refused : Option ℕ) → Opens caller old asked.thread (Ok None) opened
    → TriesPlan caller opened asked.plan asked.thread asked.from (Ok refused) tried_by
    → Closes caller tried_by asked.thread asked.register (Ok tt) new
    → Begins caller old asked (vis_by asked.from refused) new
begins_all caller follows old opened tried_by new asked refused opens tries closes =
    let opening = on_transfers asked.thread RegionBegin ∷ [] in
    let all = beginnings asked.plan asked.thread (drop asked.from asked.plan.pieces) in
    let some = beginnings asked.plan asked.thread (pieces_tried asked.from refused (drop asked.from asked.plan.pieces)) in
    let ending = on_transfers asked.thread (RegionEnd asked.register) ∷ [] in
    record {
      answered = λ whole stands.
          let found = known_then caller follows old opened opening
          (λ (s : Site) (n : Node EndpointLocal). refused ≡ first_refused s n asked.from all) opens.0 tries.1 whole stands in
          ap (vis_by asked.from) found ∙ sym (opens.1 whole stands (vis_by asked.from (first_refused (caller.site old)
          (node_then (caller.site old) (caller.record_in (caller.site old) whole) (on_transfers asked.thread RegionBegin))
          asked.from all)));
      made = made_by caller old new asked refused
          (makes_then caller old tried_by new (opening ++ some) ending
          (makes_then caller old opened tried_by opening some opens.0 tries.0) closes);
    }
