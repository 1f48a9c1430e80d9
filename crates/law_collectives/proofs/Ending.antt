-- What a try to end a phase tells, where the invariant of the group holds.
use Rattle.std.proofs.Common.{◌≡◌, ◌⊎◌, inl, inr, ℕ, zero, suc, ◌+◌, ◌%◌, ◌<◌, ◌≤◌, Bool, true, false, true≢false}
use Rattle.std.proofs.Common.{List, [], ◌∷◌, length, Some, None, refl, sym, ap, ◌∙◌, subst, arith}
use Rattle.std.specs.Prelude.{◌≢◌, ◌==◌, ◌||◌, not, slice_get}
use Rattle.std.proofs.lemmas.Bool.{cases_Bool, cases_eq, and_parts, eqb-true, ltb-true, eq-eqb}
use Rattle.law_transfers.specs.Chunks.{EndpointJob, segment_at}
use Rattle.part_collective_area.specs.declared.shape.Shape.{Shape}
use Rattle.part_collective_area.specs.Shapes.{shape_word, uses}
use Rattle.part_collective_area.specs.Area.{Area, IsArea, stamp_in, word_in, data_in}
use Rattle.part_collective_area.specs.Results.{Contribution, pieces_of}
use Rattle.law_collectives.specs.Phases.{IsReady}
use Rattle.node_collectives.specs.Progress.{is_open, is_ready, other_shape}
use Rattle.law_collectives.specs.Groups.{Group, data_in_parts, result_pieces}
use Rattle.law_collectives.specs.CollectiveLaws.{Gave, bytes_given, given_bytes}
use Rattle.law_collectives.specs.Invariant.{GroupHolds, IsWholeAt, phases_of, sent_count}
use Rattle.law_collectives.proofs.Phases.{ready_safe}
use Rattle.law_collectives.proofs.Searching.{data_at, first_at, given_at, none_at, ready_at, same_at, same_data}
use Rattle.law_collectives.proofs.Searching.{same_pieces, same_shape}

-- a node of the job tries to end its phase, and is ready
pub record Ready (job : EndpointJob) (area : Area) (group : Group) (node : ℕ) : Type 0 where
  pub nodes : area.nodes ≡ job.settings.nodes
  pub few : area.nodes ≤ 256
  pub good : IsArea job.settings.segment area
  pub holds : GroupHolds job area group
  pub there : node < job.settings.nodes
  pub open_now : is_open (group.progress node) ≡ true
  pub ready : is_ready area node (group.progress node) (segment_at job group.records node) ≡ true

-- what is found there
pub got : {X : Type 0} (xs : List X) (place : ℕ) → place < length xs → (x : X) × (slice_get xs place ≡ Some x)
got [] place low = absurd (omega (arith, low))
got (x ∷ xs) zero low = (x, refl)
got (x ∷ xs) (suc place) low = got xs place (omega (arith, low))

or_cases : (one other : Bool) → (one || other) ≡ true → (one ≡ true) ⊎ (other ≡ true)
or_cases true other is = inl refl
or_cases false other is = inr is

-- so it is ready where nodes run collectives by themselves
pub is_ready_then : (job : EndpointJob) (area : Area) (group : Group) (node : ℕ) → Ready job area group node
    → IsReady job.settings.nodes (phases_of job area group) node
is_ready_then job area group node it =
    let progress = group.progress node in
    let one = it.holds.phases.node node it.there in
    let kept = it.holds.progress node it.there in
    let opened = ltb-true progress.ended progress.started it.open_now in
    let same = kept.started in
    let started : length (group.given node) ≡ progress.ended + 1 = omega (arith, opened, same, one.started) in
    let each = λ (at : ℕ) (low : at < job.settings.nodes).
    and_parts (progress.sent at || (at == node))
    (stamp_in (segment_at job group.records node) area (progress.ended % 2) at == progress.ended + 1)
    (ready_at _ 0 area.nodes at it.ready (omega arith) (subst (λ (n : ℕ). at < 0 + n) (sym it.nodes)
    (omega (arith, low)))) in
    record {
      started = started;
      sent = λ to low. elim (cases_eq to node) [
        | inl here ↦ rw (eq-eqb to node here) refl
        | inr other ↦ elim (or_cases (progress.sent to) (to == node) (each to low).0) [
          | inl sent ↦ (
              let apart : (to == node) ≡ false = elim (cases_Bool (to == node)) [
                | inl same_node ↦ absurd (other (eqb-true to node same_node))
                | inr fails ↦ fails
              ] in
              let counted : sent_count progress to ≡ progress.ended + 1 = rw it.open_now (rw sent refl) in
              rw apart (counted ∙ sym started))
          | inr same_node ↦ absurd (other (eqb-true to node same_node))
        ]
      ];
      all = λ from low. eqb-true _ _ (each from low).1 ∙ sym started;
    }

-- all nodes have started the phase
pub all_gave : (job : EndpointJob) (area : Area) (group : Group) (node : ℕ) → Ready job area group node
    → (from : ℕ) → from < job.settings.nodes
    → (given : Contribution) × Gave group from (group.progress node).ended given
all_gave job area group node it from low =
    got (group.given from) (group.progress node).ended
    ((ready_safe job.settings.nodes (phases_of job area group) node it.holds.phases it.there
    (is_ready_then job area group node it)).all from low)

-- what stands in the parts is theirs
pub all_stand : (job : EndpointJob) (area : Area) (group : Group) (node : ℕ) → Ready job area group node
    → (from : ℕ) → from < job.settings.nodes
    → stamp_in (segment_at job group.records node) area ((group.progress node).ended % 2) from
    ≡ (group.progress node).ended + 1
all_stand job area group node it from low =
    let ready = is_ready_then job area group node it in ready.all from low ∙ ready.started

-- its own shape is the one that is kept
pub own_shape : (job : EndpointJob) (area : Area) (group : Group) (node : ℕ) → Ready job area group node
    → (given : Contribution) → Gave group node (group.progress node).ended given
    → given.shape ≡ (group.progress node).shape
own_shape job area group node it given gave =
    let ready = is_ready_then job area group node it in
    let started = ready.started in
    (it.holds.progress node it.there).shape given (omega (arith, started)) gave

-- the word in a part says the shape
pub word_says : (job : EndpointJob) (area : Area) (group : Group) (node : ℕ) → Ready job area group node
    → (from : ℕ) (given : Contribution) → from < job.settings.nodes
    → Gave group from (group.progress node).ended given
    → word_in (segment_at job group.records node) area ((group.progress node).ended % 2) from ≡ shape_word given.shape
word_says job area group node it from given low gave =
    (it.holds.parts node from (group.progress node).ended given it.there low
    (all_stand job area group node it from low) gave).shape

-- shapes with one word are one
pub one_shape : (job : EndpointJob) (area : Area) (group : Group) (node : ℕ) → Ready job area group node
    → (from : ℕ) (given own : Contribution) → from < job.settings.nodes
    → Gave group from (group.progress node).ended given → Gave group node (group.progress node).ended own
    → shape_word given.shape ≡ shape_word own.shape → given.shape ≡ own.shape
one_shape job area group node it from given own low gave own_gave is =
    let phase = (group.progress node).ended in
    let one = (it.holds.progress from low).given phase given gave in
    let other = (it.holds.progress node it.there).given phase own own_gave in
    let few = it.few in
    let small = it.good.small in
    same_shape given.shape own.shape (omega (arith, one.root, few)) (omega (arith, one.few, small))
    (omega (arith, other.root, few)) (omega (arith, other.few, small)) is

-- ---- equal shapes

-- no node has another shape
pub all_same : (job : EndpointJob) (area : Area) (group : Group) (node : ℕ) → Ready job area group node
    → other_shape area (group.progress node) (segment_at job group.records node) ≡ None
    → (own : Contribution) → Gave group node (group.progress node).ended own
    → (from : ℕ) (given : Contribution) → from < job.settings.nodes
    → Gave group from (group.progress node).ended given → given.shape ≡ own.shape
all_same job area group node it none own own_gave from given low gave =
    let says = none_at _ 0 area.nodes from none (omega arith)
    (subst (λ (n : ℕ). from < 0 + n) (sym it.nodes) (omega (arith, low))) in
    let word = word_says job area group node it from given low gave in
    let mine = own_shape job area group node it own own_gave in
    one_shape job area group node it from given own low gave own_gave
    (sym word ∙ (eqb-true _ _ (passes _ says) ∙ ap shape_word (sym mine)))
  where
    passes : (test : Bool) → not test ≡ false → test ≡ true
    passes true is = refl
    passes false is = cc

-- the result that stands in the parts is that of what all gave
pub result_stands : (job : EndpointJob) (area : Area) (group : Group) (node : ℕ) → Ready job area group node
    → other_shape area (group.progress node) (segment_at job group.records node) ≡ None
    → result_pieces job area group node
    ≡ pieces_of (group.progress node).shape (bytes_given group (group.progress node).ended 0 area.nodes) node
result_stands job area group node it none =
    let progress = group.progress node in
    let shape = progress.shape in
    let segment = segment_at job group.records node in
    let own = all_gave job area group node it node it.there in
    let mine = own_shape job area group node it own.0 own.1 in
    let each = λ (at : ℕ) (low : at < area.nodes) (used : uses shape at node ≡ true).
    whole_at job area group node it at low none used in
    same_pieces shape.kind shape.root shape.len (data_in_parts job area group node)
    (bytes_given group progress.ended 0 area.nodes) area.nodes node (record {
      whole = λ used. same_data area progress segment group 0 area.nodes
          (λ at low high. each at (omega (arith, high)) (used at (omega (arith, high))));
      at_root = λ used.
          let given = (it.holds.progress node it.there).given progress.ended own.0 own.1 in
          let is : own.0.shape.root ≡ shape.root = ap (λ (one : Shape). one.root) mine in
          let low : shape.root < area.nodes = (let root = given.root in omega (arith, root, is)) in
          same_at (data_in_parts job area group node) (bytes_given group progress.ended 0 area.nodes) shape.root
          (data_at area progress segment 0 area.nodes shape.root shape.root low (omega arith)
          ∙ (ap Some (each shape.root low used)
          ∙ sym (given_at group progress.ended 0 area.nodes shape.root shape.root low (omega arith))));
    })
  where
    whole_at : (job : EndpointJob) (area : Area) (group : Group) (node : ℕ) → Ready job area group node
        → (at : ℕ) → at < area.nodes
        → other_shape area (group.progress node) (segment_at job group.records node) ≡ None
        → uses (group.progress node).shape at node ≡ true
        → data_in (segment_at job group.records node) area ((group.progress node).ended % 2) at
        (group.progress node).shape.len
        ≡ given_bytes (slice_get (group.given at) (group.progress node).ended)
    whole_at job area group node it at low none used =
        let progress = group.progress node in
        let segment = segment_at job group.records node in
        let there : at < job.settings.nodes = subst (λ (n : ℕ). at < n) it.nodes low in
        let gave = all_gave job area group node it at there in
        let own = all_gave job area group node it node it.there in
        let mine = own_shape job area group node it own.0 own.1 in
        let same : gave.0.shape ≡ progress.shape =
        all_same job area group node it none own.0 own.1 at gave.0 there gave.1 ∙ mine in
        let whole : IsWholeAt gave.0 at node =
        inr (subst (λ (shape : Shape). uses shape at node ≡ true) (sym same) used) in
        let stands = (it.holds.parts node at progress.ended gave.0 it.there there
        (all_stand job area group node it at there) gave.1).bytes whole in
        let len : length gave.0.bytes ≡ progress.shape.len =
        ((it.holds.progress at there).given progress.ended gave.0 gave.1).len
        ∙ ap (λ (shape : Shape). shape.len) same in
        subst (λ (n : ℕ). data_in segment area (progress.ended % 2) at n ≡ gave.0.bytes) len stands
        ∙ sym (ap given_bytes gave.1)

-- ---- another shape

-- where a part says another shape, its node gave one, and no smaller node did
pub record Apart (job : EndpointJob) (area : Area) (group : Group) (node other : ℕ) (own : Contribution)
    : Type 0 where
  pub there : other < job.settings.nodes
  pub apart : (given : Contribution) → Gave group other (group.progress node).ended given
      → given.shape ≢ own.shape
  pub before : (from : ℕ) (given : Contribution) → from < other
      → Gave group from (group.progress node).ended given → given.shape ≡ own.shape

pub shapes_apart : (job : EndpointJob) (area : Area) (group : Group) (node other : ℕ) → Ready job area group node
    → other_shape area (group.progress node) (segment_at job group.records node) ≡ Some other
    → (own : Contribution) → Gave group node (group.progress node).ended own
    → Apart job area group node other own
shapes_apart job area group node other it found own own_gave =
    let first = first_at _ 0 area.nodes other found in
    let high = first.high in
    let there : other < job.settings.nodes = subst (λ (n : ℕ). other < n) it.nodes (omega (arith, high)) in
    let mine = own_shape job area group node it own own_gave in
    record {
      there = there;
      apart = λ given gave same.
          let word = word_says job area group node it other given there gave in
          true≢false (sym (eq-eqb _ _ (word ∙ ap shape_word (same ∙ mine))) ∙ fails _ first.passes);
      before = λ from given low gave.
          let inside : from < job.settings.nodes = omega (arith, low, there) in
          let word = word_says job area group node it from given inside gave in
          one_shape job area group node it from given own inside gave own_gave
          (sym word ∙ (eqb-true _ _ (passes _ (first.before from (omega arith) low)) ∙ ap shape_word (sym mine)));
    }
  where
    fails : (test : Bool) → not test ≡ true → test ≡ false
    fails true is = cc
    fails false is = refl

    passes : (test : Bool) → not test ≡ false → test ≡ true
    passes true is = refl
    passes false is = cc
