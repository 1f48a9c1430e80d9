-- Pieces of a plan for another node that are begun are under way.
use Rattle.std.proofs.Common.{◌≡◌, ◌≢◌, inl, inr, ℕ, zero, suc, ◌+◌, ◌<◌, ◌≤◌, Bool, true, false, true≢false, List, [], ◌∷◌}
use Rattle.std.proofs.Common.{◌++◌, ◌-◌, length, take, drop, Option, None, Some, Ok, Err, refl, sym, subst, ap, ap₂, ◌∙◌, arith, ne_eqb, add-one}
use Rattle.std.specs.Prelude.{◌==◌, nat_le, nat_lt, if◌then◌else◌, Result}
use Rattle.std.specs.List.{All}
use Rattle.std.proofs.lemmas.Bool.{cases_Bool, eq-eqb, le-ltb, lt-leb, or_right}
use Rattle.std.proofs.lemmas.List.{length-append}
use Rattle.wire_message.specs.Parameters.{Parameters}
use Rattle.part_handlers.specs.declared.message.Which.{Which}
use Rattle.part_handlers.specs.declared.rules.CallKind.{CallKind}
use Rattle.part_handlers.specs.declared.rules.CallKind.TheVariants as kinds
use Rattle.part_handlers.specs.declared.rules.Forbidden.{Forbidden}
use Rattle.part_transfers.specs.declared.operation.Transfer.{Transfer}
use Rattle.part_transfers.specs.Operation.{Operation, begin_answer, is_full}
use Rattle.spec_node.specs.Record.{Node}
use Rattle.spec_node.specs.Step.{is_exhausted}
use Rattle.part_transfers.specs.Regions.{has_begun}
use Rattle.part_handlers.specs.declared.lock_answer.Held.{Held}
use Rattle.node_core.specs.Kept.{Local, segment_of}
use Rattle.node_core.specs.ClientRules.{rules}
use Rattle.node_rules.specs.declared.answer.Region.TheVariants as region
use Rattle.node_vis.specs.declared.shapes.Vis.{Vis}
use Rattle.node_rules.specs.EndpointLocal.{EndpointLocal}
use Rattle.node_rules.specs.EndpointRules.{endpoint_rules, unless_forbidden}
use Rattle.node_rules.specs.TransferCalls.{Caller, BeginImplicit, RegionBegin, begin_says, begun_as}
use Rattle.node_rules.specs.TransferCalls.{written_at_once, is_at_once, transfer_does, transfer_fault, unless_bad}
use Rattle.node_rules.specs.declared.answer.Answer.{Answer}
use Rattle.node_rules.specs.declared.answer.Answer.TheVariants as answers
use Rattle.node_rules.specs.declared.answer.Begun.{Begun}
use Rattle.node_rules.specs.declared.answer.Begun.TheVariants as begun
use Rattle.node_endpoint.specs.Sites.{Site, ThreadCall, answer_at, answers_at, node_then, node_in_the_end}
use Rattle.node_vis.specs.declared.shapes.Way.{Way}
use Rattle.node_vis.specs.declared.shapes.Way.TheVariants.{Put, Get}
use Rattle.node_vis.specs.declared.shapes.Piece.{Piece}
use Rattle.node_vis.specs.declared.shapes.Vis.TheVariants as vis
use Rattle.node_vis.specs.Pieces.{AreFilled}
use Rattle.node_vis.specs.Plans.{PlanState, IsInside}
use Rattle.node_vis.specs.Beginning.{beginning, beginnings, first_refused, is_refused, on_transfers, transfer_of}
use Rattle.node_vis.specs.Beginning.{BeginCall, vis_by, vis_of}
use Rattle.node_vis.specs.Opening.{IsAlone}
use Rattle.std.proofs.lemmas.Option.{same_Some}
use Rattle.law_vis.specs.StridedLaws.{AreUnderWay, BegunAreUnderWay, OwnIsCopied, begun_pieces, local_writes_after}

-- ---- one call

-- how the rule table judges a call of the thread, as the node is
abbrev pub judged : Site → Node EndpointLocal → (thread : ℕ) → CallKind → Result (Unit {0}) Forbidden
judged site node thread kind =
    (endpoint_rules site.settings site.table site.meaning).judges thread kind node.local

abbrev pub caller_at : Site → Node EndpointLocal → (thread : ℕ) → Caller
caller_at site node thread = record {
  settings = site.settings;
  me = site.node;
  thread = thread;
  exhausted = is_exhausted site.settings node;
}

allowed : (site : Site) (thread : ℕ) (verdict : Result (Unit {0}) Forbidden) (local : EndpointLocal)
    (out : Answer × EndpointLocal) → verdict ≡ Ok tt
    → unless_forbidden (endpoint_rules site.settings site.table site.meaning) thread verdict local out ≡ out
allowed site thread verdict local out is =
    let P : Result (Unit {0}) Forbidden → Type 0 = λ v.
    unless_forbidden (endpoint_rules site.settings site.table site.meaning) thread v local out ≡ out in
    subst P (sym is) refl

-- what a beginning that is no fault, of a transfer by chunks, says
says_so : (fault : Option Which) (once : Bool) (rest : Begun) → fault ≡ None → once ≡ false
    → unless_bad fault (if once then begun.Done else rest) ≡ rest
says_so fault once rest none other =
    ap₂ (λ f o. unless_bad f (if o then begun.Done else rest)) none other

-- it is under way, or there are too many
under_way : (operations : List Operation) → is_refused (answers.Started (begun_as (begin_answer operations))) ≡ false
    → (is_full operations ≡ false)
    × (begun_as (begin_answer operations) ≡ begun.Handle (record { serial = suc (length operations) }))
under_way operations not_refused = elim (cases_Bool (is_full operations)) [
  | inl full ↦ absurd (true≢false (rw full at not_refused))
  | inr room ↦ (room, rw room refl)
]

length_one : {X : Type 0} (xs : List X) (x : X) → length (xs ++ x ∷ []) ≡ suc (length xs)
length_one xs x = length-append xs (x ∷ []) ∙ add-one (length xs)

pub record BegunOne (site : Site) (node : Node EndpointLocal) (made : ThreadCall) : Type 0 where
  pub answer : answer_at site node made
      ≡ answers.Started (begun.Handle (record { serial = suc (length node.local.operations) }))
  pub core : (node_then site node made).local.core ≡ node.local.core
  pub more : length (node_then site node made).local.operations ≡ suc (length node.local.operations)

begun_one : (site : Site) (node : Node EndpointLocal) (thread : ℕ) (transfer : Transfer)
    → judged site node thread kinds.Transfer ≡ Ok tt → transfer_fault site.settings transfer ≡ None
    → is_at_once site.node transfer ≡ false
    → is_refused (answer_at site node (on_transfers thread (BeginImplicit transfer))) ≡ false
    → BegunOne site node (on_transfers thread (BeginImplicit transfer))
begun_one site node thread transfer allows none other not_refused =
    let caller = caller_at site node thread in
    let out = transfer_does caller (BeginImplicit transfer) node.local in
    let is : unless_forbidden (endpoint_rules site.settings site.table site.meaning) thread
    (judged site node thread kinds.Transfer) node.local out
    ≡ out
    = allowed site thread (judged site node thread kinds.Transfer) node.local out allows in
    let says : begin_says caller transfer node.local.operations ≡ begun_as (begin_answer node.local.operations)
    = says_so (transfer_fault site.settings transfer) (is_at_once site.node transfer)
    (begun_as (begin_answer node.local.operations)) none other in
    let started : answer_at site node (on_transfers thread (BeginImplicit transfer))
    ≡ answers.Started (begun_as (begin_answer node.local.operations))
    = ap (λ (o : Answer × EndpointLocal). o.0) is ∙ ap (λ b. answers.Started b) says in
    let room = under_way node.local.operations (sym (ap is_refused started) ∙ not_refused) in
    let handle : begin_says caller transfer node.local.operations
    ≡ begun.Handle (record { serial = suc (length node.local.operations) })
    = says ∙ room.1 in
    record {
      answer = started ∙ ap (λ b. answers.Started b) room.1;
      core = ap (λ (o : Answer × EndpointLocal). o.1.core) is ∙ rw handle refl;
      more = ap (λ (o : Answer × EndpointLocal). length o.1.operations) is
          ∙ rw (handle, room.0) (length_one node.local.operations _);
    }

-- ---- the pieces of a plan

-- the judgement depends on what the core keeps alone
judged_same : (site : Site) (one other : Node EndpointLocal) (thread : ℕ) (kind : CallKind)
    → other.local.core ≡ one.local.core → judged site other thread kind ≡ judged site one thread kind
judged_same site one other thread kind same =
    ap (λ (core : Local). (rules site.settings site.table site.meaning).judges thread kind core) same

fits_by : (settings : Parameters) (way : Way) (to : ℕ) (pieces : List Piece) (piece : Piece) → to < settings.nodes
    → IsInside settings piece
    → transfer_fault settings
    (transfer_of (record { settings = settings; way = way; to = to; pieces = pieces }) piece)
    ≡ None
fits_by settings Put to pieces piece there inside =
    let node : nat_le settings.nodes to ≡ false = lt-leb settings.nodes to there in
    let own : nat_lt settings.segment (piece.local + piece.len) ≡ false
    = le-ltb settings.segment (piece.local + piece.len) inside.1 in
    let far : nat_lt settings.segment (piece.remote + piece.len) ≡ false
    = le-ltb settings.segment (piece.remote + piece.len) inside.0 in
    rw (node, own, far) refl
fits_by settings Get to pieces piece there inside =
    let node : nat_le settings.nodes to ≡ false = lt-leb settings.nodes to there in
    let own : nat_lt settings.segment (piece.local + piece.len) ≡ false
    = le-ltb settings.segment (piece.local + piece.len) inside.1 in
    let far : nat_lt settings.segment (piece.remote + piece.len) ≡ false
    = le-ltb settings.segment (piece.remote + piece.len) inside.0 in
    rw (node, own, far) refl

away_by : (settings : Parameters) (way : Way) (to me : ℕ) (pieces : List Piece) (piece : Piece) → to ≢ me
    → 0 < piece.len
    → is_at_once me (transfer_of (record { settings = settings; way = way; to = to; pieces = pieces }) piece) ≡ false
away_by settings Put to me pieces piece other some =
    let long : (piece.len == 0) ≡ false = ne_eqb piece.len 0 (λ is. omega (arith, some, is)) in
    let far : (to == me) ≡ false = ne_eqb to me other in
    rw (long, far) refl
away_by settings Get to me pieces piece other some =
    let long : (piece.len == 0) ≡ false = ne_eqb piece.len 0 (λ is. omega (arith, some, is)) in
    let far : (to == me) ≡ false = ne_eqb to me other in
    rw (long, far) refl

-- each piece has bytes, and lies inside
abbrev pub AreFit : Parameters → List Piece → Type 0
AreFit settings [] = Unit {0}
AreFit settings (piece ∷ pieces) = (0 < piece.len) × IsInside settings piece × AreFit settings pieces

fit_from : (settings : Parameters) (pieces : List Piece) → AreFilled pieces → All (IsInside settings) pieces
    → AreFit settings pieces
fit_from settings [] filled inside = tt
fit_from settings (piece ∷ pieces) filled inside = (
  filled.0,
  inside 0 piece (omega arith),
  fit_from settings pieces filled.1 (λ k d low. inside (suc k) d (omega (arith, low))),
)

fit_drop : (settings : Parameters) (pieces : List Piece) (from : ℕ) → AreFit settings pieces
    → AreFit settings (drop from pieces)
fit_drop settings pieces zero fit = fit
fit_drop settings [] (suc from) fit = tt
fit_drop settings (piece ∷ pieces) (suc from) fit = fit_drop settings pieces from fit.2

not_refused_first : (test : Bool) (number : ℕ) (later : Option ℕ) → (if test then Some number else later) ≡ None
    → (test ≡ false) × (later ≡ None)
not_refused_first true number later is = absurd (cc)
not_refused_first false number later is = (refl, is)

-- pieces one after another
all_under_way : (site : Site) (node : Node EndpointLocal) (plan : PlanState) (thread number : ℕ) (pieces : List Piece)
    → plan.settings ≡ site.settings → plan.to < plan.settings.nodes → plan.to ≢ site.node
    → AreFit plan.settings pieces → judged site node thread kinds.Transfer ≡ Ok tt
    → first_refused site node number (beginnings plan thread pieces) ≡ None
    → AreUnderWay (suc (length node.local.operations)) (answers_at site node (beginnings plan thread pieces))
all_under_way site node plan thread number [] same there other fit allows none = tt
all_under_way site node plan thread number (piece ∷ pieces) same there other fit allows none =
    let made = beginning plan thread piece in
    let first = not_refused_first (is_refused (answer_at site node made)) number
    (first_refused site (node_then site node made) (suc number) (beginnings plan thread pieces)) none in
    let one : BegunOne site node made
    = begun_one site node thread (transfer_of plan piece) allows
    (subst (λ s. transfer_fault s (transfer_of plan piece) ≡ None) same
    (fits_by plan.settings plan.way plan.to plan.pieces piece there fit.1))
    (away_by plan.settings plan.way plan.to site.node plan.pieces piece other fit.0) first.0 in
    let later = all_under_way site (node_then site node made) plan thread (suc number) pieces same there other fit.2
    (judged_same site node (node_then site node made) thread kinds.Transfer one.core ∙ allows) first.1 in (
      one.answer,
      subst (λ n. AreUnderWay (suc n) (answers_at site (node_then site node made)
          (beginnings plan thread pieces))) one.more later,
    )

-- ---- all of it

none_by : (from : ℕ) (refused : Option ℕ) → vis_by from refused ≡ vis.Whole → refused ≡ None
none_by from None is = refl
none_by from (Some next) is = elim (cases_Bool (next == from)) [
  | inl same ↦ absurd (let few = rw same at is in let no : vis.TooMany ≡ vis.Whole → ⊥ = λ e. cc in no few)
  | inr other ↦ absurd (let part = rw other at is in let no : vis.Part next ≡ vis.Whole → ⊥ = λ e. cc in no part)
]

-- the region was begun: what that leaves
pub record Opened (site : Site) (node : Node EndpointLocal) (thread : ℕ) : Type 0 where
  pub core : (node_then site node (on_transfers thread RegionBegin)).local.core ≡ node.local.core
  pub operations : (node_then site node (on_transfers thread RegionBegin)).local.operations ≡ node.local.operations
  pub allows : judged site node thread kinds.Region ≡ Ok tt

opened : (site : Site) (node : Node EndpointLocal) (thread : ℕ) (later : Vis)
    → vis_of (answer_at site node (on_transfers thread RegionBegin)) later ≡ vis.Whole
    → Opened site node thread × (later ≡ vis.Whole)
opened site node thread later whole = by_verdict (judged site node thread kinds.Region) refl
  where
    by_verdict : (verdict : Result (Unit {0}) Forbidden) → judged site node thread kinds.Region ≡ verdict
        → Opened site node thread × (later ≡ vis.Whole)
    by_verdict (Err why) is =
        let left = unless_forbidden (endpoint_rules site.settings site.table site.meaning) thread in
        let said : answer_at site node (on_transfers thread RegionBegin) ≡ answers.Forbidden why
        = ap (λ v. (left v node.local (transfer_does (caller_at site node thread) RegionBegin node.local)).0) is in
        let no : vis.Forbidden why ≡ vis.Whole → ⊥ = λ e. cc in
        absurd (no (ap (λ a. vis_of a later) (sym said) ∙ whole))
    by_verdict (Ok done) is =
        let outcome = allowed site thread (judged site node thread kinds.Region) node.local
        (transfer_does (caller_at site node thread) RegionBegin node.local) is in
        elim (cases_Bool (has_begun node.local.regions thread)) [
          | inl nested ↦ (
              let said : answer_at site node (on_transfers thread RegionBegin) ≡ answers.Region region.Nested
              = ap (λ (o : Answer × EndpointLocal). o.0) outcome ∙ rw nested refl in
              let no : vis.Nested ≡ vis.Whole → ⊥ = λ e. cc in
              absurd (no (ap (λ a. vis_of a later) (sym said) ∙ whole)))
          | inr begins ↦ (
              let said : answer_at site node (on_transfers thread RegionBegin) ≡ answers.Region region.Begun
              = ap (λ (o : Answer × EndpointLocal). o.0) outcome ∙ rw begins refl in (
                record {
                  core = ap (λ (o : Answer × EndpointLocal). o.1.core) outcome ∙ rw begins refl;
                  operations = ap (λ (o : Answer × EndpointLocal). o.1.operations) outcome ∙ rw begins refl;
                  allows = is;
                },
                ap (λ a. vis_of a later) (sym said) ∙ whole,
              ))
        ]

-- the first that is refused has no smaller number than the first
at_least : (site : Site) (node : Node EndpointLocal) (number next : ℕ) (calls : List ThreadCall)
    → first_refused site node number calls ≡ Some next → number ≤ next
at_least site node number next [] is = absurd (cc)
at_least site node number next (call ∷ later) is = elim (cases_Bool (is_refused (answer_at site node call))) [
  | inl refused ↦ (
      let same : number ≡ next = same_Some number next (rw refused at is) in
      omega (arith, same))
  | inr begun ↦ (
      let more = at_least site (node_then site node call) (suc number) next later (rw begun at is) in
      omega (arith, more))
]

-- those before the one that is refused
some_under_way : (site : Site) (node : Node EndpointLocal) (plan : PlanState) (thread number next : ℕ) (pieces : List Piece)
    → plan.settings ≡ site.settings → plan.to < plan.settings.nodes → plan.to ≢ site.node
    → AreFit plan.settings pieces → judged site node thread kinds.Transfer ≡ Ok tt
    → first_refused site node number (beginnings plan thread pieces) ≡ Some next
    → AreUnderWay (suc (length node.local.operations))
    (answers_at site node (beginnings plan thread (take (next - number) pieces)))
some_under_way site node plan thread number next [] same there other fit allows is = absurd (cc)
some_under_way site node plan thread number next (piece ∷ pieces) same there other fit allows is =
    let made = beginning plan thread piece in
    let P : ℕ → Type 0 = λ k. AreUnderWay (suc (length node.local.operations))
    (answers_at site node (beginnings plan thread (take k (piece ∷ pieces)))) in
    elim (cases_Bool (is_refused (answer_at site node made))) [
      | inl refused ↦ (
          let here : number ≡ next = same_Some number next (rw refused at is) in
          let none : 0 ≡ next - number = omega (arith, here) in
          subst P none tt)
      | inr begun ↦ (
          let rest = rw begun at is in
          let above = at_least site (node_then site node made) (suc number) next (beginnings plan thread pieces) rest in
          let count : suc (next - suc number) ≡ next - number = omega (arith, above) in
          let one : BegunOne site node made
          = begun_one site node thread (transfer_of plan piece) allows
          (subst (λ s. transfer_fault s (transfer_of plan piece) ≡ None) same
          (fits_by plan.settings plan.way plan.to plan.pieces piece there fit.1))
          (away_by plan.settings plan.way plan.to site.node plan.pieces piece other fit.0) begun in
          let later = some_under_way site (node_then site node made) plan thread (suc number) next pieces same there other
          fit.2 (judged_same site node (node_then site node made) thread kinds.Transfer one.core ∙ allows) rest in
          subst P count (
            one.answer,
            subst (λ n. AreUnderWay (suc n) (answers_at site (node_then site node made)
                (beginnings plan thread (take (next - suc number) pieces)))) one.more later,
          ))
    ]

-- how a beginning may end: the region was refused, or it was begun
data Ends (site : Site) (node : Node EndpointLocal) (thread : ℕ) (later answer : Vis) : Type 0 where
  Alone : IsAlone answer → Ends site node thread later answer
  Goes : Opened site node thread → answer ≡ later → Ends site node thread later answer

ends_by : (site : Site) (node : Node EndpointLocal) (thread : ℕ) (later : Vis)
    → Ends site node thread later (vis_of (answer_at site node (on_transfers thread RegionBegin)) later)
ends_by site node thread later = by_verdict (judged site node thread kinds.Region) refl
  where
    by_verdict : (verdict : Result (Unit {0}) Forbidden) → judged site node thread kinds.Region ≡ verdict
        → Ends site node thread later (vis_of (answer_at site node (on_transfers thread RegionBegin)) later)
    by_verdict (Err why) is =
        let left = unless_forbidden (endpoint_rules site.settings site.table site.meaning) thread in
        let said : answer_at site node (on_transfers thread RegionBegin) ≡ answers.Forbidden why
        = ap (λ v. (left v node.local (transfer_does (caller_at site node thread) RegionBegin node.local)).0) is in
        subst (λ a. Ends site node thread later (vis_of a later)) (sym said) (Alone tt)
    by_verdict (Ok done) is =
        let outcome = allowed site thread (judged site node thread kinds.Region) node.local
        (transfer_does (caller_at site node thread) RegionBegin node.local) is in
        elim (cases_Bool (has_begun node.local.regions thread)) [
          | inl nested ↦ (
              let said : answer_at site node (on_transfers thread RegionBegin) ≡ answers.Region region.Nested
              = ap (λ (o : Answer × EndpointLocal). o.0) outcome ∙ rw nested refl in
              subst (λ a. Ends site node thread later (vis_of a later)) (sym said) (Alone tt))
          | inr begins ↦ (
              let said : answer_at site node (on_transfers thread RegionBegin) ≡ answers.Region region.Begun
              = ap (λ (o : Answer × EndpointLocal). o.0) outcome ∙ rw begins refl in
              Goes (record {
                core = ap (λ (o : Answer × EndpointLocal). o.1.core) outcome ∙ rw begins refl;
                operations = ap (λ (o : Answer × EndpointLocal). o.1.operations) outcome ∙ rw begins refl;
                allows = is;
              }) (ap (λ a. vis_of a later) said))
        ]

-- what the answer tells as begun, where the region was refused
none_alone : (asked : BeginCall) (answer : Vis) → IsAlone answer → begun_pieces asked answer ≡ []
none_alone asked vis.Nested alone = refl
none_alone asked (vis.Forbidden why) alone = refl
none_alone asked vis.Whole alone = absurd alone
none_alone asked (vis.Part next) alone = absurd alone
none_alone asked vis.TooMany alone = absurd alone
none_alone asked vis.NoMemory alone = absurd alone

-- the pieces that a beginning tells as begun are under way
pub begun_are_under_way : BegunAreUnderWay
begun_are_under_way site node asked same plan other =
    by_end (vis_of (answer_at site node opens) (vis_by asked.from refused))
    (ends_by site node asked.thread (vis_by asked.from refused))
  where
    opens : ThreadCall
    opens = on_transfers asked.thread RegionBegin

    behind : Node EndpointLocal
    behind = node_then site node opens

    pieces : List Piece
    pieces = drop asked.from asked.plan.pieces

    refused : Option ℕ
    refused = first_refused site behind asked.from (beginnings asked.plan asked.thread pieces)

    Holds : List Operation → List Piece → Type 0
    Holds operations begun =
        AreUnderWay (suc (length operations)) (answers_at site behind (beginnings asked.plan asked.thread begun))

    by_first : (found : Option ℕ) → refused ≡ found → Opened site node asked.thread
        → Holds behind.local.operations (begun_pieces asked (vis_by asked.from found))
    by_first found is opened =
        let fit = fit_drop asked.plan.settings asked.plan.pieces asked.from
        (fit_from asked.plan.settings asked.plan.pieces plan.filled plan.inside) in
        let allows : judged site behind asked.thread kinds.Transfer ≡ Ok tt
        = judged_same site node behind asked.thread kinds.Transfer opened.core ∙ opened.allows in
        by_found found is fit allows
      where
        by_found : (found : Option ℕ) → refused ≡ found → AreFit asked.plan.settings pieces
            → judged site behind asked.thread kinds.Transfer ≡ Ok tt
            → Holds behind.local.operations (begun_pieces asked (vis_by asked.from found))
        by_found None is fit allows =
            all_under_way site behind asked.plan asked.thread asked.from pieces same plan.there other fit allows is
        by_found (Some next) is fit allows = elim (cases_Bool (next == asked.from)) [
          | inl first ↦ rw first tt
          | inr later ↦ rw later (some_under_way site behind asked.plan asked.thread asked.from next pieces same plan.there
              other fit allows is)
        ]

    by_end : (answer : Vis) → Ends site node asked.thread (vis_by asked.from refused) answer
        → Holds node.local.operations (begun_pieces asked answer)
    by_end answer (Alone alone) = subst (Holds node.local.operations) (sym (none_alone asked answer alone)) tt
    by_end answer (Goes opened is) =
        subst (λ operations. Holds operations (begun_pieces asked answer)) opened.operations
        (subst (λ v. Holds behind.local.operations (begun_pieces asked v)) (sym is) (by_first refused refl opened))

-- ---- the local node

-- the judgement depends on the locks alone
judged_by_locks : (site : Site) (one other : Node EndpointLocal) (thread : ℕ) (kind : CallKind)
    → other.local.core.locks ≡ one.local.core.locks → judged site other thread kind ≡ judged site one thread kind
judged_by_locks site one other thread kind same =
    ap (λ (locks : List Held). (rules site.settings site.table site.meaning).judges thread kind
    (record one.local.core { locks = locks })) same

pub record CopiedOne (site : Site) (node : Node EndpointLocal) (made : ThreadCall) (transfer : Transfer) : Type 0 where
  pub writes : (node_then site node made).local.core.writes
      ≡ node.local.core.writes ++ written_at_once (segment_of site.settings node.local.core) transfer
  pub locks : (node_then site node made).local.core.locks ≡ node.local.core.locks

copied_one : (site : Site) (node : Node EndpointLocal) (thread : ℕ) (transfer : Transfer)
    → judged site node thread kinds.Transfer ≡ Ok tt → transfer_fault site.settings transfer ≡ None
    → is_at_once site.node transfer ≡ true
    → CopiedOne site node (on_transfers thread (BeginImplicit transfer)) transfer
copied_one site node thread transfer allows none own =
    let caller = caller_at site node thread in
    let is = allowed site thread (judged site node thread kinds.Transfer) node.local
    (transfer_does caller (BeginImplicit transfer) node.local) allows in
    let says : begin_says caller transfer node.local.operations ≡ begun.Done
    = ap₂ (λ f o. unless_bad f (if o then begun.Done else begun_as (begin_answer node.local.operations))) none own in
    record {
      writes = ap (λ (o : Answer × EndpointLocal). o.1.core.writes) is ∙ rw says refl;
      locks = ap (λ (o : Answer × EndpointLocal). o.1.core.locks) is ∙ rw says refl;
    }

own_by : (settings : Parameters) (way : Way) (to me : ℕ) (pieces : List Piece) (piece : Piece) → to ≡ me
    → is_at_once me (transfer_of (record { settings = settings; way = way; to = to; pieces = pieces }) piece) ≡ true
own_by settings Put to me pieces piece same =
    or_right (piece.len == 0) (to == me) (eq-eqb to me same)
own_by settings Get to me pieces piece same =
    or_right (piece.len == 0) (to == me) (eq-eqb to me same)

all_copied : (site : Site) (node : Node EndpointLocal) (plan : PlanState) (thread : ℕ) (pieces : List Piece)
    → plan.settings ≡ site.settings → plan.to < plan.settings.nodes → plan.to ≡ site.node
    → AreFit plan.settings pieces → judged site node thread kinds.Transfer ≡ Ok tt
    → (node_in_the_end site node (beginnings plan thread pieces)).local.core.writes
    ≡ local_writes_after site.settings plan pieces node.local.core.writes
all_copied site node plan thread [] same there own fit allows = refl
all_copied site node plan thread (piece ∷ pieces) same there own fit allows =
    let made = beginning plan thread piece in
    let one : CopiedOne site node made (transfer_of plan piece)
    = copied_one site node thread (transfer_of plan piece) allows
    (subst (λ s. transfer_fault s (transfer_of plan piece) ≡ None) same
    (fits_by plan.settings plan.way plan.to plan.pieces piece there fit.1))
    (own_by plan.settings plan.way plan.to site.node plan.pieces piece own) in
    all_copied site (node_then site node made) plan thread pieces same there own fit.2
    (judged_by_locks site node (node_then site node made) thread kinds.Transfer one.locks ∙ allows)
    ∙ ap (local_writes_after site.settings plan pieces) one.writes

pub own_is_copied : OwnIsCopied
own_is_copied site node asked same plan own whole =
    let open_call = on_transfers asked.thread RegionBegin in
    let behind = node_then site node open_call in
    let pieces = drop asked.from asked.plan.pieces in
    let it = opened site node asked.thread
    (vis_by asked.from (first_refused site behind asked.from (beginnings asked.plan asked.thread pieces))) whole in
    let fit = fit_drop asked.plan.settings asked.plan.pieces asked.from
    (fit_from asked.plan.settings asked.plan.pieces plan.filled plan.inside) in
    let allows : judged site behind asked.thread kinds.Transfer ≡ Ok tt
    = judged_same site node behind asked.thread kinds.Transfer it.0.core ∙ it.0.allows in
    all_copied site behind asked.plan asked.thread pieces same plan.there own fit allows
    ∙ ap (λ (core : Local). local_writes_after site.settings asked.plan pieces core.writes) it.0.core
