-- Events that neither send nor run a message of collectives, and write outside of the areas.
use Rattle.std.proofs.Common.{◌≡◌, ◌⊎◌, inl, inr, ℕ, zero, suc, ◌%◌, ◌<◌, Bool, false, List, [], ◌∷◌, ◌++◌}
use Rattle.std.proofs.Common.{length, Some, refl, sym, ap, ap₂, ◌∙◌, subst, arith}
use Rattle.std.specs.Prelude.{◌≢◌, ◌==◌, ◌||◌, nat_lt, if◌then◌else◌}
use Rattle.std.specs.List.{list_any}
use Rattle.std.proofs.lemmas.Bool.{cases_eq, ne_eqb}
use Rattle.std.proofs.lemmas.List.Folds.{list_any-append}
use Rattle.base_lists.specs.Put.{put}
use Rattle.base_lists.specs.Numbered.{element_at}
use Rattle.base_lists.proofs.Put.{put_same, put_other}
use Rattle.base_lists.proofs.Numbered.{numbered_push}
use Rattle.spec_network.specs.Invariant.{Holds}
use Rattle.spec_network.specs.Plain.{PlainRequest, Plain, RunReply, IsRequest, put_pair, plain_of}
use Rattle.node_rules.specs.EndpointLocal.{EndpointLocal, IsEndpointKept}
use Rattle.node_rules.specs.EndpointRules.{Records}
use Rattle.law_transfers.specs.Chunks.{EndpointJob, segment_at}
use Rattle.part_collective_area.specs.Area.{Area}
use Rattle.part_collective_area.specs.Served.{collective_handler}
use Rattle.law_collectives.specs.Phases.{Nothing}
use Rattle.law_collectives.specs.Groups.{Group}
use Rattle.law_collectives.specs.Invariant.{GroupHolds, asks_phase, phases_of, ran_phase}
use Rattle.law_collectives.proofs.Phases.{kept}
use Rattle.law_collectives.proofs.Messages.{Untouched}

-- ---- requests that are no messages of collectives

pub asks_none : (phase : ℕ) (request : PlainRequest) → request.content.handler ≢ collective_handler
    → asks_phase phase (Some request) ≡ false
asks_none phase request other = rw (ne_eqb request.content.handler collective_handler other) refl

asks_push : (phase : ℕ) (requests : List PlainRequest) (request : PlainRequest) (number : ℕ)
    → request.content.handler ≢ collective_handler
    → asks_phase phase (element_at (requests ++ request ∷ []) number) ≡ asks_phase phase (element_at requests number)
asks_push phase requests request zero other = refl
asks_push phase [] request (suc zero) other = asks_none phase request other
asks_push phase [] request (suc (suc place)) other = refl
asks_push phase (first ∷ requests) request (suc zero) other = refl
asks_push phase (first ∷ requests) request (suc (suc place)) other =
    asks_push phase requests request (suc place) other

-- what a pair has after one was put
pub pair_at : {X : Type 0} (items : ℕ → ℕ → X) (from to : ℕ) (item : X) (one other : ℕ)
    → ((one ≡ from) × (other ≡ to) × (put_pair items from to item one other ≡ item))
    ⊎ (((one ≢ from) ⊎ (other ≢ to)) × (put_pair items from to item one other ≡ items one other))
pair_at items from to item one other = elim (cases_eq one from) [
  | inl first ↦ (
      let row : put_pair items from to item one ≡ put (items from) to item =
      ap (put_pair items from to item) first ∙ put_same items from (put (items from) to item) in
      elim (cases_eq other to) [
        | inl second ↦ inl (
          first,
          second,
          ap (λ (f : ℕ → _). f other) row ∙ (ap (put (items from) to item) second ∙ put_same (items from) to item),
        )
        | inr apart ↦ inr (
          inr apart,
          ap (λ (f : ℕ → _). f other) row ∙ (put_other (items from) to item other apart
              ∙ ap (λ (it : ℕ). items it other) (sym first)),
        )
      ])
  | inr apart ↦ inr (inl apart, ap (λ (f : ℕ → _). f other) (put_other items from _ one apart))
]

-- no message of collectives was asked
abbrev pub AsksSame : Plain EndpointLocal → Plain EndpointLocal → Type 0
AsksSame now next =
    (from to number phase : ℕ)
    → asks_phase phase (element_at (next.requests from to) number)
    ≡ asks_phase phase (element_at (now.requests from to) number)

pub asks_same : (now next : Plain EndpointLocal) → next.requests ≡ now.requests → AsksSame now next
asks_same now next is from to number phase =
    ap (λ (requests : ℕ → ℕ → List PlainRequest). asks_phase phase (element_at (requests from to) number)) is

pub asks_more : (now next : Plain EndpointLocal) (from to : ℕ) (request : PlainRequest)
    → next.requests ≡ put_pair now.requests from to (now.requests from to ++ request ∷ [])
    → request.content.handler ≢ collective_handler → AsksSame now next
asks_more now next from to request is none one other number phase =
    ap (λ (requests : ℕ → ℕ → List PlainRequest). asks_phase phase (element_at (requests one other) number)) is
    ∙ elim (pair_at now.requests from to (now.requests from to ++ request ∷ []) one other) [
      | inl here ↦ ap (λ (list : List PlainRequest). asks_phase phase (element_at list number)) here.2
          ∙ (asks_push phase (now.requests from to) request number none
          ∙ (ap (λ (it : ℕ). asks_phase phase (element_at (now.requests it to) number)) (sym here.0)
          ∙ ap (λ (it : ℕ). asks_phase phase (element_at (now.requests one it) number)) (sym here.1)))
      | inr there ↦ ap (λ (list : List PlainRequest). asks_phase phase (element_at list number)) there.1
    ]

-- no new message of collectives is among the requests
abbrev pub NoneFresh : Plain EndpointLocal → Plain EndpointLocal → Type 0
NoneFresh now next =
    (from to number : ℕ) (request : PlainRequest) → IsRequest next from to number request
    → request.content.handler ≡ collective_handler → IsRequest now from to number request

pub fresh_same : (now next : Plain EndpointLocal) → next.requests ≡ now.requests → NoneFresh now next
fresh_same now next is from to number request there handler =
    subst (λ (requests : ℕ → ℕ → List PlainRequest). element_at (requests from to) number ≡ Some request) is there

pub fresh_more : (now next : Plain EndpointLocal) (from to : ℕ) (request : PlainRequest)
    → next.requests ≡ put_pair now.requests from to (now.requests from to ++ request ∷ [])
    → request.content.handler ≢ collective_handler → NoneFresh now next
fresh_more now next from to request is none one other number found there handler =
    let at = subst (λ (requests : ℕ → ℕ → List PlainRequest). element_at (requests one other) number ≡ Some found) is there in
    elim (pair_at now.requests from to (now.requests from to ++ request ∷ []) one other) [
      | inl here ↦ elim (numbered_push (now.requests from to) request number found
          (subst (λ (list : List PlainRequest). element_at list number ≡ Some found) here.2 at)) [
            | inl old ↦ subst (λ (it : ℕ). element_at (now.requests it other) number ≡ Some found) (sym here.0)
                (subst (λ (it : ℕ). element_at (now.requests from it) number ≡ Some found) (sym here.1) old)
            | inr new ↦ absurd (none (ap (λ (it : PlainRequest). it.content.handler) new.1 ∙ handler))
          ]
      | inr apart ↦ subst (λ (list : List PlainRequest). element_at list number ≡ Some found) apart.1 at
    ]

-- ---- runs

any_same : {X : Type 0} (one other : X → Bool) (xs : List X) → ((x : X) → one x ≡ other x)
    → list_any one xs ≡ list_any other xs
any_same one other [] same = refl
any_same one other (x ∷ xs) same = ap₂ (λ (a b : Bool). a || b) (same x) (any_same one other xs same)

-- the same phases ran
abbrev pub RanSame : Plain EndpointLocal → Plain EndpointLocal → Type 0
RanSame now next = (from to phase : ℕ) → ran_phase next from to phase ≡ ran_phase now from to phase

pub ran_same : (now next : Plain EndpointLocal) → AsksSame now next → next.runs ≡ now.runs → RanSame now next
ran_same now next asks is from to phase =
    ap (λ (runs : ℕ → ℕ → List RunReply).
    list_any (λ run. asks_phase phase (element_at (next.requests from to) run.number)) (runs from to)) is
    ∙ any_same (λ (run : RunReply). asks_phase phase (element_at (next.requests from to) run.number))
    (λ (run : RunReply). asks_phase phase (element_at (now.requests from to) run.number)) (now.runs from to)
    (λ run. asks from to run.number phase)

-- one more run
pub ran_push : (now next : Plain EndpointLocal) (from to : ℕ) (run : RunReply) → next.requests ≡ now.requests
    → next.runs ≡ put_pair now.runs from to (now.runs from to ++ run ∷ []) → (phase : ℕ)
    → ran_phase next from to phase
    ≡ (ran_phase now from to phase || (asks_phase phase (element_at (now.requests from to) run.number) || false))
ran_push now next from to run requests is phase =
    let test = λ (list : List PlainRequest) (one : RunReply). asks_phase phase (element_at list one.number) in
    ap (λ (f : ℕ → ℕ → List PlainRequest). list_any (test (f from to)) (next.runs from to)) requests
    ∙ (ap (λ (f : ℕ → ℕ → List RunReply). list_any (test (now.requests from to)) (f from to)) is
    ∙ (elim (pair_at now.runs from to (now.runs from to ++ run ∷ []) from to) [
      | inl here ↦ ap (list_any (test (now.requests from to))) here.2
          ∙ list_any-append (test (now.requests from to)) (now.runs from to) (run ∷ [])
      | inr apart ↦ absurd (elim apart.0 [ inl first ↦ first refl | inr second ↦ second refl ])
    ]))

-- and nothing else
pub ran_apart : (now next : Plain EndpointLocal) (from to : ℕ) (run : RunReply) → next.requests ≡ now.requests
    → next.runs ≡ put_pair now.runs from to (now.runs from to ++ run ∷ []) → (one other phase : ℕ)
    → (one ≢ from) ⊎ (other ≢ to) → ran_phase next one other phase ≡ ran_phase now one other phase
ran_apart now next from to run requests is one other phase differ =
    let test = λ (list : List PlainRequest) (it : RunReply). asks_phase phase (element_at list it.number) in
    ap (λ (f : ℕ → ℕ → List PlainRequest). list_any (test (f one other)) (next.runs one other)) requests
    ∙ (ap (λ (f : ℕ → ℕ → List RunReply). list_any (test (now.requests one other)) (f one other)) is
    ∙ (elim (pair_at now.runs from to (now.runs from to ++ run ∷ []) one other) [
      | inl here ↦ absurd (elim differ [ inl first ↦ first here.0 | inr second ↦ second here.1 ])
      | inr apart ↦ ap (list_any (test (now.requests one other))) apart.1
    ]))

-- ---- quiet records

pub record Quiet (job : EndpointJob) (area : Area) (now next : Records) : Type 0 where
  pub records : Holds job (IsEndpointKept job.settings) next
  pub asks : AsksSame (plain_of now) (plain_of next)
  pub fresh : NoneFresh (plain_of now) (plain_of next)
  pub ran : RanSame (plain_of now) (plain_of next)
  pub parts : (node parity from : ℕ) → node < job.settings.nodes → parity < 2 → from < job.settings.nodes
      → Untouched (segment_at job next node) (segment_at job now node) area parity from

-- the group with other records
abbrev pub with_records : Group → Records → Group
with_records group records = record group { records = records }

pub quiet_kept : (job : EndpointJob) (area : Area) (group : Group) (records : Records)
    → GroupHolds job area group → Quiet job area group.records records
    → GroupHolds job area (with_records group records)
quiet_kept job area group records holds quiet = record {
  records = quiet.records;
  phases = kept job.settings.nodes (phases_of job area group) (phases_of job area next) Nothing holds.phases
      tt (
        (λ node. refl),
        (λ node. refl),
        (λ from to has_from has_to. refl),
        record {
          ran = λ from to phase. ap (λ (ran : Bool).
              if to == from then nat_lt phase (length (group.given from)) else ran) (quiet.ran from to phase);
          stands = λ node parity from has low has_from. (quiet.parts node parity from has low has_from).stamp;
        },
      );
  progress = λ node has.
      let it = holds.progress node has in
      record { started = it.started; shape = it.shape; given = it.given; small = it.small };
  messages = λ from to number request has_from has_to there handler.
      let it = holds.messages from to number request has_from has_to (quiet.fresh from to number request there handler)
      handler in
      record {
        phase = it.phase;
        given = it.given;
        gave = it.gave;
        sent = it.sent;
        content_is = it.content_is;
      };
  once = λ from to number other phase first second. holds.once from to number other phase
      (sym (quiet.asks from to number phase) ∙ first) (sym (quiet.asks from to other phase) ∙ second);
  parts = λ node from phase given has has_from stands gave.
      let same = quiet.parts node (phase % 2) from has (omega arith) has_from in
      let it = holds.parts node from phase given has has_from (sym same.stamp ∙ stands) gave in
      let few = ((holds.progress from has_from).given phase given gave) in
      record {
        shape = same.shape ∙ it.shape;
        bytes = λ whole. same.bytes (length given.bytes)
            (let len = few.len in let room = few.few in omega (arith, len, room)) ∙ it.bytes whole;
      };
}
  where
    next : Group
    next = with_records group records
