-- A request of a thread, as its core made it, is the endpoint's.
use Rattle.std.proofs.Common.{◌≡◌, ◌≢◌, inl, inr, ℕ, suc, true, false, List, [], ◌∷◌, Option, None, Some}
use Rattle.std.proofs.Common.{true≢false, refl, sym, ap, ◌∙◌, subst, arith}
use Rattle.std.specs.Prelude.{nat_lt, ◌==◌}
use Rattle.std.specs.List.{slice_get}
use Rattle.std.proofs.lemmas.Bool.{cases_Bool, ne_eqb, ltb-false}
use Rattle.part_handlers.specs.declared.table.Entry.{Entry}
use Rattle.part_handlers.specs.Registered.{entry_at, is_for_requests}
use Rattle.part_handlers.specs.Runs.{Meaning, IsLawfulMeaning}
use Rattle.spec_node.specs.Record.{Node}
use Rattle.spec_node.specs.Behaviour.{Ask, Asking, Category, Short, Medium, Long}
use Rattle.spec_node.specs.Step.{request_answer, after_request}
use Rattle.spec_node.specs.NodeStep.{site_of, Asks, OfRequest, NodeAnswer}
use Rattle.spec_node.specs.Under.{under}
use Rattle.spec_node.specs.declared.answer.Asked.{Asked}
use Rattle.spec_node.specs.declared.answer.Asked.TheVariants as asked
use Rattle.spec_node.proofs.Answers.{here_says}
use Rattle.spec_node.proofs.Under.{request_alike, request_under}
use Rattle.part_transfers.specs.Operation.{Operation, target, come_back}
use Rattle.part_transfers.specs.Stands.{Stands as TransfersStand}
use Rattle.wire_message.specs.Parameters.{Parameters}
use Rattle.node_core.specs.ClientRules.{rules, asking_fault, content_by, said_in, payload_in}
use Rattle.node_core.specs.Kept.{Local, segment_of}
use Rattle.node_core.specs.Stands.{CoreStands}
use Rattle.node_core.specs.CoreState.{CoreState}
use Rattle.node_core.specs.CoreContracts.{CoreSteps, CoreTold, core_job}
use Rattle.node_rules.specs.EndpointLocal.{EndpointLocal, core_of, AreByChunks}
use Rattle.node_rules.specs.EndpointRules.{asked_answer, transition}
use Rattle.node_rules.specs.declared.answer.Answer.{Answer}
use Rattle.node_rules.specs.declared.answer.Answer.TheVariants as answers
use Rattle.node_core.specs.declared.asking.Asking.{Asking as CodeAsking}
use Rattle.node_core.specs.AskedFor.{ask_of, asking_of}
use Rattle.node_rules.specs.Called.{event_of_call, node_event, IsMeantBy}
use Rattle.node_rules.specs.declared.call.Call.{Call}
use Rattle.node_rules.proofs.Over.{endpoint_over}
use Rattle.node_endpoint.specs.declared.extended.Extended.{Extended}
use Rattle.node_endpoint.specs.EndpointState.{EndpointState, NodeSteps, job_here}
use Rattle.node_endpoint.specs.Parts.{endpoint_of}
use Rattle.node_endpoint.proofs.Stepping.{steps_by, barrier_of}
use Rattle.base_lists.proofs.Tests.{some_none}

-- ---- what a request to the local node leaves of the extended API

-- no operation is of the local node, so none comes back from it
pub none_back : (from slot request : ℕ) (operations : List Operation)
    → ((place : ℕ) (operation : Operation) → slice_get operations place ≡ Some operation
    → target operation.transfer ≢ from) → come_back from slot request operations ≡ operations
none_back from slot request [] apart = refl
none_back from slot request (operation ∷ later) apart =
    let other : (target operation.transfer == from) ≡ false = ne_eqb _ _ (apart 0 operation refl) in
    rw other (ap (λ ys. operation ∷ ys)
    (none_back from slot request later (λ place o e. apart (suc place) o e)))

-- a request that is no client's has no entry
client_handler : (table : List (Option Entry)) (handler : ℕ) → is_for_requests (entry_at table handler) ≡ true
    → (handler == 67) ≡ false
client_handler table handler registered = elim (cases_Bool (nat_lt handler 128)) [
  | inl low ↦ absurd (true≢false (sym (rw low at registered)))
  | inr high ↦ ne_eqb handler 67 (λ e. omega (arith, e, ltb-false handler 128 high))
]

-- what a client asks has its handler
said_handler : (segment : List ℕ) (asking : Asking) → (said_in segment asking).handler ≡ asking.handler
said_handler segment asking = by asking.category
  where
    by : (c : Category) → (content_by c asking (payload_in segment asking.payload)).handler ≡ asking.handler
    by Short = refl
    by Medium = refl
    by Long = refl

-- a request without a fault has a handler
has_entry : (settings : Parameters) (table : List (Option Entry)) (asking : Asking)
    → asking_fault settings table asking ≡ None → is_for_requests (entry_at table asking.handler) ≡ true
has_entry settings table asking e = elim (cases_Bool (is_for_requests (entry_at table asking.handler))) [
  | inl there ↦ there
  | inr none ↦ absurd (some_none (rw none at e))
]

-- what isn't the core's is the same
pub record IsSameRest (old new : EndpointLocal) : Type 0 where
  pub operations : new.operations ≡ old.operations
  pub regions : new.regions ≡ old.regions
  pub registers : new.registers ≡ old.registers
  pub barrier : new.barrier ≡ old.barrier

-- so it is after a request of a thread
asked_rest : (meaning : Meaning) (endpoint : EndpointState) (node : Node EndpointLocal) (now : ℕ) (ask : Ask)
    (answer : Asked) → AreByChunks endpoint.core.settings endpoint.core.me node.local.operations
    → request_answer (site_of (job_here meaning endpoint) endpoint.core.me) node ask ≡ answer
    → IsSameRest node.local
    (after_request (site_of (job_here meaning endpoint) endpoint.core.me) node now ask answer).local
asked_rest meaning endpoint node now ask asked.Ran chunks e =
    let site = site_of (job_here meaning endpoint) endpoint.core.me in
    let handler = client_handler endpoint.core.table ask.what.handler
    (has_entry endpoint.core.settings endpoint.core.table ask.what (here_says site node ask e)) in
    let said = said_handler (segment_of endpoint.core.settings node.local.core) ask.what in
    let is : ((said_in (segment_of endpoint.core.settings node.local.core) ask.what).handler == 67) ≡ false =
    ap (λ h. h == 67) said ∙ handler in
    record {
      operations = none_back endpoint.core.me 0 0 node.local.operations
          (λ place operation here same. (chunks (suc place) operation here).other same);
      regions = refl;
      registers = refl;
      barrier = rw is refl;
    }
asked_rest meaning endpoint node now ask _ chunks e =
    record { operations = refl; regions = refl; registers = refl; barrier = refl }

-- an answer of the core to a request
abbrev pub core_asked : NodeAnswer CoreTold → Answer
core_asked (OfRequest answer) = asked_answer answer
core_asked _ = answers.Polled

-- a request
pub request_steps : (meaning : Meaning) (core new : CoreState) (extended : Extended) (now : ℕ) (ask : Ask)
    (answer : Asked) → IsLawfulMeaning meaning
    → CoreSteps meaning core (record { now = now; event = Asks ask; answer = OfRequest answer }) new
    → NodeSteps meaning (endpoint_of core extended) (transition now (Asks ask) (asked_answer answer))
    (endpoint_of new extended)
request_steps meaning core new extended now ask answer lawful C =
    let old : EndpointState = endpoint_of core extended in
    steps_by meaning old (endpoint_of new extended) now (Asks ask) (asked_answer answer) lawful C.same
    (λ node S.
    let it = C.steps (under core_of node) S.core in
    let site = site_of (job_here meaning old) core.me in
    let own = rules core.settings core.table meaning in
    let over = endpoint_over core.settings core.table meaning in
    let alike = request_alike core_of own site node ask over in
    let rest = asked_rest meaning old node now ask (request_answer site node ask) S.kept.operations refl in
    let left : CoreStands new (under core_of (after_request site node now ask (request_answer site node ask))) =
    subst (λ (n : Node Local). CoreStands new n)
    (sym (request_under core_of own site node now ask (request_answer site node ask) over
    ∙ ap (λ (a : Asked). after_request (site_of (core_job meaning core) core.me) (under core_of node) now ask a)
    alike)) it.1 in (
      ap core_asked it.0 ∙ ap asked_answer (sym alike),
      record {
        core = left;
        transfers = subst (λ os. TransfersStand extended.transfers os) (sym rest.operations) S.transfers;
        regions_are = S.regions_are ∙ sym rest.regions;
        registers_are = S.registers_are ∙ sym rest.registers;
        barrier = barrier_of core new extended.barrier _ _ C.same rest.barrier S.barrier;
      },
    ))

-- a call that asks this is that event
pub asked_event : (call : Call) (thread : ℕ) (asking : CodeAsking) → IsMeantBy call thread (Some asking)
    → event_of_call thread call ≡ Asks (ask_of asking)
asked_event call thread asking meant_is =
    ap (node_event thread) meant_is.1
    ∙ ap (λ by. Asks (record { thread = by; to = asking.to; what = asking_of asking })) (sym meant_is.0)
