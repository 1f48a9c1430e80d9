-- What the call that begins a transfer leaves, and a call that synchronises.
use Rattle.std.proofs.Common.{◌≡◌, ℕ, suc, Bool, true, false, List, [], ◌∷◌, ◌++◌, length, Option, None, Some, refl}
use Rattle.std.proofs.Common.{sym, ap, ◌∙◌, subst}
use Rattle.std.specs.Prelude.{Result, Ok, Err, if◌then◌else◌}
use Rattle.wire_message.specs.Parameters.{Parameters}
use Rattle.part_handlers.specs.declared.table.Entry.{Entry}
use Rattle.part_handlers.specs.declared.rules.Forbidden.{Forbidden}
use Rattle.part_handlers.specs.declared.message.Which.{Which}
use Rattle.part_handlers.specs.Runs.{Meaning}
use Rattle.base_lists.proofs.Put.{put_same}
use Rattle.spec_node.specs.Record.{Node}
use Rattle.spec_node.specs.Step.{is_exhausted}
use Rattle.spec_node.specs.NodeStep.{OfCall}
use Rattle.spec_network.specs.World.{WorldAnswer, OfNode, world_answer, world_after}
use Rattle.part_transfers.specs.declared.operation.Handle.{Handle}
use Rattle.part_transfers.specs.declared.operation.Mode.{Mode}
use Rattle.part_transfers.specs.declared.operation.Mode.TheVariants.{Explicit}
use Rattle.part_transfers.specs.declared.operation.Transfer.{Transfer}
use Rattle.part_transfers.specs.Operation.{Operation, is_full, fresh, after_begin}
use Rattle.node_core.specs.ClientRules.{rules}
use Rattle.node_rules.specs.declared.answer.Answer.{Answer}
use Rattle.node_rules.specs.declared.answer.Answer.TheVariants as answers
use Rattle.node_rules.specs.declared.answer.Begun.{Begun}
use Rattle.node_rules.specs.declared.answer.Begun.TheVariants as begun
use Rattle.node_rules.specs.EndpointLocal.{EndpointLocal}
use Rattle.node_rules.specs.EndpointRules.{OnTransfers, Records, endpoint_rules, job_of, does_call}
use Rattle.node_rules.specs.EndpointRules.{unless_forbidden}
use Rattle.node_rules.specs.TransferCalls.{TransferCall, Begin, BeginImplicit}
use Rattle.node_rules.specs.TransferCalls.{Caller, transfer_kind}
use Rattle.node_rules.specs.TransferCalls.{transfer_does, transfer_fault, is_at_once, begun_as, unless_bad}
use Rattle.node_rules.specs.TransferCalls.{begin_says, after_beginning, implicit_mode}
use Rattle.law_transfers.specs.TransferLaws.{IsBeginning, transfer_event}

-- ---- calls of the world

-- a thread of the node, as a caller
abbrev pub caller_of : Parameters → Records → (node thread : ℕ) → Caller
caller_of settings world node thread =
    record { settings = settings; me = node; thread = thread; exhausted = is_exhausted settings (world node) }

-- what a call on transfers answers and leaves, in the job
abbrev pub does_there : Parameters → List (Option Entry) → Meaning → Records → (node thread : ℕ) → TransferCall
    → Answer × EndpointLocal
does_there settings table meaning world node thread call =
    does_call (endpoint_rules settings table meaning) (rules settings table meaning)
    (caller_of settings world node thread) (OnTransfers call) (world node).local

-- what the node keeps after it
pub left_there : (settings : Parameters) (table : List (Option Entry)) (meaning : Meaning) (world : Records)
    (now node thread : ℕ) (call : TransferCall)
    → (world_after (job_of settings table meaning) world (transfer_event now node thread call) node).local
    ≡ (does_there settings table meaning world node thread call).1
left_there settings table meaning world now node thread call =
    ap (λ (n : Node EndpointLocal). n.local) (put_same world node _)

-- what it is answered
pub told_there : (settings : Parameters) (table : List (Option Entry)) (meaning : Meaning) (world : Records)
    (now node thread : ℕ) (call : TransferCall) (answer : Answer)
    → world_answer (job_of settings table meaning) world (transfer_event now node thread call) ≡ OfNode (OfCall answer)
    → (does_there settings table meaning world node thread call).0 ≡ answer
told_there settings table meaning world now node thread call answer is = same _ answer is
  where
    same : (one other : Answer) → ◌≡◌ {A = WorldAnswer Answer} (OfNode (OfCall one)) (OfNode (OfCall other)) → one
        ≡ other
    same one other e = cc

-- a call that isn't answered Forbidden was allowed
allowed : (settings : Parameters) (table : List (Option Entry)) (meaning : Meaning) (thread : ℕ)
    (judged : Result (Unit {0}) Forbidden) (local : EndpointLocal) (out : Answer × EndpointLocal) (answer : Answer)
    → ((forbidden : Forbidden) → answers.Forbidden forbidden ≡ answer → ⊥)
    → (unless_forbidden (endpoint_rules settings table meaning) thread judged local out).0 ≡ answer
    → unless_forbidden (endpoint_rules settings table meaning) thread judged local out ≡ out
allowed settings table meaning thread (Ok t) local out answer not_so is = refl
allowed settings table meaning thread (Err forbidden) local out answer not_so is = absurd (not_so forbidden is)

-- so what it answers and leaves is what a call on transfers does
pub allowed_there : (settings : Parameters) (table : List (Option Entry)) (meaning : Meaning) (world : Records)
    (node thread : ℕ) (call : TransferCall) (answer : Answer)
    → ((forbidden : Forbidden) → answers.Forbidden forbidden ≡ answer → ⊥)
    → (does_there settings table meaning world node thread call).0 ≡ answer
    → does_there settings table meaning world node thread call
    ≡ transfer_does (caller_of settings world node thread) call (world node).local
allowed_there settings table meaning world node thread call answer not_so is =
    allowed settings table meaning thread
    ((endpoint_rules settings table meaning).judges thread (transfer_kind call) (world node).local) (world node).local
    (transfer_does (caller_of settings world node thread) call (world node).local) answer not_so is

-- ---- the beginning

handle_says : (fault : Option Which) (at_once full : Bool) (next number : ℕ)
    → unless_bad fault (if at_once then begun.Done else begun_as
    (if full then Err (record {}) else Ok (record { serial = next })))
    ≡ begun.Handle (record { serial = number })
    → (full ≡ false) × (next ≡ number)
handle_says (Some part) at_once full next number is = absurd (cc)
handle_says None true full next number is = absurd (cc)
handle_says None false true next number is = absurd (cc)
handle_says None false false next number is = (refl, same next number is)
  where
    same : (one other : ℕ) → begun.Handle (record { serial = one }) ≡ begun.Handle (record { serial = other }) → one
        ≡ other
    same one other e = ap (λ (h : Handle). h.serial) (inside _ _ e)
      where
        inside : (h g : Handle) → begun.Handle h ≡ begun.Handle g → h ≡ g
        inside h g f = cc

-- the operation that begins is the last one
pub record BeginsLast (operations after : List Operation) (thread number : ℕ) (transfer : Transfer) : Type 0 where
  pub mode : Mode
  pub number_is : number ≡ suc (length operations)
  pub after_is : after ≡ operations ++ fresh thread transfer mode (suc (length operations)) ∷ []

begins_by : (caller : Caller) (transfer : Transfer) (mode : Mode) (local : EndpointLocal) (number : ℕ)
    → begin_says caller transfer local.operations ≡ begun.Handle (record { serial = number })
    → BeginsLast local.operations (after_beginning caller transfer mode (begin_says caller transfer local.operations)
    local).operations
    caller.thread number transfer
begins_by caller transfer mode local number is =
    let it = handle_says (transfer_fault caller.settings transfer) (is_at_once caller.me transfer)
    (is_full local.operations) (suc (length local.operations)) number is in
    let left : after_begin caller.thread transfer mode local.operations
    ≡ local.operations ++ fresh caller.thread transfer mode (suc (length local.operations)) ∷ [] = rw it.0 refl in
    record {
      mode = mode;
      number_is = sym it.1;
      after_is = ap (λ says. (after_beginning caller transfer mode says local).operations) is ∙ left;
    }

pub begun_same : (one other : Begun) → answers.Begun one ≡ answers.Begun other → one ≡ other
begun_same one other e = cc

pub started_same : (one other : Begun) → answers.Started one ≡ answers.Started other → one ≡ other
started_same one other e = cc

answer_same : (one other : Answer) → ◌≡◌ {A = WorldAnswer Answer} (OfNode (OfCall one)) (OfNode (OfCall other)) → one
    ≡ other
answer_same one other e = cc

pub begins_last : (settings : Parameters) (table : List (Option Entry)) (meaning : Meaning) (world : Records)
    (now node thread : ℕ) (call : TransferCall) (transfer : Transfer) (number : ℕ)
    → IsBeginning call transfer number (world_answer (job_of settings table meaning) world
    (transfer_event now node thread call))
    → BeginsLast (world node).local.operations
    (world_after (job_of settings table meaning) world (transfer_event now node thread call) node).local.operations thread
    number transfer
begins_last settings table meaning world now node thread (Begin register asked) transfer number is =
    let caller = caller_of settings world node thread in
    let call = Begin register asked in
    let answer = answers.Begun (begun.Handle (record { serial = number })) in
    let told = told_there settings table meaning world now node thread call answer is.1 in
    let does = allowed_there settings table meaning world node thread call answer (λ forbidden e. never forbidden e)
    told in
    let it = begins_by caller asked Explicit (world node).local number
    (begun_same _ _ (sym (ap (λ (out : Answer × EndpointLocal). out.0) does) ∙ told)) in
    let left = ap (λ (l : EndpointLocal). l.operations)
    (left_there settings table meaning world now node thread call
    ∙ ap (λ (out : Answer × EndpointLocal). out.1) does) in
    subst (λ t. BeginsLast (world node).local.operations
    (world_after (job_of settings table meaning) world (transfer_event now node thread call) node).local.operations thread
    number t) is.0
    (record { mode = it.mode; number_is = it.number_is; after_is = left ∙ it.after_is })
  where
    never : (forbidden : Forbidden) → answers.Forbidden forbidden
        ≡ answers.Begun (begun.Handle (record { serial = number })) → ⊥
    never forbidden e = cc
begins_last settings table meaning world now node thread (BeginImplicit asked) transfer number is =
    let caller = caller_of settings world node thread in
    let call = BeginImplicit asked in
    let answer = answers.Started (begun.Handle (record { serial = number })) in
    let told = told_there settings table meaning world now node thread call answer is.1 in
    let does = allowed_there settings table meaning world node thread call answer (λ forbidden e. never forbidden e)
    told in
    let it = begins_by caller asked (implicit_mode (world node).local.regions thread) (world node).local number
    (started_same _ _ (sym (ap (λ (out : Answer × EndpointLocal). out.0) does) ∙ told)) in
    let left = ap (λ (l : EndpointLocal). l.operations)
    (left_there settings table meaning world now node thread call
    ∙ ap (λ (out : Answer × EndpointLocal). out.1) does) in
    subst (λ t. BeginsLast (world node).local.operations
    (world_after (job_of settings table meaning) world (transfer_event now node thread call) node).local.operations thread
    number t) is.0
    (record { mode = it.mode; number_is = it.number_is; after_is = left ∙ it.after_is })
  where
    never : (forbidden : Forbidden) → answers.Forbidden forbidden
        ≡ answers.Started (begun.Handle (record { serial = number })) → ⊥
    never forbidden e = cc
begins_last settings table meaning world now node thread _ transfer number is = absurd is
