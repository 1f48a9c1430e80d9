-- Synchronisation by flags is that by the record.
use Rattle.std.proofs.Common.{◌≡◌, ℕ, suc, ◌<◌, ◌≤◌, Bool, List, [], ◌∷◌, Some, refl, sym, ap, ◌∙◌, subst, arith}
use Rattle.std.specs.Prelude.{◌==◌, ◌||◌, if◌then◌else◌, map}
use Rattle.std.specs.List.{slice_get, list_all, list_any, AllByRecursion}
use Rattle.std.proofs.lemmas.Bool.{cases_Bool, cases_eq, lt-ltb}
use Rattle.std.proofs.Common.{inl, inr, eq-eqb, ne_eqb}
use Rattle.part_transfers.specs.declared.operation.Handle.{Handle}
use Rattle.part_transfers.specs.declared.operation.ImplicitKinds.{ImplicitKinds}
use Rattle.part_transfers.specs.declared.operation.Synced.{Synced}
use Rattle.part_transfers.specs.declared.operation.Synced.TheVariants as synced
use Rattle.part_transfers.specs.declared.transfers.Transfers.{Transfers}
use Rattle.part_transfers.specs.Operation.{Operation, target, is_complete}
use Rattle.part_transfers.specs.Stands.{Stands as TransfersStand, room_of}
use Rattle.part_transfers.specs.Syncs.{Choice, chosen, exhausted_of, exhausted_or, sync_answer, members, handle_answer}
use Rattle.part_transfers.specs.Syncs.{after_handle}
use Rattle.part_transfers.specs.Syncs.{fault_here, fault_of, unless_fault, members_of, all_answer, is_whole, whole_of}
use Rattle.part_transfers.specs.Syncs.{some_answer, implicit_of, implicit_answer, left_by}
use Rattle.spec_node.specs.Record.{Node}
use Rattle.spec_node.specs.Step.{is_exhausted}
use Rattle.part_transfers.specs.Regions.{has_begun}
use Rattle.std.proofs.Common.{false}
use Rattle.spec_node.specs.Under.{under}
use Rattle.node_core.specs.CoreState.{CoreState}
use Rattle.node_core.specs.Known.{other_exhausted}
use Rattle.node_core.specs.CoreContracts.{IsSameNode}
use Rattle.node_rules.specs.EndpointLocal.{EndpointLocal, core_of}
use Rattle.node_rules.specs.TransferCalls.{SyncHandle, SyncImplicit, transfer_does, handle_in}
use Rattle.node_rules.specs.TransferCalls.{emptied_by, whole_registers}
use Rattle.node_rules.specs.declared.answer.Answer.TheVariants as answers
use Rattle.node_endpoint.specs.declared.extended.Extended.{Extended}
use Rattle.node_endpoint.proofs.OwnNumbers.{own_exhausted}
use Rattle.node_endpoint.specs.NodeFlags.{AreExhausted}
use Rattle.node_endpoint.specs.EndpointState.{EndpointStands, ForItsRecord}
use Rattle.node_endpoint.specs.Parts.{EndpointOutcome, PartDoes, endpoint_of}

-- what holds of each
all_by : (P : Operation → Type 0) (operations : List Operation)
    → ((place : ℕ) (operation : Operation) → slice_get operations place ≡ Some operation → P operation)
    → AllByRecursion P operations
all_by P [] each = tt
all_by P (operation ∷ later) each = (each 0 operation refl, all_by P later (λ place o e. each (suc place) o e))

chosen_all : (P : Operation → Type 0) (choice : Choice) (number : ℕ) (operations : List Operation)
    → AllByRecursion P operations → AllByRecursion P (chosen choice number operations)
chosen_all P choice number [] all = tt
chosen_all P choice number (operation ∷ later) all = elim (cases_Bool (choice number operation)) [
  | inl yes_ ↦ rw yes_ (all.0, chosen_all P choice (suc number) later all.1)
  | inr no_ ↦ rw no_ (chosen_all P choice (suc number) later all.1)
]

-- the two tests say the same of an operation's target
abbrev pub Agree : (exhausted other : ℕ → Bool) → Operation → Type 0
Agree exhausted other operation = exhausted (target operation.transfer) ≡ other (target operation.transfer)

exhausted_alike : (exhausted other : ℕ → Bool) (operations : List Operation) → AllByRecursion (Agree exhausted other) operations
    → exhausted_of exhausted operations ≡ exhausted_of other operations
exhausted_alike exhausted other [] all = refl
exhausted_alike exhausted other (operation ∷ later) all = rw (all.0, exhausted_alike exhausted other later all.1) refl

sync_alike : (exhausted other : ℕ → Bool) (operations : List Operation) → AllByRecursion (Agree exhausted other) operations
    → sync_answer exhausted operations ≡ sync_answer other operations
sync_alike exhausted other operations all =
    ap (λ w. if list_all is_complete operations then synced.Ok else exhausted_or w) (exhausted_alike exhausted other operations all)

-- a node's flag, where it is there
exhausted_there : (core : CoreState) (extended : Extended) (node : Node EndpointLocal)
    → EndpointStands (endpoint_of core extended) node → (to : ℕ) → to < core.settings.nodes
    → other_exhausted core.settings core.me (under core_of node) to ≡ is_exhausted core.settings node to
exhausted_there core extended node S to low = rw (lt-ltb to core.settings.nodes low) (elim (cases_eq to core.me) [
  | inl same ↦
      rw (eq-eqb to core.me same)
      (sym (ap (is_exhausted core.settings node) same ∙ own_exhausted core extended node S))
  | inr apart ↦ rw (ne_eqb to core.me apart) refl
])

-- the flags of a record
flags_of : (core : CoreState) (extended : Extended) (node : Node EndpointLocal)
    → EndpointStands (endpoint_of core extended) node
    → AreExhausted core (other_exhausted core.settings core.me (under core_of node))
flags_of core extended node S = record { node = under core_of node; stands = S.core; each = λ to. refl }

agreed : (core : CoreState) (extended : Extended) (node : Node EndpointLocal)
    → EndpointStands (endpoint_of core extended) node
    → AllByRecursion (Agree (other_exhausted core.settings core.me (under core_of node)) (is_exhausted core.settings node))
    node.local.operations
agreed core extended node S =
    all_by (Agree (other_exhausted core.settings core.me (under core_of node)) (is_exhausted core.settings node))
    node.local.operations
    (λ place operation e. exhausted_there core extended node S (target operation.transfer)
    (S.kept.operations (suc place) operation e).there)

handle_alike : (exhausted other : ℕ → Bool) (thread handle : ℕ) (operations : List Operation)
    → AllByRecursion (Agree exhausted other) operations
    → handle_answer exhausted thread handle operations ≡ handle_answer other thread handle operations
handle_alike exhausted other thread handle operations all =
    let its = chosen (members handle operations) 1 operations in
    ap (λ s. if handle == 0 then synced.Ok else unless_fault (fault_here thread its) s)
    (sync_alike exhausted other its (chosen_all (Agree exhausted other) (members handle operations) 1 operations all))

pub all_alike : (exhausted other : ℕ → Bool) (thread : ℕ) (handles : List Handle) (operations : List Operation)
    → AllByRecursion (Agree exhausted other) operations
    → all_answer exhausted thread handles operations ≡ all_answer other thread handles operations
all_alike exhausted other thread handles operations all =
    ap (unless_fault (fault_of thread operations handles))
    (sync_alike exhausted other (chosen (members_of handles operations) 1 operations)
    (chosen_all (Agree exhausted other) (members_of handles operations) 1 operations all))

pub some_alike : (exhausted other : ℕ → Bool) (thread : ℕ) (handles : List Handle) (operations : List Operation)
    → AllByRecursion (Agree exhausted other) operations
    → some_answer exhausted thread handles operations ≡ some_answer other thread handles operations
some_alike exhausted other thread handles operations all =
    ap (λ w. unless_fault (fault_of thread operations handles)
    (if list_all (λ (handle : Handle). handle.serial == 0) handles || list_any (is_whole operations) handles
    then synced.Ok else exhausted_or w))
    (exhausted_alike exhausted other (chosen (members_of handles operations) 1 operations)
    (chosen_all (Agree exhausted other) (members_of handles operations) 1 operations all))

implicit_alike : (exhausted other : ℕ → Bool) (thread : ℕ) (some : ImplicitKinds) (operations : List Operation)
    → AllByRecursion (Agree exhausted other) operations
    → implicit_answer exhausted thread some operations ≡ implicit_answer other thread some operations
implicit_alike exhausted other thread some operations all =
    sync_alike exhausted other (chosen (implicit_of thread some) 1 operations)
    (chosen_all (Agree exhausted other) (implicit_of thread some) 1 operations all)

pub same_core : (core : CoreState) → IsSameNode core core
same_core core = record { settings = refl; me_is = refl; table = refl; segment_length = refl }

-- a handle
pub sync_does : (core : CoreState) (extended : Extended) (transfers : Transfers) (thread : ℕ)
    (handle : Handle) (says : Synced)
    → ((flag : ℕ → Bool) → AreExhausted core flag → (operations : List Operation)
    → TransfersStand extended.transfers operations → says ≡ handle_answer flag thread handle.serial operations)
    → ((operations : List Operation) → TransfersStand extended.transfers operations
    → TransfersStand transfers (after_handle says handle.serial operations))
    → room_of transfers ≡ room_of extended.transfers
    → PartDoes (record { core = core; extended = extended }) thread
    (λ caller kept. transfer_does caller (SyncHandle handle) kept) (answers.Synced says)
    (record { core = core; extended = record extended { transfers = transfers } })
sync_does core extended transfers thread handle says answer stands room = record {
  same = same_core core;
  frame = record { nodes = refl; me_is = refl; threads = refl; room = room };
  steps = λ node S.
      let operations = node.local.operations in
      let flag = other_exhausted core.settings core.me (under core_of node) in
      let is = answer flag (flags_of core extended node S) operations S.transfers
      ∙ handle_alike flag (is_exhausted core.settings node) thread handle.serial operations
      (agreed core extended node S) in (
        ap (λ (s : Synced). answers.Synced s) is,
        record {
          core = S.core;
          transfers = subst (λ (s : Synced). TransfersStand transfers (after_handle s handle.serial operations)) is
              (stands operations S.transfers);
          regions_are = S.regions_are;
          registers_are = S.registers_are;
          barrier = S.barrier;
        },
      );
}

-- implicit operations
pub implicit_does : (core : CoreState) (extended : Extended) (transfers : Transfers) (thread : ℕ)
    (some : ImplicitKinds) (says : Synced)
    → has_begun extended.regions thread ≡ false
    → ((flag : ℕ → Bool) → AreExhausted core flag → (operations : List Operation)
    → TransfersStand extended.transfers operations → says ≡ implicit_answer flag thread some operations)
    → ((operations : List Operation) → TransfersStand extended.transfers operations
    → TransfersStand transfers (left_by says (implicit_of thread some) operations))
    → room_of transfers ≡ room_of extended.transfers
    → PartDoes (record { core = core; extended = extended }) thread
    (λ caller kept. transfer_does caller (SyncImplicit some) kept) (answers.Synced says)
    (record { core = core; extended = record extended { transfers = transfers } })
implicit_does core extended transfers thread some says out answer stands room = record {
  same = same_core core;
  frame = record { nodes = refl; me_is = refl; threads = refl; room = room };
  steps = λ node S.
      let operations = node.local.operations in
      let none : has_begun node.local.regions thread ≡ false =
      ap (λ rs. has_begun rs thread) (sym S.regions_are) ∙ out in
      let flag = other_exhausted core.settings core.me (under core_of node) in
      let is = answer flag (flags_of core extended node S) operations S.transfers
      ∙ implicit_alike flag (is_exhausted core.settings node) thread some operations
      (agreed core extended node S) in (
        rw none (ap (λ (s : Synced). answers.Synced s) is),
        rw none (record {
          core = S.core;
          transfers = subst (λ (s : Synced). TransfersStand transfers
              (left_by s (implicit_of thread some) operations)) is (stands operations S.transfers);
          regions_are = S.regions_are;
          registers_are = S.registers_are;
          barrier = S.barrier;
        }),
      );
}

-- the registers that become invalid
pub emptied_unless : (says : Synced) (which : List ℕ) (registers : List Handle) → (says ≡ synced.Ok → ⊥)
    → emptied_by says which registers ≡ registers
emptied_unless synced.Ok which registers never = absurd (never refl)
emptied_unless _ which registers never = refl

-- a sync of some registers: its answer, which operations it then synchronises, and which registers it empties
pub record Group : Type 0 where
  pub regs : List ℕ
  pub answer : (exhausted : ℕ → Bool) → (thread : ℕ) → List Handle → List Operation → Synced
  pub choice : List Handle → List Operation → Choice
  pub empties : List Operation → List Handle → List ℕ
  -- of the nodes that are exhausted it asks for targets alone
  pub alike : (exhausted other : ℕ → Bool) (thread : ℕ) (handles : List Handle) (operations : List Operation)
      → AllByRecursion (Agree exhausted other) operations
      → answer exhausted thread handles operations ≡ answer other thread handles operations

-- all of them
abbrev pub all_of : List ℕ → Group
all_of regs = record {
  regs = regs;
  answer = all_answer;
  choice = members_of;
  empties = λ operations registers. regs;
  alike = all_alike;
}

-- some of them
abbrev pub some_of : List ℕ → Group
some_of regs = record {
  regs = regs;
  answer = some_answer;
  choice = whole_of;
  empties = λ operations registers. whole_registers operations registers regs;
  alike = some_alike;
}

-- the call
abbrev pub group_outcome : Group → EndpointOutcome
group_outcome group caller local =
    let handles = map (handle_in local.registers) group.regs in
    let says = group.answer caller.exhausted caller.thread handles local.operations in (
      answers.Synced says,
      record local {
        operations = left_by says (group.choice handles local.operations) local.operations;
        registers = emptied_by says (group.empties local.operations local.registers) local.registers;
      },
    )

pub group_does : (group : Group) (core : CoreState) (extended : Extended) (transfers : Transfers)
    (thread : ℕ) (handles : List Handle) (whole : List ℕ) (says : Synced) (registers : List Handle)
    → handles ≡ map (handle_in extended.registers) group.regs
    → ((operations : List Operation) → TransfersStand extended.transfers operations
    → whole ≡ group.empties operations extended.registers)
    → registers ≡ emptied_by says whole extended.registers
    → ((flag : ℕ → Bool) → AreExhausted core flag → (operations : List Operation)
    → TransfersStand extended.transfers operations → says ≡ group.answer flag thread handles operations)
    → ((operations : List Operation) → TransfersStand extended.transfers operations
    → TransfersStand transfers (left_by says (group.choice handles operations) operations))
    → room_of transfers ≡ room_of extended.transfers
    → PartDoes (record { core = core; extended = extended }) thread (group_outcome group) (answers.Synced says)
    (record { core = core; extended = record extended { transfers = transfers; registers = registers } })
group_does group core extended transfers thread handles whole says registers those wholes emptied_so answer
    stands room = record {
      same = same_core core;
      frame = record { nodes = refl; me_is = refl; threads = refl; room = room };
      steps = λ node S.
          let operations = node.local.operations in
          let exhausted = is_exhausted core.settings node in
          let its : handles ≡ map (handle_in node.local.registers) group.regs =
          those ∙ ap (λ rs. map (handle_in rs) group.regs) S.registers_are in
          let flag = other_exhausted core.settings core.me (under core_of node) in
          let is = answer flag (flags_of core extended node S) operations S.transfers
          ∙ group.alike flag exhausted thread handles operations (agreed core extended node S)
          ∙ ap (λ hs. group.answer exhausted thread hs operations) its in (
            ap (λ (s : Synced). answers.Synced s) is,
            record {
              core = S.core;
              transfers = subst (λ (s : Synced). TransfersStand transfers
                  (left_by s (group.choice (map (handle_in node.local.registers) group.regs) operations) operations)) is
                  (subst (λ hs. TransfersStand transfers (left_by says (group.choice hs operations) operations)) its
                  (stands operations S.transfers));
              regions_are = S.regions_are;
              registers_are = emptied_so
                  ∙ ap (λ w. emptied_by says w extended.registers) (wholes operations S.transfers)
                  ∙ ap (λ rs. emptied_by says (group.empties operations rs) rs) S.registers_are
                  ∙ ap (λ (s : Synced). emptied_by s (group.empties operations node.local.registers)
                  node.local.registers) is;
              barrier = S.barrier;
            },
          );
    }
