-- The beginnings of transfers are those of the record.
use Rattle.std.proofs.Common.{inl, inr, ◌≡◌, ◌≢◌, ℕ, true, false, List, [], ◌∷◌, Option, None, Some, length, refl, sym}
use Rattle.std.proofs.Common.{ap, ◌∙◌, subst}
use Rattle.std.specs.Prelude.{◌==◌, Result, Ok, Err}
use Rattle.std.proofs.lemmas.Bool.{cases_Bool, ne_eqb, eq-eqb}
use Rattle.part_segment.specs.Image.{AllFit, written_by}
use Rattle.part_segment.proofs.Images.{all_fit-append, length-written_by, image-append}
use Rattle.part_handlers.specs.declared.message.Which.{Which}
use Rattle.spec_node.specs.Record.{Node}
use Rattle.spec_node.specs.Step.{with_local}
use Rattle.spec_node.specs.Under.{under}
use Rattle.part_transfers.specs.declared.operation.Handle.{Handle}
use Rattle.part_transfers.specs.declared.operation.Mode.{Mode}
use Rattle.part_transfers.specs.declared.operation.TooMany.{TooMany}
use Rattle.part_transfers.specs.declared.operation.Transfer.{Transfer}
use Rattle.part_transfers.specs.declared.transfers.Transfers.{Transfers}
use Rattle.part_transfers.specs.Operation.{Operation, target, size, begin_answer, after_begin, is_full}
use Rattle.part_transfers.specs.Stands.{Stands as TransfersStand, room_of}
use Rattle.node_core.specs.CoreState.{CoreState}
use Rattle.node_core.specs.CoreContracts.{IsSameNode}
use Rattle.node_core.specs.Kept.{segment_of, with_writes}
use Rattle.node_core.specs.Sizes.{HasSegment}
use Rattle.node_rules.specs.EndpointLocal.{EndpointLocal, core_of}
use Rattle.node_rules.specs.TransferCalls.{transfer_fault, begin_says, begun_as, own_write}
use Rattle.node_rules.specs.TransferCalls.{Caller, BeginImplicit, after_beginning, implicit_mode, with_name}
use Rattle.node_rules.specs.TransferCalls.{transfer_does}
use Rattle.node_rules.specs.declared.answer.Answer.TheVariants as answers
use Rattle.part_transfers.specs.declared.regions.Region.{Region}
use Rattle.part_transfers.specs.Regions.{after_operation, region_of, region_of_serial}
use Rattle.std.proofs.Math.ListN.{length-set}
use Rattle.std.specs.Prelude.{slice_set}
use Rattle.node_rules.specs.declared.answer.Begun.{Begun}
use Rattle.node_rules.specs.declared.answer.Begun.TheVariants as begun
use Rattle.node_rules.proofs.Kept.{IsFaultless, faultless, at_once_fits}
use Rattle.node_endpoint.specs.declared.extended.Extended.{Extended}
use Rattle.node_endpoint.specs.EndpointState.{EndpointStands}
use Rattle.node_endpoint.specs.Parts.{EndpointKeeps, Parts, PartBegins, PartDoes, whole, caller_in, endpoint_of}
use Rattle.node_endpoint.proofs.Calling.{keeps_with, local_stands}
use Rattle.node_endpoint.proofs.Syncs.{same_core}

-- a transfer of the node to itself
pub here_begins : (core : CoreState) (extended : Extended) (thread : ℕ) (transfer : Transfer) (mode : Mode)
    (bytes : List ℕ) → transfer_fault core.settings transfer ≡ None → size transfer ≢ 0
    → target transfer ≡ core.me → HasSegment core
    → bytes ≡ written_by core.segment (own_write core.segment transfer ∷ [])
    → PartBegins (record { core = core; extended = extended })
    (record { thread = thread; transfer = transfer; mode = mode }) begun.Done
    (record { core = record core { segment = bytes }; extended = extended })
here_begins core extended thread transfer mode bytes fine some own has written = record {
  same = same;
  frame = record { nodes = refl; me_is = refl; threads = refl; room = refl };
  steps = λ node S.
      let s = core.settings in
      let kept = node.local.core in
      let segment = segment_of s kept in
      let writes = own_write segment transfer ∷ [] in (
        rw (fine, none, here) refl,
        rw none (keeps_with core (record core { segment = bytes }) extended node (with_writes kept writes) same
            (local_stands core (under core_of node) core.cells bytes (with_writes kept writes) S.core
            (record {
              writes = all_fit-append s.segment kept.writes writes S.core.invariant_.kept.writes (fits segment);
              locks = S.core.invariant_.kept.locks;
            })
            S.core.cells_are
            (written
            ∙ (ap (λ (bytes_ : List ℕ). written_by bytes_ (own_write bytes_ transfer ∷ [])) S.core.segment_is
            ∙ sym (image-append s.segment kept.writes writes))) refl refl) S),
      );
}
  where
    none : (size transfer == 0) ≡ false
    none = ne_eqb (size transfer) 0 some

    here : (target transfer == core.me) ≡ true
    here = eq-eqb (target transfer) core.me own

    good : IsFaultless core.settings transfer
    good = faultless core.settings transfer fine

    fits : (segment : List ℕ) → AllFit core.settings.segment (own_write segment transfer ∷ [])
    fits segment = rw none at (at_once_fits core.settings segment transfer good)

    same : IsSameNode core (record core { segment = bytes })
    same = record {
      settings = refl;
      me_is = refl;
      table = refl;
      segment_length = ap length written
          ∙ length-written_by (length core.segment) core.segment (own_write core.segment transfer ∷ []) refl
          (subst (λ n. AllFit n (own_write core.segment transfer ∷ [])) (sym has)
          (fits core.segment));
    }

-- where no operation began the list is the same
unchanged : (thread : ℕ) (transfer : Transfer) (mode : Mode) (operations : List Operation) (many : TooMany)
    → Err many ≡ begin_answer operations → after_begin thread transfer mode operations ≡ operations
unchanged thread transfer mode operations many e = elim (cases_Bool (is_full operations)) [
  | inl full ↦ rw full refl
  | inr room_ ↦ absurd (never (rw room_ at e))
]
  where
    never : {h : Handle} → Err many ≡ Ok h → ⊥
    never q = cc

-- a transfer by chunks
pub chunks_begin : (core : CoreState) (extended : Extended) (transfers : Transfers) (thread : ℕ)
    (transfer : Transfer) (mode : Mode) (result : Result Handle TooMany)
    → transfer_fault core.settings transfer ≡ None → size transfer ≢ 0 → target transfer ≢ core.me
    → ((operations : List Operation) → TransfersStand extended.transfers operations
    → result ≡ begin_answer operations)
    → ((operations : List Operation) → TransfersStand extended.transfers operations
    → TransfersStand transfers (after_begin thread transfer mode operations))
    → room_of transfers ≡ room_of extended.transfers
    → PartBegins (record { core = core; extended = extended })
    (record { thread = thread; transfer = transfer; mode = mode }) (begun_as result)
    (record { core = core; extended = record extended { transfers = transfers } })
chunks_begin core extended transfers thread transfer mode result fine some other answer stands room = record {
  same = same_core core;
  frame = record { nodes = refl; me_is = refl; threads = refl; room = room };
  steps = λ node S.
      let none : (size transfer == 0) ≡ false = ne_eqb (size transfer) 0 some in
      let far : (target transfer == core.me) ≡ false = ne_eqb (target transfer) core.me other in
      let is = answer node.local.operations S.transfers in (
        rw (fine, none, far) (ap begun_as is),
        left result node S is (stands node.local.operations S.transfers),
      );
}
  where
    left : (r : Result Handle TooMany) → (node : Node EndpointLocal)
        → EndpointStands (endpoint_of core extended) node → r ≡ begin_answer node.local.operations
        → TransfersStand transfers (after_begin thread transfer mode node.local.operations)
        → EndpointKeeps (endpoint_of core (record extended { transfers = transfers })) (with_local node
        (after_beginning (caller_in core node thread) transfer mode (begun_as r) node.local))
    left (Ok handle) node S e T = record {
      core = S.core;
      transfers = T;
      regions_are = S.regions_are;
      registers_are = S.registers_are;
      barrier = S.barrier;
    }
    left (Err many) node S e T = record {
      core = S.core;
      transfers = subst (λ os. TransfersStand transfers os)
          (unchanged thread transfer mode node.local.operations many e) T;
      regions_are = S.regions_are;
      registers_are = S.registers_are;
      barrier = S.barrier;
    }

-- no part is bad
pub no_fault : (fault : Option Which) → ((part : Which) → fault ≡ Some part → ⊥) → fault ≡ None
no_fault None never = refl
no_fault (Some part) never = absurd (never part refl)

-- ---- implicit ones

regions_after : (caller : Caller) (transfer : Transfer) (mode : Mode) (says : Begun) (kept : EndpointLocal)
    → (after_beginning caller transfer mode says kept).regions ≡ kept.regions
regions_after caller transfer mode (begun.Handle handle) kept = refl
regions_after caller transfer mode begun.Done kept = refl
regions_after caller transfer mode (begun.BadArg part) kept = refl
regions_after caller transfer mode begun.TooMany kept = refl

length-after_operation : (regions : List (Option Region)) (thread serial : ℕ)
    → length (after_operation regions thread serial) ≡ length regions
length-after_operation regions thread serial = by (region_of regions thread)
  where
    by : (found : Option Region) → length (elim found as (λ _. List (Option Region)) [
      | None ↦ regions
      | Some region ↦ elim region.name as (λ _. List (Option Region)) [
        | None ↦ slice_set regions thread (Some (region_of_serial serial))
        | Some first ↦ regions
      ]
    ]) ≡ length regions
    by None = refl
    by (Some region) = by_name region.name
      where
        by_name : (name : Option ℕ) → length (elim name as (λ _. List (Option Region)) [
          | None ↦ slice_set regions thread (Some (region_of_serial serial))
          | Some first ↦ regions
        ]) ≡ length regions
        by_name None = length-set regions thread (Some (region_of_serial serial))
        by_name (Some first) = refl

length-with_name : (thread : ℕ) (says : Begun) (regions : List (Option Region))
    → length (with_name thread says regions) ≡ length regions
length-with_name thread (begun.Handle handle) regions = length-after_operation regions thread handle.serial
length-with_name thread begun.Done regions = refl
length-with_name thread (begun.BadArg part) regions = refl
length-with_name thread begun.TooMany regions = refl

-- an implicit one, and the name of its region
pub implicit_begins : (old mid : Parts) (thread : ℕ) (transfer : Transfer) (mode : Mode) (says : Begun)
    (regions : List (Option Region)) → mode ≡ implicit_mode old.extended.regions thread
    → PartBegins old (record { thread = thread; transfer = transfer; mode = mode }) says mid
    → regions ≡ with_name thread says mid.extended.regions
    → PartDoes old thread (λ caller kept. transfer_does caller (BeginImplicit transfer) kept) (answers.Started says)
    (record { core = mid.core; extended = record mid.extended { regions = regions } })
implicit_begins old mid thread transfer mode says regions mode_is B named_so = record {
  same = B.same;
  frame = record {
    nodes = B.frame.nodes;
    me_is = B.frame.me_is;
    threads = ap length named_so ∙ (length-with_name thread says mid.extended.regions ∙ B.frame.threads);
    room = B.frame.room;
  };
  steps = λ node S.
      let it = B.steps node S in
      let caller = caller_in old.core node thread in
      let modes = implicit_mode node.local.regions thread in
      let mode_so : mode ≡ modes = mode_is ∙ ap (λ rs. implicit_mode rs thread) S.regions_are in
      let spoken = begin_says caller transfer node.local.operations in
      let left = subst
      (λ (m : Mode). EndpointKeeps (whole mid) (with_local node (after_beginning caller transfer m says node.local)))
      mode_so it.1 in
      let K = subst
      (λ (b : Begun). EndpointKeeps (whole mid) (with_local node (after_beginning caller transfer modes b node.local)))
      it.0 left in (
        ap (λ (b : Begun). answers.Started b) it.0,
        record {
          core = K.core;
          transfers = K.transfers;
          regions_are = named_so
              ∙ (ap (λ (b : Begun). with_name thread b mid.extended.regions) it.0
              ∙ ap (with_name thread spoken)
              (K.regions_are ∙ regions_after caller transfer modes spoken node.local));
          registers_are = K.registers_are;
          barrier = K.barrier;
        },
      );
}
