-- The names of access regions: no region is ever named as an explicit transfer that began.
use Rattle.std.proofs.Common.{◌≡◌, ◌≢◌, ◌⊎◌, inl, inr, ℕ, zero, suc, ◌+◌, ◌≤◌, ◌&&◌, ◌==◌, Bool, true, false, cond, not, eqb, List, []}
use Rattle.std.proofs.Common.{◌∷◌, ◌++◌, length, map, Option, Some, None, refl, sym, ap, ap₂, subst, ◌∙◌, arith, slice_get}
use Rattle.std.specs.Prelude.{Result, Ok, Err, slice_set, option_and_then, replicate}
use Rattle.std.proofs.lemmas.Bool.{cases_Bool, cases_eq, ne_eqb, eq-eqb, eqb-true, and_parts}
use Rattle.std.proofs.lemmas.Option.{same_Some, slice_get_within}
use Rattle.std.proofs.lemmas.List.{length-append, length-map, length-set, map-append}
use Rattle.base_lists.proofs.Indexes.{get-set_other, get-set_same}
use Rattle.base_lists.specs.Put.{put}
use Rattle.base_lists.specs.Numbered.{element_at}
use Rattle.base_lists.proofs.Put.{put_same, put_other}
use Rattle.part_transfers.specs.declared.regions.Region.{Region}
use Rattle.part_transfers.specs.Regions.{region_of, has_begun, name_of, region_of_serial, after_operation, empty_region}
use Rattle.node_core.specs.ClientRules.{rules}
use Rattle.wire_message.specs.Content.{Content, content_of}
use Rattle.wire_message.specs.Message.{Message}
use Rattle.wire_message.specs.Parameters.{Parameters}
use Rattle.part_handlers.specs.Runs.{Meaning}
use Rattle.part_handlers.specs.declared.message.Which.{Which}
use Rattle.part_handlers.specs.declared.rules.Forbidden.{Forbidden}
use Rattle.part_handlers.specs.declared.table.Entry.{Entry as TableEntry}
use Rattle.node_core.specs.Library.{notification_handler}
use Rattle.node_rules.specs.EndpointLocal.{EndpointLocal, invalid}
use Rattle.node_rules.specs.EndpointRules.{OtherCall, OnBarrier, OnCore, OnTransfers, RecordEvent, Records, after_sent}
use Rattle.node_rules.specs.EndpointRules.{at_the_opening, does_call, endpoint_rules, job_of, unless_forbidden}
use Rattle.node_rules.specs.TransferCalls.{TransferCall, Begin, BeginImplicit, IsIssued, Sync, SyncHandle, SyncAll}
use Rattle.node_rules.specs.TransferCalls.{SyncSome, SyncImplicit, RegionBegin, RegionEnd, Caller, after_beginning}
use Rattle.node_rules.specs.TransferCalls.{begin_says, begun_as, after_region, implicit_mode, is_at_once, transfer_does}
use Rattle.node_rules.specs.TransferCalls.{transfer_fault, unless_bad, with_name}
use Rattle.node_rules.specs.declared.answer.Answer.{Answer}
use Rattle.node_rules.specs.declared.answer.Answer.TheVariants as answers
use Rattle.node_rules.specs.declared.answer.Begun.{Begun}
use Rattle.node_rules.specs.declared.answer.Begun.TheVariants as begun
use Rattle.spec_node.specs.Behaviour.{Ask, Contact}
use Rattle.spec_node.specs.NodeStep.{Asks as NodeAsks, Does as NodeDoes, Comes as NodeComes, Ticks as NodeTicks}
use Rattle.spec_node.specs.NodeStep.{OfCall, node_after, site_of}
use Rattle.spec_node.specs.Record.{Node}
use Rattle.spec_node.specs.Step.{Site, TickChoice, Retransmits, Rests, Runs, Returns, Sends, Verdict, after_delivery}
use Rattle.spec_node.specs.Step.{after_request, after_tick, request_answer, request_content, tick_choice, verdict, with_asked}
use Rattle.spec_node.specs.Step.{is_exhausted, with_itself, with_sender}
use Rattle.spec_node.specs.declared.answer.Asked.{Asked}
use Rattle.spec_node.specs.declared.answer.Asked.TheVariants as asked
use Rattle.spec_network.specs.World.{Fall, OfNode, EventAt, after_at, falls, run, world_after, world_answer}
use Rattle.part_transfers.specs.Operation.{Operation, after_begin, come_back, fresh, has_next, is_full, issue}
use Rattle.part_transfers.specs.Operation.{region_of as region_by, target, with_back}
use Rattle.part_transfers.specs.Syncs.{Choice, after_handle, chosen, go, handle_answer, in_region, is_empty, is_name, left_by}
use Rattle.part_transfers.specs.Syncs.{members, members_answer}
use Rattle.part_transfers.specs.declared.operation.Handle.{Handle}
use Rattle.part_transfers.specs.declared.operation.Mode.{Mode}
use Rattle.part_transfers.specs.declared.operation.Mode.TheVariants.{Explicit, Implicit, InRegion}
use Rattle.part_transfers.specs.declared.operation.Synced.{Synced}
use Rattle.part_transfers.specs.declared.operation.Synced.TheVariants as synced
use Rattle.part_transfers.specs.declared.operation.Transfer.{Transfer}
use Rattle.law_transfers.specs.TransferLaws.{transfer_event, members_by}
use Rattle.law_transfers.proofs.Begins.{allowed_there, begun_same, caller_of, left_there, told_there}
use Rattle.node_rules.specs.declared.answer.Region.TheVariants as region

-- ---- names

-- the region of each operation
abbrev pub names : List Operation → List (Option ℕ)
names operations = map (λ (operation : Operation). operation.region) operations

-- what marks or counts chunks changes none
names_go : (choice : Choice) (number : ℕ) (operations : List Operation) → names (go choice number operations)
    ≡ names operations
names_go choice number [] = refl
names_go choice number (first ∷ later) =
    ap₂ (λ (one : Option ℕ) (rest : List (Option ℕ)). one ∷ rest) (marked (choice number first))
    (names_go choice (suc number) later)
  where
    marked : (b : Bool) → (cond {A = Operation} b (record first { synced = true }) first).region ≡ first.region
    marked true = refl
    marked false = refl

names_left : (says : Synced) (choice : Choice) (operations : List Operation)
    → names (left_by says choice operations) ≡ names operations
names_left synced.Ok choice operations = names_go choice 1 operations
names_left _ choice operations = refl

names_handle : (says : Synced) (handle : ℕ) (operations : List Operation)
    → names (after_handle says handle operations) ≡ names operations
names_handle says handle operations = elim (cases_eq handle 0) [
  | inl is ↦ rw (eq-eqb handle 0 is) refl
  | inr isnt ↦ rw (ne_eqb handle 0 isnt) (names_left says _ operations)
]

names_issue : (to slot request : ℕ) (bytes : List ℕ) (operations : List Operation)
    → names (issue to slot request bytes operations) ≡ names operations
names_issue to slot request bytes [] = refl
names_issue to slot request bytes (first ∷ later) =
    elim (cases_Bool (has_next first && (target first.transfer == to))) [
      | inl here ↦ rw here refl
      | inr apart ↦ rw apart (ap (λ (rest : List (Option ℕ)). first.region ∷ rest)
          (names_issue to slot request bytes later))
    ]

names_back : (from slot request : ℕ) (operations : List Operation)
    → names (come_back from slot request operations) ≡ names operations
names_back from slot request [] = refl
names_back from slot request (first ∷ later) =
    ap₂ (λ (one : Option ℕ) (rest : List (Option ℕ)). one ∷ rest) one (names_back from slot request later)
  where
    one : (with_back from slot request first).region ≡ first.region
    one = elim (cases_Bool (target first.transfer == from)) [
      | inl here ↦ rw here refl
      | inr apart ↦ rw apart refl
    ]

-- ---- what holds of all names

-- a fact of names, by how many operations began; it holds of the next one, too, where a new name is its number
pub record IsRule (Base : ℕ → Type 0) (Fact : (count name : ℕ) → Type 0) : Type 0 where
  pub more : (count : ℕ) → Base count → Base (suc count)
  pub kept : (count name : ℕ) → Base count → Fact count name → Fact (suc count) name
  pub new : (count : ℕ) → Base count → Fact (suc count) (suc count)

pub record Holds (Base : ℕ → Type 0) (Fact : (count name : ℕ) → Type 0) (operations : List Operation)
    (regions : List (Option Region)) : Type 0 where
  pub base : Base (length operations)
  pub named_so : (place name : ℕ) → slice_get (names operations) place ≡ Some (Some name)
      → Fact (length operations) name
  pub begun_so : (thread name : ℕ) → name_of regions thread ≡ Some name → Fact (length operations) name

abbrev pub HoldsOf : (Base : ℕ → Type 0) → (Fact : (count name : ℕ) → Type 0) → EndpointLocal → Type 0
HoldsOf Base Fact local = Holds Base Fact local.operations local.regions

-- other operations with the same names
same_names : (Base : ℕ → Type 0) (Fact : (count name : ℕ) → Type 0) (before after : List Operation)
    (regions : List (Option Region)) → names after ≡ names before → Holds Base Fact before regions
    → Holds Base Fact after regions
same_names Base Fact before after regions same H =
    let count : length before ≡ length after =
    sym (length-map before (λ (one : Operation). one.region)) ∙ ap length (sym same)
    ∙ length-map after (λ (one : Operation). one.region) in
    record {
      base = subst Base count H.base;
      named_so = λ place name there. subst (λ (n : ℕ). Fact n name) count
          (H.named_so place name (ap (λ (all : List (Option ℕ)). slice_get all place) (sym same) ∙ there));
      begun_so = λ thread name there. subst (λ (n : ℕ). Fact n name) count (H.begun_so thread name there);
    }

-- other regions, whose names have the fact
other_regions : (Base : ℕ → Type 0) (Fact : (count name : ℕ) → Type 0) (operations : List Operation)
    (before after : List (Option Region))
    → ((thread name : ℕ) → name_of after thread ≡ Some name → Fact (length operations) name)
    → Holds Base Fact operations before → Holds Base Fact operations after
other_regions Base Fact operations before after has H =
    record { base = H.base; named_so = H.named_so; begun_so = has }

-- the last of a list, or one before it
last_or : (xs : List (Option ℕ)) (x : Option ℕ) (place : ℕ) (found : Option ℕ)
    → slice_get (xs ++ x ∷ []) place ≡ Some found → (x ≡ found) ⊎ (slice_get xs place ≡ Some found)
last_or [] x zero found there = inl (same_Some x found there)
last_or [] x (suc place) found there = absurd (cc)
last_or (first ∷ xs) x zero found there = inr there
last_or (first ∷ xs) x (suc place) found there = last_or xs x place found there

-- one operation more, in no region, or in one with such a name, or with its own number as a new name
one_more : (Base : ℕ → Type 0) (Fact : (count name : ℕ) → Type 0) → IsRule Base Fact
    → (thread : ℕ) (transfer : Transfer) (mode : Mode) (operations : List Operation) (regions : List (Option Region))
    → ((name : ℕ) → region_by (suc (length operations)) mode ≡ Some name
    → (name ≡ suc (length operations)) ⊎ Fact (length operations) name)
    → Holds Base Fact operations regions
    → Holds Base Fact (operations ++ fresh thread transfer mode (suc (length operations)) ∷ []) regions
one_more Base Fact rule thread transfer mode operations regions own H =
    let new = fresh thread transfer mode (suc (length operations)) in
    let count : suc (length operations) ≡ length (operations ++ new ∷ []) =
    sym (length-append operations (new ∷ []) ∙ omega arith) in
    record {
      base = subst Base count (rule.more (length operations) H.base);
      named_so = λ place name there. subst (λ (n : ℕ). Fact n name) count
          (elim (last_or (names operations) (region_by (suc (length operations)) mode) place (Some name)
          (ap (λ (all : List (Option ℕ)). slice_get all place)
          (sym (map-append (λ (one : Operation). one.region) operations (new ∷ []))) ∙ there)) [
            | inl last ↦ elim (own name last) [
              | inl is ↦ subst (Fact (suc (length operations))) (sym is) (rule.new (length operations) H.base)
              | inr old ↦ rule.kept (length operations) name H.base old
            ]
            | inr before ↦ rule.kept (length operations) name H.base (H.named_so place name before)
          ]);
      begun_so = λ by name there. subst (λ (n : ℕ). Fact n name) count
          (rule.kept (length operations) name H.base (H.begun_so by name there));
    }

-- ---- regions

set_found : (regions : List (Option Region)) (at : ℕ) (new : Option Region) (thread : ℕ) (found : Option Region)
    → slice_get (slice_set regions at new) thread ≡ Some found
    → (found ≡ new) ⊎ (slice_get regions thread ≡ Some found)
set_found regions at new thread found there = elim (cases_eq thread at) [
  | inl same ↦ (let inside = slice_get_within (slice_set regions at new) thread found there in
      let size = length-set regions at new in
      let is : Some new ≡ Some found =
      sym (get-set_same regions at new (omega (arith, inside, size, same)))
      ∙ ap (slice_get (slice_set regions at new)) (sym same) ∙ there in
      inl (sym (same_Some new found is)))
  | inr apart ↦ inr (sym (get-set_other regions at new thread apart) ∙ there)
]

-- the name of a region
abbrev name_in : Option Region → Option ℕ
name_in None = None
name_in (Some region) = region.name

no_name : (name : ℕ) → None ≡ Some name → ⊥
no_name name same = cc

name_found : (regions : List (Option Region)) (at : ℕ) (new : Option Region) (thread name : ℕ)
    → name_of (slice_set regions at new) thread ≡ Some name
    → (name_in new ≡ Some name) ⊎ (name_of regions thread ≡ Some name)
name_found regions at new thread name there =
    by_found (slice_get (slice_set regions at new) thread) refl there
  where
    Name : Option (Option Region) → Option ℕ
    Name found = option_and_then (λ (region : Region). region.name)
        (option_and_then (λ (region : Option Region). region) found)

    as_name : (found : Option Region) → Name (Some found) ≡ name_in found
    as_name None = refl
    as_name (Some region) = refl

    by_found : (found : Option (Option Region)) → slice_get (slice_set regions at new) thread ≡ found
        → Name found ≡ Some name → (name_in new ≡ Some name) ⊎ (name_of regions thread ≡ Some name)
    by_found None is named_it = absurd (no_name name named_it)
    by_found (Some found) is named_it = elim (set_found regions at new thread found is) [
      | inl same ↦ inl (ap name_in (sym same) ∙ sym (as_name found) ∙ named_it)
      | inr old ↦ inr (ap Name old ∙ named_it)
    ]

-- ---- the beginning of a transfer

-- the number that it is told is the next one
handle_says : (fault : Option Which) (at_once full : Bool) (next : ℕ) (handle : Handle)
    → unless_bad fault (cond at_once begun.Done (begun_as (cond full (Err (record {})) (Ok (record { serial = next })))))
    ≡ begun.Handle handle → (full ≡ false) × (handle.serial ≡ next)
handle_says (Some part) at_once full next handle is = absurd (cc)
handle_says None true full next handle is = absurd (cc)
handle_says None false true next handle is = absurd (cc)
handle_says None false false next handle is = (refl, sym (ap (λ (h : Handle). h.serial) (same _ _ is)))
  where
    same : (one other : Handle) → begun.Handle one ≡ begun.Handle other → one ≡ other
    same one other e = cc

-- its operation is in no region, or in one with such a name, or names one anew
abbrev IsOwn : (Fact : (count name : ℕ) → Type 0) → List Operation → Mode → Type 0
IsOwn Fact operations mode =
    (name : ℕ) → region_by (suc (length operations)) mode ≡ Some name
    → (name ≡ suc (length operations)) ⊎ Fact (length operations) name

begin_holds : (Base : ℕ → Type 0) (Fact : (count name : ℕ) → Type 0) → IsRule Base Fact → (caller : Caller)
    (transfer : Transfer) (mode : Mode) (says : Begun) (local : EndpointLocal) → IsOwn Fact local.operations mode
    → HoldsOf Base Fact local
    → Holds Base Fact (after_beginning caller transfer mode says local).operations local.regions
begin_holds Base Fact rule caller transfer mode (begun.Handle handle) local own H =
    elim (cases_Bool (is_full local.operations)) [
      | inl full ↦ rw full H
      | inr room ↦ rw room (one_more Base Fact rule caller.thread transfer mode local.operations local.regions own H)
    ]
begin_holds Base Fact rule caller transfer mode begun.Done local own H = H
begin_holds Base Fact rule caller transfer mode (begun.BadArg part) local own H = H
begin_holds Base Fact rule caller transfer mode begun.TooMany local own H = H

-- an implicit one names the region that its thread has begun, where that has no name
named_found : (regions : List (Option Region)) (thread serial by name : ℕ)
    → name_of (after_operation regions thread serial) by ≡ Some name
    → (name ≡ serial) ⊎ (name_of regions by ≡ Some name)
named_found regions thread serial by name there = by_region (region_of regions thread) there
  where
    After : Option Region → List (Option Region)
    After found = elim found [
      | None ↦ regions
      | Some region ↦ elim region.name [
        | None ↦ slice_set regions thread (Some (region_of_serial serial))
        | Some first ↦ regions
      ]
    ]

    by_name : (found : Option ℕ) → name_of (elim found [
      | None ↦ slice_set regions thread (Some (region_of_serial serial))
      | Some first ↦ regions
    ]) by ≡ Some name → (name ≡ serial) ⊎ (name_of regions by ≡ Some name)
    by_name None is = elim (name_found regions thread (Some (region_of_serial serial)) by name is) [
      | inl new ↦ inl (sym (same_Some serial name new))
      | inr old ↦ inr old
    ]
    by_name (Some first) is = inr is

    by_region : (found : Option Region) → name_of (After found) by ≡ Some name
        → (name ≡ serial) ⊎ (name_of regions by ≡ Some name)
    by_region None is = inr is
    by_region (Some region) is = by_name region.name is

-- what its mode says of its region
implicit_own : (Base : ℕ → Type 0) (Fact : (count name : ℕ) → Type 0) (operations : List Operation)
    (regions : List (Option Region)) (thread : ℕ) → Holds Base Fact operations regions
    → IsOwn Fact operations (implicit_mode regions thread)
implicit_own Base Fact operations regions thread H = λ name is. elim (cases_Bool (has_begun regions thread)) [
  | inl inside ↦ by_name name (name_of regions thread) refl
      (ap (λ (b : Bool). region_by (suc (length operations)) (cond b (InRegion (name_of regions thread)) Implicit))
      (sym inside) ∙ is)
  | inr outside ↦ absurd (no_name name
      (ap (λ (b : Bool). region_by (suc (length operations)) (cond b (InRegion (name_of regions thread)) Implicit))
      (sym outside) ∙ is))
]
  where
    by_name : (name : ℕ) (found : Option ℕ) → name_of regions thread ≡ found
        → region_by (suc (length operations)) (InRegion found) ≡ Some name
        → (name ≡ suc (length operations)) ⊎ Fact (length operations) name
    by_name name None at same = inl (sym (same_Some (suc (length operations)) name same))
    by_name name (Some first) at same =
        inr (subst (Fact (length operations)) (same_Some first name same) (H.begun_so thread first at))

implicit_holds : (Base : ℕ → Type 0) (Fact : (count name : ℕ) → Type 0) → IsRule Base Fact → (caller : Caller)
    (transfer : Transfer) (says : Begun) (local : EndpointLocal)
    → begin_says caller transfer local.operations ≡ says → HoldsOf Base Fact local
    → Holds Base Fact
    (after_beginning caller transfer (implicit_mode local.regions caller.thread) says local).operations
    (with_name caller.thread says local.regions)
implicit_holds Base Fact rule caller transfer (begun.Handle handle) local is H =
    let it = handle_says (transfer_fault caller.settings transfer) (is_at_once caller.me transfer)
    (is_full local.operations) (suc (length local.operations)) handle is in
    let mode = implicit_mode local.regions caller.thread in
    let new = local.operations ++ fresh caller.thread transfer mode (suc (length local.operations)) ∷ [] in
    let own = implicit_own Base Fact local.operations local.regions caller.thread H in
    let more = one_more Base Fact rule caller.thread transfer mode local.operations local.regions own H in
    let count : suc (length local.operations) ≡ length new =
    sym (length-append local.operations (fresh caller.thread transfer mode (suc (length local.operations)) ∷ [])
    ∙ omega arith) in
    rw it.0 (other_regions Base Fact new local.regions
    (after_operation local.regions caller.thread handle.serial)
    (λ thread name there. elim (named_found local.regions caller.thread handle.serial thread name there) [
      | inl fresh_name ↦ subst (λ (n : ℕ). Fact n name) count
          (subst (Fact (suc (length local.operations))) (sym (fresh_name ∙ it.1))
          (rule.new (length local.operations) H.base))
      | inr old ↦ more.begun_so thread name old
    ]) more)
implicit_holds Base Fact rule caller transfer begun.Done local is H = H
implicit_holds Base Fact rule caller transfer (begun.BadArg part) local is H = H
implicit_holds Base Fact rule caller transfer begun.TooMany local is H = H

-- ---- what a call leaves

fewer : (Base : ℕ → Type 0) (Fact : (count name : ℕ) → Type 0) (operations : List Operation)
    (regions : List (Option Region)) (at : ℕ) (new : Option Region) → name_in new ≡ None
    → Holds Base Fact operations regions → Holds Base Fact operations (slice_set regions at new)
fewer Base Fact operations regions at new none H =
    other_regions Base Fact operations regions (slice_set regions at new)
    (λ thread name there. elim (name_found regions at new thread name there) [
      | inl named_it ↦ absurd (no_name name (sym none ∙ named_it))
      | inr old ↦ H.begun_so thread name old
    ]) H

ended_holds : (Base : ℕ → Type 0) (Fact : (count name : ℕ) → Type 0) (caller : Caller) (register : ℕ)
    (was : Option Region) (local : EndpointLocal) → HoldsOf Base Fact local
    → HoldsOf Base Fact (after_region caller register was local).1
ended_holds Base Fact caller register None local H = H
ended_holds Base Fact caller register (Some was) local H = by_name was.name
  where
    Outcome : Option ℕ → Answer × EndpointLocal
    Outcome found = elim found [
      | None ↦ (
        answers.Region region.Done,
        record local {
          regions = slice_set local.regions caller.thread None;
          registers = slice_set local.registers register invalid;
        },
      )
      | Some name ↦ (
        answers.Region (region.Handle (record { serial = name })),
        record local {
          regions = slice_set local.regions caller.thread None;
          registers = slice_set local.registers register (record { serial = name });
        },
      )
    ]

    by_name : (found : Option ℕ) → HoldsOf Base Fact (Outcome found).1
    by_name None = fewer Base Fact local.operations local.regions caller.thread None refl H
    by_name (Some name) = fewer Base Fact local.operations local.regions caller.thread None refl H

marked_holds : (Base : ℕ → Type 0) (Fact : (count name : ℕ) → Type 0) (local : EndpointLocal)
    (operations : List Operation) → names operations ≡ names local.operations → HoldsOf Base Fact local
    → Holds Base Fact operations local.regions
marked_holds Base Fact local operations same H =
    same_names Base Fact local.operations operations local.regions same H

transfer_holds : (Base : ℕ → Type 0) (Fact : (count name : ℕ) → Type 0) → IsRule Base Fact → (caller : Caller)
    (call : TransferCall) (local : EndpointLocal) → HoldsOf Base Fact local
    → HoldsOf Base Fact (transfer_does caller call local).1
transfer_holds Base Fact rule caller (Begin register transfer) local H =
    let it = begin_holds Base Fact rule caller transfer Explicit (begin_says caller transfer local.operations) local
    (λ name is. absurd (no_name name is)) H in
    by_says (begin_says caller transfer local.operations) it
  where
    by_says : (says : Begun) → Holds Base Fact (after_beginning caller transfer Explicit says local).operations
        local.regions
        → Holds Base Fact (after_beginning caller transfer Explicit says local).operations
        (after_beginning caller transfer Explicit says local).regions
    by_says (begun.Handle handle) it = it
    by_says begun.Done it = it
    by_says (begun.BadArg part) it = it
    by_says begun.TooMany it = it
transfer_holds Base Fact rule caller (BeginImplicit transfer) local H =
    implicit_holds Base Fact rule caller transfer (begin_says caller transfer local.operations) local refl H
transfer_holds Base Fact rule caller (IsIssued register) local H = H
transfer_holds Base Fact rule caller (Sync register) local H =
    marked_holds Base Fact local _ (names_handle _ _ local.operations) H
transfer_holds Base Fact rule caller (SyncHandle handle) local H =
    marked_holds Base Fact local _ (names_handle _ _ local.operations) H
transfer_holds Base Fact rule caller (SyncAll registers) local H =
    marked_holds Base Fact local _ (names_left _ _ local.operations) H
transfer_holds Base Fact rule caller (SyncSome registers) local H =
    marked_holds Base Fact local _ (names_left _ _ local.operations) H
transfer_holds Base Fact rule caller (SyncImplicit some) local H =
    elim (cases_Bool (has_begun local.regions caller.thread)) [
      | inl inside ↦ rw inside H
      | inr outside ↦ rw outside (marked_holds Base Fact local _ (names_left _ _ local.operations) H)
    ]
transfer_holds Base Fact rule caller RegionBegin local H =
    elim (cases_Bool (has_begun local.regions caller.thread)) [
      | inl inside ↦ rw inside H
      | inr outside ↦ rw outside (fewer Base Fact local.operations local.regions caller.thread (Some empty_region) refl H)
    ]
transfer_holds Base Fact rule caller (RegionEnd register) local H =
    ended_holds Base Fact caller register (region_of local.regions caller.thread) local H

judged_holds : (Base : ℕ → Type 0) (Fact : (count name : ℕ) → Type 0) (settings : Parameters)
    (table : List (Option TableEntry)) (meaning : Meaning) (thread : ℕ) (judged : Result (Unit {0}) Forbidden)
    (local : EndpointLocal) (out : Answer × EndpointLocal) → HoldsOf Base Fact local → HoldsOf Base Fact out.1
    → HoldsOf Base Fact (unless_forbidden (endpoint_rules settings table meaning) thread judged local out).1
judged_holds Base Fact settings table meaning thread (Ok allowed) local out H K = K
judged_holds Base Fact settings table meaning thread (Err forbidden) local out H K = H

call_holds : (Base : ℕ → Type 0) (Fact : (count name : ℕ) → Type 0) → IsRule Base Fact → (settings : Parameters)
    (table : List (Option TableEntry)) (meaning : Meaning) (caller : Caller) (call : OtherCall) (local : EndpointLocal)
    → HoldsOf Base Fact local
    → HoldsOf Base Fact
    (does_call (endpoint_rules settings table meaning) (rules settings table meaning) caller call local).1
call_holds Base Fact rule settings table meaning caller (OnCore call) local H = H
call_holds Base Fact rule settings table meaning caller (OnTransfers call) local H =
    judged_holds Base Fact settings table meaning caller.thread _ local (transfer_does caller call local) H
    (transfer_holds Base Fact rule caller call local H)
call_holds Base Fact rule settings table meaning caller (OnBarrier call) local H =
    judged_holds Base Fact settings table meaning caller.thread _ local _ H H

-- ---- what an event leaves

abbrev site_at : Parameters → List (Option TableEntry) → Meaning → (me : ℕ) → Site EndpointLocal
site_at settings table meaning me = site_of (job_of settings table meaning) me

taken : (Base : ℕ → Type 0) (Fact : (count name : ℕ) → Type 0) (settings : Parameters)
    (table : List (Option TableEntry)) (meaning : Meaning) (contact : Contact) (content : Content)
    (local : EndpointLocal) → HoldsOf Base Fact local
    → HoldsOf Base Fact ((endpoint_rules settings table meaning).take contact content local)
taken Base Fact settings table meaning contact content local H =
    marked_holds Base Fact local _ (names_back contact.peer contact.slot contact.number local.operations) H

asks_holds : (Base : ℕ → Type 0) (Fact : (count name : ℕ) → Type 0) (settings : Parameters)
    (table : List (Option TableEntry)) (meaning : Meaning) (me now : ℕ) (node : Node EndpointLocal) (ask : Ask)
    (answer : Asked) → HoldsOf Base Fact node.local
    → HoldsOf Base Fact (after_request (site_at settings table meaning me) node now ask answer).local
asks_holds Base Fact settings table meaning me now node ask (asked.Accepted to slot number) H = H
asks_holds Base Fact settings table meaning me now node ask asked.Ran H =
    let out = (endpoint_rules settings table meaning).run (with_itself me)
    (request_content (site_at settings table meaning me) node ask) node.local in
    taken Base Fact settings table meaning (with_itself me) out.1 out.0 H
asks_holds Base Fact settings table meaning me now node ask (asked.BadArg part) H = H
asks_holds Base Fact settings table meaning me now node ask (asked.Forbidden forbidden) H = H
asks_holds Base Fact settings table meaning me now node ask (asked.LockBusy lock) H = H
asks_holds Base Fact settings table meaning me now node ask asked.Exhausted H = H
asks_holds Base Fact settings table meaning me now node ask asked.NotYet H = H

comes_holds : (Base : ℕ → Type 0) (Fact : (count name : ℕ) → Type 0) (settings : Parameters)
    (table : List (Option TableEntry)) (meaning : Meaning) (me : ℕ) (node : Node EndpointLocal) (message : Message)
    (so : Verdict) → HoldsOf Base Fact node.local
    → HoldsOf Base Fact (after_delivery (site_at settings table meaning me) node message so).local
comes_holds Base Fact settings table meaning me node message Runs H = H
comes_holds Base Fact settings table meaning me node message Returns H =
    taken Base Fact settings table meaning (with_sender me message) (content_of message) node.local H
comes_holds Base Fact settings table meaning me node message so H = H

sent_holds : (Base : ℕ → Type 0) (Fact : (count name : ℕ) → Type 0) (settings : Parameters) (contact : Contact)
    (content : Content) (local : EndpointLocal) → HoldsOf Base Fact local
    → HoldsOf Base Fact (after_sent settings contact content local)
sent_holds Base Fact settings contact content local H = elim (cases_Bool (content.handler == notification_handler)) [
  | inl note ↦ rw note H
  | inr chunk ↦ rw chunk (marked_holds Base Fact local _
      (names_issue contact.peer contact.slot contact.number content.payload local.operations) H)
]

ticks_holds : (Base : ℕ → Type 0) (Fact : (count name : ℕ) → Type 0) (settings : Parameters)
    (table : List (Option TableEntry)) (meaning : Meaning) (me now : ℕ) (node : Node EndpointLocal)
    (choice : TickChoice) → HoldsOf Base Fact node.local
    → HoldsOf Base Fact (after_tick (site_at settings table meaning me) node now choice).local
ticks_holds Base Fact settings table meaning me now node (Retransmits due) H = H
ticks_holds Base Fact settings table meaning me now node (Sends sending) H =
    sent_holds Base Fact settings (with_asked me node sending.to) sending.content node.local H
ticks_holds Base Fact settings table meaning me now node Rests H = H

event_holds : (Base : ℕ → Type 0) (Fact : (count name : ℕ) → Type 0) → IsRule Base Fact → (settings : Parameters)
    (table : List (Option TableEntry)) (meaning : Meaning) (me now : ℕ) (node : Node EndpointLocal) (event : RecordEvent)
    → HoldsOf Base Fact node.local
    → HoldsOf Base Fact (node_after (job_of settings table meaning) me node now event).local
event_holds Base Fact rule settings table meaning me now node (NodeAsks ask) H =
    asks_holds Base Fact settings table meaning me now node ask
    (request_answer (site_at settings table meaning me) node ask) H
event_holds Base Fact rule settings table meaning me now node (NodeDoes thread call) H =
    call_holds Base Fact rule settings table meaning
    (record { settings = settings; me = me; thread = thread; exhausted = is_exhausted settings node }) call node.local H
event_holds Base Fact rule settings table meaning me now node (NodeComes message) H =
    comes_holds Base Fact settings table meaning me node message
    (verdict (site_at settings table meaning me) node message) H
event_holds Base Fact rule settings table meaning me now node NodeTicks H =
    ticks_holds Base Fact settings table meaning me now node
    (tick_choice (site_at settings table meaning me) node now) H

fall_holds : (Base : ℕ → Type 0) (Fact : (count name : ℕ) → Type 0) → IsRule Base Fact → (settings : Parameters)
    (table : List (Option TableEntry)) (meaning : Meaning) (world : Records) (now node : ℕ)
    (fall : Option (Fall OtherCall)) → HoldsOf Base Fact (world node).local
    → HoldsOf Base Fact (after_at (job_of settings table meaning) world now fall node).local
fall_holds Base Fact rule settings table meaning world now node None H = H
fall_holds Base Fact rule settings table meaning world now node (Some fall) H =
    let after = node_after (job_of settings table meaning) fall.node (world fall.node) now fall.event in
    elim (cases_eq node fall.node) [
      | inl is ↦ subst (λ (n : Node EndpointLocal). HoldsOf Base Fact n.local)
          (sym (ap (put world fall.node after) is ∙ put_same world fall.node after))
          (event_holds Base Fact rule settings table meaning fall.node now (world fall.node) fall.event
          (subst (λ (n : ℕ). HoldsOf Base Fact (world n).local) is H))
      | inr other ↦ subst (λ (n : Node EndpointLocal). HoldsOf Base Fact n.local)
          (sym (put_other world fall.node after node other)) H
    ]

-- what holds of a node's names holds after any events
pub run_holds : (Base : ℕ → Type 0) (Fact : (count name : ℕ) → Type 0) → IsRule Base Fact → (settings : Parameters)
    (table : List (Option TableEntry)) (meaning : Meaning) (events : List (EventAt OtherCall)) (world : Records)
    (node : ℕ) → HoldsOf Base Fact (world node).local
    → HoldsOf Base Fact (run (job_of settings table meaning) events world node).local
run_holds Base Fact rule settings table meaning [] world node H = H
run_holds Base Fact rule settings table meaning (event ∷ events) world node H =
    run_holds Base Fact rule settings table meaning events
    (world_after (job_of settings table meaning) world event) node
    (fall_holds Base Fact rule settings table meaning world event.now node (falls settings world event.event) H)

-- ---- names are numbers of operations that began

abbrev Any : ℕ → Type 0
Any count = Unit {0}

abbrev IsGiven : (count name : ℕ) → Type 0
IsGiven count name = name ≤ count

given_rule : IsRule Any IsGiven
given_rule = record {
  more = λ count base. tt;
  kept = λ count name base low. omega (arith, low);
  new = λ count base. omega arith;
}

-- this number, which was given, is no name
abbrev pub AreThere : (number : ℕ) → (count : ℕ) → Type 0
AreThere number count = number ≤ count

abbrev pub IsOther : (number : ℕ) → (count name : ℕ) → Type 0
IsOther number count name = name ≢ number

other_rule : (number : ℕ) → IsRule (AreThere number) (IsOther number)
other_rule number = record {
  more = λ count base. omega (arith, base);
  kept = λ count name base other. other;
  new = λ count base same. absurd (omega (arith, base, same));
}

no_names : (settings : Parameters) (node : ℕ) → HoldsOf Any IsGiven (at_the_opening settings node).local
no_names settings node = record {
  base = tt;
  named_so = λ place name there. absurd (cc);
  begun_so = λ thread name there. absurd (none settings.threads thread name there);
}
  where
    none : (count thread name : ℕ) → name_of (replicate count None) thread ≡ Some name → ⊥
    none zero thread name there = no_name name there
    none (suc count) zero name there = no_name name there
    none (suc count) (suc thread) name there = none count thread name there

-- an explicit transfer that begins is in no region, and its number is the name of none
explicit_free : (thread : ℕ) (transfer : Transfer) (operations : List Operation) (regions : List (Option Region))
    → Holds Any IsGiven operations regions
    → Holds (AreThere (suc (length operations))) (IsOther (suc (length operations)))
    (operations ++ fresh thread transfer Explicit (suc (length operations)) ∷ []) regions
explicit_free thread transfer operations regions H =
    let new = fresh thread transfer Explicit (suc (length operations)) in
    let count = length-append operations (new ∷ []) in
    record {
      base = omega (arith, count);
      named_so = λ place name there same.
          elim (last_or (names operations) None place (Some name)
          (ap (λ (all : List (Option ℕ)). slice_get all place)
          (sym (map-append (λ (one : Operation). one.region) operations (new ∷ []))) ∙ there)) [
            | inl last ↦ no_name name last
            | inr before ↦ (let low = H.named_so place name before in absurd (omega (arith, low, same)))
          ];
      begun_so = λ by name there same. let low = H.begun_so by name there in absurd (omega (arith, low, same));
    }

begun_holds : (caller : Caller) (register : Option ℕ) (transfer : Transfer) (local : EndpointLocal) (number : ℕ)
    → begin_says caller transfer local.operations ≡ begun.Handle (record { serial = number })
    → HoldsOf Any IsGiven local
    → HoldsOf (AreThere number) (IsOther number) (transfer_does caller (Begin register transfer) local).1
begun_holds caller register transfer local number is H =
    let it = handle_says (transfer_fault caller.settings transfer) (is_at_once caller.me transfer)
    (is_full local.operations) (suc (length local.operations)) (record { serial = number }) is in
    let free : Holds (AreThere number) (IsOther number)
    (local.operations ++ fresh caller.thread transfer Explicit (suc (length local.operations)) ∷ []) local.regions =
    subst (λ (n : ℕ). Holds (AreThere n) (IsOther n)
    (local.operations ++ fresh caller.thread transfer Explicit (suc (length local.operations)) ∷ []) local.regions)
    (sym it.1) (explicit_free caller.thread transfer local.operations local.regions H) in
    let there : Holds (AreThere number) (IsOther number)
    (after_begin caller.thread transfer Explicit local.operations) local.regions = rw it.0 free in
    subst (λ (says : Begun). Holds (AreThere number) (IsOther number)
    (after_beginning caller transfer Explicit says local).operations
    (after_beginning caller transfer Explicit says local).regions) (sym is) there

-- after an explicit transfer began, its number is the name of no region, from then on
pub number_is_free : (settings : Parameters) (table : List (Option TableEntry)) (meaning : Meaning)
    (before events : List (EventAt OtherCall)) (now node thread number : ℕ) (register : Option ℕ) (transfer : Transfer)
    → world_answer (job_of settings table meaning)
    (run (job_of settings table meaning) before (at_the_opening settings))
    (transfer_event now node thread (Begin register transfer))
    ≡ OfNode (OfCall (answers.Begun (begun.Handle (record { serial = number }))))
    → HoldsOf (AreThere number) (IsOther number)
    (run (job_of settings table meaning) events (world_after (job_of settings table meaning)
    (run (job_of settings table meaning) before (at_the_opening settings))
    (transfer_event now node thread (Begin register transfer))) node).local
number_is_free settings table meaning before events now node thread number register transfer is =
    let job = job_of settings table meaning in
    let world = run job before (at_the_opening settings) in
    let call = Begin register transfer in
    let answer = answers.Begun (begun.Handle (record { serial = number })) in
    let told = told_there settings table meaning world now node thread call answer is in
    let does = allowed_there settings table meaning world node thread call answer (λ forbidden e. never forbidden e) told
    in
    let says = begun_same _ _ (sym (ap (λ (out : Answer × EndpointLocal). out.0) does) ∙ told) in
    let given = run_holds Any IsGiven given_rule settings table meaning before (at_the_opening settings) node
    (no_names settings node) in
    let left = left_there settings table meaning world now node thread call
    ∙ ap (λ (out : Answer × EndpointLocal). out.1) does in
    run_holds (AreThere number) (IsOther number) (other_rule number) settings table meaning events
    (world_after job world (transfer_event now node thread call)) node
    (subst (HoldsOf (AreThere number) (IsOther number)) (sym left)
    (begun_holds (caller_of settings world node thread) register transfer (world node).local number says given))
  where
    never : (forbidden : Forbidden) → answers.Forbidden forbidden
        ≡ answers.Begun (begun.Handle (record { serial = number })) → ⊥
    never forbidden e = cc

-- ---- a sync of its handle

-- no operation is in a region of that name
none_inside : (number at : ℕ) (operations : List Operation)
    → ((place name : ℕ) → slice_get (names operations) place ≡ Some (Some name) → name ≢ number)
    → chosen (in_region number) at operations ≡ []
none_inside number at [] other = refl
none_inside number at (first ∷ later) other =
    let rest = none_inside number (suc at) later (λ place name there. other (suc place) name there) in
    rw (outside first.region refl (not first.synced)) rest
  where
    outside : (region : Option ℕ) → first.region ≡ region → (b : Bool) → (b && is_name number region) ≡ false
    outside None is true = refl
    outside None is false = refl
    outside (Some name) is true = ne_eqb name number (other 0 name (ap (λ (r : Option ℕ). Some r) is))
    outside (Some name) is false = refl

-- one that was chosen
chosen_there : (choice : Choice) (at : ℕ) (operations : List Operation)
    → is_empty (chosen choice at operations) ≡ false
    → (place : ℕ) × (operation : Operation) × (slice_get operations place ≡ Some operation)
    × (choice (at + place) operation ≡ true)
chosen_there choice at [] some = absurd (cc)
chosen_there choice at (first ∷ later) some = by_choice (choice at first) refl (λ none. chosen_there choice (suc at) later none) some
  where
    Found : Type 0
    Found = (place : ℕ) × (operation : Operation) × (slice_get (first ∷ later) place ≡ Some operation)
        × (choice (at + place) operation ≡ true)

    by_choice : (b : Bool) → choice at first ≡ b
        → (is_empty (chosen choice (suc at) later) ≡ false → (place : ℕ) × (operation : Operation)
        × (slice_get later place ≡ Some operation) × (choice (suc at + place) operation ≡ true))
        → is_empty (cond b (first ∷ chosen choice (suc at) later) (chosen choice (suc at) later)) ≡ false → Found
    by_choice true is rest none =
        let here : at ≡ at + 0 = omega arith in
        (0, first, refl, ap (λ (n : ℕ). choice n first) (sym here) ∙ is)
    by_choice false is rest none =
        let it = rest none in
        let same : at + suc it.0 ≡ suc at + it.0 = omega arith in
        (suc it.0, it.1, it.2, ap (λ (n : ℕ). choice n it.1) same ∙ it.3)

-- an answer of Ok has chosen some
some_chosen : (exhausted : ℕ → Bool) (thread : ℕ) (operations : List Operation)
    → members_answer exhausted thread operations ≡ synced.Ok → is_empty operations ≡ false
some_chosen exhausted thread [] ok = absurd (cc)
some_chosen exhausted thread (first ∷ later) ok = refl

-- the operation of the handle's number, which is complete, and wasn't synchronised before
pub record IsTheOne (local : EndpointLocal) (number : ℕ) : Type 0 where
  pub operation : Operation
  pub there : element_at local.operations number ≡ Some operation
  pub unmarked : operation.synced ≡ false
  pub chosen_so : members_by number local.operations number operation ≡ true

pub the_one : (exhausted : ℕ → Bool) (thread number : ℕ) (local : EndpointLocal) → number ≢ 0
    → HoldsOf (AreThere number) (IsOther number) local
    → handle_answer exhausted thread number local.operations ≡ synced.Ok → IsTheOne local number
the_one exhausted thread number local some H ok =
    let none = none_inside number 1 local.operations H.named_so in
    let operations = local.operations in
    let members_are : (n : ℕ) (one : Operation) → members number operations n one ≡ (not one.synced && (n == number)) =
    λ n one. ap (λ (xs : List Operation). cond (is_empty xs) (not one.synced && (n == number)) (in_region number n one))
    none in
    let answered : members_answer exhausted thread (chosen (members number operations) 1 operations) ≡ synced.Ok =
    ap (λ (b : Bool). cond b synced.Ok
    (members_answer exhausted thread (chosen (members number operations) 1 operations))) (sym (ne_eqb number 0 some)) ∙ ok in
    let it = chosen_there (members number operations) 1 operations
    (some_chosen exhausted thread (chosen (members number operations) 1 operations) answered) in
    let parts = and_parts (not it.1.synced) (eqb (1 + it.0) number) (sym (members_are (1 + it.0) it.1) ∙ it.3) in
    let same : suc it.0 ≡ number = let e = eqb-true (1 + it.0) number parts.1 in omega (arith, e) in
    record {
      operation = it.1;
      there = ap (element_at operations) (sym same) ∙ it.2;
      unmarked = was_not it.1.synced parts.0;
      chosen_so = ap (λ (b : Bool). not b && members number operations number it.1) (ne_eqb number 0 some)
          ∙ members_are number it.1
          ∙ ap₂ (λ (a b : Bool). a && b) parts.0 (eq-eqb number number refl);
    }
  where
    was_not : (b : Bool) → not b ≡ true → b ≡ false
    was_not true is = absurd (cc)
    was_not false is = refl
