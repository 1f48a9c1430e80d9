-- A new table: its room, and that nothing ran in it.
use Rattle.std.proofs.Common.{ℕ, ◌≡◌, Option, Some, None, List, length, sym, ap, ◌∙◌, inl, inr, arith}
use Rattle.std.proofs.Common.{length-set}
use Rattle.std.specs.Prelude.{slice_get, option_and_then, if◌then◌else◌, ◌==◌}
use Rattle.std.proofs.Math.ListN.{replicate}
use Rattle.std.proofs.lemmas.Option.{slice_get_cases, slice_get_within}
use Rattle.std.proofs.lemmas.List.{length-replicate}
use Rattle.std.proofs.lemmas.List.Folds.{sum_by-replicate}
use Rattle.base_lists.proofs.Indexes.{replicate-is}
use Rattle.base_lists.specs.Cut.{total_of}
use Rattle.base_lists.proofs.Cut.{sum_by-total}
use Rattle.base_lists.proofs.Update.{sum_by-same}
use Rattle.part_window.specs.TableState.{counts_of}
use Rattle.part_window.proofs.NewTable.{count-of}
pub use Rattle.part_window.proofs.NewTable.{narrow-others}
use Rattle.part_window.proofs.ReplyCounts.{run}
use Rattle.part_window.specs.RepliesState.{ReplyState, RepliesState, Unused, run_count, held_count, room, slot_count}
use Rattle.part_window.specs.RepliesState.{slot_at}
use Rattle.part_window.specs.RepliesState.{IsNew}

-- the slots of a node are as many as its credits, and all unused
pub peer-new : {credits : List ℕ} {me : ℕ} {table : RepliesState} → IsNew credits me table
    → (node : ℕ) (peer : List ReplyState) → slice_get table.peers node ≡ Some peer
    → (count : ℕ) × (slice_get credits node ≡ Some count) × (peer ≡ replicate (if node == me then 0 else count) Unused)
peer-new {credits = credits} {me = me} {table = table} new node peer at = elim ((slice_get_cases credits node).1) [
  | inl there ↦
      let is : slice_get table.peers node ≡ Some (replicate (if node == me then 0 else there.0) Unused) =
      new.peers node there.0 there.2 in
      let same : peer ≡ replicate (if node == me then 0 else there.0) Unused = cc in
      (there.0, there.2, same)
  | inr past ↦ absurd (omega (arith, slice_get_within table.peers node peer at, new.nodes, past.0))
]

-- a node has as many slots as it has credits, and the node itself has none
pub slot_count-new : {credits : List ℕ} {me : ℕ} {table : RepliesState} → IsNew credits me table
    → (node count : ℕ) → slice_get credits node ≡ Some count
    → slot_count table node ≡ if node == me then 0 else count
slot_count-new {me = me} new node count at =
    ap (λ (found : Option (List ReplyState)). elim found as (λ _. ℕ) [ Some p ↦ length p | None ↦ 0 ])
    (new.peers node count at)
    ∙ length-replicate (if node == me then 0 else count) Unused

-- as many slots as each other node has credits, over all
pub room-new : (credits : List ℕ) (me : ℕ) (table : RepliesState) → IsNew credits me table
    → room table ≡ total_of (counts_of credits me)
room-new credits me table new =
    sum_by-total (λ (peer : List ReplyState). length peer) table.peers (counts_of credits me)
    (new.nodes ∙ sym (length-set credits me 0))
    (λ node peer count at counted.
    let known = peer-new new node peer at in
    let slots : ℕ = if node == me then 0 else known.0 in
    let same : Some count ≡ Some slots = sym counted ∙ count-of credits me node known.0 known.1 in
    let all : count ≡ slots = cc in
    ap (λ (p : List ReplyState). length p) known.2 ∙ (length-replicate slots Unused ∙ sym all))

-- no request ran
pub held_count-new : (credits : List ℕ) (me : ℕ) (table : RepliesState) → IsNew credits me table
    → held_count table ≡ 0
held_count-new credits me table new =
    sum_by-same run_count table.peers 0 (λ node peer at.
    let known = peer-new new node peer at in
    let slots : ℕ = if node == me then 0 else known.0 in
    ap run_count known.2 ∙ (sum_by-replicate run slots Unused ∙ omega arith))
    ∙ omega arith

-- each slot is unused
pub slot_at-new : (credits : List ℕ) (me : ℕ) (table : RepliesState) → IsNew credits me table
    → (node slot : ℕ) (state : ReplyState) → slot_at table node slot ≡ Some state → state ≡ Unused
slot_at-new credits me table new node slot state at = elim ((slice_get_cases table.peers node).1) [
  | inl there ↦
      let known = peer-new new node there.0 there.2 in
      in_peer there.0 (if node == me then 0 else known.0)
      (sym (ap (option_and_then (λ (p : List ReplyState). slice_get p slot)) there.2) ∙ at) known.2
  | inr past ↦
      let none : slot_at table node slot ≡ None =
      ap (option_and_then (λ (p : List ReplyState). slice_get p slot)) past.1 in
      absurd cc
] where
  in_peer : (peer : List ReplyState) (count : ℕ) → slice_get peer slot ≡ Some state → peer ≡ replicate count Unused
      → state ≡ Unused
  in_peer peer count here is =
      replicate-is count slot Unused state
      (ap (λ (p : List ReplyState). slice_get p slot) (sym is) ∙ here)
