use Rattle.std.proofs.Common.{ℕ, ◌≡◌, ◌+◌, Option, Some, None, List}
use Rattle.std.proofs.Common.{length, ap, sym, ◌∙◌, subst, refl, arith, replicate, length-set}
use Rattle.std.specs.Prelude.{slice_get}
use Rattle.std.specs.Prelude.{if◌then◌else◌, ◌==◌}
use Rattle.base_lists.specs.Cut.{count_at, total_of}
use Rattle.part_window.specs.TableState.{TableState, slots_of}
use Rattle.part_window.specs.TableState.{counts_of}
use Rattle.part_window.specs.SlotsState.{SlotState, Vacant}
use Rattle.part_window.specs.declared.order.Due.{Due}
use Rattle.part_window.specs.CreditViews.{Matches}
use Rattle.part_window.proofs.NewTable.{slots-new, count-of}
use Rattle.std.proofs.lemmas.List.{length-replicate}
use Rattle.std.proofs.lemmas.Option.{slice_get_within}
use Rattle.base_lists.proofs.Indexes.{replicate-is}
use Rattle.part_window.proofs.CreditsViewed.{nodes-is, peer-is}
use Rattle.base_lists.proofs.Places.{slice_get-replicate}
use Rattle.part_window.proofs.CreditsViewed.{peer}
use Rattle.part_window.proofs.credits.CreditSlots.new.Goals as goal

pub invariant_of-result : goal.invariant_of-result
invariant_of-result c =
    let credits = c.args.credits.now in
    let me = c.args.me in
    let is = c.in_ok-table.ensures in
    let table = c.in_ok-table.table in
    let counts : table.counts ≡ counts_of credits me = ap (λ (u : TableState). u.counts) is in
    let slots : table.slots ≡ replicate (total_of (counts_of credits me)) Vacant =
    ap (λ (u : TableState). u.slots) is in
    let long : length table.slots ≡ total_of (counts_of credits me) =
    ap length slots ∙ length-replicate (total_of (counts_of credits me)) Vacant in
    record {
      nodes =
          omega (arith, c.in_ok-given.given.ok.0, c.in_ok-given.ensures.len, ap length counts, length-set credits me 0);
      whole = ap total_of counts ∙ sym long;
      places =
          omega (
            arith,
            ap length c.in_ok-order.ensures,
            length-replicate {A = Option Due} (c.slots.result + 1) None,
            c.slots.ensures.count,
          );
      matched = λ j s at.
          let vacant : s ≡ Vacant =
          replicate-is (total_of (counts_of credits me)) j Vacant s
          (ap (λ (ss : List SlotState). slice_get ss j) (sym slots) ∙ at) in
          let none : slice_get c.in_ok-order.order j ≡ Some None =
          ap (λ (o : List (Option Due)). slice_get o j) c.in_ok-order.ensures
          ∙ slice_get-replicate (c.slots.result + 1) j None
          (omega (arith, slice_get_within table.slots j s at, c.slots.ensures.count)) in
          subst (λ (x : SlotState). Matches table.counts j x (slice_get c.in_ok-order.order j)) (sym vacant) none;
    }

pub returns : goal.returns
returns c =
    let credits = c.args.credits.now in
    let me = c.args.me in
    let is = c.in_ok-table.ensures in
    let table = c.in_ok-table.table in
    let given = c.in_ok-given.given.items in
    let counts : table.counts ≡ counts_of credits me = ap (λ (u : TableState). u.counts) is in
    let nodes : length given ≡ length table.counts =
    omega (arith, c.in_ok-given.given.ok.0, c.in_ok-given.ensures.len, ap length counts, length-set credits me 0) in
    record {
      last = refl;
      nodes = nodes-is c.args.last given table nodes ∙ omega (arith, ap length counts, length-set credits me 0);
      peers = λ j number at.
          let zero_at : slice_get given j ≡ Some 0 =
          ap (λ (xs : List ℕ). slice_get xs j) (c.in_ok-given.ensures.items_if_clones_equal (λ y same. same))
          ∙ slice_get-replicate (length credits) j 0 (slice_get_within credits j number at) in
          let count : count_at table.counts j ≡ (if j == me then 0 else number) =
          ap (λ (cs : List ℕ). count_at cs j) counts
          ∙ ap (λ (o : Option ℕ). elim o as (λ _. ℕ) [ Some k ↦ k | None ↦ 0 ]) (count-of credits me j number at) in
          let slots : slots_of table j ≡ replicate (if j == me then 0 else number) Vacant =
          ap (λ (u : TableState). slots_of u j) is
          ∙ (slots-new credits me j
          ∙ ap (λ (k : ℕ). replicate k Vacant) (ap (λ (cs : List ℕ). count_at cs j) (sym counts) ∙ count)) in
          peer-is c.args.last given table j 0 nodes zero_at ∙ ap (λ (ss : List SlotState). Some (peer 0 ss)) slots;
    }
