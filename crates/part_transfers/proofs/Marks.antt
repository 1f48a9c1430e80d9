-- What is marked is what a test holds of.
use Rattle.std.proofs.Common.{◌≡◌, ℕ, zero, suc, ◌<◌, Bool, true, false, true≢false, ◌&&◌, ◌||◌, List, [], ◌∷◌, Option}
use Rattle.std.proofs.Common.{None, Some, length, unwrap_or, replicate, refl, sym, ap, ◌∙◌, arith}
use Rattle.std.specs.List.{slice_get, list_any}
use Rattle.base_lists.proofs.Places.{slice_get-replicate}
use Rattle.part_transfers.specs.declared.table.OperationRecord.{OperationRecord}
use Rattle.part_transfers.specs.declared.table.Check.{Check}
use Rattle.part_transfers.specs.Table.{flat}
use Rattle.part_transfers.specs.Syncs.{flag_at}
use Rattle.part_transfers.specs.Table.{on_place, picks, passes, also, AreMarks}

pub mark_is : (test : OperationRecord → Bool) (places : List (Option OperationRecord)) (marks : List Bool) (place : ℕ)
    (there : Option OperationRecord)
    → AreMarks test places marks → place < 256 → slice_get places place ≡ Some there
    → flag_at marks place ≡ on_place test there
mark_is test places marks place there M less at = ap (λ mark. unwrap_or mark false) (M.each place less)
    ∙ ap (λ found. on_place test (flat found)) at

picks_test : (test : OperationRecord → Bool) (check : Check) (there : Option OperationRecord)
    → picks (on_place test there) check there ≡ on_place (λ r. test r && passes check r) there
picks_test test check None = refl
picks_test test check (Some there) = refl

pub picks_is : (test : OperationRecord → Bool) (check : Check) (places : List (Option OperationRecord)) (marks : List Bool)
    (place : ℕ) (there : Option OperationRecord)
    → AreMarks test places marks → place < 256 → slice_get places place ≡ Some there
    → picks (flag_at marks place) check there ≡ on_place (λ r. test r && passes check r) there
picks_is test check places marks place there M less at =
    ap (λ mark. picks mark check there) (mark_is test places marks place there M less at) ∙ picks_test test check there

pub also_is : (test other : OperationRecord → Bool) (there : Option OperationRecord)
    → (on_place test there || on_place other there) ≡ on_place (also test other) there
also_is test other None = refl
also_is test other (Some there) = refl

-- nothing is marked
pub no_marks : (places : List (Option OperationRecord)) → AreMarks (λ there. false) places (replicate 256 false)
no_marks places = record {
  many = refl;
  each = λ place less. slice_get-replicate 256 place false less ∙ ap Some (sym (never (flat (slice_get places place))));
}
  where
    never : (there : Option OperationRecord) → on_place (λ r. false) there ≡ false
    never None = refl
    never (Some there) = refl

-- a test in the place of an equal one
pub marks_by : (test other : OperationRecord → Bool) (places : List (Option OperationRecord)) (marks : List Bool)
    → ((there : OperationRecord) → test there ≡ other there) → AreMarks test places marks → AreMarks other places marks
marks_by test other places marks same M = record {
  many = M.many;
  each = λ place less. M.each place less ∙ ap Some (on (flat (slice_get places place)));
}
  where
    on : (there : Option OperationRecord) → on_place test there ≡ on_place other there
    on None = refl
    on (Some there) = same there

-- where nothing else was marked
pub only : (test : OperationRecord → Bool) (places : List (Option OperationRecord)) (marks : List Bool)
    → AreMarks (also (λ there. false) test) places marks → AreMarks test places marks
only test places marks M = marks_by (also (λ there. false) test) test places marks (λ there. refl) M
