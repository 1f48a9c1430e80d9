-- What is told of children where no finish of them was told before.
use Rattle.std.proofs.Common.{◌≡◌, ◌≢◌, inl, inr, ℕ, zero, suc, ◌≤◌, ◌<◌, Bool, true, false, not, ◌==◌, ◌||◌}
use Rattle.std.proofs.Common.{◌&&◌, List, [], ◌∷◌, ◌++◌, length, refl, sym, ap, ◌∙◌, append_assoc, add-one, arith}
use Rattle.std.specs.Prelude.{if◌then◌else◌}
use Rattle.std.specs.List.{list_any}
use Rattle.std.proofs.Math.Bool.{or-true}
use Rattle.std.proofs.lemmas.Bool.{cases_eq}
use Rattle.std.proofs.lemmas.Bool.Decides.{nat_tests}
use Rattle.std.proofs.lemmas.List.{length_push}
use Rattle.std.proofs.lemmas.List.Folds.{list_any-append}
use Rattle.base_io.specs.Spawner.{ChildEnd, SpawnTold, ToldCall, is_finish_of, is_pending, is_start_of, told_end}
use Rattle.base_io.specs.Spawner.{was_started}
use Rattle.base_io.specs.Spawner.ToldCall.{Finish, Start}
use Rattle.cli_launch.specs.Children.{NoneFinished, all_told, finishes_below, starts_below}

same_rank : (rank : ℕ) → (rank == rank) ≡ true
same_rank rank = grind (arith, nat_tests)

other_rank : (one other : ℕ) → one ≢ other → (one == other) ≡ false
other_rank one other apart = grind (arith, nat_tests)

-- a child of a rank below was started
started : (rank count port : ℕ) (input : List ℕ) → rank < count
    → list_any (is_start_of rank) (starts_below count port input) ≡ true
started rank zero port input less = absurd (omega arith)
started rank (suc count) port input less =
    list_any-append (is_start_of rank) (starts_below count port input) (Start count port input ∷ [])
    ∙ (elim (cases_eq rank count) [
      | inl same ↦
          ap (λ b. list_any (is_start_of rank) (starts_below count port input) || (b || false))
          (ap (λ n. n == rank) (sym same) ∙ same_rank rank)
          ∙ or-true (list_any (is_start_of rank) (starts_below count port input))
      | inr apart ↦ ap (λ b. b || ((count == rank) || false)) (started rank count port input (omega arith))
    ])

-- a start is no finish
no_start : (rank count port : ℕ) (input : List ℕ) → list_any (is_finish_of rank) (starts_below count port input) ≡ false
no_start rank zero port input = refl
no_start rank (suc count) port input =
    list_any-append (is_finish_of rank) (starts_below count port input) (Start count port input ∷ [])
    ∙ ap (λ b. b || (false || false)) (no_start rank count port input)

-- those below it were finished, and it was not
not_yet : (rank count : ℕ) → count ≤ rank → list_any (is_finish_of rank) (finishes_below count) ≡ false
not_yet rank zero few = refl
not_yet rank (suc count) few =
    list_any-append (is_finish_of rank) (finishes_below count) (Finish count ∷ [])
    ∙ (ap (λ b. b || ((count == rank) || false)) (not_yet rank count (omega arith))
    ∙ ap (λ b. false || (b || false)) (other_rank count rank (λ same. absurd (omega arith))))

-- so it waits to be finished, if no finish of it was told before
pending : (before : List ToldCall) (rank count port : ℕ) (input : List ℕ)
    → list_any (is_finish_of rank) before ≡ false → rank < count
    → is_pending rank (before ++ starts_below count port input ++ finishes_below rank) ≡ true
pending before rank count port input none less =
    let starts = starts_below count port input in
    let was : was_started rank (before ++ starts ++ finishes_below rank) ≡ true =
    list_any-append (is_start_of rank) (before ++ starts) (finishes_below rank)
    ∙ ap (λ b. b || list_any (is_start_of rank) (finishes_below rank))
    (list_any-append (is_start_of rank) before starts
    ∙ (ap (λ b. list_any (is_start_of rank) before || b) (started rank count port input less)
    ∙ or-true (list_any (is_start_of rank) before))) in
    let not_finished : list_any (is_finish_of rank) (before ++ starts ++ finishes_below rank) ≡ false =
    list_any-append (is_finish_of rank) (before ++ starts) (finishes_below rank)
    ∙ (ap (λ b. b || list_any (is_finish_of rank) (finishes_below rank))
    (list_any-append (is_finish_of rank) before starts
    ∙ (ap (λ b. b || list_any (is_finish_of rank) starts) none
    ∙ ap (λ b. false || b) (no_start rank count port input)))
    ∙ ap (λ b. false || b) (not_yet rank rank (omega arith))) in
    ap (λ b. b && not (list_any (is_finish_of rank) (before ++ starts ++ finishes_below rank))) was
    ∙ ap (λ b. true && not b) not_finished

-- all that is told, and a finish more
abbrev next_told : (count port : ℕ) (input : List ℕ) (ends : List ChildEnd) (end : ChildEnd) → SpawnTold → SpawnTold
next_told count port input ends end told = record {
  calls = (told.calls ++ starts_below count port input ++ finishes_below (length ends)) ++ Finish end.rank ∷ [];
  ended = (told.ended ++ ends) ++ end ∷ [];
}

-- one finish more
pub plain_more : (count port : ℕ) (input : List ℕ) (ends : List ChildEnd) (end : ChildEnd) (told : SpawnTold)
    → NoneFinished count told → end.rank ≡ length ends → length ends < count
    → told_end end (all_told count port input ends told) ≡ all_told count port input (ends ++ end ∷ []) told
plain_more count port input ends end told none is less =
    ap (λ (b : Bool). if b then next_told count port input ends end told else all_told count port input ends told) waits
    ∙ (ap (λ (all : List ToldCall). record { calls = all; ended = (told.ended ++ ends) ++ end ∷ [] }) calls
    ∙ ap (λ (all : List ChildEnd). record {
      calls = told.calls ++ starts_below count port input ++ finishes_below (length (ends ++ end ∷ []));
      ended = all;
    }) (append_assoc told.ended ends (end ∷ [])))
  where
    waits : is_pending end.rank (told.calls ++ starts_below count port input ++ finishes_below (length ends)) ≡ true
    waits =
        ap (λ n. is_pending n (told.calls ++ starts_below count port input ++ finishes_below (length ends))) is
        ∙ pending told.calls (length ends) count port input (none (length ends) less) less

    calls : (told.calls ++ starts_below count port input ++ finishes_below (length ends)) ++ Finish end.rank ∷ []
        ≡ told.calls ++ starts_below count port input ++ finishes_below (length (ends ++ end ∷ []))
    calls =
        append_assoc (told.calls ++ starts_below count port input) (finishes_below (length ends)) (Finish end.rank ∷ [])
        ∙ (ap (λ n. told.calls ++ starts_below count port input ++ (finishes_below (length ends) ++ Finish n ∷ [])) is
        ∙ ap (λ n. told.calls ++ starts_below count port input ++ finishes_below n)
        (sym (length_push ends end ∙ add-one (length ends))))
