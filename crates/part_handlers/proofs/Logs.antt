-- The log of all violations so far stays the log of all.
use Rattle.std.proofs.Common.{◌≡◌, ◌+◌, ◌-◌, ℕ, List, [], ◌∷◌, ◌++◌, ap, sym, ◌∙◌, length, arith, min, ◌^◌}
use Rattle.std.proofs.Common.{append_assoc, refl}
use Rattle.std.proofs.lemmas.List.{length-append, append-nil}
use Rattle.std.proofs.lemmas.Grind.{common_steps}
use Rattle.part_handlers.specs.declared.rules.Violation.{Violation}
use Rattle.part_handlers.specs.LogState.{LogRecord, keep_last, log_of, with_violation, notes}

-- only the newest decide which are the newest after one more
keep_last-keep_last : {X : Type 0} (n : ℕ) (xs : List X) (x : X)
    → keep_last (n + 1) (keep_last (n + 1) xs ++ x ∷ []) ≡ keep_last (n + 1) (xs ++ x ∷ [])
keep_last-keep_last n xs x = grind (arith, common_steps)

count-noted : (n : ℕ) → min (min n (2 ^ 64 - 1) + 1) (2 ^ 64 - 1) ≡ min (n + 1) (2 ^ 64 - 1)
count-noted n = omega arith

-- the log of some violations, after one more, is the log of all of them
pub noted-log_of : (before : List Violation) (violation : Violation)
    → with_violation (log_of before) violation ≡ log_of (before ++ violation ∷ [])
noted-log_of before violation =
    ap (λ (n : ℕ). record { count = n; newest = keep_last 64 (keep_last 64 before ++ violation ∷ []) })
    (count-noted (length before) ∙ ap (λ (n : ℕ). min n (2 ^ 64 - 1)) (sym (length-append before (violation ∷ []))))
    ∙ ap (λ (xs : List Violation). record { count = min (length (before ++ violation ∷ [])) (2 ^ 64 - 1); newest = xs })
    (keep_last-keep_last 63 before violation)

-- the log of some violations, after more of them, is the log of all
pub notes-log_of : (before after : List Violation) → notes (log_of before) after ≡ log_of (before ++ after)
notes-log_of before [] = ap log_of (sym (append-nil before))
notes-log_of before (v ∷ rest) =
    ap (λ (log : LogRecord). notes log rest) (noted-log_of before v) ∙ notes-log_of (before ++ v ∷ []) rest
    ∙ ap log_of (append_assoc before (v ∷ []) rest)

-- violations noted one list after another are those of both
pub notes-append : (log : LogRecord) (first second : List Violation)
    → notes log (first ++ second) ≡ notes (notes log first) second
notes-append log [] second = refl
notes-append log (v ∷ rest) second = notes-append (with_violation log v) rest second
