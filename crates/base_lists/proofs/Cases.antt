-- Tests, options and results, by cases.
use Rattle.std.proofs.Common.{◌≡◌, ◌⊎◌, inl, inr, Bool, true, false, true≢false, cond, Option, None, Some, Result, Ok}
use Rattle.std.proofs.Common.{Err, refl, sym}
use Rattle.std.specs.Prelude.{is_none}
use Rattle.std.specs.Option.{is_some, option_or}

-- nothing, or something
pub cases_option : {X : Type 0} (option : Option X) → (option ≡ None) ⊎ ((x : X) × (option ≡ Some x))
cases_option None = inl refl
cases_option (Some x) = inr (x, refl)

-- yes without a word, or no with a reason
pub cases_result : {X : Type 0} (result : Result (Unit {0}) X) → (result ≡ Ok tt) ⊎ ((x : X) × (result ≡ Err x))
cases_result (Ok done) = inl refl
cases_result (Err x) = inr (x, refl)

-- nothing isn't something
pub none_some : {X : Type 0} {x : X} → None ≡ Some x → ⊥
none_some e = cc

-- what tests as nothing is nothing
pub none_is : {X : Type 0} (option : Option X) → is_none option ≡ true → option ≡ None
none_is None e = refl
none_is (Some x) e = absurd (true≢false (sym e))

-- what doesn't test as something is nothing
pub none_if : {X : Type 0} (option : Option X) → is_some option ≡ false → option ≡ None
none_if None e = refl
none_if (Some x) e = absurd (true≢false e)

-- a test whose opposite says yes
pub says_no : (test : Bool) → cond test false true ≡ true → test ≡ false
says_no true e = absurd (true≢false (sym e))
says_no false e = refl

-- the first, or else nothing
pub option_or_none : {X : Type 0} (option : Option X) → option_or option None ≡ option
option_or_none None = refl
option_or_none (Some x) = refl
