-- Tests of one and of several conditions.
use Rattle.std.proofs.Common.{◌≡◌, Bool, true, false, true≢false, if◌then◌else◌, not, ◌&&◌, Option, None, Some, refl, sym}

-- something isn't nothing
pub some_none : {X : Type 0} {x : X} → Some x ≡ None → ⊥
some_none same = cc

-- a test whose opposite says no
pub not_false : (test : Bool) → not test ≡ false → test ≡ true
not_false true same = refl
not_false false same = absurd (true≢false same)

-- where a test of two says no and the first says yes, the second says no
pub second_false : (first second : Bool) → (first && second) ≡ false → first ≡ true → second ≡ false
second_false true second both first_is = both
second_false false second both first_is = absurd (true≢false (sym first_is))

-- something that is given where a first and a third test say yes and a second no
pub gate : {X : Type 0} (first second third : Bool) (given : Option X) → first ≡ true → second ≡ false → third ≡ true
    → (if first && (not second && third) then given else None) ≡ given
gate first second third given first_is second_is third_is = rw (first_is, second_is, third_is) refl
