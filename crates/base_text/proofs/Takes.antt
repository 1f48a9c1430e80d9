-- What is so of a value that was read, by the parts of its reading.
use Rattle.std.proofs.Common.{◌≡◌, Bool, true, false, cond, Option, Some, None, refl, subst}
use Rattle.base_text.specs.Lines.{◌>>=◌, ◌<|>◌}

-- if a value was read, this is so of it
pub record Takes {A : Type 0} (P : A → Type 0) (r : Option A) : Type 0 where
  pub so : (x : A) → r ≡ Some x → P x

-- a value
pub takes_some : {A : Type 0} {P : A → Type 0} {x : A} → P x → Takes {A = A} P (Some x)
takes_some {A} {P} {x} h = record { so = λ y e. let same : x ≡ y = cc in subst P same h }

-- no value
pub takes_none : {A : Type 0} {P : A → Type 0} → Takes {A = A} P None
takes_none = record { so = λ y e. absurd (cc) }

-- what is read on
pub takes_then : {A B : Type 0} (Q : A → Type 0) {P : B → Type 0} {r : Option A} {f : A → Option B} → Takes Q r →
    ((x : A) → Q x → Takes P (f x)) → Takes P (r >>= f)
takes_then Q {P} {r = Some x} {f} t more = more x (t.so x refl)
takes_then Q {P} {r = None} {f} t more = takes_none

-- what is read by a test
pub takes_if : {A : Type 0} {P : A → Type 0} {b : Bool} {r s : Option A} → (b ≡ true → Takes P r) → (b ≡ false
    → Takes P s) → Takes P (cond b r s)
takes_if {A} {P} {b = true} {r} {s} is isnt = is refl
takes_if {A} {P} {b = false} {r} {s} is isnt = isnt refl

-- what is so of a value is so of it in other words
pub takes_weaker : {A : Type 0} (P : A → Type 0) {Q : A → Type 0} {r : Option A} → Takes P r → ((x : A) → P x → Q x)
    → Takes Q r
takes_weaker P t f = record { so = λ x e. f x (t.so x e) }

-- what was found, or else another
pub takes_or : {A : Type 0} {P : A → Type 0} {r s : Option A} → Takes P r → Takes P s → Takes P (r <|> s)
takes_or {A} {P} {r = Some x} {s} t u = t
takes_or {A} {P} {r = None} {s} t u = u
