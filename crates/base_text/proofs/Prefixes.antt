-- The prefix of bytes, as a loop finds it.
use Rattle.std.proofs.Common.{◌≡◌, ℕ, zero, suc, ◌<◌, ◌≤◌, List, [], ◌∷◌, length, take, drop, get_or, Bool, true}
use Rattle.std.proofs.Common.{false, cond, ◌||◌, map, refl, ap, ◌∙◌, arith}
use Rattle.std.specs.List.{list_any}
use Rattle.base_text.specs.Lines.{is_stop, first_word, behind_word}

-- a test that passes
pub cond_yes : {A : Type 0} (b : Bool) (x y : A) → b ≡ true → cond b x y ≡ x
cond_yes true x y h = refl
cond_yes false x y h = absurd (cc)

-- a test that does not pass
pub cond_no : {A : Type 0} (b : Bool) (x y : A) → b ≡ false → cond b x y ≡ y
cond_no true x y h = absurd (cc)
cond_no false x y h = refl

-- a test that can't fail
by_test : (b : Bool) → (b ≡ false → ⊥) → b ≡ true
by_test true h = refl
by_test false h = absurd (h refl)

-- bytes at which no word ends
abbrev pub Runs : List ℕ → ℕ → Type 0
Runs bs i = (k : ℕ) → k < i → is_stop (get_or bs k 0) ≡ false

-- a word ends there
abbrev pub StopsAt : List ℕ → ℕ → Type 0
StopsAt bs i = i < length bs → is_stop (get_or bs i 0) ≡ true

-- where the word doesn't go on, it ends
pub stops_from : (bs : List ℕ) (i : ℕ) (b : Bool) → b ≡ false → ((i < length bs) × (is_stop (get_or bs i 0) ≡ false)
    → b ≡ true) → StopsAt bs i
stops_from bs i b e f lt = by_test (is_stop (get_or bs i 0)) (λ s. let t = f (lt, s) in absurd (cc))

-- the prefix and the back of bytes
abbrev pub AreParted : List ℕ → ℕ → Type 0
AreParted bs i = (first_word bs ≡ take i bs) × (behind_word bs ≡ drop i bs)

-- where a word ends, the bytes are parted
pub parted : (bs : List ℕ) (i : ℕ) → i ≤ length bs → Runs bs i → StopsAt bs i → AreParted bs i
parted [] zero h r s = (refl, refl)
parted [] (suc i) h r s = absurd (omega arith)
parted (b ∷ bs) zero h r s = let e = s (omega arith) in (cond_yes _ _ _ e, cond_yes _ _ _ e)
parted (b ∷ bs) (suc i) h r s =
    let p = parted bs i (omega arith) (λ k lt. r (suc k) (omega arith)) (λ lt. s (omega arith)) in
    let e : is_stop b ≡ false = r 0 (omega arith) in
    (cond_no _ _ _ e ∙ ap (λ w. b ∷ w) p.0, cond_no _ _ _ e ∙ p.1)

-- bytes at which no word ends are in the prefix
pub prefix_takes : (bs : List ℕ) (i : ℕ) → i ≤ length bs → Runs bs i → take i (first_word bs) ≡ take i bs
prefix_takes bs zero h r = refl
prefix_takes [] (suc i) h r = absurd (omega arith)
prefix_takes (b ∷ bs) (suc i) h r =
    let e : is_stop b ≡ false = r 0 (omega arith) in
    ap (take (suc i)) (cond_no _ _ _ e) ∙ ap (λ w. b ∷ w) (prefix_takes bs i (omega arith) (λ k lt. r (suc k)
    (omega arith)))

-- the prefix is as long as that
pub prefix_len : (bs : List ℕ) (i : ℕ) → i ≤ length bs → Runs bs i → i ≤ length (first_word bs)
prefix_len bs zero h r = omega arith
prefix_len [] (suc i) h r = absurd (omega arith)
prefix_len (b ∷ bs) (suc i) h r =
    let e : is_stop b ≡ false = r 0 (omega arith) in
    let le = prefix_len bs i (omega arith) (λ k lt. r (suc k) (omega arith)) in
    rw e (omega arith)

-- and has them at their places
pub prefix_at : (bs : List ℕ) (i k : ℕ) → i ≤ length bs → Runs bs i → k < i → get_or (first_word bs) k 0 ≡ get_or bs k 0
prefix_at bs zero k h r lt = absurd (omega arith)
prefix_at [] (suc i) k h r lt = absurd (omega arith)
prefix_at (b ∷ bs) (suc i) zero h r lt = let e : is_stop b ≡ false = r 0 (omega arith) in rw e refl
prefix_at (b ∷ bs) (suc i) (suc k) h r lt =
    let e : is_stop b ≡ false = r 0 (omega arith) in
    rw e (prefix_at bs i k (omega arith) (λ j l. r (suc j) (omega arith)) (omega arith))

-- whether any of what is made of them passes a test
pub list_any_map : {A B : Type 0} (test : B → Bool) (f : A → B) (xs : List A) → list_any test (map f xs) ≡ list_any
    (λ x. test (f x)) xs
list_any_map test f [] = refl
list_any_map test f (x ∷ xs) = ap (λ b. test (f x) || b) (list_any_map test f xs)
