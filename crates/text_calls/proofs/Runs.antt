-- A list of words, as a loop reads it.
use Rattle.std.proofs.Common.{◌≡◌, ℕ, zero, suc, ◌-◌, ◌<◌, ◌≤◌, List, [], ◌∷◌, ◌++◌, length, Option, Some, None}
use Rattle.std.proofs.Common.{true, false, ltb, refl, ap, sym, arith, append_assoc, append-nil}
use Rattle.std.proofs.lemmas.Bool.{and_parts, lt-ltb, ltb-true, le-leb, lt-leb}
use Rattle.base_text.specs.Lines.{◌>>=◌}
use Rattle.text_calls.specs.Forms.{Part, Meaning, part_at, each_at, parts_at, many_at}
use Rattle.base_text.specs.Lines.{has_space, has_more}
use Rattle.text_calls.specs.Forms.{Bundle, BundleValue, bundle_at, bundles_at}
use Rattle.base_text.proofs.Prefixes.{cond_yes, cond_no}
use Rattle.base_lists.proofs.Tests.{second_false}

-- what was read so far, and what is read on
abbrev pub with_prefix : {A : Type 0} → List A → Option (List A × List ℕ) → Option (List A × List ℕ)
with_prefix xs None = None
with_prefix xs (Some x) = Some (xs ++ x.0, x.1)

-- nothing was read so far
pub prefix_nil : {A : Type 0} (o : Option (List A × List ℕ)) → with_prefix [] o ≡ o
prefix_nil None = refl
prefix_nil (Some x) = refl

-- one more
prefix_more : {A : Type 0} (xs : List A) (x : A) (o : Option (List A × List ℕ)) → with_prefix xs
    (o >>= λ ys. Some (x ∷ ys.0, ys.1)) ≡ with_prefix (xs ++ x ∷ []) o
prefix_more xs x None = refl
prefix_more xs x (Some ys) = ap (λ zs. Some (zs, ys.1)) (sym (append_assoc xs (x ∷ []) ys.0))

-- one is read on
pub each_more : {A : Type 0} (at : List ℕ → Option (A × List ℕ)) (k j : ℕ) (xs : List A) (x : A)
    (bs after : List ℕ) → k ≡ suc j → has_space bs ≡ true → at bs ≡ Some (x, after)
    → with_prefix xs (each_at at k bs) ≡ with_prefix (xs ++ x ∷ []) (each_at at j after)
unfolding each_at
each_more at zero j xs x bs after e s h = absurd (omega arith)
each_more at (suc k) j xs x bs after e s h =
    let same : k ≡ j = omega arith in
    rw (s, h, same) (prefix_more xs x (each_at at j after))

-- one isn't read
pub each_fail : {A : Type 0} (at : List ℕ → Option (A × List ℕ)) (k : ℕ) (xs : List A) (bs : List ℕ) → 0 < k
    → has_space bs ≡ true → at bs ≡ None → with_prefix xs (each_at at k bs) ≡ None
unfolding each_at
each_fail at zero xs bs e s h = absurd (omega arith)
each_fail at (suc k) xs bs e s h = rw (s, h) refl

-- none follows
each_end : {A : Type 0} (at : List ℕ → Option (A × List ℕ)) (k : ℕ) (xs : List A) (bs : List ℕ)
    → (0 < k → has_space bs ≡ false) → with_prefix xs (each_at at k bs) ≡ Some (xs, bs)
unfolding each_at
each_end at zero xs bs s = ap (λ ys. Some (ys, bs)) (append-nil xs)
each_end at (suc k) xs bs s = rw (s (omega arith)) (ap (λ ys. Some (ys, bs)) (append-nil xs))

-- as many as there are were read
pub each_done : {A : Type 0} (at : List ℕ → Option (A × List ℕ)) (most n k : ℕ) (xs : List A) (bs : List ℕ)
    → k ≡ most - n → has_more n most bs ≡ false → with_prefix xs (each_at at k bs) ≡ Some (xs, bs)
each_done at most n k xs bs e h = each_end at k xs bs (λ lt. second_false (ltb n most) (has_space bs) h
    (lt-ltb n most (omega arith)))

-- so is it with words
pub parts_more : (p : Part) (k j : ℕ) (xs : List (Meaning p)) (x : Meaning p) (bs after : List ℕ) → k ≡ suc j
    → has_space bs ≡ true → part_at p bs ≡ Some (x, after) → with_prefix xs (parts_at p k bs) ≡ with_prefix (xs
    ++ x ∷ []) (parts_at p j after)
unfolding parts_at
parts_more p k j xs x bs after e s h = each_more (part_at p) k j xs x bs after e s h

pub parts_fail : (p : Part) (k : ℕ) (xs : List (Meaning p)) (bs : List ℕ) → 0 < k → has_space bs ≡ true
    → part_at p bs ≡ None → with_prefix xs (parts_at p k bs) ≡ None
unfolding parts_at
parts_fail p k xs bs e s h = each_fail (part_at p) k xs bs e s h

pub parts_done : (p : Part) (most n k : ℕ) (xs : List (Meaning p)) (bs : List ℕ) → k ≡ most - n → has_more n most bs
    ≡ false → with_prefix xs (parts_at p k bs) ≡ Some (xs, bs)
unfolding parts_at
parts_done p most n k xs bs e h = each_done (part_at p) most n k xs bs e h

-- another word follows, and there is room for it
pub more_is : (n most : ℕ) (bs : List ℕ) → has_more n most bs ≡ true → (n < most) × (has_space bs ≡ true)
more_is n most bs h = let q = and_parts (ltb n most) (has_space bs) h in (ltb-true n most q.0, q.1)

-- a list that is read
pub many_some : (p : Part) (least most : ℕ) (bs rest : List ℕ) (xs : List (Meaning p)) → least ≤ length xs
    → parts_at p most bs ≡ Some (xs, rest) → many_at least most p bs ≡ Some (xs, rest)
unfolding many_at
many_some p least most bs rest xs le h = rw h (cond_yes _ _ _ (le-leb least (length xs) le))

-- a list that is too short
pub many_few : (p : Part) (least most : ℕ) (bs rest : List ℕ) (xs : List (Meaning p)) → length xs < least
    → parts_at p most bs ≡ Some (xs, rest) → many_at least most p bs ≡ None
unfolding many_at
many_few p least most bs rest xs lt h = rw h (cond_no _ _ _ (lt-leb least (length xs) lt))

-- no list
pub many_none : (p : Part) (least most : ℕ) (bs : List ℕ) → parts_at p most bs ≡ None → many_at least most p bs ≡ None
unfolding many_at
many_none p least most bs h = rw h refl

-- a list of bundles that is read, one that is too short, and none
pub bundles_some : (b : Bundle) (least most : ℕ) (bs rest : List ℕ) (xs : List (BundleValue b)) → least ≤ length xs
    → each_at (bundle_at b) most bs ≡ Some (xs, rest) → bundles_at least most b bs ≡ Some (xs, rest)
unfolding bundles_at
bundles_some b least most bs rest xs le h = rw h (cond_yes _ _ _ (le-leb least (length xs) le))

pub bundles_few : (b : Bundle) (least most : ℕ) (bs rest : List ℕ) (xs : List (BundleValue b)) → length xs < least
    → each_at (bundle_at b) most bs ≡ Some (xs, rest) → bundles_at least most b bs ≡ None
unfolding bundles_at
bundles_few b least most bs rest xs lt h = rw h (cond_no _ _ _ (lt-leb least (length xs) lt))

pub bundles_none : (b : Bundle) (least most : ℕ) (bs : List ℕ) → each_at (bundle_at b) most bs ≡ None
    → bundles_at least most b bs ≡ None
unfolding bundles_at
bundles_none b least most bs h = rw h refl
