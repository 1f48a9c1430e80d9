-- Indexes of handlers, none of which but 0 stands twice.
use Rattle.std.proofs.Common.{◌≡◌, ◌≢◌, ℕ, zero, suc, Bool, true, false, not, ◌&&◌, eqb, List, [], ◌∷◌, ◌++◌, map}
use Rattle.std.proofs.Common.{Some, refl, sym, ap, subst, ◌∙◌, arith, append_assoc, append-nil}
use Rattle.std.specs.Prelude.{slice_get}
use Rattle.std.specs.List.{list_any}
use Rattle.std.proofs.lemmas.Bool.{eqb-false, ne_eqb, or_parts}
use Rattle.std.proofs.lemmas.List.Folds.{list_any-append}
use Rattle.text_job.specs.JobReading.{has_index}
use Rattle.text_job.specs.JobText.{AreApart}
use Rattle.text_job.specs.declared.job.HandlerText.{HandlerText}

-- an index that isn't taken, or 0
abbrev pub IsFresh : (taken : List ℕ) → ℕ → Type 0
IsFresh taken i = i ≢ 0 → list_any (λ t. eqb t i) taken ≡ false

-- each index is fresh behind those before it
abbrev pub AreFresh : (taken : List ℕ) → List HandlerText → Type 0
AreFresh taken [] = Unit {0}
AreFresh taken (h ∷ hs) = IsFresh taken h.index × AreFresh (taken ++ h.index ∷ []) hs

-- an index that is fresh after another one differs from it
later_fresh : (taken : List ℕ) (i j : ℕ) → list_any (λ t. eqb t j) (taken ++ i ∷ []) ≡ false →
    (list_any (λ t. eqb t j) taken ≡ false) × (eqb i j ≡ false)
later_fresh taken i j h =
    let p = or_parts (list_any (λ t. eqb t j) taken) (list_any (λ t. eqb t j) (i ∷ [])) (sym
    (list_any-append (λ t. eqb t j) taken (i ∷ [])) ∙ h) in
    (p.0, (or_parts (eqb i j) false p.1).0)

-- each handler has a fresh index
fresh_at : (taken : List ℕ) (hs : List HandlerText) (l : ℕ) (h : HandlerText) → AreFresh taken hs → slice_get hs l
    ≡ Some h → IsFresh taken h.index
fresh_at taken [] l h f e = absurd (cc)
fresh_at taken (x ∷ xs) zero h f e = let same : x ≡ h = cc in subst (λ
    (y : HandlerText). IsFresh taken y.index) same f.0
fresh_at taken (x ∷ xs) (suc l) h f e = λ n. (later_fresh taken x.index h.index (fresh_at
    (taken ++ x.index ∷ []) xs l h f.1 e n)).0

-- a later handler has another index
other_index : (taken : List ℕ) (x : HandlerText) (xs : List HandlerText) (l : ℕ) (h : HandlerText) → AreFresh (taken
    ++ x.index ∷ []) xs → slice_get xs l ≡ Some h → h.index ≢ 0 → x.index ≡ h.index → ⊥
other_index taken x xs l h f e n same = eqb-false x.index h.index (later_fresh taken x.index h.index
    (fresh_at (taken ++ x.index ∷ []) xs l h f e n)).1 same

-- where each index is fresh, no index but 0 stands twice
pub fresh_apart : (taken : List ℕ) (hs : List HandlerText) → AreFresh taken hs → AreApart hs
fresh_apart taken [] f k l g h a b n same = absurd (cc)
fresh_apart taken (x ∷ xs) f zero zero g h a b n same = refl
fresh_apart taken (x ∷ xs) f zero (suc l) g h a b n same =
    let is : x ≡ g = cc in
    let equal : x.index ≡ h.index = ap (λ (y : HandlerText). y.index) is ∙ same in
    absurd (other_index taken x xs l h f.1 b (λ z. n (same ∙ z)) equal)
fresh_apart taken (x ∷ xs) f (suc k) zero g h a b n same =
    let is : x ≡ h = cc in
    let equal : x.index ≡ g.index = ap (λ (y : HandlerText). y.index) is ∙ sym same in
    absurd (other_index taken x xs k g f.1 a n equal)
fresh_apart taken (x ∷ xs) f (suc k) (suc l) g h a b n same = ap suc (fresh_apart
    (taken ++ x.index ∷ []) xs f.1 k l g h a b n same)

-- no handler's index but 0 is taken
abbrev pub AreNew : (taken : List ℕ) → List HandlerText → Type 0
AreNew taken hs = (k : ℕ) (h : HandlerText) → slice_get hs k ≡ Some h → IsFresh taken h.index

-- the later indexes are not taken either
apart_new : (taken : List ℕ) (x : HandlerText) (xs : List HandlerText) → AreApart (x ∷ xs) → AreNew taken (x ∷ xs)
    → AreNew (taken ++ x.index ∷ []) xs
apart_new taken x xs apart new k h e n =
    let differ : x.index ≡ h.index → ⊥ = λ same. let z : zero ≡ suc k = apart zero (suc k) x h refl e
    (λ y. n (sym same ∙ y)) same in omega arith in
    list_any-append (λ t. eqb t h.index) taken (x.index ∷ []) ∙ rw (
      new (suc k) h e n,
      ne_eqb x.index h.index differ,
    ) refl

-- where no index but 0 stands twice, each index is fresh
pub apart_fresh : (taken : List ℕ) (hs : List HandlerText) → AreApart hs → AreNew taken hs → AreFresh taken hs
apart_fresh taken [] apart new = tt
apart_fresh taken (x ∷ xs) apart new = (
  new zero x refl,
  apart_fresh (taken ++ x.index ∷ []) xs (λ k l g h a b n same. let e : suc k ≡ suc l = apart
      (suc k) (suc l) g h a b n same in omega arith) (apart_new taken x xs apart new),
)

-- ---- one handler more

pub fresh_more : (taken : List ℕ) (hs : List HandlerText) (h : HandlerText) → AreFresh taken hs → IsFresh (taken
    ++ map (λ (x : HandlerText). x.index) hs) h.index → AreFresh taken (hs ++ h ∷ [])
fresh_more taken [] h f is = (subst (λ (t : List ℕ). IsFresh t h.index) (append-nil taken) is, tt)
fresh_more taken (x ∷ xs) h f is = (
  f.0,
  fresh_more (taken ++ x.index ∷ []) xs h f.1 (subst (λ (t : List ℕ). IsFresh t h.index) (sym
      (append_assoc taken (x.index ∷ []) (map (λ (y : HandlerText). y.index) xs))) is),
)

-- the test, and the fact
new_by : (t u : Bool) → (not t && u) ≡ false → t ≡ false → u ≡ false
new_by true u h e = absurd (cc)
new_by false u h e = h

pub fresh_from : (hs : List HandlerText) (index : ℕ) → has_index hs index ≡ false → IsFresh
    (map (λ (x : HandlerText). x.index) hs) index
fresh_from hs index h n = new_by (eqb index 0) (list_any (λ t. eqb t index) (map
    (λ (x : HandlerText). x.index) hs)) h (ne_eqb index 0 n)

old_by : (t u : Bool) → (t ≡ false → u ≡ false) → (not t && u) ≡ false
old_by true u h = refl
old_by false u h = h refl

pub fresh_to : (hs : List HandlerText) (index : ℕ) → IsFresh (map (λ (x : HandlerText). x.index) hs) index
    → has_index hs index ≡ false
fresh_to hs index h = old_by (eqb index 0) (list_any (λ t. eqb t index) (map (λ (x : HandlerText). x.index) hs))
    (λ e. h (eqb-false index 0 e))
