-- One place more.
use Rattle.std.proofs.Common.{◌≡◌, ◌⊎◌, ℕ, ◌+◌, ◌<◌, ◌≤◌, arith, inl, inr, subst, List, [], ◌∷◌, ◌++◌, Option, Some, None, add-one, append-nil, refl, sym, ◌∙◌}
use Rattle.std.proofs.lemmas.Bool.{cases_lt}
use Rattle.cli_report.specs.Gathering.{GivesOne, GivesTo}

-- a place gave these
pub gives_more : {A : Type 0} (gives : ℕ → List A → Type 0) (place : ℕ) (prefix last all : List A) → GivesTo gives place prefix
    → gives place last → all ≡ prefix ++ last → GivesTo gives (place + 1) all
gives_more gives place prefix last all is_prefix is_last is = rw add-one
    record { prefix = prefix; last = last; is_prefix = is_prefix; is_last = is_last; is = is }

-- a place gave one
pub one_more : {A : Type 0} (gives : ℕ → Option A → Type 0) (place : ℕ) (prefix : List A) (one : A) (all : List A)
    → GivesTo (GivesOne gives) place prefix → gives place (Some one) → all ≡ prefix ++ one ∷ []
    → GivesTo (GivesOne gives) (place + 1) all
one_more gives place prefix one all is_prefix is_one is =
    gives_more (GivesOne gives) place prefix (one ∷ []) all is_prefix
    (record { one = Some one; is_one = is_one; are = refl }) is

-- a place gave none
pub none_more : {A : Type 0} (gives : ℕ → Option A → Type 0) (place : ℕ) (prefix all : List A)
    → GivesTo (GivesOne gives) place prefix → gives place None → all ≡ prefix → GivesTo (GivesOne gives) (place + 1) all
none_more gives place prefix all is_prefix is_none is =
    gives_more (GivesOne gives) place prefix [] all is_prefix
    (record { one = None; is_one = is_none; are = refl }) (is ∙ sym (append-nil prefix))

-- what holds below a place, and there, holds below the next one
below_by : (is : ℕ → Type 0) (end : ℕ) → ((place : ℕ) → place < end → is place) → is end
    → (place : ℕ) → place < end + 1 → (place < end) ⊎ (end ≤ place) → is place
below_by is end before here place within (inl less) = before place less
below_by is end before here place within (inr more) =
    let same : end ≡ place = omega (arith, within, more) in subst is same here

pub below_more : (is : ℕ → Type 0) (end : ℕ) → ((place : ℕ) → place < end → is place) → is end
    → (place : ℕ) → place < end + 1 → is place
below_more is end before here place within = below_by is end before here place within (cases_lt place end)
