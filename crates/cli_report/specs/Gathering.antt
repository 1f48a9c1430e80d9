-- What is gathered place by place.
use Rattle.std.specs.Prelude.{◌≡◌, ℕ, suc, zero, List, [], ◌∷◌, ◌++◌, Option, Some, None}

-- one step more: what was gathered before, and what this place gave behind it
pub record GivesMore {A : Type 0} (before here : List A → Type 0) (all : List A) : Type 0 where
  pub prefix : List A
  pub last : List A
  pub is_prefix : before prefix
  pub is_last : here last
  pub is : all ≡ prefix ++ last

-- the places below this one gave these, one after another
abbrev pub GivesTo : {A : Type 0} → (gives : ℕ → List A → Type 0) → (places : ℕ) → List A → Type 0
GivesTo gives zero all = all ≡ []
GivesTo gives (suc place) all = GivesMore (GivesTo gives place) (gives place) all

-- what a place gave at most once
abbrev pub list_of : {A : Type 0} → Option A → List A
list_of None = []
list_of (Some one) = one ∷ []

pub record GivesOne {A : Type 0} (gives : ℕ → Option A → Type 0) (place : ℕ) (all : List A) : Type 0 where
  pub one : Option A
  pub is_one : gives place one
  pub are : all ≡ list_of one

-- what is so was added
pub record AddsBy {A : Type 0} (gives : List A → Type 0) (old new : List A) : Type 0 where
  pub added : List A
  pub are : gives added
  pub is : new ≡ old ++ added
