-- The first word, compared with a name byte by byte.
use Rattle.std.proofs.Common.{◌≡◌, ℕ, zero, suc, ◌+◌, ◌<◌, ◌≤◌, List, [], ◌∷◌, ◌++◌, length, take, drop, get_or, Bool}
use Rattle.std.proofs.Common.{nat_eq, ◌≢◌, ◌⊎◌, inl, inr, not, true, false, cond, refl, sym, ap, ◌∙◌, arith}
use Rattle.std.proofs.Common.{length-append}
use Rattle.std.proofs.lemmas.Bool.Decides.{eqb_tells}
use Rattle.std.specs.Str.{bytes_eq}
use Rattle.std.proofs.lemmas.Slice.Eq.{bytes_eq-Decides}
use Rattle.std.proofs.Math.Seq.{drop-append_seam}
use Rattle.base_text.specs.Lines.{is_stop, first_word, behind_word}
use Rattle.base_text.specs.Words.{GoesWith, IsSame}
use Rattle.base_text.proofs.Prefixes.{Runs, StopsAt, parted, prefix_len}
use Rattle.base_text.proofs.Decimals.{upto}
use Rattle.base_text.proofs.Seams.{whole}

-- the bytes are those of the name up to a place, and no word ends before it
pub record AreAlike (bytes name : List ℕ) (count : ℕ) : Type 0 where
  pub within : count ≤ length bytes
  pub few : count ≤ length name
  pub same : take count bytes ≡ take count name
  pub runs : Runs bytes count

-- two words have the same bytes up to a place
pub record AreSame (word name : List ℕ) (count : ℕ) : Type 0 where
  pub within : count ≤ length word
  pub few : count ≤ length name
  pub same : take count word ≡ take count name

-- a place of the prefix is one of the bytes, where no word ends
prefix_by : (stop : Bool) (byte : ℕ) (bytes : List ℕ) (place : ℕ) → is_stop byte ≡ stop
    → ((later : ℕ) → later < length (first_word bytes) → (later < length bytes)
    × (get_or (first_word bytes) later 0 ≡ get_or bytes later 0) × (is_stop (get_or bytes later 0) ≡ false))
    → place < length (cond stop [] (byte ∷ first_word bytes))
    → (place < suc (length bytes))
    × (get_or (cond stop [] (byte ∷ first_word bytes)) place 0 ≡ get_or (byte ∷ bytes) place 0)
    × (is_stop (get_or (byte ∷ bytes) place 0) ≡ false)
prefix_by true byte bytes place is more some = absurd (omega arith)
prefix_by false byte bytes zero is more some = (omega arith, refl, is)
prefix_by false byte bytes (suc place) is more some =
    let later = more place (omega arith) in (omega (arith, later.0), later.1, later.2)

prefix_place : (bytes : List ℕ) (place : ℕ) → place < length (first_word bytes) → (place < length bytes)
    × (get_or (first_word bytes) place 0 ≡ get_or bytes place 0) × (is_stop (get_or bytes place 0) ≡ false)
prefix_place [] place some = absurd (omega arith)
prefix_place (byte ∷ bytes) place some =
    prefix_by (is_stop byte) byte bytes place refl (prefix_place bytes) some

-- a test that can't pass
never : (test : Bool) → (test ≡ true → ⊥) → test ≡ false
never true wrong = absurd (wrong refl)
never false wrong = refl

-- words that aren't equal
unequal : (first second : List ℕ) → (first ≡ second → ⊥) → bytes_eq first second ≡ false
unequal first second wrong = never (bytes_eq first second) (λ test. wrong ((bytes_eq-Decides first second).0 test))

take_all : (bytes : List ℕ) (count : ℕ) → length bytes ≤ count → take count bytes ≡ bytes
take_all [] zero long = refl
take_all [] (suc count) long = refl
take_all (byte ∷ bytes) zero long = absurd (omega arith)
take_all (byte ∷ bytes) (suc count) long = ap (λ (more : List ℕ). byte ∷ more) (take_all bytes count (omega arith))

-- two words of one length that are the same to their end, or not
pub same_to_end : (word name : List ℕ) (count : ℕ) → AreSame word name count → length word ≡ length name
    → length name ≤ count → bytes_eq word name ≡ true
same_to_end word name count alike equal long = (bytes_eq-Decides word name).1
    (sym (take_all word count (omega (arith, equal, long))) ∙ alike.same ∙ take_all name count long)

pub other_before : (word name : List ℕ) (count : ℕ) → length word ≡ length name → count < length name
    → (IsSame word name count → ⊥) → bytes_eq word name ≡ false
other_before word name count equal few other = unequal word name (λ same. other (record {
  within = omega (arith, equal, few);
  more = few;
  same = ap (λ (bytes : List ℕ). get_or bytes count 0) same;
}))

pub other_length : (word name : List ℕ) → (length word ≡ length name → ⊥) → bytes_eq word name ≡ false
other_length word name other = unequal word name (λ same. other (ap length same))

-- whether it is the word, by the place to which it is the same
same_by : (word name : List ℕ) (count : ℕ) → AreSame word name count → length word ≡ length name
    → (IsSame word name count → ⊥)
    → ((nat_eq count (length name) ≡ true) × (count ≡ length name))
    ⊎ ((nat_eq count (length name) ≡ false) × (count ≢ length name))
    → nat_eq count (length name) ≡ bytes_eq word name
same_by word name count alike equal other (inl tells) =
    tells.0 ∙ sym (same_to_end word name count alike equal (omega (arith, tells.1)))
same_by word name count alike equal other (inr tells) =
    tells.0 ∙ sym (other_before word name count equal (omega (arith, alike.few, tells.1)) other)

pub is_same_name : (word name : List ℕ) (count : ℕ) → AreSame word name count → length word ≡ length name
    → (IsSame word name count → ⊥) → nat_eq count (length name) ≡ bytes_eq word name
is_same_name word name count alike equal other =
    same_by word name count alike equal other (eqb_tells count (length name))

-- the whole name, and the word ends
pub name_found : (bytes name : List ℕ) (count : ℕ) → AreAlike bytes name count → length name ≤ count
    → StopsAt bytes count → bytes_eq (first_word bytes) name ≡ true
name_found bytes name count alike long stops =
    (bytes_eq-Decides (first_word bytes) name).1 ((parted bytes count alike.within alike.runs stops).0 ∙ alike.same
    ∙ take_all name count long)

-- the whole name, and the word goes on
pub name_longer : (bytes name : List ℕ) (count : ℕ) → AreAlike bytes name count → length name ≤ count
    → count < length bytes → is_stop (get_or bytes count 0) ≡ false → bytes_eq (first_word bytes) name ≡ false
name_longer bytes name count alike long some runs = unequal (first_word bytes) name (λ same.
    let more = prefix_len bytes (suc count) (omega (arith, some)) (λ place before. upto bytes count place alike.runs
    runs before) in
    let equal : length (first_word bytes) ≡ length name = ap length same in
    absurd (omega (arith, more, equal, long)))

-- a name that is longer than all the bytes
pub name_short : (bytes name : List ℕ) → length bytes < length name → bytes_eq (first_word bytes) name ≡ false
name_short bytes name short = unequal (first_word bytes) name (λ same.
    let equal : length (first_word bytes) ≡ length name = ap length same in
    let place = prefix_place bytes (length bytes) (omega (arith, short, equal)) in absurd (omega (arith, place.0)))

-- part of the name, and then another byte, or the end of the word
pub name_other : (bytes name : List ℕ) (count : ℕ) → count < length name → (GoesWith bytes name count → ⊥)
    → bytes_eq (first_word bytes) name ≡ false
name_other bytes name count few other = unequal (first_word bytes) name (λ same.
    let equal : length (first_word bytes) ≡ length name = ap length same in
    let place = prefix_place bytes count (omega (arith, few, equal)) in
    other (record {
      within = place.0;
      more = few;
      same = sym place.1 ∙ ap (λ (word : List ℕ). get_or word count 0) same;
      runs = place.2;
    }))

-- the bytes behind the first word
pub behind_first : (bytes name : List ℕ) → bytes_eq (first_word bytes) name ≡ true → (length name ≤ length bytes)
    × (drop (length name) bytes ≡ behind_word bytes)
behind_first bytes name test =
    let same : first_word bytes ≡ name = (bytes_eq-Decides (first_word bytes) name).0 test in
    let equal : length (first_word bytes) ≡ length name = ap length same in
    let long : length (first_word bytes ++ behind_word bytes) ≡ length (first_word bytes) + length (behind_word bytes) = length-append _ _ in
    let split : length bytes ≡ length (first_word bytes ++ behind_word bytes) = ap length (whole bytes) in (
      omega (arith, long, split, equal),
      ap (λ (count : ℕ). drop count bytes) (sym equal) ∙ ap (drop (length (first_word bytes))) (whole bytes)
          ∙ drop-append_seam (first_word bytes) (behind_word bytes),
    )

-- whether it is the word, by whether it goes on
pub ends_by : (goes equal : Bool) → (goes ≡ true → equal ≡ false) → (goes ≡ false → equal ≡ true) → not goes ≡ equal
ends_by true equal longer found = sym (longer refl)
ends_by false equal longer found = sym (found refl)
