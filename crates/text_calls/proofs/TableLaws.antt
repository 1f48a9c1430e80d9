-- What a table makes of a line is what the row of the first form of its name makes.
use Rattle.std.proofs.Common.{◌≡◌, ℕ, ◌+◌, List, [], ◌∷◌, Option, Some, None, Bool, true, false, cond, refl, ap, ◌∙◌}
use Rattle.std.proofs.Common.{map}
use Rattle.std.specs.Str.{bytes_eq}
use Rattle.base_text.specs.Lines.{Word, ◌>>=◌, first_word, behind_word}
use Rattle.base_text.specs.Reasons.{words_left}
use Rattle.text_calls.specs.Forms.{Shape, End, ◌▸◌, Many, Any, Bundles, Split, Inner, Row, row_at, named_at, if_passes}
use Rattle.text_calls.specs.Forms.{table_at}
use Rattle.text_calls.specs.FormTests.{shape_form, named_form}
use Rattle.text_calls.specs.Tables.{first_named, fits, IsCounted}
use Rattle.text_calls.specs.declared.tables.WordCount.{WordCount}

-- ---- reading

read_by : {F X A : Type 0} (at : List ℕ → Option (X × List ℕ)) (row : F → Row X A) (form : F) (found : Option F)
    (bytes : List ℕ) (other : Option (A × List ℕ)) → other ≡ (found >>= λ f. row_at at (row f) bytes) → (t : Bool)
    → cond t (row_at at (row form) bytes) other ≡ (cond t (Some form) found >>= λ f. row_at at (row f) bytes)
read_by at row form found bytes other e true = refl
read_by at row form found bytes other e false = e

-- the same for a name and the bytes after it
pub read_named : {F X A : Type 0} (at : List ℕ → Option (X × List ℕ)) (row : F → Row X A) (forms : List F)
    (name : Word) (bytes : List ℕ) → named_at at (map row forms) name bytes
    ≡ (first_named (λ form. (row form).name) forms name >>= λ form. row_at at (row form) bytes)
read_named at row [] name bytes = refl
read_named at row (form ∷ forms) name bytes =
    read_by at row form (first_named (λ form. (row form).name) forms name) bytes
    (named_at at (map row forms) name bytes) (read_named at row forms name bytes) (bytes_eq name (row form).name)

-- a test behind two steps
then_passed : {F A : Type 0} (found : Option F) (at : F → Option (A × List ℕ)) (test : A → Bool)
    → ◌>>=◌ {B = A × List ℕ} (◌>>=◌ {B = A × List ℕ} found at) (if_passes test)
    ≡ (found >>= λ form. ◌>>=◌ {B = A × List ℕ} (at form) (if_passes test))
then_passed None at test = refl
then_passed (Some form) at test = refl

-- the same for a line, and for what passes a test
pub read_table : {F X A : Type 0} (at : List ℕ → Option (X × List ℕ)) (row : F → Row X A) (forms : List F)
    (test : A → Bool) (bytes : List ℕ) → table_at at (map row forms) test bytes
    ≡ (first_named (λ form. (row form).name) forms (first_word bytes) >>= λ form. row_at at (row form) (behind_word bytes)
    >>= if_passes test)
read_table at row forms test bytes =
    ap (λ o. o >>= if_passes test) (read_named at row forms (first_word bytes) (behind_word bytes))
    ∙ then_passed (first_named (λ form. (row form).name) forms (first_word bytes))
    (λ form. row_at at (row form) (behind_word bytes)) test

-- ---- the words of a form

-- whether the bytes behind a name have the words of the form that was found
abbrev pub found_form : {F X A : Type 0} → (form : List ℕ → Bool) → (row : F → Row X A) → Option F → List ℕ → Bool
found_form form row None bytes = false
found_form form row (Some f) bytes = shape_form form 0 (row f).shape bytes

test_by : {F X A : Type 0} (form : List ℕ → Bool) (row : F → Row X A) (f : F) (found : Option F)
    (bytes : List ℕ) (other : Bool) → other ≡ found_form form row found bytes → (t : Bool)
    → cond t (shape_form form 0 (row f).shape bytes) other ≡ found_form form row (cond t (Some f) found) bytes
test_by form row f found bytes other e true = refl
test_by form row f found bytes other e false = e

-- the test of a table asks the first form of the name
pub test_named : {F X A : Type 0} (form : List ℕ → Bool) (row : F → Row X A) (forms : List F) (name : Word)
    (bytes : List ℕ) → named_form form (map row forms) name bytes
    ≡ found_form form row (first_named (λ f. (row f).name) forms name) bytes
test_named form row [] name bytes = refl
test_named form row (f ∷ forms) name bytes =
    test_by form row f (first_named (λ f. (row f).name) forms name) bytes
    (named_form form (map row forms) name bytes) (test_named form row forms name bytes) (bytes_eq name (row f).name)

-- words that are told by their count
pub counted : (form : List ℕ → Bool) (n : ℕ) (s : Shape) (count : WordCount) (bytes : List ℕ) → IsCounted n s count
    → fits count (words_left bytes) ≡ shape_form form n s bytes
counted form n End count bytes is = rw is refl
counted form n (p ▸ s) count bytes is = counted form (n + 1) s count bytes is
counted form n (Many least most p) count bytes is = rw is refl
counted form n (Any p) count bytes is = absurd is
counted form n (Bundles least most b) count bytes is = rw (is.0, is.1, is.2, is.3) refl
counted form n (Split most b) count bytes is = absurd is
counted form n Inner count bytes is = absurd is
