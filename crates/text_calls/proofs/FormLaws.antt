-- Reading by a table of forms is the inverse of writing.
use Rattle.std.proofs.Common.{◌≡◌, ℕ, zero, suc, ◌+◌, ◌≤◌, List, [], ◌∷◌, ◌++◌, length, Bool, true, false, cond, eqb}
use Rattle.std.proofs.Common.{Option, Some, refl, ap, sym, subst, ◌∙◌, arith, decimal, append_assoc, length-append}
use Rattle.std.specs.List.{AllByRecursion, flat_map}
use Rattle.std.specs.Str.{bytes_eq}
use Rattle.std.proofs.lemmas.Bool.{leb-true, le-leb, or_parts}
use Rattle.base_text.specs.Lines.{Word, is_stop, first_word, behind_word, after_space}
use Rattle.text_calls.specs.Forms.{Part, Meaning, word_text, IsSaid, word_at, part_at, each_at, parts_at}
use Rattle.base_text.specs.Lines.{has_space}
use Rattle.text_calls.specs.Forms.{many_at, Together, together_text, AreTogether, together_at}
use Rattle.text_calls.specs.Forms.{Strides, Spans, Split, Number, split_at, split_text}
use Rattle.text_calls.specs.Forms.{Bundle, Operations, parts_of, BundleValue, bundle_value, bundle_words, bundle_text}
use Rattle.text_calls.specs.Forms.{IsBundle}
use Rattle.text_calls.specs.Forms.{bundle_at, bundles_at}
use Rattle.text_calls.specs.Forms.{Shape, End, ◌▸◌, Many, Any, Bundles, Inner, Values, value_made, values_at}
use Rattle.text_calls.specs.Forms.{values_text}
use Rattle.text_calls.specs.Forms.{AreSaid}
use Rattle.text_calls.specs.Forms.{Row, Entry, row_at, named_at, table_at, entry_text, IsEntry, IsOf, none_at}
use Rattle.text_calls.specs.Forms.{none_text, none_fits}
use Rattle.base_text.proofs.Prefixes.{cond_yes}
use Rattle.base_text.proofs.Seams.{is_end, whole, prefix_seam, back_seam, spaced_takes}
use Rattle.base_text.proofs.Takes.{Takes, takes_some, takes_none, takes_then, takes_if, takes_weaker}
use Rattle.base_text.proofs.WordRuns.{IsRun}
use Rattle.text_calls.proofs.WordLaws.{same_word, word_takes, word_again, word_run}

-- ---- a word

-- the bytes are the word of what was read, and the bytes after it
abbrev pub IsWordOf : (p : Part) → List ℕ → Meaning p × List ℕ → Type 0
IsWordOf p bytes x = (bytes ≡ word_text p x.0 ++ x.1) × IsSaid p x.0

pub word_at_takes : (p : Part) (bytes : List ℕ) → Takes (IsWordOf p bytes) (word_at p bytes)
unfolding word_at
word_at_takes p bytes =
    takes_then (λ x. (first_word bytes ≡ word_text p x) × IsSaid p x) (word_takes p (first_word bytes)) (λ x h. takes_some
    (whole bytes ∙ ap (λ (w : Word). w ++ behind_word bytes) h.0, h.1))

pub word_at_again : (p : Part) (x : Meaning p) (rest : List ℕ) → IsSaid p x → is_end rest ≡ true → word_at p
    (word_text p x ++ rest) ≡ Some (x, rest)
unfolding word_at
word_at_again p x rest h e =
    let run = word_run p x h in
    rw (prefix_seam (word_text p x) rest run e, back_seam (word_text p x) rest run e, word_again p x h) refl

-- the same behind a space
abbrev pub IsPartOf : (p : Part) → List ℕ → Meaning p × List ℕ → Type 0
IsPartOf p bytes x = (bytes ≡ 32 ∷ (word_text p x.0 ++ x.1)) × IsSaid p x.0

pub part_at_takes : (p : Part) (bytes : List ℕ) → Takes (IsPartOf p bytes) (part_at p bytes)
unfolding part_at
part_at_takes p bytes =
    takes_then (λ rest. bytes ≡ 32 ∷ rest) (spaced_takes bytes) (λ rest e.
    takes_weaker (IsWordOf p rest) (word_at_takes p rest) (λ x h. (e ∙ ap (λ (r : List ℕ). 32 ∷ r) h.0, h.1)))

pub part_at_again : (p : Part) (x : Meaning p) (rest : List ℕ) → IsSaid p x → is_end rest ≡ true → part_at p
    (32 ∷ (word_text p x ++ rest)) ≡ Some (x, rest)
unfolding part_at
part_at_again p x rest h e = word_at_again p x rest h e

-- ---- lists

-- the bytes are the texts of what was read, each behind the one before, and the bytes after them
abbrev pub AreEachOf : {A : Type 0} → (text : A → List ℕ) → (fits : A → Type 0) → (most : ℕ) → List ℕ
    → List A × List ℕ → Type 0
AreEachOf text fits most bytes xs = (bytes ≡ flat_map text xs.0 ++ xs.1) × (length xs.0 ≤ most)
    × AllByRecursion fits xs.0

each_takes : {A : Type 0} (at : List ℕ → Option (A × List ℕ)) (text : A → List ℕ) (fits : A → Type 0)
    → ((bytes : List ℕ) → Takes (λ x. (bytes ≡ text x.0 ++ x.1) × fits x.0) (at bytes)) → (most : ℕ)
    (bytes : List ℕ) → Takes (AreEachOf text fits most bytes) (each_at at most bytes)
unfolding each_at
each_takes at text fits takes zero bytes = takes_some (refl, omega arith, tt)
each_takes {A} at text fits takes (suc most) bytes =
    takes_if {b = has_space bytes}
    (λ t. takes_then (λ (x : A × List ℕ). (bytes ≡ text x.0 ++ x.1) × fits x.0) (takes bytes) (λ x h.
    takes_then (AreEachOf text fits most x.1) (each_takes at text fits takes most x.1) (λ xs k.
    takes_some (
      h.0 ∙ ap (λ (r : List ℕ). text x.0 ++ r) k.0 ∙ sym (append_assoc (text x.0) (flat_map text xs.0) xs.1),
      (let le = k.1 in omega arith),
      (h.1, k.2),
    ))))
    (λ t. takes_some (refl, omega arith, tt))

-- what is read again before whatever ends a word, and begins with a space
pub record IsSpaced {A : Type 0} (at : List ℕ → Option (A × List ℕ)) (text : A → List ℕ) (fits : A
    → Type 0) : Type 0 where
  pub again : (x : A) (rest : List ℕ) → fits x → is_end rest ≡ true → at (text x ++ rest) ≡ Some (x, rest)
  pub space : (x : A) (rest : List ℕ) → has_space (text x ++ rest) ≡ true

-- a list of it ends where a word ends
each_ends : {A : Type 0} (at : List ℕ → Option (A × List ℕ)) (text : A → List ℕ) (fits : A → Type 0)
    → IsSpaced at text fits → (xs : List A) (rest : List ℕ) → is_end rest ≡ true
    → is_end (flat_map text xs ++ rest) ≡ true
each_ends at text fits is [] rest e = e
each_ends at text fits is (x ∷ xs) rest e =
    rw (append_assoc (text x) (flat_map text xs) rest)
    (space_ends (text x ++ (flat_map text xs ++ rest)) (is.space x (flat_map text xs ++ rest)))
  where
    space_ends : (bytes : List ℕ) → has_space bytes ≡ true → is_end bytes ≡ true
    space_ends [] e = refl
    space_ends (b ∷ bytes) e = rw e refl

-- and is read again
each_again : {A : Type 0} (at : List ℕ → Option (A × List ℕ)) (text : A → List ℕ) (fits : A → Type 0)
    → IsSpaced at text fits → (most : ℕ) (xs : List A) (rest : List ℕ) → length xs ≤ most
    → AllByRecursion fits xs → each_at at most (flat_map text xs ++ 10 ∷ rest) ≡ Some (xs, 10 ∷ rest)
unfolding each_at
each_again at text fits is zero [] rest le h = refl
each_again at text fits is zero (x ∷ xs) rest le h = absurd (omega arith)
each_again at text fits is (suc most) [] rest le h = refl
each_again at text fits is (suc most) (x ∷ xs) rest le h =
    rw (
      append_assoc (text x) (flat_map text xs) (10 ∷ rest),
      is.space x (flat_map text xs ++ 10 ∷ rest),
      is.again x (flat_map text xs ++ 10 ∷ rest) h.0 (each_ends at text fits is xs (10 ∷ rest) refl),
      each_again at text fits is most xs rest (omega arith) h.1,
    ) refl

-- so many as there are, before whatever ends a word
each_full : {A : Type 0} (at : List ℕ → Option (A × List ℕ)) (text : A → List ℕ) (fits : A → Type 0)
    → IsSpaced at text fits → (xs : List A) (rest : List ℕ) → AllByRecursion fits xs → is_end rest ≡ true
    → each_at at (length xs) (flat_map text xs ++ rest) ≡ Some (xs, rest)
unfolding each_at
each_full at text fits is [] rest h e = refl
each_full at text fits is (x ∷ xs) rest h e =
    rw (
      append_assoc (text x) (flat_map text xs) rest,
      is.space x (flat_map text xs ++ rest),
      is.again x (flat_map text xs ++ rest) h.0 (each_ends at text fits is xs rest e),
      each_full at text fits is xs rest h.1 e,
    ) refl

-- ---- lists of words

-- the text of a word behind a space, and of a list of them
abbrev pub part_text : (p : Part) → Meaning p → List ℕ
part_text p x = 32 ∷ word_text p x

abbrev pub parts_text : (p : Part) → List (Meaning p) → List ℕ
parts_text p xs = flat_map (part_text p) xs

abbrev pub ArePartsOf : (p : Part) → (most : ℕ) → List ℕ → List (Meaning p) × List ℕ → Type 0
ArePartsOf p most bytes xs = AreEachOf (part_text p) (IsSaid p) most bytes xs

pub parts_at_takes : (p : Part) (most : ℕ) (bytes : List ℕ) → Takes (ArePartsOf p most bytes) (parts_at p most bytes)
unfolding parts_at
parts_at_takes p most bytes = each_takes (part_at p) (part_text p) (IsSaid p) (part_at_takes p) most bytes

-- a word behind a space is read again
part_spaced : (p : Part) → IsSpaced (part_at p) (part_text p) (IsSaid p)
part_spaced p = record { again = part_at_again p; space = λ x rest. refl }

-- a list of words ends where a word ends
parts_end : (p : Part) (xs : List (Meaning p)) (rest : List ℕ) → is_end (parts_text p xs ++ 10 ∷ rest) ≡ true
parts_end p [] rest = refl
parts_end p (x ∷ xs) rest = refl

-- there are no more words than bytes
parts_long : (p : Part) (words : List (Meaning p)) (rest : List ℕ) → length words ≤ length (parts_text p words ++ rest)
parts_long p [] rest = omega arith
parts_long p (word ∷ words) rest =
    let more = parts_long p words rest in
    let grown : length (word_text p word ++ (parts_text p words ++ rest))
    ≡ length (word_text p word) + length (parts_text p words ++ rest) = length-append _ _ in
    rw (append_assoc (word_text p word) (parts_text p words) rest) (omega (arith, more, grown))

pub parts_at_again : (p : Part) (most : ℕ) (xs : List (Meaning p)) (rest : List ℕ) → length xs ≤ most
    → AllByRecursion (IsSaid p) xs → parts_at p most (parts_text p xs ++ 10 ∷ rest) ≡ Some (xs, 10 ∷ rest)
unfolding parts_at
parts_at_again p most xs rest le h =
    each_again (part_at p) (part_text p) (IsSaid p) (part_spaced p) most xs rest le h

-- ---- words that stand together

-- the bytes are the text of them, and the bytes after it
abbrev pub AreTogetherOf : (parts : List Part) → List ℕ → Together parts × List ℕ → Type 0
AreTogetherOf parts bytes x = (bytes ≡ together_text parts x.0 ++ x.1) × AreTogether parts x.0

together_takes : (parts : List Part) (bytes : List ℕ) → Takes (AreTogetherOf parts bytes) (together_at parts bytes)
together_takes [] bytes = takes_some (refl, tt)
together_takes (p ∷ parts) bytes =
    takes_then (IsPartOf p bytes) (part_at_takes p bytes) (λ x h.
    takes_then (AreTogetherOf parts x.1) (together_takes parts x.1) (λ v k.
    takes_some {P = AreTogetherOf (p ∷ parts) bytes} (
      h.0 ∙ ap (λ (r : List ℕ). 32 ∷ (word_text p x.0 ++ r)) k.0
          ∙ ap (λ (r : List ℕ). 32 ∷ r) (sym (append_assoc (word_text p x.0) (together_text parts v.0) v.1)),
      (h.1, k.1),
    )))

-- they end where a word ends, if what follows does
together_ends : (parts : List Part) (said : Together parts) (rest : List ℕ) → is_end rest ≡ true
    → is_end (together_text parts said ++ rest) ≡ true
together_ends [] said rest e = e
together_ends (p ∷ parts) said rest e = refl

together_again : (parts : List Part) (said : Together parts) (rest : List ℕ) → AreTogether parts said
    → is_end rest ≡ true → together_at parts (together_text parts said ++ rest) ≡ Some (said, rest)
together_again [] said rest h e = refl
together_again (p ∷ parts) said rest h e =
    rw (
      append_assoc (word_text p said.0) (together_text parts said.1) rest,
      part_at_again p said.0 (together_text parts said.1 ++ rest) h.0 (together_ends parts said.1 rest e),
      together_again parts said.1 rest h.1 e,
    ) refl

-- what they make has them again
bundled_back : (b : Bundle) (said : Together (parts_of b)) → bundle_words b (bundle_value b said) ≡ said
bundled_back Operations said = refl
bundled_back Strides said = refl
bundled_back Spans said = refl

unbundled_back : (b : Bundle) (value : BundleValue b) → bundle_value b (bundle_words b value) ≡ value
unbundled_back Operations value = refl
unbundled_back Strides value = refl
unbundled_back Spans value = refl

-- the bytes are the text of a bundle, and the bytes after it
abbrev pub IsBundleOf : (b : Bundle) → List ℕ → BundleValue b × List ℕ → Type 0
IsBundleOf b bytes x = (bytes ≡ bundle_text b x.0 ++ x.1) × IsBundle b x.0

bundle_takes : (b : Bundle) (bytes : List ℕ) → Takes (IsBundleOf b bytes) (bundle_at b bytes)
unfolding bundle_at
bundle_takes b bytes =
    takes_then (AreTogetherOf (parts_of b) bytes) (together_takes (parts_of b) bytes) (λ x h.
    takes_some {P = IsBundleOf b bytes} {x = (bundle_value b x.0, x.1)}
    (subst (λ (said : Together (parts_of b)). (bytes ≡ together_text (parts_of b) said ++ x.1)
    × AreTogether (parts_of b) said) (sym (bundled_back b x.0)) h))

bundle_space : (b : Bundle) (value : BundleValue b) (rest : List ℕ) → has_space (bundle_text b value ++ rest) ≡ true
bundle_space Operations value rest = refl
bundle_space Strides value rest = refl
bundle_space Spans value rest = refl

bundle_spaced : (b : Bundle) → IsSpaced (bundle_at b) (bundle_text b) (IsBundle b)
unfolding bundle_at
bundle_spaced b = record {
  again = λ value rest h e. rw (together_again (parts_of b) (bundle_words b value) rest h e, unbundled_back b value) refl;
  space = bundle_space b;
}

-- a list of bundles that was read
abbrev pub AreBundlesOf : (least most : ℕ) → (b : Bundle) → List ℕ → List (BundleValue b) × List ℕ → Type 0
AreBundlesOf least most b bytes xs = (bytes ≡ flat_map (bundle_text b) xs.0 ++ xs.1) × (least ≤ length xs.0)
    × (length xs.0 ≤ most) × AllByRecursion (IsBundle b) xs.0

bundles_takes : (least most : ℕ) (b : Bundle) (bytes : List ℕ) → Takes (AreBundlesOf least most b bytes)
    (bundles_at least most b bytes)
unfolding bundles_at
bundles_takes least most b bytes =
    takes_then (AreEachOf (bundle_text b) (IsBundle b) most bytes)
    (each_takes (bundle_at b) (bundle_text b) (IsBundle b) (bundle_takes b) most bytes) (λ xs h.
    takes_if (λ t. takes_some (h.0, leb-true least (length xs.0) t, h.1, h.2)) (λ t. takes_none))

-- two lists of which the first is counted
abbrev pub AreSplitOf : (most : ℕ) → (b : Bundle) → List ℕ → (List (BundleValue b) × List (BundleValue b)) × List ℕ → Type 0
AreSplitOf most b bytes x = (bytes ≡ split_text b x.0 ++ x.1) × (IsSaid (Number 1 most) (length x.0.0)
    × AllByRecursion (IsBundle b) x.0.0 × (1 ≤ length x.0.1) × (length x.0.1 ≤ most)
    × AllByRecursion (IsBundle b) x.0.1)

-- the parts of them, joined
split_joined : (b : Bundle) (xs ys : List (BundleValue b)) (count : ℕ) (bytes r s rest : List ℕ)
    → bytes ≡ 32 ∷ (decimal count ++ r) → r ≡ flat_map (bundle_text b) xs ++ s
    → s ≡ flat_map (bundle_text b) ys ++ rest → length xs ≡ count → bytes ≡ split_text b (xs, ys) ++ rest
split_joined b xs ys count bytes r s rest h k m e =
    let first = flat_map (bundle_text b) xs in
    let others = flat_map (bundle_text b) ys in
    h ∙ ap (λ (x : List ℕ). 32 ∷ (decimal count ++ x)) (k ∙ ap (λ (x : List ℕ). first ++ x) m)
    ∙ ap (λ (n : ℕ). 32 ∷ (decimal n ++ (first ++ (others ++ rest)))) (sym e)
    ∙ ap (λ (x : List ℕ). 32 ∷ (decimal (length xs) ++ x)) (sym (append_assoc first others rest))
    ∙ ap (λ (x : List ℕ). 32 ∷ x) (sym (append_assoc (decimal (length xs)) (first ++ others) rest))

split_takes : (most : ℕ) (b : Bundle) (bytes : List ℕ) → Takes (AreSplitOf most b bytes) (split_at most b bytes)
unfolding split_at
split_takes most b bytes =
    takes_then (IsPartOf (Number 1 most) bytes) (part_at_takes (Number 1 most) bytes) (λ count h.
    takes_then (AreBundlesOf count.0 count.0 b count.1) (bundles_takes count.0 count.0 b count.1) (λ xs k.
    takes_then (AreBundlesOf 1 most b xs.1) (bundles_takes 1 most b xs.1) (λ ys m.
    let low = k.1 in
    let high = k.2 in
    let same : length xs.0 ≡ count.0 = omega (arith, low, high) in
    takes_some {P = AreSplitOf most b bytes} {x = ((xs.0, ys.0), ys.1)} (
      split_joined b xs.0 ys.0 count.0 bytes count.1 xs.1 ys.1 h.0 k.0 m.0 same,
      (subst (λ (n : ℕ). IsSaid (Number 1 most) n) (sym same) h.1, k.3, m.1, m.2, m.3),
    ))))

split_again : (most : ℕ) (b : Bundle) (v : List (BundleValue b) × List (BundleValue b)) (rest : List ℕ)
    → IsSaid (Number 1 most) (length v.0) → AllByRecursion (IsBundle b) v.0 → 1 ≤ length v.1 → length v.1 ≤ most
    → AllByRecursion (IsBundle b) v.1 → split_at most b (split_text b v ++ 10 ∷ rest) ≡ Some (v, 10 ∷ rest)
unfolding split_at bundles_at
split_again most b v rest said first low high others =
    let after_space = bundle_spaced b in
    let firsts = flat_map (bundle_text b) v.0 in
    let tail = flat_map (bundle_text b) v.1 ++ 10 ∷ rest in
    let ends = each_ends (bundle_at b) (bundle_text b) (IsBundle b) after_space v.1 (10 ∷ rest) refl in
    rw (
      append_assoc (decimal (length v.0)) (firsts ++ flat_map (bundle_text b) v.1) (10 ∷ rest),
      append_assoc firsts (flat_map (bundle_text b) v.1) (10 ∷ rest),
      part_at_again (Number 1 most) (length v.0) (firsts ++ tail) said
          (each_ends (bundle_at b) (bundle_text b) (IsBundle b) after_space v.0 tail ends),
      each_full (bundle_at b) (bundle_text b) (IsBundle b) after_space v.0 tail first ends,
      le-leb (length v.0) (length v.0) (omega arith),
      each_again (bundle_at b) (bundle_text b) (IsBundle b) after_space most v.1 rest high others,
      le-leb 1 (length v.1) low,
    ) refl

-- ---- what follows a name

-- no line ends within the bytes
abbrev pub IsFlat : List ℕ → Type 0
IsFlat bytes = AllByRecursion (λ b. eqb b 10 ≡ false) bytes

-- where no word ends, no line does
run_flat : (word : Word) → IsRun word → IsFlat word
run_flat [] h = tt
run_flat (b ∷ word) h = ((or_parts (eqb b 32) (eqb b 10) h.0).1, run_flat word h.1)

-- what ends no line, joined
pub flat_join : (a b : List ℕ) → IsFlat a → IsFlat b → IsFlat (a ++ b)
flat_join [] b h k = k
flat_join (x ∷ a) b h k = (h.0, flat_join a b h.1 k)

-- a word ends no line
pub word_flat : (p : Part) (x : Meaning p) → IsSaid p x → IsFlat (word_text p x)
word_flat p x h = run_flat (word_text p x) (word_run p x h)

-- nor does a list of words
parts_flat : (p : Part) (xs : List (Meaning p)) → AllByRecursion (IsSaid p) xs → IsFlat (parts_text p xs)
parts_flat p [] h = tt
parts_flat p (x ∷ xs) h = (refl, flat_join (word_text p x) (parts_text p xs) (word_flat p x h.0) (parts_flat p xs h.1))

-- nor do words that stand together
together_flat : (parts : List Part) (said : Together parts) → AreTogether parts said
    → IsFlat (together_text parts said)
together_flat [] said h = tt
together_flat (p ∷ parts) said h = (
  refl,
  flat_join (word_text p said.0) (together_text parts said.1) (word_flat p said.0 h.0)
      (together_flat parts said.1 h.1),
)

-- nor a list of them
bundles_flat : (b : Bundle) (values : List (BundleValue b)) → AllByRecursion (IsBundle b) values
    → IsFlat (flat_map (bundle_text b) values)
bundles_flat b [] h = tt
bundles_flat b (value ∷ values) h =
    flat_join (bundle_text b value) (flat_map (bundle_text b) values)
    (together_flat (parts_of b) (bundle_words b value) h.0) (bundles_flat b values h.1)

-- nor two lists of which the first is counted
split_flat : (most : ℕ) (b : Bundle) (v : List (BundleValue b) × List (BundleValue b))
    → IsSaid (Number 1 most) (length v.0) → AllByRecursion (IsBundle b) v.0 → AllByRecursion (IsBundle b) v.1
    → IsFlat (split_text b v)
split_flat most b v said first others = (
  refl,
  flat_join (decimal (length v.0)) (flat_map (bundle_text b) v.0 ++ flat_map (bundle_text b) v.1)
      (word_flat (Number 1 most) (length v.0) said)
      (flat_join (flat_map (bundle_text b) v.0) (flat_map (bundle_text b) v.1) (bundles_flat b v.0 first)
      (bundles_flat b v.1 others)),
)

-- what reads and writes the lines of another table
pub record IsExact {X : Type 0} (at : List ℕ → Option (X × List ℕ)) (text : X → List ℕ) (fits : X
    → Type 0) : Type 0 where
  pub takes : (bytes : List ℕ) → Takes (λ x. (bytes ≡ text x.0 ++ x.1) × fits x.0) (at bytes)
  pub again : (x : X) (rest : List ℕ) → fits x → at (text x ++ 10 ∷ rest) ≡ Some (x, 10 ∷ rest)
  pub flat : (x : X) → fits x → IsFlat (text x)

-- the bytes are the text of the values that were read, and the bytes after it
abbrev pub AreValuesOf : {X : Type 0} → (X → List ℕ) → (X → Type 0) → (s : Shape) → List ℕ → Values X s × List ℕ
    → Type 0
AreValuesOf text fits s bytes v = (bytes ≡ values_text text s v.0 ++ v.1) × AreSaid fits s v.0

pub values_takes : {X : Type 0} (at : List ℕ → Option (X × List ℕ)) (text : X → List ℕ) (fits : X → Type 0)
    → IsExact at text fits → (s : Shape) (bytes : List ℕ) → Takes (AreValuesOf text fits s bytes)
    (values_at at s bytes)
unfolding many_at bundles_at
values_takes at text fits exact End bytes = takes_some (refl, tt)
values_takes {X} at text fits exact (p ▸ s) bytes =
    takes_then (IsPartOf p bytes) (part_at_takes p bytes) (λ x h.
    takes_then (AreValuesOf text fits s x.1) (values_takes at text fits exact s x.1) (λ v k.
    takes_some {P = AreValuesOf text fits (p ▸ s) bytes} (
      h.0 ∙ ap (λ (r : List ℕ). 32 ∷ (word_text p x.0 ++ r)) k.0
          ∙ ap (λ (r : List ℕ). 32 ∷ r) (sym (append_assoc (word_text p x.0) (values_text text s v.0) v.1)),
      (
        h.1,
        k.1,
      ),
    )))
values_takes at text fits exact (Many least most p) bytes =
    takes_then (ArePartsOf p most bytes) (parts_at_takes p most bytes) (λ xs h.
    takes_if (λ t. takes_some (h.0, (leb-true least (length xs.0) t, h.1, h.2))) (λ t. takes_none))
values_takes at text fits exact (Any p) bytes =
    takes_weaker (ArePartsOf p (length bytes) bytes) (parts_at_takes p (length bytes) bytes) (λ said are.
    (are.0, are.2))
values_takes at text fits exact (Bundles least most b) bytes =
    takes_then (AreEachOf (bundle_text b) (IsBundle b) most bytes)
    (each_takes (bundle_at b) (bundle_text b) (IsBundle b) (bundle_takes b) most bytes) (λ xs h.
    takes_if (λ t. takes_some (h.0, (leb-true least (length xs.0) t, h.1, h.2))) (λ t. takes_none))
values_takes at text fits exact (Split most b) bytes = split_takes most b bytes
values_takes {X} at text fits exact Inner bytes =
    takes_then (λ rest. bytes ≡ 32 ∷ rest) (spaced_takes bytes) (λ rest e.
    takes_weaker (λ (x : X × List ℕ). (rest ≡ text x.0 ++ x.1) × fits x.0) (exact.takes rest) (λ x h.
    (e ∙ ap (λ (r : List ℕ). 32 ∷ r) h.0, h.1)))

-- the values of a line end where a word ends
values_end : {X : Type 0} (text : X → List ℕ) (s : Shape) (v : Values X s) (rest : List ℕ) → is_end
    (values_text text s v ++ 10 ∷ rest) ≡ true
values_end text End v rest = refl
values_end text (p ▸ s) v rest = refl
values_end text (Many least most p) v rest = parts_end p v rest
values_end text (Any p) v rest = parts_end p v rest
values_end text (Bundles least most b) v rest =
    each_ends (bundle_at b) (bundle_text b) (IsBundle b) (bundle_spaced b) v (10 ∷ rest) refl
values_end text (Split most b) v rest = refl
values_end text Inner v rest = refl

pub values_again : {X : Type 0} (at : List ℕ → Option (X × List ℕ)) (text : X → List ℕ) (fits : X → Type 0)
    → IsExact at text fits → (s : Shape) (v : Values X s) (rest : List ℕ) → AreSaid fits s v → values_at at s
    (values_text text s v ++ 10 ∷ rest) ≡ Some (v, 10 ∷ rest)
unfolding many_at bundles_at
values_again at text fits exact End v rest h = refl
values_again at text fits exact (p ▸ s) v rest h =
    rw (
      append_assoc (word_text p v.0) (values_text text s v.1) (10 ∷ rest),
      part_at_again p v.0
          (values_text text s v.1 ++ 10 ∷ rest) h.0 (values_end text s v.1 rest),
      values_again at text fits exact s v.1 rest h.1,
    ) refl
values_again at text fits exact (Many least most p) v rest h =
    rw (parts_at_again p most v rest h.1 h.2, le-leb least (length v) h.0) refl
values_again at text fits exact (Any p) v rest h =
    parts_at_again p (length (parts_text p v ++ 10 ∷ rest)) v rest (parts_long p v (10 ∷ rest)) h
values_again at text fits exact (Bundles least most b) v rest h =
    rw (
      each_again (bundle_at b) (bundle_text b) (IsBundle b) (bundle_spaced b) most v rest h.1 h.2,
      le-leb least (length v) h.0,
    ) refl
values_again at text fits exact (Split most b) v rest h = split_again most b v rest h.0 h.1 h.2 h.3 h.4
values_again at text fits exact Inner v rest h = exact.again v rest h

-- the values of a line end no line
values_flat : {X : Type 0} (at : List ℕ → Option (X × List ℕ)) (text : X → List ℕ) (fits : X → Type 0)
    → IsExact at text fits → (s : Shape) (v : Values X s) → AreSaid fits s v → IsFlat (values_text text s v)
values_flat at text fits exact End v h = tt
values_flat at text fits exact (p ▸ s) v h = (
  refl,
  flat_join (word_text p v.0) (values_text text s v.1) (word_flat p v.0 h.0)
      (values_flat at text fits exact s v.1 h.1),
)
values_flat at text fits exact (Many least most p) v h = parts_flat p v h.2
values_flat at text fits exact (Any p) v h = parts_flat p v h
values_flat at text fits exact (Bundles least most b) v h = bundles_flat b v h.2
values_flat at text fits exact (Split most b) v h = split_flat most b v h.0 h.1 h.4
values_flat at text fits exact Inner v h = (refl, exact.flat v h)

-- ---- tables

-- each row makes a value whose entry it is
abbrev pub AreMade : {X A : Type 0} → (A → Entry X A) → List (Row X A) → Type 0
AreMade {X} {A} entry rows = AllByRecursion (λ (row : Row X A). (v : Values X row.shape) → entry
    (value_made X row.shape row.make v) ≡ record { row = row; values = v }) rows

-- whether a row of this name is among the rows
abbrev pub has_row : {X A : Type 0} → Word → List (Row X A) → Bool
has_row name [] = false
has_row name (row ∷ rows) = cond (bytes_eq name row.name) true (has_row name rows)

-- the row is the first of its name
abbrev pub IsRowOf : {X A : Type 0} → Row X A → List (Row X A) → Type 0
IsRowOf row [] = ⊥
IsRowOf row (r ∷ rows) = cond (bytes_eq row.name r.name) (row ≡ r) (IsRowOf row rows)

-- the bytes are the text of what a table made, and the bytes after it
abbrev pub IsMadeOf : {X A : Type 0} → (X → List ℕ) → (X → Type 0) → (A → Entry X A) → List ℕ → A × List ℕ → Type 0
IsMadeOf text fits entry bytes x = (bytes ≡ entry_text text (entry x.0) ++ x.1) × IsEntry fits (entry x.0)

-- what a row made
row_takes : {X A : Type 0} (at : List ℕ → Option (X × List ℕ)) (text : X → List ℕ) (fits : X → Type 0) (entry : A
    → Entry X A) → IsExact at text fits → (row : Row X A) → ((v : Values X row.shape) → entry
    (value_made X row.shape row.make v) ≡ record { row = row; values = v }) → (name bytes : List ℕ) → name ≡ row.name
    → Takes (IsMadeOf text fits entry (name ++ bytes)) (row_at at row bytes)
row_takes {X} {A} at text fits entry exact row is name bytes same =
    takes_then (AreValuesOf text fits row.shape bytes) (values_takes at text fits exact row.shape bytes) (λ v h.
    takes_some {P = IsMadeOf text fits entry (name ++ bytes)} (subst
    (λ (e : Entry X A). (name ++ bytes ≡ entry_text text e ++ v.1) × IsEntry fits e) (sym (is v.0)) (
      ap (λ (n : Word). n ++ bytes) same ∙ ap (λ (r : List ℕ). row.name ++ r) h.0 ∙ sym
          (append_assoc row.name (values_text text row.shape v.0) v.1),
      h.1,
    )))

-- what one of the rows made
named_takes : {X A : Type 0} (at : List ℕ → Option (X × List ℕ)) (text : X → List ℕ) (fits : X → Type 0) (entry : A
    → Entry X A) → IsExact at text fits → (rows : List (Row X A)) → AreMade entry rows → (name bytes : List ℕ)
    → Takes (IsMadeOf text fits entry (name ++ bytes)) (named_at at rows name bytes)
named_takes at text fits entry exact [] are name bytes = takes_none
named_takes at text fits entry exact (row ∷ rows) are name bytes =
    takes_if {b = bytes_eq name row.name} (λ b. row_takes at text fits entry exact row are.0 name bytes
    (same_word name row.name b))
    (λ b. named_takes at text fits entry exact rows are.1 name bytes)

-- the same, by the test of the first row
named_by : {X A : Type 0} (at : List ℕ → Option (X × List ℕ)) (row r : Row X A) (rows : List (Row X A))
    (bytes : List ℕ) (t : Bool) → cond t (row ≡ r) (IsRowOf row rows) → (IsRowOf row rows
    → named_at at rows row.name bytes ≡ row_at at row bytes) → cond t (row_at at r bytes)
    (named_at at rows row.name bytes) ≡ row_at at row bytes
named_by at row r rows bytes true h more = ap (λ q. row_at at q bytes) (sym h)
named_by at row r rows bytes false h more = more h

-- the row at a name is what is made there
named_is : {X A : Type 0} (at : List ℕ → Option (X × List ℕ)) (row : Row X A) (rows : List (Row X A))
    (bytes : List ℕ) → IsRowOf row rows → named_at at rows row.name bytes ≡ row_at at row bytes
named_is at row [] bytes h = absurd h
named_is at row (r ∷ rows) bytes h = named_by at row r rows bytes (bytes_eq row.name r.name) h
    (named_is at row rows bytes)

-- whether no word ends within the bytes
abbrev pub is_run : Word → Bool
is_run [] = true
is_run (b ∷ word) = cond (is_stop b) false (is_run word)

-- the same as a fact
run_by : (t : Bool) (b : ℕ) (word : Word) → is_stop b ≡ t → cond t false (is_run word) ≡ true → (is_run word ≡ true
    → IsRun word) → IsRun (b ∷ word)
run_by true b word e h more = absurd (cc)
run_by false b word e h more = (e, more h)

pub run_from : (word : Word) → is_run word ≡ true → IsRun word
run_from [] h = tt
run_from (b ∷ word) h = run_by (is_stop b) b word refl h (run_from word)

-- an entry makes its value, and its row is the first of its name
pub record IsEntryOf {X A : Type 0} (rows : List (Row X A)) (entry : A → Entry X A) (a : A) : Type 0 where
  pub makes : value_made X (entry a).row.shape (entry a).row.make (entry a).values ≡ a
  pub first : IsRowOf (entry a).row rows
  pub runs : is_run (entry a).row.name ≡ true

-- the same by its parts
pub entry_of : {X A : Type 0} {rows : List (Row X A)} {entry : A → Entry X A} {a : A} → value_made X (entry a).row.shape
    (entry a).row.make (entry a).values ≡ a → IsRowOf (entry a).row rows → is_run (entry a).row.name ≡ true
    → IsEntryOf rows entry a
entry_of m f r = record { makes = m; first = f; runs = r }

-- a table whose rows make what the entries say, and have an entry for all that passes the test
pub record IsTable {X A : Type 0} (rows : List (Row X A)) (entry : A → Entry X A) (test : A → Bool) : Type 0 where
  pub makes : AreMade entry rows
  pub again : (a : A) → test a ≡ true → IsEntryOf rows entry a

-- what a table makes, by the first word and the bytes after it
table_by : {X A : Type 0} (at : List ℕ → Option (X × List ℕ)) (rows : List (Row X A)) (test : A → Bool)
    (row : Row X A) (tail : List ℕ) (a : A) (rest : List ℕ) → first_word (row.name ++ tail) ≡ row.name → behind_word (row.name
    ++ tail) ≡ tail → named_at at rows row.name tail ≡ Some (a, rest) → test a ≡ true → table_at at rows test
    (row.name ++ tail) ≡ Some (a, rest)
table_by at rows test row tail a rest f b n t = rw (f, b, n) (cond_yes _ _ _ t)

-- reading by a table is the inverse of writing
pub table_exact : {X A : Type 0} (at : List ℕ → Option (X × List ℕ)) (text : X → List ℕ) (fits : X → Type 0)
    (rows : List (Row X A)) (entry : A → Entry X A) (test : A → Bool) → IsExact at text fits
    → IsTable rows entry test → IsExact (table_at at rows test) (λ a. entry_text text (entry a))
    (IsOf fits entry test)
table_exact {X} {A} at text fits rows entry test exact table = record {
  takes = λ bytes. takes_then (IsMadeOf text fits entry bytes)
      (takes_weaker (IsMadeOf text fits entry (first_word bytes ++ behind_word bytes))
      (named_takes at text fits entry exact rows table.makes (first_word bytes) (behind_word bytes)) (λ x h.
      (whole bytes ∙ h.0, h.1)))
      (λ x h. takes_if {b = test x.0} (λ t. takes_some (h.0, (h.1, t))) (λ t. takes_none));
  again = λ a rest h.
      let e = entry a in
      let one = table.again a h.1 in
      let run = run_from e.row.name one.runs in
      let tail = values_text text e.row.shape e.values ++ 10 ∷ rest in
      let ends : is_end tail ≡ true = values_end text e.row.shape e.values rest in
      ap (table_at at rows test) (append_assoc e.row.name (values_text text e.row.shape e.values) (10 ∷ rest))
      ∙ table_by at rows test e.row tail a (10 ∷ rest) (prefix_seam e.row.name tail run ends)
      (back_seam e.row.name tail run ends)
      (named_is at e.row rows tail one.first ∙ rw (
        values_again at text fits exact e.row.shape e.values rest h.0,
        one.makes,
      ) refl) h.1;
  flat = λ a h.
      let e = entry a in
      flat_join e.row.name (values_text text e.row.shape e.values) (run_flat e.row.name
      (run_from e.row.name (table.again a h.1).runs))
      (values_flat at text fits exact e.row.shape e.values h.0);
}

-- no line of a table in it
pub none_exact : IsExact none_at none_text none_fits
none_exact = record { takes = λ bytes. takes_none; again = λ x rest h. absurd h; flat = λ x h. absurd h }
