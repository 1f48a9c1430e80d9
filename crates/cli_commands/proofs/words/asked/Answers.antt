use Rattle.std.proofs.Common.{◌≡◌, List, [], ◌∷◌, length, map, get_or, refl, sym, ap, subst, ◌∙◌, arith, string_bytes}
use Rattle.std.proofs.lemmas.List.{length-map}
use Rattle.base_text.specs.Lines.{Word}
use Rattle.cli_commands.specs.Commands.{IsAsked}
use Rattle.cli_commands.proofs.AskedWords.{other_count}
use Rattle.cli_commands.proofs.words.asked.Goals as goal

one_word : {A B : Type 0} (f : A → B) (words : List A) (d : A) → length words ≡ 1
    → map f words ≡ f (get_or words 0 d) ∷ []
one_word f [] d h = absurd (omega arith)
one_word f (w ∷ []) d h = refl
one_word f (w ∷ v ∷ ws) d h = absurd (omega arith)

two_words : {A B : Type 0} (f : A → B) (words : List A) (d e : A) → length words ≡ 2
    → map f words ≡ f (get_or words 0 d) ∷ f (get_or words 1 e) ∷ []
two_words f [] d e h = absurd (omega arith)
two_words f (w ∷ []) d e h = absurd (omega arith)
two_words f (w ∷ v ∷ []) d e h = refl
two_words f (w ∷ v ∷ u ∷ ws) d e h = absurd (omega arith)

three_words : {A B : Type 0} (f : A → B) (words : List A) (d e g : A) → length words ≡ 3
    → map f words ≡ f (get_or words 0 d) ∷ f (get_or words 1 e) ∷ f (get_or words 2 g) ∷ []
three_words f [] d e g h = absurd (omega arith)
three_words f (w ∷ []) d e g h = absurd (omega arith)
three_words f (w ∷ v ∷ []) d e g h = absurd (omega arith)
three_words f (w ∷ v ∷ u ∷ []) d e g h = refl
three_words f (w ∷ v ∷ u ∷ t ∷ ws) d e g h = absurd (omega arith)

pub returns-in-len1 : goal.returns-in-len1
returns-in-len1 c =
    let one = one_word string_bytes c.args.words.now c.word-item.result (omega arith) in
    let same = c.deref.ensures ∙ ap string_bytes c.word-item.is in
    subst (λ (words : List Word). IsAsked words c.of_one.result)
    (ap (λ (word : Word). word ∷ []) same ∙ sym one) c.of_one.ensures

pub returns-in-len2 : goal.returns-in-len2
returns-in-len2 c =
    let two = two_words string_bytes c.args.words.now c.name-item.result c.word-item-then-words-lt3.result
    (omega arith) in
    let name = c.deref-in-len2.ensures ∙ ap string_bytes c.name-item.is in
    let word = c.deref-in-len2-2.ensures ∙ ap string_bytes c.word-item-then-words-lt3.is in
    subst (λ (words : List Word). IsAsked words c.of_two.result)
    (ap (λ (w : Word). w ∷ c.deref-in-len2-2.result.now ∷ []) name
    ∙ (ap (λ (w : Word). string_bytes (get_or c.args.words.now 0 c.name-item.result) ∷ w ∷ []) word ∙ sym two))
    c.of_two.ensures

pub returns-in_default : goal.returns-in_default
returns-in_default c =
    let long = length-map c.args.words.now string_bytes in
    other_count _ (λ one. absurd (omega (arith, long, one))) (λ two. absurd (omega (arith, long, two)))
    (λ three. absurd (omega (arith, long, three)))

pub returns-in_default-2 : goal.returns-in_default-2
returns-in_default-2 c =
    let long = length-map c.args.words.now string_bytes in
    other_count _ (λ one. absurd (omega (arith, long, one))) (λ two. absurd (omega (arith, long, two)))
    (λ three. absurd (omega (arith, long, three)))
