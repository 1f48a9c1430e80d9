use Rattle.std.proofs.Common.{◌≡◌, ◌++◌, ◌∙◌, ℕ, List, ap, append_assoc}
use Rattle.std.specs.Int.{w64, to_be_bytes}
use Rattle.node_atomics.specs.Words.{code_of}
use Rattle.node_atomics.proofs.word.spell.Goals as goal

pushed_four : (start first second third last a b c d : List ℕ) → first ≡ start ++ a → second ≡ first ++ b
    → third ≡ second ++ c → last ≡ third ++ d → last ≡ start ++ (a ++ (b ++ (c ++ d)))
pushed_four start first second third last a b c d is_first is_second is_third is_last =
    is_last ∙ (ap (λ (xs : List ℕ). xs ++ d) is_third
    ∙ (ap (λ (xs : List ℕ). (xs ++ c) ++ d) is_second
    ∙ (ap (λ (xs : List ℕ). ((xs ++ b) ++ c) ++ d) is_first
    ∙ (append_assoc ((start ++ a) ++ b) c d
    ∙ (append_assoc (start ++ a) b (c ++ d) ∙ append_assoc start a (b ++ (c ++ d)))))))

pub returns-clause-spelled : goal.returns-clause-spelled
returns-clause-spelled c =
    let word = c.args.word in
    pushed_four c.args.bytes.now.items c.push_number.new.bytes.items c.push_number-2.new.bytes.items
    c.push_number-3.new.bytes.items c.push_number-4.new.bytes.items (to_be_bytes w64 (code_of word.op))
    (to_be_bytes w64 word.offset) (to_be_bytes w64 word.a) (to_be_bytes w64 word.b)
    (c.push_number.ensures.pushed
    ∙ ap (λ (code : ℕ). c.args.bytes.now.items ++ to_be_bytes w64 code) c.code.ensures)
    c.push_number-2.ensures.pushed c.push_number-3.ensures.pushed c.push_number-4.ensures.pushed
