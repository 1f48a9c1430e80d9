use Rattle.std.proofs.Common.{◌≡◌, ℕ, ◌<◌, ◌≤◌, ◌^◌, List, Option, Some, None, decimal, sym, ap, ◌∙◌, arith}
use Rattle.std.specs.Prelude.{MatchOption}
use Rattle.std.proofs.lemmas.Fmt.{parse-decimal}
use Rattle.std.proofs.lemmas.Slice.Eq.{bytes_eq-Decides}
use Rattle.cli_commands.proofs.words.number_in.Goals as goal

-- a number of the word, in the range or not
in_range : (found : Option ℕ) (number least most : ℕ) (word : List ℕ)
    → word ≡ decimal number → ((other : ℕ) → other ≤ most → word ≡ decimal other → number ≡ other)
    → MatchOption found (least ≤ number → number ≤ most → ⊥)
    (λ same. (same ≡ number) × (least ≤ same) × (same ≤ most))
    → MatchOption found ((other : ℕ) → least ≤ other → other ≤ most → word ≡ decimal other → ⊥)
    (λ same. (least ≤ same) × (same ≤ most) × (word ≡ decimal same))
in_range None number least most word text one h = λ other low high is.
    let same = one other high is in h (omega (arith, same, low)) (omega (arith, same, high))
in_range (Some found) number least most word text one h =
    (h.1, h.2, text ∙ ap (λ (n : ℕ). decimal n) (sym h.0))

pub returns-in_default : goal.returns-in_default
returns-in_default c = λ number low high is.
    let most = c.args.most in
    let fits : number < 2 ^ 16 = omega arith in
    let wide : number < 2 ^ 64 = omega arith in
    let read = parse-decimal 16 number c.args.word.now c.parse.result fits wide is c.parse.ensures.value.0 in
    let other = c.in_default.is in
    absurd (cc)

pub returns-then-eq : goal.returns-then-eq
returns-then-eq c =
    let same = (bytes_eq-Decides c.format.result.now c.args.word.now).0 (sym c.eq.ensures ∙ c.if-eq.true) in
    let text = sym same ∙ c.format.ensures.text in
    in_range c.ranged.result c.in-Ok.number c.args.least c.args.most c.args.word.now text
    (λ other high is.
    let fits : other < 2 ^ 16 = omega arith in
    let wide : other < 2 ^ 64 = omega arith in
    let read = parse-decimal 16 other c.args.word.now c.parse.result fits wide is c.parse.ensures.value.0 in
    let got = c.in-Ok.is in
    cc) c.ranged.ensures

pub returns-else-eq : goal.returns-else-eq
returns-else-eq c = λ number low high is.
    let fits : number < 2 ^ 16 = omega arith in
    let wide : number < 2 ^ 64 = omega arith in
    let read = parse-decimal 16 number c.args.word.now c.parse.result fits wide is c.parse.ensures.value.0 in
    let got = c.in-Ok.is in
    let same : c.in-Ok.number ≡ number = cc in
    let text = c.format.ensures.text ∙ (ap (λ n. decimal n) same ∙ sym is) in
    let yes = c.eq.ensures ∙ (bytes_eq-Decides c.format.result.now c.args.word.now).1 text in
    let no = c.if-eq.false in
    absurd (cc)
