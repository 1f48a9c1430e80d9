use Rattle.std.proofs.Common.{◌≡◌, decimal, sym, ap, ◌∙◌, arith}
use Rattle.std.proofs.lemmas.Fmt.{parse-decimal}
use Rattle.std.proofs.lemmas.Slice.Eq.{bytes_eq-Decides}
use Rattle.cli_commands.proofs.words.number_of.Goals as goal

pub returns-in_default : goal.returns-in_default
returns-in_default c = λ number fits is.
    let read = parse-decimal 64 number c.args.word.now c.parse.result fits fits is c.parse.ensures.value.0 in
    let other = c.in_default.is in
    absurd (cc)

pub returns-then-eq : goal.returns-then-eq
returns-then-eq c =
    let same = (bytes_eq-Decides c.format.result.now c.args.word.now).0 (sym c.eq.ensures ∙ c.if-eq.true) in
    (omega arith, sym same ∙ c.format.ensures.text)

pub returns-else-eq : goal.returns-else-eq
returns-else-eq c = λ number fits is.
    let read = parse-decimal 64 number c.args.word.now c.parse.result fits fits is c.parse.ensures.value.0 in
    let got = c.in-Ok.is in
    let same : c.in-Ok.number ≡ number = cc in
    let text = c.format.ensures.text ∙ (ap (λ n. decimal n) same ∙ sym is) in
    let yes = c.eq.ensures ∙ (bytes_eq-Decides c.format.result.now c.args.word.now).1 text in
    let no = c.if-eq.false in
    absurd (cc)
