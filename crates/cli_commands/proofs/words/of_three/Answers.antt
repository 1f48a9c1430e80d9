use Rattle.std.proofs.Common.{codes, sym, subst, ◌∙◌, ◌∷◌, [], List, ℕ}
use Rattle.std.proofs.lemmas.Slice.Eq.{bytes_eq-Decides}
use Rattle.cli_commands.specs.Commands.{IsAsked}
use Rattle.cli_commands.proofs.AskedWords.{three_other}
use Rattle.cli_commands.proofs.words.of_three.Goals as goal

pub returns-then-eq : goal.returns-then-eq
returns-then-eq c =
    let name = (bytes_eq-Decides c.args.name.now (codes "node")).0 (sym c.eq.ensures ∙ c.if-eq.true) in
    subst (λ (w : List ℕ). IsAsked (w ∷ c.args.rank.now ∷ c.args.port.now ∷ []) c.of_numbers.result) (sym name)
    c.of_numbers.ensures

pub returns-else-eq : goal.returns-else-eq
returns-else-eq c =
    three_other c.args.name.now c.args.rank.now c.args.port.now
    (λ is.
    let yes = c.eq.ensures ∙ (bytes_eq-Decides c.args.name.now (codes "node")).1 is in
    let no = c.if-eq.false in
    absurd (cc))
