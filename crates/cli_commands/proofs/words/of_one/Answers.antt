use Rattle.std.proofs.Common.{codes, sym, ◌∙◌}
use Rattle.std.proofs.lemmas.Slice.Eq.{bytes_eq-Decides}
use Rattle.cli_commands.proofs.AskedWords.{asks_check, asks_upgrade, asks_world, one_other}
use Rattle.cli_commands.proofs.words.of_one.Goals as goal

pub returns-then-eq : goal.returns-then-eq
returns-then-eq c =
    asks_world c.args.word.now
    ((bytes_eq-Decides c.args.word.now (codes "world")).0 (sym c.eq.ensures ∙ c.if-eq.true))

pub returns-then-eq-2 : goal.returns-then-eq-2
returns-then-eq-2 c =
    asks_upgrade c.args.word.now
    ((bytes_eq-Decides c.args.word.now (codes "upgrade")).0 (sym c.eq-else-eq.ensures ∙ c.if-eq-2.true))

pub returns-then-eq-3 : goal.returns-then-eq-3
returns-then-eq-3 c =
    asks_check c.args.word.now
    ((bytes_eq-Decides c.args.word.now (codes "check")).0 (sym c.eq-else-eq-2.ensures ∙ c.if-eq-3.true))

pub returns-else-eq-3 : goal.returns-else-eq-3
returns-else-eq-3 c =
    one_other c.args.word.now
    (λ is.
    let yes = c.eq.ensures ∙ (bytes_eq-Decides c.args.word.now (codes "world")).1 is in
    let no = c.if-eq.false in
    absurd (cc))
    (λ is.
    let yes = c.eq-else-eq.ensures ∙ (bytes_eq-Decides c.args.word.now (codes "upgrade")).1 is in
    let no = c.if-eq-2.false in
    absurd (cc))
    (λ is.
    let yes = c.eq-else-eq-2.ensures ∙ (bytes_eq-Decides c.args.word.now (codes "check")).1 is in
    let no = c.if-eq-3.false in
    absurd (cc))
