use Rattle.std.proofs.Common.{codes, sym, ◌∙◌}
use Rattle.std.proofs.lemmas.Slice.Eq.{bytes_eq-Decides}
use Rattle.cli_commands.proofs.AskedWords.{asks_drill, asks_launch, no_port, no_seed, two_other}
use Rattle.cli_commands.proofs.words.of_two.Goals as goal

pub returns-in-Some : goal.returns-in-Some
returns-in-Some c =
    asks_drill c.args.name.now c.args.word.now c.in-Some.seed c.in-Some.ensures.0
    ((bytes_eq-Decides c.args.name.now (codes "drill")).0 (sym c.eq.ensures ∙ c.if-eq.true)) c.in-Some.ensures.1

pub returns-in-None : goal.returns-in-None
returns-in-None c =
    no_seed c.args.name.now c.args.word.now
    ((bytes_eq-Decides c.args.name.now (codes "drill")).0 (sym c.eq.ensures ∙ c.if-eq.true)) c.in-None.ensures

pub returns-in-Some-number_in : goal.returns-in-Some-number_in
returns-in-Some-number_in c =
    let port = c.in-Some-number_in.ensures in
    asks_launch c.args.name.now c.args.word.now c.in-Some-number_in.port port.0 port.1
    ((bytes_eq-Decides c.args.name.now (codes "launch")).0 (sym c.eq-else-eq.ensures ∙ c.if-eq-2.true)) port.2

pub returns-in-None-number_in : goal.returns-in-None-number_in
returns-in-None-number_in c =
    no_port c.args.name.now c.args.word.now
    ((bytes_eq-Decides c.args.name.now (codes "launch")).0 (sym c.eq-else-eq.ensures ∙ c.if-eq-2.true))
    c.in-None-number_in.ensures

pub returns-else-eq-2 : goal.returns-else-eq-2
returns-else-eq-2 c =
    two_other c.args.name.now c.args.word.now
    (λ is.
    let yes = c.eq.ensures ∙ (bytes_eq-Decides c.args.name.now (codes "drill")).1 is in
    let no = c.if-eq.false in
    absurd (cc))
    (λ is.
    let yes = c.eq-else-eq.ensures ∙ (bytes_eq-Decides c.args.name.now (codes "launch")).1 is in
    let no = c.if-eq-2.false in
    absurd (cc))
