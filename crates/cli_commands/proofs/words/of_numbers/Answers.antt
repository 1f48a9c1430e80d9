use Rattle.std.proofs.Common.{arith, codes}
use Rattle.cli_commands.proofs.AskedWords.{asks_node, no_numbers}
use Rattle.cli_commands.proofs.words.of_numbers.Goals as goal

pub returns-in_default : goal.returns-in_default
returns-in_default c = no_numbers (codes "node") c.args.rank.now c.args.port.now
    (λ rank port few low high r p. c.in_default.ensures rank (omega arith) few r)

pub returns-in-Some-number_in : goal.returns-in-Some-number_in
returns-in-Some-number_in c =
    let rank = c.in-Some.ensures in
    let port = c.in-Some-number_in.ensures in
    asks_node c.args.rank.now c.args.port.now c.in-Some.rank c.in-Some-number_in.port rank.1 port.0 port.1 rank.2 port.2

pub returns-in-None : goal.returns-in-None
returns-in-None c = no_numbers (codes "node") c.args.rank.now c.args.port.now
    (λ rank port few low high r p. c.in-None.ensures port low high p)
