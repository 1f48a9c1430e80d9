use Rattle.std.proofs.Common.{arith, sym}
use Rattle.itoa.proofs.Decimal.{length_one, length_two}
use Rattle.base_io.proofs.Decimals.{length_three, length_of_four}
use Rattle.base_io.proofs.buffered.few_digits_of.Goals as goal

pub returns-then-number-lt10 : goal.returns-then-number-lt10
returns-then-number-lt10 c = sym (length_one c.args.number c.if-number-lt10.true)

pub returns-then-number-lt100 : goal.returns-then-number-lt100
returns-then-number-lt100 c = sym (length_two c.args.number (omega arith) c.if-number-lt100.true)

pub returns-then-number-lt1000 : goal.returns-then-number-lt1000
returns-then-number-lt1000 c = sym (length_three c.args.number (omega arith) c.if-number-lt1000.true)

pub returns : goal.returns
returns c = sym (length_of_four c.args.number (omega arith) c.requires)
