use Rattle.std.proofs.lemmas.Result.{err_from_is_err_and}
use Rattle.base_text.proofs.WholeNumbers.{whole_some, whole_rest, whole_none}
use Rattle.base_text.proofs.numbers.number_of.Goals as goal

pub returns-in_err-number : goal.returns-in_err-number
returns-in_err-number c =
    let failed = err_from_is_err_and c.from_residual.result c.from_residual.ensures.1 in
    rw failed.1 (whole_none c.args.word.now c.in_err-number.ensures)

pub returns : goal.returns
returns c =
    whole_some c.args.word.now c.in_ok-number.rest.now c.in_ok-number.number c.in_ok-number.ensures c.if-rest-ne0.false

pub returns-then-rest-ne0 : goal.returns-then-rest-ne0
returns-then-rest-ne0 c =
    whole_rest c.args.word.now c.in_ok-number.rest.now c.in_ok-number.number c.in_ok-number.ensures c.if-rest-ne0.true
