use Rattle.std.proofs.Common.{inr}
use Rattle.std.proofs.lemmas.Result.{err_from_is_err_and}
use Rattle.cli_settings.proofs.environment.secret_told.Goals as goal

pub returns-in_err-secret_in-in-Some-clause-refused : goal.returns-in_err-secret_in-in-Some-clause-refused
returns-in_err-secret_in-in-Some-clause-refused g c =
    let residual = c.from_residual-in_err-secret_in-in-Some in
    let failed = err_from_is_err_and residual.result residual.ensures.1 in
    let refused = rw c.as_str.ensures.value at c.in_err-secret_in-in-Some.ensures.refused in
    rw (failed.1, failed.2) (inr (c.in-Some.path, rw c.in-Some.is at c.in_ok-path.ensures, refused))
