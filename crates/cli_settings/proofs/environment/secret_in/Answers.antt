use Rattle.std.proofs.Common.{sym, inr}
use Rattle.std.proofs.lemmas.Result.{err_from_is_err_and}
use Rattle.cli_settings.proofs.environment.secret_in.Goals as goal

-- the key is that of the text which was read
pub returns-clause-told : goal.returns-clause-told
returns-clause-told g c =
    let read = rw c.trim.ensures.trim at c.in_ok-secret.ensures.read in
    record {
      text = c.in_ok-text.text;
      is_text = c.in_ok-text.ensures.told;
      decodes = rw c.as_str.ensures.value at read;
    }

-- or the text has no digits of a key
pub returns-in_err-secret-clause-refused : goal.returns-in_err-secret-clause-refused
returns-in_err-secret-clause-refused g c =
    let failed = err_from_is_err_and c.from_residual-in_err-secret.result c.from_residual-in_err-secret.ensures.1 in
    let only = rw c.trim.ensures.trim at c.in_err-secret.ensures.only in
    let none = rw c.as_str.ensures.value at only in
    rw (failed.1, failed.2) (inr (
      c.in_ok-text.text,
      c.in_ok-text.ensures.told,
      sym none,
      c.in_err-secret.ensures.refused,
    ))
