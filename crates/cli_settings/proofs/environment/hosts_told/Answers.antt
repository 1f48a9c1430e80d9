use Rattle.std.proofs.Common.{refl, inl, inr}
use Rattle.std.proofs.lemmas.Result.{err_from_is_err_and}
use Rattle.cli_settings.proofs.environment.hosts_told.Goals as goal

pub returns-in_err-text-clause-refused : goal.returns-in_err-text-clause-refused
returns-in_err-text-clause-refused g c =
    let failed = err_from_is_err_and c.from_residual.result c.from_residual.ensures.1 in
    rw (failed.1, failed.2) (inl c.in_err-text.ensures.refused)

pub returns-clause-refused : goal.returns-clause-refused
returns-clause-refused g c =
    let names = rw c.as_str.ensures.value at c.in_ok-hosts.ensures in
    inr (inl (
      c.in-Some.text,
      rw c.in-Some.is at c.in_ok-text.ensures.told,
      rw c.in-None.is at names,
      refl,
    ))

pub returns-in_err-hosts-clause-refused : goal.returns-in_err-hosts-clause-refused
returns-in_err-hosts-clause-refused g c =
    let residual = c.from_residual-in_err-hosts in
    let failed = err_from_is_err_and residual.result residual.ensures.1 in
    rw (failed.1, failed.2) (inr (inr (c.in-Some.text, rw c.in-Some.is at c.in_ok-text.ensures.told, refl)))
