use Rattle.std.proofs.Common.{inl, inr}
use Rattle.std.proofs.lemmas.Result.{err_from_is_err_and}
use Rattle.cli_settings.proofs.environment.settings_told.Goals as goal

pub returns-in_err-agent-clause-refused : goal.returns-in_err-agent-clause-refused
returns-in_err-agent-clause-refused g c =
    let failed = err_from_is_err_and c.from_residual-in_err-agent.result c.from_residual-in_err-agent.ensures.1 in
    rw (failed.1, failed.2) (inr ((c.in_ok-secret.secret, c.in_ok-secret.ensures.told), inl c.in_err-agent.ensures))

pub returns-in_err-folder-clause-refused : goal.returns-in_err-folder-clause-refused
returns-in_err-folder-clause-refused g c =
    let failed = err_from_is_err_and c.from_residual-in_err-folder.result c.from_residual-in_err-folder.ensures.1 in
    rw (failed.1, failed.2) (inr (
      (c.in_ok-secret.secret, c.in_ok-secret.ensures.told),
      inr ((c.in_ok-agent.agent, c.in_ok-agent.ensures), inl c.in_err-folder.ensures),
    ))

pub returns-in_err-value-clause-refused : goal.returns-in_err-value-clause-refused
returns-in_err-value-clause-refused g c =
    let failed = err_from_is_err_and c.from_residual-in_err-value.result c.from_residual-in_err-value.ensures.1 in
    rw (failed.1, failed.2) (inr (
      (c.in_ok-secret.secret, c.in_ok-secret.ensures.told),
      inr (
        (c.in_ok-agent.agent, c.in_ok-agent.ensures),
        inr ((c.in_ok-folder.folder, c.in_ok-folder.ensures), c.in_err-value.ensures),
      ),
    ))
