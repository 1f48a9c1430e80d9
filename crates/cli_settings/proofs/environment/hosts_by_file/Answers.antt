use Rattle.std.proofs.Common.{refl, inr}
use Rattle.cli_settings.proofs.environment.hosts_by_file.Goals as goal

pub returns-clause-refused : goal.returns-clause-refused
returns-clause-refused g c =
    inr (c.in-Some.path, rw c.in-Some.is at c.in_ok-path.ensures, rw c.as_str.ensures.value at c.in-None.ensures, refl)
