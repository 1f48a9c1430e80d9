use Rattle.cli_commands.proofs.UpgradeCommand.{upgrade_cut, upgrade_done}
use Rattle.cli_commands.proofs.upgrade.write_upgraded.Goals as goal

pub returns-in-Done : goal.returns-in-Done
returns-in-Done g c = λ reading read.
    rw c.nothing.ensures
    (upgrade_done reading c.args.job _ _ read (rw c.into_upgraded-upgraded.ensures at c.in-Done.ensures))

pub returns : goal.returns
returns g c = λ reading read.
    rw c.cut.ensures
    (upgrade_cut reading c.args.job _ _ read (rw c.into_upgraded-upgraded.ensures at c.in-Fault.ensures))
