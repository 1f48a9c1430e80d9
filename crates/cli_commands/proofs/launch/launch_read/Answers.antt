use Rattle.std.proofs.Common.{◌≡◌, ap, false, true, refl, sym, ◌∙◌}
use Rattle.cli_launch.specs.Children.{spawner_seen}
use Rattle.cli_commands.specs.LaunchCommand.{ReadsLaunch}
use Rattle.cli_commands.specs.Outsides.{Spawning, spawning_of}
use Rattle.cli_commands.specs.Ports.{has_ports}
use Rattle.cli_commands.proofs.LaunchCommand.{checked_told, fault_told, launch_so, ports_told}
use Rattle.cli_commands.proofs.launch.launch_read.Goals as goal

pub returns-then-not-has_ports : goal.returns-then-not-has_ports
returns-then-not-has_ports g c = λ reading given.
    let job = c.args.read.job in
    let none : has_ports c.args.at.port job.settings.nodes ≡ false =
    ap (has_ports c.args.at.port) (sym c.nodes.ensures.nodes) ∙ (sym c.has_ports.ensures ∙ c.if-not-has_ports.true) in
    let says = rw c.nothing.ensures at c.say.ensures in
    ports_told c.args.at.port reading _ job _ _ c.say.result given.0 none refl says

pub check_outputs-requires : goal.check_outputs-requires
check_outputs-requires g c = record {
  job = c.requires;
  count = c.in-Ok.ensures.ends.given.count ∙ c.in-Ok.ensures.ends.all;
  traces = c.in-Ok.ensures.traces;
}

pub returns-in-Ok : goal.returns-in-Ok
returns-in-Ok g c = λ reading given.
    let job = c.args.read.job in
    let ports : has_ports c.args.at.port job.settings.nodes ≡ true =
    ap (has_ports c.args.at.port) (sym c.nodes.ensures.nodes) ∙ (sym c.has_ports.ensures ∙ c.if-not-has_ports.false) in
    let reads : ReadsLaunch c.args.at.port reading = record { job = job; read = given.0; ports = ports } in
    let so = launch_so c.args.at.port reading reads c.deref.result.now (given.1 ∙ sym c.deref.ensures.value) in
    let spawning : Spawning = spawning_of (spawner_seen g.P.Spawner c.args.spawner.now)
    (spawner_seen g.P.Spawner c.launch_nodes.new.spawner) in
    checked_told c.args.at.port reading spawning reads _ c.in-Ok.outputs.items _ _ c.check_outputs.result so
    c.in-Ok.ensures.ends c.check_outputs.ensures

pub returns-in-Err : goal.returns-in-Err
returns-in-Err g c = λ reading given.
    let job = c.args.read.job in
    let ports : has_ports c.args.at.port job.settings.nodes ≡ true =
    ap (has_ports c.args.at.port) (sym c.nodes.ensures.nodes) ∙ (sym c.has_ports.ensures ∙ c.if-not-has_ports.false) in
    let reads : ReadsLaunch c.args.at.port reading = record { job = job; read = given.0; ports = ports } in
    let so = launch_so c.args.at.port reading reads c.deref.result.now (given.1 ∙ sym c.deref.ensures.value) in
    let says = rw (c.nothing-in-Err.ensures, c.end_of_fault.ensures) at c.say-in-Err.ensures in
    let spawning : Spawning = spawning_of (spawner_seen g.P.Spawner c.args.spawner.now)
    (spawner_seen g.P.Spawner c.launch_nodes.new.spawner) in
    fault_told c.args.at.port reading spawning reads _ c.in-Err.fault _ _ c.say-in-Err.result so c.in-Err.ensures.ends says
