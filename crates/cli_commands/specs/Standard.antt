-- Readers and writers of std, with a count of their errors.
use Rattle.std.specs.Prelude.{ℕ, List, Option}
use Rattle.base_io.specs.declared.link.Link.{Ghosts as LinkGhosts}
use Rattle.base_io.specs.declared.spawner.Spawner.{Ghosts as SpawnerGhosts}
use Rattle.base_io.specs.declared.clock.Clock.{Ghosts as ClockGhosts}
use Rattle.proc_node.specs.Seen.{devices_seen}
use Rattle.cli_launch.specs.Children.{spawner_seen}
use Rattle.cli_commands.specs.Outsides.{OutsideView}
use Rattle.cli_commands.specs.declared.outside.Outside.{Outside}

-- a reader or a writer, and how often it gave an error
pub record DeviceWithFaults (D : Type 0) : Type 0 where
  pub device : D
  pub faults : ℕ

-- what is seen of an outside that reads and writes by these: by what they tell and how often each gave an error
abbrev pub streams_seen : {R W L P C G : Type 0} → (remaining : R → Option (List ℕ))
    → (contents : W → Option (List ℕ)) → LinkGhosts L → SpawnerGhosts P → ClockGhosts C
    → Outside (DeviceWithFaults R) (DeviceWithFaults W) L P C G → OutsideView
streams_seen remaining contents links spawners clocks outside = record {
  source = record { left = remaining outside.source.device; faults = outside.source.faults };
  sink = record { taken = contents outside.sink.device; faults = outside.sink.faults };
  devices = devices_seen links clocks outside.link outside.clock;
  spawner = spawner_seen spawners outside.spawner;
}

-- reader and writer before their first errors
abbrev pub before_faults : {R W L P C G : Type 0} → Outside R W L P C G
    → Outside (DeviceWithFaults R) (DeviceWithFaults W) L P C G
before_faults outside = record {
  source = record { device = outside.source; faults = 0 };
  sink = record { device = outside.sink; faults = 0 };
  link = outside.link;
  spawner = outside.spawner;
  clock = outside.clock;
  waiter = outside.waiter;
}
