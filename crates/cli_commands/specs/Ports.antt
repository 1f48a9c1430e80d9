-- The ports of a job's nodes.
use Rattle.std.specs.Prelude.{ℕ, ◌+◌, nat_le, Bool}
use Rattle.cli_commands.specs.declared.ports.TheConstants.{PORTS}

-- each of so many nodes has its port where rank 0 has this one
abbrev pub has_ports : (port nodes : ℕ) → Bool
has_ports port nodes = nat_le (port + nodes) PORTS
