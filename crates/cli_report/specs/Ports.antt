-- The ports of a launch that is given none.
use Rattle.std.specs.Prelude.{◌≡◌, ℕ, ◌+◌, ◌*◌, ◌%◌, ◌<◌, List, ◌++◌, Option, Some, None, codes, decimal}
use Rattle.cli_report.specs.declared.ports.FreePorts.{FreePorts}

-- the first port of the block at a place, counted from the one of a number
abbrev pub block_port : (number place : ℕ) → ℕ
block_port number place = 10023 + 257 * ((number + place) % 88)

-- a port was found free
pub record IsFree {H : Type 0} (holds : ℕ → Option H → Type 0) (port : ℕ) : Type 0 where
  pub by : H
  pub held : holds port (Some by)

-- so were those behind the first one of a block, up to this place
abbrev pub AreFreeTo : {H : Type 0} → (holds : ℕ → Option H → Type 0) → (first places : ℕ) → Type 0
AreFreeTo holds first places = (place : ℕ) → 0 < place → place < places → IsFree holds (first + place)

-- each port behind the first one of a block was found free
abbrev pub AreFree : {H : Type 0} → (holds : ℕ → Option H → Type 0) → (first : ℕ) → Type 0
AreFree holds first = AreFreeTo holds first 257

-- a port of a block was found taken
abbrev pub HasNone : {H : Type 0} → (holds : ℕ → Option H → Type 0) → (first : ℕ) → Type 0
HasNone holds first = (place : ℕ) × (place < 257) × holds (first + place) None

-- the ports of the block of this first port: all were found free, and the first one is held
pub record IsBlock {H : Type 0} (holds : ℕ → Option H → Type 0) (first : ℕ) (ports : FreePorts H) : Type 0 where
  pub port : ports.port ≡ first + 1
  pub held : holds first (Some ports.held)
  pub free : AreFree holds first

-- the ports of one of the 88 blocks; none where each has a port that was found taken
abbrev pub ArePorts : {H : Type 0} → (holds : ℕ → Option H → Type 0) → Option (FreePorts H) → Type 0
ArePorts holds (Some ports) =
    (number : ℕ) × (place : ℕ) × (place < 88) × IsBlock holds (block_port number place) ports
ArePorts holds None = (number : ℕ) × ((place : ℕ) → place < 88 → HasNone holds (block_port number place))

-- the port of the node of rank 0, or that none were free
abbrev pub ports_line : Option ℕ → List ℕ
ports_line (Some port) = codes "gasnet_cli: launch " ++ (decimal port ++ codes "\n")
ports_line None = codes "gasnet_cli: no 257 ports in a row are free; expected launch PORT\n"
