-- How a node opens.
use Rattle.std.specs.Prelude.{ℕ, ◌≡◌, ◌<◌, ◌≤◌, ◌⊎◌, nat_le, if◌then◌else◌, List, [], Option, Some, None}
use Rattle.wire_message.specs.Parameters.{Parameters, AreInRange}
use Rattle.part_handlers.specs.Registered.{entry_at}
use Rattle.part_handlers.specs.declared.serves.Serves.TheVariants as served
use Rattle.part_handlers.specs.declared.table.Entry.{Entry}
use Rattle.spec_node.specs.Record.{opening_node}
use Rattle.node_rules.specs.EndpointLocal.{nothing_begun}
use Rattle.node_endpoint.specs.EndpointState.{EndpointState, EndpointStands}
use Rattle.gasnet_c.specs.declared.opening.Setup.{Setup}

-- the version of the datagrams of a job of so many nodes: the first one that has them
abbrev pub version_for : (nodes : ℕ) → ℕ
version_for nodes = if nat_le nodes 64 then 1 else 2

-- the settings of the job that C sets up: one thread a node, and all numbers of requests
abbrev pub settings_of : Setup → Parameters
settings_of setup = record {
  version = version_for setup.nodes;
  job = setup.job;
  nodes = setup.nodes;
  credits = setup.credits;
  pairs = [];
  threads = 1;
  segment = setup.segment;
  last = 18446744073709551615;
  resend = setup.resend;
}

-- the handler of an index of a client's: it runs for requests and for replies, and lists no lock
abbrev pub client_entry : (index : ℕ) → Entry
client_entry index = record { index = index; serves = served.Both; locks = 0 }

-- each index of a client's has it, from 128 to 255
abbrev pub ServesAll : List (Option Entry) → Type 0
ServesAll table = (index : ℕ) → 128 ≤ index → index < 256 → entry_at table index ≡ Some (client_entry index)

-- it is the node `me` of such a job, which serves each index, asked and ran nothing, and began nothing
pub record IsOpenedNode (settings : Parameters) (me : ℕ) (endpoint : EndpointState) : Type 0 where
  pub settings_are : endpoint.core.settings ≡ settings
  pub me_is : endpoint.core.me ≡ me
  pub serves : ServesAll endpoint.core.table
  pub stands : EndpointStands endpoint (opening_node (nothing_begun settings))

-- the setup is within its limits
abbrev pub IsSetupWithin : Setup → Type 0
IsSetupWithin setup = AreInRange (settings_of setup) × (setup.me < setup.nodes)

-- a dead handle has a node where the setup is within its limits and there is memory; a live one stays as it is
abbrev pub Opens : Setup → Option EndpointState → (answer : ℕ) → Option EndpointState → Type 0
Opens setup None answer None = ((answer ≡ 1) × (IsSetupWithin setup → ⊥)) ⊎ ((answer ≡ 2) × IsSetupWithin setup)
Opens setup None answer (Some endpoint) =
    (answer ≡ 0) × IsSetupWithin setup × IsOpenedNode (settings_of setup) setup.me endpoint
Opens setup (Some old) answer new = (answer ≡ 3) × (new ≡ Some old)
