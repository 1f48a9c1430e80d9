-- The addresses of a job's nodes.
use Rattle.std.specs.Prelude.{◌≡◌, ◌⊎◌, ℕ, ◌+◌, ◌<◌, ◌≤◌, ◌^◌, List, [], ◌∷◌, length, Option, Some, None, slice_get}
use Rattle.std.specs.Net.Socket.{socket_ip, socket_port}
use Rattle.std.specs.declared.net.ip_addr.IpAddr.{IpAddr}
use Rattle.std.specs.declared.net.socket_addr.SocketAddr.{SocketAddr}
use Rattle.proc_linux.specs.declared.hosts.TheConstants.{LOCAL}

-- the host of the node of this rank, by the list of hosts: this host where that is empty
abbrev pub host_of : List IpAddr → (rank : ℕ) → Option IpAddr
host_of [] rank = Some LOCAL
host_of (first ∷ more) rank = slice_get (first ∷ more) rank

-- there is one host for each of so many nodes, or all are on this one
abbrev pub AreFor : List IpAddr → (nodes : ℕ) → Type 0
AreFor hosts nodes = (hosts ≡ []) ⊎ (length hosts ≡ nodes)

-- the node of this rank has a place among so many nodes: each has a host, and a port behind that of rank 0
pub record HasPlace (hosts : List IpAddr) (port nodes rank : ℕ) : Type 0 where
  pub among : rank < nodes
  pub ports : port + nodes ≤ 2 ^ 16
  pub each_host : AreFor hosts nodes

-- the node of this rank is at this address, where `port` is that of rank 0
pub record IsAt (hosts : List IpAddr) (port rank : ℕ) (address : SocketAddr) : Type 0 where
  pub host : host_of hosts rank ≡ Some (socket_ip address)
  pub own : socket_port address ≡ port + rank

-- its address, where it has one
abbrev pub IsAddress : List IpAddr → (port rank : ℕ) → Option SocketAddr → Type 0
IsAddress hosts port rank (Some address) = IsAt hosts port rank address
IsAddress hosts port rank None = port + rank < 2 ^ 16 → host_of hosts rank ≡ None

-- the node of this rank is another one of the job, and at this address
pub record IsPeer (hosts : List IpAddr) (port nodes own rank : ℕ) (address : SocketAddr) : Type 0 where
  pub among : rank < nodes
  pub other : rank ≡ own → ⊥
  pub at : IsAt hosts port rank address

-- the peer at this address, where there is one
abbrev pub FindsPeer : List IpAddr → (port nodes own : ℕ) → SocketAddr → Option ℕ → Type 0
FindsPeer hosts port nodes own address (Some rank) = IsPeer hosts port nodes own rank address
FindsPeer hosts port nodes own address None = (rank : ℕ) → IsPeer hosts port nodes own rank address → ⊥
