-- Which of the datagrams that arrive at a node is taken.
use Rattle.std.specs.Prelude.{◌≡◌, ℕ, ◌<◌, ◌⊎◌, List, [], ◌∷◌, ◌++◌, length, map, take}
use Rattle.std.specs.Prelude.{Option, Some, None, Result, Ok, Err}
use Rattle.std.specs.IoError.{error_kind}
use Rattle.std.specs.List.{AllByRecursion}
use Rattle.std.specs.declared.io.Error.{Error}
use Rattle.std.specs.declared.io.ErrorKind.TheVariants.{WouldBlock}
use Rattle.std.specs.declared.net.ip_addr.IpAddr.{IpAddr}
use Rattle.std.specs.declared.net.socket_addr.SocketAddr.{SocketAddr}
use Rattle.base_io.specs.Told.{and_all}
use Rattle.proc_linux.specs.Addresses.{FindsPeer}
use Rattle.proc_linux.specs.declared.arrivals.Bound.{Bound}
use Rattle.proc_linux.specs.declared.arrivals.Look.{Look}

-- what asking for the next datagram gave: its bytes and its source, or an error
abbrev pub Arrival : Type 0
Arrival = Result (List ℕ × SocketAddr) Error

-- where its bytes went to the beginning of a buffer, so many as is answered
abbrev pub arrival_of : Result (ℕ × SocketAddr) Error → (buf : List ℕ) → Arrival
arrival_of (Ok got) buf = Ok (take got.0 buf, got.1)
arrival_of (Err error) buf = Err error

-- what a link tells of what it is bound to: the rank of its node, the number of nodes, and the port of rank 0
abbrev pub told_bound : Bound → ℕ × ℕ × ℕ
told_bound bound = (bound.rank, bound.nodes, bound.port)

-- the peer of that node at this address, where there is one
abbrev pub FindsSender : List IpAddr → Bound → SocketAddr → Option ℕ → Type 0
FindsSender hosts bound from peer = FindsPeer hosts bound.port bound.nodes bound.rank from peer

-- what ends a look after so many strays: the datagram of a peer, which is in the buffer; an error; or the 64th stray,
-- which is told as an error of the kind `WouldBlock`
abbrev pub EndsLook : List IpAddr → Bound → (buf : List ℕ) → (strays : ℕ) → Result (ℕ × ℕ) Error
    → List Arrival → Type 0
EndsLook hosts bound buf strays (Ok got) last =
    (from : SocketAddr) × (last ≡ Ok (take got.0 buf, from) ∷ []) × FindsSender hosts bound from (Some got.1)
    × (strays < 64)
EndsLook hosts bound buf strays (Err error) last =
    ((last ≡ Err error ∷ []) × (strays < 64))
    ⊎ ((last ≡ []) × (strays ≡ 64) × (error_kind error ≡ WouldBlock))

-- a look at what arrives, by what that tells before and after: first strays, which are counted, then what ends it
pub record TakesFirst (hosts : List IpAddr) (bound : Bound) (buf : List ℕ) (look : Look)
    (old new : Option (List Arrival)) : Type 0 where
  pub strays : List (List ℕ × SocketAddr)
  pub last : List Arrival
  pub arrived : new ≡ and_all old (map Ok strays ++ last)
  pub each : AllByRecursion (λ stray. FindsSender hosts bound stray.1 None) strays
  pub counted : look.strays ≡ length strays
  pub ends : EndsLook hosts bound buf look.strays look.found last
