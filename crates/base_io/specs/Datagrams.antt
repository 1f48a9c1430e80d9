-- Datagrams in vectors.
use Rattle.std.specs.Prelude.{ℕ, List, map}
use Rattle.std.specs.Global.{Vec}

-- the bytes of each
abbrev pub bytes_of : List (Vec ℕ) → List (List ℕ)
bytes_of datagrams = map (λ datagram. datagram.items) datagrams

-- each with its node
abbrev pub sent_of : List (ℕ × Vec ℕ) → List (ℕ × List ℕ)
sent_of datagrams = map (λ datagram. (datagram.0, datagram.1.items)) datagrams
