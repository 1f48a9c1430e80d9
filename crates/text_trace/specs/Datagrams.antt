-- What a clause reads of a `Datagram`.
use Rattle.std.specs.Prelude.{ℕ, List}
use Rattle.text_trace.specs.declared.datagram.Datagram.{Datagram}

abbrev pub datagram_bytes : Datagram → List ℕ
datagram_bytes datagram = datagram.bytes.now
