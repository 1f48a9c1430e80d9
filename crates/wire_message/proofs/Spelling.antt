-- How long a spelling is, and that it has one message.
use Rattle.std.proofs.Common.{◌≡◌, ℕ, ◌+◌, ◌≤◌, List, length, get_or, sym, ap, ◌∙◌, arith}
use Rattle.wire_message.specs.Content.{Message, IsMessage, IsWellFormed, Spells, header, spelling}
use Rattle.wire_message.specs.Reading.{message_at}
use Rattle.wire_message.proofs.Laws.{length-spelling, again}
use Rattle.wire_message.proofs.Ranges.{formed}

-- a spelling has a whole header, and fits a buffer of 8,296 bytes
pub record FitsBuffer (m : Message) : Type 0 where
  pub header : 40 ≤ length (spelling m)
  pub buffer : length (spelling m) ≤ 8296

pub formed_fits : (m : Message) → IsWellFormed m → FitsBuffer m
formed_fits m is = record {
  header = omega (arith, length-spelling m);
  buffer = omega (arith, length-spelling m, is.count, is.payload_length);
}

pub spelling_fits : (m : Message) → IsMessage m → FitsBuffer m
spelling_fits m is = formed_fits m (formed m is)

-- equal spellings are of one version
same_version : (m k : Message) → spelling m ≡ spelling k → m.version ≡ k.version
unfolding spelling header
same_version m k e = let byte : 48 + m.version ≡ 48 + k.version = ap (λ bytes. get_or bytes 3 0) e in omega arith

-- two messages with equal spellings are one message
pub spelling_tells : (m k : Message) → IsMessage m → IsMessage k → spelling m ≡ spelling k → m ≡ k
spelling_tells m k first second e =
    sym (again m first).same
    ∙ (ap (message_at m.version) e
    ∙ (ap (λ version. message_at version (spelling k)) (same_version m k e) ∙ (again k second).same))

-- two messages with one spelling are one message
pub same_message : (m k : Message) (bytes : List ℕ) → Spells m bytes → Spells k bytes → m ≡ k
same_message m k bytes first second = spelling_tells m k first.fits second.fits (sym first.is ∙ second.is)
