-- The hosts that a text names.
use Rattle.std.specs.Prelude.{ℕ, ◌≤◌, ◌==◌, ◌||◌, Bool, true, false, List, [], ◌∷◌, length, filter}
use Rattle.std.specs.Prelude.{Option, Some, None}
use Rattle.std.specs.Char.{is_ascii_whitespace}
use Rattle.std.specs.List.{AllZip, slice_split}
use Rattle.std.specs.Net.Grammar.{IsIpText}
use Rattle.std.specs.declared.net.ip_addr.IpAddr.{IpAddr}
use Rattle.proc_linux.specs.declared.hosts.Hosts.{Hosts}

-- whether a byte stands between hosts: a comma, or white space of ASCII, which spaces and line ends are
abbrev pub is_between : ℕ → Bool
is_between byte = (byte == 44) || is_ascii_whitespace byte

-- whether a piece of a text isn't empty
abbrev pub has_bytes : List ℕ → Bool
has_bytes [] = false
has_bytes (byte ∷ more) = true

-- the pieces of a text between such bytes, in order, without empty ones
abbrev pub host_words : List ℕ → List (List ℕ)
host_words text = filter has_bytes (slice_split is_between text)

-- a text has these hosts: these pieces are the texts of the addresses, place by place, and there are 1 to 256
pub record HasHosts (text : List ℕ) (hosts : List IpAddr) : Type 0 where
  pub texts : AllZip IsIpText (host_words text) hosts
  pub some : 1 ≤ length hosts
  pub most : length hosts ≤ 256

-- the hosts of a text, where it has some
abbrev pub NamesHosts : List ℕ → Option Hosts → Type 0
NamesHosts text (Some hosts) = HasHosts text hosts.addresses.items
NamesHosts text None = (hosts : List IpAddr) → HasHosts text hosts → ⊥
