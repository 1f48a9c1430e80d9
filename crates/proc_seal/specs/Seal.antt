-- Sealed datagrams.
use Rattle.std.specs.Prelude.{ℕ, ◌-◌, List, ◌++◌, length, take, drop, Option, Some, None, Bool, ◌&&◌, nat_le, bytes_eq}
use Rattle.std.specs.Prelude.{if◌then◌else◌}
use Rattle.std.specs.Prelude.{◌≡◌, option_map, filter_map}
use Rattle.base_io.specs.declared.link.Received.{Received}
use Rattle.base_io.specs.Link.{ReceivedTold}
use Rattle.proc_seal.specs.Hmac.{hmac}

-- the tag of a datagram under a key
abbrev pub tag : (key datagram : List ℕ) → List ℕ
tag key datagram = take 16 (hmac key datagram)

-- a datagram with its tag behind it
abbrev pub sealed_under : (key datagram : List ℕ) → List ℕ
sealed_under key datagram = datagram ++ tag key datagram

-- what stands before the tag
abbrev pub before_tag : (whole : List ℕ) → List ℕ
before_tag whole = take (length whole - 16) whole

-- the tag
abbrev pub tag_of : (whole : List ℕ) → List ℕ
tag_of whole = drop (length whole - 16) whole

-- it is a datagram of at most 8,296 bytes with its tag
abbrev pub is_sealed : (key whole : List ℕ) → Bool
is_sealed key whole =
    nat_le 16 (length whole) && nat_le (length whole) 8312 && bytes_eq (tag_of whole) (tag key (before_tag whole))

-- the datagram, where it is sealed under this key
abbrev pub opened_under : (key whole : List ℕ) → Option (List ℕ)
opened_under key whole = if is_sealed key whole then Some (before_tag whole) else None

-- a datagram that was sent to a node, without its tag
abbrev pub without_tag : ℕ × List ℕ → ℕ × List ℕ
without_tag whole = (whole.0, before_tag whole.1)

-- the datagrams among these that are sealed under this key, without their tags, where they are told
abbrev pub opened_datagrams : (key : List ℕ) → Option (List (List ℕ)) → Option (List (List ℕ))
opened_datagrams key told = option_map (filter_map (opened_under key)) told

-- what is told of one more datagram: as a link tells it, and of one that was dropped nothing
abbrev pub OneTold : Option Received → List ℕ → Option (List (List ℕ)) → Option (List (List ℕ)) → Type 0
OneTold (Some answer) buf old new = ReceivedTold answer buf old new
OneTold None buf old new = new ≡ old

-- a link with seals: the link behind it, its key, and how often it was to send too long a datagram
pub record Sealing (L : Type 0) : Type 0 where
  pub inner : L
  pub key : List ℕ
  pub refused : ℕ
