-- Which of the datagrams that traces got were sent.
use Rattle.std.specs.Prelude.{◌≡◌, ℕ, ◌<◌, Bool, true, false, List, length, Option, Some, Vec, IsSome, All, IsSomeAnd}
use Rattle.std.specs.Prelude.{slice_get, Contains, option_and_then, slice_index_or, ◌⊎◌, replicate}
use Rattle.text_trace.specs.declared.trace.Trace.{Trace}
use Rattle.std.specs.Option.{ForSome, option_map_or}
use Rattle.std.specs.Global.{Global}
use Rattle.std.specs.Str.{bytes_eq}
use Rattle.std.specs.declared.hash.FoldHasher.{FoldHasher}
use Rattle.std.specs.declared.hash.BuildHasherDefault.{BuildHasherDefault}
use Rattle.std.specs.HashMap.{HashMap, get_by}
use Rattle.base_turns.specs.declared.entry.Entry.{Entry}
use Rattle.text_trace.specs.declared.datagram.Datagram.{Datagram}
use Rattle.text_trace.specs.Datagrams.{datagram_bytes}

-- for each datagram that a trace got, the place of an entry that got it
abbrev pub PlaceMap : Type 0
PlaceMap = HashMap Datagram ℕ (BuildHasherDefault FoldHasher)

-- those of each trace
abbrev pub PlaceMaps : Type 0
PlaceMaps = List PlaceMap

-- for each trace a mark at each place
abbrev pub MarkLists : Type 0
MarkLists = List (Vec Bool Global)

-- the place of a datagram
abbrev pub place_in : PlaceMap → List ℕ → Option ℕ
place_in map bytes = get_by (λ key. bytes_eq bytes (datagram_bytes key)) map

-- each datagram got has a place
abbrev pub AreFound : PlaceMap → List Entry → Type 0
AreFound map entries = All (λ entry. ForSome entry.got (λ bytes. IsSome (place_in map bytes))) entries

-- at each place stands an entry that got the datagram
abbrev pub ArePlaces : PlaceMap → List Entry → Type 0
ArePlaces map entries = (bytes : List ℕ) → ForSome (place_in map bytes) (λ i. IsSomeAnd (slice_get entries i)
    (λ entry. entry.got ≡ Some bytes))

-- the place of a datagram in a node's trace
abbrev pub spot : PlaceMaps → ℕ → List ℕ → Option ℕ
spot places n bytes = option_and_then (λ map. place_in map bytes) (slice_get places n)

-- the mark at a place of a node's trace
abbrev pub mark : MarkLists → ℕ → ℕ → Bool
mark marks n i = option_map_or (λ list. slice_index_or list.items i false) (slice_get marks n) false

-- the datagram is marked as sent to the node
abbrev pub IsNoted : PlaceMaps → MarkLists → ℕ → List ℕ → Type 0
IsNoted places marks n bytes = IsSomeAnd (spot places n bytes) (λ i. mark marks n i ≡ true)

-- the entry at this place got a datagram that is marked as sent to the node
abbrev pub GotNoted : PlaceMaps → MarkLists → ℕ → List Entry → ℕ → Type 0
GotNoted places marks n entries i =
    IsSomeAnd (slice_get entries i) (λ entry. IsSomeAnd entry.got (IsNoted places marks n))

-- each mark that is set stands at an entry that got a datagram that is marked as sent to its node
abbrev pub AreAtNoted : PlaceMaps → MarkLists → List Trace → Type 0
AreAtNoted places marks traces =
    (n i : ℕ) → mark marks n i ≡ true
    → IsSomeAnd (slice_get traces n) (λ trace. GotNoted places marks n trace.entries i)

-- a node's place has room for a mark, and stands for one datagram; what is marked is the place of a datagram
pub record Fit (places : PlaceMaps) (marks : MarkLists) : Type 0 where
  pub room : (n i : ℕ) (bytes : List ℕ) → spot places n bytes ≡ Some i → IsSomeAnd (slice_get marks n)
      (λ list. i < length list.items)
  pub one : (n i : ℕ) (bytes other : List ℕ) → spot places n bytes ≡ Some i → spot places n other ≡ Some i → bytes
      ≡ other
  pub held : (n i : ℕ) → mark marks n i ≡ true → (bytes : List ℕ) × (spot places n bytes ≡ Some i)

-- these datagrams, and no others, were marked, those of them that have a place
pub record Marks (places : PlaceMaps) (old new : MarkLists) (given : List (ℕ × List ℕ)) : Type 0 where
  pub no_more : (n : ℕ) (bytes : List ℕ) → IsNoted places new n bytes → IsNoted places old n bytes
      ⊎ Contains given (n, bytes)
  pub kept : (n : ℕ) (bytes : List ℕ) → IsNoted places old n bytes → IsNoted places new n bytes
  pub noted : (n : ℕ) (bytes : List ℕ) → Contains given (n, bytes) → IsSome (spot places n bytes) → IsNoted places new n
      bytes

-- a datagram with the node that it is for
abbrev pub datagram : ℕ → List ℕ → ℕ × List ℕ
datagram to bytes = (to, bytes)

-- for each trace its places
abbrev pub HavePlaces : PlaceMaps → List Trace → Type 0
HavePlaces places traces =
    (n : ℕ) (map : PlaceMap) → slice_get places n ≡ Some map
    → IsSomeAnd (slice_get traces n) (λ trace. AreFound map trace.entries × ArePlaces map trace.entries)

-- for each trace as many marks as entries, none of them set
abbrev pub AreUnmarked : MarkLists → List Trace → Type 0
AreUnmarked marks traces =
    (n : ℕ) (list : Vec Bool Global) → slice_get marks n ≡ Some list
    → IsSomeAnd (slice_get traces n) (λ trace. list.items ≡ replicate (length trace.entries) false)
