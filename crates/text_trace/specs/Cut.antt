-- Traces that are cut.
use Rattle.std.specs.Prelude.{◌≡◌, ℕ, List, [], ◌∷◌, take, Some, slice_get, slice_index, Contains}
use Rattle.base_turns.specs.Replay.{Steps}
use Rattle.base_turns.specs.Prefixes.{Node, sent_of}

-- a node with the first of its entries
abbrev pub cut_one : {State : Type 0} → Node State → (count : ℕ) → Node State
cut_one node count = record { state = node.state; entries = take count node.entries }

-- each node with those of its entries that have gone at the prefix
abbrev pub cut : {State : Type 0} → List (Node State) → (prefix : List ℕ) → List (Node State)
cut [] prefix = []
cut (node ∷ nodes) [] = cut_one node 0 ∷ cut nodes []
cut (node ∷ nodes) (count ∷ prefix) = cut_one node count ∷ cut nodes prefix

-- what any entries of a node sent, those up to the prefix sent
abbrev pub IsSilent : {State : Type 0} → Steps State → List (Node State) → (prefix : List ℕ) → Type 0
IsSilent s nodes prefix =
    (rank : ℕ) (node : Node _) → slice_get nodes rank ≡ Some node → (count : ℕ) (datagram : ℕ × List ℕ)
    → Contains (sent_of s node count) datagram → Contains (sent_of s node (slice_index prefix rank)) datagram
