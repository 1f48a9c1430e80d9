-- What is kept of what the nodes of a launch gave.
use Rattle.std.specs.Prelude.{◌≡◌, ◌⊎◌, ℕ, ◌+◌, ◌-◌, ◌^◌, ◌≤◌, min, List, [], ◌∷◌, ◌++◌, length}
use Rattle.cli_report.specs.declared.counted.KeptOutput.{KeptOutput}

-- what a node gave
pub record NodeOutput : Type 0 where
  pub rank : ℕ
  pub bytes : List ℕ

abbrev pub node_output : (rank : ℕ) → List ℕ → NodeOutput
node_output rank bytes = record { rank = rank; bytes = bytes }

abbrev pub given_of : KeptOutput → NodeOutput
given_of output = node_output output.rank output.bytes.items

-- what a node gave is kept behind what others gave; nothing is kept where all gave more than 8,388,608 bytes, or
-- memory ran out
pub record KeepsOutput (bytes_old bytes_new : ℕ) (one : NodeOutput) (old new : List NodeOutput) : Type 0 where
  pub counted : bytes_new ≡ min (bytes_old + length one.bytes) (2 ^ 64 - 1)
  pub kept : (new ≡ []) ⊎ ((new ≡ old ++ one ∷ []) × (bytes_new ≤ 8388608))
