-- How the nodes of a job ended, by what they wrote.
-- Origin: this project's profile.
use Rattle.std.specs.Prelude.{◌≡◌, ◌<◌, ℕ, Bool, true, false, List, All, Some, slice_get}
use Rattle.std.specs.Option.{ForSome}
use Rattle.text_trace.specs.OutputText.{status_code}
use Rattle.text_trace.specs.declared.output.NodeStatus.{NodeStatus}
use Rattle.text_trace.specs.declared.output.NodeStatus.TheVariants as status
use Rattle.text_trace.specs.declared.output.Output.{Output}

-- all scripts of the node came to their ends: its status is 0 or 1
abbrev pub is_over : NodeStatus → Bool
is_over status.Ok = true
is_over status.Violations = true
is_over status.LinkFault = false
is_over status.Stuck = false
is_over status.JournalFull = false

-- so did those of each
abbrev pub AreOver : List Output → Type 0
AreOver outputs = All (λ output. is_over output.status ≡ true) outputs

-- this is the smallest rank of a node that ended with another status, and this is the status
pub record IsFirstFailed (outputs : List Output) (rank code : ℕ) : Type 0 where
  pub output : Output
  pub at : slice_get outputs rank ≡ Some output
  pub failed : is_over output.status ≡ false
  pub code_is : code ≡ status_code output.status
  pub first : (other : ℕ) → other < rank
      → ForSome (slice_get outputs other) (λ one. is_over one.status ≡ true)
