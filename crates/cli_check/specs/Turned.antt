-- What the turns of the nodes whose outputs were replayed sent.
-- Origin: this project's profile.
use Rattle.std.specs.Prelude.{ℕ, Option, slice_get}
use Rattle.cli_check.specs.declared.outputs.NodeReplays.{NodeReplays}
use Rattle.text_trace.specs.declared.replaying.Replayed.{Replayed}

-- what those of the node at this place sent
abbrev pub turned_at : NodeReplays → (place : ℕ) → Option Replayed
turned_at replays place = slice_get replays.sent.items place
