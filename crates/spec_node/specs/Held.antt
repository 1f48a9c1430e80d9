-- How many message buffers a node holds.
use Rattle.std.specs.Prelude.{ℕ, ◌+◌}
use Rattle.wire_message.specs.Parameters.{Parameters, credits_of}
use Rattle.base_lists.specs.Sums.{sum_below}
use Rattle.spec_node.specs.Record.{Node}
use Rattle.spec_node.specs.Requests.{outstanding}
use Rattle.spec_node.specs.Executed.{slots_run}

-- what a node holds for one peer: its requests that aren't back, and the replies that it keeps
abbrev pub held_with : {Local : Type 0} → Parameters → (me : ℕ) → Node Local → (peer : ℕ) → ℕ
held_with settings me node peer =
    outstanding (node.asked peer) + slots_run (node.ran peer) (credits_of settings peer me)

-- how many message buffers the node `me` holds
abbrev pub held_buffers : {Local : Type 0} → Parameters → (me : ℕ) → Node Local → ℕ
held_buffers settings me node = sum_below (held_with settings me node) settings.nodes
