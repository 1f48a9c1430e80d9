-- What this crate proves, at the types of one job. A clause can't range over all types; the lemmas do.
use Rattle.std.specs.Prelude.{ℕ, ◌≡◌, ◌-◌, ◌*◌, ◌<◌, Bool, true, List}
use Rattle.wire_message.specs.Parameters.{Parameters, credits_of}
use Rattle.spec_node.specs.Record.{Node}
use Rattle.spec_node.specs.Credits.{greatest_holding}
use Rattle.spec_node.specs.Invariant.{NodeInvariant}
use Rattle.spec_node.specs.NodeStep.{Job, IsAllSound, NodeEvent, node_after}
use Rattle.spec_node.specs.Spelled.{IsSpelled}

-- what a node of the one job keeps, what its threads call, and what they are told
abbrev pub KeptNumbers : Type 0
KeptNumbers = List ℕ

-- the test of what a node keeps, as a fact
abbrev pub Good : (ℕ → KeptNumbers → Bool) → (me : ℕ) → KeptNumbers → Type 0
Good is_kept me local = is_kept me local ≡ true

-- each event keeps what holds of a record, whatever bytes come, where what it sends has a spelling
abbrev pub EventsKeep : Type 0
EventsKeep =
    (job : Job KeptNumbers ℕ ℕ) (is_kept : ℕ → KeptNumbers → Bool) (me : ℕ) (node : Node KeptNumbers) (now : ℕ)
    (event : NodeEvent ℕ)
    → IsAllSound job.behaviour (Good is_kept)
    → NodeInvariant job.settings (Good is_kept) me node
    → IsSpelled job me node now event
    → NodeInvariant job.settings (Good is_kept) me (node_after job me node now event)

-- where all pairs have C credits the bound is 2C(n-1)
abbrev pub BoundIsEven : Type 0
BoundIsEven =
    (settings : Parameters) (me credits : ℕ)
    → me < settings.nodes
    → ((from to : ℕ) → credits_of settings from to ≡ credits)
    → greatest_holding settings me ≡ 2 * credits * (settings.nodes - 1)
