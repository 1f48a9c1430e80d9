-- A turn in which nothing came, nothing was sent, no script step ended and none began leaves the machine as it was.
-- Origin: this project's profile.
use Rattle.std.specs.Prelude.{ℕ, ◌≡◌, false, [], Option, None}
use Rattle.spec_node.specs.Record.{Node}
use Rattle.node_rules.specs.declared.answer.Answer.{Answer}
use Rattle.law_traces.specs.Scripts.{NodeJob, TryResult, TryContext}
use Rattle.law_traces.specs.Turn.{MachineState, turn, context, try_events, try_answer, node_run, node_sends}

-- how a try went of a node with this record
abbrev pub tried_at : {Kept Own : Type 0} → NodeJob Kept Own → (me thread now : ℕ) → Own → Node Kept → TryResult Own
tried_at job me thread now own node =
    job.scripts.tried (context job me thread now) own node
    (node_run job.job me now (try_events job me thread now own node) node) (try_answer job me thread now own node)

-- a try that ends nothing, begins nothing and sends nothing leaves the record and the scripts
pub record IsCalm {Kept Own : Type 0} (job : NodeJob Kept Own) : Type 0 where
  pub node : (me thread now : ℕ) (own : Own) (node : Node Kept)
      → (tried_at job me thread now own node).ended ≡ None
      → (tried_at job me thread now own node).began ≡ false
      → node_sends job.job me now (try_events job me thread now own node) node ≡ []
      → node_run job.job me now (try_events job me thread now own node) node ≡ node
  pub left : (at : TryContext) (own : Own) (before after : Node Kept) (answer : Option Answer)
      → (job.scripts.tried at own before after answer).ended ≡ None
      → (job.scripts.tried at own before after answer).began ≡ false
      → (job.scripts.tried at own before after answer).left ≡ own

-- an empty turn leaves the machine
abbrev pub EmptyTurnsLeave : {Kept Own : Type 0} → NodeJob Kept Own → Type 0
EmptyTurnsLeave {Kept} {Own} job =
    (me thread now : ℕ) (state : MachineState Kept Own)
    → (turn job me state thread now None).changed ≡ false
    → (turn job me state thread now None).after ≡ state
