-- Traces without the bytes that their nodes refuse.
-- Origin: this project's profile.
use Rattle.std.specs.Prelude.{◌≡◌, ℕ, Bool, ◌||◌, if◌then◌else◌, List, [], ◌∷◌, ◌++◌, map, Option, None, Some, is_some}
use Rattle.wire_message.specs.Reading.{message_at}
use Rattle.wire_message.specs.Refusals.{first_refusal}
use Rattle.node_rules.specs.EndpointLocal.{EndpointLocal}
use Rattle.base_turns.specs.declared.entry.Entry.{Entry}
use Rattle.spec_node.specs.NodeStep.{Job, site_of}
use Rattle.spec_node.specs.Step.{refusal}
use Rattle.law_traces.specs.Order.{replay}
use Rattle.law_traces.specs.Scripts.{NodeJob}
use Rattle.law_traces.specs.Turn.{MachineState, Turn, turn}
use Rattle.spec_network.specs.Sent.{Packet}

-- ---- what is refused

-- the node `me` of the job refuses these bytes, whatever it did before: they are no message of the job's version, or
-- the node refuses the address or the content of the message that they are
abbrev pub is_refused : {Local Call Told : Type 0} → Job Local Call Told → (me : ℕ) → (bytes : List ℕ) → Bool
is_refused job me bytes =
    is_some (first_refusal job.settings.version bytes)
    || is_some (refusal (site_of job me) (message_at job.settings.version bytes))

-- what was got, unless it is refused
abbrev pub unless_refused : {Local Call Told : Type 0}
    → Job Local Call Told → (me : ℕ) → (got : Option (List ℕ)) → Option (List ℕ)
unless_refused job me None = None
unless_refused job me (Some bytes) = if is_refused job me bytes then None else Some bytes

-- the entry, which got nothing where it got bytes that its node refuses
abbrev pub accepted_entry : {Local Call Told : Type 0} → Job Local Call Told → (me : ℕ) → Entry → Entry
accepted_entry job me entry = record entry { got = unless_refused job me entry.got }

-- all entries of the node
abbrev pub without_rejected : {Local Call Told : Type 0} → Job Local Call Told → (me : ℕ) → List Entry → List Entry
without_rejected job me entries = map (accepted_entry job me) entries

-- ---- the law

-- two machines have the same record, and the same rest of scripts. What their last turns sent and answered isn't told
pub record HaveSameNode {Kept Own : Type 0} (one other : MachineState Kept Own) : Type 0 where
  pub node : one.node ≡ other.node
  pub own : one.own ≡ other.own

-- two turns leave such machines, send the same, and end a step or not alike
pub record DoTheSame {Kept Own : Type 0} (one other : Turn Kept Own) : Type 0 where
  pub after : HaveSameNode one.after other.after
  pub packets : one.packets ≡ other.packets
  pub stepped : one.stepped ≡ other.stepped

-- the turn of an entry
abbrev pub turn_of_entry : {Own : Type 0}
    → NodeJob EndpointLocal Own → (me : ℕ) → MachineState EndpointLocal Own → Entry → Turn EndpointLocal Own
turn_of_entry job me machine entry = turn job me machine entry.thread entry.now entry.got

-- what the turns of these entries send
abbrev pub packets_by : {Own : Type 0}
    → NodeJob EndpointLocal Own → (me : ℕ) → MachineState EndpointLocal Own → List Entry → List Packet
packets_by job me machine [] = []
packets_by job me machine (entry ∷ entries) =
    (turn_of_entry job me machine entry).packets
    ++ packets_by job me (turn_of_entry job me machine entry).after entries

-- of machines of the node `me` with the same record and scripts: an entry and the accepted one do the same
abbrev pub IsEachTurnTheSame : (Own : Type 0) → Type 0
IsEachTurnTheSame Own =
    (job : NodeJob EndpointLocal Own) (me : ℕ) (one other : MachineState EndpointLocal Own) (entry : Entry)
    → HaveSameNode one other
    → DoTheSame (turn_of_entry job me one entry) (turn_of_entry job me other (accepted_entry job.job me entry))

-- a trace and the accepted one leave machines with the same record and scripts, and sent the same
pub record IsReplayTheSame {Own : Type 0} (job : NodeJob EndpointLocal Own) (me : ℕ)
    (one other : MachineState EndpointLocal Own) (entries : List Entry) : Type 0 where
  pub after : HaveSameNode (replay job me one entries) (replay job me other (without_rejected job.job me entries))
  pub packets : packets_by job me one entries ≡ packets_by job me other (without_rejected job.job me entries)

-- so it is of every trace, from such machines
abbrev pub IsEachReplayTheSame : (Own : Type 0) → Type 0
IsEachReplayTheSame Own =
    (job : NodeJob EndpointLocal Own) (me : ℕ) (one other : MachineState EndpointLocal Own) (entries : List Entry)
    → HaveSameNode one other → IsReplayTheSame job me one other entries
