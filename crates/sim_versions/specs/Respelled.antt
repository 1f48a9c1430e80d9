-- The run of a job by another version of the datagram: its records differ in how notifications of the barrier are spelled.
use Rattle.std.specs.Prelude.{◌≡◌, ℕ, ◌==◌, Bool, true, if◌then◌else◌, map, None, Some}
use Rattle.std.specs.Prelude.{option_map}
use Rattle.wire_message.specs.Content.{Content}
use Rattle.wire_message.specs.Parameters.{Parameters}
use Rattle.wire_message.specs.Notifications.{IsNotification, notification_arguments}
use Rattle.wire_message.specs.declared.notification.BarrierNotification.{BarrierNotification}
use Rattle.base_lists.specs.Numbered.{element_at}
use Rattle.part_handlers.specs.declared.rules.CallKind.{CallKind}
use Rattle.part_handlers.specs.declared.rules.Forbidden.{Forbidden}
use Rattle.spec_node.specs.Behaviour.{Asking, Contact, Sending, asks_well, replies_well}
use Rattle.spec_node.specs.NodeStep.{Job, NodeBehaviour}
use Rattle.spec_node.specs.Record.{Request, Run, Node}
use Rattle.spec_node.specs.declared.answer.SlotRef.{SlotRef}
use Rattle.spec_network.specs.World.{World}
use Rattle.part_handlers.specs.Runs.{Meaning, Frame, Start}
use Rattle.node_core.specs.Library.{notification_handler, notification_said}
use Rattle.node_rules.specs.EndpointLocal.{EndpointLocal, IsEndpointKept}
use Rattle.node_rules.specs.EndpointRules.{OtherCall}
use Rattle.node_rules.specs.declared.answer.Answer.{Answer}

-- ---- records with their contents spelled otherwise

abbrev pub respell_request : (Content → Content) → Request → Request
respell_request spell request = record request { content = spell request.content }

abbrev pub respell_run : (Content → Content) → Run → Run
respell_run spell run = record run { content = spell run.content }

abbrev pub respell_node : (Content → Content) → Node EndpointLocal → Node EndpointLocal
respell_node spell node = record {
  asked = λ peer. map (respell_request spell) (node.asked peer);
  ran = λ peer. map (respell_run spell) (node.ran peer);
  local = node.local;
}

abbrev pub respell_world : (Content → Content) → World EndpointLocal → World EndpointLocal
respell_world spell world node = respell_node spell (world node)

abbrev pub respell_sending : (Content → Content) → Sending → Sending
respell_sending spell sending = record sending { content = spell sending.content }

-- ---- notes

-- where it is a notification of the barrier, it spells one among the nodes
abbrev pub IsNotificationIfAny : Parameters → Content → Type 0
IsNotificationIfAny settings content = content.handler ≡ notification_handler
    → (notification : BarrierNotification) × IsNotification settings.nodes notification
    × (content.args ≡ notification_arguments settings.version notification)

-- so it is of each request of a node, and of each node
abbrev pub HasNotifications : Parameters → Node EndpointLocal → Type 0
HasNotifications settings node = (to number : ℕ) (request : Request) → element_at (node.asked to) number ≡ Some request
    → IsNotificationIfAny settings request.content

abbrev pub HaveNotifications : Parameters → World EndpointLocal → Type 0
HaveNotifications settings world = (node : ℕ) → HasNotifications settings (world node)

-- ---- two jobs

-- what a node does beside its slots and numbers
abbrev pub Rules : Type 0
Rules = NodeBehaviour EndpointLocal OtherCall Answer

-- the other rules do with contents that are spelled otherwise what the one do
pub record AgreeOn (spell : Content → Content) (settings : Parameters) (one other : Rules) : Type 0 where
  pub kind : (content : Content) → (spell content).kind ≡ content.kind
  pub judges : (thread : ℕ) (kind : CallKind) (local : EndpointLocal)
      → other.messages.judges thread kind local ≡ one.messages.judges thread kind local
  pub notes : (thread : ℕ) (forbidden : Forbidden) (local : EndpointLocal)
      → other.messages.notes thread forbidden local ≡ one.messages.notes thread forbidden local
  pub faults : (asking : Asking) → other.messages.faults asking ≡ one.messages.faults asking
  pub says : (asking : Asking) (local : EndpointLocal)
      → other.messages.says asking local ≡ one.messages.says asking local
  pub said : (asking : Asking) (local : EndpointLocal) → one.messages.faults asking ≡ None
      → spell (one.messages.says asking local) ≡ one.messages.says asking local
  pub asks : (asking : Asking) (local : EndpointLocal) → one.messages.faults asking ≡ None
      → asks_well one.messages.refuses (one.messages.says asking local) ≡ true
  pub notifications_said : (asking : Asking) (local : EndpointLocal) → one.messages.faults asking ≡ None
      → IsNotificationIfAny settings (one.messages.says asking local)
  pub notifications_next : (me : ℕ) (can : ℕ → Bool) (local : EndpointLocal) (sending : Sending)
      → IsEndpointKept settings me local → one.messages.next me can local ≡ Some sending
      → IsNotificationIfAny settings sending.content
  pub refuses : (content : Content) → IsNotificationIfAny settings content → asks_well one.messages.refuses content
      ≡ true
      → other.messages.refuses (spell content) ≡ None
  pub refuses_reply : (content : Content) → replies_well one.messages.refuses content ≡ true
      → other.messages.refuses content ≡ None
  pub busy : (content : Content) (local : EndpointLocal)
      → other.messages.busy content local ≡ one.messages.busy content local
  pub waits : (content : Content) (local : EndpointLocal)
      → other.messages.waits (spell content) local ≡ one.messages.waits content local
  pub waits_reply : (content : Content) (local : EndpointLocal)
      → other.messages.waits content local ≡ one.messages.waits content local
  pub run : (contact : Contact) (content : Content) (local : EndpointLocal)
      → IsNotificationIfAny settings content → asks_well one.messages.refuses content ≡ true
      → other.messages.run contact (spell content) local ≡ one.messages.run contact content local
  pub take : (contact : Contact) (content : Content) (local : EndpointLocal)
      → other.messages.take contact content local ≡ one.messages.take contact content local
  pub runs_as : (content : Content) (place : SlotRef) → IsNotificationIfAny settings content
      → other.messages.runs_as (spell content) place ≡ one.messages.runs_as content place
  pub next : (me : ℕ) (can : ℕ → Bool) (local : EndpointLocal) → IsEndpointKept settings me local
      → other.messages.next me can local ≡ option_map (respell_sending spell) (one.messages.next me can local)
  pub issued : (contact : Contact) (content : Content) (local : EndpointLocal)
      → other.messages.issued contact (spell content) local ≡ one.messages.issued contact content local
  pub sends_as : (content : Content) (place : SlotRef)
      → other.messages.sends_as (spell content) place ≡ one.messages.sends_as content place
  pub does : (me : ℕ) (exhausted : ℕ → Bool) (thread : ℕ) (call : OtherCall) (local : EndpointLocal)
      → other.does me exhausted thread call local ≡ one.does me exhausted thread call local

-- two jobs that differ in the version of the datagram
pub record Versions : Type 0 where
  pub spell : Content → Content
  pub settings : Parameters
  pub version : ℕ  -- of the other job
  pub one : Rules
  pub other : Rules
  pub agree : AgreeOn spell settings one other

abbrev pub one_job : Versions → Job EndpointLocal OtherCall Answer
one_job v = record { settings = v.settings; behaviour = v.one }

abbrev pub other_job : Versions → Job EndpointLocal OtherCall Answer
other_job v = record { settings = record v.settings { version = v.version }; behaviour = v.other }

-- ---- the two jobs of a text

-- a notification of the barrier, spelled as the one version has it, as the other spells it; all else is spelled alike
abbrev pub spelled_as : (one other : ℕ) → Content → Content
spelled_as one other content =
    if content.handler == notification_handler
    then record content { args = notification_arguments other (notification_said one content.args) } else content

-- what handlers do doesn't depend on the version
abbrev pub IgnoresVersion : (version : ℕ) → Meaning → Type 0
IgnoresVersion version meaning = (handler : ℕ) (frame : Frame) (start : Start)
    → meaning handler (record frame { settings = record frame.settings { version = version } }) start
    ≡ meaning handler frame start
