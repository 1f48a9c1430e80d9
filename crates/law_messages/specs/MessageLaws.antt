-- What holds of the messages of every run of a job.
use Rattle.std.specs.Prelude.{◌≡◌, ℕ, List, ◌++◌, ◌∷◌, Option, Some}
use Rattle.std.specs.List.{Contains}
use Rattle.wire_message.specs.Parameters.{Parameters}
use Rattle.wire_message.specs.Content.{Content, message_at_address}
use Rattle.wire_message.specs.Message.{spelling}
use Rattle.part_handlers.specs.declared.table.Entry.{Entry}
use Rattle.part_handlers.specs.Runs.{Meaning}
use Rattle.spec_node.specs.Invariant.{address_in}
use Rattle.spec_node.specs.SlotMessages.{message_at}
use Rattle.spec_node.specs.Step.{request_slot}
use Rattle.spec_network.specs.World.{EventAt, world_answer, world_after}
use Rattle.spec_network.specs.Sent.{Place, Asking, datagrams_sent}
use Rattle.spec_network.specs.Plain.{PlainRequest, IsRequest, reply_of, plain_of}
use Rattle.spec_network.specs.PlainStep.{RequestName}
use Rattle.node_rules.specs.EndpointRules.{OtherCall, at_the_opening, job_of}
use Rattle.law_transfers.specs.Chunks.{EndpointJob}
use Rattle.law_transfers.specs.History.{Runs, ComesBack}
use Rattle.law_transfers.specs.TransferLaws.{AreAmong}
use Rattle.law_messages.specs.Steps.{RequestStep}
use Rattle.law_messages.specs.Events.{after_all, Always}
use Rattle.law_messages.specs.Requests.{AcceptedName, IsAccepted, accepted_request, RunLeaves, ReplyLeaves}

-- each event leaves the requests and the runs as they were, or adds one of them
abbrev pub EachSteps : Parameters → List (Option Entry) → Meaning → Type 0
EachSteps settings table meaning =
    let job = job_of settings table meaning in
    (events : List (EventAt OtherCall)) (next : EventAt OtherCall) → AreAmong job events
    → let world = after_all job events in
    RequestStep job (plain_of world) (plain_of (world_after job world next)) next.event (world_answer job world next)

-- a request of a thread that is accepted is among the requests from then on
abbrev pub EachAcceptedStays : Parameters → List (Option Entry) → Meaning → Type 0
EachAcceptedStays settings table meaning =
    let job = job_of settings table meaning in
    (before later : List (EventAt OtherCall)) (event : EventAt OtherCall) (name : AcceptedName)
    → AreAmong job (before ++ event ∷ later) → IsAccepted job before event name
    → IsRequest (plain_of (after_all job (before ++ event ∷ later))) name.from name.to name.number
    (accepted_request job (after_all job before) name)

-- whenever a request runs that is among the requests in the end, its run leaves this
abbrev pub EachRunLeaves : Parameters → List (Option Entry) → Meaning → Type 0
EachRunLeaves settings table meaning =
    let job = job_of settings table meaning in
    (events : List (EventAt OtherCall)) (name : RequestName) (request : PlainRequest) → AreAmong job events
    → IsRequest (plain_of (after_all job events)) name.from name.to name.number request
    → Always job (λ moment. Runs job name moment → RunLeaves settings table meaning name request.content moment) events

-- whenever its reply comes back, as it stands among the runs in the end, the reply's run leaves this
abbrev pub EachReplyLeaves : Parameters → List (Option Entry) → Meaning → Type 0
EachReplyLeaves settings table meaning =
    let job = job_of settings table meaning in
    (events : List (EventAt OtherCall)) (name : RequestName) (reply : Content) → AreAmong job events
    → reply_of name.number ((plain_of (after_all job events)).runs name.from name.to) ≡ Some reply
    → Always job (λ moment. ComesBack job name moment → ReplyLeaves settings table meaning name reply moment) events

-- the node sent these bytes at one of the events: they spell a request of its own
pub record WasSent (job : EndpointJob) (events : List (EventAt OtherCall)) (node : ℕ) (bytes : List ℕ) : Type 0 where
  pub place : Place
  pub content : Content
  pub own : place.from ≡ node
  pub among : Contains (datagrams_sent job events (at_the_opening job.settings)) (Asking place content)
  pub spells : bytes
      ≡ spelling (message_at_address (address_in job.settings place.from place.to place.slot place.number) content)

-- the message in the slot of a request that isn't back was sent: whoever sends it once more, byte for byte, repeats what
-- was sent, as the network may
abbrev pub EachOpenWasSent : Parameters → List (Option Entry) → Meaning → Type 0
EachOpenWasSent settings table meaning =
    let job = job_of settings table meaning in
    (events : List (EventAt OtherCall)) (node to slot : ℕ) (bytes : List ℕ) → AreAmong job events
    → message_at settings node (after_all job events node) (request_slot to slot) ≡ Some bytes
    → WasSent job events node bytes

-- all of them, in every run of the job of these settings, this table and these handlers
pub record MessagesHold (settings : Parameters) (table : List (Option Entry)) (meaning : Meaning) : Type 0 where
  pub steps : EachSteps settings table meaning
  pub accepted : EachAcceptedStays settings table meaning
  pub runs : EachRunLeaves settings table meaning
  pub replies : EachReplyLeaves settings table meaning
  pub repeats : EachOpenWasSent settings table meaning
