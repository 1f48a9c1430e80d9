-- What an export tells of the event that it makes.
use Rattle.std.specs.Prelude.{ℕ, ◌≡◌, ◌<◌, ◌≤◌, List, [], take, length, Option, Some, None}
use Rattle.std.specs.Borrow.{Bor}
use Rattle.part_handlers.specs.Runs.{Meaning}
use Rattle.spec_node.specs.SlotMessages.{message_at}
use Rattle.spec_node.specs.declared.answer.SlotRef.{SlotRef}
use Rattle.node_rules.specs.EndpointRules.{transition}
use Rattle.node_rules.specs.Sends.{sends}
use Rattle.node_rules.specs.declared.answer.Answer.{Answer}
use Rattle.node_rules.specs.declared.call.Call.{Call}
use Rattle.node_rules.specs.declared.call.Event.{Event}
use Rattle.node_rules.specs.declared.call.Event.TheVariants as event
use Rattle.node_endpoint.specs.EndpointState.{EndpointState, EndpointSteps, ForItsRecord}
use Rattle.node_collectives.specs.declared.answers.StepAnswer.{StepAnswer}
use Rattle.gasnet_c.specs.Codes.{answer_code, slot_told, step_code, told_at, value_of}
use Rattle.gasnet_c.specs.Replayed.{both_replayed_by}
use Rattle.gasnet_c.specs.declared.replay.Run.{Run}
use Rattle.gasnet_c.specs.declared.told.Told.{Told}

-- ---- the datagram

-- the buffer begins with these bytes, where they fit in
pub record BufferBeginsWith (bytes : List ℕ) (len : ℕ) (buffer : List ℕ) : Type 0 where
  pub whole : length bytes ≤ length buffer → (len ≡ length bytes) × (take len buffer ≡ bytes)
  pub short : length buffer < length bytes → len ≡ 0

-- so it is of a datagram that is there
abbrev pub IsCopied : Option (List ℕ) → (len : ℕ) → List ℕ → Type 0
IsCopied None len buffer = len ≡ 0
IsCopied (Some bytes) len buffer = BufferBeginsWith bytes len buffer

-- the buffer begins with the message of the slot that sends
abbrev pub IsSent : EndpointState → Option SlotRef → (len : ℕ) → List ℕ → Type 0
IsSent endpoint None len buffer = len ≡ 0
IsSent endpoint (Some at) len buffer = ForItsRecord endpoint (λ node.
    IsCopied (message_at endpoint.core.settings endpoint.core.me node at) len buffer)

-- ---- what is told

-- C is told this answer, and what it sends
pub record IsToldToC (endpoint : EndpointState) (answer : Answer) (told : Told) (buffer : List ℕ) : Type 0 where
  pub code : told.code ≡ answer_code answer
  pub value : told.value ≡ value_of answer
  pub place : (told.to, told.slot) ≡ told_at (slot_told answer)
  pub sent : IsSent endpoint (sends answer) told.len buffer

-- C is told that the handle is dead
pub record IsDead (told : Told) : Type 0 where
  pub code : told.code ≡ 99
  pub len : told.len ≡ 0

-- C is told this number, and this node; no datagram is sent
pub record IsNumber (code to : ℕ) (told : Told) : Type 0 where
  pub code_is : told.code ≡ code
  pub to_is : told.to ≡ to
  pub len : told.len ≡ 0

-- C is told how a step of a collective was answered, and the datagram of the slot that it sends
pub record IsToldStep (endpoint : EndpointState) (answer : StepAnswer) (sends : Option SlotRef) (told : Told)
    (buffer : List ℕ) : Type 0 where
  pub code : told.code ≡ step_code answer
  pub place : (told.to, told.slot) ≡ told_at sends
  pub sent : IsSent endpoint sends told.len buffer

-- this event happened to the node, its handlers mean this, and C is told the answer
abbrev pub TellsOf : Meaning → EndpointState → (now : ℕ) → Event → Told → List ℕ → EndpointState → Type 0
TellsOf meaning old now event told buffer new =
    (answer : Answer) × EndpointSteps meaning old (transition now event answer) new × IsToldToC new answer told buffer

-- so it is of a node that is held; else nothing happened
abbrev pub Tells : Meaning → Option EndpointState → (now : ℕ) → Event → Told → List ℕ → Option EndpointState → Type 0
Tells meaning (Some old) now event told buffer (Some new) = TellsOf meaning old now event told buffer new
Tells meaning (Some old) now event told buffer None = ⊥
Tells meaning None now event told buffer new = IsDead told × (new ≡ None)

-- a request to the local node, whose handlers did this
pub record OwnAsked : Type 0 where
  pub call : Call
  pub run : Run
  pub reply_left : Bor (List ℕ)

-- it happened to the node that is held, and its handlers mean what they did; else nothing happened
abbrev pub TellsOwn : Option EndpointState → (now : ℕ) → OwnAsked → Told → Option EndpointState → Type 0
TellsOwn (Some old) now asked told (Some new) =
    TellsOf (both_replayed_by (record { request = asked.run; reply = record { bytes = asked.reply_left } }))
    old now (event.Call 0 asked.call) told [] new
TellsOwn (Some old) now asked told None = ⊥
TellsOwn None now asked told new = IsDead told × (new ≡ None)
