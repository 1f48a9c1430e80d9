-- What C is told to send requests again by itself.
use Rattle.std.specs.Prelude.{ℕ, ◌≡◌, ◌-◌, ◌^◌, ◌<◌, nat_le, List, Option, Some, None}
use Rattle.spec_node.specs.Step.{request_slot}
use Rattle.node_endpoint.specs.EndpointState.{EndpointState, IsDue}
use Rattle.gasnet_c.specs.Telling.{IsSent}

-- the buffer begins with the message in the slot of the open request to that node, where there is one and it fits in;
-- none is told where no node is held. That such a message was sent is a law of every run: `EachOpenWasSent` of
-- `law_messages`
abbrev pub TellsAgain : Option EndpointState → (to slot len : ℕ) → List ℕ → Type 0
TellsAgain None to slot len buffer = len ≡ 0
TellsAgain (Some endpoint) to slot len buffer = IsSent endpoint (Some (request_slot to slot)) len buffer

-- the greatest time
abbrev pub last_time : ℕ
last_time = 2 ^ 64 - 1

-- at each time before the greatest one, a tick sends a request again exactly where this time has come, as long as
-- nothing happens to the node; it is the greatest one where no node is held
abbrev pub TellsNextDue : Option EndpointState → (time : ℕ) → Type 0
TellsNextDue None time = time ≡ last_time
TellsNextDue (Some endpoint) time = (now : ℕ) → now < last_time → IsDue endpoint now (nat_le time now)
