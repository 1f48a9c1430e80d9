-- The calls that C asks for.
use Rattle.std.specs.Prelude.{ℕ, ◌≢◌, ◌==◌, if◌then◌else◌, Option, Some, None}
use Rattle.node_core.specs.declared.asking.Payload.{Payload}
use Rattle.node_core.specs.declared.asking.Payload.TheVariants as payloads
use Rattle.part_transfers.specs.declared.operation.Transfer.{Transfer}
use Rattle.part_transfers.specs.declared.operation.Transfer.TheVariants as transfers
use Rattle.node_rules.specs.declared.call.Call.{Call}
use Rattle.node_rules.specs.declared.call.Call.TheVariants as calls
use Rattle.node_endpoint.specs.EndpointState.{EndpointState}
use Rattle.gasnet_c.specs.declared.messages.Ask.{Ask}
use Rattle.gasnet_c.specs.declared.transfers.Move.{Move}

-- ---- requests

-- a range of the local segment, or bytes of C's
abbrev pub payload_of : Ask → Payload
payload_of ask = if ask.own then payloads.Own ask.source ask.source_len else payloads.Lent ask.payload

abbrev pub asked_call : Ask → Call
asked_call ask =
    if ask.category == 0 then calls.Short ask.to ask.handler ask.args else (
    if ask.category == 1 then calls.Medium ask.to ask.handler ask.args (payload_of ask)
    else calls.Long ask.to ask.handler ask.args (payload_of ask) ask.offset)

-- the node that is held is another one
abbrev pub IsToAnother : Option EndpointState → (to : ℕ) → Type 0
IsToAnother None to = Unit {0}
IsToAnother (Some endpoint) to = to ≢ endpoint.core.me

-- ---- transfers

abbrev pub transfer_of : Move → Transfer
transfer_of what =
    if what.kind == 0 then transfers.Put what.to what.remote what.local what.len else (
    if what.kind == 1 then transfers.Get what.to what.remote what.local what.len
    else transfers.Memset what.to what.remote what.len what.byte)

abbrev pub moved_call : Move → Call
moved_call what = calls.Begin None (transfer_of what)
