-- What a handle holds, and which events may happen to it.
use Rattle.std.specs.Prelude.{ℕ, ◌≡◌, Option, Some, None, is_some}
use Rattle.wire_message.specs.Parameters.{Parameters}
use Rattle.node_rules.specs.Called.{HasTarget}
use Rattle.node_rules.specs.declared.call.Call.{Call}
use Rattle.node_rules.specs.declared.call.Event.{Event}
use Rattle.node_endpoint.specs.EndpointState.{EndpointState, MayHappen, RunsNone}
use Rattle.gasnet_c.specs.declared.collectives_handle.CollectivesHandle.{CollectivesHandle}
use Rattle.gasnet_c.specs.declared.handle.Handle.{Handle}

-- a node is in it where it says so
abbrev pub IsWhole : Handle → Type 0
IsWhole handle = handle.live ≡ is_some handle.place.held

-- collectives are in it where it says so
abbrev pub HasCollectives : CollectivesHandle → Type 0
HasCollectives handle = handle.live ≡ is_some handle.place.held

-- an endpoint of a job with one thread can take the event
abbrev pub IsForOne : Event → Type 0
IsForOne event = (settings : Parameters) → settings.threads ≡ 1 → MayHappen settings event

-- no handler runs at the event, where a node is held
abbrev pub RunsNoneIn : Option EndpointState → Event → Type 0
RunsNoneIn None event = Unit {0}
RunsNoneIn (Some endpoint) event = RunsNone endpoint event

-- the call is no request, of whichever node
abbrev pub AsksNone : Call → Type 0
AsksNone call = (node : ℕ) → HasTarget call node → ⊥
