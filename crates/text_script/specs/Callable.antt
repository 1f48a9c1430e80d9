-- A call that each thread of a job may make.
use Rattle.std.specs.Prelude.{ℕ, ◌<◌}
use Rattle.wire_message.specs.Parameters.{Parameters}
use Rattle.node_rules.specs.declared.call.Call.{Call}
use Rattle.node_endpoint.specs.EndpointState.{MayBeCalled}

-- each thread that is there may make the call
abbrev pub IsCallable : Call → Type 0
IsCallable call = (settings : Parameters) (thread : ℕ) → thread < settings.threads → MayBeCalled settings thread call
