-- What a call is that is no request.
use Rattle.std.proofs.Common.{◌≡◌, ℕ, ℤ, List, refl}
use Rattle.std.specs.Borrow.{Bor}
use Rattle.node_core.specs.declared.asking.Payload.{Payload}
use Rattle.node_rules.specs.EndpointRules.{OtherCall}
use Rattle.node_rules.specs.Called.{Performs, meant}
use Rattle.node_rules.specs.declared.call.Call.{Call}
use Rattle.node_rules.specs.declared.call.Call.TheVariants as call

-- a call that is none of the four requests is another one
pub asks_nothing : (k : Call)
    → ((to handler : ℕ) (args : Bor (List ℤ)) → k ≡ call.Short to handler args → ⊥)
    → ((to handler : ℕ) (args : Bor (List ℤ)) (payload : Payload) → k ≡ call.Medium to handler args payload → ⊥)
    → ((to handler : ℕ) (args : Bor (List ℤ)) (payload : Payload) (offset : ℕ)
    → k ≡ call.Long to handler args payload offset → ⊥)
    → ((to handler : ℕ) (args : Bor (List ℤ)) (payload : Payload) (offset : ℕ)
    → k ≡ call.LongAsync to handler args payload offset → ⊥)
    → (other : OtherCall) × (meant k ≡ Performs other)
asks_nothing (call.Short to handler args) short medium long later = absurd (short to handler args refl)
asks_nothing (call.Medium to handler args payload) short medium long later =
    absurd (medium to handler args payload refl)
asks_nothing (call.Long to handler args payload offset) short medium long later =
    absurd (long to handler args payload offset refl)
asks_nothing (call.LongAsync to handler args payload offset) short medium long later =
    absurd (later to handler args payload offset refl)
asks_nothing _ short medium long later = (_, refl)
