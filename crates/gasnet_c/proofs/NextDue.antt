-- What C is told of the next retransmission, from what the endpoint tells.
use Rattle.std.proofs.Common.{◌≡◌, ℕ, Bool, Some, None, sym, subst, arith}
use Rattle.std.proofs.lemmas.Bool.{lt-leb}
use Rattle.node_endpoint.specs.EndpointState.{EndpointState, IsDue, IsNextDue}
use Rattle.gasnet_c.specs.Retransmission.{TellsNextDue, last_time}

-- a time from which on a tick sends again
pub due_from : (endpoint node : EndpointState) (time : ℕ) → endpoint ≡ node → IsNextDue endpoint (Some time)
    → TellsNextDue (Some node) time
due_from endpoint node time is from =
    subst (λ (e : EndpointState). TellsNextDue (Some e) time) is (λ now low. from now)

-- none before the greatest one
pub due_never : (endpoint node : EndpointState) → endpoint ≡ node → IsNextDue endpoint None
    → TellsNextDue (Some node) last_time
due_never endpoint node is never =
    subst (λ (e : EndpointState). TellsNextDue (Some e) last_time) is
    (λ now low. subst (λ (is_due : Bool). IsDue endpoint now is_due) (sym (lt-leb last_time now low))
    (never now (omega (arith, low))))
