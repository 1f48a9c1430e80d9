use Rattle.std.proofs.Common.{◌≡◌, ap, ap₂, ◌∙◌, subst, ℕ, ℤ, List}
use Rattle.spec_node.specs.Behaviour.{Lent}
use Rattle.node_endpoint.specs.ClientRules.{medium_asking}
use Rattle.node_endpoint.specs.Called.{Meant, Requests}
use Rattle.node_endpoint.specs.Sites.{ThreadCall, called_by}
use Rattle.node_atomics.specs.Asking.{batch_call}
use Rattle.node_atomics.specs.BatchRequests.{batch_handler}
use Rattle.node_atomics.proofs.Asked.{CallsOnce, makes_one}
use Rattle.node_atomics.proofs.batch.Batch.ask.Goals as goal

pub returns-clause-made : goal.returns-clause-made
returns-clause-made g c =
    let it : CallsOnce g.K.Caller c.args.caller.now (called_by c.args.thread c.request-call.result) c.call.result
    c.call.new.self = record {
      site = c.call.ensures.site;
      lent = c.call.ensures.lent;
      answered = c.call.ensures.answered;
      no_memory = c.call.ensures.no_memory;
    } in
    let same : called_by c.args.thread c.request-call.result ≡ batch_call c.args.thread c.args.self.now
    = ap (λ (call : Meant). record { thread = c.args.thread; call = call }) (c.request-call.ensures
    ∙ (ap (λ (to : ℕ). Requests to (medium_asking batch_handler c.arguments-args.result (Lent c.deref.result.now)))
    c.to.ensures
    ∙ ap₂ (λ (args : List ℤ) (payload : List ℕ).
    Requests c.args.self.now.to (medium_asking batch_handler args (Lent payload)))
    c.arguments-args.ensures (c.deref.ensures.0 ∙ c.payload-payload.ensures.spelled))) in
    makes_one g.K.Caller c.args.caller.now (batch_call c.args.thread c.args.self.now) c.call.result c.call.new.self
    (subst (λ (call : ThreadCall). CallsOnce g.K.Caller c.args.caller.now call c.call.result c.call.new.self) same it)
