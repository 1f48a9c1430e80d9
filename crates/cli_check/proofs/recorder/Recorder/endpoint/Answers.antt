-- The endpoint of the node's machine.
use Rattle.std.proofs.Common.{ap, subst, ◌∙◌}
use Rattle.node_endpoint.specs.EndpointState.{IsNodeOf}
use Rattle.text_script.specs.Registration.{handlers_of, registry_of}
use Rattle.cli_check.specs.Recording.{RecorderKept}
use Rattle.cli_check.proofs.Rejected.{endpoint_at}
use Rattle.cli_check.proofs.recorder.Recorder.endpoint.Goals as goal

pub returns : goal.returns
returns c = λ job rank stands.
    endpoint_at job rank c.args.self.now c.endpoint.result.now
    (c.endpoint.ensures.is ∙ ap (λ (kept : RecorderKept). kept.node.endpoint) c.self.view_is)
    (subst (λ (kept : RecorderKept). IsNodeOf kept.node.job.settings (registry_of (handlers_of kept.node.job)).table
    c.endpoint.result.now.core.me c.endpoint.result.now) c.self.view_is c.endpoint.ensures.node)
    stands
