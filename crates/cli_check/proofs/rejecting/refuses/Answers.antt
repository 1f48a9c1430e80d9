-- Whether a delivery of the bytes is refused.
use Rattle.std.proofs.Common.{◌∙◌, arith}
use Rattle.cli_check.proofs.Rejected.{refuses_told}
use Rattle.cli_check.proofs.rejecting.refuses.Goals as goal

pub returns : goal.returns
returns c = λ job rank at.
    c.is_refusal.ensures
    ∙ refuses_told c.args.endpoint.now c.args.bytes.now c.would_deliver.result job rank
    (λ i. omega (arith, c.type_inv.bytes i)) c.would_deliver.ensures.told at
