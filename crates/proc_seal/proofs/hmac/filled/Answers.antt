use Rattle.std.proofs.Common.{◌++◌, ◌∙◌, ap, length}
use Rattle.std.proofs.lemmas.List.{drop-replicate}
use Rattle.proc_seal.proofs.hmac.filled.Goals as goal

pub returns : goal.returns
returns c =
    ap (λ zs. zs ++ c.split_at_mut-prefix.result.1.now) c.copy_from_slice.ensures.after
    ∙ ap (λ zs. c.args.short.now ++ zs)
    (c.split_at_mut-prefix.ensures.back ∙ drop-replicate (length c.args.short.now) 64 0)
