use Rattle.std.proofs.Common.{ap, ◌∙◌, ◌&&◌, nat_eq, slice_index_or, rules}
use Rattle.proc_seal.proofs.Seals.{same_more}
use Rattle.proc_seal.proofs.key.are_same.Goals as goal

pub loop-i-preserved : goal.loop-i-preserved
loop-i-preserved c =
    let one = c.args.one.now in
    let other = c.args.other.now in
    let i = c.loop-i.i in
    record {
      same = ap (λ same. same && nat_eq (slice_index_or one i 0) (slice_index_or other i 0)) c.loop-i.invariant.same
          ∙ same_more one other i (search rules) (search rules) (search rules);
    }
