-- One output more, none, and all of them.
use Rattle.std.proofs.Common.{List, sym, subst, arith, ◌+◌}
use Rattle.text_trace.specs.declared.output.Output.{Output}
use Rattle.cli_check.proofs.Inputs.{ReadSoFar, near_more, none_more, place_of, read_end, read_more, read_start}
use Rattle.cli_check.proofs.input.outputs_from.Goals as goal

pub loop-rank-init : goal.loop-rank-init
loop-rank-init c =
    let place = place_of c.args.job.now c.args.bytes.now c.args.from in record {
      so_far = subst (λ (outputs : List Output). ReadSoFar place outputs 0 c.args.from)
          (sym c.new-outputs.ensures.items) (read_start place c.requires.from);
    }

pub split_at-requires : goal.split_at-requires
split_at-requires c = c.loop-rank.invariant.so_far.within

pub read_output-requires : goal.read_output-requires
read_output-requires c = omega (arith, c.split_at.ensures.back_len, c.requires.few)

pub fault_behind-requires : goal.fault_behind-requires
fault_behind-requires c = record {
  few = omega (arith, c.split_at.ensures.front_len, c.split_at.ensures.back_len, c.requires.few);
  near = near_more _ 67108864 c.in-Err.fault (omega (arith, c.split_at.ensures.back_len, c.requires.few))
      c.in-Err.ensures.near;
}

pub returns-in-Err : goal.returns-in-Err
returns-in-Err c =
    none_more (place_of c.args.job.now c.args.bytes.now c.args.from) c.loop-rank.outputs.items c.loop-rank.rank
    c.loop-rank.at c.wanted_of.result c.split_at.result.0.now c.split_at.result.1.now c.in-Err.fault
    c.fault_behind.result c.fault_behind.ensures c.split_at.ensures.front c.wanted_of.ensures c.split_at.ensures.back
    (omega arith) c.loop-rank.invariant.so_far
    (record { gives = c.in-Err.ensures.only; reads = c.in-Err.ensures.exact; meant = c.in-Err.ensures.meant })

pub loop-rank-preserved : goal.loop-rank-preserved
loop-rank-preserved c =
    let place = place_of c.args.job.now c.args.bytes.now c.args.from in record {
      so_far = subst (λ (outputs : List Output). ReadSoFar place outputs (c.loop-rank.rank + 1)
          (c.loop-rank.at + c.in-Ok.read.1)) (sym c.in-Ok-push.ensures.items)
          (read_more place c.loop-rank.outputs.items c.loop-rank.rank c.loop-rank.at c.in-Ok.read.1 c.wanted_of.result
          c.split_at.result.1.now c.in-Ok.read.0 c.wanted_of.ensures c.split_at.ensures.back (omega arith)
          c.requires.few c.loop-rank.invariant.so_far (record {
            begins = c.in-Ok.ensures.found;
            gives = c.in-Ok.ensures.only;
            reads = c.in-Ok.ensures.exact;
            threads = c.in-Ok.ensures.threads;
            few = c.in-Ok.ensures.few;
          }));
    }

pub returns : goal.returns
returns c =
    read_end (place_of c.args.job.now c.args.bytes.now c.args.from) c.loop-rank.outputs.items c.loop-rank.rank
    c.loop-rank.at (omega arith) (omega arith) c.loop-rank.invariant.so_far
