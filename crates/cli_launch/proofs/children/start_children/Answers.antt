use Rattle.std.proofs.Common.{◌≡◌, arith, ap, ◌∙◌}
use Rattle.std.specs.Prelude.{option_map}
use Rattle.base_io.proofs.Outboxes.{rose_later}
use Rattle.cli_launch.specs.Children.{with_starts}
use Rattle.cli_launch.proofs.Told.{starts_more, starts_none}
use Rattle.cli_launch.proofs.children.start_children.Goals as goal

pub loop-rank-init : goal.loop-rank-init
loop-rank-init g c =
    record { told = starts_none c.args.port c.args.input.now _; later = omega arith }

pub loop-rank-preserved : goal.loop-rank-preserved
loop-rank-preserved g c = record {
  told = starts_more c.loop-rank.rank c.args.port c.args.input.now _ _ _ c.loop-rank.invariant.told
      c.in-Started.ensures.told;
  later = (let first = c.loop-rank.invariant.later in let then = c.in-Started.ensures.later in omega arith);
}

pub returns-in-Failed : goal.returns-in-Failed
returns-in-Failed g c = record {
  few = (let less = c.loop-rank-test.true in omega arith);
  told = c.in-Failed.ensures.told ∙ c.loop-rank.invariant.told;
  later = (let first = c.loop-rank.invariant.later in let then = c.in-Failed.ensures.later in omega arith);
  cause = λ less. rose_later _ _ _ c.loop-rank.invariant.later (c.in-Failed.ensures.cause tt);
}

pub returns : goal.returns
returns g c =
    let all : c.loop-rank.rank ≡ c.args.nodes = omega (arith, c.loop-rank-test.false, c.loop-rank.auto.rank-end) in
    record {
      few = omega arith;
      told = c.loop-rank.invariant.told
          ∙ ap (λ n. option_map (with_starts n c.args.port c.args.input.now) (g.P.Spawner.told c.args.spawner.now)) all;
      later = c.loop-rank.invariant.later;
      cause = λ less. absurd (omega arith);
    }
