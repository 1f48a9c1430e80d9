use Rattle.std.proofs.Common.{length, refl}
use Rattle.std.proofs.lemmas.Option.{slice_get_read}
use Rattle.cli_launch.specs.Children.{end_of_child}
use Rattle.cli_launch.proofs.Ends.{end_at, none_failed, one_more}
use Rattle.cli_launch.proofs.outputs.has_failed.Goals as goal

pub returns-in-Failed : goal.returns-in-Failed
returns-in-Failed c =
    let children = c.args.children.now in
    let place = c.loop-child.child-index in
    let there = slice_get_read children (length children) place c.child-item.result refl c.loop-child-test.true
    c.child-item.is in (
      λ yes. record {
        rank = place;
        end = end_of_child c.child-item.result;
        at = end_at children place c.child-item.result there;
        failed = c.in-Failed.is;
      },
      λ some. refl,
    )

pub loop-child-preserved : goal.loop-child-preserved
loop-child-preserved c =
    let children = c.args.children.now in
    let there = slice_get_read children (length children) c.loop-child.child-index c.child-item.result refl
    c.loop-child-test.true c.child-item.is in
    one_more children c.loop-child.child-index c.child-item.result there c.in-Ended.is c.loop-child.invariant

pub returns : goal.returns
returns c = (
  λ no. absurd (cc),
  λ some.
      absurd
      (none_failed c.args.children.now c.loop-child.child-index c.loop-child-test.false c.loop-child.invariant some),
)
