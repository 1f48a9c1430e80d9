use Rattle.law_vis.proofs.PairsDone.{pairs_are_done}
use Rattle.law_vis.proofs.UnderWay.{begun_are_under_way, own_is_copied}
use Rattle.law_vis.proofs.laws.every_plan.Goals as goal

pub returns : goal.returns
returns c = record {
  begun = begun_are_under_way;
  own = own_is_copied;
  laws = pairs_are_done;
}
