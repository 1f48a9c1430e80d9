use Rattle.sim_group.proofs.Calling.{runs_its_calls}
use Rattle.sim_group.proofs.Joined.{start_is_of_group, step_is_of_group}
use Rattle.sim_group.proofs.Tries.{end_is_of_group}
use Rattle.sim_group.proofs.laws.calls_are_of_a_group.Goals as goal

pub returns : goal.returns
returns c = record {
  start = start_is_of_group;
  step = step_is_of_group;
  end = end_is_of_group;
  made = runs_its_calls;
}
