-- The nodes of a run, as the code keeps them.
use Rattle.std.proofs.Common.{◌≡◌, List, subst, sym, ◌∙◌, ap}
use Rattle.wire_message.specs.Parameters.{Parameters}
use Rattle.sim_world.specs.WorldState.{WorldState}
use Rattle.node_collectives.specs.CollectivesState.{CollectivesState}
use Rattle.sim_group.specs.GroupState.{AreAt, GroupState, IsGroup}
use Rattle.text_job.specs.declared.job.Job.{Job as JobState}
use Rattle.sim_run.specs.ScheduleRun.{GroupStood, IsOfSameNodes, WorldRecords}

-- they are those of another world with the same settings
pub same_group : (old new : WorldState) (nodes : List CollectivesState) → new.settings ≡ old.settings
    → IsGroup old nodes → IsGroup new nodes
same_group old new nodes same is = record {
  count = is.count ∙ ap (λ (settings : Parameters). settings.nodes) (sym same);
  at = subst (λ (settings : Parameters). AreAt settings nodes) (sym same) is.at;
}

-- where the world did something alone
pub world_alone : (text : JobState) (old new : WorldState) (nodes : List CollectivesState)
    → new.settings ≡ old.settings → new.table ≡ old.table
    → IsOfSameNodes text (record { world = old; nodes = nodes }) (record { world = new; nodes = nodes })
world_alone text old new nodes settings table = record {
  job = record { settings = settings; table = table };
  have = λ have some. same_group old new nodes settings (have some);
}

-- the world stands for some records
pub world_stood : (it : GroupState) → GroupStood it → WorldRecords it.world
world_stood it stood = record {
  records = stood.nodes.group.records;
  most = stood.most;
  stands = stood.stands.world;
}
