use Rattle.std.proofs.Common.{◌≡◌, List, [], ◌∷◌, refl}
use Rattle.node_endpoint.specs.Making.{whole_after}
use Rattle.node_endpoint.specs.Sites.{Site, ThreadCall, job_at}
use Rattle.law_collectives.specs.Groups.{group_after}
use Rattle.sim_group.specs.Wholes.{GroupWhole, group_then, others_of}
use Rattle.sim_group.specs.contracts.at_group.AtGroupCaller.TheImpl.{ghosts}
use Rattle.sim_group.proofs.laws.calls_are_other_events.Goals as goal

pub returns : goal.returns
returns g c = one_by_one
  where
    one_by_one : (site : Site) (whole : GroupWhole) (calls : List ThreadCall)
        → (whole_after (ghosts g.row.H g.H.Handlers g.H.Handlers-dict) site whole calls).group
        ≡ group_after (job_at site) whole.area whole.group (others_of site calls)
    one_by_one site whole [] = refl
    one_by_one site whole (call ∷ later) = one_by_one site (group_then site whole call) later
