use Rattle.std.proofs.Common.{◌≡◌, List, [], ◌∷◌, refl}
use Rattle.spec_network.specs.World.{run}
use Rattle.node_endpoint.specs.Making.{whole_after}
use Rattle.node_endpoint.specs.Sites.{Site, ThreadCall, job_at}
use Rattle.sim_world.specs.Wholes.{WorldWhole, events_of, whole_then}
use Rattle.sim_world.specs.contracts.at_node.AtNodeCaller.TheImpl.{ghosts}
use Rattle.sim_world.proofs.laws.calls_are_a_run.Goals as goal

pub returns : goal.returns
returns g c = one_by_one
  where
    one_by_one : (site : Site) (whole : WorldWhole) (calls : List ThreadCall)
        → (whole_after (ghosts g.row.H g.H.Handlers g.H.Handlers-dict) site whole calls).records
        ≡ run (job_at site) (events_of site calls) whole.records
    one_by_one site whole [] = refl
    one_by_one site whole (call ∷ later) = one_by_one site (whole_then site whole call) later
