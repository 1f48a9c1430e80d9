-- A call of a thread changes the record of its own node, as that record's own step does.
use Rattle.std.specs.Prelude.{◌≡◌}
use Rattle.base_lists.proofs.Put.{put_same}
use Rattle.node_rules.specs.Called.{Meant, Requests, Performs}
use Rattle.node_endpoint.specs.Sites.{Site, ThreadCall, node_then}
use Rattle.sim_world.specs.Wholes.{WorldWhole, records_then, whole_then}

pub follows_then : (at : Site) (whole : WorldWhole) (call : ThreadCall)
    → (whole_then at whole call).records at.node ≡ node_then at (whole.records at.node) call
follows_then at whole call = by_kind call.call
  where
    by_kind : (kind : Meant)
        → records_then at whole.records (record { thread = call.thread; call = kind }) at.node
        ≡ node_then at (whole.records at.node) (record { thread = call.thread; call = kind })
    by_kind (Requests to asking) =
        put_same whole.records at.node
        (node_then at (whole.records at.node) (record { thread = call.thread; call = Requests to asking }))
    by_kind (Performs other) =
        put_same whole.records at.node
        (node_then at (whole.records at.node) (record { thread = call.thread; call = Performs other }))
