-- What a caller stands for which keeps how its last call was answered.
use Rattle.std.specs.Prelude.{◌≡◌, refl, Option, Some}
use Rattle.spec_node.specs.Record.{Node}
use Rattle.node_rules.specs.EndpointLocal.{EndpointLocal}
use Rattle.node_rules.specs.declared.answer.Answer.{Answer}
use Rattle.node_endpoint.specs.EndpointState.{EndpointState, EndpointStands}
use Rattle.node_endpoint.specs.Sites.{Site, ThreadCall, answer_at, node_then}

-- the record of the node, and how the last call was answered
pub record LastWhole : Type 0 where
  pub node : Node EndpointLocal
  pub last : Option Answer

pub record LastStands (endpoint : EndpointState) (last : Option Answer) (whole : LastWhole) : Type 0 where
  pub stands : EndpointStands endpoint whole.node
  pub last_is : last ≡ whole.last

abbrev pub after_call : Site → LastWhole → ThreadCall → LastWhole
after_call at whole call =
    record { node = node_then at whole.node call; last = Some (answer_at at whole.node call) }

pub follows_last : (at : Site) (whole : LastWhole) (call : ThreadCall)
    → (after_call at whole call).node ≡ node_then at whole.node call
follows_last at whole call = refl
