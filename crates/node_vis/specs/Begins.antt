-- What `Plan::begin` does with its caller.
use Rattle.std.specs.Prelude.{◌≡◌}
use Rattle.node_endpoint.specs.declared.caller.Caller.{Ghosts}
use Rattle.node_endpoint.specs.Making.{Makes, ForItsNode}
use Rattle.node_vis.specs.declared.shapes.Vis.{Vis}
use Rattle.node_vis.specs.Beginning.{BeginCall, calls_made, vis_answer}

-- the answer is the one that the record of the caller's node gives, and the caller made the calls of that answer
pub record Begins {K : Type 0} (caller : Ghosts K) (old : K) (asked : BeginCall) (answer : Vis) (new : K) : Type 0 where
  pub answered : ForItsNode caller old (λ node. answer ≡ vis_answer (caller.site old) node asked)
  pub made : Makes caller old (calls_made asked answer) new
