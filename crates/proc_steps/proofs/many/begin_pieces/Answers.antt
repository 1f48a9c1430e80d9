-- The beginning of the pieces of a plan at an endpoint.
use Rattle.std.proofs.Common.{◌≡◌, List, [], ◌∷◌, ap, refl, subst}
use Rattle.spec_node.specs.Record.{Node}
use Rattle.node_rules.specs.EndpointLocal.{EndpointLocal}
use Rattle.node_endpoint.specs.EndpointState.{EndpointStands}
use Rattle.node_vis.specs.Beginning.{BeginCall, calls_made}
use Rattle.node_endpoint.specs.Making.{whole_after}
use Rattle.node_endpoint.specs.Sites.{Site, ThreadCall, node_in_the_end, node_then}
use Rattle.node_endpoint.specs.contracts.at_endpoint.AtEndpointCaller.TheImpl.{ghosts}
use Rattle.proc_steps.specs.Forms.{site_of}
use Rattle.proc_steps.specs.Tries.{context_here}
use Rattle.proc_steps.proofs.many.begin_pieces.Goals as goal

pub returns : goal.returns
returns g c =
    let made = c.begin.ensures.begins.made in
    let old = c.args.caller.now in
    let asked : BeginCall = record {
      plan = c.args.pieces.now.plan.now;
      thread = c.args.thread;
      from = c.args.pieces.now.from;
      register = c.args.pieces.now.reg;
    } in
    let at =
    context_here (g.H.Handlers.meaning old.handlers.now) old.endpoint.now c.args.thread old.now in
    record {
      same_reference = made.lent;
      begun = record {
        settings = ap (λ (site : Site). site.settings) made.site;
        me_is = ap (λ (site : Site). site.node) made.site;
        table = ap (λ (site : Site). site.table) made.site;
        answered = c.begin.ensures.begins.answered;
        leaves = λ node stands. subst (EndpointStands c.begin.new.caller.endpoint.now)
            (one_by_one (site_of at) node (calls_made asked c.begin.result)) (made.whole node stands);
      };
    }
  where
    one_by_one : (site : Site) (node : Node EndpointLocal) (calls : List ThreadCall)
        → whole_after (ghosts g.row.H g.H.Handlers g.H.Handlers-dict) site node calls ≡ node_in_the_end site node calls
    one_by_one site node [] = refl
    one_by_one site node (call ∷ later) = one_by_one site (node_then site node call) later
