use Rattle.std.proofs.Common.{Ok, sym, subst}
use Rattle.node_vis.specs.Begins.{Begins}
use Rattle.node_vis.specs.Opening.{Opens}
use Rattle.node_vis.specs.Beginning.{BeginCall}
use Rattle.node_vis.proofs.Trying.{begins_all}
use Rattle.node_vis.proofs.plan.Plan.begin_in_region.Goals as goal

pub returns : goal.returns
returns g c =
    let asked : BeginCall = record {
      plan = c.args.self.now;
      thread = c.args.thread;
      from = c.args.from;
      register = c.args.reg;
    } in
    subst (λ v. Begins g.K.Caller c.args.caller.now asked v c.end_region.new.caller) (sym c.answer_by.ensures)
    (begins_all g.K.Caller g.met.K.Caller.follows c.args.caller.now c.begin_region.new.caller
    c.begin_pieces.new.caller c.end_region.new.caller asked c.in-Ok.refused
    (subst (λ r. Opens g.K.Caller c.args.caller.now c.args.thread (Ok r) c.begin_region.new.caller)
    c.in-Ok-None.field-0-is c.in-Ok-None.ensures)
    c.in-Ok.ensures c.in-Ok-end_region.ensures)
