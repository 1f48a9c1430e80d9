use Rattle.std.proofs.Common.{◌≡◌, refl, sym, ap₂, ◌∙◌}
use Rattle.node_endpoint.specs.Sites.{Site, called_by}
use Rattle.sim_world.proofs.Stepping.{same_told, lacked}
use Rattle.sim_world.proofs.at_node.AtNodeCaller.call.Goals as goal

pub returns-in-Node-clause-answered : goal.returns-in-Node-clause-answered
returns-in-Node-clause-answered g c = λ answer is whole stands.
    let both = c.in-Node.ensures.steps whole.records whole.most stands in
    let at : Site = record {
      settings = c.args.self.now.world.now.settings;
      table = c.args.self.now.world.now.table;
      meaning = g.H.Handlers.meaning c.args.self.now.handlers.now;
      node = c.args.self.now.node;
      now = c.args.self.now.now;
    } in
    let same : c.in-Node.answer ≡ answer = cc in
    (sym same ∙ same_told at whole.records (called_by c.args.thread c.args.call.now) c.in-Node.answer both.0, both.1)

pub returns-in_default : goal.returns-in_default
returns-in_default g c = record {
  site = ap₂
      (λ settings table. record {
        settings = settings;
        table = table;
        meaning = g.H.Handlers.meaning c.args.self.now.handlers.now;
        node = c.args.self.now.node;
        now = c.args.self.now.now;
      })
      c.step.ensures.settings c.step.ensures.table;
  lent = refl;
  answered = λ answer is. absurd (cc);
  no_memory = λ is whole stands.
      lacked (g.H.Handlers.meaning c.args.self.now.handlers.now) c.args.self.now.node c.args.self.now.now
      c.args.self.now.world.now c.step.new.self (called_by c.args.thread c.args.call.now) c.step.result
      c.step.ensures.steps c.in_default.not-Node whole stands;
}
