use Rattle.std.proofs.Common.{◌≡◌, refl, sym, ap₂, subst, ◌∙◌}
use Rattle.node_endpoint.specs.Sites.{Site, called_by}
use Rattle.sim_world.proofs.Stepping.{same_told, lacked}
use Rattle.sim_group.specs.Standing.{AreAsFar}
use Rattle.sim_group.specs.Wholes.{world_of}
use Rattle.sim_group.proofs.at_group.AtGroupCaller.call.Goals as goal

pub returns-in-Node-clause-answered : goal.returns-in-Node-clause-answered
returns-in-Node-clause-answered g c = λ answer is whole stands.
    let both = c.in-Node.ensures.steps whole.group.records whole.most stands.world in
    let at : Site = record {
      settings = c.args.self.now.group.now.world.settings;
      table = c.args.self.now.group.now.world.table;
      meaning = g.H.Handlers.meaning c.args.self.now.handlers.now;
      node = c.args.self.now.node;
      now = c.args.self.now.now;
    } in
    let same : c.in-Node.answer ≡ answer = cc in (
      sym same ∙ same_told at whole.group.records (called_by c.args.thread c.args.call.now) c.in-Node.answer both.0,
      record {
        world = both.1;
        nodes = subst (AreAsFar whole.area whole.group.progress) (sym c.event.ensures.same) stands.nodes;
      },
    )

pub returns-in_default : goal.returns-in_default
returns-in_default g c = record {
  site = ap₂
      (λ settings table. record {
        settings = settings;
        table = table;
        meaning = g.H.Handlers.meaning c.args.self.now.handlers.now;
        node = c.args.self.now.node;
        now = c.args.self.now.now;
      })
      c.event.ensures.settings c.event.ensures.table;
  lent = refl;
  answered = λ answer is. absurd (cc);
  no_memory = λ is whole stands.
      let none = lacked (g.H.Handlers.meaning c.args.self.now.handlers.now) c.args.self.now.node c.args.self.now.now
      c.args.self.now.group.now.world c.event.new.self.world (called_by c.args.thread c.args.call.now) c.event.result
      c.event.ensures.steps c.in_default.not-Node (world_of whole) stands.world in (
        none.0,
        record {
          world = none.1;
          nodes = subst (AreAsFar whole.area whole.group.progress) (sym c.event.ensures.same) stands.nodes;
        },
      );
}
