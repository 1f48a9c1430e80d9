use Rattle.std.proofs.Common.{◌≡◌, ◌+◌, ◌-◌, ◌<◌, refl, ap, sym, subst, ◌∙◌, arith}
use Rattle.std.proofs.lemmas.Bool.{ltb-true}
use Rattle.node_endpoint.specs.Sites.{IsThere, Site}
use Rattle.part_collective_area.specs.Area.{Area}
use Rattle.node_collectives.specs.declared.answers.StepAnswer.TheVariants as step_answers
use Rattle.node_collectives.specs.CollectivesState.{CollectivesState}
use Rattle.node_collectives.specs.Steps.{Sends}
use Rattle.node_collectives.proofs.Stepping.{going_ends, going_first, going_none, going_on, going_past, going_same}
use Rattle.node_collectives.proofs.Stepping.{none_then, steps_closed, steps_open, there_of}
use Rattle.node_collectives.proofs.collectives.Collectives.step.Goals as goal
use Rattle.node_collectives.proofs.collectives.Collectives.step.Goals.{then-is_left+in_default, else-is_left}

pub returns-then-not-is_open : goal.returns-then-not-is_open
returns-then-not-is_open g c = record {
  steps = steps_closed g.K.Caller c.args.thread c.args.self.now c.args.caller.now
      (sym c.is_open.ensures.open ∙ c.if-not-is_open.true);
  same_reference = refl;
  same_site = refl;
  same_node = record { settings_are = refl; me_is = refl; area_is = refl };
  stands = c.is_open.ensures.stands;
}

pub loop-to-init : goal.loop-to-init
loop-to-init g c =
    going_first g.K.Caller c.args.thread c.args.self.now c.args.caller.now
    (ltb-true c.args.self.now.ended c.args.self.now.started (sym c.is_open.ensures.open ∙ c.if-not-is_open.false))

pub ask-told-requires : goal.ask-told-requires
ask-told-requires g c =
    let it = c.args.self.now in
    let going = c.loop-to.invariant in
    record {
      there = subst IsThere (sym going.site)
          (there_of it (g.K.Caller.site c.args.caller.now) c.is_open.ensures.stands c.requires.settings c.requires.me);
      thread = subst (λ (one : Site). c.args.thread < one.settings.threads) (sym going.site) c.requires.thread;
      opened = going.opened;
    }

pub note-requires : goal.note-requires
note-requires g c =
    let low : c.loop-to.to < c.args.self.now.area.nodes = omega (arith, c.nodes-to-end.ensures.nodes) in
    subst (λ (one : Area). c.loop-to.to < one.nodes) (sym c.loop-to.invariant.area) low

pub returns-in-Some : goal.returns-in-Some
returns-in-Some g c =
    let it = c.args.self.now in
    let going = c.loop-to.invariant in
    let low : c.loop-to.to < it.area.nodes = omega (arith, c.nodes-to-end.ensures.nodes) in
    let opened : it.ended < it.started =
    ltb-true it.ended it.started (sym c.is_open.ensures.open ∙ c.if-not-is_open.false) in
    let next = c.note.ensures.noted in
    let sends : Sends g.K.Caller c.args.thread c.loop-to.to c.loop-to.self c.loop-to.caller c.note.result c.note.new.self
    c.ask-told.new.caller =
    record { told = c.ask-told.result; called = c.ask-told.ensures; stop_is = c.note.ensures.stop; next_is = next } in
    record {
      steps = steps_open g.K.Caller c.args.thread it c.args.caller.now c.in-Some.answer c.note.new.self
          c.ask-told.new.caller opened
          (going_ends g.K.Caller c.args.thread it c.args.caller.now c.loop-to.to c.loop-to.self c.loop-to.caller
          c.note.result c.in-Some.answer c.note.new.self c.ask-told.new.caller going low
          (sym c.is_left.ensures ∙ c.if-is_left.true) sends c.in-Some.is);
      same_reference = c.ask-told.ensures.reference ∙ going.reference;
      same_site = c.ask-told.ensures.site ∙ going.site;
      same_node = record {
        settings_are = ap (λ (one : CollectivesState). one.settings) next ∙ going.settings;
        me_is = ap (λ (one : CollectivesState). one.me) next ∙ going.me;
        area_is = ap (λ (one : CollectivesState). one.area) next ∙ going.area;
      };
      stands = c.is_open.ensures.stands;
    }

pub loop-to-preserved : goal.loop-to-preserved
loop-to-preserved g c =
    let it = c.args.self.now in
    let low : c.loop-to.to < it.area.nodes = omega (arith, c.nodes-to-end.ensures.nodes) in
    elim c.if-is_left.branch [
      | then-is_left+in_default w ↦ going_same g.K.Caller c.args.thread it c.args.caller.now (c.loop-to.to + 1)
          w.note.new.self w.ask-told.new.caller c.if-is_left.self c.if-is_left.caller
          (going_on g.K.Caller c.args.thread it c.args.caller.now c.loop-to.to c.loop-to.self c.loop-to.caller
          w.note.result w.note.new.self w.ask-told.new.caller c.loop-to.invariant low
          (sym c.is_left.ensures ∙ w.if-is_left.true) (record {
            told = w.ask-told.result;
            called = w.ask-told.ensures;
            stop_is = w.note.ensures.stop;
            next_is = w.note.ensures.noted;
          }) (none_then w.note.result w.in_default.not-Some))
          w.self-is w.caller-is
      | else-is_left w ↦ going_same g.K.Caller c.args.thread it c.args.caller.now (c.loop-to.to + 1)
          c.loop-to.self c.loop-to.caller c.if-is_left.self c.if-is_left.caller
          (going_past g.K.Caller c.args.thread it c.args.caller.now c.loop-to.to c.loop-to.self c.loop-to.caller
          c.loop-to.invariant low (sym c.is_left.ensures ∙ w.if-is_left.false)) w.self-is w.caller-is
    ]

pub returns : goal.returns
returns g c =
    let it = c.args.self.now in
    let going = c.loop-to.invariant in
    let none : it.area.nodes - c.loop-to.to ≡ 0 = omega (arith, c.nodes-to-end.ensures.nodes) in
    let opened : it.ended < it.started =
    ltb-true it.ended it.started (sym c.is_open.ensures.open ∙ c.if-not-is_open.false) in
    record {
      steps = steps_open g.K.Caller c.args.thread it c.args.caller.now step_answers.Nothing c.loop-to.self c.loop-to.caller opened
          (going_none g.K.Caller c.args.thread it c.args.caller.now c.loop-to.to c.loop-to.self c.loop-to.caller going none);
      same_reference = going.reference;
      same_site = going.site;
      same_node = record { settings_are = going.settings; me_is = going.me; area_is = going.area };
      stands = c.is_open.ensures.stands;
    }
