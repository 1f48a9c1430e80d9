-- A turn of the machine of the node, and what is recorded of it.
use Rattle.std.proofs.Common.{refl, sym, subst, ◌∙◌, option_copied}
use Rattle.std.proofs.lemmas.Bool.{false≢true}
use Rattle.base_turns.specs.declared.entry.Entry.{Entry}
use Rattle.cli_check.specs.Recording.{RecorderKept, RecorderStands, record_after, text_of}
use Rattle.cli_check.proofs.Turning.{Records, Turns, can_tell, own_held, own_node, recorded, still}
use Rattle.cli_check.proofs.recorder.RecorderMachine.turn.Goals as goal
use Rattle.cli_check.proofs.recorder.RecorderMachine.turn.Goals.{else-self, then-self}

pub tell_step-told-requires : goal.tell_step-told-requires
tell_step-told-requires c =
    let entry : Entry = record { thread = c.args.thread; now = c.args.now; got = option_copied c.args.got } in
    let state = c.self.invariant.0 in
    let stands = c.self.invariant.1 in
    let new = c.turn-turned.new.self in
    let turns : Turns entry c.self.inside.node new c.turn-turned.result =
    record { after = c.turn-turned.ensures.after; tells = c.turn-turned.ensures.turned } in
    can_tell entry c.self.inside.node new c.turn-turned.result turns state.node stands.node stands.beginnings
    (own_node new c.endpoint.result.now c.endpoint.ensures.is c.endpoint.ensures.node)

pub invariant_of-self : goal.invariant_of-self
invariant_of-self c =
    let entry : Entry = record { thread = c.args.thread; now = c.args.now; got = option_copied c.args.got } in
    let old : RecorderKept = record {
      node = c.self.inside.node;
      rank = c.self.inside.rank;
      text = text_of c.self.inside.text;
      whole = c.self.inside.whole;
      most = c.self.inside.most;
    } in
    let new : RecorderKept = record {
      node = c.turn-turned.new.self;
      rank = c.self.inside.rank;
      text = text_of c.tell_step-told.new.text;
      whole = c.if-self.self;
      most = c.max-self-inside.result;
    } in
    let records : Records entry old new c.turn-turned.result = record {
      turns = record { after = c.turn-turned.ensures.after; tells = c.turn-turned.ensures.turned };
      own = own_node new.node c.endpoint.result.now c.endpoint.ensures.is c.endpoint.ensures.node;
      rank_is = refl;
      told = c.tell_step-told.result;
      tells = c.tell_step-told.ensures;
      whole_is = λ whole. elim c.if-self.branch [
        | then-self w ↦ (w.if-self.true, sym w.self-is ∙ whole)
        | else-self w ↦ absurd (false≢true (sym w.if-self.false ∙ (sym w.self-is ∙ whole)))
      ];
      value = c.held.result;
      holds = own_held new.node c.endpoint.result.now c.held.result c.endpoint.ensures.is c.held.ensures.is;
      most_is = c.max-self-inside.ensures;
    } in
    let state = c.self.invariant.0 in (
      record_after state c.args.thread c.args.now (option_copied c.args.got),
      recorded entry old new c.turn-turned.result records state c.self.invariant.1,
    )

pub returns-clause-after : goal.returns-clause-after
returns-clause-after c = λ state stands.
    let entry : Entry = record { thread = c.args.thread; now = c.args.now; got = option_copied c.args.got } in
    let old : RecorderKept = record {
      node = c.self.inside.node;
      rank = c.self.inside.rank;
      text = text_of c.self.inside.text;
      whole = c.self.inside.whole;
      most = c.self.inside.most;
    } in
    let new : RecorderKept = record {
      node = c.turn-turned.new.self;
      rank = c.self.inside.rank;
      text = text_of c.tell_step-told.new.text;
      whole = c.if-self.self;
      most = c.max-self-inside.result;
    } in
    let records : Records entry old new c.turn-turned.result = record {
      turns = record { after = c.turn-turned.ensures.after; tells = c.turn-turned.ensures.turned };
      own = own_node new.node c.endpoint.result.now c.endpoint.ensures.is c.endpoint.ensures.node;
      rank_is = refl;
      told = c.tell_step-told.result;
      tells = c.tell_step-told.ensures;
      whole_is = λ whole. elim c.if-self.branch [
        | then-self w ↦ (w.if-self.true, sym w.self-is ∙ whole)
        | else-self w ↦ absurd (false≢true (sym w.if-self.false ∙ (sym w.self-is ∙ whole)))
      ];
      value = c.held.result;
      holds = own_held new.node c.endpoint.result.now c.held.result c.endpoint.ensures.is c.held.ensures.is;
      most_is = c.max-self-inside.ensures;
    } in
    recorded entry old new c.turn-turned.result records state
    (subst (λ (kept : RecorderKept). RecorderStands kept state) (sym c.self.view_is) stands)

pub returns-clause-empty : goal.returns-clause-empty
returns-clause-empty c = λ none unchanged.
    let entry : Entry = record { thread = c.args.thread; now = c.args.now; got = option_copied c.args.got } in
    let old : RecorderKept = record {
      node = c.self.inside.node;
      rank = c.self.inside.rank;
      text = text_of c.self.inside.text;
      whole = c.self.inside.whole;
      most = c.self.inside.most;
    } in
    let new : RecorderKept = record {
      node = c.turn-turned.new.self;
      rank = c.self.inside.rank;
      text = text_of c.tell_step-told.new.text;
      whole = c.if-self.self;
      most = c.max-self-inside.result;
    } in
    let records : Records entry old new c.turn-turned.result = record {
      turns = record { after = c.turn-turned.ensures.after; tells = c.turn-turned.ensures.turned };
      own = own_node new.node c.endpoint.result.now c.endpoint.ensures.is c.endpoint.ensures.node;
      rank_is = refl;
      told = c.tell_step-told.result;
      tells = c.tell_step-told.ensures;
      whole_is = λ whole. elim c.if-self.branch [
        | then-self w ↦ (w.if-self.true, sym w.self-is ∙ whole)
        | else-self w ↦ absurd (false≢true (sym w.if-self.false ∙ (sym w.self-is ∙ whole)))
      ];
      value = c.held.result;
      holds = own_held new.node c.endpoint.result.now c.held.result c.endpoint.ensures.is c.held.ensures.is;
      most_is = c.max-self-inside.ensures;
    } in
    let empty = c.turn-turned.ensures.empty none unchanged in (
      empty.0,
      empty.1,
      λ state stands.
          let own = subst (λ (kept : RecorderKept). RecorderStands kept state) (sym c.self.view_is) stands in
          still entry old new c.turn-turned.result records state own empty.1 (empty.2 state.node own.node),
    )
