use Rattle.std.proofs.Common.{ℕ, subst, ◌∷◌, decimal}
use Rattle.wire_message.specs.Parameters.{Parameters}
use Rattle.base_io.specs.Buffered.{GathersAll, outbox}
use Rattle.text_script.specs.AnswerWords.{sight_of, answer_words}
use Rattle.base_text.specs.LineTexts.{line_text}
use Rattle.sim_run.proofs.output.write_event_answer.Goals as goal

pub write_answer-requires : goal.write_answer-requires
write_answer-requires g c =
    (rw c.in-Node.is at c.requires.told) c.endpoint.result.now c.endpoint.ensures.node c.endpoint.ensures.stands

pub returns-in-Node : goal.returns-in-Node
returns-in-Node g c = λ w most h.
    let written = c.write_answer.ensures (w c.args.node) (c.endpoint.ensures.stands w most h) in
    let Written : Parameters → ℕ → Type 0 = λ settings me.
    GathersAll (outbox g.K.Sink.taken g.K.Sink.faults c.args.sink.now)
    (outbox g.K.Sink.taken g.K.Sink.faults c.write_answer.new.sink)
    (line_text (decimal c.args.number ∷ answer_words (sight_of settings me (w c.args.node)) c.in-Node.answer))
    c.write_answer.result
    in
    let here = subst (λ (s : Parameters). Written s c.endpoint.result.now.core.me) c.endpoint.ensures.node.settings_are
    written in
    rw c.in-Node.is (subst (Written c.args.world.now.settings) c.endpoint.ensures.node.me_is here)

pub returns-in-Unsent : goal.returns-in-Unsent
returns-in-Unsent g c = λ w most h. rw c.in-Unsent.is c.write_numbered.ensures

pub returns-in-NoMemory : goal.returns-in-NoMemory
returns-in-NoMemory g c = λ w most h. rw c.in-NoMemory.is c.write_numbered-in-NoMemory.ensures
