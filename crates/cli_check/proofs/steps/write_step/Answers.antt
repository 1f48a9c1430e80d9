-- The rank, a space, and the line of the thread and the answer.
use Rattle.std.proofs.Common.{ℕ, List, ◌∷◌, decimal, subst, ◌∙◌}
use Rattle.base_io.specs.Buffered.{Gathers, GathersAll, GathersPrefix, outbox}
use Rattle.text_script.specs.AnswersTold.{sight_at}
use Rattle.base_text.specs.LineTexts.{line_text}
use Rattle.cli_check.specs.StepLines.{script_words}
use Rattle.cli_check.proofs.StepText.{rank_cut, space_cut, step_said}
use Rattle.cli_check.proofs.steps.write_step.Goals as goal

pub returns-in-Fault : goal.returns-in-Fault
returns-in-Fault g c = λ node stands.
    rank_cut (decimal c.args.at.rank) (decimal c.args.at.thread)
    (script_words (sight_at c.args.endpoint.now node) c.args.answer.now)
    (outbox g.K.Sink.taken g.K.Sink.faults c.args.sink.now) (outbox g.K.Sink.taken g.K.Sink.faults c.write_all.new.self)
    (subst (λ (bytes : List ℕ). GathersPrefix (outbox g.K.Sink.taken g.K.Sink.faults c.args.sink.now)
    (outbox g.K.Sink.taken g.K.Sink.faults c.write_all.new.self) bytes)
    (c.as_bytes.ensures.value ∙ c.format.ensures.text) c.in-Fault.ensures)

pub returns-in-Fault-write_all : goal.returns-in-Fault-write_all
returns-in-Fault-write_all g c = λ node stands.
    space_cut (decimal c.args.at.rank) (decimal c.args.at.thread)
    (script_words (sight_at c.args.endpoint.now node) c.args.answer.now)
    (outbox g.K.Sink.taken g.K.Sink.faults c.args.sink.now) (outbox g.K.Sink.taken g.K.Sink.faults c.write_all.new.self)
    (outbox g.K.Sink.taken g.K.Sink.faults c.write_all-2.new.self)
    (subst (λ (bytes : List ℕ). Gathers (outbox g.K.Sink.taken g.K.Sink.faults c.args.sink.now)
    (outbox g.K.Sink.taken g.K.Sink.faults c.write_all.new.self) bytes)
    (c.as_bytes.ensures.value ∙ c.format.ensures.text) c.in_default.ensures) c.in-Fault-write_all.ensures

pub returns : goal.returns
returns g c = λ node stands.
    let words = script_words (sight_at c.args.endpoint.now node) c.args.answer.now in
    step_said (decimal c.args.at.rank) (decimal c.args.at.thread) words
    (outbox g.K.Sink.taken g.K.Sink.faults c.args.sink.now) (outbox g.K.Sink.taken g.K.Sink.faults c.write_all.new.self)
    (outbox g.K.Sink.taken g.K.Sink.faults c.write_all-2.new.self)
    (outbox g.K.Sink.taken g.K.Sink.faults c.write_said.new.sink) c.write_said.result
    (subst (λ (bytes : List ℕ). Gathers (outbox g.K.Sink.taken g.K.Sink.faults c.args.sink.now)
    (outbox g.K.Sink.taken g.K.Sink.faults c.write_all.new.self) bytes)
    (c.as_bytes.ensures.value ∙ c.format.ensures.text) c.in_default.ensures) c.in_default-write_all.ensures
    (subst (λ (thread : ℕ). GathersAll (outbox g.K.Sink.taken g.K.Sink.faults c.write_all-2.new.self)
    (outbox g.K.Sink.taken g.K.Sink.faults c.write_said.new.sink) (line_text (decimal thread ∷ words))
    c.write_said.result) c.from.ensures (c.write_said.ensures node stands))
