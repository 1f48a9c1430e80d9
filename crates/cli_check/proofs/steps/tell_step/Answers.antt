-- The line of the step, where one ended.
use Rattle.std.proofs.Common.{sym, ap, ◌∙◌}
use Rattle.std.specs.Option.{is_some}
use Rattle.std.proofs.lemmas.Bool.{false≢true}
use Rattle.cli_check.proofs.Turning.{answer_names, answer_there, told_none, told_one}
use Rattle.cli_check.specs.Recording.{text_of}
use Rattle.cli_check.proofs.steps.tell_step.Goals as goal

pub returns-then-not-stepped : goal.returns-then-not-stepped
returns-then-not-stepped c =
    told_none c.args.at c.args.stepped c.args.node.now (text_of c.args.text.now) c.if-not-stepped.true

pub unwrap-answer-requires : goal.unwrap-answer-requires
unwrap-answer-requires c =
    ap is_some c.answer.ensures
    ∙ answer_there c.args.stepped c.args.node.now c.requires c.if-not-stepped.false

pub write_step-requires : goal.write_step-requires
write_step-requires c =
    answer_names c.args.stepped c.args.node.now c.endpoint.result.now c.unwrap-answer.result c.requires
    c.if-not-stepped.false c.endpoint.ensures.is (sym c.answer.ensures ∙ c.unwrap-answer.ensures)

pub returns-in-Done : goal.returns-in-Done
returns-in-Done c =
    told_one c.args.at c.args.stepped c.args.node.now c.args.text.now c.write_step.new.sink c.endpoint.result.now
    c.unwrap-answer.result c.if-not-stepped.false c.endpoint.ensures.is
    (sym c.answer.ensures ∙ c.unwrap-answer.ensures) c.in-Done.ensures

pub returns-in-Fault : goal.returns-in-Fault
returns-in-Fault c = λ whole. absurd (false≢true whole)
