use Rattle.std.proofs.Common.{rules, sym, ◌∙◌}
use Rattle.std.proofs.lemmas.Result.{err_from_is_err_and}
use Rattle.node_vis.specs.Pairs.{indexed_pairs}
use Rattle.node_vis.proofs.Planning.{cut_of, cut_planned, indexed_by, planned_by, reason_full}
use Rattle.node_vis.proofs.plan.Plan.indexed.Goals as goal

pub returns-in_err-runs-clause-answer : goal.returns-in_err-runs-clause-answer
returns-in_err-runs-clause-answer c =
    let failed = err_from_is_err_and c.from_residual.result c.from_residual.ensures.1 in
    rw (failed.1, failed.2) (reason_full _ c.args.settings.now c.args.transfer.now.way
    (indexed_pairs c.args.transfer.now) c.in_err-runs.field-0.0
    (indexed_by c.args.settings.now c.args.transfer.now (search rules)
    c.if-transfer-gt256.false c.if-transfer-gt256-2.false
    (sym c.total.ensures ∙ (c.if-total.false ∙ c.total-2.ensures)))
    c.in_err-runs.ensures)

pub planned-requires-clause-pieces : goal.planned-requires-clause-pieces
planned-requires-clause-pieces c = cut_of (indexed_pairs c.args.transfer.now) c.in_ok-runs.runs c.in_ok-runs.ensures

pub returns-clause-answer : goal.returns-clause-answer
returns-clause-answer c =
    planned_by _ c.args.settings.now c.args.transfer.now.way c.args.transfer.now.to (indexed_pairs c.args.transfer.now)
    c.in_ok-runs.runs c.planned.result c.in_ok-runs.ensures
    (indexed_by c.args.settings.now c.args.transfer.now (search rules)
    c.if-transfer-gt256.false c.if-transfer-gt256-2.false
    (sym c.total.ensures ∙ (c.if-total.false ∙ c.total-2.ensures)))
    c.planned.ensures

pub returns-clause-cut : goal.returns-clause-cut
returns-clause-cut c =
    cut_planned _ _ c.planned.result (indexed_pairs c.args.transfer.now) c.in_ok-runs.ensures c.planned.ensures
