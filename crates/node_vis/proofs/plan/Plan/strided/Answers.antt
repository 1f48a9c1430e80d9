use Rattle.std.proofs.Common.{rules, ◌≡◌, ◌≤◌, length, subst, arith}
use Rattle.std.proofs.lemmas.Result.{err_from_is_err_and}
use Rattle.node_vis.specs.Pairs.{level_pairs, strided_pairs, vectors}
use Rattle.node_vis.specs.Pieces.{pieces_of}
use Rattle.node_vis.specs.Runs.{IsFull}
use Rattle.node_vis.proofs.Planning.{cut_of, cut_planned, planned_by, reason_full, strided_by}
use Rattle.node_vis.proofs.plan.Plan.strided.Goals as goal

pub returns-in_err-runs-clause-answer : goal.returns-in_err-runs-clause-answer
returns-in_err-runs-clause-answer c =
    let failed = err_from_is_err_and c.from_residual.result c.from_residual.ensures.1 in
    let few : vectors c.args.transfer.now.levels.now ≤ 65536
    = omega (arith, c.in-Some.ensures.vectors, c.in-Some.ensures.few) in
    let same : level_pairs c.args.transfer.now.levels.now c.from.result c.from-2.result c.from-3.result
    ≡ strided_pairs c.args.transfer.now = cc (c.from.ensures, c.from-2.ensures, c.from-3.ensures) in
    let full = subst (λ ps. IsFull (length (pieces_of ps)) c.in_err-runs.field-0.0) same c.in_err-runs.ensures in
    rw (failed.1, failed.2) (reason_full _ c.args.settings.now c.args.transfer.now.way
    (strided_pairs c.args.transfer.now) c.in_err-runs.field-0.0
    (strided_by c.args.settings.now c.args.transfer.now (search rules) c.if-transfer-gt4.false few) full)

pub planned-requires-clause-pieces : goal.planned-requires-clause-pieces
planned-requires-clause-pieces c =
    let are : c.in_ok-runs.runs ≡ pieces_of (strided_pairs c.args.transfer.now)
    = cc (c.in_ok-runs.ensures, c.from.ensures, c.from-2.ensures, c.from-3.ensures) in
    cut_of (strided_pairs c.args.transfer.now) c.in_ok-runs.runs are

pub returns-clause-answer : goal.returns-clause-answer
returns-clause-answer c =
    let are : c.in_ok-runs.runs ≡ pieces_of (strided_pairs c.args.transfer.now)
    = cc (c.in_ok-runs.ensures, c.from.ensures, c.from-2.ensures, c.from-3.ensures) in
    let few : vectors c.args.transfer.now.levels.now ≤ 65536
    = omega (arith, c.in-Some.ensures.vectors, c.in-Some.ensures.few) in
    planned_by _ c.args.settings.now c.args.transfer.now.way c.args.transfer.now.to
    (strided_pairs c.args.transfer.now) c.in_ok-runs.runs c.planned.result are
    (strided_by c.args.settings.now c.args.transfer.now (search rules) c.if-transfer-gt4.false few)
    c.planned.ensures

pub returns-clause-cut : goal.returns-clause-cut
returns-clause-cut c =
    let are : c.in_ok-runs.runs ≡ pieces_of (strided_pairs c.args.transfer.now)
    = cc (c.in_ok-runs.ensures, c.from.ensures, c.from-2.ensures, c.from-3.ensures) in
    cut_planned _ _ c.planned.result (strided_pairs c.args.transfer.now) are c.planned.ensures
