use Rattle.std.proofs.Common.{◌∙◌, sym}
use Rattle.base_text.proofs.Prefixes.{parted, stops_from}
use Rattle.base_text.proofs.words.name_of.Goals as goal

pub returns-clause-name : goal.returns-clause-name
returns-clause-name c =
    let p = parted c.args.bytes.now c.loop-end.end c.loop-end.invariant.within c.loop-end.invariant.runs
    (stops_from _ _ c.goes_on.result c.loop-end-test.false c.goes_on.ensures.1) in
    c.split_at.ensures.front ∙ sym p.0

pub returns-clause-rest : goal.returns-clause-rest
returns-clause-rest c =
    let p = parted c.args.bytes.now c.loop-end.end c.loop-end.invariant.within c.loop-end.invariant.runs
    (stops_from _ _ c.goes_on.result c.loop-end-test.false c.goes_on.ensures.1) in
    c.split_at.ensures.back ∙ sym p.1
