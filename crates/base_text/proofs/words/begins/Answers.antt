use Rattle.std.proofs.Common.{sym, arith}
use Rattle.base_text.proofs.Prefixes.{stops_from}
use Rattle.base_text.proofs.Names.{name_found, name_longer, name_other, name_short, ends_by}
use Rattle.base_text.proofs.words.begins.Goals as goal

pub returns-then-bytes-name : goal.returns-then-bytes-name
returns-then-bytes-name c =
    sym (name_short c.args.bytes.now c.args.name.now (omega (arith, c.if-bytes-name.true)))

pub returns-then-end-name : goal.returns-then-end-name
returns-then-end-name c =
    sym (name_other c.args.bytes.now c.args.name.now c.loop-end.end (omega (arith, c.if-end-name.true)) (λ goes.
    let passes = c.goes_with.ensures.1 goes in let fails = c.loop-end-test.false in absurd (cc)))

pub returns : goal.returns
returns c =
    let whole = c.if-end-name.false in
    ends_by c.goes_on.result _
    (λ goes. let more = c.goes_on.ensures.0 goes in
    name_longer c.args.bytes.now c.args.name.now c.loop-end.end c.loop-end.invariant (omega (arith, whole)) more.0
    more.1)
    (λ ends. name_found c.args.bytes.now c.args.name.now c.loop-end.end c.loop-end.invariant (omega (arith, whole))
    (stops_from _ _ c.goes_on.result ends c.goes_on.ensures.1))
