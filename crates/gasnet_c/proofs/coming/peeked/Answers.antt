use Rattle.std.proofs.Common.{◌∙◌}
use Rattle.gasnet_c.proofs.Peeked.{peeks_read}
use Rattle.gasnet_c.proofs.coming.peeked.Goals as goal

pub returns : goal.returns
returns c =
    let read = c.in-Ok.ensures in
    peeks_read c.args.endpoint.now c.args.version c.args.bytes.now c.told_of.result c.would_deliver-answer.result
    c.in-Ok.message c.requires.version c.would_deliver-answer.ensures.told c.would_deliver-answer.ensures.agrees
    read.only read.refused read.found read.parts (c.told_of.ensures.runs ∙ c.runs_by-runs.ensures)
    c.told_of.ensures.message
