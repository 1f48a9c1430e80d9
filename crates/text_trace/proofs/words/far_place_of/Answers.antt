use Rattle.text_trace.proofs.Cutting.{place_is}
use Rattle.text_trace.proofs.words.far_place_of.Goals as goal

pub returns-clause-value : goal.returns-clause-value
returns-clause-value c = place_is c.args.byte c.args.bytes.now c.memchr.result c.memchr.ensures
