use Rattle.text_trace.proofs.Cutting.{one_by}
use Rattle.text_trace.proofs.words.is_one.Goals as goal

pub returns : goal.returns
returns c =
    let k = one_by c.args.line.now c.far_place_of.result c.is_none.result c.is_none.ensures
    c.far_place_of.ensures.value in
    record { value = k.0; word = k.1 }
