use Rattle.std.proofs.Common.{◌∙◌, ℕ, List, ap, subst, sym}
use Rattle.base_io.specs.Buffered.{GathersAll, outbox}
use Rattle.text_calls.specs.Forms.{entry_text, none_text}
use Rattle.text_vis.specs.VisLines.{entry_by}
use Rattle.text_vis.specs.declared.vis.VisShape.{VisShape}
use Rattle.text_print.proofs.Pieces.{indexed_parts, strided_parts}
use Rattle.text_print.proofs.vis.write_vis.Goals as goal

pub returns-in-Strided : goal.returns-in-Strided
returns-in-Strided g c =
    let words = c.args.vis.now.words in
    let shape = c.in-Strided in
    let text = ap (λ (s : VisShape). entry_text none_text (entry_by words.way s words.register words.from words.to))
    c.in-Strided.is
    ∙ strided_parts words.way words.register words.from words.to shape.remote shape.local shape.len shape.levels in
    let written = rw (c.strided_name.ensures, c.items.ensures.items) at c.write_named_form.ensures in
    subst (λ (t : List ℕ). GathersAll (outbox g.K.Sink.taken g.K.Sink.faults c.args.sink.now)
    (outbox g.K.Sink.taken g.K.Sink.faults c.write_named_form.new.sink) t c.write_named_form.result) (sym text) written

pub returns-in-Indexed : goal.returns-in-Indexed
returns-in-Indexed g c =
    let words = c.args.vis.now.words in
    let shape = c.in-Indexed in
    let text = ap (λ (s : VisShape). entry_text none_text (entry_by words.way s words.register words.from words.to))
    c.in-Indexed.is ∙ indexed_parts words.way words.register words.from words.to shape.remote shape.local in
    let written = rw (
      c.indexed_name.ensures,
      c.items-remote.ensures.items,
      c.items-local.ensures.items,
    ) at c.write_named_form-in-Indexed.ensures in
    subst (λ (t : List ℕ). GathersAll (outbox g.K.Sink.taken g.K.Sink.faults c.args.sink.now)
    (outbox g.K.Sink.taken g.K.Sink.faults c.write_named_form-in-Indexed.new.sink) t
    c.write_named_form-in-Indexed.result) (sym text) written
