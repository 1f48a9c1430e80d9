use Rattle.std.proofs.Common.{[], ◌∷◌, sym, subst, ◌∙◌, slice_set, get_or}
use Rattle.std.proofs.lemmas.Option.{slice_get-get_or}
use Rattle.text_trace.specs.Noted.{Marks, datagram}
use Rattle.text_trace.proofs.MarkLemmas.{room_at, room_in, fit_after, marks_after, marks_none}
use Rattle.text_trace.proofs.wanted.note.Goals as goal

pub bounds-marks-to : goal.bounds-marks-to
bounds-marks-to c = room_at c.args.places.now c.args.marks.now c.from-to.result c.in-Some.i c.args.bytes.now c.requires
    (sym c.in-Some.ensures)

pub set_mark-requires : goal.set_mark-requires
set_mark-requires c =
    let l = room_at c.args.places.now c.args.marks.now c.from-to.result c.in-Some.i c.args.bytes.now c.requires
    (sym c.in-Some.ensures) in
    room_in c.args.places.now c.args.marks.now c.requires c.from-to.result c.in-Some.i c.args.bytes.now
    (sym c.in-Some.ensures) _ (slice_get-get_or c.args.marks.now c.from-to.result c.index-marks-to.result l)

pub returns-in-Some-clause-fit : goal.returns-in-Some-clause-fit
returns-in-Some-clause-fit c =
    let l = room_at c.args.places.now c.args.marks.now c.from-to.result c.in-Some.i c.args.bytes.now c.requires
    (sym c.in-Some.ensures) in
    fit_after c.args.places.now c.args.marks.now c.requires c.from-to.result c.in-Some.i c.args.bytes.now
    (sym c.in-Some.ensures) (get_or c.args.marks.now c.from-to.result c.index-marks-to.result) c.set_mark.new.marks
    (slice_get-get_or c.args.marks.now c.from-to.result c.index-marks-to.result l) c.set_mark.ensures

pub returns-in-Some-clause-marks : goal.returns-in-Some-clause-marks
returns-in-Some-clause-marks c =
    let l = room_at c.args.places.now c.args.marks.now c.from-to.result c.in-Some.i c.args.bytes.now c.requires
    (sym c.in-Some.ensures) in
    subst (λ to. Marks c.args.places.now c.args.marks.now (slice_set c.args.marks.now c.from-to.result
    c.set_mark.new.marks) (datagram to c.args.bytes.now ∷ [])) c.from-to.ensures
    (marks_after c.args.places.now c.args.marks.now c.requires c.from-to.result c.in-Some.i c.args.bytes.now
    (sym c.in-Some.ensures) (get_or c.args.marks.now c.from-to.result c.index-marks-to.result) c.set_mark.new.marks
    (slice_get-get_or c.args.marks.now c.from-to.result c.index-marks-to.result l) c.set_mark.ensures)

pub returns-in_default-clause-marks : goal.returns-in_default-clause-marks
returns-in_default-clause-marks c =
    subst (λ to. Marks c.args.places.now c.args.marks.now c.args.marks.now (datagram to c.args.bytes.now ∷ []))
    c.from-to.ensures
    (marks_none c.args.places.now c.args.marks.now c.from-to.result c.args.bytes.now (sym c.spot_of.ensures
    ∙ c.in_default.is))
