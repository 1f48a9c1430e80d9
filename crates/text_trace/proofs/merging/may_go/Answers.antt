-- Where its mark is set, an entry got something that is marked.
use Rattle.std.proofs.Common.{◌≡◌, Some, refl, sym, ◌∙◌, length, slice_get}
use Rattle.std.proofs.lemmas.Option.{slice_get_read}
use Rattle.base_turns.specs.Replay.{steps_of}
use Rattle.text_trace.proofs.Asking.{may_go_marked}
use Rattle.text_trace.proofs.merging.may_go.Goals as goal

pub returns-then-is_marked-clause-judges : goal.returns-then-is_marked-clause-judges
returns-then-is_marked-clause-judges g c state stands =
    let item = c.in-Some.ensures.lookup in
    let here : slice_get c.args.entries.now c.args.at ≡ Some c.in-Some.entry.now = slice_get_read c.args.entries.now
    (length c.args.entries.now) c.args.at c.in-Some.entry.now refl item.3.0 item.1 in
    may_go_marked (steps_of g.M.Machine) state c.args.entries.now c.args.at c.in-Some.entry.now c.args.places.now
    c.args.marks.now c.args.node c.polls.result here
    (c.requires.marked (sym c.is_marked.ensures ∙ c.if-is_marked.true)) (c.polls.ensures.state state stands)
