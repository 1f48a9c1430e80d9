use Rattle.std.proofs.Common.{◌≡◌, ◌+◌, ◌-◌, ◌<◌, ◌≤◌, ◌++◌, ◌∷◌, [], List, length, replicate, ap, sym, ◌∙◌, arith, length-append}
use Rattle.std.specs.Prelude.{slice_set}
use Rattle.std.proofs.lemmas.List.{length-replicate, set-append_left}
use Rattle.part_window.specs.PaddedLists.{with_padding}
use Rattle.part_window.specs.Order.{blank_entry}
use Rattle.part_window.specs.declared.order.DueEntry.{DueEntry}
use Rattle.part_window.proofs.Blanks.{length-padded, padded-more, padded-set}
use Rattle.part_window.proofs.order.Entries.set.Goals as goal

pub returns : goal.returns
returns c =
    let old = c.self.inside.written.items in
    let head = c.self.inside.head in
    let len = c.self.inside.places in
    let place = c.args.place in
    let new = old ++ replicate (place + 1 - length old) blank_entry in
    let inside : length old ≤ len = omega (arith, c.self.invariant.0, c.self.inside.written.ok.0) in
    let long : length (with_padding old blank_entry len) ≡ len = length-padded old blank_entry len inside in
    let low : place < len =
    omega (
      arith,
      c.requires,
      ap (λ (list : List DueEntry). length list) c.self.view_is,
      length-append (with_padding old blank_entry len) (head ∷ []),
      long,
    ) in
    let kept : place < length new =
    omega (
      arith,
      length-append old (replicate (place + 1 - length old) blank_entry),
      length-replicate (place + 1 - length old) blank_entry,
    ) in
    rw c.lengthen.ensures.appended
    (ap (λ (list : List DueEntry). list ++ head ∷ []) (padded-set new blank_entry len place c.args.entry kept
    ∙ ap (λ (list : List DueEntry). slice_set list place c.args.entry)
    (padded-more old blank_entry len (place + 1) (omega arith)))
    ∙ (sym (set-append_left (with_padding old blank_entry len) (head ∷ []) place c.args.entry (omega (arith, low, long)))
    ∙ ap (λ (list : List DueEntry). slice_set list place c.args.entry) c.self.view_is))
