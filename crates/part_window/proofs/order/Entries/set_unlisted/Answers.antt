use Rattle.std.proofs.Common.{false, ◌≢◌, ◌≤◌, [], ◌∷◌, List, length, ap, inr, arith, length-append}
use Rattle.part_window.specs.declared.order.DueEntry.{DueEntry}
use Rattle.part_window.specs.PaddedLists.{with_padding}
use Rattle.part_window.specs.Order.{blank_entry}
use Rattle.part_window.proofs.Blanks.{length-padded}
use Rattle.part_window.proofs.Entries.{entry-changed}
use Rattle.part_window.proofs.order.Entries.set_unlisted.Goals as goal

pub returns : goal.returns
returns c =
    let written = c.self.inside.written.items in
    let places = c.self.inside.places in
    let head = c.self.inside.head in
    let inside : length written ≤ places = omega (arith, c.self.invariant.0, c.self.inside.written.ok.0) in
    let apart : c.args.place ≢ places =
    λ same. c.requires.no_head (omega (
      arith,
      same,
      length-append (with_padding written blank_entry places) (head ∷ []),
      length-padded written blank_entry places inside,
      ap (λ (list : List DueEntry). length list) c.self.view_is,
    )) in
    entry-changed written places head c.args.place
    (λ (entry : DueEntry). record entry { listed = false }) c.index_mut.result.now c.args.self.now inside
    (inr c.requires.listed) apart c.index_mut.ensures.value c.self.view_is
