use Rattle.std.proofs.Common.{◌+◌, ◌-◌, ◌<◌, ◌≤◌, ◌++◌, List, length, replicate, ap, sym, ◌∙◌, arith, length-append, refl}
use Rattle.std.specs.Prelude.{slice_get, slice_set}
use Rattle.std.proofs.lemmas.List.{length-replicate}
use Rattle.base_lists.proofs.Indexes.{get-append_left, read-as}
use Rattle.part_window.specs.declared.table.Contents.{Contents}
use Rattle.part_window.specs.declared.table.Contents.TheVariants.{Nothing}
use Rattle.part_window.proofs.Blanks.{length-padded, padded-more, padded-set}
use Rattle.part_window.proofs.table.ContentsList.replace.Goals as goal

pub returns-clause-written : goal.returns-clause-written
returns-clause-written c =
    let old = c.self.inside.written.items in
    let len = c.self.inside.slots in
    let index = c.args.index in
    let new = old ++ replicate (index + 1 - length old) Nothing in
    let inside : length old ≤ len = omega (arith, c.self.invariant.0, c.self.inside.written.ok.0) in
    let low : index < len =
    omega (arith, c.requires, ap length c.self.view_is, length-padded old Nothing len inside) in
    let kept : index < length new =
    omega (
      arith,
      length-append old (replicate (index + 1 - length old) Nothing),
      length-replicate (index + 1 - length old) Nothing,
    ) in
    rw c.lengthen.ensures.appended
    (padded-set new Nothing len index c.args.contents kept
    ∙ ap (λ (list : List Contents). slice_set list index c.args.contents)
    (padded-more old Nothing len (index + 1) (omega arith) ∙ c.self.view_is))

pub returns-clause-was : goal.returns-clause-was
returns-clause-was c =
    let old = c.self.inside.written.items in
    let len = c.self.inside.slots in
    let index = c.args.index in
    let more = replicate (index + 1 - length old) Nothing in
    let new = old ++ more in
    let inside : length old ≤ len = omega (arith, c.self.invariant.0, c.self.inside.written.ok.0) in
    let low : index < len =
    omega (arith, c.requires, ap length c.self.view_is, length-padded old Nothing len inside) in
    let kept : index < length new =
    omega (arith, length-append old more, length-replicate (index + 1 - length old) Nothing) in
    ap (λ (list : List Contents). slice_get list index)
    (sym (padded-more old Nothing len (index + 1) (omega arith) ∙ c.self.view_is))
    ∙ (get-append_left new (replicate (len - length new) Nothing) index kept
    ∙ (ap (λ (list : List Contents). slice_get list index) (sym c.lengthen.ensures.appended)
    ∙ read-as c.lengthen.new.written.items index c.index-was.result.now c.index-was.result.now
    (omega (arith, kept, ap (λ (list : List Contents). length list) c.lengthen.ensures.appended))
    c.index-was.ensures refl))
