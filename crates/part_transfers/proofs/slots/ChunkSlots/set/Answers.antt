use Rattle.std.proofs.Common.{◌≡◌, ◌<◌, ◌+◌, ◌*◌, set, sym, ap₂, subst, length}
use Rattle.part_transfers.specs.ChunkSlots.{ChunkSlots, HasSet}
use Rattle.part_transfers.proofs.Entries.{has_set}
use Rattle.part_transfers.proofs.slots.ChunkSlots.set.Goals as goal

pub returns : goal.returns
returns c =
    let inside : ChunkSlots = record {
      nodes = c.self.inside.nodes;
      credits = c.self.inside.credits;
      entries = c.self.inside.entries.items;
    } in
    let is : inside ≡ c.args.self.now = c.self.view_is in
    let entries = c.reach.new.entries.items in
    let place = ap₂ (λ to slot. to * c.self.inside.credits + slot) c.from.ensures c.from-2.ensures in
    subst (λ old. HasSet old c.args.to c.args.slot c.args.entry
    (record inside {
      entries = set entries (c.from.result * c.self.inside.credits + c.from-2.result) c.args.entry;
    })) is
    (subst (λ n. HasSet inside c.args.to c.args.slot c.args.entry
    (record inside { entries = set entries n c.args.entry })) (sym place)
    (has_set inside c.args.to c.args.slot c.args.entry entries
    (subst (λ n. n < length entries) place c.reach.ensures.inside)
    c.reach.ensures.same
    (subst (λ (v : ChunkSlots). c.args.to < v.nodes) (sym is) c.requires.to_in)
    (subst (λ (v : ChunkSlots). c.args.slot < v.credits) (sym is) c.requires.slot_in)))
