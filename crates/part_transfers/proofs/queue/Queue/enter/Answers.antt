use Rattle.std.proofs.Common.{◌≡◌, sym, subst, ◌∙◌, arith}
use Rattle.std.specs.List.{insert}
use Rattle.part_transfers.specs.Queue.{IsQueue, IsNowhere, IsIndexFor}
use Rattle.part_transfers.proofs.Queueing.{queue_inserted, room_for, refused, accepted}
use Rattle.part_transfers.proofs.queue.Queue.enter.Goals as goal

pub unreachable-requires : goal.unreachable-requires
unreachable-requires c =
    let entries = c.self.inside.entries in
    let absent = subst (λ xs. IsNowhere xs c.args.place) (sym c.self.view_is) c.requires.absent in
    let room = room_for entries.items c.args.place c.self.invariant.1 absent c.requires.inside in
    let full = refused c.insert.result (sym c.is_err.ensures.value ∙ c.if-is_err.true) c.insert.ensures.full in
    absurd (omega (arith, room, full, c.self.invariant.0, entries.ok.0))

pub invariant_of-self : goal.invariant_of-self
invariant_of-self c =
    let items = c.self.inside.entries.items in
    let absent = subst (λ xs. IsNowhere xs c.args.place) (sym c.self.view_is) c.requires.absent in
    let spot = subst (λ xs. IsIndexFor xs c.in-Some.number c.index_for-index.result) (sym c.self.view_is)
    c.index_for-index.ensures in
    let is : c.insert.new.self.items ≡ insert items c.index_for-index.result (record {
      number = c.in-Some.number;
      place = c.args.place;
    }) = accepted c.insert.result (sym c.is_err.ensures.value ∙ c.if-is_err.false) c.insert.ensures.items in (
      omega (arith, c.insert.ensures.capacity, c.self.invariant.0),
      subst IsQueue (sym is)
          (queue_inserted items c.index_for-index.result c.in-Some.number c.args.place c.self.invariant.1 spot absent
          c.requires.inside),
    )
