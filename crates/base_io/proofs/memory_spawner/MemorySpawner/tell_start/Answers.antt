use Rattle.std.proofs.Common.{◌<◌, ◌-◌, sym, subst, arith, vec_len, vec_capacity}
use Rattle.std.proofs.lemmas.List.{length-map}
use Rattle.base_io.specs.MemorySpawner.{told_calls, HasRoom}
use Rattle.base_io.proofs.Children.{room_start, room_more, calls_push}
use Rattle.base_io.proofs.memory_spawner.MemorySpawner.tell_start.Goals as goal

pub invariant_of-self-in_err-reserve-2 : goal.invariant_of-self-in_err-reserve-2
invariant_of-self-in_err-reserve-2 c =
    let i = c.self.inside in
    let told = c.reserve.new.self in
    let ends = c.reserve-2.new.self in
    rw c.reserve.ensures.items
    (room_more (vec_len i.children) _ (vec_capacity i.told - vec_len i.told) (vec_capacity i.ends - vec_len i.ends)
    (vec_capacity told - vec_len told) (vec_capacity ends - vec_len ends)
    (omega arith) (omega arith) c.self.invariant)

pub invariant_of-self-in_err-input : goal.invariant_of-self-in_err-input
invariant_of-self-in_err-input c =
    let i = c.self.inside in
    let told = c.reserve.new.self in
    let ends = c.reserve-2.new.self in
    rw c.reserve.ensures.items
    (room_more (vec_len i.children) _ (vec_capacity i.told - vec_len i.told) (vec_capacity i.ends - vec_len i.ends)
    (vec_capacity told - vec_len told) (vec_capacity ends - vec_len ends)
    (omega arith) (omega arith) c.self.invariant)

pub invariant_of-self-2 : goal.invariant_of-self-2
invariant_of-self-2 c =
    let i = c.self.inside in
    let told = c.push_reserved.new.self in
    let ends = c.reserve-2.new.self in
    let child = rw (← c.self.view_is) at c.requires.child in
    let counted = rw length-map at child in
    let count = i.children.ok.0 in
    let within : c.args.rank < vec_len i.children = omega (arith, counted, count) in
    subst (λ calls. HasRoom (vec_len i.children) calls (vec_capacity told - vec_len told)
    (vec_capacity ends - vec_len ends))
    (sym (calls_push c.reserve.new.self.items told.items _ c.push_reserved.ensures.items))
    (rw c.reserve.ensures.items
    (room_start (vec_len i.children) c.args.rank c.args.port _ (told_calls i.told.items)
    (vec_capacity told - vec_len told) (vec_capacity ends - vec_len ends) within
    (omega (arith, c.in_ok-reserve.ensures.ok, c.len-ranks.ensures))
    (omega (arith, c.in_ok-reserve-2.ensures.ok, c.len-ranks.ensures)) c.self.invariant.there))
