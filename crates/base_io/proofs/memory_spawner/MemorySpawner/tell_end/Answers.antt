use Rattle.std.proofs.Common.{◌≡◌, ◌-◌, true, sym, ◌∙◌, ap, subst, arith, vec_len, vec_capacity}
use Rattle.base_io.specs.MemorySpawner.{told_calls, HasRoom}
use Rattle.base_io.specs.Spawner.{is_pending}
use Rattle.base_io.proofs.Children.{room_end, room_for_one, calls_push}
use Rattle.base_io.proofs.memory_spawner.MemorySpawner.tell_end.Goals as goal

pub push_reserved-requires : goal.push_reserved-requires
push_reserved-requires c =
    let i = c.self.inside in
    let pending : is_pending c.args.rank (told_calls i.told.items) ≡ true =
    ap (λ calls. is_pending c.args.rank (told_calls calls)) (sym c.deref.ensures.value) ∙ sym c.is_pending.ensures
    ∙ c.if-not-is_pending.false in
    let room =
    room_for_one (vec_len i.children) c.args.rank (told_calls i.told.items) (vec_capacity i.told - vec_len i.told)
    (vec_capacity i.ends - vec_len i.ends) pending c.self.invariant in
    omega (arith, room.0)

pub push_reserved-requires-2 : goal.push_reserved-requires-2
push_reserved-requires-2 c =
    let i = c.self.inside in
    let pending : is_pending c.args.rank (told_calls i.told.items) ≡ true =
    ap (λ calls. is_pending c.args.rank (told_calls calls)) (sym c.deref.ensures.value) ∙ sym c.is_pending.ensures
    ∙ c.if-not-is_pending.false in
    let room =
    room_for_one (vec_len i.children) c.args.rank (told_calls i.told.items) (vec_capacity i.told - vec_len i.told)
    (vec_capacity i.ends - vec_len i.ends) pending c.self.invariant in
    omega (arith, room.1)

pub invariant_of-self : goal.invariant_of-self
invariant_of-self c =
    let i = c.self.inside in
    let told = c.push_reserved.new.self in
    let ends = c.push_reserved-2.new.self in
    let pending : is_pending c.args.rank (told_calls i.told.items) ≡ true =
    ap (λ calls. is_pending c.args.rank (told_calls calls)) (sym c.deref.ensures.value) ∙ sym c.is_pending.ensures
    ∙ c.if-not-is_pending.false in
    subst (λ calls. HasRoom (vec_len i.children) calls (vec_capacity told - vec_len told)
    (vec_capacity ends - vec_len ends)) (sym (calls_push i.told.items told.items _ c.push_reserved.ensures.items))
    (room_end (vec_len i.children) c.args.rank (told_calls i.told.items) (vec_capacity i.told - vec_len i.told)
    (vec_capacity i.ends - vec_len i.ends)
    (vec_capacity told - vec_len told) (vec_capacity ends - vec_len ends) pending (omega arith) (omega arith)
    c.self.invariant)
