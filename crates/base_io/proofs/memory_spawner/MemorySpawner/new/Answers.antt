use Rattle.std.proofs.Common.{◌-◌, vec_len, vec_capacity, arith}
use Rattle.base_io.proofs.Children.{room_first, room_more}
use Rattle.base_io.proofs.memory_spawner.MemorySpawner.new.Goals as goal

pub invariant_of-result : goal.invariant_of-result
invariant_of-result c =
    rw c.new.ensures.items
    (room_more (vec_len c.args.children) _ 0 0 (vec_capacity c.new.result - vec_len c.new.result)
    (vec_capacity c.new-2.result - vec_len c.new-2.result)
    (omega arith) (omega arith) (room_first (vec_len c.args.children)))
