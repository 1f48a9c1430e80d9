-- Lemmas on lists, slots and runs, under the names by which crates above cite them.
pub use Rattle.std.proofs.lemmas.Option.{slice_get_past}
pub use Rattle.base_lists.proofs.Places.{slice_get_push, slice_get_kept, slice_get_last, slice_get_in}
pub use Rattle.base_lists.proofs.Numbered.{numbered_nil, numbered_push, numbered_kept, numbered_in, length-change}
pub use Rattle.base_lists.proofs.Numbered.{numbered-change, numbered-changed, numbered-change_here}
pub use Rattle.spec_node.proofs.Slots.{taken_push, taken_has, least_le, least_below, least_outside_is, free_le}
pub use Rattle.spec_node.proofs.Slots.{free_below, free_outside, taken-back_at, outstanding-back, taken_numbered}
pub use Rattle.spec_node.proofs.Slots.{taken_from, taken-sent, outstanding-sent}
pub use Rattle.spec_node.proofs.Runs.{greatest_bounds, greatest_there, run_of_there, run_of_from, run_of_kept}
