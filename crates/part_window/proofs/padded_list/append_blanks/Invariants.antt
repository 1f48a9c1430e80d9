use Rattle.std.proofs.Common.{◌≡◌, ◌-◌, ◌≤◌, ◌++◌, length, replicate}
use Rattle.std.specs.Prelude.{vec_capacity}
use Rattle.part_window.proofs.padded_list.append_blanks.Given as goal

abbrev pub invariant-loop : goal.invariant-loop
invariant-loop g l = record {
  appended : l.items.items
      ≡ l.initial.items.items ++ replicate (l.counter - length l.initial.items.items) l.blank;
  within : l.counter - length l.initial.items.items ≤ l.len - length l.initial.items.items;
  long : length l.items.items ≡ l.counter;
  same : vec_capacity l.items ≡ vec_capacity l.initial.items;
}
