use Rattle.std.proofs.Common.{rules, sym, subst, ap, ◌∙◌}
use Rattle.std.specs.Prelude.{map}
use Rattle.std.specs.List.{All}
use Rattle.std.specs.List.Sorted.{IsPermutation}
use Rattle.std.proofs.lemmas.List.Sorted.{All-permutation, IsNonDecreasingBy-from_sort_by_key}
use Rattle.node_vis.specs.declared.runs.Run.{Run}
use Rattle.node_vis.specs.Runs.{ascend_from, EndsSoon, piece_in, written_at}
use Rattle.node_vis.proofs.Ascending.{ascends_clear, sorted_says}
use Rattle.node_vis.proofs.overlap.some_meet.Goals as goal

pub returns-then-ascend : goal.returns-then-ascend
returns-then-ascend c =
    sym (ascends_clear c.args.way 0 (map piece_in c.args.runs.now) (sym c.ascend.ensures ∙ c.if-ascend.true))

pub ascend-requires-2 : goal.ascend-requires-2
ascend-requires-2 c =
    subst (All EndsSoon) (sym c.deref.ensures.value)
    (All-permutation EndsSoon c.in_ok-sorted.sorted.items c.sort_unstable_by_key.new.self.items
    c.sort_unstable_by_key.ensures.permutation
    (subst (All EndsSoon) (sym c.in_ok-sorted.ensures.items) c.requires.ends))

pub returns : goal.returns
returns c =
    sorted_says c.args.way c.args.runs.now c.sort_unstable_by_key.new.self.items c.ascend-2.result c.requires.filled
    (subst (λ rs. IsPermutation rs c.sort_unstable_by_key.new.self.items) c.in_ok-sorted.ensures.items
    c.sort_unstable_by_key.ensures.permutation)
    (IsNonDecreasingBy-from_sort_by_key (λ (run : Run). written_at c.args.way (piece_in run)) _
    c.sort_unstable_by_key.ensures.sorted (λ a r q k. search rules))
    (c.ascend-2.ensures ∙ ap (λ rs. ascend_from c.args.way 0 (map piece_in rs)) c.deref.ensures.value)
