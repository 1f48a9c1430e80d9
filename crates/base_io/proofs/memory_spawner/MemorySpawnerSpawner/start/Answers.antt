use Rattle.std.proofs.Common.{◌≡◌, ◌<◌, false, sym, ◌∙◌, ap, rules, length, arith}
use Rattle.std.specs.List.{list_any}
use Rattle.std.proofs.lemmas.List.{length-map}
use Rattle.base_io.specs.Memory.{is_listed}
use Rattle.base_io.specs.Faults.{one_more}
use Rattle.base_io.specs.MemorySpawner.{told_of, told_calls, children_of}
use Rattle.base_io.specs.Spawner.{is_start_of, was_started}
use Rattle.base_io.proofs.Children.{any_of_calls}
use Rattle.base_io.proofs.memory_spawner.MemorySpawnerSpawner.start.Goals as goal

pub tell_start-requires-clause-fresh : goal.tell_start-requires-clause-fresh
tell_start-requires-clause-fresh c =
    sym (any_of_calls (is_start_of c.args.rank) c.self.inside.told.items)
    ∙ ap (list_any (λ call. is_start_of c.args.rank (told_of call))) (sym c.deref-else-from-len.ensures.value)
    ∙ sym c.was_started.ensures ∙ c.if-was_started.false

pub returns-clause-exact : goal.returns-clause-exact
returns-clause-exact c =
    let i = c.self.inside in
    let fresh : was_started c.args.rank (told_calls i.told.items) ≡ false =
    sym (any_of_calls (is_start_of c.args.rank) i.told.items)
    ∙ ap (list_any (λ call. is_start_of c.args.rank (told_of call))) (sym c.deref-else-from-len.ensures.value)
    ∙ sym c.was_started.ensures ∙ c.if-was_started.false in
    let listed : is_listed i.fail.items (one_more i.calls) ≡ false = search rules in
    let count = i.children.ok.0 in
    let before : c.args.rank < length i.children.items = omega (arith, count, c.from.ensures, c.len.ensures) in
    let within : c.args.rank < length (children_of i.children.items) = rw length-map before in
    rw (← c.self.view_is) (listed, within, fresh, search rules)
