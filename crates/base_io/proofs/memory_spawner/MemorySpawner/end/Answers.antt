use Rattle.std.proofs.Common.{◌≡◌, ◌<◌, ◌≤◌, true, false, refl, length, rules, arith, sym, ◌∙◌, ap, ◌++◌}
use Rattle.base_io.specs.Memory.{is_listed}
use Rattle.base_io.specs.MemorySpawner.{told_calls, output_of, status_of}
use Rattle.base_io.specs.Spawner.{is_pending}
use Rattle.base_io.proofs.Children.{child_at, can_end_by, cannot_end_by}
use Rattle.base_io.proofs.memory_spawner.MemorySpawner.end.Goals as goal

pub index-requires : goal.index-requires
index-requires c =
    let pending : is_pending c.args.rank (told_calls c.self.inside.told.items) ≡ true =
    ap (λ calls. is_pending c.args.rank (told_calls calls)) (sym c.deref-else-contains.ensures.value)
    ∙ sym c.is_pending.ensures ∙ c.if-not-is_pending.false in
    rw c.from.ensures (c.self.invariant.there c.args.rank pending)

pub returns-then-len-gt-MAX_OUTPUT : goal.returns-then-len-gt-MAX_OUTPUT
returns-then-len-gt-MAX_OUTPUT c =
    let i = c.self.inside in
    let child = c.index.result.now in
    let pending : is_pending c.args.rank (told_calls i.told.items) ≡ true =
    ap (λ calls. is_pending c.args.rank (told_calls calls)) (sym c.deref-else-contains.ensures.value)
    ∙ sym c.is_pending.ensures ∙ c.if-not-is_pending.false in
    let there = c.self.invariant.there c.args.rank pending in
    let count = i.children.ok.0 in
    let within : c.args.rank < length i.children.items = omega (arith, there, count) in
    let found = child_at i.children.items child c.args.rank within (rw c.from.ensures at c.index.ensures) in
    let output : output_of c.args.self.now.children c.args.rank ≡ child.0.items =
    ap (λ s. output_of s.children c.args.rank) (sym c.self.view_is) ∙ ap (λ one. one.0) found in
    let long : 67108864 < length child.0.items =
    omega (arith, c.len.ensures, child.0.ok.0, c.if-len-gt-MAX_OUTPUT.true) in
    (cannot_end_by c.args.self.now c.args.rank (rw output long), refl)

pub returns : goal.returns
returns c =
    let i = c.self.inside in
    let child = c.index.result.now in
    let pending : is_pending c.args.rank (told_calls i.told.items) ≡ true =
    ap (λ calls. is_pending c.args.rank (told_calls calls)) (sym c.deref-else-contains.ensures.value)
    ∙ sym c.is_pending.ensures ∙ c.if-not-is_pending.false in
    let there = c.self.invariant.there c.args.rank pending in
    let count = i.children.ok.0 in
    let within : c.args.rank < length i.children.items = omega (arith, there, count) in
    let found = child_at i.children.items child c.args.rank within (rw c.from.ensures at c.index.ensures) in
    let output : output_of c.args.self.now.children c.args.rank ≡ child.0.items =
    ap (λ s. output_of s.children c.args.rank) (sym c.self.view_is) ∙ ap (λ one. one.0) found in
    let status : status_of c.args.self.now.children c.args.rank ≡ child.1 =
    ap (λ s. status_of s.children c.args.rank) (sym c.self.view_is) ∙ ap (λ one. one.1) found in
    let listed : is_listed c.args.self.now.fail c.args.self.now.calls ≡ false = search rules in
    let pends : is_pending c.args.rank c.args.self.now.told.calls ≡ true =
    ap (λ s. is_pending c.args.rank s.told.calls) (sym c.self.view_is) ∙ pending in
    let short : length child.0.items ≤ 67108864 =
    omega (arith, c.len.ensures, child.0.ok.0, c.if-len-gt-MAX_OUTPUT.false) in
    let all : c.extend_from_slice.new.self.items ≡ c.args.into.now.items ++ child.0.items = search rules in (
      can_end_by c.args.self.now c.args.rank listed pends (rw output short),
      sym status,
      all
          ∙ ap (λ out. c.args.into.now.items ++ out) (sym output),
    )
