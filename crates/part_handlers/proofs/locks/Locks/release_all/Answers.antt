use Rattle.std.proofs.Common.{◌≡◌, List, length, ap, sym, ◌∙◌, rules, not, arith}
use Rattle.arrayvec.proofs.ArrayVecLemmas.{filter-from_retain}
use Rattle.part_handlers.specs.declared.lock_answer.Held.{Held}
use Rattle.part_handlers.specs.Locks.{is_of, without}
use Rattle.part_handlers.proofs.KeptLocks.{filtered, counted}
use Rattle.part_handlers.proofs.locks.Locks.release_all.Goals as goal

pub invariant_of-self : goal.invariant_of-self
invariant_of-self c =
    let left : c.retain.new.self.items ≡ without c.args.owner c.self.inside.held.items =
    filter-from_retain _ _ _ (λ x b f' y called. search rules) _ _ c.retain.ensures.filtered in
    rw left (filtered (λ one. not (is_of c.args.owner one)) c.self.inside.held.items c.self.invariant)

pub returns-clause-count : goal.returns-clause-count
returns-clause-count c =
    let left : c.retain.new.self.items ≡ without c.args.owner c.self.inside.held.items =
    filter-from_retain _ _ _ (λ x b f' y called. search rules) _ _ c.retain.ensures.filtered in
    rw (sym c.self.view_is) (omega (
      arith,
      c.len-before.ensures.value,
      c.len.ensures.value,
      ap (λ (held : List Held). length held) left,
      counted c.args.owner c.self.inside.held.items,
    ))

pub returns-clause-locks : goal.returns-clause-locks
returns-clause-locks c =
    filter-from_retain _ _ _ (λ x b f' y called. search rules) _ _ c.retain.ensures.filtered
    ∙ ap (λ (held : List Held). without c.args.owner held) c.self.view_is
