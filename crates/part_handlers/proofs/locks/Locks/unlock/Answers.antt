use Rattle.std.proofs.Common.{◌≡◌, List, ap, sym, ◌∙◌, rules, not, ◌&&◌}
use Rattle.std.specs.Prelude.{◌==◌}
use Rattle.arrayvec.proofs.ArrayVecLemmas.{filter-from_retain}
use Rattle.part_handlers.specs.declared.lock_answer.Held.{Held}
use Rattle.part_handlers.specs.Locks.{is_of, without_lock}
use Rattle.part_handlers.proofs.KeptLocks.{filtered}
use Rattle.part_handlers.proofs.LockLaws.{after_freed}
use Rattle.part_handlers.proofs.locks.Locks.unlock.Goals as goal

pub invariant_of-self : goal.invariant_of-self
invariant_of-self c =
    let left : c.retain.new.self.items ≡ without_lock c.args.owner c.args.lock c.self.inside.held.items =
    filter-from_retain _ _ _ (λ x b f' y called. search rules) _ _ c.retain.ensures.filtered in
    rw left (filtered (λ one. not (one.lock == c.args.lock && is_of c.args.owner one)) c.self.inside.held.items
    c.self.invariant)

pub returns-in-None-clause-locks : goal.returns-in-None-clause-locks
returns-in-None-clause-locks c =
    let left : c.retain.new.self.items ≡ without_lock c.args.owner c.args.lock c.self.inside.held.items =
    filter-from_retain _ _ _ (λ x b f' y called. search rules) _ _ c.retain.ensures.filtered in
    let same : without_lock c.args.owner c.args.lock c.self.inside.held.items ≡ without_lock c.args.owner c.args.lock
    c.args.self.now =
    ap (λ (held : List Held). without_lock c.args.owner c.args.lock held) c.self.view_is in
    left ∙ (same
    ∙ sym (after_freed c.args.self.now c.args.owner c.args.lock (sym c.unlock_fault.ensures ∙ c.in-None.is)))
