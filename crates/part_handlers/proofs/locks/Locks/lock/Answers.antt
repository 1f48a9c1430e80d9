use Rattle.std.proofs.Common.{◌≡◌, List, None, ap, sym, ◌∙◌, arith}
use Rattle.part_handlers.specs.declared.lock_answer.Held.{Held}
use Rattle.part_handlers.specs.Locks.{holder}
use Rattle.part_handlers.proofs.KeptLocks.{room, added}
use Rattle.part_handlers.proofs.locks.Locks.lock.Goals as goal

pub push-requires : goal.push-requires
push-requires c =
    let free : holder c.self.inside.held.items c.args.lock ≡ None =
    ap (λ (held : List Held). holder held c.args.lock) c.self.view_is ∙ (sym c.holder.ensures ∙ c.in-None.is) in (
      omega arith,
      room c.self.inside.held.items (record { lock = c.args.lock; owner = c.args.owner }) c.self.invariant
          (omega (arith, c.if-lock-ge-LOCKS.false)) free,
    )

pub invariant_of-self : goal.invariant_of-self
invariant_of-self c =
    let free : holder c.self.inside.held.items c.args.lock ≡ None =
    ap (λ (held : List Held). holder held c.args.lock) c.self.view_is ∙ (sym c.holder.ensures ∙ c.in-None.is) in
    rw c.push.ensures.items
    (added c.self.inside.held.items (record { lock = c.args.lock; owner = c.args.owner }) c.self.invariant
    (omega (arith, c.if-lock-ge-LOCKS.false)) free)
