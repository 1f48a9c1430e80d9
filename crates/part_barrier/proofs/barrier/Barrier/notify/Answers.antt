use Rattle.std.proofs.Common.{◌≡◌, Some, ℤ, sym, ap, ◌∙◌, subst, arith, to_z, of_z, w32}
use Rattle.std.proofs.lemmas.Int.{to_z-of_z}
use Rattle.part_barrier.specs.Record.{join, own_part, notify_after, notify_answer}
use Rattle.part_barrier.specs.Stands.{BarrierStands}
use Rattle.part_barrier.specs.Views.{fields_view, part}
use Rattle.part_barrier.proofs.Stepping.{stands_notify}
use Rattle.part_barrier.proofs.barrier.Barrier.notify.Goals as goal

pub returns-clause-stands : goal.returns-clause-stands
returns-clause-stands c = λ nodes me kept stood.
    let inside = c.self.inside in
    let before = subst (λ state. BarrierStands nodes me state kept) (sym c.self.view_is) stood in
    let id : to_z w32 (of_z w32 c.args.id) ≡ c.args.id = to_z-of_z w32 c.args.id c.ranges.id in
    let mine : inside.me ≡ me = ap (λ state. state.me) before.is in
    let state = fields_view inside in
    let own = λ (number : ℤ). own_part inside.me (Some (record { id = number; flags = c.args.flags })) in
    let present = c.join-self-inside.ensures
    ∙ ap (λ part. join part state.present) (c.own_part.ensures ∙ ap own id) in
    let after = notify_after kept c.args.id c.args.flags (notify_answer kept c.args.id c.args.flags) in
    subst (λ number. BarrierStands nodes me (record state {
      own = Some (record { id = number; flags = c.args.flags });
      present = part c.join-self-inside.result;
    }) after) (sym id)
    (subst (λ part. BarrierStands nodes me (record state {
      own = Some (record { id = c.args.id; flags = c.args.flags });
      present = part;
    }) after) (sym present)
    (stands_notify nodes me state kept c.args.id c.args.flags before (omega arith)
    (grind (arith, c.is_some.ensures, c.if-is_some.false)) (omega arith)))
