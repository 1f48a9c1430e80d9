use Rattle.std.proofs.Common.{subst, List}
use Rattle.text_job.specs.declared.job.HandlerText.{HandlerText}
use Rattle.text_script.specs.Registration.{JobHandlers, registry_of}
use Rattle.text_script.specs.Places.{ArePlaced}
use Rattle.text_script.proofs.Placing.{bodies_placed}
use Rattle.text_script.proofs.handlers.ScriptHandlers.new.Goals as goal

pub invariant_of-result : goal.invariant_of-result
invariant_of-result c =
    let services = c.args.services in
    let handlers : JobHandlers =
    record { atomics = services.atomics; collect = services.collect; texts = c.args.texts } in
    rw c.in_ok-places.ensures.items
    (bodies_placed handlers c.register_all.new.table c.register_all.new.places
    (subst (λ (texts : List HandlerText).
    ArePlaced texts (registry_of (record { atomics = services.atomics; collect = services.collect; texts = texts }))
    c.register_all.new.table c.register_all.new.places) c.texts-2.ensures
    c.register_all.ensures))
