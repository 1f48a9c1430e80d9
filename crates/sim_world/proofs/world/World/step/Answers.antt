use Rattle.std.proofs.Common.{List, Option, sym, subst, subst₂}
use Rattle.wire_message.specs.Parameters.{Parameters, AreInRange}
use Rattle.part_handlers.specs.declared.table.Entry.{Entry}
use Rattle.law_transfers.specs.TransferLaws.{TransfersHold}
use Rattle.law_transfers.proofs.Laws.{transfers_hold}
use Rattle.law_barrier.specs.BarrierLaws.{BarrierHolds}
use Rattle.law_barrier.proofs.Laws.{barrier_holds}
use Rattle.sim_world.specs.Events.{event_of}
use Rattle.sim_world.specs.WorldState.{WorldState}
use Rattle.sim_world.proofs.Plainly.{plainly, stands_lawful}
use Rattle.sim_world.proofs.world.World.step.Given.{Over}
use Rattle.sim_world.proofs.world.World.step.Goals as goal

pub returns-clause-plain : goal.returns-clause-plain
returns-clause-plain g c =
    plainly (g.H.Handlers.meaning c.args.handlers.now) c.args.self.now c.args.now (event_of c.args.event.now)
    c.step_as_recorded.result c.step_as_recorded.new.self (g.met.H.Handlers.is_lawful c.args.handlers.now)
    c.step_as_recorded.ensures.steps

pub returns-clause-lawful : goal.returns-clause-lawful
returns-clause-lawful g c =
    λ w most S. stands_lawful (g.H.Handlers.meaning c.args.handlers.now) c.step_as_recorded.new.self w most
    (g.met.H.Handlers.is_lawful c.args.handlers.now) S

-- the settings of a world are in range
abbrev in_range : (g : Over) (c : goal.After-step_as_recorded g) → AreInRange c.args.self.now.settings
in_range g c = subst (λ (w : WorldState). AreInRange w.settings) c.self.view_is c.self.invariant.founded.stands.range

pub returns-clause-transfers : goal.returns-clause-transfers
returns-clause-transfers g c =
    let v = c.args.self.now in
    let meaning = g.H.Handlers.meaning c.args.handlers.now in
    subst₂ (λ (s : Parameters) (t : List (Option Entry)). TransfersHold s t meaning)
    (sym c.step_as_recorded.ensures.settings) (sym c.step_as_recorded.ensures.table)
    (transfers_hold v.settings v.table meaning (in_range g c) (g.met.H.Handlers.is_lawful c.args.handlers.now))

pub returns-clause-barrier : goal.returns-clause-barrier
returns-clause-barrier g c =
    let v = c.args.self.now in
    let meaning = g.H.Handlers.meaning c.args.handlers.now in
    subst₂ (λ (s : Parameters) (t : List (Option Entry)). BarrierHolds s t meaning)
    (sym c.step_as_recorded.ensures.settings) (sym c.step_as_recorded.ensures.table)
    (barrier_holds v.settings v.table meaning (in_range g c) (g.met.H.Handlers.is_lawful c.args.handlers.now))
