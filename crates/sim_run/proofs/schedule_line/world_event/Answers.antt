use Rattle.std.proofs.Common.{◌∙◌, refl, sym, ap, Some, List, ℤ}
use Rattle.node_rules.specs.Called.{Meant, event_at}
use Rattle.text_script.specs.ScheduledCalls.{meant_by}
use Rattle.sim_run.proofs.CallsAmong.{call_among}
use Rattle.sim_run.proofs.schedule_line.world_event.Goals.{in-Call, in-Request, in-Reply, in-Tick}
use Rattle.sim_run.proofs.schedule_line.world_event.Goals as goal

pub returns-clause-event : goal.returns-clause-event
returns-clause-event c w most stands = elim c.match-event.branch [
  | in-Call v ↦
      rw (v.in-Call.is, v.one-is)
      (ap (λ (call : Meant). Some (event_at v.in-Call.node v.in-Call.thread call))
      (sym (v.call_of.ensures.meant
      ∙ ap (λ (cells : List ℤ). meant_by cells v.in-Call.call)
      (v.cells.ensures (w v.in-Call.node) (v.endpoint.ensures.stands w most stands)))))
  | in-Request v ↦ rw (v.in-Request.is, v.one-is) refl
  | in-Reply v ↦ rw (v.in-Reply.is, v.one-is) refl
  | in-Tick v ↦ rw (v.in-Tick.is, v.one-is) refl
]

pub returns-clause-nodes : goal.returns-clause-nodes
returns-clause-nodes c = elim c.match-event.branch [
  | in-Call v ↦
      rw v.one-is
      (call_among c.args.world.now.settings v.in-Call.node v.in-Call.thread _ (rw v.in-Call.is at c.requires).0)
  | in-Request v ↦ rw v.one-is (rw v.in-Request.is at c.requires)
  | in-Reply v ↦ rw v.one-is (rw v.in-Reply.is at c.requires)
  | in-Tick v ↦ rw v.one-is (rw v.in-Tick.is at c.requires)
]

pub returns-clause-called : goal.returns-clause-called
returns-clause-called c = elim c.match-event.branch [
  | in-Call v ↦
      rw v.one-is
      (v.call_of.ensures.callable c.args.world.now.settings v.in-Call.thread (rw v.in-Call.is at c.requires).1)
  | in-Request v ↦ rw v.one-is tt
  | in-Reply v ↦ rw v.one-is tt
  | in-Tick v ↦ rw v.one-is tt
]
