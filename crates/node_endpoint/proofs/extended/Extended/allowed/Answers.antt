use Rattle.std.proofs.Common.{ap, sym, subst}
use Rattle.node_rules.specs.Called.{Meant, meant}
use Rattle.node_endpoint.proofs.Barriers.{notify_again, try_again}
use Rattle.node_endpoint.specs.Parts.{PartDoes, allowed_does}
use Rattle.node_endpoint.proofs.extended.Extended.allowed.Goals as goal

pub returns-in-Notify : goal.returns-in-Notify
returns-in-Notify c =
    subst (λ (m : Meant). PartDoes (record { core = c.args.core.now; extended = c.args.self.now }) c.args.thread
    (allowed_does m) c.notify.result (record { core = c.args.core.now; extended = c.notify.new.self }))
    (sym (ap meant c.in-Notify.is)) (notify_again (record { core = c.args.core.now; extended = c.args.self.now })
    (record {
      core = c.args.core.now;
      extended = c.notify.new.self;
    }) c.args.thread c.in-Notify.id c.in-Notify.flags c.notify.result (c.notify.ensures c.args.thread))

pub returns-in-TryBarrier : goal.returns-in-TryBarrier
returns-in-TryBarrier c =
    subst (λ (m : Meant). PartDoes (record { core = c.args.core.now; extended = c.args.self.now }) c.args.thread
    (allowed_does m) c.try_barrier.result (record { core = c.args.core.now; extended = c.try_barrier.new.self }))
    (sym (ap meant c.in-TryBarrier.is)) (try_again (record { core = c.args.core.now; extended = c.args.self.now })
    (record {
      core = c.args.core.now;
      extended = c.try_barrier.new.self;
    }) c.args.thread c.in-TryBarrier.id c.in-TryBarrier.flags c.try_barrier.result
    (c.try_barrier.ensures c.args.thread))
