-- Each event of a world is a step of the plain world.
use Rattle.std.proofs.Common.{ℕ}
use Rattle.std.proofs.Common.{refl, sym}
use Rattle.std.proofs.Common.{ap, ◌∙◌}
use Rattle.spec_node.specs.NodeStep.{Job, IsAllSound}
use Rattle.spec_network.specs.World.{World, Event, Asks, Does, RequestComes, ReplyComes, Ticks, EventAt}
use Rattle.spec_network.specs.World.{world_answer, world_after}
use Rattle.spec_network.specs.Invariant.{Holds}
use Rattle.spec_network.specs.Plain.{plain_of, with_plain}
use Rattle.spec_network.specs.PlainStep.{PlainStep}
use Rattle.spec_network.proofs.PlainParts.{plain_local}
use Rattle.spec_network.proofs.PlainAsks.{request_step}
use Rattle.spec_network.proofs.PlainDeliveries.{request_comes, reply_comes}
use Rattle.spec_network.proofs.PlainTicks.{exhausted_is, tick_step}

-- each event of a world of which the invariant holds is a step of the plain world, with the same answer
pub step_plain : {Local Call Told : Type 0} (job : Job Local Call Told) (IsKept : (me : ℕ) → Local → Type 0)
    (world : World Local)
    (timed : EventAt Call) → IsAllSound job.behaviour IsKept → Holds job IsKept world
    → PlainStep job (plain_of world) timed.event (world_answer job world timed) (plain_of (world_after job world timed))
step_plain {Call = Call} job IsKept world timed sound holds = go timed.event
  where
    go : (event : Event Call) → PlainStep job (plain_of world) event
        (world_answer job world (record { now = timed.now; event = event }))
        (plain_of (world_after job world (record { now = timed.now; event = event })))
    go (Asks i ask) = request_step job IsKept world timed.now i ask holds
    go (Does i thread call) = (
      ap (λ test. (job.behaviour.does i test thread call (world i).local).0) (sym (exhausted_is job.settings world i)),
      plain_local world i _ refl refl
          ∙ ap (λ test. with_plain (plain_of world) i (job.behaviour.does i test thread call (world i).local).1)
          (sym (exhausted_is job.settings world i)),
    )
    go (RequestComes i j k) = request_comes job IsKept world timed.now i j k _ sound holds refl
    go (ReplyComes i j k) = reply_comes job IsKept world timed.now i j k _ holds refl
    go (Ticks i) = tick_step job IsKept world timed.now i _ sound holds refl
