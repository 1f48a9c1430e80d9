-- What a step of a world says of a call of a node's thread.
use Rattle.std.proofs.Common.{◌≡◌, ℕ, true, refl, ◌∙◌}
use Rattle.part_handlers.specs.Runs.{Meaning}
use Rattle.node_rules.specs.EndpointRules.{Records, timed_event, transition}
use Rattle.node_rules.specs.Called.{Meant, Requests, Performs, event_at}
use Rattle.node_rules.specs.declared.answer.Answer.{Answer}
use Rattle.spec_network.specs.World.{world_answer}
use Rattle.sim_world.specs.Events.{MaySend, StepsInWorld}
use Rattle.sim_world.specs.Stands.{WorldStands}
use Rattle.sim_world.specs.WorldState.{WorldState}
use Rattle.sim_world.specs.WorldTold.{world_told}
use Rattle.sim_world.specs.declared.event.WorldAnswer.{WorldAnswer}
use Rattle.sim_world.specs.declared.event.WorldAnswer.TheVariants as answers
use Rattle.node_endpoint.specs.Sites.{Site, ThreadCall, IsRequest, MayLack, answer_at, job_at}
use Rattle.sim_world.specs.Wholes.{WorldWhole, event_of_call}

-- the world answers as the node's record does
pub told_so : (at : Site) (records : Records) (call : ThreadCall)
    → world_told (world_answer (job_at at) records (event_of_call at call))
    ≡ answers.Node (answer_at at (records at.node) call)
told_so at records call = by_kind call.call
  where
    by_kind : (kind : Meant)
        → world_told (world_answer (job_at at) records (timed_event at.now (event_at at.node call.thread kind)))
        ≡ answers.Node (answer_at at (records at.node) (record { thread = call.thread; call = kind }))
    by_kind (Requests to asking) = refl
    by_kind (Performs other) = refl

-- so a node's answer is that of its record
pub same_told : (at : Site) (records : Records) (call : ThreadCall) (answer : Answer)
    → answers.Node answer ≡ world_told (world_answer (job_at at) records (event_of_call at call))
    → answer ≡ answer_at at (records at.node) call
same_told at records call answer is = let both = is ∙ told_so at records call in cc

sends_request : (node thread : ℕ) (call : Meant) → MaySend (event_at node thread call) → IsRequest call
sends_request node thread (Requests to asking) may = tt
sends_request node thread (Performs call) may = absurd may

-- an answer that is none of a node's is want of memory, at a request
pub lacked : (meaning : Meaning) (node now : ℕ) (old : WorldState) (new : WorldState) (call : ThreadCall) (answer : WorldAnswer)
    → StepsInWorld meaning old (transition now (event_at node call.thread call.call) answer) new
    → ((one : Answer) → answer ≡ answers.Node one → ⊥)
    → (whole : WorldWhole) → WorldStands old whole.records whole.most
    → MayLack true call × WorldStands new whole.records whole.most
lacked meaning node now old new call (answers.Node one) steps not_node whole stands = absurd (not_node one refl)
lacked meaning node now old new call answers.Unsent steps not_node whole stands =
    let at : Site = record {
      settings = old.settings;
      table = old.table;
      meaning = meaning;
      node = node;
      now = now;
    } in
    absurd (unsent (answer_at at (whole.records node) call)
    ((steps whole.records whole.most stands).0 ∙ told_so at whole.records call))
  where
    unsent : (answer : Answer) → answers.Unsent ≡ answers.Node answer → ⊥
    unsent answer is = cc
lacked meaning node now old new call answers.NoMemory steps not_node whole stands =
    ((refl, sends_request node call.thread call.call steps.0.request), steps.1 whole.records whole.most stands)
