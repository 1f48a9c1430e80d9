-- A batch to the local node acts in its call.
use Rattle.std.proofs.Common.{◌≡◌, List, [], ◌∷◌, ◌++◌, Bool, true, Option, None, Some, refl, ap, ◌∙◌, subst}
use Rattle.std.specs.Prelude.{if◌then◌else◌, ◌==◌, option_and_then}
use Rattle.std.proofs.lemmas.Bool.{eq-eqb}
use Rattle.wire_message.specs.Parameters.{Parameters}
use Rattle.wire_message.specs.Content.{Content}
use Rattle.part_segment.specs.Image.{Write}
use Rattle.part_handlers.specs.declared.table.Entry.{Entry}
use Rattle.part_handlers.specs.Runs.{Meaning}
use Rattle.base_lists.proofs.Put.{put_same}
use Rattle.spec_node.specs.declared.answer.Asked.TheVariants as asked
use Rattle.spec_node.specs.Step.{with_itself}
use Rattle.spec_node.specs.NodeStep.{site_of}
use Rattle.spec_network.specs.World.{Asks as AsksEvent, WorldAnswer, world_answer, world_after}
use Rattle.spec_network.specs.Plain.{Plain, plain_of}
use Rattle.spec_network.specs.PlainStep.{AskStep, PlainStep, plain_said}
use Rattle.spec_network.proofs.PlainSteps.{step_plain}
use Rattle.node_core.specs.HandlerRuns.{handlers_of, run_request, run_reply}
use Rattle.node_rules.specs.EndpointLocal.{EndpointLocal, IsEndpointKept}
use Rattle.node_rules.specs.EndpointRules.{job_of, timed_event}
use Rattle.node_rules.specs.declared.answer.Answer.{Answer}
use Rattle.law_transfers.specs.Chunks.{segment_at, writes_at}
use Rattle.law_transfers.proofs.Stretches.{AreSound}
use Rattle.law_messages.specs.Events.{after_all}
use Rattle.law_messages.proofs.Events.{all_holds}
use Rattle.node_atomics.specs.Asking.{batch_of}
use Rattle.node_atomics.specs.Served.{HasBatches, ServesBatches, block_of, olds_of}
use Rattle.law_atomics.specs.Batches.{content_run, ops_of}
use Rattle.law_atomics.specs.AtomicLaws.{OwnBatchesAct}
use Rattle.law_atomics.proofs.Asking.{asks_batch}
use Rattle.law_atomics.proofs.Serving.{request_left, reply_left}

-- what runs at a node by a call of a thread of its own
if_here : (test : Bool) (content : Content) → test ≡ true → (if test then Some content else None) ≡ Some content
if_here test content is = rw is refl

pub own_acts : (settings : Parameters) (table : List (Option Entry)) (meaning : Meaning)
    → AreSound settings table meaning → HasBatches table → ServesBatches meaning
    → OwnBatchesAct (job_of settings table meaning)
own_acts settings table meaning sound has serves events now node ask batch among says answered =
    let job = job_of settings table meaning in
    let kept = IsEndpointKept settings in
    let world = after_all job events in
    let event = timed_event now (AsksEvent node ask) in
    let after = world_after job world event in
    let holds = all_holds settings table meaning events sound among in
    let step : AskStep (site_of job node) (plain_of world) ask asked.Ran (plain_of after)
    = subst (λ answer. PlainStep job (plain_of world) event.event answer (plain_of after)) answered
    (step_plain job kept world event sound holds) in
    let handlers = handlers_of settings table meaning in
    let core = (world node).local.core in
    let content = plain_said (site_of job node) (plain_of world) ask in
    let out = run_request handlers (with_itself node) content core in
    let segment = segment_at job world node in
    let olds = olds_of segment batch.ops in
    let left = request_left settings table meaning (with_itself node) content batch node core has serves
    (asks_batch settings content batch says) (holds.kept node).core in
    let written : writes_at after node ≡ (run_reply handlers (with_itself node) out.1 out.0).writes
    = ap (λ (plain : Plain EndpointLocal). (plain.local node).core.writes) step.3
    ∙ ap (λ (local : EndpointLocal). local.core.writes) (put_same (plain_of world).local node _) in
    let found : content_run job (plain_of world) node event.event (world_answer job world event) ≡ Some content
    = ap (λ (answer : WorldAnswer Answer). content_run job (plain_of world) node event.event answer) answered
    ∙ if_here (node == node) content (eq-eqb node node refl) in
    record {
      ops = ap (λ (it : Option Content). ops_of (option_and_then (batch_of settings) it)) found ∙ ap ops_of says;
      writes = written
          ∙ (ap (λ (reply : Content). (run_reply handlers (with_itself node) reply out.0).writes) left.reply
          ∙ (reply_left settings table meaning (with_itself node) batch olds out.0 serves
          ∙ ap (λ (writes : List Write). writes
          ++ record { offset = batch.local; bytes = block_of olds batch.tag } ∷ []) left.writes));
    }
