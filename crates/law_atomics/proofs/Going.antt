-- What becomes of a batch to another node.
use Rattle.std.proofs.Common.{◌≡◌, inl, inr, ℕ, true, true≢false, Bool, List, [], Option, None, Some, refl}
use Rattle.std.proofs.Common.{sym, ap, ◌∙◌, subst}
use Rattle.std.specs.Prelude.{if◌then◌else◌, ◌==◌, option_and_then, option_map}
use Rattle.std.proofs.lemmas.Bool.{cases_Bool, eq-eqb}
use Rattle.wire_message.specs.Parameters.{Parameters}
use Rattle.wire_message.specs.Content.{Content}
use Rattle.part_handlers.specs.declared.table.Entry.{Entry}
use Rattle.part_handlers.specs.Runs.{Meaning}
use Rattle.spec_node.specs.declared.answer.Delivered.{Delivered}
use Rattle.spec_node.specs.declared.answer.Delivered.TheVariants as delivered
use Rattle.spec_node.specs.NodeStep.{OfDelivery}
use Rattle.spec_network.specs.World.{Event, WorldAnswer, OfNode, world_answer}
use Rattle.spec_network.specs.Plain.{PlainRequest, IsRequest, InRuns, is_among, reply_of, plain_of}
use Rattle.spec_network.specs.PlainStep.{RequestName}
use Rattle.spec_network.specs.Headline.{IsRanAnswer, request_comes}
use Rattle.base_lists.specs.Numbered.{element_at}
use Rattle.base_lists.proofs.Numbered.{numbered_nil}
use Rattle.spec_network.proofs.PlainReadings.{is_back_says, among_from}
use Rattle.node_rules.specs.EndpointLocal.{IsEndpointKept}
use Rattle.node_rules.specs.EndpointRules.{OtherCall, Records, at_the_opening, job_of}
use Rattle.node_rules.specs.declared.answer.Answer.{Answer}
use Rattle.law_transfers.specs.History.{end_of, Sometime, Runs}
use Rattle.law_transfers.specs.Chunks.{EndpointMoment, segment_at}
use Rattle.law_transfers.proofs.Happening.{Around, sometime_around, sometime_out, sometime_map, grown_after, RanAs}
use Rattle.law_transfers.proofs.Happening.{BackAs, runs_once, runs_happen, backs_once, backs_happen}
use Rattle.law_transfers.proofs.Stretches.{AreSound}
use Rattle.law_transfers.proofs.Landing.{writes_by}
use Rattle.law_messages.specs.Events.{after_all}
use Rattle.law_messages.proofs.Events.{sometime_pull, opening_all, all_holds, always_around}
use Rattle.law_messages.proofs.Requests.{ran_then, run_leaves, ran_by_then, reply_leaves}
use Rattle.node_atomics.specs.Asking.{batch_of}
use Rattle.node_atomics.specs.BatchRequests.{BatchRequest}
use Rattle.node_atomics.specs.Served.{HasBatches, ServesBatches, olds_of}
use Rattle.law_atomics.specs.Batches.{Acts, BlockComes, content_run, if_ran, ops_at, ops_of}
use Rattle.law_atomics.specs.AtomicLaws.{ActsThen, BatchesGo}
use Rattle.law_atomics.proofs.Asking.{asks_batch}
use Rattle.law_atomics.proofs.Serving.{request_left, reply_left, reply_with}

-- ---- the operations that run at an event

-- the answer says that a request ran
ran_is : {X : Type 0} (answer : Delivered) (found : Option X) → IsRanAnswer answer → if_ran answer found ≡ found
ran_is (delivered.Ran at) found ran = refl
ran_is (delivered.Notified at notification) found ran = refl
ran_is (delivered.Duplicate at) found ran = absurd ran.1
ran_is delivered.Stale found ran = absurd ran.1
ran_is (delivered.Returned to slot number) found ran = absurd ran.1
ran_is delivered.Late found ran = absurd ran.1
ran_is (delivered.Deferred lock) found ran = absurd ran.1
ran_is (delivered.Refused why) found ran = absurd ran.1

-- what runs at the target by the delivery of a request
content_here : (test : Bool) (answer : Delivered) (found : Option PlainRequest) (request : PlainRequest) → test ≡ true
    → IsRanAnswer answer → found ≡ Some request
    → (if test then if_ran answer (option_map (λ (r : PlainRequest). r.content) found) else None) ≡ Some request.content
content_here test answer found request here ran is =
    rw here (rw is (ran_is answer (Some request.content) ran))

ops_here : (settings : Parameters) (table : List (Option Entry)) (meaning : Meaning) (name : RequestName)
    (request : PlainRequest) (batch : BatchRequest) (moment : EndpointMoment)
    → batch_of settings request.content ≡ Some batch
    → (runs : Runs (job_of settings table meaning) name moment)
    → IsRequest (plain_of moment.before) name.from name.to name.number request
    → ops_at (job_of settings table meaning) moment.before moment.timed name.to ≡ batch.ops
ops_here settings table meaning name request batch moment says runs asked =
    let job = job_of settings table meaning in
    let plain = plain_of moment.before in
    let by_event : content_run job plain name.to moment.timed.event (world_answer job moment.before moment.timed)
    ≡ content_run job plain name.to (request_comes name) (OfNode (OfDelivery runs.answer))
    = ap (λ (event : Event OtherCall). content_run job plain name.to event
    (world_answer job moment.before moment.timed)) runs.event
    ∙ ap (λ (answer : WorldAnswer Answer). content_run job plain name.to (request_comes name) answer) runs.answered in
    let found = by_event ∙ content_here (name.to == name.to) runs.answer
    (element_at (plain.requests name.from name.to) name.number) request (eq-eqb name.to name.to refl) runs.ran asked in
    ap (λ (content : Option Content). ops_of (option_and_then (batch_of settings) content)) found ∙ ap ops_of says

-- ---- the request runs

-- the batch acts, and replies with what the words were
pub record ActsSo (settings : Parameters) (table : List (Option Entry)) (meaning : Meaning) (name : RequestName)
    (batch : BatchRequest) (last : Records) (olds : List ℕ) (moment : EndpointMoment) : Type 0 where
  pub acts : Acts (job_of settings table meaning) name batch olds moment
  pub reply : reply_of name.number ((plain_of last).runs name.from name.to) ≡ Some (reply_with batch olds)

pub acts_so : (settings : Parameters) (table : List (Option Entry)) (meaning : Meaning) (name : RequestName)
    (request : PlainRequest) (batch : BatchRequest) (last : Records) (moment : EndpointMoment)
    → HasBatches table → ServesBatches meaning → batch_of settings request.content ≡ Some batch
    → AreSound settings table meaning
    → Around (job_of settings table meaning) (IsEndpointKept settings) moment
    → end_of (job_of settings table meaning) moment ≡ last
    → IsRequest (plain_of last) name.from name.to name.number request
    → Runs (job_of settings table meaning) name moment
    → (olds : List ℕ) × ActsSo settings table meaning name batch last olds moment
acts_so settings table meaning name request batch last moment has serves says sound around is asked runs =
    let job = job_of settings table meaning in
    let it = ran_then settings table meaning name request last moment sound around is asked runs in
    let ran = run_leaves settings table meaning name request last moment sound around is asked runs in
    let segment = segment_at job moment.before name.to in
    let left = request_left settings table meaning ran.contact request.content batch name.to
    (moment.before name.to).local.core has serves (asks_batch settings request.content batch says)
    (around.holds.kept name.to).core in
    let olds = olds_of segment batch.ops in (
      olds,
      record {
        acts = record {
          runs = runs;
          found = refl;
          ops = ops_here settings table meaning name request batch moment says runs
              (it.first.fresh.is ∙ ap Some it.same);
          writes = ran.writes ∙ left.writes;
        };
        reply = subst (λ (world : Records). reply_of name.number ((plain_of world).runs name.from name.to)
            ≡ Some (reply_with batch olds)) is
            ((grown_after job (IsEndpointKept settings) moment sound around).runs name.from name.to name.number
            (reply_with batch olds) (ran.reply ∙ ap Some left.reply));
      },
    )

-- ---- all of it

nothing_ran : (settings : Parameters) (name : RequestName)
    → InRuns (plain_of (at_the_opening settings)) name.from name.to name.number → ⊥
nothing_ran settings name ran = true≢false (sym ran)

nothing_back : (settings : Parameters) (name : RequestName)
    → (plain_of (at_the_opening settings)).back name.from name.to name.number ≡ true → ⊥
nothing_back settings name back =
    let there = is_back_says (element_at [] name.number) back in
    numbered_nil name.number there.0 there.1

pub batches_go : (settings : Parameters) (table : List (Option Entry)) (meaning : Meaning)
    → AreSound settings table meaning → HasBatches table → ServesBatches meaning
    → BatchesGo (job_of settings table meaning)
batches_go settings table meaning sound has serves events name among it =
    let job = job_of settings table meaning in
    let kept = IsEndpointKept settings in
    let opening = at_the_opening settings in
    let holds = opening_all settings table meaning in
    let last = after_all job events in
    let request = it.request in
    let batch = it.batch in
    record {
      acts = always_around settings table meaning (ActsThen job name batch) events sound among (λ moment around is runs.
          let so = acts_so settings table meaning name request batch last moment has serves it.asks sound around is
          it.accepted runs in
          (so.0, so.1.acts));
      at_most = elim (cases_Bool (is_among name.number ((plain_of last).runs name.from name.to))) [
        | inl ran ↦ inl (runs_once job kept events opening name sound among holds (nothing_ran settings name) ran)
        | inr not_ran ↦ inr (λ sometime. true≢false (sym (sometime_out job _ _ events opening (λ moment so. so)
            (sometime_around job kept (Runs job name)
            (λ moment. InRuns (plain_of last) name.from name.to name.number) events opening sound among holds
            (λ moment around is runs. ran_by_then settings table meaning name last moment sound around is runs)
            sometime)) ∙ not_ran))
      ];
      done = λ back.
          let there = is_back_says _ back in
          let ran_there = ((all_holds settings table meaning events sound among).pair name.from name.to).back_ran
          name.number there.0 there.1 there.2 in
          let ran = among_from _ name.number ran_there.0 ran_there.1 in
          let runs : Sometime job (RanAs job name) events opening =
          elim (runs_happen job kept events opening name sound among holds ran)
          [ inl was ↦ absurd (nothing_ran settings name was) | inr now ↦ now ] in
          let acted = sometime_pull job (ActsSo settings table meaning name batch last) events opening
          (sometime_around job kept (RanAs job name)
          (λ moment. (olds : List ℕ) × ActsSo settings table meaning name batch last olds moment) events opening
          sound among holds
          (λ moment around is ran_as. acts_so settings table meaning name request batch last moment has serves it.asks
          sound around is it.accepted ran_as.runs) runs) in
          let olds = acted.0 in
          let reply = sometime_out job (ActsSo settings table meaning name batch last olds) _ events opening
          (λ moment so. so.reply) acted.1 in
          let backs : Sometime job (BackAs job name) events opening =
          elim (backs_happen job kept events opening name sound among holds back)
          [ inl was ↦ absurd (nothing_back settings name was) | inr now ↦ now ] in
          record {
            olds = olds;
            once = runs_once job kept events opening name sound among holds (nothing_ran settings name) ran;
            acts = sometime_map job (ActsSo settings table meaning name batch last olds)
                (Acts job name batch olds) events opening (λ moment so. so.acts) acted.1;
            back = backs_once job kept events opening name sound among holds (nothing_back settings name) back;
            block = sometime_around job kept (BackAs job name) (BlockComes job name batch olds) events opening sound
                among holds
                (λ moment around is back_as.
                let so = reply_leaves settings table meaning name (reply_with batch olds) last moment sound around is
                reply back_as.comes in (
                  back_as.comes,
                  writes_by settings table meaning name.from _ moment sound around
                      (so.writes ∙ reply_left settings table meaning so.contact batch olds
                      (moment.before name.from).local.core serves),
                )) backs;
          };
    }
