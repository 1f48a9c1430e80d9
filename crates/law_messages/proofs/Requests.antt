-- What a request leaves where it runs, and its reply where it comes back: of any request with a name, at a moment of a
-- run of which the invariant holds.
use Rattle.std.proofs.Common.{◌≡◌, inl, inr, ℕ, false, List, [], ◌∷◌, ◌++◌, Option, Some, refl}
use Rattle.std.proofs.Common.{sym, ap, ◌∙◌, subst, eqb}
use Rattle.std.proofs.lemmas.Bool.{cases_Bool, or_parts, eq-eqb}
use Rattle.std.proofs.lemmas.Option.{same_Some}
use Rattle.wire_message.specs.Parameters.{Parameters}
use Rattle.wire_message.specs.Content.{Content}
use Rattle.part_handlers.specs.declared.table.Entry.{Entry}
use Rattle.part_handlers.specs.Runs.{Meaning}
use Rattle.base_lists.proofs.Put.{put_same}
use Rattle.spec_network.specs.Plain.{Plain, PlainRequest, RunReply, IsRequest, InRuns, is_among, reply_of, plain_of}
use Rattle.spec_network.specs.PlainStep.{RequestName, at_target, at_origin, RunsFirst}
use Rattle.spec_network.proofs.PlainGrowing.{pair_same, in_replied, ran_stays}
use Rattle.node_core.specs.HandlerRuns.{handlers_of, run_request, run_reply}
use Rattle.node_rules.specs.EndpointLocal.{EndpointLocal, IsEndpointKept}
use Rattle.node_rules.specs.EndpointRules.{Records, job_of}
use Rattle.law_transfers.specs.History.{after_in, end_of, Runs, ComesBack}
use Rattle.law_transfers.specs.Chunks.{EndpointMoment, writes_at}
use Rattle.law_transfers.proofs.Happening.{Around, grown_after, grown_before, runs_first, takes_first}
use Rattle.law_transfers.proofs.Stretches.{AreSound}
use Rattle.law_messages.specs.Requests.{RunLeaves, ReplyLeaves}

-- ---- the reply of a request that runs

reply_new : (runs : List RunReply) (number : ℕ) (reply : Content) → is_among number runs ≡ false
    → reply_of number (runs ++ record { number = number; reply = reply } ∷ []) ≡ Some reply
reply_new [] number reply none = rw (eq-eqb number number refl) refl
reply_new (first ∷ later) number reply none =
    let parts = or_parts (eqb first.number number) (is_among number later) none in
    rw parts.0 (reply_new later number reply parts.1)

-- ---- a request runs

-- what is known of it then: what ran is what was asked
pub record RanThen (settings : Parameters) (table : List (Option Entry)) (meaning : Meaning) (name : RequestName)
    (request : PlainRequest) (moment : EndpointMoment) (runs : Runs (job_of settings table meaning) name moment)
    : Type 0 where
  pub first : RunsFirst (job_of settings table meaning).behaviour.messages (plain_of moment.before) name runs.answer
      (plain_of (after_in (job_of settings table meaning) moment))
  pub same : first.request ≡ request

pub ran_then : (settings : Parameters) (table : List (Option Entry)) (meaning : Meaning) (name : RequestName)
    (request : PlainRequest) (last : Records) (moment : EndpointMoment) → AreSound settings table meaning
    → Around (job_of settings table meaning) (IsEndpointKept settings) moment
    → end_of (job_of settings table meaning) moment ≡ last
    → IsRequest (plain_of last) name.from name.to name.number request
    → (runs : Runs (job_of settings table meaning) name moment)
    → RanThen settings table meaning name request moment runs
ran_then settings table meaning name request last moment sound around is asked runs =
    let job = job_of settings table meaning in
    let first = runs_first job (IsEndpointKept settings) moment.before moment.timed name runs.answer sound
    around.holds runs.ran runs.event runs.answered in
    let there = subst (λ (world : Records). IsRequest (plain_of world) name.from name.to name.number first.request) is
    ((grown_before job (IsEndpointKept settings) moment sound around).requests name.from name.to name.number
    first.request first.fresh.is) in
    record { first = first; same = same_Some _ _ (sym there ∙ asked) }

-- what its target keeps afterwards, and its reply
pub run_leaves : (settings : Parameters) (table : List (Option Entry)) (meaning : Meaning) (name : RequestName)
    (request : PlainRequest) (last : Records) (moment : EndpointMoment) → AreSound settings table meaning
    → Around (job_of settings table meaning) (IsEndpointKept settings) moment
    → end_of (job_of settings table meaning) moment ≡ last
    → IsRequest (plain_of last) name.from name.to name.number request
    → Runs (job_of settings table meaning) name moment
    → RunLeaves settings table meaning name request.content moment
run_leaves settings table meaning name request last moment sound around is asked runs =
    let job = job_of settings table meaning in
    let it = ran_then settings table meaning name request last moment sound around is asked runs in
    let first = it.first in
    let contact = at_target name first.request in
    let handlers = handlers_of settings table meaning in
    let core = (moment.before name.to).local.core in
    let says : first.request.content ≡ request.content = ap (λ (l : PlainRequest). l.content) it.same in
    let out = run_request handlers contact first.request.content core in
    let before = (plain_of moment.before).runs name.from name.to in
    let new : is_among name.number before ≡ false = elim (cases_Bool (is_among name.number before))
    [ inl was ↦ absurd (first.fresh.new was) | inr isnt ↦ isnt ] in
    let replied : reply_of name.number ((plain_of (after_in job moment)).runs name.from name.to) ≡ Some out.1
    = ap (λ (p : Plain EndpointLocal). reply_of name.number (p.runs name.from name.to)) first.leaves
    ∙ (ap (reply_of name.number) (pair_same (plain_of moment.before).runs name.from name.to
    (before ++ record { number = name.number; reply = out.1 } ∷ []))
    ∙ reply_new before name.number out.1 new) in
    let written : writes_at (after_in job moment) name.to ≡ out.0.writes
    = ap (λ (p : Plain EndpointLocal). (p.local name.to).core.writes) first.leaves
    ∙ ap (λ (l : EndpointLocal). l.core.writes) (put_same (plain_of moment.before).local name.to _) in
    record {
      contact = contact;
      writes = written ∙ ap (λ content. (run_request handlers contact content core).0.writes) says;
      reply = replied ∙ ap (λ content. Some (run_request handlers contact content core).1) says;
    }

-- at the end it is among the runs
pub ran_by_then : (settings : Parameters) (table : List (Option Entry)) (meaning : Meaning) (name : RequestName)
    (last : Records) (moment : EndpointMoment) → AreSound settings table meaning
    → Around (job_of settings table meaning) (IsEndpointKept settings) moment
    → end_of (job_of settings table meaning) moment ≡ last
    → Runs (job_of settings table meaning) name moment
    → InRuns (plain_of last) name.from name.to name.number
ran_by_then settings table meaning name last moment sound around is runs =
    let job = job_of settings table meaning in
    let first = runs_first job (IsEndpointKept settings) moment.before moment.timed name runs.answer sound
    around.holds runs.ran runs.event runs.answered in
    let out = job.behaviour.messages.run (at_target name first.request) first.request.content
    ((plain_of moment.before).local name.to) in
    let then : InRuns (plain_of (after_in job moment)) name.from name.to name.number
    = subst (λ (q : Plain EndpointLocal). InRuns q name.from name.to name.number) (sym first.leaves)
    (in_replied (plain_of moment.before) name.from name.to (record { number = name.number; reply = out.1 }) out.0) in
    subst (λ (world : Records). InRuns (plain_of world) name.from name.to name.number) is
    (ran_stays (plain_of (after_in job moment)) (plain_of (end_of job moment)) name.from name.to name.number
    (grown_after job (IsEndpointKept settings) moment sound around) then)

-- ---- its reply comes back

-- what the requester keeps afterwards, where this is the reply that stands among the runs in the end
pub reply_leaves : (settings : Parameters) (table : List (Option Entry)) (meaning : Meaning) (name : RequestName)
    (reply : Content) (last : Records) (moment : EndpointMoment) → AreSound settings table meaning
    → Around (job_of settings table meaning) (IsEndpointKept settings) moment
    → end_of (job_of settings table meaning) moment ≡ last
    → reply_of name.number ((plain_of last).runs name.from name.to) ≡ Some reply
    → ComesBack (job_of settings table meaning) name moment
    → ReplyLeaves settings table meaning name reply moment
reply_leaves settings table meaning name reply last moment sound around is replied comes =
    let job = job_of settings table meaning in
    let handlers = handlers_of settings table meaning in
    let takes = takes_first job (IsEndpointKept settings) moment.before moment.timed name comes.answer sound
    around.holds comes.returned comes.event comes.answered in
    let contact = at_origin name takes.request in
    let core = (moment.before name.from).local.core in
    let at_end = subst (λ (world : Records).
    reply_of name.number ((plain_of world).runs name.from name.to) ≡ Some takes.reply) is
    ((grown_before job (IsEndpointKept settings) moment sound around).runs name.from name.to name.number takes.reply
    takes.to_take.reply_is) in
    let says : takes.reply ≡ reply = same_Some _ _ (sym at_end ∙ replied) in
    record {
      contact = contact;
      writes = ap (λ (p : Plain EndpointLocal). (p.local name.from).core.writes) takes.leaves
          ∙ (ap (λ (l : EndpointLocal). l.core.writes) (put_same (plain_of moment.before).local name.from _)
          ∙ ap (λ content. (run_reply handlers contact content core).writes) says);
    }
