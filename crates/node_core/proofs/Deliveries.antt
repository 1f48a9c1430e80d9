-- What the code does with a message that is delivered, as steps of every record for which a core stands.
use Rattle.std.proofs.Common.{◌≡◌, ◌≢◌, ◌⊎◌, inl, inr, ℕ, ◌<◌, true, List, length, Option, None, Some}
use Rattle.std.proofs.Common.{refl, sym, ap, ap₂, ◌∙◌, subst, arith}
use Rattle.std.specs.Prelude.{if◌then◌else◌}
use Rattle.std.proofs.lemmas.Bool.Decides.{nat_tests}
use Rattle.std.proofs.lemmas.Bool.{cases_Bool}
use Rattle.std.proofs.lemmas.Option.{same_Some}
use Rattle.wire_message.specs.Message.{Message, IsMessage, Spells, spelling, code, is_ack}
use Rattle.wire_message.specs.Content.{content_of}
use Rattle.wire_message.specs.Refusals.{first_refusal}
use Rattle.wire_message.specs.declared.refused.Refused.{Refused}
use Rattle.part_window.specs.SlotsState.{Vacant, with_slot}
use Rattle.part_window.specs.RepliesState.{with_reply}
use Rattle.part_window.specs.declared.replies.Judged.TheVariants as judged
use Rattle.part_handlers.specs.declared.rules.Role.TheVariants as role
use Rattle.spec_node.specs.declared.answer.Why.{Why}
use Rattle.spec_node.specs.declared.answer.Why.TheVariants as why
use Rattle.spec_node.specs.declared.answer.Delivered.{Delivered}
use Rattle.spec_node.specs.declared.answer.Delivered.TheVariants as delivered
use Rattle.spec_node.specs.Record.{Node, element_at}
use Rattle.spec_node.specs.Requests.{is_open}
use Rattle.spec_node.specs.Executed.{greatest}
use Rattle.spec_node.specs.Behaviour.{is_request}
use Rattle.spec_node.specs.NodeStep.{NodeAnswer, OfDelivery, Comes}
use Rattle.spec_node.specs.Step.{verdict_of_number as judged_answer, taken_back, unless_refused, unless_waiting, with_local}
use Rattle.spec_node.specs.Step.{Waits as WaitsVerdict}
use Rattle.spec_node.specs.Step.{deliver_answer, after_delivery}
use Rattle.spec_node.specs.Step.{address_fault, first_why, with_run, with_back}
use Rattle.spec_node.specs.Step.{Verdict, Refused as RefusedVerdict, Duplicated, Passed, Runs as RunsVerdict, Missed}
use Rattle.spec_node.specs.Step.{Returns as ReturnsVerdict, verdict, answer_by, with_sender}
use Rattle.wire_message.specs.Parameters.{credits_of}
use Rattle.node_core.specs.Kept.{Local, start_from, with_writes}
use Rattle.part_handlers.specs.Runs.{Meaning, IsLawfulMeaning}
use Rattle.part_handlers.specs.declared.rules.Role.{Role}
use Rattle.part_handlers.specs.declared.lock_answer.Held.{Held}
use Rattle.node_core.specs.WouldDeliver.{WouldAnswer, WouldDeliver, WouldRun}
use Rattle.node_core.proofs.Landings.{content_fits, StaysInside}
use Rattle.node_core.specs.ClientRules.{content_refusal, awaited_lock}
use Rattle.node_core.specs.HandlerRuns.{left_by_run, landing, outcome, reply_or_ack, run_request}
use Rattle.node_core.specs.HandlerRuns.{run_reply}
use Rattle.node_core.specs.CoreState.{CoreState}
use Rattle.node_core.specs.CoreContracts.{IsSameNode}
use Rattle.node_core.specs.Stands.{CoreStands}
use Rattle.node_core.specs.CoreContracts.{CoreTold, CoreSteps, Delivers}
use Rattle.node_core.specs.CoreStep.{delivered_outcome, landed_core, lock_at, DeliversMessage}
use Rattle.node_core.specs.CoreStep.{IsOurs, IsOurRequest, IsOurReply, IsNewRequest, IsOpenReply, Runs, RunsNew}
use Rattle.node_core.specs.CoreStep.{message_refusal, with_reply_run}
use Rattle.node_core.specs.CoreStep.{answer_message, handlers_at}
use Rattle.node_core.proofs.CoreStands.{segment_stand, node_taken}
use Rattle.node_core.proofs.CoreStands.{node_not_taken, node_returns, node_judged, node_runs}
use Rattle.node_core.proofs.CoreSteps.{rules_at, site_at, same_core, same_start, ran_core, ran_stands, ran_sized}
use Rattle.node_core.proofs.CoreSteps.{reply_run_stands}

-- how a core tells a delivery
abbrev of_delivery : Delivered → NodeAnswer CoreTold
of_delivery a = OfDelivery a

-- ---- what becomes of a message

-- what it says isn't refused either
first_second : (a b : Option Why) → first_why a b ≡ None → b ≡ None
first_second None b h = h
first_second (Some reason) b h = absurd (cc)

-- a message comes from another node
from_other : (e : CoreState) (m : Message) → IsOurs e m → IsMessage m → m.from ≢ e.me
from_other e m O M same = M.apart (same ∙ sym O.to)

-- what a message that isn't refused writes, beside what a client's handler does, stays inside
pub message_fits : (e : CoreState) (m : Message) → IsMessage m → message_refusal e m ≡ None
    → StaysInside e.settings.segment (content_of m)
unfolding message_refusal
message_fits e m spelled h =
    content_fits e.settings e.table (content_of m) spelled.ack_handler
    (first_second (address_fault e.settings e.me m) (content_refusal e.settings e.table (content_of m)) h)

-- what becomes of a message that isn't refused, by the lock for which it waits
abbrev pub taken_verdict : Node Local → Message → Option ℕ → Verdict
taken_verdict r m lock =
    if is_request m.kind then judged_answer m.number (greatest m.slot (r.ran m.from)) lock else taken_back m.slot
    (element_at (r.asked m.from) m.number) lock

-- the record of a core waits for the same lock
waits_alike : (e : CoreState) (r : Node Local) (m : Message) → CoreStands e r
    → lock_at e m ≡ awaited_lock e.table (content_of m) r.local.locks
waits_alike e r m S = ap (λ (held : List Held). awaited_lock e.table (content_of m) held) S.locks_are

-- of a request that isn't refused
request_verdict : (meaning : Meaning) (e : CoreState) (r : Node Local) (m : Message) (v : Verdict) → IsOurRequest e m
    → CoreStands e r → judged_answer m.number (greatest m.slot (r.ran m.from)) (lock_at e m) ≡ v
    → verdict (site_at meaning e) r m ≡ v
unfolding message_refusal
request_verdict meaning e r m v O S is =
    ap (λ x. unless_refused x (taken_verdict r m (awaited_lock e.table (content_of m) r.local.locks))) O.ours
    ∙ (ap (λ lock. taken_verdict r m lock) (sym (waits_alike e r m S))
    ∙ (ap (λ b. if b then judged_answer m.number (greatest m.slot (r.ran m.from)) (lock_at e m) else taken_back m.slot
    (element_at (r.asked m.from) m.number) (lock_at e m)) O.request ∙ is))

-- of a reply that isn't refused
reply_verdict : (meaning : Meaning) (e : CoreState) (r : Node Local) (m : Message) (v : Verdict) → IsOurReply e m
    → CoreStands e r → taken_back m.slot (element_at (r.asked m.from) m.number) (lock_at e m) ≡ v
    → verdict (site_at meaning e) r m ≡ v
unfolding message_refusal
reply_verdict meaning e r m v O S is =
    ap (λ x. unless_refused x (taken_verdict r m (awaited_lock e.table (content_of m) r.local.locks))) O.ours
    ∙ (ap (λ lock. taken_verdict r m lock) (sym (waits_alike e r m S))
    ∙ (ap (λ b. if b then judged_answer m.number (greatest m.slot (r.ran m.from)) (lock_at e m) else taken_back m.slot
    (element_at (r.asked m.from) m.number) (lock_at e m)) O.reply ∙ is))

-- of a message that is refused
refused_verdict : (meaning : Meaning) (e : CoreState) (r : Node Local) (m : Message) (reason : Why)
    → message_refusal e m ≡ Some reason → verdict (site_at meaning e) r m ≡ RefusedVerdict reason
unfolding message_refusal
refused_verdict meaning e r m reason is =
    ap (λ x. unless_refused x (taken_verdict r m (awaited_lock e.table (content_of m) r.local.locks))) is

-- a greater number is run, or waits
judged_new : (m : Message) (last : ℕ) (lock : Option ℕ) → last < m.number
    → judged_answer m.number last lock ≡ unless_waiting lock RunsVerdict
judged_new m last lock l = grind (arith, nat_tests)

-- the greatest number came again
judged_duplicate : (m : Message) (last : ℕ) (lock : Option ℕ) → m.number ≡ last
    → judged_answer m.number last lock ≡ Duplicated
judged_duplicate m last lock l = grind (arith, nat_tests)

-- a smaller number is stale
judged_stale : (m : Message) (last : ℕ) (lock : Option ℕ) → m.number < last
    → judged_answer m.number last lock ≡ Passed
judged_stale m last lock l = grind (arith, nat_tests)

-- where this becomes of a message: the answer, and what stands
by_verdict : (meaning : Meaning) (e new : CoreState) (r : Node Local) (m : Message) (v : Verdict) (a : Delivered)
    → verdict (site_at meaning e) r m ≡ v → a ≡ answer_by (rules_at meaning e) m v
    → CoreStands new (after_delivery (site_at meaning e) r m v)
    → (a ≡ deliver_answer (site_at meaning e) r m) × CoreStands new
    (after_delivery (site_at meaning e) r m (verdict (site_at meaning e) r m))
by_verdict meaning e new r m v a is answer stands = (
  answer ∙ ap (answer_by (rules_at meaning e) m) (sym is),
  subst
      (λ x. CoreStands new (after_delivery (site_at meaning e) r m x)) (sym is) stands,
)

-- a message that is delivered: what it is answered, and what it leaves
pub record MessageStep (meaning : Meaning) (e : CoreState) (m : Message) (a : Delivered) (new : CoreState) : Type 0
  where
    pub same : IsSameNode e new
    pub steps : (r : Node Local) → CoreStands e r
        → (a ≡ deliver_answer (site_at meaning e) r m) × CoreStands new
        (after_delivery (site_at meaning e) r m (verdict (site_at meaning e) r m))

-- a slot of the pair of a request, and of a reply
request_slot_in : (e : CoreState) (m : Message) → IsOurRequest e m → m.slot < credits_of e.settings m.from e.me
request_slot_in e m O =
    subst (λ b. m.slot < (if b then credits_of e.settings m.from e.me else credits_of e.settings e.me m.from))
    O.request O.known.slot

reply_slot_in : (e : CoreState) (m : Message) → IsOurReply e m → m.slot < credits_of e.settings e.me m.from
reply_slot_in e m O =
    subst (λ b. m.slot < (if b then credits_of e.settings m.from e.me else credits_of e.settings e.me m.from)) O.reply
    O.known.slot

-- a request that is new in its slot landed and ran
runs_stand : (meaning : Meaning) (e : CoreState) (m : Message) (new : CoreState) (r : Node Local)
    → IsLawfulMeaning meaning → IsOurRequest e m
    → Runs meaning e m new → CoreStands e r → greatest m.slot (r.ran m.from) < m.number
    → CoreStands new (with_run r (with_sender e.me m) (content_of m)
    (run_request (handlers_at meaning e) (with_sender e.me m) (content_of m) r.local))
runs_stand meaning e m new r lawful O R S above =
    let ours = O.known in
    let o = delivered_outcome meaning e m in
    let answer = answer_message e (with_sender e.me m) o in
    let ran : CoreState = record e {
      replies = with_reply e.replies m.from m.slot m.number (spelling answer);
    } in
    let at = with_sender e.me m in
    let N = node_runs m.from m.slot m.number e r (content_of m) (reply_or_ack o.reply) ran S ours.from
    (from_other e m ours O.spelled) (request_slot_in e m O) above R.spelled refl in
    let stands = ran_stands meaning ran (with_run r at (content_of m) (r.local, reply_or_ack o.reply))
    role.Request at (content_of m) lawful N (message_fits e m O.spelled O.ours) in
    let landed = with_writes r.local (landing (content_of m)) in
    let L = segment_stand e r (landing (content_of m)) S (message_fits e m O.spelled O.ours).landed in
    rw R.kept (subst (λ reply. CoreStands (record (ran_core meaning e role.Request at (content_of m)) {
      replies = with_reply e.replies m.from m.slot m.number (spelling answer);
    }) (with_run r at (content_of m) (
      left_by_run role.Request (outcome (handlers_at meaning e) role.Request at
          (content_of m) (start_from e.settings landed)) landed,
      reply,
    )))
    (ap (λ start. reply_or_ack (outcome (handlers_at meaning e) role.Request at (content_of m) start).reply)
    (same_start (landed_core e (content_of m)) (with_local r landed) L)) stands)

-- the reply to a request that isn't back came
returns_stand : (meaning : Meaning) (e : CoreState) (m : Message) (new : CoreState) (r : Node Local)
    → IsLawfulMeaning meaning → IsOurReply e m
    → new ≡ with_reply_run meaning
    (record e { requests = with_slot e.requests m.from m.slot Vacant }) m → CoreStands e r
    → is_open m.slot (element_at (r.asked m.from) m.number) ≡ true
    → CoreStands new (with_back r m.from m.number
    (run_reply (handlers_at meaning e) (with_sender e.me m) (content_of m) r.local))
returns_stand meaning e m new r lawful O is S open_ =
    let ours = O.known in
    let back : CoreState = record e { requests = with_slot e.requests m.from m.slot Vacant } in
    let N = node_returns m.from m.slot m.number e r back S ours.from (from_other e m ours O.spelled)
    (reply_slot_in e m O) open_ refl in
    reply_run_stands meaning back (with_back r m.from m.number r.local) (with_sender e.me m) (content_of m) new
    lawful N (message_fits e m O.spelled O.ours) (λ t. is ∙ rw t refl) (λ f. is ∙ rw f refl)

-- a new request, or an open reply, that waits for a lock
deferred_step : (meaning : Meaning) (e : CoreState) (m : Message) (lock : ℕ) (new : CoreState)
    → IsNewRequest e m ⊎ IsOpenReply e m → lock_at e m ≡ Some lock → new ≡ e
    → MessageStep meaning e m (delivered.Deferred lock) new
deferred_step meaning e m lock new (inl N) waits is = record {
  same = same_core e new is;
  steps = λ r S.
      let ours = N.ours.known in
      let above : greatest m.slot (r.ran m.from) < m.number = node_judged m.from m.slot m.number e r judged.New S
      ours.from (from_other e m ours N.ours.spelled) (request_slot_in e m N.ours) N.new in
      by_verdict meaning e new r m (WaitsVerdict lock) _
      (request_verdict meaning e r m _ N.ours S (judged_new m (greatest m.slot (r.ran m.from)) (lock_at e m) above
      ∙ ap (λ one. unless_waiting one RunsVerdict) waits)) refl (rw is S);
}
deferred_step meaning e m lock new (inr N) waits is = record {
  same = same_core e new is;
  steps = λ r S.
      let ours = N.ours.known in
      let open_ = node_taken m.from m.slot m.number e r S ours.from (from_other e m ours N.ours.spelled)
      (reply_slot_in e m N.ours) N.taken in
      by_verdict meaning e new r m (WaitsVerdict lock) _
      (reply_verdict meaning e r m _ N.ours S (rw open_ (ap (λ one. unless_waiting one ReturnsVerdict) waits))) refl
      (rw is S);
}

-- the segment of a core after a message landed and ran is as long as before
same_ran : (meaning : Meaning) (e v : CoreState) (m : Message) (which : Role) → IsLawfulMeaning meaning
    → length e.segment ≡ e.settings.segment → StaysInside e.settings.segment (content_of m)
    → length (ran_core meaning e which (with_sender e.me m) (content_of m)).segment ≡ length e.segment
same_ran meaning e v m which lawful sized fits =
    ran_sized meaning e which (with_sender e.me m) (content_of m) lawful sized fits ∙ sym sized

-- a new request ran, and was answered as its run is
new_step : (meaning : Meaning) (e : CoreState) (m : Message) (a : Delivered) (new : CoreState)
    → IsLawfulMeaning meaning → length e.segment ≡ e.settings.segment
    → RunsNew meaning e m a new → MessageStep meaning e m a new
new_step meaning e m a new lawful sized h =
    let O = h.request.ours in
    record {
      same = rw h.ran.kept (record {
        settings = refl;
        me_is = refl;
        table = refl;
        segment_length = same_ran meaning e e m role.Request lawful sized (message_fits e m O.spelled O.ours);
      });
      steps = λ r S.
          let ours = O.known in
          let above : greatest m.slot (r.ran m.from) < m.number = node_judged m.from m.slot m.number e r judged.New S
          ours.from (from_other e m ours O.spelled) (request_slot_in e m O) h.request.new in
          by_verdict meaning e new r m RunsVerdict _
          (request_verdict meaning e r m _ O S (judged_new m (greatest m.slot (r.ran m.from)) (lock_at e m) above
          ∙ ap (λ one. unless_waiting one RunsVerdict) h.free))
          h.answer_is (runs_stand meaning e m new r lawful O h.ran S above);
    }

-- by what the code answered
pub message_step : (meaning : Meaning) (e : CoreState) (m : Message) (a : Delivered) (new : CoreState)
    → IsLawfulMeaning meaning → length e.segment ≡ e.settings.segment
    → DeliversMessage meaning e m a new → MessageStep meaning e m a new
message_step meaning e m (delivered.Ran at) new lawful sized h =
    new_step meaning e m (delivered.Ran at) new lawful sized h
message_step meaning e m (delivered.Notified at notification) new lawful sized h =
    new_step meaning e m (delivered.Notified at notification) new lawful sized h
message_step meaning e m (delivered.Duplicate at) new lawful sized h = record {
  same = same_core e new h.3;
  steps = λ r S.
      let ours = h.0.known in
      let same = node_judged m.from m.slot m.number e r judged.Duplicate S ours.from (from_other e m ours h.0.spelled)
      (request_slot_in e m h.0) h.2 in
      by_verdict meaning e new r m Duplicated _
      (request_verdict meaning e r m _ h.0 S (judged_duplicate m (greatest m.slot (r.ran m.from)) (lock_at e m) same))
      (ap delivered.Duplicate h.1) (rw h.3 S);
}
message_step meaning e m delivered.Stale new lawful sized h = record {
  same = same_core e new h.2;
  steps = λ r S.
      let ours = h.0.known in
      let below = node_judged m.from m.slot m.number e r judged.Stale S ours.from (from_other e m ours h.0.spelled)
      (request_slot_in e m h.0) h.1 in
      by_verdict meaning e new r m Passed _
      (request_verdict meaning e r m _ h.0 S (judged_stale m (greatest m.slot (r.ran m.from)) (lock_at e m) below))
      refl (rw h.2 S);
}
message_step meaning e m (delivered.Returned to slot number) new lawful sized h = record {
  same =
      rw h.5 (same_run meaning e (record e { requests = with_slot e.requests m.from m.slot Vacant })
      m (record { settings = refl; me_is = refl; table = refl; segment_length = refl }) lawful sized
      (message_fits e m h.0.ours.spelled h.0.ours.ours));
  steps = λ r S.
      let ours = h.0.ours.known in
      let open_ = node_taken m.from m.slot m.number e r S ours.from (from_other e m ours h.0.ours.spelled)
      (reply_slot_in e m h.0.ours) h.0.taken in
      by_verdict meaning e new r m ReturnsVerdict _
      (reply_verdict meaning e r m _ h.0.ours S
      (rw open_ (ap (λ one. unless_waiting one ReturnsVerdict) h.4)))
      (ap₂ (λ p q. delivered.Returned p q number) h.1 h.2 ∙ ap (λ n. delivered.Returned m.from m.slot n) h.3)
      (returns_stand meaning e m new r lawful h.0.ours h.5 S open_);
}
  where
    same_run : (meaning : Meaning) (e v : CoreState) (m : Message) → IsSameNode e v → IsLawfulMeaning meaning
        → length v.segment ≡ v.settings.segment → StaysInside v.settings.segment (content_of m)
        → IsSameNode e (with_reply_run meaning v m)
    same_run meaning e v m h lawful sized fits =
        elim (cases_Bool (is_ack (code m.kind))) [
          | inl t ↦ rw t h
          | inr f ↦ rw f (record {
            settings = h.settings;
            me_is = h.me_is;
            table = h.table;
            segment_length =
                same_ran meaning v v m role.Reply lawful sized fits ∙ h.segment_length;
          })
        ]
message_step meaning e m delivered.Late new lawful sized h = record {
  same = same_core e new h.2;
  steps = λ r S.
      let ours = h.0.known in
      let not_open = node_not_taken m.from m.slot m.number e r S ours.from (from_other e m ours h.0.spelled)
      (reply_slot_in e m h.0) h.1 in
      by_verdict meaning e new r m Missed _ (reply_verdict meaning e r m _ h.0 S (rw not_open refl)) refl (rw h.2 S);
}
message_step meaning e m (delivered.Refused reason) new lawful sized h = record {
  same = same_core e new h.1;
  steps = λ r S. by_verdict meaning e new r m (RefusedVerdict reason) _ (refused_verdict meaning e r m reason h.0) refl
      (rw h.1 S);
}
message_step meaning e m (delivered.Deferred lock) new lawful sized h =
    deferred_step meaning e m lock new h.0 h.1 h.2

-- a message that is delivered, told as an event
message_comes : (meaning : Meaning) (e : CoreState) (m : Message) (a : Delivered) (new : CoreState) (now : ℕ)
    → MessageStep meaning e m a new
    → CoreSteps meaning e (record { now = now; event = Comes m; answer = OfDelivery a }) new
message_comes meaning e m a new now h =
    record { same = h.same; steps = λ r S. let it = h.steps r S in (ap of_delivery it.0, it.1) }

-- bytes that spell a message of the version, the only one that they spell
pub delivers_step : (meaning : Meaning) (e : CoreState) (version : ℕ) (bytes : List ℕ) (m : Message) (a : Delivered)
    (new : CoreState) → IsLawfulMeaning meaning → length e.segment ≡ e.settings.segment → version ≡ e.settings.version
    → ((other : Message) → other.version ≡ version → Spells other bytes → m ≡ other)
    → None ≡ first_refusal version bytes
    → DeliversMessage meaning e m a new → Delivers meaning e bytes a new
delivers_step meaning e version bytes m a new lawful sized same only fine h = record {
  same = (message_comes meaning e m a new 0 (message_step meaning e m a new lawful sized h)).same;
  comes = λ other is spelled now.
      subst (λ (n : Message). CoreSteps meaning e (record { now = now; event = Comes n; answer = OfDelivery a }) new)
      (only other (is ∙ sym same) spelled)
      (message_comes meaning e m a new now (message_step meaning e m a new lawful sized h));
  refused = λ reason is. absurd (some_none reason (fine ∙ ap (λ v. first_refusal v bytes) same ∙ is));
}
  where
    some_none : (reason : Refused) → None ≡ Some reason → ⊥
    some_none reason e = cc

-- bytes that are refused
pub refused_step : (meaning : Meaning) (e : CoreState) (version : ℕ) (bytes : List ℕ) (reason : Refused)
    → version ≡ e.settings.version
    → ((m : Message) → m.version ≡ version → Spells m bytes → ⊥)
    → Some reason ≡ first_refusal version bytes
    → Delivers meaning e bytes (delivered.Refused (why.Bytes reason)) e
refused_step meaning e version bytes reason same no_message first = record {
  same = record { settings = refl; me_is = refl; table = refl; segment_length = refl };
  comes = λ m is spelled. absurd (no_message m (is ∙ sym same) spelled);
  refused = λ other h. (
    ap (λ x. delivered.Refused (why.Bytes x))
        (same_Some reason other (first ∙ ap (λ v. first_refusal v bytes) same ∙ h)),
    refl,
  );
}

-- ---- what a delivery would be answered

-- where this becomes of a message: the answer
answer_by_verdict : (meaning : Meaning) (e : CoreState) (r : Node Local) (m : Message) (v : Verdict) (a : Delivered)
    → verdict (site_at meaning e) r m ≡ v → a ≡ answer_by (rules_at meaning e) m v
    → a ≡ deliver_answer (site_at meaning e) r m
answer_by_verdict meaning e r m v a is answer = answer ∙ ap (answer_by (rules_at meaning e) m) (sym is)

-- a new request would run
run_answered : (meaning : Meaning) (e : CoreState) (m : Message) (a : Delivered) (r : Node Local) → CoreStands e r
    → WouldRun e m a → a ≡ deliver_answer (site_at meaning e) r m
run_answered meaning e m a r S h =
    let O = h.request.ours in
    let ours = O.known in
    let above : greatest m.slot (r.ran m.from) < m.number = node_judged m.from m.slot m.number e r judged.New S
    ours.from (from_other e m ours O.spelled) (request_slot_in e m O) h.request.new in
    answer_by_verdict meaning e r m RunsVerdict a
    (request_verdict meaning e r m _ O S (judged_new m (greatest m.slot (r.ran m.from)) (lock_at e m) above
    ∙ ap (λ one. unless_waiting one RunsVerdict) h.free))
    h.answer_is

-- it would wait
wait_answered : (meaning : Meaning) (e : CoreState) (m : Message) (lock : ℕ) (r : Node Local) → CoreStands e r
    → IsNewRequest e m ⊎ IsOpenReply e m → lock_at e m ≡ Some lock
    → delivered.Deferred lock ≡ deliver_answer (site_at meaning e) r m
wait_answered meaning e m lock r S (inl request) waits =
    let O = request.ours in
    let above : greatest m.slot (r.ran m.from) < m.number = node_judged m.from m.slot m.number e r judged.New S
    O.known.from (from_other e m O.known O.spelled) (request_slot_in e m O) request.new in
    answer_by_verdict meaning e r m (WaitsVerdict lock) _
    (request_verdict meaning e r m _ O S (judged_new m (greatest m.slot (r.ran m.from)) (lock_at e m) above
    ∙ ap (λ one. unless_waiting one RunsVerdict) waits)) refl
wait_answered meaning e m lock r S (inr reply) waits =
    let O = reply.ours in
    let open_ = node_taken m.from m.slot m.number e r S O.known.from (from_other e m O.known O.spelled)
    (reply_slot_in e m O) reply.taken in
    answer_by_verdict meaning e r m (WaitsVerdict lock) _
    (reply_verdict meaning e r m _ O S (rw open_ (ap (λ one. unless_waiting one ReturnsVerdict) waits))) refl

-- by the answer
pub message_answered : (meaning : Meaning) (e : CoreState) (m : Message) (a : Delivered) (r : Node Local)
    → CoreStands e r
    → WouldAnswer e m a → a ≡ deliver_answer (site_at meaning e) r m
message_answered meaning e m (delivered.Ran at) r S h = run_answered meaning e m (delivered.Ran at) r S h
message_answered meaning e m (delivered.Notified at notification) r S h = run_answered meaning e m (delivered.Notified at notification) r S h
message_answered meaning e m (delivered.Duplicate at) r S h =
    let ours = h.0.known in
    let same = node_judged m.from m.slot m.number e r judged.Duplicate S ours.from (from_other e m ours h.0.spelled)
    (request_slot_in e m h.0) h.2 in
    answer_by_verdict meaning e r m Duplicated _
    (request_verdict meaning e r m _ h.0 S (judged_duplicate m (greatest m.slot (r.ran m.from)) (lock_at e m) same))
    (ap delivered.Duplicate h.1)
message_answered meaning e m delivered.Stale r S h =
    let ours = h.0.known in
    let below = node_judged m.from m.slot m.number e r judged.Stale S ours.from (from_other e m ours h.0.spelled)
    (request_slot_in e m h.0) h.1 in
    answer_by_verdict meaning e r m Passed _
    (request_verdict meaning e r m _ h.0 S (judged_stale m (greatest m.slot (r.ran m.from)) (lock_at e m) below)) refl
message_answered meaning e m (delivered.Returned to slot number) r S h =
    let ours = h.0.ours.known in
    let open_ = node_taken m.from m.slot m.number e r S ours.from (from_other e m ours h.0.ours.spelled)
    (reply_slot_in e m h.0.ours) h.0.taken in
    answer_by_verdict meaning e r m ReturnsVerdict _
    (reply_verdict meaning e r m _ h.0.ours S
    (rw open_ (ap (λ one. unless_waiting one ReturnsVerdict) h.4)))
    (ap₂ (λ p q. delivered.Returned p q number) h.1 h.2 ∙ ap (λ n. delivered.Returned m.from m.slot n) h.3)
message_answered meaning e m delivered.Late r S h =
    let ours = h.0.known in
    let not_open = node_not_taken m.from m.slot m.number e r S ours.from (from_other e m ours h.0.spelled)
    (reply_slot_in e m h.0) h.1 in
    answer_by_verdict meaning e r m Missed _ (reply_verdict meaning e r m _ h.0 S (rw not_open refl)) refl
message_answered meaning e m (delivered.Refused reason) r S h =
    answer_by_verdict meaning e r m (RefusedVerdict reason) _ (refused_verdict meaning e r m reason h) refl
message_answered meaning e m (delivered.Deferred lock) r S h = wait_answered meaning e m lock r S h.0 h.1

-- bytes that spell a message of the version, the only one that they spell
pub bytes_answered : (e : CoreState) (version : ℕ) (bytes : List ℕ) (m : Message) (a : Delivered)
    → version ≡ e.settings.version
    → ((other : Message) → other.version ≡ version → Spells other bytes → m ≡ other)
    → None ≡ first_refusal version bytes → WouldAnswer e m a → WouldDeliver e bytes a
bytes_answered e version bytes m a same only fine h = record {
  comes = λ other is spelled meaning r S.
      subst (λ (n : Message). a ≡ deliver_answer (site_at meaning e) r n)
      (only other (is ∙ sym same) spelled) (message_answered meaning e m a r S h);
  refused = λ reason is. absurd (no_some reason (fine ∙ ap (λ v. first_refusal v bytes) same ∙ is));
}
  where
    no_some : (reason : Refused) → None ≡ Some reason → ⊥
    no_some reason e = cc
