-- What the code's deeds are, as steps of every record for which a core stands.
use Rattle.std.proofs.Common.{◌≡◌, ◌≢◌, inl, inr, ℕ, ◌<◌, Bool, true, false, true≢false, Option, None, Some}
use Rattle.std.proofs.Common.{List, ◌∷◌, [], length, map, ℤ}
use Rattle.std.proofs.Common.{refl, sym, ap, ◌∙◌, subst, arith, eqb, eq-eqb, ne_eqb, eqb-true}
use Rattle.std.specs.Prelude.{Result, Ok, Err, nat_le, if◌then◌else◌, ◌==◌}
use Rattle.std.proofs.lemmas.Bool.Decides.{nat_tests}
use Rattle.std.proofs.lemmas.Bool.{cases_Bool, cases_lt}
use Rattle.std.proofs.lemmas.Option.{same_Some}
use Rattle.wire_message.specs.Message.{code, is_ack}
use Rattle.wire_message.specs.Content.{Content}
use Rattle.part_handlers.specs.declared.rules.CallKind.{CallKind}
use Rattle.part_handlers.specs.declared.rules.CallKind.TheVariants as call
use Rattle.part_handlers.specs.declared.rules.Context.TheVariants.{Thread}
use Rattle.part_handlers.specs.declared.rules.Forbidden.{Forbidden}
use Rattle.part_handlers.specs.declared.rules.Role.TheVariants as role
use Rattle.part_handlers.specs.declared.message.Which.{Which}
use Rattle.part_handlers.specs.Rules.{rule}
use Rattle.part_handlers.specs.Runs.{Frame, Start, Outcome, IsLawful, lock_refusal, unlock_refusal}
use Rattle.part_handlers.specs.LogState.{notes}
use Rattle.part_handlers.specs.declared.rules.Role.{Role}
use Rattle.part_handlers.specs.declared.rules.Fault.{Fault}
use Rattle.part_handlers.specs.declared.rules.Fault.TheVariants as fault
use Rattle.part_handlers.specs.declared.message.Which.TheVariants as which
use Rattle.part_handlers.specs.declared.lock_answer.Held.{Held}
use Rattle.part_handlers.specs.declared.lock_answer.Owner.TheVariants as owner
use Rattle.part_handlers.specs.declared.lock_answer.LockFault.{LockFault}
use Rattle.part_handlers.specs.declared.lock_answer.LockAnswer.{LockAnswer}
use Rattle.part_handlers.specs.declared.lock_answer.LockAnswer.TheVariants as lock_answers
use Rattle.part_handlers.specs.declared.lock_answer.UnlockAnswer.TheVariants as unlock_answers
use Rattle.part_handlers.specs.declared.lock_answer.UnlockAnswer.{UnlockAnswer}
use Rattle.part_handlers.specs.Locks.{holds, lock_answer, after_lock, unlock_answer, after_unlock}
use Rattle.part_segment.specs.Image.{AllFit}
use Rattle.part_segment.proofs.Images.{length-image, length-written_by}
use Rattle.wire_message.specs.Parameters.{Parameters}
use Rattle.spec_node.specs.declared.answer.Asked.{Asked as AskedAnswer}
use Rattle.spec_node.specs.declared.answer.Asked.TheVariants as asked
use Rattle.spec_node.specs.Record.{Node}
use Rattle.spec_node.specs.Behaviour.{Behaviour, Ask, Asking, Contact, Category, Short, Medium, Long}
use Rattle.spec_node.specs.Transition.{Transition}
use Rattle.spec_node.specs.NodeStep.{NodeAnswer, OfRequest, OfCall, Asks, Does}
use Rattle.spec_node.specs.Step.{Site, after_request, with_itself, with_local, request_answer}
use Rattle.spec_node.specs.Step.{unless_forbidden, unless_bad, claim_answer, own_answer, judged_local, ran_here}
use Rattle.spec_node.specs.Step.{with_request}
use Rattle.spec_node.specs.Credits.{limits_of}
use Rattle.node_core.specs.Kept.{Local, segment_of, start_from, with_writes, with_locks}
use Rattle.part_handlers.specs.Runs.{Meaning, IsLawfulMeaning}
use Rattle.node_core.specs.ClientRules.{rules, said_in, content_by, payload_in, asking_fault, busy_lock}
use Rattle.node_core.specs.ClientRules.{thread_violation, with_violations}
use Rattle.node_core.specs.HandlerRuns.{left_by_run, outcome, landing, reply_or_ack, run_request}
use Rattle.node_core.specs.HandlerRuns.{run_reply, frame_of_run, client_outcome}
use Rattle.node_core.specs.CoreState.{CoreState}
use Rattle.node_core.specs.Library.{Work, work_content}
use Rattle.node_core.specs.CoreContracts.{IsSameNode, AsksOwn}
use Rattle.node_core.specs.Stands.{CoreStands}
use Rattle.node_core.specs.CoreContracts.{Check, Lock, Unlock, Checked, Locked, Unlocked, CoreTold, CoreSteps}
use Rattle.node_core.specs.CoreStep.{AsksFor, AsksUnlessForbidden, AsksUnlessBad, AsksNode, AsksHere, Claims, claim_of}
use Rattle.node_core.specs.CoreStep.{after_judgement, asked_fault, thread_rule, said_at, start_at, handlers_at}
use Rattle.node_core.specs.CoreStep.{landed_core, request_outcome, with_outcome, with_reply_ran}
use Rattle.node_core.specs.CoreStep.{with_own_reply, with_own_run}
use Rattle.node_core.proofs.CoreStands.{noted_stands, locks_stand, segment_stand, outcome_stands}
use Rattle.node_core.proofs.CoreStands.{node_exhausted, node_not_yet, node_accepts}
use Rattle.node_core.specs.Library.{is_library}
use Rattle.node_core.proofs.Landings.{landing_fits, reply_kind_is, StaysInside, client_stays, client_reply, said_client}
use Rattle.node_core.proofs.Landings.{said_stays}
use Rattle.node_core.proofs.ThreadLocks.{lock_unheld, unlock_unheld}

-- ---- a core as a node

-- what it does with messages
abbrev pub rules_at : Meaning → CoreState → Behaviour Local
rules_at meaning e = rules e.settings e.table meaning

-- the core's node
abbrev pub site_at : Meaning → CoreState → Site Local
site_at meaning e = record { settings = e.settings; behaviour = rules_at meaning e; me = e.me }

-- answers, as a core tells them
abbrev of_request : AskedAnswer → NodeAnswer CoreTold
of_request a = OfRequest a

abbrev of_call : CoreTold → NodeAnswer CoreTold
of_call a = OfCall a

-- a request of a thread at its time, with its answer
abbrev asking : (now : ℕ) → Ask → AskedAnswer → Transition Ask AskedAnswer
asking now ask a = record { now = now; event = ask; answer = a }

-- a request of a thread
record Requests (meaning : Meaning) (old : CoreState) (now : ℕ) (ask : Ask) (a : AskedAnswer) (new : CoreState) :
    Type 0 where
  same : IsSameNode old new
  steps : (r : Node Local) → CoreStands old r
      → (a ≡ request_answer (site_at meaning old) r ask)
      × CoreStands new (after_request (site_at meaning old) r now ask a)

-- ---- the same node

-- nothing changed
pub same_core : (e new : CoreState) → new ≡ e → IsSameNode e new
same_core e new is = rw is (record { settings = refl; me_is = refl; table = refl; segment_length = refl })

-- ---- calls that the rule table judges

-- the rule table judges by the record as by the core
pub judged_alike : (e : CoreState) (r : Node Local) (thread : ℕ) (kind : CallKind) → CoreStands e r
    → thread_rule e thread kind ≡ rule (Thread thread) (holds (owner.Thread thread) r.local.locks) false kind
judged_alike e r thread kind S =
    ap (λ (held : List Held). rule (Thread thread) (holds (owner.Thread thread) held) false kind) S.locks_are

same_judged : (e : CoreState) (thread : ℕ) (result : Result (Unit {0}) Forbidden) (new : CoreState)
    → new ≡ after_judgement e thread result → IsSameNode e new
same_judged e thread (Ok allowed) new is = same_core e new is
same_judged e thread (Err forbidden) new is =
    rw is (record { settings = refl; me_is = refl; table = refl; segment_length = refl })

-- what a judgement leaves
judged_stands : (meaning : Meaning) (e : CoreState) (r : Node Local) (thread : ℕ)
    (result : Result (Unit {0}) Forbidden) (new : CoreState) → new ≡ after_judgement e thread result → CoreStands e r
    → CoreStands new (with_local r (judged_local (rules_at meaning e) thread result r.local))
judged_stands meaning e r thread (Ok allowed) new is S = rw is S
judged_stands meaning e r thread (Err forbidden) new is S =
    rw is (noted_stands e r (map (thread_violation thread) (fault.Rule forbidden ∷ [])) S)

-- a call that is judged is the record's step
pub checks_step : (meaning : Meaning) (e : CoreState) (now thread : ℕ) (kind : CallKind)
    (result : Result (Unit {0}) Forbidden) (new : CoreState) → result ≡ thread_rule e thread kind
    → new ≡ after_judgement e thread result
    → CoreSteps meaning e (record { now = now; event = Does thread (Check kind); answer = OfCall (Checked result) }) new
checks_step meaning e now thread kind result new judged is = record {
  same = same_judged e thread result new is;
  steps = λ r S.
      let told = judged ∙ judged_alike e r thread kind S in (
        ap (λ answer. of_call (Checked answer)) told,
        subst (λ answer. CoreStands new (with_local r (judged_local (rules_at meaning e) thread answer r.local))) told
            (judged_stands meaning e r thread result new is S),
      );
}

-- ---- locks

-- no handler holds a lock at the core
unheld : (e : CoreState) (r : Node Local) → CoreStands e r → holds owner.Handler e.locks ≡ false
unheld e r S = ap (holds owner.Handler) S.locks_are ∙ S.invariant_.kept.locks

-- a thread's call on locks, where no handler holds one before or after it
pub locks_step : (e : CoreState) (r : Node Local) (thread : ℕ) (held : List Held) (faults : List Fault)
    → CoreStands e r → holds owner.Handler held ≡ false
    → CoreStands (record e { locks = held; log = notes e.log (map (thread_violation thread) faults) })
    (with_local r (with_locks held (with_violations thread faults r.local)))
locks_step e r thread held faults S none = locks_stand e r held (map (thread_violation thread) faults) S none

-- a lock that a thread asked for, as the core answered
pub lock_step : (meaning : Meaning) (e : CoreState) (now thread lock : ℕ) (answer : LockAnswer) (new : CoreState)
    → answer ≡ lock_answer e.locks (owner.Thread thread) lock 0
    → new ≡ record e {
      locks = after_lock e.locks (owner.Thread thread) lock 0;
      log = notes e.log (map (thread_violation thread) (lock_refusal answer));
    }
    → CoreSteps meaning e (record { now = now; event = Does thread (Lock lock); answer = OfCall (Locked answer) }) new
lock_step meaning e now thread lock answer new told is = record {
  same = rw is (record { settings = refl; me_is = refl; table = refl; segment_length = refl });
  steps = λ r S.
      let same = told ∙ ap (λ (held : List Held). lock_answer held (owner.Thread thread) lock 0) S.locks_are in (
        ap (λ one. of_call (Locked one)) same,
        subst (λ one. CoreStands new (with_local r (with_locks (after_lock r.local.locks (owner.Thread thread) lock 0)
            (with_violations thread (lock_refusal one) r.local)))) same
            (subst (λ (held : List Held). CoreStands new (with_local r
            (with_locks (after_lock held (owner.Thread thread) lock 0)
            (with_violations thread (lock_refusal answer) r.local)))) S.locks_are
            (rw is (locks_step e r thread (after_lock e.locks (owner.Thread thread) lock 0) (lock_refusal answer) S
            (lock_unheld e.locks thread lock (unheld e r S))))),
      );
}

-- a lock that a thread gave back, as the core answered
pub unlock_step : (meaning : Meaning) (e : CoreState) (now thread lock : ℕ) (answer : UnlockAnswer) (new : CoreState)
    → answer ≡ unlock_answer e.locks (owner.Thread thread) lock
    → new ≡ record e {
      locks = after_unlock e.locks (owner.Thread thread) lock;
      log = notes e.log (map (thread_violation thread) (unlock_refusal answer));
    }
    → CoreSteps meaning e (record { now = now; event = Does thread (Unlock lock); answer = OfCall (Unlocked answer) })
    new
unlock_step meaning e now thread lock answer new told is = record {
  same = rw is (record { settings = refl; me_is = refl; table = refl; segment_length = refl });
  steps = λ r S.
      let same = told ∙ ap (λ (held : List Held). unlock_answer held (owner.Thread thread) lock) S.locks_are in (
        ap (λ one. of_call (Unlocked one)) same,
        subst (λ one. CoreStands new (with_local r (with_locks (after_unlock r.local.locks (owner.Thread thread) lock)
            (with_violations thread (unlock_refusal one) r.local)))) same
            (subst (λ (held : List Held). CoreStands new (with_local r
            (with_locks (after_unlock held (owner.Thread thread) lock)
            (with_violations thread (unlock_refusal answer) r.local)))) S.locks_are
            (rw is (locks_step e r thread (after_unlock e.locks (owner.Thread thread) lock) (unlock_refusal answer) S
            (unlock_unheld e.locks thread lock (unheld e r S))))),
      );
}

-- the same, where the answer is no refusal, and so nothing was noted
pub lock_step_quiet : (meaning : Meaning) (e : CoreState) (now thread lock : ℕ) (answer : LockAnswer) (new : CoreState)
    → answer ≡ lock_answer e.locks (owner.Thread thread) lock 0
    → ((found : LockFault) → answer ≡ lock_answers.Refused found → ⊥)
    → new ≡ record e { locks = after_lock e.locks (owner.Thread thread) lock 0 }
    → CoreSteps meaning e (record { now = now; event = Does thread (Lock lock); answer = OfCall (Locked answer) }) new
lock_step_quiet meaning e now thread lock answer new told quiet is =
    lock_step meaning e now thread lock answer new told (is ∙ ap (λ (faults : List Fault). record e {
      locks = after_lock e.locks (owner.Thread thread) lock 0;
      log = notes e.log (map (thread_violation thread) faults);
    }) (sym (none answer quiet)))
  where
    none : (answer : LockAnswer) → ((found : LockFault) → answer ≡ lock_answers.Refused found → ⊥)
        → lock_refusal answer ≡ []
    none lock_answers.Taken quiet = refl
    none lock_answers.Held quiet = refl
    none (lock_answers.Refused found) quiet = absurd (quiet found refl)

pub unlock_step_quiet : (meaning : Meaning) (e : CoreState) (now thread lock : ℕ) (answer : UnlockAnswer)
    (new : CoreState) → answer ≡ unlock_answer e.locks (owner.Thread thread) lock
    → ((found : LockFault) → answer ≡ unlock_answers.Refused found → ⊥)
    → new ≡ record e { locks = after_unlock e.locks (owner.Thread thread) lock }
    → CoreSteps meaning e (record { now = now; event = Does thread (Unlock lock); answer = OfCall (Unlocked answer) })
    new
unlock_step_quiet meaning e now thread lock answer new told quiet is =
    unlock_step meaning e now thread lock answer new told (is ∙ ap (λ (faults : List Fault). record e {
      locks = after_unlock e.locks (owner.Thread thread) lock;
      log = notes e.log (map (thread_violation thread) faults);
    }) (sym (none answer quiet)))
  where
    none : (answer : UnlockAnswer) → ((found : LockFault) → answer ≡ unlock_answers.Refused found → ⊥)
        → unlock_refusal answer ≡ []
    none unlock_answers.Freed quiet = refl
    none (unlock_answers.Refused found) quiet = absurd (quiet found refl)

-- ---- runs

abbrev a_start : List ℤ → List ℕ → List Held → Start
a_start cells segment locks = record { cells = cells; segment = segment; locks = locks }

-- a handler finds at the core what its record says
pub same_start : (e : CoreState) (r : Node Local) → CoreStands e r → start_at e ≡ start_from e.settings r.local
same_start e r S =
    ap (λ (cells : List ℤ). a_start cells e.segment e.locks) S.cells_are
    ∙ (ap (λ (segment : List ℕ). a_start r.local.cells segment e.locks) S.segment_is
    ∙ ap (λ (locks : List Held). a_start r.local.cells (segment_of e.settings r.local) locks) S.locks_are)

-- the segment of a core that stands is as long as the settings say
pub segment_sized : (e : CoreState) (r : Node Local) → CoreStands e r → length e.segment ≡ e.settings.segment
segment_sized e r S =
    ap (λ (bytes : List ℕ). length bytes) S.segment_is
    ∙ length-image e.settings.segment r.local.writes S.invariant_.kept.writes

-- what a run of the library's handler, or of a client's, writes fits
run_fits : (meaning : Meaning) (e : CoreState) (which : Role) (contact : Contact) (c : Content)
    → IsLawfulMeaning meaning → length e.segment ≡ e.settings.segment → StaysInside e.settings.segment c
    → AllFit e.settings.segment (outcome (handlers_at meaning e) which contact c (start_at e)).writes
run_fits meaning e which contact c lawful sized stays = elim (cases_Bool (is_library c.handler)) [
  | inl own ↦ rw own stays.written
  | inr client ↦ rw client
      (subst (λ (len : ℕ). AllFit len (client_outcome (handlers_at meaning e) which contact c (start_at e)).writes)
      sized
      (lawful c.handler (frame_of_run (handlers_at meaning e) which contact c) (start_at e)).writes)
]

-- the core after a message landed and ran, with this role
abbrev pub ran_core : Meaning → CoreState → Role → Contact → Content → CoreState
ran_core meaning e which contact c =
    let landed = landed_core e c in
    with_outcome landed which (outcome (handlers_at meaning landed) which contact c (start_at landed))

-- a message landed and ran
pub ran_stands : (meaning : Meaning) (e : CoreState) (r : Node Local) (which : Role) (contact : Contact) (c : Content)
    → IsLawfulMeaning meaning → CoreStands e r → StaysInside e.settings.segment c
    → CoreStands (ran_core meaning e which contact c)
    (with_local r (let landed = with_writes r.local (landing c) in
    left_by_run which (outcome (handlers_at meaning e) which contact c (start_from e.settings landed)) landed))
ran_stands meaning e r which contact c lawful S fits =
    let landed = with_writes r.local (landing c) in
    let L = segment_stand e r (landing c) S fits.landed in
    let here = landed_core e c in
    let run = outcome (handlers_at meaning here) which contact c (start_at here) in
    subst (λ (start : Start). CoreStands (with_outcome here which run)
    (with_local r (left_by_run which (outcome (handlers_at meaning e) which contact c start) landed)))
    (same_start here (with_local r landed) L)
    (outcome_stands here (with_local r landed) which run L
    (run_fits meaning here which contact c lawful (segment_sized here (with_local r landed) L) fits))

-- after it the segment is as long as before
pub ran_sized : (meaning : Meaning) (e : CoreState) (which : Role) (contact : Contact) (c : Content)
    → IsLawfulMeaning meaning → length e.segment ≡ e.settings.segment → StaysInside e.settings.segment c
    → length (ran_core meaning e which contact c).segment ≡ e.settings.segment
ran_sized meaning e which contact c lawful sized fits =
    let here = landed_core e c in
    let landed = length-written_by e.settings.segment e.segment (landing c) sized fits.landed in
    length-written_by e.settings.segment here.segment
    (outcome (handlers_at meaning here) which contact c (start_at here)).writes landed
    (run_fits meaning here which contact c lawful landed fits)

-- ---- runs of replies

-- an Ack changes nothing, each other reply lands and runs
pub reply_run_stands : (meaning : Meaning) (e : CoreState) (r : Node Local) (contact : Contact) (c : Content)
    (new : CoreState) → IsLawfulMeaning meaning → CoreStands e r → StaysInside e.settings.segment c
    → (is_ack (code c.kind) ≡ true → new ≡ e)
    → (is_ack (code c.kind) ≡ false → new ≡ with_reply_ran meaning e contact c)
    → CoreStands new (with_local r (run_reply (handlers_at meaning e) contact c r.local))
reply_run_stands meaning e r contact c new lawful S fits ack runs = elim (cases_Bool (is_ack (code c.kind))) [
  | inl t ↦ rw (t, ack t) S
  | inr f ↦ rw (f, runs f) (ran_stands meaning e r role.Reply contact c lawful S fits)
]

-- ---- requests

-- a reply that a handler may send
pub record IsSendable (settings : Parameters) (content : Content) : Type 0 where
  pub runs : is_ack (code content.kind) ≡ false
  pub fits : StaysInside settings.segment content

-- a reply that was let through is one
pub sendable : (frame : Frame) (o : Option Content) → IsLawful frame o → (content : Content) → o ≡ Some content
    → IsSendable frame.settings content
sendable frame None L content e = absurd (cc)
sendable frame (Some x) L content e =
    subst (IsSendable frame.settings) (same_Some x content e) (record {
      runs = reply_kind_is x.kind L.reply.kind;
      fits = client_stays frame.settings.segment x (client_reply frame.table x.handler L.registered)
          (landing_fits frame.settings.segment x L.inside);
    })

-- the reply of an own request ran, if there was one
own_reply_stands : (meaning : Meaning) (e : CoreState) (r : Node Local) (o : Option Content) → IsLawfulMeaning meaning
    → CoreStands e r → ((content : Content) → o ≡ Some content → IsSendable e.settings content)
    → CoreStands (with_own_reply meaning e o)
    (with_local r (run_reply (handlers_at meaning e) (with_itself e.me) (reply_or_ack o) r.local))
own_reply_stands meaning e r None lawful S sent = S
own_reply_stands meaning e r (Some content) lawful S sent =
    let is = sent content refl in
    reply_run_stands meaning e r (with_itself e.me) content _ lawful S is.fits
    (λ t. absurd (true≢false (sym t ∙ is.runs))) (λ f. refl)

-- the run of an own request
abbrev own_run : Meaning → CoreState → Content → Outcome
own_run meaning e c = request_outcome meaning (landed_core e c) (with_itself e.me) c

own_sendable : (meaning : Meaning) (e : CoreState) (c : Content) → IsLawfulMeaning meaning
    → is_library c.handler ≡ false → (content : Content)
    → (own_run meaning e c).reply ≡ Some content → IsSendable e.settings content
own_sendable meaning e c lawful client =
    let here = landed_core e c in
    let frame = frame_of_run (handlers_at meaning here) role.Request (with_itself e.me) c in
    rw client (sendable frame
    (client_outcome (handlers_at meaning here) role.Request (with_itself e.me) c (start_at here)).reply
    (lawful c.handler frame (start_at here)).reply)

-- a request to the local node ran, and its reply
own_run_stands : (meaning : Meaning) (e : CoreState) (r : Node Local) (c : Content) → IsLawfulMeaning meaning
    → CoreStands e r → is_library c.handler ≡ false → StaysInside e.settings.segment c
    → CoreStands (with_own_run meaning e c)
    (with_local r (let out = run_request (handlers_at meaning e) (with_itself e.me) c r.local in
    run_reply (handlers_at meaning e) (with_itself e.me) out.1 out.0))
own_run_stands meaning e r c lawful S client fits =
    let landed = with_writes r.local (landing c) in
    let L = segment_stand e r (landing c) S fits.landed in
    let here = landed_core e c in
    let run = own_run meaning e c in
    subst (λ (start : Start). CoreStands (with_own_run meaning e c)
    (with_local r (let out = outcome (handlers_at meaning e) role.Request (with_itself e.me) c start in
    run_reply (handlers_at meaning e) (with_itself e.me) (reply_or_ack out.reply)
    (left_by_run role.Request out landed)))) (same_start here (with_local r landed) L)
    (own_reply_stands meaning (with_outcome here role.Request run)
    (with_local r (left_by_run role.Request run landed)) run.reply lawful
    (outcome_stands here (with_local r landed) role.Request run L
    (run_fits meaning here role.Request (with_itself e.me) c lawful (segment_sized here (with_local r landed) L) fits))
    (own_sendable meaning e c lawful client))

-- the locks of the handler of what a request says
pub said_handler : (category : Category) (asking : Asking) (payload : List ℕ)
    → (content_by category asking payload).handler ≡ asking.handler
said_handler Short asking payload = refl
said_handler Medium asking payload = refl
said_handler Long asking payload = refl

-- what a request that passes the checks is answered
abbrev pub passed_answer : CoreState → Node Local → Ask → AskedAnswer
passed_answer e r ask =
    if ask.to == e.me
    then own_answer (busy_lock e.table (said_in (segment_of e.settings r.local) ask.what).handler r.local.locks)
    else claim_answer (limits_of e.settings e.me ask.to) ask.to (r.asked ask.to)

-- a request that the table allows
allowed_answer : (meaning : Meaning) (e : CoreState) (r : Node Local) (ask : Ask)
    (ruling : Result (Unit {0}) Forbidden)
    → CoreStands e r → thread_rule e ask.thread call.Request ≡ ruling
    → request_answer (site_at meaning e) r ask
    ≡ unless_forbidden ruling (unless_bad (asked_fault e ask) (passed_answer e r ask))
allowed_answer meaning e r ask ruling S j =
    ap (λ x. unless_forbidden x (unless_bad (asked_fault e ask) (passed_answer e r ask)))
    (sym (judged_alike e r ask.thread call.Request S) ∙ j)

-- what a request is answered, where the table allows it and nothing is wrong with it
answer_is : (meaning : Meaning) (e : CoreState) (r : Node Local) (ask : Ask) (allowed : Unit {0}) (a : AskedAnswer)
    → CoreStands e r → thread_rule e ask.thread call.Request ≡ Ok allowed → asked_fault e ask ≡ None
    → passed_answer e r ask ≡ a → a ≡ request_answer (site_at meaning e) r ask
answer_is meaning e r ask allowed a S j f is =
    sym (allowed_answer meaning e r ask (Ok allowed) S j ∙ (ap (λ x. unless_bad x (passed_answer e r ask)) f ∙ is))

-- of a request to another node
other_answer : (e : CoreState) (r : Node Local) (ask : Ask) (a : AskedAnswer) → ask.to ≢ e.me
    → claim_answer (limits_of e.settings e.me ask.to) ask.to (r.asked ask.to) ≡ a → passed_answer e r ask ≡ a
other_answer e r ask a other is = rw (ne_eqb ask.to e.me other) is

-- of a request to the local node
own_passed : (e : CoreState) (r : Node Local) (ask : Ask) (lock : Option ℕ) → CoreStands e r → ask.to ≡ e.me
    → busy_lock e.table ask.what.handler e.locks ≡ lock → passed_answer e r ask ≡ own_answer lock
own_passed e r ask lock S own is =
    rw (eq-eqb ask.to e.me own)
    (ap (λ (handler : ℕ). own_answer (busy_lock e.table handler r.local.locks))
    (said_handler ask.what.category ask.what (payload_in (segment_of e.settings r.local) ask.what.payload))
    ∙ (ap (λ (held : List Held). own_answer (busy_lock e.table ask.what.handler held)) (sym S.locks_are)
    ∙ ap own_answer is))

-- a request to another node, by what it was answered
claims_step : (meaning : Meaning) (e : CoreState) (now : ℕ) (ask : Ask) (allowed : Unit {0}) (a : AskedAnswer)
    (new : CoreState) → thread_rule e ask.thread call.Request ≡ Ok allowed
    → asked_fault e ask ≡ None → ask.to < e.settings.nodes → ask.to ≢ e.me
    → Claims e (claim_of e (asking now ask a)) new → Requests meaning e now ask a new
claims_step meaning e now ask allowed (asked.Accepted peer slot number) new j f low other h = record {
  same = rw h.1.kept (record { settings = refl; me_is = refl; table = refl; segment_length = refl });
  steps =
      λ r S. let N =
      node_accepts ask.to now slot number e r (said_at e ask) new S low other h.1 in (
        answer_is meaning e r ask allowed _ S j f (other_answer e r ask _ other
            (N.takes.1.answer ∙ ap (λ p. asked.Accepted p slot number) (sym h.0))),
        subst (λ (bytes : List ℕ). CoreStands new (with_request r now ask.to slot (said_in bytes ask.what)))
            S.segment_is
            N.stands,
      );
}
claims_step meaning e now ask allowed asked.Exhausted new j f low other h = record {
  same = same_core e new h.1;
  steps = λ r S. (
    answer_is meaning e r ask allowed _ S j f (other_answer e r ask _ other (node_exhausted ask.to e r S low other h.0)),
    rw h.1 S,
  );
}
claims_step meaning e now ask allowed asked.NotYet new j f low other h = record {
  same = same_core e new h.1;
  steps = λ r S. (
    answer_is meaning e r ask allowed _ S j f
        (other_answer e r ask _ other (node_not_yet ask.to e r S low other h.0)),
    rw h.1 S,
  );
}
claims_step meaning e now ask allowed _ new j f low other h = absurd h

-- a request without a fault has none beside its target
fault_beside : (e : CoreState) (ask : Ask) → asked_fault e ask ≡ None → asking_fault e.settings e.table ask.what ≡ None
fault_beside e ask none = by_test (nat_le e.settings.nodes ask.to) none
  where
    by_test : (past : Bool) → (if past then Some which.Node else asking_fault e.settings e.table ask.what) ≡ None
        → asking_fault e.settings e.table ask.what ≡ None
    by_test true none = absurd (cc)
    by_test false none = none

-- a core that ran an own request is that of the same node
own_same : (meaning : Meaning) (e : CoreState) (c : Content) → IsLawfulMeaning meaning
    → length e.segment ≡ e.settings.segment → is_library c.handler ≡ false → StaysInside e.settings.segment c
    → IsSameNode e (with_own_run meaning e c)
own_same meaning e c lawful sized client fits =
    by_reply (own_run meaning e c).reply (ran_core meaning e role.Request (with_itself e.me) c) refl refl refl
    (ran_sized meaning e role.Request (with_itself e.me) c lawful sized fits) (own_sendable meaning e c lawful client)
  where
    by_reply : (o : Option Content) (v : CoreState) → v.settings ≡ e.settings → v.me ≡ e.me → v.table ≡ e.table
        → length v.segment ≡ e.settings.segment
        → ((content : Content) → o ≡ Some content → IsSendable e.settings content)
        → IsSameNode e (with_own_reply meaning v o)
    by_reply None v settings me_is table len sent =
        record { settings = settings; me_is = me_is; table = table; segment_length = len ∙ sym sized }
    by_reply (Some content) v settings me_is table len sent =
        let as_long = ran_sized meaning v role.Reply (with_itself v.me) content lawful
        (len ∙ ap (λ (s : Parameters). s.segment) (sym settings))
        (subst (λ (s : Parameters). StaysInside s.segment content) (sym settings) (sent content refl).fits) in
        record {
          settings = settings;
          me_is = me_is;
          table = table;
          segment_length = as_long ∙ (ap (λ (s : Parameters). s.segment) settings ∙ sym sized);
        }

-- a request to the local node that passes the checks, by the lock for which it waits
own_step : (meaning : Meaning) (e : CoreState) (now : ℕ) (ask : Ask) (allowed : Unit {0}) (lock : Option ℕ)
    (a : AskedAnswer) (new : CoreState) → IsLawfulMeaning meaning → length e.segment ≡ e.settings.segment
    → thread_rule e ask.thread call.Request ≡ Ok allowed → asked_fault e ask ≡ None → ask.to ≡ e.me
    → busy_lock e.table ask.what.handler e.locks ≡ lock → AsksHere lock meaning e (asking now ask a) new
    → Requests meaning e now ask a new
own_step meaning e now ask allowed (Some lock) a new lawful sized j f own busy h = record {
  same = same_core e new h.1;
  steps = λ r S. (
    h.0 ∙ answer_is meaning e r ask allowed _ S j f (own_passed e r ask (Some lock) S own busy),
    rw (h.0, h.1) S,
  );
}
own_step meaning e now ask allowed None a new lawful sized j f own busy h =
    let fits = said_stays e.settings e.table e.segment ask.what (fault_beside e ask f) in
    let client = said_client e.settings e.table e.segment ask.what (fault_beside e ask f) in
    record {
      same = rw h.1 (own_same meaning e (said_at e ask) lawful sized client fits);
      steps = λ r S. (
        h.0 ∙ answer_is meaning e r ask allowed _ S j f (own_passed e r ask None S own busy),
        rw (h.0, h.1) (subst (λ (bytes : List ℕ). CoreStands (with_own_run meaning e (said_at e ask))
            (with_local r (ran_here (rules_at meaning e) e.me (said_in bytes ask.what) r.local))) S.segment_is
            (own_run_stands meaning e r (said_at e ask) lawful S client fits)),
      );
    }

-- a target that is no fault is a node
target_in : (e : CoreState) (ask : Ask) → asked_fault e ask ≡ None → ask.to < e.settings.nodes
target_in e ask f = elim (cases_lt ask.to e.settings.nodes) [
  | inl low ↦ low
  | inr past ↦ (let t : nat_le e.settings.nodes ask.to ≡ true = grind (arith, nat_tests) in absurd (bad t))
]
  where
    bad : nat_le e.settings.nodes ask.to ≡ true → ⊥
    bad t = let it = rw t at f in cc

-- a request that passes the checks, by whether it is for the local node
asks_node : (meaning : Meaning) (e : CoreState) (now : ℕ) (ask : Ask) (allowed : Unit {0}) (a : AskedAnswer)
    (new : CoreState) (own : Bool) → eqb ask.to e.me ≡ own → IsLawfulMeaning meaning
    → length e.segment ≡ e.settings.segment
    → thread_rule e ask.thread call.Request ≡ Ok allowed → asked_fault e ask ≡ None
    → AsksNode own meaning e (asking now ask a) new → Requests meaning e now ask a new
asks_node meaning e now ask allowed a new true own lawful sized j f h =
    own_step meaning e now ask allowed (busy_lock e.table ask.what.handler e.locks) a new lawful sized j f
    (eqb-true ask.to e.me own) refl h
asks_node meaning e now ask allowed a new false own lawful sized j f h =
    claims_step meaning e now ask allowed a new j f (target_in e ask f)
    (λ same. true≢false (sym (eq-eqb ask.to e.me same) ∙ own)) h

-- a request that the rule table allows, by what is wrong with it
asks_unless_bad : (meaning : Meaning) (e : CoreState) (now : ℕ) (ask : Ask) (allowed : Unit {0}) (f : Option Which)
    (a : AskedAnswer) (new : CoreState) → IsLawfulMeaning meaning → length e.segment ≡ e.settings.segment
    → thread_rule e ask.thread call.Request ≡ Ok allowed → asked_fault e ask ≡ f
    → AsksUnlessBad f meaning e (asking now ask a) new → Requests meaning e now ask a new
asks_unless_bad meaning e now ask allowed (Some part) a new lawful sized j fault_is h = record {
  same = same_core e new h.1;
  steps = λ r S. (
    h.0 ∙ sym (allowed_answer meaning e r ask (Ok allowed) S j
        ∙ ap (λ x. unless_bad x (passed_answer e r ask)) fault_is),
    rw (h.0, h.1) S,
  );
}
asks_unless_bad meaning e now ask allowed None a new lawful sized j fault_is h =
    asks_node meaning e now ask allowed a new (eqb ask.to e.me) refl lawful sized j fault_is h

-- a request, by how it was judged
asks_unless : (meaning : Meaning) (e : CoreState) (now : ℕ) (ask : Ask) (j : Result (Unit {0}) Forbidden)
    (a : AskedAnswer) (new : CoreState) → IsLawfulMeaning meaning → length e.segment ≡ e.settings.segment
    → thread_rule e ask.thread call.Request ≡ j
    → AsksUnlessForbidden j meaning e (asking now ask a) new → Requests meaning e now ask a new
asks_unless meaning e now ask (Err forbidden) a new lawful sized j h = record {
  same = rw h.1 (record { settings = refl; me_is = refl; table = refl; segment_length = refl });
  steps = λ r S. (
    h.0 ∙ sym (allowed_answer meaning e r ask (Err forbidden) S j),
    rw (h.0, h.1) (noted_stands e r (map (thread_violation ask.thread) (fault.Rule forbidden ∷ [])) S),
  );
}
asks_unless meaning e now ask (Ok allowed) a new lawful sized j h =
    asks_unless_bad meaning e now ask allowed (asked_fault e ask) a new lawful sized j refl h

-- a request, told as an event
asks_step : (meaning : Meaning) (e : CoreState) (now : ℕ) (ask : Ask) (a : AskedAnswer) (new : CoreState)
    → Requests meaning e now ask a new
    → CoreSteps meaning e (record { now = now; event = Asks ask; answer = OfRequest a }) new
asks_step meaning e now ask a new h = record {
  same = h.same;
  steps = λ r S. let it = h.steps r S in (
    ap of_request it.0,
    subst (λ x. CoreStands new (after_request (site_at meaning e) r now ask x)) it.0 it.1,
  );
}

-- a request of a thread
pub requests_step : (meaning : Meaning) (e : CoreState) (now : ℕ) (ask : Ask) (a : AskedAnswer) (new : CoreState)
    → IsLawfulMeaning meaning → length e.segment ≡ e.settings.segment → AsksFor meaning e (asking now ask a) new
    → CoreSteps meaning e (record { now = now; event = Asks ask; answer = OfRequest a }) new
requests_step meaning e now ask a new lawful sized h =
    asks_step meaning e now ask a new
    (asks_unless meaning e now ask (thread_rule e ask.thread call.Request) a new lawful sized refl h)

-- a request of the library to another node, by what it was answered
pub own_ask_step : (e : CoreState) (now to : ℕ) (work : Work) (a : AskedAnswer) (new : CoreState)
    → to < e.settings.nodes → to ≢ e.me
    → Claims e (record {
      now = now;
      event = record { to = to; content = work_content e.settings.version e.segment work };
      answer = a;
    }) new
    → AsksOwn e (record { now = now; to = to; work = work; answer = a }) new
own_ask_step e now to work (asked.Accepted peer slot number) new low other h = record {
  same = rw h.1.kept (record { settings = refl; me_is = refl; table = refl; segment_length = refl });
  steps = λ r S.
      let N = node_accepts to now slot number e r (work_content e.settings.version e.segment work) new S low other h.1
      in (
        sym (N.takes.1.answer ∙ ap (λ p. asked.Accepted p slot number) (sym h.0)),
        subst (λ (bytes : List ℕ). CoreStands new
            (with_request r now to slot (work_content e.settings.version bytes work)))
            S.segment_is N.stands,
      );
}
own_ask_step e now to work asked.Exhausted new low other h = record {
  same = same_core e new h.1;
  steps = λ r S. (sym (node_exhausted to e r S low other h.0), rw h.1 S);
}
own_ask_step e now to work asked.NotYet new low other h = record {
  same = same_core e new h.1;
  steps = λ r S. (sym (node_not_yet to e r S low other h.0), rw h.1 S);
}
own_ask_step e now to work _ new low other h = absurd h
