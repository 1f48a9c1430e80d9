-- What the answers of a node say.
use Rattle.std.proofs.Common.{◌≡◌, ◌≢◌, ℕ, suc, ◌<◌, Bool, true, false, not, ◌&&◌, if◌then◌else◌, eqb, leb, ltb, length}
use Rattle.std.proofs.Common.{Option, None, Some, Result, Ok, Err, refl, sym, arith, ltb-true}
use Rattle.std.specs.Prelude.{is_none}
use Rattle.std.proofs.lemmas.Bool.Decides.{nat_tests}
use Rattle.std.proofs.lemmas.Bool.{and_parts, not-true, eqb-false}
use Rattle.wire_message.specs.Parameters.{Parameters}
use Rattle.wire_message.specs.Content.{Content, content_of}
use Rattle.wire_message.specs.Message.{Message}
use Rattle.base_lists.specs.Numbered.{element_at}
use Rattle.base_lists.proofs.Cases.{says_no}
use Rattle.part_handlers.specs.declared.rules.CallKind.TheVariants as call
use Rattle.part_handlers.specs.declared.rules.Forbidden.{Forbidden}
use Rattle.part_handlers.specs.declared.message.Which.{Which}
use Rattle.part_handlers.specs.declared.message.Which.TheVariants as which
use Rattle.spec_node.specs.declared.answer.Asked.{Asked}
use Rattle.spec_node.specs.declared.answer.Asked.TheVariants as asked
use Rattle.spec_node.specs.declared.answer.Why.{Why}
use Rattle.spec_node.specs.Record.{Node}
use Rattle.spec_node.specs.Requests.{outstanding, free_slot, next_claim, is_open, Due}
use Rattle.spec_node.specs.Executed.{greatest}
use Rattle.spec_node.specs.Credits.{limits_of}
use Rattle.spec_node.specs.Behaviour.{Behaviour, Ask, Sending, is_request, asks_well, replies_well}
use Rattle.spec_node.specs.Step.{Site, request_fault, unless_bad, unless_forbidden, own_answer, request_answer}
use Rattle.spec_node.specs.Step.{request_content, refusal, address_fault, first_why, Verdict}
use Rattle.spec_node.specs.Step.{Refused, Duplicated, Passed, Runs, Missed, Returns, unless_refused, unless_waiting}
use Rattle.spec_node.specs.Step.{verdict, can_ask, Retransmits, Sends}
use Rattle.spec_node.specs.Step.{Rests, choice_of}

-- ---- a request of a thread

-- what an answer says that accepts
pub record IsAccepted
    {Local : Type 0} (site : Site Local) (node : Node Local) (ask : Ask) (peer slot number : ℕ) : Type 0 where
  pub allowed : site.behaviour.judges ask.thread call.Request node.local ≡ Ok tt
  pub faultless : site.behaviour.faults ask.what ≡ None
  pub to_in : ask.to < site.settings.nodes
  pub other : ask.to ≢ site.me
  pub left : length (node.asked ask.to) < site.settings.last
  pub free : outstanding (node.asked ask.to) < (limits_of site.settings site.me ask.to).credits
  pub peer_is : peer ≡ ask.to
  pub slot_is : slot ≡ (next_claim (node.asked ask.to)).slot
  pub number_is : number ≡ (next_claim (node.asked ask.to)).number

-- the rule table allowed it
allowed : (judged : Result (Unit {0}) Forbidden) (answer : Asked) (p q n : ℕ)
    → unless_forbidden judged answer ≡ asked.Accepted p q n → (judged ≡ Ok tt) × (answer ≡ asked.Accepted p q n)
allowed (Ok t) answer p q n e = (refl, e)
allowed (Err f) answer p q n e = absurd (cc)

-- it has no fault
faultless : (fault : Option Which) (answer : Asked) (p q n : ℕ)
    → unless_bad fault answer ≡ asked.Accepted p q n → (fault ≡ None) × (answer ≡ asked.Accepted p q n)
faultless None answer p q n e = (refl, e)
faultless (Some part) answer p q n e = absurd (cc)

-- its target is a node
targets : (outside : Bool) (fault : Option Which) → (if outside then Some which.Node else fault) ≡ None
    → (outside ≡ false) × (fault ≡ None)
targets true fault e = absurd (cc)
targets false fault e = (refl, e)

-- its target is another node
not_own : (own : Bool) (lock : Option ℕ) (answer : Asked) (p q n : ℕ)
    → (if own then own_answer lock else answer) ≡ asked.Accepted p q n
    → (own ≡ false) × (answer ≡ asked.Accepted p q n)
not_own true None answer p q n e = absurd (cc)
not_own true (Some lock) answer p q n e = absurd (cc)
not_own false lock answer p q n e = (refl, e)

-- it has a slot and a number
claimed : (exhausted out : Bool) (to slot number p q n : ℕ)
    → (if exhausted then asked.Exhausted else (if out then asked.NotYet else asked.Accepted to slot number)) ≡ asked.Accepted
    p q n
    → (exhausted ≡ false) × (out ≡ false) × (p ≡ to) × (q ≡ slot) × (n ≡ number)
claimed true out to slot number p q n e = absurd (cc)
claimed false true to slot number p q n e = absurd (cc)
claimed false false to slot number p q n e = (refl, refl, cc, cc, cc)

-- a test that fails
below_if : (n to : ℕ) → leb n to ≡ false → to < n
below_if n to e = grind (arith, nat_tests)

-- a request without a fault goes to a node that is there, with good parts
pub fault_parts : {Local : Type 0} (settings : Parameters) (behaviour : Behaviour Local) (ask : Ask)
    → request_fault settings behaviour ask ≡ None → (ask.to < settings.nodes) × (behaviour.faults ask.what ≡ None)
fault_parts settings behaviour ask e =
    let it = targets (leb settings.nodes ask.to) (behaviour.faults ask.what) e in
    (below_if settings.nodes ask.to it.0, it.1)

-- an answer that accepts
pub accepted_says : {Local : Type 0} (site : Site Local) (node : Node Local) (ask : Ask) (peer slot number : ℕ)
    → request_answer site node ask ≡ asked.Accepted peer slot number → IsAccepted site node ask peer slot number
accepted_says site node ask peer slot number e =
    let limits = limits_of site.settings site.me ask.to in
    let requests = node.asked ask.to in
    let a = allowed (site.behaviour.judges ask.thread call.Request node.local) _ peer slot number e in
    let b = faultless (request_fault site.settings site.behaviour ask) _ peer slot number a.1 in
    let parts = fault_parts site.settings site.behaviour ask b.0 in
    let d = not_own (eqb ask.to site.me) (site.behaviour.busy (request_content site node ask) node.local) _ peer slot number b.1 in
    let f = claimed (leb limits.last (length requests)) (leb limits.credits (outstanding requests)) ask.to
    (free_slot requests) (suc (length requests)) peer slot number d.1 in
    record {
      allowed = a.0;
      faultless = parts.1;
      to_in = parts.0;
      other = eqb-false ask.to site.me d.0;
      left = below_if limits.last (length requests) f.0;
      free = below_if limits.credits (outstanding requests) f.1;
      peer_is = f.2;
      slot_is = f.3;
      number_is = f.4;
    }

-- a request that runs here has no fault
here_parts : (judged : Result (Unit {0}) Forbidden) (fault : Option Which) (answer : Asked)
    → unless_forbidden judged (unless_bad fault answer) ≡ asked.Ran → fault ≡ None
here_parts (Ok t) None answer e = refl
here_parts (Ok t) (Some part) answer e = absurd (cc)
here_parts (Err forbidden) fault answer e = absurd (cc)

pub here_says : {Local : Type 0} (site : Site Local) (node : Node Local) (ask : Ask)
    → request_answer site node ask ≡ asked.Ran → site.behaviour.faults ask.what ≡ None
here_says site node ask e =
    (fault_parts site.settings site.behaviour ask
    (here_parts (site.behaviour.judges ask.thread call.Request node.local)
    (request_fault site.settings site.behaviour ask) _ e)).1

-- ---- a message that is delivered

-- a request that runs is above every number run in its slot, and waits for no lock
judged_runs : (same less : Bool) (lock : Option ℕ)
    → (if same then Duplicated else (if less then Passed else unless_waiting lock Runs)) ≡ Runs
    → (same ≡ false) × (less ≡ false) × (lock ≡ None)
judged_runs true less lock e = absurd (cc)
judged_runs false true lock e = absurd (cc)
judged_runs false false None e = (refl, refl, refl)
judged_runs false false (Some k) e = absurd (cc)

-- no request is taken as a reply
judged_not_back : (same less : Bool) (lock : Option ℕ)
    → (if same then Duplicated else (if less then Passed else unless_waiting lock Runs)) ≡ Returns → ⊥
judged_not_back true less lock e = cc
judged_not_back false true lock e = cc
judged_not_back false false None e = cc
judged_not_back false false (Some k) e = cc

-- a reply that is taken is that of an open request, and waits for no lock
taken_returns : (open_ : Bool) (lock : Option ℕ)
    → (if open_ then unless_waiting lock Returns else Missed) ≡ Returns → (open_ ≡ true) × (lock ≡ None)
taken_returns true None e = (refl, refl)
taken_returns true (Some k) e = absurd (cc)
taken_returns false lock e = absurd (cc)

-- no reply runs as a request
taken_not_run : (open_ : Bool) (lock : Option ℕ)
    → (if open_ then unless_waiting lock Returns else Missed) ≡ Runs → ⊥
taken_not_run true None e = cc
taken_not_run true (Some k) e = cc
taken_not_run false lock e = cc

-- it wasn't refused
unrefused : (why : Option Why) (v w : Verdict) → unless_refused why v ≡ w → ((reason : Why) → w ≢ Refused reason)
    → (why ≡ None) × (v ≡ w)
unrefused None v w e n = (refl, e)
unrefused (Some reason) v w e n = absurd (n reason (sym e))

-- by its kind
kind_parts : {X : Type 0} (b : Bool) (x y z : X) → (if b then x else y) ≡ z → (y ≡ z → ⊥) → (b ≡ true) × (x ≡ z)
kind_parts true x y z e n = (refl, e)
kind_parts false x y z e n = absurd (n e)

kind_parts_other : {X : Type 0} (b : Bool) (x y z : X) → (if b then x else y) ≡ z → (x ≡ z → ⊥) → (b ≡ false) × (y ≡ z)
kind_parts_other true x y z e n = absurd (n e)
kind_parts_other false x y z e n = (refl, e)

-- where neither has a reason there is none
first_none : (one other : Option Why) → first_why one other ≡ None → (one ≡ None) × (other ≡ None)
first_none None other e = (refl, e)
first_none (Some reason) other e = absurd (cc)

-- two tests that fail
above_if : (k last : ℕ) → eqb k last ≡ false → ltb k last ≡ false → last < k
above_if k last e f = grind (arith, nat_tests)

-- what it says that a message runs as a request
pub record IsRunning {Local : Type 0} (site : Site Local) (node : Node Local) (message : Message) : Type 0 where
  pub unrefused : refusal site message ≡ None
  pub request : is_request message.kind ≡ true
  pub above : greatest message.slot (node.ran message.from) < message.number
  pub free : site.behaviour.waits (content_of message) node.local ≡ None
  pub well : asks_well site.behaviour.refuses (content_of message) ≡ true

pub runs_says : {Local : Type 0} (site : Site Local) (node : Node Local) (message : Message)
    → verdict site node message ≡ Runs → IsRunning site node message
runs_says site node message e =
    let top = greatest message.slot (node.ran message.from) in
    let lock = site.behaviour.waits (content_of message) node.local in
    let open_ = is_open message.slot (element_at (node.asked message.from) message.number) in
    let a = unrefused (refusal site message) _ Runs e (λ reason f. runs_refused f) in
    let b = kind_parts (is_request message.kind) _ _ Runs a.1 (taken_not_run open_ lock) in
    let d = judged_runs (eqb message.number top) (ltb message.number top) lock b.1 in
    let none = first_none (address_fault site.settings site.me message) (site.behaviour.refuses (content_of message))
    a.0 in
    record {
      unrefused = a.0;
      request = b.0;
      above = above_if message.number top d.0 d.1;
      free = d.2;
      well = rw (b.0, none.1) refl;
    }
  where
    runs_refused : {reason : Why} → Runs ≡ Refused reason → ⊥
    runs_refused f = cc

-- what it says that a message is taken as a reply
pub record IsReturning {Local : Type 0} (site : Site Local) (node : Node Local) (message : Message) : Type 0 where
  pub unrefused : refusal site message ≡ None
  pub reply : is_request message.kind ≡ false
  pub open_ : is_open message.slot (element_at (node.asked message.from) message.number) ≡ true
  pub free : site.behaviour.waits (content_of message) node.local ≡ None
  pub well : replies_well site.behaviour.refuses (content_of message) ≡ true

pub returns_says : {Local : Type 0} (site : Site Local) (node : Node Local) (message : Message)
    → verdict site node message ≡ Returns → IsReturning site node message
returns_says site node message e =
    let top = greatest message.slot (node.ran message.from) in
    let lock = site.behaviour.waits (content_of message) node.local in
    let open_ = is_open message.slot (element_at (node.asked message.from) message.number) in
    let a = unrefused (refusal site message) _ Returns e (λ reason f. returns_refused f) in
    let b = kind_parts_other (is_request message.kind) _ _ Returns a.1
    (judged_not_back (eqb message.number top) (ltb message.number top) lock) in
    let d = taken_returns open_ lock b.1 in
    let none = first_none (address_fault site.settings site.me message) (site.behaviour.refuses (content_of message))
    a.0 in
    record { unrefused = a.0; reply = b.0; open_ = d.0; free = d.1; well = rw (b.0, none.1) refl }
  where
    returns_refused : {reason : Why} → Returns ≡ Refused reason → ⊥
    returns_refused f = cc

-- the content of a reply isn't that of a request
pub no_request : (refuses : Content → Option Why) (content : Content) → replies_well refuses content ≡ true
    → is_request content.kind ≡ false
no_request refuses content well =
    says_no (is_request content.kind)
    (and_parts (if is_request content.kind then false else true) (is_none (refuses content)) well).0

-- ---- a tick

-- what it says that a node can be asked
pub record CanAsk {Local : Type 0} (site : Site Local) (node : Node Local) (to : ℕ) : Type 0 where
  pub to_in : to < site.settings.nodes
  pub other : to ≢ site.me
  pub left : length (node.asked to) < site.settings.last
  pub free : outstanding (node.asked to) < (limits_of site.settings site.me to).credits

pub can_says : {Local : Type 0} (site : Site Local) (node : Node Local) (to : ℕ)
    → can_ask site node to ≡ true → CanAsk site node to
can_says site node to e =
    let limits = limits_of site.settings site.me to in
    let parts = and_parts (ltb to site.settings.nodes && not (eqb to site.me))
    (ltb (length (node.asked to)) limits.last && ltb (outstanding (node.asked to)) limits.credits) e in
    let one = and_parts (ltb to site.settings.nodes) (not (eqb to site.me)) parts.0 in
    let two = and_parts (ltb (length (node.asked to)) limits.last) (ltb (outstanding (node.asked to)) limits.credits)
    parts.1 in
    record {
      to_in = ltb-true to site.settings.nodes one.0;
      other = eqb-false to site.me (not-true (eqb to site.me) one.1);
      left = ltb-true (length (node.asked to)) limits.last two.0;
      free = ltb-true (outstanding (node.asked to)) limits.credits two.1;
    }

-- a request is sent of the node's own accord where nothing is due
pub sends_choice : (due : Option Due) (next : Option Sending) (sending : Sending)
    → choice_of due next ≡ Sends sending → next ≡ Some sending
sends_choice (Some due) next sending e = absurd (cc)
sends_choice None (Some next) sending e = cc
sends_choice None None sending e = absurd (cc)

-- a request is sent again where it is due
pub retransmits_choice : (due : Option Due) (next : Option Sending) (d : Due) → choice_of due next ≡ Retransmits d
    → due ≡ Some d
retransmits_choice (Some due) next d e = cc
retransmits_choice None (Some next) d e = absurd (cc)
retransmits_choice None None d e = absurd (cc)

-- nothing is sent where there is no next request
pub rests_choice : (due : Option Due) (next : Option Sending) → choice_of due next ≡ Rests → next ≡ None
rests_choice (Some due) next e = absurd (cc)
rests_choice None (Some next) e = absurd (cc)
rests_choice None None e = refl
