-- The slot that is due next is the earliest request of the record that is due, and sending it again is the record's
-- step.
use Rattle.std.proofs.Common.{◌≡◌, ◌≢◌, inl, inr, ℕ, suc, ◌+◌, ◌<◌, ◌≤◌, true, false, Option, None, Some, refl, sym, ap}
use Rattle.std.proofs.Common.{◌∙◌, subst, arith, eq-eqb}
use Rattle.std.specs.Prelude.{nat_le, option_and_then, Bool, is_some}
use Rattle.std.specs.List.{slice_get}
use Rattle.std.proofs.lemmas.Bool.Decides.{nat_tests}
use Rattle.std.proofs.lemmas.Bool.{cases_Bool, cases_eq, cases_lt}
use Rattle.std.proofs.lemmas.Option.{same_Some}
use Rattle.wire_message.specs.Parameters.{credits_of}
use Rattle.part_window.specs.SlotsState.{PeerState, slot_at, with_slot_changed}
use Rattle.part_window.specs.Due.{IsDue as SlotsDue, IsNextDue as SlotsNextDue}
use Rattle.node_core.specs.Known.{IsDue, IsNextDue}
use Rattle.part_window.specs.Due.{due_at, due_time, as_retransmitted, IsFirstDue, NoneIsDue}
use Rattle.spec_node.specs.declared.answer.SlotRef.{SlotRef}
use Rattle.spec_node.specs.Record.{Request, Node}
use Rattle.spec_node.specs.Requests.{open_in, Due, dues, all_dues}
use Rattle.spec_node.specs.Step.{request_slot, next_due, due_slot}
use Rattle.node_core.specs.Kept.{Local}
use Rattle.node_core.specs.CoreState.{CoreState}
use Rattle.part_handlers.specs.Runs.{Meaning}
use Rattle.node_core.specs.Stands.{CoreStands, slot_state}
use Rattle.spec_node.specs.declared.answer.Ticked.{Ticked}
use Rattle.spec_node.specs.NodeStep.{NodeAnswer, OfTick, Ticks}
use Rattle.spec_node.specs.Step.{after_resend, tick_answer, tick_choice, after_tick, choice_of}
use Rattle.spec_node.specs.Step.{Rests, Retransmits as RetransmitsDue}
use Rattle.node_core.specs.CoreContracts.{IsSameNode, CoreTold, CoreSteps, retransmits}
use Rattle.node_core.proofs.CoreSteps.{site_at}
use Rattle.node_core.specs.CoreStep.{Retransmits}
use Rattle.spec_node.proofs.Lists.{slice_get_past, numbered_nil}
use Rattle.spec_node.proofs.Keeping.{open_found, open_says, one_open}
use Rattle.node_core.proofs.Dues.{Among, IsDueOf, dues_has, dues_from, all_dues_has, all_dues_from, NotAfter, earliest_is}
use Rattle.node_core.proofs.Dues.{none_earliest}
use Rattle.node_core.proofs.CoreStands.{request_found, node_sent}

-- ---- what is due in the record is due in the core

-- a request of the record that is due is due at its slot
pub due_found : (e : CoreState) (r : Node Local) (now peer place : ℕ) (x : Request) → CoreStands e r
    → peer < e.settings.nodes → slice_get (r.asked peer) place ≡ Some x → x.back ≡ false
    → x.time + e.settings.resend ≤ now → due_at e.requests now e.settings.resend peer x.slot ≡ Some x.time
due_found e r now peer place x S low at open_ long =
    let other : peer ≢ e.me = λ h. numbered_nil (suc place) x
    (ap (λ ys. slice_get ys place) (sym (ap r.asked h ∙ S.invariant_.own)) ∙ at) in
    let O = S.invariant_.orderly peer in
    let below = O.low (suc place) x at in
    let it = open_says (r.asked peer) x.slot (suc place) O.apart (rw (at, open_) (eq-eqb x.slot x.slot refl)) in
    let same : it.0 ≡ x = same_Some it.0 x (sym it.1 ∙ at) in
    let found : slot_at e.requests peer x.slot ≡ Some (slot_state e.settings e.me peer (Some (suc place, x))) =
    request_found peer x.slot e r S low other below
    ∙ ap (λ o. Some (slot_state e.settings e.me peer o)) (it.4 ∙ ap (λ y. Some (suc place, y)) same) in
    let late : nat_le (x.time + e.settings.resend) now ≡ true = grind (arith, nat_tests) in
    ap (option_and_then (due_time now e.settings.resend)) found ∙ rw late refl

-- ---- what is due in the core is due in the record

-- the request that is due at a slot
pub record DueThere (e : CoreState) (r : Node Local) (now peer slot time : ℕ) : Type 0 where
  pub low : peer < e.settings.nodes
  pub other : peer ≢ e.me
  pub below : slot < credits_of e.settings e.me peer
  pub place : ℕ
  pub x : Request
  pub at : slice_get (r.asked peer) place ≡ Some x
  pub open_ : x.back ≡ false
  pub same : x.slot ≡ slot
  pub when : x.time ≡ time
  pub long : x.time + e.settings.resend ≤ now
  pub found : open_in slot (r.asked peer) ≡ Some (suc place, x)

-- nothing is due where there is no slot
no_slot : (e : CoreState) (now peer slot time : ℕ) → slot_at e.requests peer slot ≡ None
    → due_at e.requests now e.settings.resend peer slot ≡ Some time → ⊥
no_slot e now peer slot time none due =
    let it : None ≡ Some time = sym (ap (option_and_then (due_time now e.settings.resend)) none) ∙ due in cc

-- what is due at a slot is the request that is open in it
due_open : (e : CoreState) (r : Node Local) (now peer slot time : ℕ) → peer < e.settings.nodes → peer ≢ e.me
    → slot < credits_of e.settings e.me peer → (o : Option (ℕ × Request)) → open_in slot (r.asked peer) ≡ o
    → due_time now e.settings.resend (slot_state e.settings e.me peer o) ≡ Some time
    → DueThere e r now peer slot time
due_open e r now peer slot time low other below None is due = absurd (cc)
due_open e r now peer slot time low other below (Some o) is due =
    let it = open_found slot 1 (r.asked peer) o is in
    elim (cases_Bool (nat_le (o.1.time + e.settings.resend) now)) [
      | inl t ↦ (let when : o.1.time ≡ time = same_Some o.1.time time (rw t at due) in record {
        low = low;
        other = other;
        below = below;
        place = it.0;
        x = o.1;
        at = it.1;
        open_ = it.3;
        same = it.4;
        when = when;
        long = grind (arith, nat_tests);
        found = is ∙ ap (λ n. Some (n, o.1)) (it.2 ∙ omega arith);
      })
      | inr f ↦ (let none : None ≡ Some time = rw f at due in absurd (cc))
    ]

-- a slot that is due is that of a request of the record that is due
pub due_is : (e : CoreState) (r : Node Local) (now peer slot time : ℕ) → CoreStands e r
    → due_at e.requests now e.settings.resend peer slot ≡ Some time → DueThere e r now peer slot time
due_is e r now peer slot time S due = elim (cases_lt peer e.settings.nodes) [
  | inr past ↦ absurd (no_slot e now peer slot time (S.no_more peer slot (λ low. absurd (omega (arith, low, past))))
      due)
  | inl low ↦ elim (cases_eq peer e.me) [
    | inl own ↦ absurd (no_slot e now peer slot time (S.no_more peer slot (λ _. own)) due)
    | inr other ↦ elim (cases_lt slot (credits_of e.settings e.me peer)) [
      | inl below ↦ due_open e r now peer slot time low other below (open_in slot (r.asked peer)) refl
          (sym (ap (option_and_then (due_time now e.settings.resend)) (request_found peer slot e r S low other below))
          ∙ due)
      | inr past ↦ (let p = S.requests peer low other in
          let none : slot_at e.requests peer slot ≡ None = ap
          (option_and_then (λ (q : PeerState). slice_get q.slots slot)) p.1
          ∙ slice_get_past p.0.slots slot (omega (arith, past, p.2.count)) in
          absurd (no_slot e now peer slot time none due))
    ]
  ]
]

-- ---- the next one

-- dues with the same parts are the same
same_due : {time t peer p slot s number n : ℕ} → time ≡ t → peer ≡ p → slot ≡ s → number ≡ n
    → ◌≡◌ {A = Due} (record { time = time; peer = peer; slot = slot; number = number })
    (record { time = t; peer = p; slot = s; number = n })
same_due a b c d = rw (a, b, c, d) refl

-- a due request of the record is at a slot that is due
due_of : (e : CoreState) (r : Node Local) (now : ℕ) (d : Due) → CoreStands e r
    → Among d (all_dues now e.settings.resend r.asked e.settings.nodes)
    → (peer : ℕ) × (peer < e.settings.nodes) × (q : IsDueOf now e.settings.resend peer 1 (r.asked peer) d) ×
    (due_at e.requests now e.settings.resend peer q.x.slot ≡ Some q.x.time)
due_of e r now d S h =
    let it = all_dues_has now e.settings.resend r.asked e.settings.nodes d h in
    let q = dues_has now e.settings.resend it.0 1 (r.asked it.0) d it.2 in
    (it.0, it.1, q, due_found e r now it.0 q.place q.x S it.1 q.at q.open_ q.long)

-- where no slot is due, no request is
pub next_none : (e : CoreState) (r : Node Local) (now : ℕ) → CoreStands e r → NoneIsDue e.requests now e.settings.resend
    → next_due e.settings r now ≡ None
next_none e r now S none = none_earliest (all_dues now e.settings.resend r.asked e.settings.nodes) (λ d h.
    let it = due_of e r now d S h in
    let both : None ≡ Some it.2.x.time = sym (none it.0 it.2.x.slot) ∙ it.3 in
    cc)

-- what is due next, of the request at a slot that is due
abbrev pub due_there : (e : CoreState) (r : Node Local) (now peer slot time : ℕ) → DueThere e r now peer slot time → Due
due_there e r now peer slot time D = record { time = time; peer = peer; slot = slot; number = suc D.place }

-- the slot that is due first is that of the earliest request that is due
pub next_is : (e : CoreState) (r : Node Local) (now peer slot : ℕ) → CoreStands e r
    → (F : IsFirstDue e.requests now e.settings.resend peer slot) → (D : DueThere e r now peer slot F.time)
    → next_due e.settings r now ≡ Some (due_there e r now peer slot F.time D)
next_is e r now peer slot S F D =
    let resend = e.settings.resend in
    let it = due_there e r now peer slot F.time D in
    let here : Among it (dues now resend peer 1 (r.asked peer)) = subst
    (λ d. Among d (dues now resend peer 1 (r.asked peer))) (same_due D.when refl D.same (omega arith))
    (dues_from now resend peer 1 (r.asked peer) D.place D.x D.at D.open_ D.long) in
    earliest_is (all_dues now resend r.asked e.settings.nodes) it
    (all_dues_from now resend r.asked e.settings.nodes it peer D.low here)
    (λ y h. let at = due_of e r now y S h in
    subst (λ z. NotAfter it z) (sym at.2.is) (F.first at.0 at.2.x.slot at.2.x.time at.3))
    (λ y h same. let at = due_of e r now y S h in
    let there = at.2.is in
    let p : at.0 ≡ peer = ap (λ (d : Due). d.peer) (sym there) ∙ same.1 in
    let slots : at.2.x.slot ≡ slot = ap (λ (d : Due). d.slot) (sym there) ∙ same.2 in
    let times : at.2.x.time ≡ F.time = ap (λ (d : Due). d.time) (sym there) ∙ same.0 in
    let numbers : suc at.2.place ≡ suc D.place = one_open (r.asked peer) (suc at.2.place) (suc D.place) at.2.x D.x
    (S.invariant_.orderly peer).apart (ap (λ q. slice_get (r.asked q) at.2.place) (sym p) ∙ at.2.at) D.at
    (slots ∙ sym D.same) at.2.open_ D.open_ in
    there ∙ same_due times p slots (omega (arith, numbers)))

-- ---- a tick

-- a tick at which nothing new is sent
record Retransmitted (old : CoreState) (now : ℕ) (a : Option SlotRef) (new : CoreState) : Type 0 where
  same : IsSameNode old new
  steps : (r : Node Local) → CoreStands old r
      → (a ≡ due_slot (next_due old.settings r now)) × CoreStands new (after_resend r now (next_due old.settings r now))

-- a tick at which nothing is due
tick_none : (e : CoreState) (now : ℕ) (new : CoreState) → NoneIsDue e.requests now e.settings.resend → new ≡ e
    → Retransmitted e now None new
tick_none e now new none is = record {
  same = rw is (record { settings = refl; me_is = refl; table = refl; segment_length = refl });
  steps = λ r S. let next = next_none e r now S none in (sym (ap due_slot next), rw (next, is) S);
}

-- a tick at which a slot is due
tick_some : (e : CoreState) (now peer slot : ℕ) (new : CoreState)
    → IsFirstDue e.requests now e.settings.resend peer slot
    → new ≡ record e { requests = with_slot_changed e.requests peer slot (as_retransmitted now) }
    → Retransmitted e now (Some (request_slot peer slot)) new
tick_some e now peer slot new F is = record {
  same = rw is (record { settings = refl; me_is = refl; table = refl; segment_length = refl });
  steps = λ r S.
      let D = due_is e r now peer slot F.time S F.due in
      let next = next_is e r now peer slot S F D in (
        sym (ap due_slot next),
        rw (next, is)
            (node_sent peer slot now (suc D.place) D.x e r S D.low D.other D.below D.at D.open_ D.same D.found),
      );
}

-- the slot that a resending tells
abbrev pub retransmitted_slot : Option (ℕ × ℕ) → Option SlotRef
retransmitted_slot None = None
retransmitted_slot (Some at) = Some (request_slot at.0 at.1)

-- what the code sends again is what the record has to send again
resends_step : (e : CoreState) (now : ℕ) (at : Option (ℕ × ℕ)) (new : CoreState) → Retransmits e now at new
    → Retransmitted e now (retransmitted_slot at) new
resends_step e now None new h = tick_none e now new h.0 h.1
resends_step e now (Some at) new h = tick_some e now at.0 at.1 new h.0 h.1

-- how a core tells its ticks
abbrev of_tick : Ticked → NodeAnswer CoreTold
of_tick a = OfTick a

-- a node that sends nothing of its own accord answers a tick by what is due, and is left as by a resending
tick_is : (meaning : Meaning) (e : CoreState) (r : Node Local) (now : ℕ) (due : Option Due) (new : CoreState)
    → next_due e.settings r now ≡ due → CoreStands new (after_resend r now due)
    → (retransmits (due_slot due) ≡ tick_answer (site_at meaning e).behaviour r (tick_choice (site_at meaning e) r now))
    × CoreStands new (after_tick (site_at meaning e) r now (tick_choice (site_at meaning e) r now))
tick_is meaning e r now None new is stands =
    let choice : tick_choice (site_at meaning e) r now ≡ Rests = ap (λ due. choice_of due None) is in
    rw choice (refl, stands)
tick_is meaning e r now (Some due) new is stands =
    let choice : tick_choice (site_at meaning e) r now ≡ RetransmitsDue due = ap (λ due. choice_of due None) is in
    rw choice (refl, stands)

-- a tick is the record's step
pub ticks_step : (meaning : Meaning) (e : CoreState) (now : ℕ) (at : Option (ℕ × ℕ)) (new : CoreState)
    → Retransmits e now at new
    → CoreSteps meaning e (record { now = now; event = Ticks; answer = OfTick (retransmits (retransmitted_slot at)) }) new
ticks_step meaning e now at new h =
    let it = resends_step e now at new h in
    record {
      same = it.same;
      steps = λ r S.
          let step = it.steps r S in
          let told = tick_is meaning e r now (next_due e.settings r now) new refl step.1 in
          (ap of_tick (ap retransmits step.0 ∙ told.0), told.1);
    }

-- what the table of slots tells of the next tick is so of the record
pub due_told : (e : CoreState) (now : ℕ) (is : Bool) → SlotsDue e.requests now e.settings.resend is → IsDue e now is
due_told e now true h = λ r S.
    let D = due_is e r now h.0.0 h.0.1 h.1.time S h.1.due in
    sym (ap is_some (next_is e r now h.0.0 h.0.1 S h.1 D))
due_told e now false h = λ r S. sym (ap is_some (next_none e r now S h))

-- and of the time from which on one is due
pub next_told : (e : CoreState) (time : Option ℕ) → SlotsNextDue e.requests e.settings.resend time → IsNextDue e time
next_told e None never = λ now low. due_told e now false (never now low)
next_told e (Some time) from = λ now. due_told e now (nat_le time now) (from now)
