-- What a core keeps gives its record's answer, and stands for the record's next one.
use Rattle.spec_node.specs.Invariant.{address_in}
use Rattle.std.proofs.Common.{get_or, ◌≡◌, ◌≢◌, inl, inr, ℕ, zero, suc, ◌+◌, ◌<◌, true, false, List, [], ◌∷◌, ◌++◌}
use Rattle.std.proofs.Common.{map, Option, None, Some, refl, sym, ap, ◌∙◌, subst, subst₂, arith, eq-eqb, ne_eqb}
use Rattle.std.specs.Prelude.{IfSome, IsSomeAnd, option_and_then}
use Rattle.std.specs.List.{slice_get}
use Rattle.std.specs.Option.{option_map}
use Rattle.std.proofs.lemmas.Bool.{cases_Bool, cases_eq, cases_lt}
use Rattle.std.proofs.lemmas.Option.{slice_get-get_or}
use Rattle.std.proofs.lemmas.List.{length-replicate}
use Rattle.std.proofs.Math.ListN.{replicate}
use Rattle.wire_message.specs.Parameters.{Parameters, AreInRange, credits_of}
use Rattle.spec_node.specs.Credits.{limits_of}
use Rattle.spec_node.specs.Behaviour.{Contact}
use Rattle.wire_message.specs.Message.{IsMessage, spelling}
use Rattle.wire_message.specs.Content.{Content, message_at_address}
use Rattle.base_lists.specs.Update.{update}
use Rattle.base_lists.proofs.Update.{slice_get-update, slice_get-update_other, length-update}
use Rattle.part_window.specs.SlotsState.{Vacant, Committed, PeerState, CanClaim, Refuses, IsNew, IsTakenAt, IsTakenWith}
use Rattle.part_window.specs.SlotsState.{new_peer, with_slot, with_slot_changed, with_given_in, slot_at}
use Rattle.part_window.specs.Due.{as_retransmitted}
use Rattle.part_window.proofs.CreditLookups.{slot_at-given_node, slot_at-slot_node, slot_at-changed_node}
use Rattle.part_window.specs.declared.credits.NoClaim.TheVariants as claims
use Rattle.part_window.specs.RepliesState.{ReplyState, Unused, Kept, last_number, JudgesAt, Judges, with_reply}
use Rattle.part_window.specs.RepliesState.{slot_at as reply_at}
use Rattle.part_window.specs.declared.replies.Judged.{Judged}
use Rattle.part_window.specs.declared.replies.Judged.TheVariants.{New, Duplicate, Stale}
use Rattle.part_handlers.specs.declared.table.Entry.{Entry}
use Rattle.part_handlers.specs.declared.rules.Role.{Role}
use Rattle.part_handlers.specs.declared.rules.Violation.{Violation}
use Rattle.part_handlers.specs.LogState.{log_of, notes}
use Rattle.part_handlers.specs.Runs.{Outcome, violation}
use Rattle.part_handlers.proofs.Logs.{notes-log_of}
use Rattle.spec_node.specs.declared.answer.Asked.TheVariants as asked
use Rattle.spec_node.specs.Record.{Request, Run, Node, opening_node, element_at, change}
use Rattle.spec_node.specs.Requests.{is_open, open_in, as_back, sent_at}
use Rattle.spec_node.specs.Executed.{greatest, last_run}
use Rattle.spec_node.specs.Step.{claim_answer, put, with_local, new_request, with_request, with_run, with_back}
use Rattle.node_core.specs.Kept.{Local, IsKept, segment_of, with_writes, nothing_done}
use Rattle.part_segment.specs.Image.{Write, AllFit, written_by}
use Rattle.part_segment.proofs.Images.{all_fit_none, all_fit-append, image-append}
use Rattle.part_handlers.specs.declared.lock_answer.Held.{Held}
use Rattle.part_handlers.specs.declared.lock_answer.Owner.TheVariants as owner
use Rattle.part_handlers.specs.Locks.{holds}
use Rattle.node_core.specs.HandlerRuns.{left_by_run}
use Rattle.spec_node.specs.Invariant.{IsOrderly, NodeInvariant}
use Rattle.node_core.specs.CoreState.{CoreState}
use Rattle.node_core.specs.Stands.{CoreStands, slot_state, reply_state}
use Rattle.node_core.specs.CoreStep.{IsOpening, Accepts, ContentFor, with_outcome}
use Rattle.spec_node.specs.Transition.{Transition}
use Rattle.spec_node.specs.Requests.{Claim}
use Rattle.spec_node.proofs.Lists.{numbered_push, numbered-change, slice_get_past}
use Rattle.spec_node.proofs.Puts.{put_same, put_other}
use Rattle.spec_node.proofs.Orderly.{orderly_accepts, orderly_back, orderly_sent, sent_slot, sent_content, back_slot}
use Rattle.spec_node.proofs.Orderly.{back_content}
use Rattle.spec_node.proofs.NodeKeeps.{asked_keeps, ran_keeps, same_keeps, opening_keeps}
use Rattle.node_core.specs.Sizes.{AreSlots}
use Rattle.spec_node.specs.declared.answer.Side.TheVariants as side
use Rattle.spec_node.proofs.Keeping.{fewer}
use Rattle.spec_node.proofs.Runs.{last_new, last_other, last_none, run_at_says}
use Rattle.node_core.proofs.Claiming.{Takes, exhausted_is, not_yet_is, accepted_is, stands_accepted, stands_back, stands_sent}
use Rattle.node_core.proofs.Claiming.{taken_open, open_taken_with}
use Rattle.base_lists.proofs.Places.{slice_get-replicate}

-- ---- one peer changed

-- what was updated has the new value
pub updated : {X : Type 0} (xs : List X) (k : ℕ) (f : X → X) (x : X) → slice_get xs k ≡ Some x
    → slice_get (update xs k f) k ≡ Some (f x)
updated xs k f x e = slice_get-update xs k f ∙ ap (option_map f) e

-- ---- at the opening

-- what is no other node has no slots
none_new : (e : CoreState) (peer slot : ℕ) (asked : List ℕ) → AreSlots e.settings e.me side.Request asked
    → IsNew asked e.me e.settings.last e.requests
    → (peer < e.settings.nodes → peer ≡ e.me) → slot_at e.requests peer slot ≡ None
none_new e peer slot asked A N h = elim (cases_lt peer e.settings.nodes) [
  | inl low ↦ (let there = slice_get-get_or asked peer 0 (omega (arith, low, A.nodes)) in
      let own : slice_get e.requests.peers peer ≡ Some (new_peer 0) = N.peers peer (get_or asked peer 0) there
      ∙ rw (eq-eqb peer e.me (h low)) refl in ap (option_and_then (λ (q : PeerState). slice_get q.slots slot)) own)
  | inr past ↦ ap (option_and_then (λ (q : PeerState). slice_get q.slots slot))
      (slice_get_past e.requests.peers peer (omega (arith, past, N.nodes, A.nodes)))
]

-- a new core stands for a record that is empty, by its own settings
opens_at : (e : CoreState) → AreInRange e.settings → e.me < e.settings.nodes → IsOpening e.settings e.me e.table e
    → CoreStands e (opening_node nothing_done)
opens_at e range me_in O = record {
  range = range;
  me_in = me_in;
  invariant_ = opening_keeps e.settings (IsKept e.settings) e.me nothing_done
      (record { writes = all_fit_none e.settings.segment; locks = refl });
  last = O.requests.last;
  requests = λ peer low other. let count = credits_of e.settings e.me peer in (
    new_peer count,
    O.requests.peers peer count (O.asked_are.others peer low other) ∙ rw (ne_eqb peer e.me other) refl,
    record {
      given = refl;
      count = length-replicate count Vacant;
      slots = λ slot l. slice_get-replicate count slot Vacant l;
    },
  );
  no_more = λ peer slot h. none_new e peer slot O.asked O.asked_are O.requests h;
  replies = λ peer low other. let count = credits_of e.settings peer e.me in (
    replicate count Unused,
    O.replies.peers peer count (O.ran_are.others peer low other) ∙ rw (ne_eqb peer e.me other) refl,
    record {
      count = length-replicate count Unused;
      slots = λ slot l. slice_get-replicate count slot Unused l;
    },
  );
  own_ran = refl;
  segment_is = O.segment_is;
  locks_are = O.locks_are;
  cells_are = O.cells_are;
  log_is = O.log_is;
}

-- a new core stands for a record that is empty
pub core_opens : (s : Parameters) (me : ℕ) (table : List (Option Entry)) (e : CoreState) → AreInRange s → me < s.nodes
    → IsOpening s me table e → CoreStands e (opening_node nothing_done)
core_opens s me table e range low O =
    opens_at e (subst AreInRange (sym O.settings) range) (rw (O.settings, O.me_is) low)
    (subst (λ t. IsOpening t e.me e.table e) (sym O.settings)
    (subst (λ m. IsOpening s m e.table e) (sym O.me_is) (subst (λ b. IsOpening s me b e) (sym O.table_is) O)))

-- ---- segment, locks, cells and log

-- all of what a core keeps beside its slots is set
pub local_stands : (e new : CoreState) (r : Node Local) (l : Local) → CoreStands e r
    → new ≡ record e { segment = new.segment; locks = new.locks; cells = new.cells; log = new.log }
    → IsKept e.settings e.me l → new.segment ≡ segment_of e.settings l → new.locks ≡ l.locks
    → new.cells ≡ l.cells → new.log ≡ log_of l.violations → CoreStands new (with_local r l)
local_stands e new r l S is kept same_segment same_locks same_cells same_log =
    rw is (record {
      range = S.range;
      me_in = S.me_in;
      invariant_ = same_keeps e.settings (IsKept e.settings) e.me r l S.invariant_ kept;
      last = S.last;
      requests = S.requests;
      no_more = S.no_more;
      replies = S.replies;
      own_ran = S.own_ran;
      segment_is = same_segment;
      locks_are = same_locks;
      cells_are = same_cells;
      log_is = same_log;
    })

-- a core whose cells are set stands for the record with those cells
pub cells_stand : (e : CoreState) (r : Node Local) (cells : _) → CoreStands e r
    → CoreStands (record e { cells = cells }) (with_local r (record r.local { cells = cells }))
cells_stand e r cells S =
    let kept = S.invariant_.kept in
    local_stands e (record e { cells = cells }) r (record r.local { cells = cells }) S refl
    (record { writes = kept.writes; locks = kept.locks }) S.segment_is S.locks_are refl S.log_is

-- a core whose segment was written to stands for the record with those writes
pub segment_stand : (e : CoreState) (r : Node Local) (writes : List Write) → CoreStands e r
    → AllFit e.settings.segment writes
    → CoreStands (record e { segment = written_by e.segment writes }) (with_local r (with_writes r.local writes))
segment_stand e r writes S fits =
    let kept = S.invariant_.kept in
    let len = e.settings.segment in
    local_stands e (record e { segment = written_by e.segment writes }) r (with_writes r.local writes) S refl
    (record { writes = all_fit-append len r.local.writes writes kept.writes fits; locks = kept.locks })
    (ap (λ (bytes : List ℕ). written_by bytes writes) S.segment_is ∙ sym (image-append len r.local.writes writes))
    S.locks_are S.cells_are S.log_is

-- a core whose locks are set, and that noted violations
pub locks_stand : (e : CoreState) (r : Node Local) (held : List Held) (found : List Violation) → CoreStands e r
    → holds owner.Handler held ≡ false
    → CoreStands (record e { locks = held; log = notes e.log found })
    (with_local r (record r.local { locks = held; violations = r.local.violations ++ found }))
locks_stand e r held found S none =
    let kept = S.invariant_.kept in
    local_stands e (record e { locks = held; log = notes e.log found }) r
    (record r.local { locks = held; violations = r.local.violations ++ found }) S refl
    (record { writes = kept.writes; locks = none }) S.segment_is refl S.cells_are
    (ap (λ log. notes log found) S.log_is ∙ notes-log_of r.local.violations found)

-- violations are noted
pub noted_stands : (e : CoreState) (r : Node Local) (found : List Violation) → CoreStands e r
    → CoreStands (record e { log = notes e.log found })
    (with_local r (record r.local { violations = r.local.violations ++ found }))
noted_stands e r found S =
    let kept = S.invariant_.kept in
    local_stands e (record e { log = notes e.log found }) r
    (record r.local { violations = r.local.violations ++ found }) S refl
    (record { writes = kept.writes; locks = kept.locks }) S.segment_is S.locks_are S.cells_are
    (ap (λ log. notes log found) S.log_is ∙ notes-log_of r.local.violations found)

-- a handler ran
pub outcome_stands : (e : CoreState) (r : Node Local) (role : Role) (o : Outcome) → CoreStands e r
    → AllFit e.settings.segment o.writes
    → CoreStands (with_outcome e role o) (with_local r (left_by_run role o r.local))
outcome_stands e r role o S fits =
    let kept = S.invariant_.kept in
    let len = e.settings.segment in
    let found = map (violation role) o.refused in
    local_stands e (with_outcome e role o) r (left_by_run role o r.local) S refl
    (record { writes = all_fit-append len r.local.writes o.writes kept.writes fits; locks = kept.locks })
    (ap (λ (bytes : List ℕ). written_by bytes o.writes) S.segment_is
    ∙ sym (image-append len r.local.writes o.writes))
    S.locks_are refl (ap (λ log. notes log found) S.log_is ∙ notes-log_of r.local.violations found)

-- ---- a request

-- a refusal for want of numbers is the record's answer
pub node_exhausted : (to : ℕ) (e : CoreState) (r : Node Local) → CoreStands e r → to < e.settings.nodes → to ≢ e.me
    → IfSome (slice_get e.requests.peers to) (λ p. Refuses p e.requests.last claims.Exhausted)
    → claim_answer (limits_of e.settings e.me to) to (r.asked to) ≡ asked.Exhausted
node_exhausted to e r S low other h =
    let p = S.requests to low other in
    exhausted_is e.settings e.me to p.0 (r.asked to) e.requests.last p.2 S.last
    (subst (λ o. IfSome o (λ q. Refuses q e.requests.last claims.Exhausted)) p.1 h)

-- a refusal for want of a slot is the record's answer
pub node_not_yet : (to : ℕ) (e : CoreState) (r : Node Local) → CoreStands e r → to < e.settings.nodes → to ≢ e.me
    → IfSome (slice_get e.requests.peers to) (λ p. Refuses p e.requests.last claims.NotYet)
    → claim_answer (limits_of e.settings e.me to) to (r.asked to) ≡ asked.NotYet
node_not_yet to e r S low other h =
    let p = S.requests to low other in
    let full = subst (λ o. IfSome o (λ q. Refuses q e.requests.last claims.NotYet)) p.1 h in
    not_yet_is e.settings e.me to p.0 (r.asked to) e.requests.last p.2 S.last full.0 full.1

-- a request that is claimed for a node, with its slot and number
abbrev pub claiming : (now to : ℕ) → Content → (slot number : ℕ) → Transition ContentFor Claim
claiming now to content slot number = record {
  now = now;
  event = record { to = to; content = content };
  answer = record { slot = slot; number = number };
}

-- the core accepts, and stands for what that leaves
pub record NodeAccepts (e : CoreState) (to : ℕ) (r : Node Local) (c : Content) (now slot number : ℕ)
    (new : CoreState) : Type 0 where
  pub takes : (p : PeerState) × Takes e.settings e.me to p (r.asked to) slot number
  pub stands : CoreStands new (with_request r now to slot c)

-- of the requests of the peer, one is accepted
pub invariant_accepts : (e : CoreState) (to now slot number : ℕ) (r : Node Local) (p : PeerState) (c : Content)
    → CoreStands e r → to ≢ e.me → Takes e.settings e.me to p (r.asked to) slot number
    → IsMessage (message_at_address (address_in e.settings e.me to slot number) c)
    → NodeInvariant e.settings (IsKept e.settings) e.me (with_request r now to slot c)
invariant_accepts e to now slot number r p c S other T spelled =
    let xs = r.asked to in
    let asked : Request = record { slot = slot; content = c; time = now; back = false } in
    let O = S.invariant_.orderly to in
    asked_keeps e.settings (IsKept e.settings) e.me to r (with_request r now to slot c) (xs ++ asked ∷ []) S.invariant_
    refl refl S.invariant_.kept
    (λ h. absurd (other (sym h)))
    (subst (λ q. IsOrderly (limits_of e.settings e.me to) (xs ++ new_request now q c ∷ [])) (sym T.lowest)
    (orderly_accepts (limits_of e.settings e.me to) xs c now O
    (fewer xs (credits_of e.settings e.me to) slot O.apart O.low T.below T.free) T.left))
    (λ k x f. elim (numbered_push xs asked k x f) [
      | inl was ↦ S.invariant_.asked to k x was
      | inr new ↦ subst (λ (y : Request). IsMessage (message_at_address
          (address_in e.settings e.me to y.slot k) y.content)) new.1
          (subst (λ n. IsMessage (message_at_address (address_in e.settings e.me to slot n) c)) (T.next
          ∙ (omega arith ∙ sym new.0))
          spelled)
    ])

-- a request that is accepted is the record's step
pub node_accepts : (to now slot number : ℕ) (e : CoreState) (r : Node Local) (c : Content) (new : CoreState)
    → CoreStands e r → to < e.settings.nodes → to ≢ e.me
    → Accepts e (claiming now to c slot number) new
    → NodeAccepts e to r c now slot number new
node_accepts to now slot number e r c new S low other A =
    let s = e.settings in
    let p = S.requests to low other in
    let claim = subst (λ o. IfSome o (λ q. CanClaim q e.requests.last slot × (number ≡ q.given + 1))) p.1 A.claim in
    let T = accepted_is s e.me to p.0 (r.asked to) e.requests.last slot number p.2 (S.invariant_.orderly to) S.last
    claim.0 claim.1 in
    let asked : Request = record { slot = slot; content = c; time = now; back = false } in
    record {
      takes = (p.0, T);
      stands = rw A.kept (record {
        range = S.range;
        me_in = S.me_in;
        invariant_ = invariant_accepts e to now slot number r p.0 c S other T A.spelled;
        last = S.last;
        requests = λ peer l d. elim (cases_eq peer to) [
          | inl same ↦ (
            with_given_in p.0 slot number (Committed number now
                (spelling (message_at_address (address_in s e.me to slot number) c))),
            rw same (updated e.requests.peers to
                (λ x. with_given_in x slot number
                (Committed number now (spelling (message_at_address (address_in s e.me to slot number) c)))) p.0 p.1),
            rw (same, put_same r.asked to (r.asked to ++ asked ∷ []))
                (stands_accepted s e.me to p.0 (r.asked to) c slot number now p.2 T),
          )
          | inr d' ↦ (let o = S.requests peer l d in (
            o.0,
            slice_get-update_other e.requests.peers to
                (λ x. with_given_in x slot number
                (Committed number now (spelling (message_at_address (address_in s e.me to slot number) c)))) peer d' ∙ o.1,
            rw (put_other r.asked to (r.asked to ++ asked ∷ []) peer d') o.2,
          ))
        ];
        no_more =
            λ peer at h. slot_at-given_node e.requests to slot number
            (Committed number now (spelling (message_at_address (address_in s e.me to slot number) c))) peer at
            (λ same. other (sym same ∙ h (rw same low))) ∙ S.no_more peer at h;
        replies = S.replies;
        own_ran = S.own_ran;
        segment_is = S.segment_is;
        locks_are = S.locks_are;
        cells_are = S.cells_are;
        log_is = S.log_is;
      });
    }

-- ---- a reply

-- the slot of a request to a peer
pub request_found : (peer slot : ℕ) (e : CoreState) (r : Node Local) → CoreStands e r → peer < e.settings.nodes
    → peer ≢ e.me → slot < credits_of e.settings e.me peer
    → slot_at e.requests peer slot ≡ Some (slot_state e.settings e.me peer (open_in slot (r.asked peer)))
request_found peer slot e r S low other below =
    let p = S.requests peer low other in
    ap (option_and_then (λ (q : PeerState). slice_get q.slots slot)) p.1 ∙ p.2.slots slot below

-- the slot of a peer's request
pub reply_found : (peer slot : ℕ) (e : CoreState) (r : Node Local) → CoreStands e r → peer < e.settings.nodes
    → peer ≢ e.me
    → slot < credits_of e.settings peer e.me
    → reply_at e.replies peer slot ≡ Some (reply_state e.settings e.me peer (last_run slot (r.ran peer)))
reply_found peer slot e r S low other below =
    let p = S.replies peer low other in
    ap (option_and_then (λ (q : List ReplyState). slice_get q slot)) p.1 ∙ p.2.slots slot below

-- a slot that is taken with a number has that request open in the record
pub node_taken : (from slot number : ℕ) (e : CoreState) (r : Node Local) → CoreStands e r → from < e.settings.nodes
    → from ≢ e.me → slot < credits_of e.settings e.me from → IsTakenAt e.requests from slot number
    → is_open slot (element_at (r.asked from) number) ≡ true
node_taken from slot number e r S low other below h =
    taken_open e.settings e.me from (r.asked from) slot number
    (subst (λ o. IsSomeAnd o (IsTakenWith number)) (request_found from slot e r S low other below) h)

-- a slot that isn't taken with a number hasn't that request open in the record
pub node_not_taken : (from slot number : ℕ) (e : CoreState) (r : Node Local) → CoreStands e r → from < e.settings.nodes
    → from ≢ e.me → slot < credits_of e.settings e.me from → (IsTakenAt e.requests from slot number → ⊥)
    → is_open slot (element_at (r.asked from) number) ≡ false
node_not_taken from slot number e r S low other below h =
    elim (cases_Bool (is_open slot (element_at (r.asked from) number))) [
      | inr f ↦ f
      | inl t ↦ absurd (h (subst (λ o. IsSomeAnd o (IsTakenWith number))
          (sym (request_found from slot e r S low other below))
          (open_taken_with e.settings e.me from (r.asked from) slot number (S.invariant_.orderly from) t)))
    ]

-- a request of the peer comes back
pub invariant_back : (e : CoreState) (from number : ℕ) (r : Node Local) → CoreStands e r
    → NodeInvariant e.settings (IsKept e.settings) e.me (with_back r from number r.local)
invariant_back e from number r S =
    asked_keeps e.settings (IsKept e.settings) e.me from r (with_back r from number r.local)
    (change as_back (r.asked from) number)
    S.invariant_ refl refl S.invariant_.kept
    (λ h. change_none number (r.asked from) (ap r.asked (sym h) ∙ S.invariant_.own))
    (orderly_back (limits_of e.settings e.me from) (r.asked from) number (S.invariant_.orderly from))
    (λ k x f. let it = numbered-change as_back (r.asked from) number k x f in
    subst₂ (λ slot content. IsMessage (message_at_address (address_in e.settings e.me from slot k) content))
    (sym (back_slot it.2))
    (sym (back_content it.2)) (S.invariant_.asked from k it.0 it.1))
  where
    change_none : (k : ℕ) (xs : List Request) → xs ≡ [] → change as_back xs k ≡ []
    change_none zero xs h = h
    change_none (suc p) xs h = rw h refl

-- a credit that comes back is the record's step
pub node_returns : (from slot number : ℕ) (e : CoreState) (r : Node Local) (new : CoreState) → CoreStands e r
    → from < e.settings.nodes → from ≢ e.me → slot < credits_of e.settings e.me from
    → is_open slot (element_at (r.asked from) number) ≡ true
    → new ≡ record e { requests = with_slot e.requests from slot Vacant }
    → CoreStands new (with_back r from number r.local)
node_returns from slot number e r new S low other below t is =
    let s = e.settings in
    let O = S.invariant_.orderly from in
    let p = S.requests from low other in
    let xs = change as_back (r.asked from) number in
    rw is (record {
      range = S.range;
      me_in = S.me_in;
      invariant_ = invariant_back e from number r S;
      last = S.last;
      requests = λ peer l d. elim (cases_eq peer from) [
        | inl same ↦ (
          record p.0 { slots = update p.0.slots slot (λ _. Vacant) },
          rw same (updated e.requests.peers from (λ x. record x { slots = update x.slots slot (λ _. Vacant) }) p.0
              p.1),
          rw (same, put_same r.asked from xs) (stands_back s e.me from p.0 (r.asked from) slot number p.2 O below t),
        )
        | inr d' ↦ (let o = S.requests peer l d in (
          o.0,
          slice_get-update_other e.requests.peers from (λ x. record x { slots = update x.slots slot (λ _. Vacant) })
              peer d' ∙ o.1,
          rw (put_other r.asked from xs peer d') o.2,
        ))
      ];
      no_more =
          λ peer at h. slot_at-slot_node e.requests from slot Vacant peer at
          (λ same. other (sym same ∙ h (rw same low))) ∙ S.no_more peer at h;
      replies = S.replies;
      own_ran = S.own_ran;
      segment_is = S.segment_is;
      locks_are = S.locks_are;
      cells_are = S.cells_are;
      log_is = S.log_is;
    })

-- ---- a request that is delivered

-- the number that a slot keeps is the greatest one run in it
last_is : (s : Parameters) (me peer slot : ℕ) (rs : List Run)
    → last_number (reply_state s me peer (last_run slot rs)) ≡ greatest slot rs
last_is s me peer slot rs = go (last_run slot rs) refl
  where
    go : (o : Option Run) → last_run slot rs ≡ o → last_number (reply_state s me peer o) ≡ greatest slot rs
    go None e = sym (last_none slot rs e)
    go (Some r) e = (run_at_says slot (greatest slot rs) rs r e).0

-- a number is judged by the greatest one alone
judges_last : (state : ReplyState) (number last : ℕ) (j : Judged) → last_number state ≡ last → Judges state number j
    → Judges (Kept last []) number j
judges_last state number last New e h = omega arith
judges_last state number last Duplicate e h = h ∙ e
judges_last state number last Stale e h = omega arith

-- the number stands to the greatest one run in the slot as it was judged
pub node_judged : (from slot number : ℕ) (e : CoreState) (r : Node Local) (j : Judged) → CoreStands e r
    → from < e.settings.nodes → from ≢ e.me → slot < credits_of e.settings from e.me
    → JudgesAt e.replies from slot number j → Judges (Kept (greatest slot (r.ran from)) []) number j
node_judged from slot number e r j S low other below h =
    judges_last (reply_state e.settings e.me from (last_run slot (r.ran from))) number (greatest slot (r.ran from)) j
    (last_is e.settings e.me from slot (r.ran from))
    (subst (λ o. IfSome o (λ x. Judges x number j)) (reply_found from slot e r S low other below) h)

-- a message of a peer
abbrev pub contact_of : CoreState → (peer slot number : ℕ) → Contact
contact_of e peer slot number = record { me = e.me; peer = peer; slot = slot; number = number }

-- a request that ran is the record's step
pub node_runs : (from slot number : ℕ) (e : CoreState) (r : Node Local) (c reply : Content) (new : CoreState)
    → CoreStands e r → from < e.settings.nodes → from ≢ e.me → slot < credits_of e.settings from e.me
    → greatest slot (r.ran from) < number
    → IsMessage (message_at_address (address_in e.settings e.me from slot number) reply)
    → new ≡ record e {
      replies = with_reply e.replies from slot number
          (spelling (message_at_address (address_in e.settings e.me from slot number) reply));
    }
    → CoreStands new (with_run r (contact_of e from slot number) c (r.local, reply))
node_runs from slot number e r c reply new S low other below above spelled is =
    let s = e.settings in
    let p = S.replies from low other in
    let run : Run = record { number = number; slot = slot; content = c; reply = reply } in
    let rs = r.ran from in
    let q = with_run r (contact_of e from slot number) c (r.local, reply) in
    let state = p.2.slots slot below in
    let kept : ReplyState = Kept number (spelling (message_at_address (address_in s e.me from slot number) reply)) in
    rw is (record {
      range = S.range;
      me_in = S.me_in;
      invariant_ = ran_keeps s (IsKept s) e.me from r q run S.invariant_ refl refl S.invariant_.kept spelled;
      last = S.last;
      requests = S.requests;
      no_more = S.no_more;
      replies = λ peer l d. elim (cases_eq peer from) [
        | inl same ↦ (
          update p.0 slot (λ _. kept),
          rw same (updated e.replies.peers from (λ x. update x slot (λ _. kept)) p.0 p.1),
          rw (same, put_same r.ran from (rs ++ run ∷ [])) (record {
            count = length-update p.0 slot (λ _. kept) ∙ p.2.count;
            slots = λ k l'. elim (cases_eq k slot) [
              | inl here ↦ rw here
                  (updated p.0 slot (λ _. kept) _ state
                  ∙ ap Some (ap (reply_state s e.me from) (sym (last_new rs run above))))
              | inr there ↦ slice_get-update_other p.0 slot (λ _. kept) k there
                  ∙ (p.2.slots k l' ∙ ap (λ o. Some (reply_state s e.me from o)) (sym (last_other k rs run there)))
            ];
          }),
        )
        | inr d' ↦ (let o = S.replies peer l d in (
          o.0,
          slice_get-update_other e.replies.peers from (λ x. update x slot (λ _. kept)) peer d' ∙ o.1,
          rw (put_other r.ran from (rs ++ run ∷ []) peer d') o.2,
        ))
      ];
      own_ran = put_other r.ran from (rs ++ run ∷ []) e.me (λ same. other (sym same)) ∙ S.own_ran;
      segment_is = S.segment_is;
      locks_are = S.locks_are;
      cells_are = S.cells_are;
      log_is = S.log_is;
    })

-- ---- a request that is sent again

-- a request to the peer is sent again
invariant_sent : (e : CoreState) (to now number : ℕ) (r : Node Local) → CoreStands e r → to ≢ e.me
    → NodeInvariant e.settings (IsKept e.settings) e.me
    (record r { asked = put r.asked to (change (sent_at now) (r.asked to) number) })
invariant_sent e to now number r S other =
    asked_keeps e.settings (IsKept e.settings) e.me to r
    (record r { asked = put r.asked to (change (sent_at now) (r.asked to) number) })
    (change (sent_at now) (r.asked to) number) S.invariant_ refl refl S.invariant_.kept
    (λ h. absurd (other (sym h)))
    (orderly_sent (limits_of e.settings e.me to) now (r.asked to) number (S.invariant_.orderly to))
    (λ k x f. let it = numbered-change (sent_at now) (r.asked to) number k x f in
    subst₂ (λ slot content. IsMessage (message_at_address (address_in e.settings e.me to slot k) content)) (sym (sent_slot it.2))
    (sym (sent_content it.2)) (S.invariant_.asked to k it.0 it.1))

-- a request that is sent again is the record's step
pub node_sent : (to slot now number : ℕ) (x : Request) (e : CoreState) (r : Node Local) → CoreStands e r
    → to < e.settings.nodes → to ≢ e.me → slot < credits_of e.settings e.me to → element_at (r.asked to) number ≡ Some x
    → x.back ≡ false → x.slot ≡ slot → open_in slot (r.asked to) ≡ Some (number, x)
    → CoreStands (record e { requests = with_slot_changed e.requests to slot (as_retransmitted now) })
    (record r { asked = put r.asked to (change (sent_at now) (r.asked to) number) })
node_sent to slot now number x e r S low other below at open_ same found =
    let s = e.settings in
    let p = S.requests to low other in
    let xs = change (sent_at now) (r.asked to) number in
    record {
      range = S.range;
      me_in = S.me_in;
      invariant_ = invariant_sent e to now number r S other;
      last = S.last;
      requests = λ peer l d. elim (cases_eq peer to) [
        | inl here ↦ (
          record p.0 { slots = update p.0.slots slot (as_retransmitted now) },
          rw here (updated e.requests.peers to (λ y. record y { slots = update y.slots slot (as_retransmitted now) }) p.0
              p.1),
          rw (here, put_same r.asked to xs)
              (stands_sent s e.me to now p.0 (r.asked to) slot number x p.2 (S.invariant_.orderly to) below at open_
              same found),
        )
        | inr d' ↦ (let o = S.requests peer l d in (
          o.0,
          slice_get-update_other e.requests.peers to (λ y. record y { slots = update y.slots slot (as_retransmitted now) })
              peer d' ∙ o.1,
          rw (put_other r.asked to xs peer d') o.2,
        ))
      ];
      no_more =
          λ peer at h. slot_at-changed_node e.requests to slot (as_retransmitted now) peer at
          (λ same. other (sym same ∙ h (rw same low))) ∙ S.no_more peer at h;
      replies = S.replies;
      own_ran = S.own_ran;
      segment_is = S.segment_is;
      locks_are = S.locks_are;
      cells_are = S.cells_are;
      log_is = S.log_is;
    }
