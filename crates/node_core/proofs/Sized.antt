-- The tables keep their sizes.
use Rattle.std.proofs.Common.{◌<◌, arith, refl, eq-eqb, get_or, ℕ, List, ◌∙◌, ap, Option, Some, None, Bool}
use Rattle.std.proofs.Common.{if◌then◌else◌, ne_eqb, length, replicate}
use Rattle.std.proofs.lemmas.List.{length-replicate}
use Rattle.std.proofs.lemmas.Option.{slice_get-get_or}
use Rattle.wire_message.specs.Parameters.{Parameters, AreInRange, credits_of}
use Rattle.spec_node.specs.declared.answer.Side.TheVariants as side
use Rattle.part_window.specs.SlotsState.{SlotsState, SlotState, PeerState, Vacant, IsNew, new_peer}
use Rattle.part_window.specs.SlotsState.{with_slot as with_request_slot}
use Rattle.part_window.specs.SlotsState.{Committed, CanClaim, slot_count, with_request}
use Rattle.part_window.specs.declared.credits.NoClaim.{NoClaim}
use Rattle.std.specs.Prelude.{Result, Ok, Err, IfOk, OnErr, IfSome, slice_get}
use Rattle.std.proofs.Common.{◌≡◌, ◌≢◌}
use Rattle.node_core.specs.CoreState.{CoreState}
use Rattle.part_window.proofs.CreditShape as requests
use Rattle.part_window.specs.RepliesState.{RepliesState, ReplyState, with_reply, Kept, Unused}
use Rattle.part_window.specs.RepliesState.{IsNew as IsNewReplies}
use Rattle.part_window.proofs.ReplyShape as replies
use Rattle.node_core.specs.Sizes.{IsSized, AreSlots}

-- where a reply is kept
pub sized_reply : (s : Parameters) (me : ℕ) (asked : SlotsState) (kept : RepliesState) (from slot number : ℕ)
    (message : List ℕ)
    → IsSized s me asked kept → IsSized s me asked (with_reply kept from slot number message)
sized_reply s me asked kept from slot number message sized = record {
  range = sized.range;
  requesters = sized.requesters;
  request_slots = sized.request_slots;
  none_asked = sized.none_asked;
  responders = replies.nodes-changed kept from slot (λ _. Kept number message) ∙ sized.responders;
  kept_slots =
      λ peer below other. replies.slot_count-changed kept from slot (λ _. Kept number message) peer
      ∙ sized.kept_slots peer below other;
  none_kept = replies.slot_count-changed kept from slot (λ _. Kept number message) me ∙ sized.none_kept;
}

-- where a slot of requests has a new state
pub sized_slot : (s : Parameters) (me : ℕ) (asked : SlotsState) (kept : RepliesState) (to slot : ℕ) (state : SlotState)
    → IsSized s me asked kept → IsSized s me (with_request_slot asked to slot state) kept
sized_slot s me asked kept to slot state sized = record {
  range = sized.range;
  requesters = requests.nodes-changed asked to slot (λ _. state) ∙ sized.requesters;
  request_slots =
      λ peer below other. requests.slot_count-changed asked to slot (λ _. state) peer
      ∙ sized.request_slots peer below other;
  none_asked = requests.slot_count-changed asked to slot (λ _. state) me ∙ sized.none_asked;
  responders = sized.responders;
  kept_slots = sized.kept_slots;
  none_kept = sized.none_kept;
}

-- how many slots a peer has
abbrev count_requests : Option PeerState → ℕ
count_requests o = elim o [ Some p ↦ length p.slots | None ↦ 0 ]

abbrev count_replies : Option (List ReplyState) → ℕ
count_replies o = elim o [ Some p ↦ length p | None ↦ 0 ]

-- new tables
pub sized_new : (s : Parameters) → AreInRange s → (me : ℕ) → me < s.nodes → (asked ran : List ℕ)
    → AreSlots s me side.Request asked → AreSlots s me side.Reply ran → (table : SlotsState) (kept : RepliesState)
    → IsNew asked me s.last table → IsNewReplies ran me kept → IsSized s me table kept
sized_new s range me me_in asked ran asked_are ran_are table kept new_table new_kept = record {
  range = range;
  requesters = new_table.nodes ∙ asked_are.nodes;
  request_slots = λ peer below other. let count = credits_of s me peer in
      ap count_requests (new_table.peers peer count (asked_are.others peer below other))
      ∙ ap (λ (b : Bool). count_requests (Some (new_peer (if b then 0 else count)))) (ne_eqb peer me other)
      ∙ length-replicate count Vacant;
  none_asked = let count = get_or asked me 0 in
      ap count_requests (new_table.peers me count (slice_get-get_or asked me 0 (omega (arith, asked_are.nodes))))
      ∙ ap (λ (b : Bool). count_requests (Some (new_peer (if b then 0 else count)))) (eq-eqb me me refl);
  responders = new_kept.nodes ∙ ran_are.nodes;
  kept_slots = λ peer below other. let count = credits_of s peer me in
      ap count_replies (new_kept.peers peer count (ran_are.others peer below other))
      ∙ ap (λ (b : Bool). count_replies (Some (replicate (if b then 0 else count) Unused))) (ne_eqb peer me other)
      ∙ length-replicate count Unused;
  none_kept = let count = get_or ran me 0 in
      ap count_replies (new_kept.peers me count (slice_get-get_or ran me 0 (omega (arith, ran_are.nodes))))
      ∙ ap (λ (b : Bool). count_replies (Some (replicate (if b then 0 else count) Unused))) (eq-eqb me me refl);
}

-- where a request was asked for: its slot has it, or nothing changed
pub sized_asked : (s : Parameters) (me : ℕ) (asked new : SlotsState) (kept : RepliesState) (to now : ℕ)
    (result : Result (ℕ × ℕ) NoClaim) (message : ℕ × ℕ → List ℕ)
    → IfOk result (λ r. new ≡ with_request asked to (record { slot = r.0; number = r.1; time = now }) (message r))
    → OnErr result (new ≡ asked) → IsSized s me asked kept → IsSized s me new kept
sized_asked s me asked new kept to now (Ok r) message is refused sized =
    let state : SlotState = Committed r.1 now (message r) in
    rw is (record {
      range = sized.range;
      requesters = requests.nodes-given asked to r.0 r.1 state ∙ sized.requesters;
      request_slots =
          λ peer below other. requests.slot_count-given asked to r.0 r.1 state peer
          ∙ sized.request_slots peer below other;
      none_asked = requests.slot_count-given asked to r.0 r.1 state me ∙ sized.none_asked;
      responders = sized.responders;
      kept_slots = sized.kept_slots;
      none_kept = sized.none_kept;
    })
sized_asked s me asked new kept to now (Err why) message is refused sized = rw refused sized

-- a request that was claimed: its slot is one of its pair
pub claimed_slot : (core : CoreState) (to slot : ℕ) (peer : Option PeerState)
    → IsSized core.settings core.me core.requests core.replies → to < core.settings.nodes → to ≢ core.me
    → slice_get core.requests.peers to ≡ peer → IfSome peer (λ p. CanClaim p core.requests.last slot)
    → slot < credits_of core.settings core.me to
claimed_slot core to slot None sized low other is claim =
    let there = slice_get-get_or core.requests.peers to (new_peer 0) (omega (arith, sized.requesters, low)) in
    absurd (cc)
claimed_slot core to slot (Some p) sized low other is claim =
    let count : slot_count core.requests to ≡ length p.slots = ap count_requests is in
    omega (arith, count, sized.request_slots to low other, claim.in_range)
