-- A request that a tick sent stands at its slot after it, with its number: again, or for the first time.
use Rattle.std.proofs.Common.{◌≡◌, ◌≢◌, ℕ, suc, ◌+◌, ◌<◌, ◌==◌, ◌&&◌, not, true, List, [], ◌∷◌, ◌++◌, Some, None}
use Rattle.std.proofs.Common.{length}
use Rattle.std.proofs.Common.{refl, sym, ap, ◌∙◌, subst, arith, ne_eqb}
use Rattle.std.specs.Prelude.{nat_lt}
use Rattle.std.specs.List.{slice_get}
use Rattle.std.specs.Option.{option_map}
use Rattle.std.proofs.lemmas.Bool.{and_parts, lt-ltb, ltb-true}
use Rattle.std.proofs.lemmas.Bool.Decides.{nat_tests}
use Rattle.wire_message.specs.Parameters.{Parameters, credits_of}
use Rattle.base_lists.specs.Numbered.{element_at, change}
use Rattle.base_lists.proofs.Put.{put_same}
use Rattle.spec_node.specs.Record.{Request, Node}
use Rattle.spec_node.specs.Credits.{limits_of}
use Rattle.spec_node.specs.Behaviour.{Sending}
use Rattle.spec_node.specs.Requests.{Due, all_dues, free_slot, next_claim, open_in, sent_at, outstanding}
use Rattle.spec_node.specs.Step.{Site, after_resend, after_sending, can_ask, new_request, next_due, put, request_slot}
use Rattle.spec_node.specs.Invariant.{NodeInvariant}
use Rattle.spec_node.specs.SlotMessages.{has_slot, number_in_slot}
use Rattle.spec_node.proofs.Keeping.{none_is, open_new, open_sent_here, open_taken}
use Rattle.spec_node.proofs.Orderly.{orderly_sent}
use Rattle.spec_node.proofs.Slots.{free_le, free_outside}
use Rattle.node_core.proofs.Dues.{IsDueOf, all_dues_has, dues_has, earliest_in}

-- a node asks nothing of itself
another : (requests : List Request) (place : ℕ) (request : Request) → requests ≡ []
    → slice_get requests place ≡ Some request → ⊥
another requests place request none there =
    let both : None ≡ Some request = sym (ap (λ (all : List Request). slice_get all place) none) ∙ there in cc

-- it has the slot
slot_there : (settings : Parameters) (me peer slot : ℕ) → peer < settings.nodes → peer ≢ me
    → slot < credits_of settings me peer → has_slot settings me (request_slot peer slot) ≡ true
slot_there settings me peer slot low other few =
    let there : nat_lt peer settings.nodes ≡ true = grind (arith, nat_tests) in
    let under : nat_lt slot (credits_of settings me peer) ≡ true = grind (arith, nat_tests) in
    rw (there, ne_eqb peer me other, under) refl

-- a request that was sent again
sent_there : {Local : Type 0} (settings : Parameters) (IsKept : (me : ℕ) → Local → Type 0) (me : ℕ) (node : Node Local)
    (now : ℕ) (due : Due) (peer : ℕ) → NodeInvariant settings IsKept me node → peer < settings.nodes
    → IsDueOf now settings.resend peer 1 (node.asked peer) due
    → number_in_slot settings me (after_resend node now (Some due)) (request_slot due.peer due.slot) ≡ Some due.number
sent_there settings IsKept me node now due peer holds low is =
    subst
    (λ (d : Due). number_in_slot settings me (after_resend node now (Some d))
    (request_slot d.peer d.slot) ≡ Some d.number)
    (sym is.is)
    (rw (slot_there settings me peer is.x.slot low other few) (at_slot ∙ ap Some (sym one_more)))
  where
    one_more : 1 + is.place ≡ suc is.place
    one_more = omega arith

    there : element_at (node.asked peer) (suc is.place) ≡ Some is.x
    there = is.at

    other : peer ≢ me
    other same = another (node.asked peer) is.place is.x (ap node.asked same ∙ holds.own) is.at

    few : is.x.slot < credits_of settings me peer
    few = (holds.orderly peer).low (suc is.place) is.x there

    changed : List Request
    changed = change (sent_at now) (node.asked peer) (suc is.place)

    at_slot : option_map (λ open_. open_.0)
        (open_in is.x.slot (put node.asked peer (change (sent_at now) (node.asked peer) (1 + is.place)) peer))
        ≡ Some (suc is.place)
    at_slot =
        ap (λ (number : ℕ). option_map (λ open_. open_.0)
        (open_in is.x.slot (put node.asked peer (change (sent_at now) (node.asked peer) number) peer))) one_more
        ∙ (ap (λ (requests : List Request). option_map (λ open_. open_.0) (open_in is.x.slot requests))
        (put_same node.asked peer changed)
        ∙ ap (option_map (λ open_. open_.0))
        (open_sent_here now is.x.slot (node.asked peer) (suc is.place) is.x
        (orderly_sent (limits_of settings me peer) now (node.asked peer) (suc is.place) (holds.orderly peer)).apart
        there is.open_ refl))

-- the request that is due first stands at its slot once it was sent again
pub resent_there : {Local : Type 0} (settings : Parameters) (IsKept : (me : ℕ) → Local → Type 0) (me : ℕ)
    (node : Node Local) (now : ℕ) (due : Due) → NodeInvariant settings IsKept me node
    → next_due settings node now ≡ Some due
    → number_in_slot settings me (after_resend node now (Some due)) (request_slot due.peer due.slot) ≡ Some due.number
resent_there settings IsKept me node now due holds first =
    let among = earliest_in (all_dues now settings.resend node.asked settings.nodes) due first in
    let it = all_dues_has now settings.resend node.asked settings.nodes due among in
    sent_there settings IsKept me node now due it.0 holds it.1
    (dues_has now settings.resend it.0 1 (node.asked it.0) due it.2)

-- ---- for the first time

-- no request that isn't back has the slot that is free
none_open : (requests : List Request) → open_in (free_slot requests) requests ≡ None
none_open requests =
    none_is (open_in (free_slot requests) requests)
    (open_taken (free_slot requests) 1 requests ∙ free_outside requests)

-- a request of the node's own accord stands at its slot once it was accepted
pub first_sent_there : {Local : Type 0} (site : Site Local) (node : Node Local) (now : ℕ) (sending : Sending)
    → can_ask site node sending.to ≡ true
    → number_in_slot site.settings site.me (after_sending site node now sending)
    (request_slot sending.to (next_claim (node.asked sending.to)).slot)
    ≡ Some (next_claim (node.asked sending.to)).number
first_sent_there site node now sending can =
    let requests = node.asked sending.to in
    let limits = limits_of site.settings site.me sending.to in
    let parts = and_parts (nat_lt sending.to site.settings.nodes && not (sending.to == site.me))
    (nat_lt (length requests) limits.last && nat_lt (outstanding requests) limits.credits) can in
    let ends = and_parts (nat_lt sending.to site.settings.nodes) (not (sending.to == site.me)) parts.0 in
    let room = and_parts (nat_lt (length requests) limits.last) (nat_lt (outstanding requests) limits.credits) parts.1 in
    let few = ltb-true (outstanding requests) limits.credits room.1 in
    let low : nat_lt (free_slot requests) limits.credits ≡ true =
    lt-ltb (free_slot requests) limits.credits (omega (arith, few, free_le requests)) in
    let new = new_request now (free_slot requests) sending.content in
    let one_more : 1 + length requests ≡ suc (length requests) = omega arith in
    rw (ends.0, ends.1, low)
    (ap (λ (all : List Request). option_map (λ open_. open_.0) (open_in (free_slot requests) all))
    (put_same node.asked sending.to (requests ++ new ∷ []))
    ∙ ap (option_map (λ open_. open_.0)) (open_new requests new (none_open requests) refl)
    ∙ ap Some one_more)
