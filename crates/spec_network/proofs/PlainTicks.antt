-- A tick is a step of the plain world.
use Rattle.std.proofs.Common.{◌≡◌, inl, inr, ℕ, zero, suc, ◌+◌, Bool, true, false, cond, not}
use Rattle.std.proofs.Common.{◌&&◌, List, [], ◌∷◌, Option, None, Some, refl, sym}
use Rattle.std.proofs.Common.{ap, ◌∙◌, subst, ap₂, arith, eqb, ltb, leb}
use Rattle.std.specs.List.{slice_get, AllByRecursion}
use Rattle.std.proofs.Math.Path.{fun_ext}
use Rattle.std.proofs.lemmas.Bool.{cases_Bool}
use Rattle.std.proofs.lemmas.Option.{same_Some}
use Rattle.std.proofs.lemmas.List.{length-map}
use Rattle.wire_message.specs.Parameters.{Parameters, credits_of}
use Rattle.base_lists.specs.Numbered.{element_at}
use Rattle.base_lists.specs.Put.{put}
use Rattle.base_lists.proofs.Members.{all_append}
use Rattle.base_lists.proofs.Numbered.{numbered_map}
use Rattle.spec_node.specs.declared.answer.Ticked.{Ticked}
use Rattle.spec_node.specs.declared.answer.Ticked.TheVariants as ticked
use Rattle.spec_node.specs.Record.{Request}
use Rattle.spec_node.specs.Requests.{next_claim, Due, dues, all_dues, earliest}
use Rattle.spec_node.specs.Requests.{is_earlier, sooner}
use Rattle.spec_node.specs.Behaviour.{Sending, IsFirstSent}
use Rattle.spec_node.specs.Step.{request_slot, next_due}
use Rattle.spec_node.specs.Step.{can_ask, is_exhausted, TickChoice, Retransmits, Sends, Rests, tick_choice, tick_answer}
use Rattle.spec_node.specs.Step.{after_tick}
use Rattle.spec_node.specs.NodeStep.{Job, site_of, IsAllSound}
use Rattle.spec_node.proofs.Answers.{CanAsk, can_says, sends_choice, retransmits_choice, rests_choice}
use Rattle.spec_network.specs.World.{World}
use Rattle.spec_network.specs.Invariant.{Holds}
use Rattle.spec_network.specs.Plain.{plain_of, plain_request}
use Rattle.spec_network.specs.PlainStep.{TickStep}
use Rattle.spec_network.specs.PlainStep.{plain_exhausted, plain_can_ask, next_of}
use Rattle.spec_network.proofs.PlainReadings.{is_back_at}
use Rattle.spec_network.proofs.PlainReadings.{outstanding_in_is}
use Rattle.spec_network.proofs.PlainParts.{plain_same, plain_accepted, plain_sent}
use Rattle.spec_network.proofs.PlainAsks.{is_next}

-- it names a request that isn't back, with its slot
abbrev pub IsOpenAt : (ℕ → List Request) → Due → Type 0
IsOpenAt asked d = (request : Request) × (element_at (asked d.peer) d.number ≡ Some request) × (request.back ≡ false)
    × (d.slot ≡ request.slot)

-- each that is due of a peer is such
dues_open : (now resend peer k : ℕ) (asked : ℕ → List Request) (requests : List Request)
    → ((p : ℕ) (request : Request) → slice_get requests p ≡ Some request → element_at (asked peer) (k + p) ≡ Some request)
    → AllByRecursion (IsOpenAt asked) (dues now resend peer k requests)
dues_open now resend peer k asked [] at = tt
dues_open now resend peer k asked (request ∷ requests) at =
    let ih = dues_open now resend peer (suc k) asked requests
    (λ p y e. subst (λ q. element_at (asked peer) q ≡ Some y) (omega arith) (at (suc p) y e)) in
    elim (cases_Bool (not request.back && leb (request.time + resend) now)) [
      | inl t ↦ rw t (
        (
          request,
          subst (λ q. element_at (asked peer) q ≡ Some request) (omega arith) (at 0 request refl),
          not_back request.back t,
          refl,
        ),
        ih,
      )
      | inr n ↦ rw n ih
    ]
  where
    not_back : (b : Bool) → (not b && leb (request.time + resend) now) ≡ true → b ≡ false
    not_back true e = cc
    not_back false e = refl

-- each that is due is such
pub all_dues_open : (now resend : ℕ) (asked : ℕ → List Request) (n : ℕ)
    → AllByRecursion (IsOpenAt asked) (all_dues now resend asked n)
all_dues_open now resend asked zero = tt
all_dues_open now resend asked (suc peer) = all_append (IsOpenAt asked) _ _ (all_dues_open now resend asked peer)
    (dues_open now resend peer 1 asked (asked peer)
    (λ p x e. subst (λ q. element_at (asked peer) q ≡ Some x) {x = suc p} (omega arith) e))

-- what holds of each holds of the earliest
pub earliest_has : (P : Due → Type 0) (ds : List Due) (d : Due) → AllByRecursion P ds → earliest ds ≡ Some d → P d
earliest_has P [] d a e = absurd (cc)
earliest_has P (c ∷ ds) d a e = subst P (same_Some _ _ e) (go (earliest ds) (λ b f. earliest_has P ds b a.1 f))
  where
    go : (o : Option Due) → ((b : Due) → o ≡ Some b → P b) → P (sooner c o)
    go None each = a.0
    go (Some b) each = elim (is_earlier b c) as (λ t. P (cond t b c)) [ true ↦ each b refl | false ↦ a.0 ]

-- the same numbers are exhausted
pub exhausted_is : {Local : Type 0} (settings : Parameters) (world : World Local) (i : ℕ)
    → plain_exhausted settings (plain_of world) i ≡ is_exhausted settings (world i)
exhausted_is settings world i = fun_ext (λ to. ap (leb settings.last) (length-map ((world i).asked to) plain_request))

-- the same nodes can be asked
can_ask_is : {Local Call Told : Type 0} (job : Job Local Call Told) (world : World Local) (i : ℕ)
    → plain_can_ask (site_of job i) (plain_of world) ≡ can_ask (site_of job i) (world i)
can_ask_is job world i = fun_ext (λ to.
    let requests = (world i).asked to in
    ap₂ (λ count out. (ltb to job.settings.nodes && not (eqb to i))
    && (ltb count job.settings.last && ltb out (credits_of job.settings i to)))
    (length-map requests plain_request) (outstanding_in_is requests))

-- the node's own next request is the same
next_is : {Local Call Told : Type 0} (job : Job Local Call Told) (world : World Local) (i : ℕ)
    → next_of (site_of job i) (plain_of world)
    ≡ job.behaviour.messages.next i (can_ask (site_of job i) (world i)) (world i).local
next_is job world i = ap (λ can. job.behaviour.messages.next i can (world i).local) (can_ask_is job world i)

-- a request of the node's own accord is accepted, and answered so
first_sent : {Local Call Told : Type 0} (job : Job Local Call Told) (IsKept : (me : ℕ) → Local → Type 0)
    (world : World Local)
    (now i : ℕ) (sending : Sending) → IsAllSound job.behaviour IsKept → CanAsk (site_of job i) (world i) sending.to
    → job.behaviour.messages.next i (can_ask (site_of job i) (world i)) (world i).local ≡ Some sending
    → (a : Ticked) → tick_answer job.behaviour.messages (world i) (Sends sending) ≡ a
    → TickStep (site_of job i) (plain_of world) a
    (plain_of (put world i (after_tick (site_of job i) (world i) now (Sends sending))))
first_sent job IsKept world now i sending sound can given a is =
    let place = request_slot sending.to (next_claim ((world i).asked sending.to)).slot in
    go a is (subst (λ b. IsFirstSent b place) is (sound.messages.sends_as sending.content place))
  where
    go : (a : Ticked) → tick_answer job.behaviour.messages (world i) (Sends sending) ≡ a
        → IsFirstSent a (request_slot sending.to (next_claim ((world i).asked sending.to)).slot)
        → TickStep (site_of job i) (plain_of world) a
        (plain_of (put world i (after_tick (site_of job i) (world i) now (Sends sending))))
    go (ticked.Retransmission at) f first = absurd first
    go ticked.Nothing f first = absurd first
    go a f first =
        let claim = next_claim ((world i).asked sending.to) in
        record {
          to = sending.to;
          request = record { content = sending.content; slot = claim.slot };
          claim = claim;
          given = next_is job world i ∙ given;
          other = can.other;
          next = is_next job.settings world i sending.to can.left can.free;
          slot = refl;
          sends_as = sym f;
          is_first = first;
          leaves = plain_accepted world i sending.to now claim.slot sending.content _;
        }

-- a tick, by what it does
pub tick_step : {Local Call Told : Type 0} (job : Job Local Call Told) (IsKept : (me : ℕ) → Local → Type 0)
    (world : World Local)
    (now i : ℕ) (choice : TickChoice) → IsAllSound job.behaviour IsKept → Holds job IsKept world
    → tick_choice (site_of job i) (world i) now ≡ choice
    → TickStep (site_of job i) (plain_of world) (tick_answer job.behaviour.messages (world i) choice)
    (plain_of (put world i (after_tick (site_of job i) (world i) now choice)))
tick_step job IsKept world now i (Retransmits d) sound holds e =
    let due = retransmits_choice (next_due job.settings (world i) now) _ d e in
    let it = earliest_has (IsOpenAt (world i).asked) _ d
    (all_dues_open now job.settings.resend (world i).asked job.settings.nodes) due in
    let requests = (world i).asked d.peer in (
      d.peer,
      d.number,
      plain_request it.0,
      numbered_map plain_request requests d.number it.0 it.1,
      is_back_at (element_at requests d.number) it.0 it.1 ∙ it.2,
      ap (request_slot d.peer) it.3,
      plain_sent world i d.peer now d.number,
    )
tick_step job IsKept world now i (Sends sending) sound holds e =
    let can = can_ask (site_of job i) (world i) in
    let next = sends_choice (next_due job.settings (world i) now) (job.behaviour.messages.next i can (world i).local)
    sending e
    in
    first_sent job IsKept world now i sending sound
    (can_says (site_of job i) (world i) sending.to
    (sound.messages.asks i can (world i).local sending (holds.kept i) next).0) next _
    refl
tick_step job IsKept world now i Rests sound holds e =
    (next_is job world i ∙ rests_choice (next_due job.settings (world i) now) _ e, plain_same world i)
