-- Each request finds its slot free where it comes, and its reply stands there.
use Rattle.std.proofs.Common.{◌≡◌, ◌≢◌, inl, inr, ℕ, ◌<◌, ◌≤◌, true, true≢false, List, [], ◌∷◌, Some, sym, ap}
use Rattle.std.proofs.Common.{◌∙◌, subst, arith, ltb, eq-eqb, ne_eqb}
use Rattle.std.specs.Option.{option_map}
use Rattle.std.proofs.lemmas.Bool.{cases_eq, cases_order}
use Rattle.std.proofs.lemmas.Bool.Decides.{nat_tests}
use Rattle.std.proofs.lemmas.Option.{same_Some}
use Rattle.wire_message.specs.Parameters.{Parameters, credits_of}
use Rattle.wire_message.specs.Content.{Content, message_at_address}
use Rattle.wire_message.specs.Message.{spelling}
use Rattle.base_lists.specs.Numbered.{element_at}
use Rattle.base_lists.proofs.Numbered.{numbered_nil, numbered_map, numbered_mapped}
use Rattle.spec_node.specs.Record.{Run}
use Rattle.spec_node.specs.Executed.{greatest, run_of, run_at, last_run}
use Rattle.spec_node.specs.Credits.{limits_of}
use Rattle.spec_node.specs.Step.{reply_slot}
use Rattle.spec_node.specs.SlotMessages.{message_at}
use Rattle.spec_node.specs.NodeStep.{Job, IsAllSound}
use Rattle.spec_node.specs.Invariant.{address_in, reply_message}
use Rattle.spec_node.proofs.Runs.{run_of_there, greatest_bounds}
use Rattle.spec_network.specs.World.{World, RequestComes, ReplyComes}
use Rattle.spec_network.specs.Invariant.{Holds}
use Rattle.spec_network.specs.Plain.{PlainRequest, IsRequest, IsPassed, plain_of, plain_request}
use Rattle.spec_network.specs.Laws.{IsWithinCredits, FindSlots, ReplyStands, NonePasses, RepliesFindRequests, BackRan}
use Rattle.spec_network.proofs.PlainReadings.{outstanding_in_is, is_back_at, is_back_says}
use Rattle.spec_network.proofs.PlainReadings.{among_from, from_reply, reply_among}
use Rattle.spec_network.proofs.PlainDeliveries.{greatest_run}
use Rattle.spec_network.proofs.PlainSteps.{step_plain}
use Rattle.spec_network.proofs.PlainAnswers.{first_ran, first_waits, then_again, gives_back, take_waits}

-- ---- slots

-- of two requests of one slot the earlier one is back
slot_back : {Local Call Told : Type 0} (job : Job Local Call Told) (IsKept : (me : ℕ) → Local → Type 0)
    (world : World Local)
    (from to number l : ℕ) (request other : PlainRequest) → Holds job IsKept world
    → IsRequest (plain_of world) from to number request
    → IsRequest (plain_of world) from to l other
    → number < l → other.slot ≡ request.slot → (plain_of world).back from to number ≡ true
slot_back job IsKept world from to number l request other holds e f less same =
    let requests = (world from).asked to in
    let a = numbered_mapped plain_request requests number request e in
    let b = numbered_mapped plain_request requests l other f in
    let slots : a.0.slot ≡ b.0.slot =
    ap (λ (z : PlainRequest). z.slot) a.2 ∙ (sym same ∙ ap (λ (z : PlainRequest). z.slot) (sym b.2)) in
    is_back_at (element_at requests number) a.0 a.1
    ∙ (holds.pair from to).orderly.apart number l a.0 b.0 a.1 b.1 less slots

-- what is back has run
pub back_ran : {Local Call Told : Type 0} (job : Job Local Call Told) (IsKept : (me : ℕ) → Local → Type 0)
    (world : World Local)
    → Holds job IsKept world → BackRan world
back_ran job IsKept world holds i j k back =
    let x = is_back_says (element_at ((world i).asked j) k) back in
    let r = (holds.pair i j).back_ran k x.0 x.1 x.2 in
    among_from ((world j).ran i) k r.0 r.1

-- requests are of one node to another one, and within the credits
pub requests_within : {Local Call Told : Type 0} (job : Job Local Call Told) (IsKept : (me : ℕ) → Local → Type 0)
    (world : World Local) → Holds job IsKept world → IsWithinCredits job.settings world
requests_within job IsKept world holds = record {
  nodes = λ i j k x e.
      let requests = (world i).asked j in
      let y = numbered_mapped plain_request requests k x e in
      let there = holds.nodes i j k y.0 y.1 in
      let other : i ≢ j = λ same. numbered_nil k y.0
      (ap (λ zs. element_at zs k) (sym (holds.own i)) ∙ (ap (λ b. element_at ((world i).asked b) k) same ∙ y.1)) in
      (there.0, there.1, other);
  slots = λ i j k x e.
      let y = numbered_mapped plain_request ((world i).asked j) k x e in
      subst (λ q. q < credits_of job.settings i j) (ap (λ (z : PlainRequest). z.slot) y.2)
      ((holds.pair i j).orderly.low k y.0 y.1);
  credits =
      λ i j. subst (λ n. n ≤ credits_of job.settings i j) (sym (outstanding_in_is ((world i).asked j)))
      (holds.pair i j).orderly.few;
}

-- a request that hasn't run finds its slot
pub finds_its_slot : {Local Call Told : Type 0} (job : Job Local Call Told) (IsKept : (me : ℕ) → Local → Type 0)
    (world : World Local) → IsAllSound job.behaviour IsKept → Holds job IsKept world → FindSlots job world
finds_its_slot job IsKept world sound holds name x fresh =
    let i = name.from in
    let j = name.to in
    let k = name.number in
    record {
      runs = λ free now. first_ran job (plain_of world) _ name x _ fresh free
          (step_plain job IsKept world (record { now = now; event = RequestComes i j k }) sound holds);
      waits = λ lock waits now. first_waits job (plain_of world) _ name x lock _ fresh waits
          (step_plain job IsKept world (record { now = now; event = RequestComes i j k }) sound holds);
      others = λ l y f same other. elim (cases_order l k) [
        | inl is ↦ absurd (other is)
        | inr apart ↦ elim apart [
          | inl before ↦ slot_back job IsKept world i j l k y x holds f fresh.is before (sym same)
          | inr after ↦ absurd
              (fresh.new (back_ran job IsKept world holds i j k
              (slot_back job IsKept world i j k l x y holds fresh.is f after same)))
        ]
      ];
    }

-- while a request isn't back no later one of its slot has run
pub none_passes : {Local Call Told : Type 0} (job : Job Local Call Told) (IsKept : (me : ℕ) → Local → Type 0)
    (world : World Local) → Holds job IsKept world → NonePasses world
none_passes job IsKept world holds i j k x e out passed =
    true≢false (sym (slot_back job IsKept world i j k passed.0 x passed.1 holds e passed.3 passed.2 passed.4) ∙ out)

-- the reply to a request that isn't back finds it
pub finds_its_request : {Local Call Told : Type 0} (job : Job Local Call Told) (IsKept : (me : ℕ) → Local → Type 0)
    (world : World Local) → IsAllSound job.behaviour IsKept → Holds job IsKept world → RepliesFindRequests job world
finds_its_request job IsKept world sound holds name x reply T =
    let event = ReplyComes name.from name.to name.number in
    record {
      returns = λ free now. gives_back job (plain_of world) _ name x reply _ T free
          (step_plain job IsKept world (record { now = now; event = event }) sound holds);
      waits = λ lock waits now. take_waits job (plain_of world) _ name x reply lock _ T waits
          (step_plain job IsKept world (record { now = now; event = event }) sound holds);
    }

-- ---- the reply that stands there

-- a request ran in the slot that it reserved
ran_in_slot : {Local Call Told : Type 0} (job : Job Local Call Told) (IsKept : (me : ℕ) → Local → Type 0)
    (world : World Local)
    (from to number : ℕ) (request : PlainRequest) (run : Run) → Holds job IsKept world
    → IsRequest (plain_of world) from to number request
    → run_of number ((world to).ran from) ≡ Some run → run.slot ≡ request.slot
ran_in_slot job IsKept world from to number request run holds e f =
    let at = run_of_there number ((world to).ran from) run f in
    let y = (holds.pair from to).named at.1.0 run at.1.1 in
    let is = numbered_map plain_request ((world from).asked to) number y.0
    (ap (element_at ((world from).asked to)) (sym at.0) ∙ y.1) in
    sym y.2 ∙ ap (λ (z : PlainRequest). z.slot) (same_Some (plain_request y.0) request (sym is ∙ e))

-- the last one that ran in its slot has the greatest number there
last_is_greatest : {Local Call Told : Type 0} (job : Job Local Call Told) (IsKept : (me : ℕ) → Local → Type 0)
    (world : World Local) (from to number : ℕ) (request : PlainRequest) (run : Run) → Holds job IsKept world
    → IsRequest (plain_of world) from to number request
    → run_of number ((world to).ran from) ≡ Some run → (IsPassed (plain_of world) from to number request → ⊥)
    → greatest request.slot ((world to).ran from) ≡ number
last_is_greatest job IsKept world from to number request run holds e f last =
    let runs = (world to).ran from in
    let at = run_of_there number runs run f in
    let behind = subst (λ q. run.number ≤ greatest q runs)
    (ran_in_slot job IsKept world from to number request run holds e f)
    (greatest_bounds runs at.1.0 run at.1.1) in
    elim (cases_order number (greatest request.slot runs)) [
      | inl same ↦ sym same
      | inr apart ↦ elim apart [
        | inl less ↦ (let top = greatest_run (limits_of job.settings from to) job.behaviour.messages.refuses
            ((world from).asked to) runs request.slot
            (holds.pair from to) (omega (arith, less)) in
            absurd (last (
              greatest request.slot runs,
              plain_request top.0,
              less,
              numbered_map plain_request ((world from).asked to) (greatest request.slot runs) top.0 top.1,
              top.2,
              top.3,
            )))
        | inr more ↦ absurd (omega (arith, more, behind, at.0))
      ]
    ]

-- a run that is found by its number is found by its slot and number
run_at_of : (slot k : ℕ) (runs : List Run) (run : Run) → run_of k runs ≡ Some run → run.slot ≡ slot
    → run_at slot k runs ≡ Some run
run_at_of slot k [] run e f = absurd (cc)
run_at_of slot k (t ∷ runs) run e f = elim (cases_eq t.number k) [
  | inl is ↦ (let same : t ≡ run = same_Some t run (rw (eq-eqb t.number k is) at e) in
      rw (eq-eqb t.number k is, eq-eqb t.slot slot (ap (λ (z : Run). z.slot) same ∙ f)) (ap Some same))
  | inr n ↦ rw (ne_eqb t.number k n) (run_at_of slot k runs run (rw (ne_eqb t.number k n) at e) f)
]

-- the message of a slot is the reply of its last run
message_is : {Local : Type 0} (settings : Parameters) (world : World Local) (i j slot : ℕ) (run : Run)
    → i < settings.nodes → i ≢ j
    → slot < credits_of settings i j → last_run slot ((world j).ran i) ≡ Some run
    → message_at settings j (world j) (reply_slot i slot) ≡ Some (spelling (reply_message settings i j run))
message_is settings world i j slot run low other in_slot e =
    let from : ltb i settings.nodes ≡ true = grind (arith, nat_tests) in
    let at : ltb slot (credits_of settings i j) ≡ true = grind (arith, nat_tests) in
    rw (from, ne_eqb i j other, at) (ap (option_map (λ t. spelling (reply_message settings i j t))) e)

-- the reply of a run, by what the run says
reply_is : (settings : Parameters) (i j slot k : ℕ) (c : Content) (run : Run) → run.slot ≡ slot → run.number ≡ k
    → run.reply ≡ c
    → spelling (reply_message settings i j run) ≡ spelling (message_at_address (address_in settings j i slot k) c)
reply_is settings i j slot k c run e f g = λ t. spelling (message_at_address (address_in settings j i (e t) (f t)) (g t))

-- the reply of the last request that ran in a slot stands there
pub reply_stands : {Local Call Told : Type 0} (job : Job Local Call Told) (IsKept : (me : ℕ) → Local → Type 0)
    (world : World Local)
    → IsAllSound job.behaviour IsKept → Holds job IsKept world → ReplyStands job world
reply_stands job IsKept world sound holds name x reply e f last =
    let settings = job.settings in
    let i = name.from in
    let j = name.to in
    let k = name.number in
    let runs = (world j).ran i in
    let W = requests_within job IsKept world holds in
    let nodes = W.nodes i j k x e in
    let r = from_reply runs k reply f in
    let slot = ran_in_slot job IsKept world i j k x r.0 holds e r.1 in
    let kept = ap (λ n. run_at x.slot n runs) (last_is_greatest job IsKept world i j k x r.0 holds e r.1 last)
    ∙ run_at_of x.slot k runs r.0 r.1 slot in
    record {
      message = message_is settings world i j x.slot r.0 nodes.0 nodes.2 (W.slots i j k x e) kept
          ∙ ap Some (reply_is settings i j x.slot k reply r.0 slot (run_of_there k runs r.0 r.1).0 r.2);
      again =
          λ now. then_again job (plain_of world) _ name x _ e (reply_among ((plain_of world).runs i j) k reply f) last
          (step_plain job IsKept world (record { now = now; event = RequestComes i j k }) sound holds);
    }
