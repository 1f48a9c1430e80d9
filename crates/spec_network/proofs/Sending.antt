-- The messages that were ever sent are those that the records have.
use Rattle.std.proofs.Common.{◌≡◌, ◌⊎◌, ◌↔◌, inl, inr, ℕ, List, []}
use Rattle.std.proofs.Common.{◌∷◌, Option, None, Some, refl, sym, ap, ◌∙◌, subst}
use Rattle.std.specs.List.{AllByRecursion, Contains}
use Rattle.std.proofs.lemmas.Bool.{cases_eq}
use Rattle.std.proofs.lemmas.List.Elements.{Contains-append_left, Contains-append_right, Contains-append_cases}
use Rattle.base_lists.specs.Numbered.{element_at}
use Rattle.base_lists.specs.Put.{put}
use Rattle.base_lists.proofs.Members.{contains_none}
use Rattle.base_lists.proofs.Numbered.{numbered_nil}
use Rattle.base_lists.proofs.Put.{put_same, put_other}
use Rattle.spec_node.specs.Record.{Request, Run, Node}
use Rattle.spec_node.specs.Executed.{run_of}
use Rattle.spec_node.specs.Step.{tick_choice}
use Rattle.spec_node.specs.NodeStep.{Job, site_of, IsAllSound}
use Rattle.spec_network.specs.World.{World, opening, Event, Asks, Does, RequestComes, ReplyComes, Ticks, EventAt, Fall}
use Rattle.spec_network.specs.World.{falls, request_event, reply_event, after_at, world_after, run, IsAmong}
use Rattle.spec_network.specs.Invariant.{Holds}
use Rattle.spec_network.specs.Sent.{Packet, Asking, Replying, sender, Has, IsRecorded}
use Rattle.spec_network.specs.Sent.{sends_at, datagrams_sent, SentAreRecorded}
use Rattle.spec_network.proofs.Worlds.{step_keeps, opening_holds}
use Rattle.spec_network.proofs.RecordAdds.{Adds, adds_same}
use Rattle.spec_network.proofs.NodeSends.{adds_request, adds_request_comes, adds_reply_comes, adds_tick}

-- one node is changed, and sends this
recorded_step : {Local : Type 0} (world : World Local) (i : ℕ) (x : Node Local) (ps : List Packet)
    → Adds i (world i) x ps
    → (p : Packet) → (IsRecorded world p ⊎ Contains ps p) ↔ IsRecorded (put world i x) p
recorded_step world i x ps A p = (
  (λ h. elim h [
    | inl was ↦ elim (cases_eq (sender p) i) [
      | inl is ↦ here is (A.old p is (subst (λ q. Has p (world q)) is was))
      | inr n ↦ subst (Has p) (sym (put_other world i x (sender p) n)) was
    ]
    | inr sent_now ↦ (let it = A.new p sent_now in here it.0 it.1)
  ]),
  (λ h. elim (cases_eq (sender p) i) [
    | inl is ↦ elim (A.only p is (subst (Has p) (ap (put world i x) is ∙ put_same world i x) h))
        [ inl was ↦ inl (subst (λ q. Has p (world q)) (sym is) was) | inr sent_now ↦ inr sent_now ]
    | inr n ↦ inl (subst (Has p) (put_other world i x (sender p) n) h)
  ]),
)
  where
    here : sender p ≡ i → Has p x → IsRecorded (put world i x) p
    here is h = subst (Has p) (sym (ap (put world i x) is ∙ put_same world i x)) h

-- what was recorded and what is sent is what is recorded after that
abbrev SendStep : {Local Call Told : Type 0} → Job Local Call Told → World Local → (now : ℕ) → Option (Fall Call)
    → Packet → Type 0
SendStep job world now at p =
    (IsRecorded world p ⊎ Contains (sends_at job world now at) p) ↔ IsRecorded (after_at job world now at) p

-- nothing falls on a node
nothing_sent : {Local : Type 0} (world : World Local) (p : Packet)
    → (IsRecorded world p ⊎ Contains [] p) ↔ IsRecorded world p
nothing_sent world p = ((λ h. elim h [ inl was ↦ was | inr none ↦ absurd (contains_none p none) ]), λ h. inl h)

-- a request comes, if it was sent
request_sends : {Local Call Told : Type 0} (job : Job Local Call Told) (IsKept : (me : ℕ) → Local → Type 0)
    (world : World Local)
    (now i j k : ℕ) (o : Option Request) → Holds job IsKept world → element_at ((world i).asked j) k ≡ o
    → (p : Packet) → SendStep job world now (request_event job.settings i j k o) p
request_sends job IsKept world now i j k None holds e p = nothing_sent world p
request_sends job IsKept world now i j k (Some x) holds e p =
    recorded_step world j _ _ (adds_request_comes job IsKept world i j k x _ holds e refl) p

-- a reply comes, if it was sent
reply_sends : {Local Call Told : Type 0} (job : Job Local Call Told) (IsKept : (me : ℕ) → Local → Type 0)
    (world : World Local)
    (now i j k : ℕ) (o : Option Run) → Holds job IsKept world → run_of k ((world j).ran i) ≡ o
    → (p : Packet) → SendStep job world now (reply_event job.settings i j o) p
reply_sends job IsKept world now i j k None holds e p = nothing_sent world p
reply_sends job IsKept world now i j k (Some t) holds e p =
    recorded_step world i _ _ (adds_reply_comes job IsKept world i j k t _ holds e refl) p

-- any event
step_sends : {Local Call Told : Type 0} (job : Job Local Call Told) (IsKept : (me : ℕ) → Local → Type 0)
    (world : World Local)
    (now : ℕ) (e : Event Call) → Holds job IsKept world → (p : Packet)
    → SendStep job world now (falls job.settings world e) p
step_sends job IsKept world now (Asks i ask) holds p =
    recorded_step world i _ _ (adds_request job (world i) now i ask _ refl) p
step_sends job IsKept world now (Does i thread call) holds p =
    recorded_step world i _ _ (adds_same i (world i) _ refl refl) p
step_sends job IsKept world now (Ticks i) holds p =
    recorded_step world i _ _ (adds_tick job i now (world i) (tick_choice (site_of job i) (world i) now)) p
step_sends job IsKept world now (RequestComes i j k) holds p = request_sends job IsKept world now i j k _ holds refl p
step_sends job IsKept world now (ReplyComes i j k) holds p = reply_sends job IsKept world now i j k _ holds refl p

-- a run from any state of which the invariant holds
run_sends : {Local Call Told : Type 0} (job : Job Local Call Told) (IsKept : (me : ℕ) → Local → Type 0)
    (events : List (EventAt Call)) (world : World Local) → IsAllSound job.behaviour IsKept → Holds job IsKept world
    → AllByRecursion (λ (e : EventAt Call). IsAmong job.settings e.event) events
    → (p : Packet) → (IsRecorded world p ⊎ Contains (datagrams_sent job events world) p) ↔ IsRecorded (run job events world) p
run_sends job IsKept [] world sound holds among p = nothing_sent world p
run_sends job IsKept (e ∷ events) world sound holds among p =
    let x = world_after job world e in
    let one = step_sends job IsKept world e.now e.event holds p in
    let here = sends_at job world e.now (falls job.settings world e.event) in
    let rest = run_sends job IsKept events x sound (step_keeps job IsKept world e sound holds among.0) among.1 p in (
      (λ h. rest.0 (elim h [
        | inl was ↦ inl (one.0 (inl was))
        | inr given ↦ elim (Contains-append_cases here (datagrams_sent job events x) p given) [
          | inl g ↦ inl (one.0 (inr g))
          | inr g ↦ inr g
        ]
      ])),
      λ h. elim (rest.1 h) [
        | inl was ↦ elim (one.1 was) [ inl g ↦ inl g | inr g ↦ inr (Contains-append_left here (datagrams_sent job events x) p g) ]
        | inr g ↦ inr (Contains-append_right here (datagrams_sent job events x) p g)
      ],
    )

-- at the opening nothing is recorded
nothing_recorded : {Local : Type 0} (start : ℕ → Local) (p : Packet) → IsRecorded (opening start) p → ⊥
nothing_recorded start (Asking at c) h = numbered_nil at.number h.0 h.1
nothing_recorded start (Replying at c) h = absurd (no_run h.0 h.1)
  where
    no_run : (t : Run) → run_of at.number [] ≡ Some t → ⊥
    no_run t f = cc

-- what was sent is what is recorded
pub sent_are_recorded : {Local Call Told : Type 0} (job : Job Local Call Told) (IsKept : (me : ℕ) → Local → Type 0)
    (start : ℕ → Local) (events : List (EventAt Call)) → IsAllSound job.behaviour IsKept → ((i : ℕ) → IsKept i (start i))
    → AllByRecursion (λ (e : EventAt Call). IsAmong job.settings e.event) events → SentAreRecorded job start events
sent_are_recorded job IsKept start events sound good among p =
    let both = run_sends job IsKept events (opening start) sound (opening_holds job IsKept start good) among p in
    ((λ h. both.0 (inr h)), λ h. elim (both.1 h) [ inl was ↦ absurd (nothing_recorded start p was) | inr g ↦ g ])
