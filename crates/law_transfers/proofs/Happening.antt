-- What a run leaves was there before, or happened at one of its events; and what can happen once happens once.
use Rattle.std.proofs.Common.{◌≡◌, ◌⊎◌, inl, inr, ℕ, true, true≢false, List, [], ◌∷◌, refl, sym, ap, ◌∙◌, subst, subst₂}
use Rattle.std.proofs.lemmas.Bool.{cases_Bool}
use Rattle.base_lists.specs.Put.{put}
use Rattle.base_lists.proofs.Put.{put_same}
use Rattle.spec_node.specs.declared.answer.Delivered.{Delivered}
use Rattle.spec_node.specs.declared.answer.Delivered.TheVariants as delivered
use Rattle.spec_node.specs.Behaviour.{Behaviour}
use Rattle.spec_node.specs.NodeStep.{Job, IsAllSound, OfDelivery}
use Rattle.spec_network.specs.World.{World, EventAt, OfNode, IsAmong, world_answer, world_after, run}
use Rattle.spec_network.specs.Plain.{Plain, InRuns, is_among, plain_of}
use Rattle.spec_network.specs.PlainStep.{RequestName, at_target, RunsFirst, RunStep, Takes, TakeStep, PlainStep}
use Rattle.spec_network.specs.Invariant.{Holds}
use Rattle.spec_network.specs.Headline.{Grows, IsRanAnswer, IsReturned, request_comes, reply_comes}
use Rattle.spec_network.proofs.Worlds.{step_keeps}
use Rattle.spec_network.proofs.PlainSteps.{step_plain}
use Rattle.spec_network.proofs.PlainGrowing.{pair_same, step_grows, grows_same, ran_stays, in_replied, step_ran}
use Rattle.spec_network.proofs.PlainGrowing.{step_back}
use Rattle.spec_network.proofs.Headline.{AreAmong}
use Rattle.law_transfers.specs.History.{Moment, answer_in, after_in, end_of, Sometime, ExactlyOnce, Runs, ComesBack}

-- ---- from one fact of a moment to another

-- what holds around a moment: it is one of a run of which the invariant holds, among the nodes
pub record Around {Local Call Told : Type 0} (job : Job Local Call Told) (IsKept : (me : ℕ) → Local → Type 0)
    (moment : Moment Local Call) : Type 0 where
  pub holds : Holds job IsKept moment.before
  pub here : IsAmong job.settings moment.timed.event
  pub later : AreAmong job moment.later

-- one fact gives another
pub sometime_map : {Local Call Told : Type 0} (job : Job Local Call Told) (P Q : Moment Local Call → Type 0)
    (events : List (EventAt Call)) (world : World Local) → ((moment : Moment Local Call) → P moment → Q moment)
    → Sometime job P events world → Sometime job Q events world
sometime_map job P Q [] world f it = it
sometime_map {Call = Call} job P Q (e ∷ events) world f it = elim it [
  | inl here ↦ inl (f (record { before = world; timed = e; later = events }) here)
  | inr later ↦ inr (sometime_map job P Q events (world_after job world e) f later)
]

-- one fact gives another, in a run of which the invariant holds
pub sometime_around : {Local Call Told : Type 0} (job : Job Local Call Told) (IsKept : (me : ℕ) → Local → Type 0)
    (P Q : Moment Local Call → Type 0) (events : List (EventAt Call)) (world : World Local)
    → IsAllSound job.behaviour IsKept → AreAmong job events → Holds job IsKept world
    → ((moment : Moment Local Call) → Around job IsKept moment → end_of job moment ≡ run job events world → P moment
    → Q moment)
    → Sometime job P events world → Sometime job Q events world
sometime_around job IsKept P Q [] world sound among holds f it = it
sometime_around job IsKept P Q (e ∷ events) world sound among holds f it = elim it [
  | inl here ↦ inl (f (record { before = world; timed = e; later = events })
      (record { holds = holds; here = among.0; later = among.1 }) refl here)
  | inr later ↦ inr (sometime_around job IsKept P Q events (world_after job world e) sound among.1
      (step_keeps job IsKept world e sound holds among.0) f later)
]

-- what holds after the moment
pub holds_then : {Local Call Told : Type 0} (job : Job Local Call Told) (IsKept : (me : ℕ) → Local → Type 0)
    (moment : Moment Local Call) → IsAllSound job.behaviour IsKept → Around job IsKept moment
    → Holds job IsKept (after_in job moment)
holds_then job IsKept moment sound around = step_keeps job IsKept moment.before moment.timed sound around.holds
    around.here

-- a fact that says something of the whole
pub sometime_out : {Local Call Told : Type 0} (job : Job Local Call Told) (P : Moment Local Call → Type 0) (Q : Type 0)
    (events : List (EventAt Call)) (world : World Local) → ((moment : Moment Local Call) → P moment → Q)
    → Sometime job P events world → Q
sometime_out job P Q [] world f it = absurd it
sometime_out job P Q (e ∷ events) world f it = elim it [
  | inl here ↦ f (record { before = world; timed = e; later = events }) here
  | inr later ↦ sometime_out job P Q events (world_after job world e) f later
]

-- ---- what was there stays

pub grows_more : {Local : Type 0} (p q r : Plain Local) → Grows p q → Grows q r → Grows p r
grows_more p q r one two = record {
  requests = λ i j k x h. two.requests i j k x (one.requests i j k x h);
  runs = λ i j k c h. two.runs i j k c (one.runs i j k c h);
  back = λ i j k h. two.back i j k (one.back i j k h);
}

pub run_grows : {Local Call Told : Type 0} (job : Job Local Call Told) (IsKept : (me : ℕ) → Local → Type 0)
    (events : List (EventAt Call)) (world : World Local) → IsAllSound job.behaviour IsKept → AreAmong job events
    → Holds job IsKept world → Grows (plain_of world) (plain_of (run job events world))
run_grows job IsKept [] world sound among holds = grows_same _ _ refl
run_grows job IsKept (e ∷ events) world sound among holds =
    let x = world_after job world e in
    grows_more (plain_of world) (plain_of x) _
    (step_grows job _ _ e.event (world_answer job world e) (step_plain job IsKept world e sound holds))
    (run_grows job IsKept events x sound among.1 (step_keeps job IsKept world e sound holds among.0))

-- what was there before a moment, or after it, is there at the end
pub grown_after : {Local Call Told : Type 0} (job : Job Local Call Told) (IsKept : (me : ℕ) → Local → Type 0)
    (moment : Moment Local Call) → IsAllSound job.behaviour IsKept → Around job IsKept moment
    → Grows (plain_of (after_in job moment)) (plain_of (end_of job moment))
grown_after job IsKept moment sound around =
    run_grows job IsKept moment.later (after_in job moment) sound around.later
    (holds_then job IsKept moment sound around)

pub grown_before : {Local Call Told : Type 0} (job : Job Local Call Told) (IsKept : (me : ℕ) → Local → Type 0)
    (moment : Moment Local Call) → IsAllSound job.behaviour IsKept → Around job IsKept moment
    → Grows (plain_of moment.before) (plain_of (end_of job moment))
grown_before job IsKept moment sound around =
    grows_more (plain_of moment.before) (plain_of (after_in job moment)) _
    (step_grows job _ _ moment.timed.event (answer_in job moment)
    (step_plain job IsKept moment.before moment.timed sound around.holds))
    (grown_after job IsKept moment sound around)

-- ---- a request runs

-- the step of a delivery that is answered so, as one of the plain world
run_step : {Local : Type 0} (behaviour : Behaviour Local) (p q : Plain Local) (name : RequestName) (b : Delivered)
    → IsRanAnswer b → RunStep behaviour p name b q → RunsFirst behaviour p name b q
run_step behaviour p q name (delivered.Ran at) says h = h
run_step behaviour p q name (delivered.Notified at notification) says h = h
run_step behaviour p q name (delivered.Duplicate at) says h = absurd says.1
run_step behaviour p q name delivered.Stale says h = absurd says.1
run_step behaviour p q name (delivered.Returned to slot number) says h = absurd says.1
run_step behaviour p q name delivered.Late says h = absurd says.1
run_step behaviour p q name (delivered.Deferred lock) says h = absurd says.1
run_step behaviour p q name (delivered.Refused why) says h = absurd says.1

-- what a request that runs leaves
pub runs_first : {Local Call Told : Type 0} (job : Job Local Call Told) (IsKept : (me : ℕ) → Local → Type 0)
    (world : World Local) (e : EventAt Call) (name : RequestName) (b : Delivered) → IsAllSound job.behaviour IsKept
    → Holds job IsKept world → IsRanAnswer b → e.event ≡ request_comes name
    → world_answer job world e ≡ OfNode (OfDelivery b)
    → RunsFirst job.behaviour.messages (plain_of world) name b (plain_of (world_after job world e))
runs_first job IsKept world e name b sound holds says event answered =
    run_step job.behaviour.messages (plain_of world) (plain_of (world_after job world e)) name b says
    (subst₂ (λ x a. PlainStep job (plain_of world) x a (plain_of (world_after job world e))) event answered
    (step_plain job IsKept world e sound holds))

-- the request runs, and what that leaves
pub record RanAs {Local Call Told : Type 0} (job : Job Local Call Told) (name : RequestName) (moment : Moment Local Call)
    : Type 0 where
  pub runs : Runs job name moment
  pub first : RunsFirst job.behaviour.messages (plain_of moment.before) name runs.answer
      (plain_of (after_in job moment))

-- what ran at the end had run before, or ran at one of the events
pub runs_happen : {Local Call Told : Type 0} (job : Job Local Call Told) (IsKept : (me : ℕ) → Local → Type 0)
    (events : List (EventAt Call)) (world : World Local) (name : RequestName) → IsAllSound job.behaviour IsKept
    → AreAmong job events → Holds job IsKept world
    → InRuns (plain_of (run job events world)) name.from name.to name.number
    → InRuns (plain_of world) name.from name.to name.number
    ⊎ Sometime job (RanAs job name) events world
runs_happen job IsKept [] world name sound among holds ran = inl ran
runs_happen job IsKept (e ∷ events) world name sound among holds ran =
    let x = world_after job world e in
    let kept = step_keeps job IsKept world e sound holds among.0 in
    elim (runs_happen job IsKept events x name sound among.1 kept ran) [
      | inl there ↦ elim (step_ran job (plain_of world) (plain_of x) e.event (world_answer job world e) name.from
          name.to name.number (step_plain job IsKept world e sound holds) there) [
            | inl old ↦ inl old
            | inr by ↦ inr (inl (record {
              runs = record { event = by.2; answer = by.0; answered = by.3; ran = by.1 };
              first = runs_first job IsKept world e name by.0 sound holds by.1 by.2 by.3;
            }))
          ]
      | inr later ↦ inr (inr later)
    ]

-- after it ran it is among the runs
ran_after : {Local Call Told : Type 0} (job : Job Local Call Told) (IsKept : (me : ℕ) → Local → Type 0)
    (world : World Local) (e : EventAt Call) (later : List (EventAt Call)) (name : RequestName) → IsAllSound job.behaviour IsKept
    → Holds job IsKept world → Runs job name (record { before = world; timed = e; later = later })
    → InRuns (plain_of (world_after job world e)) name.from name.to name.number
ran_after job IsKept world e later name sound holds it =
    let first = runs_first job IsKept world e name it.answer sound holds it.ran it.event it.answered in
    let out = job.behaviour.messages.run (at_target name first.request) first.request.content
    ((plain_of world).local name.to) in
    subst (λ q. InRuns q name.from name.to name.number) (sym first.leaves)
    (in_replied (plain_of world) name.from name.to (record { number = name.number; reply = out.1 }) out.0)

-- what ran doesn't run again
never_again : {Local Call Told : Type 0} (job : Job Local Call Told) (IsKept : (me : ℕ) → Local → Type 0)
    (events : List (EventAt Call)) (world : World Local) (name : RequestName) → IsAllSound job.behaviour IsKept
    → AreAmong job events → Holds job IsKept world
    → InRuns (plain_of world) name.from name.to name.number → Sometime job (Runs job name) events world → ⊥
never_again job IsKept [] world name sound among holds ran it = it
never_again job IsKept (e ∷ events) world name sound among holds ran it =
    let x = world_after job world e in
    elim it [
      | inl here ↦ (runs_first job IsKept world e name here.answer sound holds here.ran here.event
          here.answered).fresh.new ran
      | inr later ↦ never_again job IsKept events x name sound among.1
          (step_keeps job IsKept world e sound holds among.0)
          (ran_stays (plain_of world) (plain_of x) name.from name.to name.number
          (step_grows job _ _ e.event (world_answer job world e) (step_plain job IsKept world e sound holds)) ran)
          later
    ]

-- what hadn't run, and ran at the end, ran once
pub runs_once : {Local Call Told : Type 0} (job : Job Local Call Told) (IsKept : (me : ℕ) → Local → Type 0)
    (events : List (EventAt Call)) (world : World Local) (name : RequestName) → IsAllSound job.behaviour IsKept
    → AreAmong job events → Holds job IsKept world
    → (InRuns (plain_of world) name.from name.to name.number → ⊥)
    → InRuns (plain_of (run job events world)) name.from name.to name.number
    → ExactlyOnce job (Runs job name) events world
runs_once job IsKept [] world name sound among holds new ran = absurd (new ran)
runs_once job IsKept (e ∷ events) world name sound among holds new ran =
    let x = world_after job world e in
    let kept = step_keeps job IsKept world e sound holds among.0 in
    elim (cases_Bool (is_among name.number ((plain_of x).runs name.from name.to))) [
      | inl there ↦ inl (
        elim (step_ran job (plain_of world) (plain_of x) e.event (world_answer job world e) name.from name.to
            name.number (step_plain job IsKept world e sound holds) there) [
              | inl old ↦ absurd (new old)
              | inr by ↦ record { event = by.2; answer = by.0; answered = by.3; ran = by.1 }
            ],
        λ again. never_again job IsKept events x name sound among.1 kept there again,
      )
      | inr not_there ↦ inr (
        (λ here. true≢false (sym (ran_after job IsKept world e events name sound holds here) ∙ not_there)),
        runs_once job IsKept events x name sound among.1 kept (λ there. true≢false (sym there ∙ not_there)) ran,
      )
    ]

-- ---- a reply comes back

take_step : {Local : Type 0} (behaviour : Behaviour Local) (p q : Plain Local) (name : RequestName) (b : Delivered)
    → IsReturned b → TakeStep behaviour p name b q → Takes behaviour p name b q
take_step behaviour p q name (delivered.Returned to slot number) says h = h
take_step behaviour p q name (delivered.Ran at) says h = absurd says
take_step behaviour p q name (delivered.Notified at notification) says h = absurd says
take_step behaviour p q name (delivered.Duplicate at) says h = absurd says
take_step behaviour p q name delivered.Stale says h = absurd says
take_step behaviour p q name delivered.Late says h = absurd says
take_step behaviour p q name (delivered.Deferred lock) says h = absurd says
take_step behaviour p q name (delivered.Refused why) says h = absurd says

-- what a reply that is taken leaves
pub takes_first : {Local Call Told : Type 0} (job : Job Local Call Told) (IsKept : (me : ℕ) → Local → Type 0)
    (world : World Local) (e : EventAt Call) (name : RequestName) (b : Delivered) → IsAllSound job.behaviour IsKept
    → Holds job IsKept world → IsReturned b → e.event ≡ reply_comes name
    → world_answer job world e ≡ OfNode (OfDelivery b)
    → Takes job.behaviour.messages (plain_of world) name b (plain_of (world_after job world e))
takes_first job IsKept world e name b sound holds says event answered =
    take_step job.behaviour.messages (plain_of world) (plain_of (world_after job world e)) name b says
    (subst₂ (λ x a. PlainStep job (plain_of world) x a (plain_of (world_after job world e))) event answered
    (step_plain job IsKept world e sound holds))

-- the reply is taken, and what that leaves
pub record BackAs {Local Call Told : Type 0} (job : Job Local Call Told) (name : RequestName) (moment : Moment Local Call)
    : Type 0 where
  pub comes : ComesBack job name moment
  pub takes : Takes job.behaviour.messages (plain_of moment.before) name comes.answer (plain_of (after_in job moment))

-- what is back at the end was back before, or came back at one of the events
pub backs_happen : {Local Call Told : Type 0} (job : Job Local Call Told) (IsKept : (me : ℕ) → Local → Type 0)
    (events : List (EventAt Call)) (world : World Local) (name : RequestName) → IsAllSound job.behaviour IsKept
    → AreAmong job events → Holds job IsKept world
    → (plain_of (run job events world)).back name.from name.to name.number ≡ true
    → ((plain_of world).back name.from name.to name.number ≡ true)
    ⊎ Sometime job (BackAs job name) events world
backs_happen job IsKept [] world name sound among holds back = inl back
backs_happen job IsKept (e ∷ events) world name sound among holds back =
    let x = world_after job world e in
    let kept = step_keeps job IsKept world e sound holds among.0 in
    let steps = step_plain job IsKept world e sound holds in
    elim (backs_happen job IsKept events x name sound among.1 kept back) [
      | inl there ↦ elim (step_back job (plain_of world) (plain_of x) e.event (world_answer job world e) name.from
          name.to name.number steps there) [
            | inl old ↦ inl old
            | inr by ↦ inr (inl (record {
              comes = record { event = by.2; answer = by.0; answered = by.3; returned = by.1 };
              takes = takes_first job IsKept world e name by.0 sound holds by.1 by.2 by.3;
            }))
          ]
      | inr later ↦ inr (inr later)
    ]

back_after : {Local Call Told : Type 0} (job : Job Local Call Told) (IsKept : (me : ℕ) → Local → Type 0)
    (world : World Local) (e : EventAt Call) (later : List (EventAt Call)) (name : RequestName) → IsAllSound job.behaviour IsKept
    → Holds job IsKept world → ComesBack job name (record { before = world; timed = e; later = later })
    → (plain_of (world_after job world e)).back name.from name.to name.number ≡ true
back_after job IsKept world e later name sound holds it =
    let takes = takes_first job IsKept world e name it.answer sound holds it.returned it.event it.answered in
    let p = plain_of world in
    subst (λ q. q.back name.from name.to name.number ≡ true) (sym takes.leaves)
    (ap (λ f. f name.number) (pair_same p.back name.from name.to (put (p.back name.from name.to) name.number true))
    ∙ put_same (p.back name.from name.to) name.number true)

never_back : {Local Call Told : Type 0} (job : Job Local Call Told) (IsKept : (me : ℕ) → Local → Type 0)
    (events : List (EventAt Call)) (world : World Local) (name : RequestName) → IsAllSound job.behaviour IsKept
    → AreAmong job events → Holds job IsKept world
    → (plain_of world).back name.from name.to name.number ≡ true → Sometime job (ComesBack job name) events world → ⊥
never_back job IsKept [] world name sound among holds back it = it
never_back job IsKept (e ∷ events) world name sound among holds back it =
    let x = world_after job world e in
    elim it [
      | inl here ↦ true≢false (sym back
          ∙ (takes_first job IsKept world e name here.answer sound holds here.returned here.event
          here.answered).to_take.out)
      | inr later ↦ never_back job IsKept events x name sound among.1
          (step_keeps job IsKept world e sound holds among.0)
          ((step_grows job _ _ e.event (world_answer job world e) (step_plain job IsKept world e sound holds)).back
          name.from name.to name.number back)
          later
    ]

-- what wasn't back, and is at the end, came back once
pub backs_once : {Local Call Told : Type 0} (job : Job Local Call Told) (IsKept : (me : ℕ) → Local → Type 0)
    (events : List (EventAt Call)) (world : World Local) (name : RequestName) → IsAllSound job.behaviour IsKept
    → AreAmong job events → Holds job IsKept world
    → ((plain_of world).back name.from name.to name.number ≡ true → ⊥)
    → (plain_of (run job events world)).back name.from name.to name.number ≡ true
    → ExactlyOnce job (ComesBack job name) events world
backs_once job IsKept [] world name sound among holds new back = absurd (new back)
backs_once job IsKept (e ∷ events) world name sound among holds new back =
    let x = world_after job world e in
    let kept = step_keeps job IsKept world e sound holds among.0 in
    elim (cases_Bool ((plain_of x).back name.from name.to name.number)) [
      | inl there ↦ inl (
        elim (step_back job (plain_of world) (plain_of x) e.event (world_answer job world e) name.from name.to
            name.number (step_plain job IsKept world e sound holds) there) [
              | inl old ↦ absurd (new old)
              | inr by ↦ record { event = by.2; answer = by.0; answered = by.3; returned = by.1 }
            ],
        λ again. never_back job IsKept events x name sound among.1 kept there again,
      )
      | inr not_there ↦ inr (
        (λ here. true≢false (sym (back_after job IsKept world e events name sound holds here) ∙ not_there)),
        backs_once job IsKept events x name sound among.1 kept (λ there. true≢false (sym there ∙ not_there)) back,
      )
    ]
