-- The headline holds of every run of a world from its opening.
use Rattle.std.proofs.Common.{◌≡◌, ◌⊎◌, inl, inr, ℕ, zero, suc, ◌≤◌, max, false, true≢false, List, [], ◌∷◌, Some, refl}
use Rattle.std.proofs.Common.{sym, ap, ◌∙◌, subst, arith}
use Rattle.std.specs.Prelude.{take}
use Rattle.std.specs.List.{AllByRecursion, slice_get}
use Rattle.std.proofs.Math.Path.{fun_ext}
use Rattle.std.proofs.lemmas.Bool.Decides.{nat_tests}
use Rattle.std.proofs.lemmas.Option.{same_Some}
use Rattle.base_lists.specs.Numbered.{element_at}
use Rattle.spec_node.specs.Held.{held_buffers}
use Rattle.spec_node.specs.NodeStep.{Job, IsAllSound}
use Rattle.spec_node.proofs.Holding.{held_nothing}
use Rattle.spec_network.specs.World.{World, opening, EventAt, IsAmong, world_answer, world_after, run, answers_of}
use Rattle.spec_network.specs.MostHeld.{most_then, most_after}
use Rattle.spec_network.specs.Invariant.{Holds}
use Rattle.spec_network.specs.Plain.{plain_opening, plain_of, is_back}
use Rattle.spec_network.specs.PlainStep.{PlainStep, PlainRun}
use Rattle.spec_network.specs.Headline.{after_first, Grows, StepsAt, Headline, IsGreatest}
use Rattle.spec_network.proofs.Worlds.{step_keeps, opening_holds}
use Rattle.spec_network.proofs.Laws.{lawful}
use Rattle.spec_network.proofs.PlainParts.{same_plain}
use Rattle.spec_network.proofs.PlainSteps.{step_plain}
use Rattle.spec_network.proofs.PlainGrowing.{grows_same, step_grows}
use Rattle.spec_network.proofs.PlainRuns.{run_unrefused, run_at_most_once, taken_at_most_once, ran_in, returned_in}
use Rattle.spec_network.proofs.PlainRuns.{ran_before}
use Rattle.spec_network.proofs.Sending.{sent_are_recorded}

-- each event is among the nodes
abbrev pub AreAmong : {Local Call Told : Type 0} → Job Local Call Told → List (EventAt Call) → Type 0
AreAmong {Call = Call} job events = AllByRecursion (λ (e : EventAt Call). IsAmong job.settings e.event) events

-- ---- a run from any state of which the invariant holds

-- it is a run of the plain world
run_plain : {Local Call Told : Type 0} (job : Job Local Call Told) (IsKept : (me : ℕ) → Local → Type 0)
    (events : List (EventAt Call)) (world : World Local) → IsAllSound job.behaviour IsKept → AreAmong job events
    → Holds job IsKept world
    → PlainRun job (plain_of world) events (answers_of job events world) (plain_of (run job events world))
run_plain job IsKept [] world sound among holds = refl
run_plain job IsKept (e ∷ events) world sound among holds =
    let x = world_after job world e in (
      plain_of x,
      step_plain job IsKept world e sound holds,
      run_plain job IsKept events x sound among.1 (step_keeps job IsKept world e sound holds among.0),
    )

-- at its end the invariant holds
pub end_holds : {Local Call Told : Type 0} (job : Job Local Call Told) (IsKept : (me : ℕ) → Local → Type 0)
    (events : List (EventAt Call)) (world : World Local) → IsAllSound job.behaviour IsKept → AreAmong job events
    → Holds job IsKept world → Holds job IsKept (run job events world)
end_holds job IsKept [] world sound among holds = holds
end_holds job IsKept (e ∷ events) world sound among holds =
    end_holds job IsKept events (world_after job world e) sound among.1
    (step_keeps job IsKept world e sound holds among.0)

-- an event of the run is answered by the state before it
answer_there : {Local Call Told : Type 0} (job : Job Local Call Told) (events : List (EventAt Call)) (world : World Local)
    (place : ℕ) (e : EventAt Call) → slice_get events place ≡ Some e
    → slice_get (answers_of job events world) place ≡ Some (world_answer job (after_first job events world place) e)
answer_there job [] world place e at = absurd (cc)
answer_there job (x ∷ events) world zero e at = ap (λ (y : EventAt _). Some (world_answer job world y)) (same_Some x e at)
answer_there job (x ∷ events) world (suc place) e at = answer_there job events (world_after job world x) place e at

-- and leaves the state after it
after_there : {Local Call Told : Type 0} (job : Job Local Call Told) (events : List (EventAt Call)) (world : World Local)
    (place : ℕ) (e : EventAt Call) → slice_get events place ≡ Some e
    → after_first job events world (suc place) ≡ world_after job (after_first job events world place) e
after_there job [] world place e at = absurd (cc)
after_there job (x ∷ events) world zero e at = ap (λ (y : EventAt _). world_after job world y) (same_Some x e at)
after_there job (x ∷ events) world (suc place) e at = after_there job events (world_after job world x) place e at

-- what holds of the elements of a list holds of its first ones
all_first : {X : Type 0} (P : X → Type 0) (n : ℕ) (xs : List X) → AllByRecursion P xs → AllByRecursion P (take n xs)
all_first P zero xs all = tt
all_first P (suc n) [] all = tt
all_first P (suc n) (x ∷ xs) all = (all.0, all_first P n xs all.1)

-- after any number of its events the invariant holds
run_keeps : {Local Call Told : Type 0} (job : Job Local Call Told) (IsKept : (me : ℕ) → Local → Type 0)
    (events : List (EventAt Call)) (world : World Local) → IsAllSound job.behaviour IsKept → AreAmong job events
    → Holds job IsKept world → (count : ℕ) → Holds job IsKept (after_first job events world count)
run_keeps {Call = Call} job IsKept events world sound among holds count =
    end_holds job IsKept (take count events) world sound
    (all_first (λ (e : EventAt Call). IsAmong job.settings e.event) count events among) holds

-- after one event more there is what there was
run_grows : {Local Call Told : Type 0} (job : Job Local Call Told) (IsKept : (me : ℕ) → Local → Type 0)
    (events : List (EventAt Call)) (world : World Local) → IsAllSound job.behaviour IsKept → AreAmong job events
    → Holds job IsKept world → (count : ℕ)
    → Grows (plain_of (after_first job events world count)) (plain_of (after_first job events world (suc count)))
run_grows job IsKept [] world sound among holds zero = grows_same _ _ refl
run_grows job IsKept [] world sound among holds (suc count) = grows_same _ _ refl
run_grows job IsKept (e ∷ events) world sound among holds zero =
    step_grows job _ _ e.event (world_answer job world e) (step_plain job IsKept world e sound holds)
run_grows job IsKept (e ∷ events) world sound among holds (suc count) =
    run_grows job IsKept events (world_after job world e) sound among.1
    (step_keeps job IsKept world e sound holds among.0) count

-- ---- a run from the opening

-- the opening of a world is that of the plain one
opening_plain : {Local : Type 0} (start : ℕ → Local) → plain_of (opening start) ≡ plain_opening start
opening_plain start = same_plain _ _ refl refl (fun_ext (λ i. fun_ext (λ j. fun_ext nothing_back))) refl
  where
    nothing_back : (k : ℕ) → is_back (element_at [] k) ≡ false
    nothing_back zero = refl
    nothing_back (suc place) = refl

-- each event of the run is a step of the plain world
steps_at : {Local Call Told : Type 0} (job : Job Local Call Told) (IsKept : (me : ℕ) → Local → Type 0)
    (start : ℕ → Local)
    (events : List (EventAt Call)) (place : ℕ) (e : EventAt Call) → IsAllSound job.behaviour IsKept
    → Holds job IsKept (after_first job events (opening start) place) → slice_get events place ≡ Some e
    → StepsAt job start events place e
steps_at {Local = Local} job IsKept start events place e sound holds at =
    let x = after_first job events (opening start) place in
    record {
      answer = answer_there job events (opening start) place e at;
      step = subst (λ (y : World Local). PlainStep job (plain_of x) e.event (world_answer job x e) (plain_of y))
          (sym (after_there job events (opening start) place e at)) (step_plain job IsKept x e sound holds);
    }

-- the headline, for any sound behaviour
pub headline : {Local Call Told : Type 0} (job : Job Local Call Told) (IsKept : (me : ℕ) → Local → Type 0)
    (start : ℕ → Local) (events : List (EventAt Call)) → IsAllSound job.behaviour IsKept → ((i : ℕ) → IsKept i (start i))
    → AreAmong job events → Headline job start events
headline {Call = Call} job IsKept start events sound good among =
    let world = opening start in
    let holds = opening_holds job IsKept start good in
    let given = answers_of job events world in
    let end = plain_of (run job events world) in
    let it = subst (λ p. PlainRun job p events given end) (opening_plain start)
    (run_plain job IsKept events world sound among holds) in
    record {
      plain = it;
      unrefused = run_unrefused job events given _ end it;
      steps =
          λ place e at. steps_at job IsKept start events place e sound
          (run_keeps job IsKept events world sound among holds place) at;
      states = λ count. lawful job IsKept _ sound (run_keeps job IsKept events world sound among holds count);
      grows = run_grows job IsKept events world sound among holds;
      once = run_at_most_once job events given _ end it;
      taken = record {
        once = taken_at_most_once job events given _ end it;
        ran = ran_before job events given _ end it (λ name ran. true≢false (sym ran));
      };
      delivered = record {
        ran = ran_in job events given _ end it (λ name ran. true≢false (sym ran));
        returned = returned_in job events given _ end it (λ name back. true≢false (sym back));
      };
      sent = λ count. sent_are_recorded job IsKept start (take count events) sound good
          (all_first (λ (e : EventAt Call). IsAmong job.settings e.event) count events among);
    }

-- ---- the most that was held

-- what was held at most never falls
most_grows : {Local Call Told : Type 0} (job : Job Local Call Told) (events : List (EventAt Call)) (world : World Local)
    (most : ℕ → ℕ) (i : ℕ) → most i ≤ most_after job events world most i
most_grows job [] world most i = omega arith
most_grows job (e ∷ events) world most i =
    let x = world_after job world e in
    let ih = most_grows job events x (most_then job.settings x most) i in
    omega arith

-- no state of a run has more
never_more : {Local Call Told : Type 0} (job : Job Local Call Told) (events : List (EventAt Call)) (world : World Local)
    (most : ℕ → ℕ) (i : ℕ) → held_buffers job.settings i (world i) ≤ most i
    → (count : ℕ) → held_buffers job.settings i (after_first job events world count i) ≤ most_after job events world most i
never_more job events world most i le zero = let up = most_grows job events world most i in omega arith
never_more job [] world most i le (suc count) = le
never_more job (e ∷ events) world most i le (suc count) =
    let x = world_after job world e in
    never_more job events x (most_then job.settings x most) i (omega arith) count

-- it was held before, or in a state of the run
reached : {Local Call Told : Type 0} (job : Job Local Call Told) (events : List (EventAt Call)) (world : World Local)
    (most : ℕ → ℕ) (i : ℕ)
    → (most_after job events world most i ≡ most i)
    ⊎ ((count : ℕ) × (held_buffers job.settings i (after_first job events world count i) ≡ most_after job events world most i))
reached job [] world most i = inl refl
reached job (e ∷ events) world most i =
    let x = world_after job world e in
    elim (reached job events x (most_then job.settings x most) i) [
      | inl same ↦ elim (max_is (most i) (held_buffers job.settings i (x i))) [
        | inl old ↦ inl (same ∙ old)
        | inr now ↦ inr (1, sym (same ∙ now))
      ]
      | inr at ↦ inr (suc at.0, at.1)
    ]
  where
    max_is : (a b : ℕ) → (max a b ≡ a) ⊎ (max a b ≡ b)
    max_is a b = grind (arith, nat_tests)

-- the most that a node held in a run from the opening
pub run_greatest : {Local Call Told : Type 0} (job : Job Local Call Told) (start : ℕ → Local)
    (events : List (EventAt Call))
    (i : ℕ) → IsGreatest job events (opening start) i (most_after job events (opening start) (λ j. 0) i)
run_greatest job start events i =
    let none : held_buffers job.settings i (opening start i) ≡ 0 = held_nothing job.settings i (start i) in
    record {
      reached = elim (reached job events (opening start) (λ j. 0) i) [ inl same ↦ (0, none ∙ sym same) | inr at ↦ at ];
      never_more = never_more job events (opening start) (λ j. 0) i (omega (arith, none));
    }
