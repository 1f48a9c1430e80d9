-- What holds of the answers of a run of the plain world.
use Rattle.std.proofs.Common.{◌≡◌, ◌⊎◌, inl, inr, ℕ, zero, suc, ◌<◌, true, true≢false, List, [], ◌∷◌, Some, refl, sym}
use Rattle.std.proofs.Common.{ap, ◌∙◌, subst, subst₂, arith}
use Rattle.std.specs.Prelude.{take}
use Rattle.std.specs.List.{slice_get}
use Rattle.std.proofs.lemmas.Option.{same_Some}
use Rattle.base_lists.specs.Put.{put}
use Rattle.base_lists.proofs.Put.{put_same}
use Rattle.spec_node.specs.declared.answer.Delivered.{Delivered}
use Rattle.spec_node.specs.declared.answer.Delivered.TheVariants as delivered
use Rattle.spec_node.specs.NodeStep.{Job, OfDelivery}
use Rattle.spec_network.specs.World.{Event, RequestComes, ReplyComes, EventAt, WorldAnswer, OfNode}
use Rattle.spec_network.specs.Plain.{Plain, RunReply, InRuns, put_pair}
use Rattle.spec_network.specs.PlainStep.{RequestName, at_target, NodeStep, PlainStep, PlainRun}
use Rattle.spec_network.specs.Headline.{Grows, IsUnrefused, NoneRefused, Delivers, IsRanAnswer, IsReturned}
use Rattle.spec_network.specs.Headline.{request_comes, reply_comes, Happens, AtMostOnce, RunsAtMostOnce}
use Rattle.spec_network.proofs.PlainReadings.{reply_among}
use Rattle.spec_network.proofs.PlainGrowing.{IsBy, pair_same, step_grows, ran_stays, in_replied, step_ran, step_back}

-- ---- no delivery is refused

-- no step refuses a delivery
step_unrefused : {Local Call Told : Type 0} (job : Job Local Call Told) (p q : Plain Local) (e : Event Call)
    (a : WorldAnswer Told) → PlainStep job p e a q → IsUnrefused e a
step_unrefused job p q (RequestComes i j k) (OfNode (OfDelivery (delivered.Refused reason))) h = h.is_run
step_unrefused job p q (ReplyComes i j k) (OfNode (OfDelivery (delivered.Refused reason))) h = h
step_unrefused job p q e a h = tt

-- no run refuses a delivery
pub run_unrefused : {Local Call Told : Type 0} (job : Job Local Call Told) (events : List (EventAt Call))
    (given : List (WorldAnswer Told)) (p q : Plain Local) → PlainRun job p events given q → NoneRefused events given
run_unrefused job [] [] p q h = tt
run_unrefused job (e ∷ events) (a ∷ given) p q h =
    (step_unrefused job p h.0 e.event a h.1, run_unrefused job events given h.0 q h.2)
run_unrefused job events given p q h = h

-- ---- deliveries of a run

-- a run of no events has none
no_delivery : {Call Told : Type 0} {given : List (WorldAnswer Told)} {place : ℕ} {x : Event Call} {b : Delivered}
    → Delivers [] given place x b → ⊥
no_delivery d = let e = d.event_is in cc

-- that of the first event, by its step
first_step : {Local Call Told : Type 0} (job : Job Local Call Told) (p q : Plain Local) (e : EventAt Call)
    (a : WorldAnswer Told) (events : List (EventAt Call)) (given : List (WorldAnswer Told)) (x : Event Call)
    (b : Delivered)
    → PlainStep job p e.event a q → Delivers (e ∷ events) (a ∷ given) 0 x b → NodeStep job p x (OfDelivery b) q
first_step job p q e a events given x b h d =
    subst₂ (λ y c. PlainStep job p y c q)
    (ap (λ (z : EventAt _). z.event) (same_Some e (record { now = d.now; event = x }) d.event_is))
    (same_Some a _ d.answer_is) h

-- one of the later events
later : {Call Told : Type 0} {e : EventAt Call} {a : WorldAnswer Told} {events : List (EventAt Call)}
    {given : List (WorldAnswer Told)} {place : ℕ} {x : Event Call} {b : Delivered}
    → Delivers (e ∷ events) (a ∷ given) (suc place) x b → Delivers events given place x b
later d = record { now = d.now; event_is = d.event_is; answer_is = d.answer_is }

-- with one event before it
preceded : {Call Told : Type 0} {e : EventAt Call} {a : WorldAnswer Told} {events : List (EventAt Call)}
    {given : List (WorldAnswer Told)} {place : ℕ} {x : Event Call} {b : Delivered}
    → Delivers events given place x b → Delivers (e ∷ events) (a ∷ given) (suc place) x b
preceded d = record { now = d.now; event_is = d.event_is; answer_is = d.answer_is }

-- ---- at most once

-- where this event is answered so, and nowhere else, something becomes so that wasn't; and what is so stays so
record Makes {Local Call Told : Type 0} (job : Job Local Call Told) (x : Event Call) (Says : Delivered → Type 0)
    (So : Plain Local → Type 0) : Type 0 where
  makes : (p q : Plain Local) (b : Delivered) → Says b → NodeStep job p x (OfDelivery b) q → (So p → ⊥) × So q
  stays : (p q : Plain Local) → Grows p q → So p → So q
  only : (p q : Plain Local) (e : Event Call) (a : WorldAnswer Told) → PlainStep job p e a q → So q
      → So p ⊎ IsBy x Says e a

-- once it is so, the event isn't answered so
never_again : {Local Call Told : Type 0} (job : Job Local Call Told) (x : Event Call) (Says : Delivered → Type 0)
    (So : Plain Local → Type 0) (events : List (EventAt Call)) (given : List (WorldAnswer Told)) (p q : Plain Local)
    (place : ℕ) (b : Delivered) → Makes job x Says So → PlainRun job p events given q → So p → Says b
    → Delivers events given place x b → ⊥
never_again job x Says So [] given p q place b M h so g d = no_delivery d
never_again job x Says So (e ∷ events) [] p q place b M h so g d = h
never_again job x Says So (e ∷ events) (a ∷ given) p q zero b M h so g d =
    (M.makes p h.0 b g (first_step job p h.0 e a events given x b h.1 d)).0 so
never_again job x Says So (e ∷ events) (a ∷ given) p q (suc place) b M h so g d =
    never_again job x Says So events given h.0 q place b M h.2
    (M.stays p h.0 (step_grows job p h.0 e.event a h.1) so) g (later d)

-- the event is answered so at most once
at_most_once : {Local Call Told : Type 0} (job : Job Local Call Told) (x : Event Call) (Says : Delivered → Type 0)
    (So : Plain Local → Type 0) (events : List (EventAt Call)) (given : List (WorldAnswer Told)) (p q : Plain Local)
    → Makes job x Says So → PlainRun job p events given q → AtMostOnce events given x Says
at_most_once job x Says So [] given p q M h place other one two = absurd (no_delivery one.delivers)
at_most_once job x Says So (y ∷ events) [] p q M h place other one two = absurd h
at_most_once job x Says So (y ∷ events) (a ∷ given) p q M h zero zero one two = refl
at_most_once job x Says So (y ∷ events) (a ∷ given) p q M h zero (suc other) one two =
    absurd (never_again job x Says So events given h.0 q other two.answer M h.2
    (M.makes p h.0 one.answer one.says (first_step job p h.0 y a events given x one.answer h.1 one.delivers)).1
    two.says (later two.delivers))
at_most_once job x Says So (y ∷ events) (a ∷ given) p q M h (suc place) zero one two =
    absurd (never_again job x Says So events given h.0 q place one.answer M h.2
    (M.makes p h.0 two.answer two.says (first_step job p h.0 y a events given x two.answer h.1 two.delivers)).1
    one.says (later one.delivers))
at_most_once job x Says So (y ∷ events) (a ∷ given) p q M h (suc place) (suc other) one two =
    ap suc (at_most_once job x Says So events given h.0 q M h.2 place other
    (record { answer = one.answer; says = one.says; delivers = later one.delivers })
    (record { answer = two.answer; says = two.says; delivers = later two.delivers }))

-- the request was run
abbrev pub IsRan : {Local : Type 0} → RequestName → Plain Local → Type 0
IsRan name p = InRuns p name.from name.to name.number

-- the request is back
abbrev pub IsBack : {Local : Type 0} → RequestName → Plain Local → Type 0
IsBack name p = p.back name.from name.to name.number ≡ true

-- a request that is run wasn't among the runs, and is from then on
run_makes : {Local Call Told : Type 0} (job : Job Local Call Told) (name : RequestName)
    → Makes job (request_comes name) IsRanAnswer (IsRan name)
run_makes {Local = Local} job name = record {
  makes = go;
  stays = λ p q G ran. ran_stays p q name.from name.to name.number G ran;
  only = λ p q e a h ran. step_ran job p q e a name.from name.to name.number h ran;
}
  where
    go : (p q : Plain Local) (b : Delivered) → IsRanAnswer b → NodeStep job p (request_comes name) (OfDelivery b) q
        → (IsRan name p → ⊥) × IsRan name q
    go p q (delivered.Duplicate at) g h = absurd g.1
    go p q delivered.Stale g h = absurd g.1
    go p q (delivered.Deferred lock) g h = absurd g.1
    go p q b g h =
        let out = job.behaviour.messages.run (at_target name h.request) h.request.content (p.local name.to) in
        let new : RunReply = record { number = name.number; reply = out.1 } in
        (h.fresh.new, subst (IsRan name) (sym h.leaves) (in_replied p name.from name.to new out.0))

-- a request is run at most once
pub run_at_most_once : {Local Call Told : Type 0} (job : Job Local Call Told) (events : List (EventAt Call))
    (given : List (WorldAnswer Told)) (p q : Plain Local) → PlainRun job p events given q → RunsAtMostOnce events given
run_at_most_once job events given p q h name =
    at_most_once job (request_comes name) IsRanAnswer (IsRan name) events given p q (run_makes job name) h

-- a request whose reply is taken wasn't back, and is from then on
take_makes : {Local Call Told : Type 0} (job : Job Local Call Told) (name : RequestName)
    → Makes job (reply_comes name) IsReturned (IsBack name)
take_makes {Local = Local} job name = record {
  makes = go;
  stays = λ p q G back. G.back name.from name.to name.number back;
  only = λ p q e a h back. step_back job p q e a name.from name.to name.number h back;
}
  where
    here : (p : Plain Local)
        → put_pair p.back name.from name.to (put (p.back name.from name.to) name.number true) name.from name.to
        name.number ≡ true
    here p = ap (λ f. f name.number) (pair_same p.back name.from name.to _)
        ∙ put_same (p.back name.from name.to) name.number true

    go : (p q : Plain Local) (b : Delivered) → IsReturned b → NodeStep job p (reply_comes name) (OfDelivery b) q
        → (IsBack name p → ⊥) × IsBack name q
    go p q (delivered.Returned to slot number) g h =
        ((λ back. true≢false (sym back ∙ h.to_take.out)), subst (IsBack name) (sym h.leaves) (here p))
    go p q b g h = absurd g

-- a reply is taken at most once
pub taken_at_most_once : {Local Call Told : Type 0} (job : Job Local Call Told) (events : List (EventAt Call))
    (given : List (WorldAnswer Told)) (p q : Plain Local) → PlainRun job p events given q
    → (name : RequestName) → AtMostOnce events given (reply_comes name) IsReturned
taken_at_most_once job events given p q h name =
    at_most_once job (reply_comes name) IsReturned (IsBack name) events given p q (take_makes job name) h

-- ---- what was run, or is back, became so by a delivery

-- what is so after a run was so before it, or became so where the event was answered so
made_by : {Local Call Told : Type 0} (job : Job Local Call Told) (x : Event Call) (Says : Delivered → Type 0)
    (So : Plain Local → Type 0) (events : List (EventAt Call)) (given : List (WorldAnswer Told)) (p q : Plain Local)
    → Makes job x Says So → PlainRun job p events given q → So q
    → So p ⊎ ((place : ℕ) × Happens events given x Says place)
made_by job x Says So [] [] p q M h so = inl (subst So h so)
made_by job x Says So [] (a ∷ given) p q M h so = absurd h
made_by job x Says So (e ∷ events) [] p q M h so = absurd h
made_by job x Says So (e ∷ events) (a ∷ given) p q M h so =
    elim (made_by job x Says So events given h.0 q M h.2 so) [
      | inl then ↦ elim (M.only p h.0 e.event a h.1 then) [
        | inl was ↦ inl was
        | inr now ↦ inr (
          0,
          record {
            answer = now.0;
            says = now.1;
            delivers = record {
              now = e.now;
              event_is = ap (λ y. Some (record { now = e.now; event = y })) now.2;
              answer_is = ap Some now.3;
            };
          },
        )
      ]
      | inr it ↦ inr (suc it.0, record { answer = it.1.answer; says = it.1.says; delivers = preceded it.1.delivers })
    ]

-- where nothing was run at first, what is among the runs was run by a delivery
pub ran_in : {Local Call Told : Type 0} (job : Job Local Call Told) (events : List (EventAt Call))
    (given : List (WorldAnswer Told)) (p q : Plain Local) → PlainRun job p events given q
    → ((name : RequestName) → IsRan name p → ⊥) → (name : RequestName) → IsRan name q
    → (place : ℕ) × Happens events given (request_comes name) IsRanAnswer place
ran_in job events given p q h none name ran =
    elim (made_by job (request_comes name) IsRanAnswer (IsRan name) events given p q (run_makes job name) h ran) [
      | inl was ↦ absurd (none name was)
      | inr it ↦ it
    ]

-- where nothing was back at first, what is back was brought back by a delivery
pub returned_in : {Local Call Told : Type 0} (job : Job Local Call Told) (events : List (EventAt Call))
    (given : List (WorldAnswer Told)) (p q : Plain Local) → PlainRun job p events given q
    → ((name : RequestName) → IsBack name p → ⊥) → (name : RequestName) → IsBack name q
    → (place : ℕ) × Happens events given (reply_comes name) IsReturned place
returned_in job events given p q h none name back =
    elim (made_by job (reply_comes name) IsReturned (IsBack name) events given p q (take_makes job name) h back) [
      | inl was ↦ absurd (none name was)
      | inr it ↦ it
    ]

-- ---- a reply comes after its request was run

-- the run before a delivery, and the step of that delivery
record RunBefore {Local Call Told : Type 0} (job : Job Local Call Told) (events : List (EventAt Call))
    (given : List (WorldAnswer Told)) (p : Plain Local) (place : ℕ) (x : Event Call) (b : Delivered) : Type 0 where
  then : Plain Local
  next : Plain Local
  run : PlainRun job p (take place events) (take place given) then
  step : NodeStep job then x (OfDelivery b) next

-- each delivery has one
run_before : {Local Call Told : Type 0} (job : Job Local Call Told) (events : List (EventAt Call))
    (given : List (WorldAnswer Told)) (p q : Plain Local) (place : ℕ) (x : Event Call) (b : Delivered)
    → PlainRun job p events given q → Delivers events given place x b → RunBefore job events given p place x b
run_before job [] given p q place x b h d = absurd (no_delivery d)
run_before job (e ∷ events) [] p q place x b h d = absurd h
run_before job (e ∷ events) (a ∷ given) p q zero x b h d =
    record { then = p; next = h.0; run = refl; step = first_step job p h.0 e a events given x b h.1 d }
run_before job (e ∷ events) (a ∷ given) p q (suc place) x b h d =
    let B = run_before job events given h.0 q place x b h.2 (later d) in
    record { then = B.then; next = B.next; run = (h.0, h.1, B.run); step = B.step }

-- what stands among the first ones of a list stands there in the list
among_first : {X : Type 0} (n : ℕ) (xs : List X) (k : ℕ) (x : X) → slice_get (take n xs) k ≡ Some x
    → (k < n) × (slice_get xs k ≡ Some x)
among_first zero xs k x e = absurd (cc)
among_first (suc n) [] k x e = absurd (cc)
among_first (suc n) (y ∷ xs) zero x e = (omega arith, e)
among_first (suc n) (y ∷ xs) (suc k) x e = let it = among_first n xs k x e in (omega (arith, it.0), it.1)

-- a reply that is taken is that of a request that ran
taken_ran : {Local Call Told : Type 0} (job : Job Local Call Told) (p q : Plain Local) (name : RequestName) (b : Delivered)
    → IsReturned b → NodeStep job p (reply_comes name) (OfDelivery b) q → IsRan name p
taken_ran job p q name (delivered.Returned to slot number) g h =
    reply_among (p.runs name.from name.to) name.number h.reply h.to_take.reply_is
taken_ran job p q name b g h = absurd g

-- where nothing was run at first, a request whose reply is taken was run before
pub ran_before : {Local Call Told : Type 0} (job : Job Local Call Told) (events : List (EventAt Call))
    (given : List (WorldAnswer Told)) (p q : Plain Local) → PlainRun job p events given q
    → ((name : RequestName) → IsRan name p → ⊥) → (name : RequestName) (place : ℕ)
    → Happens events given (reply_comes name) IsReturned place
    → (earlier : ℕ) × (earlier < place) × Happens events given (request_comes name) IsRanAnswer earlier
ran_before job events given p q h none name place taken =
    let B = run_before job events given p q place (reply_comes name) taken.answer h taken.delivers in
    let it = ran_in job (take place events) (take place given) p B.then B.run none name
    (taken_ran job B.then B.next name taken.answer taken.says B.step) in
    let d = it.1.delivers in
    let event = among_first place events it.0 (record { now = d.now; event = request_comes name }) d.event_is in
    let answer = among_first place given it.0 (OfNode (OfDelivery it.1.answer)) d.answer_is in (
      it.0,
      event.0,
      record {
        answer = it.1.answer;
        says = it.1.says;
        delivers = record { now = d.now; event_is = event.1; answer_is = answer.1 };
      },
    )
