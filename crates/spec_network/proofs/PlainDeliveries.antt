-- A request or a reply that comes is a step of the plain world.
use Rattle.std.proofs.Common.{◌≡◌, inl, inr, ℕ, ◌<◌, ◌≤◌, true, false, cond}
use Rattle.std.proofs.Common.{List, map, Option, None, Some, refl, sym}
use Rattle.std.proofs.Common.{ap, ◌∙◌, subst, ap₂, arith, ltb, eq-eqb, ne_eqb}
use Rattle.std.specs.Prelude.{is_none}
use Rattle.std.proofs.lemmas.Bool.Decides.{nat_tests}
use Rattle.std.proofs.lemmas.Bool.{cases_Bool, cases_order, and_parts}
use Rattle.std.proofs.lemmas.Option.{same_Some}
use Rattle.wire_message.specs.Parameters.{credits_of}
use Rattle.wire_message.specs.Content.{Content}
use Rattle.base_lists.specs.Numbered.{element_at}
use Rattle.base_lists.specs.Put.{put}
use Rattle.base_lists.proofs.Cases.{cases_option, none_some, none_is}
use Rattle.base_lists.proofs.Numbered.{numbered_in, numbered_map, numbered_mapped}
use Rattle.spec_node.specs.declared.answer.Why.{Why}
use Rattle.spec_node.specs.declared.answer.Delivered.{Delivered}
use Rattle.spec_node.specs.declared.answer.Delivered.TheVariants as delivered
use Rattle.spec_node.specs.Record.{Request, Run}
use Rattle.spec_node.specs.Executed.{greatest, run_of}
use Rattle.spec_node.specs.Credits.{Limits, limits_of}
use Rattle.spec_node.specs.Behaviour.{RanRequest, is_request, asks_well, replies_well}
use Rattle.spec_node.specs.Step.{refusal, Verdict, Duplicated, Passed, Runs, Missed, Returns, Waits, verdict_of_number, taken_back}
use Rattle.spec_node.specs.Step.{verdict, answer_by, with_sender, reply_slot, after_delivery}
use Rattle.spec_node.specs.NodeStep.{Job, site_of, IsAllSound}
use Rattle.spec_node.specs.Invariant.{request_message, reply_message}
use Rattle.spec_node.proofs.Runs.{run_of_there, run_of_from, greatest_there, greatest_bounds}
use Rattle.spec_node.proofs.Answers.{no_request}
use Rattle.spec_network.specs.World.{World, RequestComes, ReplyComes, request_event}
use Rattle.spec_network.specs.World.{reply_event, answer_at, after_at}
use Rattle.spec_network.specs.Invariant.{PairInvariant, Holds}
use Rattle.spec_network.specs.Plain.{PlainRequest, plain_of, plain_request, run_reply, is_among, InRuns}
use Rattle.spec_network.specs.Plain.{with_credit}
use Rattle.spec_network.specs.PlainStep.{request_name, IsToTake, RunStep, TakeStep}
use Rattle.spec_network.specs.PlainStep.{PlainStep}
use Rattle.spec_network.proofs.PlainReadings.{is_back_at, among_from, from_among}
use Rattle.spec_network.proofs.PlainReadings.{reply_of_from}
use Rattle.spec_network.proofs.PlainParts.{plain_same, plain_run}
use Rattle.spec_network.proofs.PlainParts.{plain_back}

-- where a request with this number was run, the slot's greatest number isn't below it
pub past : (limits : Limits) (refuses : Content → Option Why) (requests : List Request) (runs : List Run) (l : ℕ)
    (request : Request)
    (run : Run) → PairInvariant limits refuses requests runs → element_at requests l ≡ Some request
    → run_of l runs ≡ Some run
    → l ≤ greatest request.slot runs
past limits refuses requests runs l request run P e f =
    let at = run_of_there l runs run f in
    let y = P.named at.1.0 run at.1.1 in
    let i : y.0 ≡ request = same_Some _ _ (sym y.1 ∙ (ap (element_at requests) at.0 ∙ e)) in
    let slot : run.slot ≡ request.slot = sym y.2 ∙ ap (λ (z : Request). z.slot) i in
    omega (arith, at.0, subst (λ q. run.number ≤ greatest q runs) slot (greatest_bounds runs at.1.0 run at.1.1))

-- the request with the slot's greatest number was run
pub greatest_run : (limits : Limits) (refuses : Content → Option Why) (requests : List Request) (runs : List Run)
    (slot : ℕ)
    → PairInvariant limits refuses requests runs → 0 < greatest slot runs
    → (request : Request) × (element_at requests (greatest slot runs) ≡ Some request) × (request.slot ≡ slot) ×
    (is_among (greatest slot runs) (map run_reply runs) ≡ true)
greatest_run limits refuses requests runs slot P some = elim (greatest_there slot runs) [
  | inl none ↦ absurd (omega (arith, none))
  | inr it ↦ (let request = P.named it.0 it.1 it.2 in let t = run_of_from runs it.0 it.1 it.2 in (
    request.0,
    ap (element_at requests) (sym it.4) ∙ request.1,
    request.2 ∙ it.3,
    ap (λ k. is_among k (map run_reply runs)) (sym it.4)
        ∙ among_from runs it.1.number t.0 t.1,
  ))
]

-- a request that was accepted isn't refused
request_unrefused : {Local Call Told : Type 0} (job : Job Local Call Told) (i j k : ℕ) (request : Request)
    → i < job.settings.nodes
    → request.slot < credits_of job.settings i j → asks_well job.behaviour.messages.refuses request.content ≡ true
    → refusal (site_of job j) (request_message job.settings i j k request) ≡ None
request_unrefused job i j k request low slot good =
    let settings = job.settings in
    let refuses = job.behaviour.messages.refuses in
    let parts = and_parts (is_request request.content.kind) (is_none (refuses request.content)) good in
    let from : ltb i settings.nodes ≡ true = grind (arith, nat_tests) in
    let in_slot : ltb request.slot (credits_of settings i j) ≡ true = grind (arith, nat_tests) in
    rw (eq-eqb settings.job settings.job refl, eq-eqb j j refl, from, parts.0, in_slot)
    (none_is (refuses request.content) parts.1)

-- the reply of a run isn't refused
reply_unrefused : {Local Call Told : Type 0} (job : Job Local Call Told) (i j : ℕ) (run : Run) → j < job.settings.nodes
    → run.slot < credits_of job.settings i j → replies_well job.behaviour.messages.refuses run.reply ≡ true
    → refusal (site_of job i) (reply_message job.settings i j run) ≡ None
reply_unrefused job i j run low slot good =
    let settings = job.settings in
    let refuses = job.behaviour.messages.refuses in
    let parts = and_parts (cond (is_request run.reply.kind) false true) (is_none (refuses run.reply)) good in
    let from : ltb j settings.nodes ≡ true = grind (arith, nat_tests) in
    let in_slot : ltb run.slot (credits_of settings i j) ≡ true = grind (arith, nat_tests) in
    rw (
      eq-eqb settings.job settings.job refl,
      eq-eqb i i refl,
      from,
      no_request refuses run.reply good,
      in_slot,
    )
    (none_is (refuses run.reply) parts.1)

-- a request that comes, by what becomes of it
abbrev RunIsPlain : {Local Call Told : Type 0} → Job Local Call Told → World Local → (from to number : ℕ) → Request
    → Verdict
    → Type 0
RunIsPlain job world from to number x v =
    let m = request_message job.settings from to number x in
    RunStep job.behaviour.messages (plain_of world) (request_name from to number) (answer_by job.behaviour.messages m v)
    (plain_of (put world to (after_delivery (site_of job to) (world to) m v)))

-- a request that was accepted is judged by its number
pub request_judged : {Local Call Told : Type 0} (job : Job Local Call Told) (IsKept : (me : ℕ) → Local → Type 0)
    (world : World Local) (from to number : ℕ) (request : Request) → Holds job IsKept world
    → element_at ((world from).asked to) number ≡ Some request
    → verdict (site_of job to) (world to) (request_message job.settings from to number request)
    ≡ verdict_of_number number (greatest request.slot ((world to).ran from))
    (job.behaviour.messages.waits request.content (world to).local)
request_judged job IsKept world from to number request holds e =
    let P = holds.pair from to in
    let good = P.well number request e in
    rw (
      request_unrefused job from to number request (holds.nodes from to number request e).0
          (P.orderly.low number request e) good,
      (and_parts (is_request request.content.kind) (is_none (job.behaviour.messages.refuses request.content)) good).0,
    ) refl

-- it runs, and is answered so
first_run : {Local Call Told : Type 0} (job : Job Local Call Told) (IsKept : (me : ℕ) → Local → Type 0)
    (world : World Local)
    (from to number : ℕ) (x : Request) → IsAllSound job.behaviour IsKept
    → element_at ((world from).asked to) number ≡ Some x
    → (InRuns (plain_of world) from to number → ⊥) → job.behaviour.messages.waits x.content (world to).local ≡ None
    → (a : Delivered) → job.behaviour.messages.runs_as x.content (reply_slot from x.slot) ≡ a
    → RunStep job.behaviour.messages (plain_of world) (request_name from to number) a
    (plain_of (put world to
    (after_delivery (site_of job to) (world to) (request_message job.settings from to number x) Runs)))
first_run job IsKept world from to number x sound e new free a is =
    go a is (subst (λ b. RanRequest b (reply_slot from x.slot)) is
    (sound.messages.runs_as x.content (reply_slot from x.slot)))
  where
    go : (a : Delivered) → job.behaviour.messages.runs_as x.content (reply_slot from x.slot) ≡ a
        → RanRequest a (reply_slot from x.slot)
        → RunStep job.behaviour.messages (plain_of world) (request_name from to number) a
        (plain_of (put world to
        (after_delivery (site_of job to) (world to) (request_message job.settings from to number x) Runs)))
    go (delivered.Duplicate at) f run = absurd run
    go delivered.Stale f run = absurd run
    go (delivered.Deferred lock) f run = absurd run
    go a f run = record {
      request = plain_request x;
      fresh = record { is = numbered_map plain_request ((world from).asked to) number x e; new = new };
      free = free;
      runs_as = sym f;
      is_run = run;
      leaves = plain_run world to (with_sender to (request_message job.settings from to number x)) x.content _;
    }

-- a request that was accepted comes
run_step : {Local Call Told : Type 0} (job : Job Local Call Told) (IsKept : (me : ℕ) → Local → Type 0)
    (world : World Local)
    (from to number : ℕ) (request : Request) → IsAllSound job.behaviour IsKept → Holds job IsKept world
    → element_at ((world from).asked to) number ≡ Some request
    → RunIsPlain job world from to number request
    (verdict (site_of job to) (world to) (request_message job.settings from to number request))
run_step job IsKept world from to number request sound holds e =
    let limits = limits_of job.settings from to in
    let refuses = job.behaviour.messages.refuses in
    let requests = (world from).asked to in
    let runs = (world to).ran from in
    let top = greatest request.slot runs in
    let P = holds.pair from to in
    let is = numbered_map plain_request requests number request e in
    let from_one = numbered_in requests number request e in
    let judged_is = request_judged job IsKept world from to number request holds e in
    elim (cases_order number top) [
      | inl same ↦ (let last =
          greatest_run limits refuses requests runs request.slot P (omega (arith, same, from_one.0)) in
          at Duplicated (judged_is ∙ rw (eq-eqb number top same) refl) (
            plain_request request,
            record { is = is; ran = ap (λ q. is_among q (map run_reply runs)) same ∙ last.3 },
            (λ passed.
                let y = numbered_mapped plain_request requests passed.0 passed.1 passed.3 in
                let r = from_among runs passed.0 passed.5 in
                let slot : y.0.slot ≡ request.slot = ap (λ (z : PlainRequest). z.slot) y.2 ∙ passed.4 in
                omega (
                  arith,
                  same,
                  passed.2,
                  subst (λ q. passed.0 ≤ greatest q runs) slot
                      (past limits refuses requests runs passed.0 y.0 r.0 P y.1 r.1),
                )),
            refl,
            plain_same world to,
          ))
      | inr apart ↦ elim apart [
        | inl less ↦ (let last = greatest_run limits refuses requests runs request.slot P (omega (arith, less)) in
            let back = P.orderly.apart number top request last.0 e last.1 less (sym last.2) in
            let ran = P.back_ran number request e back in
            let below : ltb number top ≡ true = grind (arith, nat_tests) in
            at Passed (judged_is ∙ rw (ne_eqb number top (λ f. omega (arith, f, less)), below) refl) (
              plain_request request,
              record { is = is; ran = among_from runs number ran.0 ran.1 },
              (top, plain_request last.0, less, numbered_map plain_request requests top last.0 last.1, last.2, last.3),
              plain_same world to,
            ))
        | inr more ↦ (let above : ltb number top ≡ false = grind (arith, nat_tests) in
            let new : InRuns (plain_of world) from to number → ⊥ =
            λ ran. let r = from_among runs number ran in
            omega (arith, more, past limits refuses requests runs number request r.0 P e r.1) in
            elim (cases_option (job.behaviour.messages.waits request.content (world to).local)) [
              | inl free ↦ at Runs (judged_is ∙ rw (ne_eqb number top (λ f. omega (arith, f, more)), above, free) refl)
                  (first_run job IsKept world from to number request sound e new free _ refl)
              | inr lock ↦ at (Waits lock.0)
                  (judged_is ∙ rw (ne_eqb number top (λ f. omega (arith, f, more)), above, lock.1) refl)
                  (plain_request request, record { is = is; new = new }, lock.1, plain_same world to)
            ])
      ]
    ]
  where
    at : (v : Verdict) → verdict (site_of job to) (world to) (request_message job.settings from to number request) ≡ v
        → RunIsPlain job world from to number request v
        → RunIsPlain job world from to number request
        (verdict (site_of job to) (world to) (request_message job.settings from to number request))
    at v f = subst (RunIsPlain job world from to number request) (sym f)

-- a reply that comes, by what becomes of it
abbrev TakeIsPlain : {Local Call Told : Type 0} → Job Local Call Told → World Local → (from to number : ℕ) → Run
    → Verdict
    → Type 0
TakeIsPlain job world from to number r v =
    let m = reply_message job.settings from to r in
    TakeStep job.behaviour.messages (plain_of world) (request_name from to number) (answer_by job.behaviour.messages m v)
    (plain_of (put world from (after_delivery (site_of job from) (world from) m v)))

-- the reply of a run is taken back by the request with its number
pub reply_judged : {Local Call Told : Type 0} (job : Job Local Call Told) (IsKept : (me : ℕ) → Local → Type 0)
    (world : World Local) (from to : ℕ) (run : Run) (request : Request) → Holds job IsKept world
    → replies_well job.behaviour.messages.refuses run.reply ≡ true
    → element_at ((world from).asked to) run.number ≡ Some request → request.slot ≡ run.slot
    → verdict (site_of job from) (world from) (reply_message job.settings from to run)
    ≡ taken_back run.slot (Some request) (job.behaviour.messages.waits run.reply (world from).local)
reply_judged job IsKept world from to run request holds good e same =
    rw (
      reply_unrefused job from to run (holds.nodes from to run.number request e).1
          (subst (λ q. q < credits_of job.settings from to) same
          ((holds.pair from to).orderly.low run.number request e)) good,
      no_request job.behaviour.messages.refuses run.reply good,
      e,
    ) refl

-- the reply of a run comes
take_step : {Local Call Told : Type 0} (job : Job Local Call Told) (IsKept : (me : ℕ) → Local → Type 0)
    (world : World Local)
    (i j k : ℕ) (run : Run) → Holds job IsKept world → run_of k ((world j).ran i) ≡ Some run
    → TakeIsPlain job world i j k run (verdict (site_of job i) (world i) (reply_message job.settings i j run))
take_step job IsKept world i j k run holds e =
    let u = job.behaviour.messages in
    let requests = (world i).asked j in
    let runs = (world j).ran i in
    let P = holds.pair i j in
    let at_run = run_of_there k runs run e in
    let x = P.named at_run.1.0 run at_run.1.1 in
    let is : element_at requests k ≡ Some x.0 = subst (λ q. element_at requests q ≡ Some x.0) at_run.0 x.1 in
    let judged_is = reply_judged job IsKept world i j run x.0 holds (P.replies at_run.1.0 run at_run.1.1) x.1 x.2 in
    elim (cases_Bool x.0.back) [
      | inl back ↦ at Missed (judged_is ∙ rw back refl)
          (is_back_at (element_at requests k) x.0 is ∙ back, plain_same world i)
      | inr out ↦ (let to_take : IsToTake (plain_of world) (request_name i j k) (plain_request x.0) run.reply = record {
        is = numbered_map plain_request requests k x.0 is;
        reply_is = reply_of_from runs k run e;
        out = is_back_at (element_at requests k) x.0 is ∙ out;
      } in
          elim (cases_option (u.waits run.reply (world i).local)) [
            | inl free ↦ at Returns (judged_is ∙ rw (out, eq-eqb x.0.slot run.slot x.2, free) refl) (record {
              request = plain_request x.0;
              reply = run.reply;
              to_take = to_take;
              free = free;
              returned = ap₂ (λ slot number. delivered.Returned j slot number) (sym x.2) at_run.0;
              leaves = plain_back world i j run.number
                  (u.take (with_sender i (reply_message job.settings i j run)) run.reply (world i).local) x.0 x.1
                  ∙ ap₂ (λ slot number. with_credit (plain_of world) i j number
                  (u.take (record { me = i; peer = j; slot = slot; number = number }) run.reply (world i).local))
                  (sym x.2) at_run.0;
            })
            | inr lock ↦ at (Waits lock.0) (judged_is ∙ rw (out, eq-eqb x.0.slot run.slot x.2, lock.1) refl)
                (plain_request x.0, run.reply, to_take, lock.1, plain_same world i)
          ])
    ]
  where
    at : (v : Verdict) → verdict (site_of job i) (world i) (reply_message job.settings i j run) ≡ v
        → TakeIsPlain job world i j k run v
        → TakeIsPlain job world i j k run (verdict (site_of job i) (world i) (reply_message job.settings i j run))
    at v f = subst (TakeIsPlain job world i j k run) (sym f)

-- a request comes, if it was sent
pub request_comes : {Local Call Told : Type 0} (job : Job Local Call Told) (IsKept : (me : ℕ) → Local → Type 0)
    (world : World Local)
    (now i j k : ℕ) (o : Option Request) → IsAllSound job.behaviour IsKept → Holds job IsKept world
    → element_at ((world i).asked j) k ≡ o
    → PlainStep job (plain_of world) (RequestComes i j k) (answer_at job world now (request_event job.settings i j k o))
    (plain_of (after_at job world now (request_event job.settings i j k o)))
request_comes job IsKept world now i j k None sound holds e =
    ((λ x f. let y = numbered_mapped plain_request ((world i).asked j) k x f in none_some (sym e ∙ y.1)), refl)
request_comes job IsKept world now i j k (Some x) sound holds e = run_step job IsKept world i j k x sound holds e

-- a reply comes, if it was sent
pub reply_comes : {Local Call Told : Type 0} (job : Job Local Call Told) (IsKept : (me : ℕ) → Local → Type 0)
    (world : World Local)
    (now i j k : ℕ) (o : Option Run) → Holds job IsKept world → run_of k ((world j).ran i) ≡ o
    → PlainStep job (plain_of world) (ReplyComes i j k) (answer_at job world now (reply_event job.settings i j o))
    (plain_of (after_at job world now (reply_event job.settings i j o)))
reply_comes job IsKept world now i j k None holds e =
    ((λ ran. let r = from_among ((world j).ran i) k ran in none_some (sym e ∙ r.1)), refl)
reply_comes job IsKept world now i j k (Some r) holds e = take_step job IsKept world i j k r holds e
