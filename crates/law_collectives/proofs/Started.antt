-- A phase is started: the invariant holds then.
use Rattle.std.proofs.Common.{◌≡◌, ◌⊎◌, inl, inr, ℕ, ◌+◌, ◌-◌, ◌%◌, ◌^◌, ◌<◌, ◌≤◌, Bool, true, false, true≢false}
use Rattle.std.proofs.Common.{List, [], ◌∷◌, ◌++◌, length, Option, Some, None, refl, sym, ap, ◌∙◌, subst, arith, append-nil}
use Rattle.std.proofs.Common.{length-append}
use Rattle.std.specs.Prelude.{◌≢◌, ◌==◌, ◌&&◌, ◌||◌, not, nat_lt, nat_le, if◌then◌else◌}
use Rattle.std.specs.List.{slice_get}
use Rattle.std.proofs.lemmas.Bool.{cases_eq, cases_lt, eq-eqb, eqb-true, ne_eqb, ltb-false, lt-ltb, le-ltb, le-leb}
use Rattle.std.proofs.lemmas.Option.{slice_get_within}
use Rattle.wire_message.specs.Parameters.{Parameters}
use Rattle.part_segment.specs.Bytes.{part}
use Rattle.part_segment.specs.Image.{Write}
use Rattle.part_segment.proofs.Images.{all_fit_one, length-image}
use Rattle.part_segment.proofs.Lists.{part_long}
use Rattle.part_handlers.specs.declared.table.Entry.{Entry}
use Rattle.part_handlers.specs.Runs.{Meaning}
use Rattle.base_lists.specs.Put.{put}
use Rattle.base_lists.specs.Numbered.{element_at}
use Rattle.base_lists.proofs.Cases.{none_some}
use Rattle.base_lists.proofs.Put.{put_same, put_other}
use Rattle.base_lists.proofs.Places.{slice_get_push, slice_get_kept}
use Rattle.spec_node.specs.declared.answer.Asked.TheVariants as asked
use Rattle.spec_node.specs.NodeStep.{site_of}
use Rattle.spec_network.specs.Plain.{PlainRequest, Plain, plain_of}
use Rattle.spec_network.specs.PlainStep.{AskStep}
use Rattle.spec_network.specs.Invariant.{Holds}
use Rattle.node_rules.specs.EndpointLocal.{EndpointLocal, IsEndpointKept}
use Rattle.node_rules.specs.EndpointRules.{Records, job_of}
use Rattle.law_transfers.specs.Chunks.{EndpointJob, segment_at, writes_at}
use Rattle.part_collective_area.specs.declared.shape.Shape.{Shape}
use Rattle.part_collective_area.specs.Shapes.{has_root, is_reduction, shape_word}
use Rattle.part_collective_area.specs.Area.{Area, data_place, stamp_in}
use Rattle.part_collective_area.specs.Served.{ServesCollectives}
use Rattle.part_collective_area.specs.Results.{Contribution}
use Rattle.law_collectives.specs.Phases.{Leaves, RunsOne, Starts}
use Rattle.node_collectives.specs.Progress.{Progress, after_start, is_open, start_ask, start_refusal}
use Rattle.law_collectives.specs.Groups.{Group, started_group}
use Rattle.law_collectives.specs.CollectiveLaws.{Gave}
use Rattle.law_collectives.specs.Invariant.{GroupHolds, IsGiven, ProgressHolds, PartHolds, asks_phase, phases_of, ran_phase}
use Rattle.law_collectives.specs.Invariant.{sent_count}
use Rattle.law_collectives.proofs.Phases.{cases_two, kept}
use Rattle.law_collectives.proofs.Messages.{IsPart, Untouched, data_inside, message_is, message_outside}
use Rattle.law_collectives.proofs.Messages.{message_writes}
use Rattle.law_collectives.proofs.Quiet.{asks_same, ran_same}
use Rattle.law_collectives.proofs.Running.{Written, part_has, part_kept, word_small, written_so}
use Rattle.law_collectives.proofs.Events.{Setting, apart_nodes}
use Rattle.law_collectives.proofs.Starting.{own_left}
use Rattle.node_collectives.specs.declared.answers.StartAnswer.TheVariants as start_answers
use Rattle.node_collectives.specs.declared.answers.Argument.TheVariants as arguments

-- ---- what the refusals rule out

if_none : {X : Type 0} (test : Bool) (x : X) (rest : Option X) → (if test then Some x else rest) ≡ None
    → (test ≡ false) × (rest ≡ None)
if_none true x rest is = absurd (none_some (sym is))
if_none false x rest is = (refl, is)

or_none : (one other : Bool) → (one || other) ≡ false → (one ≡ false) × (other ≡ false)
or_none true other is = cc
or_none false other is = (refl, is)

and_not : (one other : Bool) → (one && not other) ≡ false → one ≡ true → other ≡ true
and_not true true is passes = refl
and_not true false is passes = cc
and_not false other is passes = cc

nat_above : (a b : ℕ) → nat_le a b ≡ false → b < a
nat_above a b is = ltb_of (nat_le a b) is
  where
    ltb_of : (test : Bool) → nat_le a b ≡ false → b < a
    ltb_of test no_le = elim (cases_lt b a) [
      | inl low ↦ low
      | inr high ↦ absurd (true≢false (sym (le-leb a b high) ∙ no_le))
    ]

-- what a start that isn't refused has
pub record Accepted (area : Area) (size : ℕ) (progress : Progress) (shape : Shape) (from : ℕ) : Type 0 where
  pub shut : is_open progress ≡ false
  pub root : shape.root < area.nodes
  pub few : shape.len ≤ area.room
  pub words : is_reduction shape.kind ≡ true → shape.len % 8 ≡ 0
  pub inside : from + shape.len ≤ size
  pub left : progress.started < 2 ^ 64 - 1

pub accepted : (area : Area) (size : ℕ) (progress : Progress) (shape : Shape) (from : ℕ)
    → start_refusal area size progress shape from ≡ None → Accepted area size progress shape from
accepted area size progress shape from is =
    let one = if_none (is_open progress) start_answers.Busy _ is in
    let two = if_none (nat_le area.nodes shape.root || (not (has_root shape.kind) && not (shape.root == 0)))
    (start_answers.BadArg arguments.Root) _ one.1 in
    let three = if_none (nat_lt area.room shape.len || (is_reduction shape.kind && not (shape.len % 8 == 0)))
    (start_answers.BadArg arguments.Length) _ two.1 in
    let four = if_none (nat_lt size (from + shape.len)) (start_answers.BadArg arguments.Source) _ three.1 in
    let five = if_none (nat_le (2 ^ 64 - 1) progress.started) start_answers.Exhausted None four.1 in
    let roots = or_none (nat_le area.nodes shape.root) _ two.0 in
    let lens = or_none (nat_lt area.room shape.len) _ three.0 in
    record {
      shut = one.0;
      root = nat_above area.nodes shape.root roots.0;
      few = ltb-false area.room shape.len lens.0;
      words = λ reduction. eqb-true (shape.len % 8) 0
          (and_not (is_reduction shape.kind) (shape.len % 8 == 0) lens.1 reduction);
      inside = ltb-false size (from + shape.len) four.0;
      left = nat_above (2 ^ 64 - 1) progress.started five.0;
    }

-- ---- a start that is accepted

-- the call of the start ran at the local node
pub record StartsSo (settings : Parameters) (table : List (Option Entry)) (meaning : Meaning) (area : Area)
    (group : Group) (next : Records) (node thread : ℕ) (shape : Shape) (from : ℕ) : Type 0 where
  pub setting : Setting settings table meaning area
  pub serves : ServesCollectives meaning
  pub holds : GroupHolds (job_of settings table meaning) area group
  pub after : Holds (job_of settings table meaning) (IsEndpointKept settings) next
  pub there : node < settings.nodes
  pub accepts : Accepted area settings.segment (group.progress node) shape from
  pub step : AskStep (site_of (job_of settings table meaning) node) (plain_of group.records)
      (start_ask area node thread (group.progress node) shape from) asked.Ran (plain_of next)

-- what the node gives
abbrev pub gives : EndpointJob → Group → (node : ℕ) → Shape → (from : ℕ) → Contribution
gives job group node shape from =
    record { shape = shape; bytes = part (segment_at job group.records node) from shape.len }

-- what is known of the message of the start
record KnownStart (settings : Parameters) (table : List (Option Entry)) (meaning : Meaning) (area : Area)
    (group : Group) (next : Records) (node : ℕ) (shape : Shape) (from : ℕ) : Type 0 where
  given : IsGiven area (gives (job_of settings table meaning) group node shape from)
  few : length (gives (job_of settings table meaning) group node shape from).bytes ≤ area.room
  stamp_small : (group.progress node).started + 1 < 2 ^ 64
  shape_small : shape_word shape < 2 ^ 64
  place : IsPart settings.segment area ((group.progress node).started % 2) node
  has : Written (job_of settings table meaning) area group.records next node
      (message_writes area ((group.progress node).started % 2) node ((group.progress node).started + 1)
      (shape_word shape) (gives (job_of settings table meaning) group node shape from).bytes)
  other : (one : ℕ) → one ≢ node → Written (job_of settings table meaning) area group.records next one []

known_start : (settings : Parameters) (table : List (Option Entry)) (meaning : Meaning) (area : Area) (group : Group)
    (next : Records) (node thread : ℕ) (shape : Shape) (from : ℕ)
    → StartsSo settings table meaning area group next node thread shape from
    → KnownStart settings table meaning area group next node shape from
known_start settings table meaning area group next node thread shape from it =
    let job = job_of settings table meaning in
    let size = settings.segment in
    let progress = group.progress node in
    let accepts = it.accepts in
    let segment = segment_at job group.records node in
    let long : length segment ≡ size = length-image size (writes_at group.records node)
    (it.holds.records.kept node).core.writes in
    let inside : from + shape.len ≤ length segment = (let fits = accepts.inside in omega (arith, fits, long)) in
    let len : length (part segment from shape.len) ≡ shape.len = part_long segment from shape.len inside in
    let few : length (part segment from shape.len) ≤ area.room =
    (let room = accepts.few in omega (arith, len, room)) in
    let room = it.setting.good.small in
    let nodes = it.setting.few in
    let stamp_small : progress.started + 1 < 2 ^ 64 = (let left = accepts.left in omega (arith, left)) in
    let shape_small = word_small shape (let root = accepts.root in omega (arith, root, nodes))
    (let short = accepts.few in omega (arith, short, room)) in
    let place : IsPart size area (progress.started % 2) node = record {
      good = it.setting.good;
      low = omega arith;
      there = subst (λ (n : ℕ). node < n) (sym it.setting.nodes) it.there;
    } in
    let message = message_writes area (progress.started % 2) node (progress.started + 1) (shape_word shape)
    (part segment from shape.len) in
    let data_fits : data_place area (progress.started % 2) node + length (part segment from shape.len) ≤ size =
    (let end = data_inside size area (progress.started % 2) node place in omega (arith, end, few)) in
    let left : writes_at next node ≡ writes_at group.records node ++ message =
    own_left settings table meaning group.records next node
    (start_ask area node thread progress shape from) it.serves it.holds.records it.step refl
    (all_fit_one size (record {
      offset = data_place area (progress.started % 2) node;
      bytes = part segment from shape.len;
    }) data_fits)
    ∙ ap (λ (writes : List Write). writes_at group.records node ++ writes)
    (message_is size area (progress.started % 2) node (progress.started + 1) (shape_word shape)
    (part segment from shape.len) place stamp_small shape_small) in
    record {
      given = record { len = len; few = accepts.few; root = accepts.root; words = accepts.words };
      few = few;
      stamp_small = stamp_small;
      shape_small = shape_small;
      place = place;
      has = written_so job area group.records next node message [] it.holds.records it.after
          (left ∙ sym (append-nil (writes_at group.records node ++ message))) tt;
      other = λ one apart. written_so job area group.records next one [] [] it.holds.records it.after
          (ap (λ (plain : Plain EndpointLocal). (plain.local one).core.writes) it.step.3
          ∙ (ap (λ (local : EndpointLocal). local.core.writes)
          (put_other (plain_of group.records).local node _ one apart)
          ∙ (sym (append-nil (writes_at group.records one))
          ∙ sym (append-nil (writes_at group.records one ++ []))))) tt;
    }

-- the parts to which it doesn't go
start_others : (settings : Parameters) (table : List (Option Entry)) (meaning : Meaning) (area : Area) (group : Group)
    (next : Records) (node : ℕ) (shape : Shape) (from : ℕ)
    → Setting settings table meaning area → KnownStart settings table meaning area group next node shape from
    → (at parity one : ℕ) → parity < 2 → one < settings.nodes
    → (at ≢ node) ⊎ ((parity ≢ (group.progress node).started % 2) ⊎ (one ≢ node))
    → Untouched (segment_at (job_of settings table meaning) next at)
    (segment_at (job_of settings table meaning) group.records at) area parity one
start_others settings table meaning area group next node shape from setting known at parity one low has_one differ =
    let job = job_of settings table meaning in
    let size = settings.segment in
    let progress = group.progress node in
    let there : IsPart size area parity one = record {
      good = setting.good;
      low = low;
      there = subst (λ (n : ℕ). one < n) (sym setting.nodes) has_one;
    } in
    elim (cases_eq at node) [
      | inl same ↦ subst
          (λ (it : ℕ). Untouched (segment_at job next it) (segment_at job group.records it) area parity one) (sym same)
          (part_kept job area group.records next node parity one _ known.has there
          (message_outside size area (progress.started % 2) node parity one (progress.started + 1) (shape_word shape)
          (gives job group node shape from).bytes known.place there known.few
          (elim differ [
            | inl node_apart ↦ absurd (node_apart same)
            | inr side ↦ elim side [
              | inl parity_apart ↦ inl (λ is. parity_apart (sym is))
              | inr one_apart ↦ inr (λ is. one_apart (sym is))
            ]
          ])))
      | inr apart ↦ part_kept job area group.records next at parity one [] (known.other at apart) there
          (record { all = λ offset len from to. tt })
    ]

-- ---- the nodes by themselves

-- the group then
abbrev pub group_then : EndpointJob → Group → (next : Records) (node : ℕ) → Shape → (from : ℕ) → Group
group_then job group next node shape from = started_group job group node shape from start_answers.Started next

more_given : (job : EndpointJob) (group : Group) (next : Records) (node : ℕ) (shape : Shape) (from : ℕ)
    → (group_then job group next node shape from).given node
    ≡ group.given node ++ gives job group node shape from ∷ []
more_given job group next node shape from = put_same group.given node _

longer : (xs : List Contribution) (x : Contribution) → length (xs ++ x ∷ []) ≡ length xs + 1
longer xs x = length-append xs (x ∷ [])

-- a test of numbers below one that rose
below_next : (of top : ℕ) → of ≢ top → nat_lt of (top + 1) ≡ nat_lt of top
below_next of top apart = elim (cases_lt of top) [
  | inl low ↦ lt-ltb of (top + 1) (omega (arith, low)) ∙ sym (lt-ltb of top low)
  | inr high ↦ le-ltb of (top + 1) (omega (arith, high, apart)) ∙ sym (le-ltb of top high)
]

-- a node that has just started has sent to none, as one without an open phase
count_then : (progress : Progress) (shape : Shape) (to : ℕ) → is_open progress ≡ false
    → sent_count (after_start progress shape) to ≡ sent_count progress to
count_then progress shape to shut = rw shut (by_open (nat_lt progress.ended (progress.started + 1)))
  where
    by_open : (opened : Bool)
        → progress.ended + (if opened && false then 1 else 0) ≡ progress.ended + (if false && progress.sent to then 1 else 0)
    by_open true = refl
    by_open false = refl

-- what is sent then
sent_then : (settings : Parameters) (table : List (Option Entry)) (meaning : Meaning) (area : Area) (group : Group)
    (next : Records) (node thread : ℕ) (shape : Shape) (from : ℕ)
    → StartsSo settings table meaning area group next node thread shape from → (one other : ℕ)
    → (one ≢ node) ⊎ (other ≢ node)
    → (phases_of (job_of settings table meaning) area
    (group_then (job_of settings table meaning) group next node shape from)).sent one other
    ≡ (phases_of (job_of settings table meaning) area group).sent one other
sent_then settings table meaning area group next node thread shape from it one other differ =
    let job = job_of settings table meaning in
    elim (cases_eq one node) [
      | inr apart ↦ subst
          (λ (given : List Contribution). (if other == one then length given
          else sent_count ((group_then job group next node shape from).progress one) other)
          ≡ (phases_of job area group).sent one other)
          (sym (put_other group.given node _ one apart))
          (ap (λ (progress : Progress). if other == one then length (group.given one) else sent_count progress other)
          (put_other group.progress node _ one apart))
      | inl here ↦ elim differ [
        | inl first ↦ absurd (first here)
        | inr second ↦ (
            let off : (other == one) ≡ false = ne_eqb other one (λ same. second (same ∙ here)) in
            let left : (phases_of job area (group_then job group next node shape from)).sent one other
            ≡ sent_count ((group_then job group next node shape from).progress one) other = rw off refl in
            let right : (phases_of job area group).sent one other ≡ sent_count (group.progress one) other
            = rw off refl in
            left
            ∙ (ap (λ (at : ℕ). sent_count ((group_then job group next node shape from).progress at) other) here
            ∙ (ap (λ (progress : Progress). sent_count progress other) (put_same group.progress node _)
            ∙ (count_then (group.progress node) shape other it.accepts.shut
            ∙ (ap (λ (at : ℕ). sent_count (group.progress at) other) (sym here) ∙ sym right)))))
      ]
    ]

start_leaves : (settings : Parameters) (table : List (Option Entry)) (meaning : Meaning) (area : Area) (group : Group)
    (next : Records) (node thread : ℕ) (shape : Shape) (from : ℕ)
    → StartsSo settings table meaning area group next node thread shape from
    → KnownStart settings table meaning area group next node shape from
    → Leaves settings.nodes (phases_of (job_of settings table meaning) area group) (Starts node)
    (phases_of (job_of settings table meaning) area
    (group_then (job_of settings table meaning) group next node shape from))
start_leaves settings table meaning area group next node thread shape from it known =
    let job = job_of settings table meaning in
    let group_next = group_then job group next node shape from in
    let plain = plain_of group.records in
    let given = gives job group node shape from in
    let progress = group.progress node in
    let count : length (group_next.given node) ≡ length (group.given node) + 1 =
    ap length (more_given job group next node shape from) ∙ longer (group.given node) given in
    let kept_one = it.holds.progress node it.there in
    let phase_is : progress.started ≡ length (group.given node) = kept_one.started in
    let requests : (plain_of next).requests ≡ plain.requests =
    ap (λ (p : Plain EndpointLocal). p.requests) it.step.3 in
    let runs : (plain_of next).runs ≡ plain.runs = ap (λ (p : Plain EndpointLocal). p.runs) it.step.3 in
    let rans = ran_same plain (plain_of next) (asks_same plain (plain_of next) requests) runs in
    let ones : RunsOne settings.nodes (phases_of job area group) (phases_of job area group_next) node node
    progress.started = record {
      ran = rw (eq-eqb node node refl) (lt-ltb progress.started (length (group.given node ++ given ∷ []))
          (let more = longer (group.given node) given in omega (arith, more, phase_is)));
      ran_others = λ one other of differ. ran_others_then job group next node shape from one other of count phase_is
          (rans one other of) differ;
      stands = (part_has job area group.records next node (progress.started % 2) node (progress.started + 1)
          (shape_word shape) given.bytes known.has known.place known.few known.stamp_small known.shape_small).stamp_is;
      stands_others = λ at parity one has low has_one differ.
          (start_others settings table meaning area group next node shape from it.setting known at parity one low
          has_one differ).stamp;
    } in (
      record {
        here = count;
        others = λ other apart. ap length (put_other group.given node _ other apart);
      },
      (λ other. ended_then group shape node other),
      record {
        here = rw (eq-eqb node node refl) (longer (group.given node) given);
        others = sent_then settings table meaning area group next node thread shape from it;
      },
      subst (λ (phase : ℕ). RunsOne settings.nodes (phases_of job area group)
          (phases_of job area group_next) node node phase) phase_is ones,
    )
  where
    ended_then : (group : Group) (shape : Shape) (node other : ℕ)
        → (put group.progress node (after_start (group.progress node) shape) other).ended
        ≡ (group.progress other).ended
    ended_then group shape node other = elim (cases_eq other node) [
      | inl here ↦ ap (λ (at : ℕ). (put group.progress node (after_start (group.progress node) shape) at).ended) here
          ∙ (ap (λ (progress : Progress). progress.ended)
          (put_same group.progress node (after_start (group.progress node) shape))
          ∙ ap (λ (at : ℕ). (group.progress at).ended) (sym here))
      | inr apart ↦ ap (λ (progress : Progress). progress.ended) (put_other group.progress node _ other apart)
    ]

    ran_others_then : (job : EndpointJob) (group : Group) (next : Records) (node : ℕ) (shape : Shape) (from : ℕ)
        (one other of : ℕ)
        → length ((group_then job group next node shape from).given node) ≡ length (group.given node) + 1
        → (group.progress node).started ≡ length (group.given node)
        → ran_phase (plain_of next) one other of ≡ ran_phase (plain_of group.records) one other of
        → (one ≢ node) ⊎ ((other ≢ node) ⊎ (of ≢ (group.progress node).started))
        → (if other == one then nat_lt of (length ((group_then job group next node shape from).given one))
        else ran_phase (plain_of next) one other of)
        ≡ (if other == one then nat_lt of (length (group.given one))
        else ran_phase (plain_of group.records) one other of)
    ran_others_then job group next node shape from one other of count phase_is rans differ =
        elim (cases_eq other one) [
          | inr apart ↦ rw (ne_eqb other one apart) rans
          | inl same ↦ rw (eq-eqb other one same) (elim (cases_eq one node) [
            | inr apart ↦ ap (λ (given : List Contribution). nat_lt of (length given))
                (put_other group.given node _ one apart)
            | inl here ↦ subst
                (λ (at : ℕ). nat_lt of (length ((group_then job group next node shape from).given at))
                ≡ nat_lt of (length (group.given at))) (sym here)
                (ap (nat_lt of) count ∙ below_next of (length (group.given node)) (elim differ [
                  | inl first ↦ absurd (first here)
                  | inr side ↦ elim side [
                    | inl second ↦ absurd (second (same ∙ here))
                    | inr last ↦ (λ is. last (is ∙ sym phase_is))
                  ]
                ]))
          ])
        ]

-- ---- the invariant then

-- what was given stays, and what is given is old or new
still_gave : (job : EndpointJob) (group : Group) (next : Records) (node : ℕ) (shape : Shape) (from : ℕ)
    (one phase : ℕ) (given : Contribution) → Gave group one phase given
    → Gave (group_then job group next node shape from) one phase given
still_gave job group next node shape from one phase given gave = elim (cases_eq one node) [
  | inl here ↦ subst (λ (at : ℕ). Gave (group_then job group next node shape from) at phase given) (sym here)
      (ap (λ (list : List Contribution). slice_get list phase) (more_given job group next node shape from)
      ∙ slice_get_kept (group.given node) _ phase given
      (subst (λ (at : ℕ). Gave group at phase given) here gave))
  | inr apart ↦ ap (λ (list : List Contribution). slice_get list phase) (put_other group.given node _ one apart)
      ∙ gave
]

gave_then : (job : EndpointJob) (group : Group) (next : Records) (node : ℕ) (shape : Shape) (from : ℕ)
    (one phase : ℕ) (given : Contribution) → Gave (group_then job group next node shape from) one phase given
    → Gave group one phase given
    ⊎ ((one ≡ node) × (phase ≡ length (group.given node)) × (given ≡ gives job group node shape from))
gave_then job group next node shape from one phase given gave = elim (cases_eq one node) [
  | inl here ↦ elim (slice_get_push (group.given node) (gives job group node shape from) phase given
      (sym (ap (λ (list : List Contribution). slice_get list phase) (more_given job group next node shape from))
      ∙ subst (λ (at : ℕ). Gave (group_then job group next node shape from) at phase given) here gave)) [
        | inl old ↦ inl (subst (λ (at : ℕ). Gave group at phase given) (sym here) old)
        | inr new ↦ inr (here, new.0, sym new.1)
      ]
  | inr apart ↦ inl (sym (ap (λ (list : List Contribution). slice_get list phase)
      (put_other group.given node _ one apart)) ∙ gave)
]

-- a node that may start has ended all that it started
pub shut_count : (settings : Parameters) (table : List (Option Entry)) (meaning : Meaning) (area : Area)
    (group : Group) (next : Records) (node thread : ℕ) (shape : Shape) (from : ℕ)
    → StartsSo settings table meaning area group next node thread shape from
    → (group.progress node).ended ≡ length (group.given node)
shut_count settings table meaning area group next node thread shape from it =
    let started = (it.holds.progress node it.there).started in
    let one = it.holds.phases.node node it.there in
    let shut = ltb-false (group.progress node).ended (group.progress node).started it.accepts.shut in
    omega (arith, started, shut, one.ended)

-- the shape that is kept is the one that the node gave
progress_then : (settings : Parameters) (table : List (Option Entry)) (meaning : Meaning) (area : Area) (group : Group)
    (next : Records) (node thread : ℕ) (shape : Shape) (from : ℕ)
    → StartsSo settings table meaning area group next node thread shape from
    → KnownStart settings table meaning area group next node shape from → (one : ℕ) → one < settings.nodes
    → ProgressHolds area (group_then (job_of settings table meaning) group next node shape from) one
progress_then settings table meaning area group next node thread shape from it known one has =
    let job = job_of settings table meaning in
    let group_next = group_then job group next node shape from in
    let old = it.holds.progress one has in
    let given_then = λ (phase : ℕ) (given : Contribution) (gave : Gave group_next one phase given).
    limits job group next node shape from one phase given (gave_then job group next node shape from one phase given
    gave) known.given (old.given phase given) in
    elim (cases_eq one node) [
      | inl here ↦ (
          let mine = it.holds.progress node it.there in
          let progress_is : group_next.progress one ≡ after_start (group.progress node) shape =
          ap group_next.progress here ∙ put_same group.progress node _ in
          let count : length (group_next.given one) ≡ length (group.given node) + 1 =
          ap (λ (at : ℕ). length (group_next.given at)) here
          ∙ (ap length (more_given job group next node shape from) ∙ longer (group.given node) _) in
          let started = mine.started in
          let stamp = known.stamp_small in
          let first : (group.progress node).ended ≡ length (group.given node) = shut_count settings table meaning area
          group next node thread shape from it in
          record {
            started = ap (λ (progress : Progress). progress.started) progress_is ∙ omega (arith, count, started);
            shape = λ given low gave. elim (gave_then job group next node shape from one _ given gave) [
              | inl earlier ↦ absurd (
                  let ended : (group_next.progress one).ended ≡ (group.progress node).ended =
                  ap (λ (progress : Progress). progress.ended) progress_is in
                  let inside = slice_get_within (group.given one) _ given earlier in
                  let same : length (group.given one) ≡ length (group.given node) =
                  ap (λ (at : ℕ). length (group.given at)) here in
                  omega (arith, ended, inside, same, first))
              | inr new ↦ ap (λ (it : Contribution). it.shape) new.2
                  ∙ sym (ap (λ (progress : Progress). progress.shape) progress_is)
            ];
            given = given_then;
            small = omega (arith, count, started, stamp);
          })
      | inr apart ↦ (
          let progress_is : group_next.progress one ≡ group.progress one = put_other group.progress node _ one apart in
          let given_is : group_next.given one ≡ group.given one = put_other group.given node _ one apart in
          record {
            started = ap (λ (progress : Progress). progress.started) progress_is
                ∙ (old.started ∙ ap length (sym given_is));
            shape = λ given low gave.
                old.shape given
                (let ended = ap (λ (progress : Progress). progress.ended) progress_is in
                let len = ap length given_is in
                omega (arith, low, ended, len))
                (sym (ap (λ (list : List Contribution). slice_get list (group.progress one).ended) given_is)
                ∙ subst (λ (progress : Progress). slice_get (group_next.given one) progress.ended ≡ Some given)
                progress_is gave)
                ∙ sym (ap (λ (progress : Progress). progress.shape) progress_is);
            given = given_then;
            small = (let len = ap length given_is in let small = old.small in omega (arith, len, small));
          })
    ]
  where
    limits : (job : EndpointJob) (group : Group) (next : Records) (node : ℕ) (shape : Shape) (from one phase : ℕ)
        (given : Contribution)
        → Gave group one phase given
        ⊎ ((one ≡ node) × (phase ≡ length (group.given node)) × (given ≡ gives job group node shape from))
        → IsGiven area (gives job group node shape from) → (Gave group one phase given → IsGiven area given)
        → IsGiven area given
    limits job group next node shape from one phase given (inl old) new_good old_good = old_good old
    limits job group next node shape from one phase given (inr new) new_good old_good =
        subst (IsGiven area) (sym new.2) new_good

-- what was sent was sent before, or is the new message to itself
sent_grows : (settings : Parameters) (table : List (Option Entry)) (meaning : Meaning) (area : Area) (group : Group)
    (next : Records) (node thread : ℕ) (shape : Shape) (from : ℕ)
    → StartsSo settings table meaning area group next node thread shape from → (one other : ℕ) → one ≢ other
    → (phases_of (job_of settings table meaning) area
    (group_then (job_of settings table meaning) group next node shape from)).sent one other
    ≡ (phases_of (job_of settings table meaning) area group).sent one other
sent_grows settings table meaning area group next node thread shape from it one other apart =
    sent_then settings table meaning area group next node thread shape from it one other
    (elim (cases_eq one node) [
      | inl here ↦ inr (λ same. apart (here ∙ sym same))
      | inr differ ↦ inl differ
    ])

part_then : (settings : Parameters) (table : List (Option Entry)) (meaning : Meaning) (area : Area) (group : Group)
    (next : Records) (node thread : ℕ) (shape : Shape) (from : ℕ)
    (it : StartsSo settings table meaning area group next node thread shape from)
    → KnownStart settings table meaning area group next node shape from
    → (at one phase : ℕ) (given : Contribution) → at < settings.nodes → one < settings.nodes
    → stamp_in (segment_at (job_of settings table meaning) next at) area (phase % 2) one ≡ phase + 1
    → Gave (group_then (job_of settings table meaning) group next node shape from) one phase given
    → PartHolds (job_of settings table meaning) area
    (group_then (job_of settings table meaning) group next node shape from) at one phase given
part_then settings table meaning area group next node thread shape from it known at one phase given has has_one stands
    gave =
    let job = job_of settings table meaning in
    let progress = group.progress node in
    let group_next = group_then job group next node shape from in
    let phase_is = (it.holds.progress node it.there).started in
    let mine = part_has job area group.records next node (progress.started % 2) node (progress.started + 1)
    (shape_word shape) (gives job group node shape from).bytes known.has known.place known.few known.stamp_small
    known.shape_small in
    elim (cases_two at one node node) [
      | inl both ↦ elim (cases_eq (phase % 2) (progress.started % 2)) [
        | inl parity ↦ (
            let stamp : phase + 1 ≡ progress.started + 1 = sym stands
            ∙ (ap (λ (i : ℕ). stamp_in (segment_at job next i) area (phase % 2) one) both.0
            ∙ (ap (λ (i : ℕ). stamp_in (segment_at job next node) area (phase % 2) i) both.1
            ∙ (ap (λ (i : ℕ). stamp_in (segment_at job next node) area i node) parity ∙ mine.stamp_is))) in
            let is : phase ≡ progress.started = omega (arith, stamp) in
            let new : given ≡ gives job group node shape from =
            elim (gave_then job group next node shape from one phase given gave) [
              | inl earlier ↦ absurd (
                  let low = slice_get_within (group.given one) phase given earlier in
                  let same : length (group.given one) ≡ length (group.given node) =
                  ap (λ (i : ℕ). length (group.given i)) both.1 in
                  omega (arith, low, same, is, phase_is))
              | inr new ↦ new.2
            ] in
            let place : PartHolds job area group_next node node progress.started (gives job group node shape from) =
            record { shape = mine.shape_is; bytes = λ whole. mine.bytes_are } in
            subst (λ (i : ℕ). PartHolds job area group_next i one phase given) (sym both.0)
            (subst (λ (i : ℕ). PartHolds job area group_next node i phase given) (sym both.1)
            (subst (λ (i : ℕ). PartHolds job area group_next node node i given) (sym is)
            (subst (λ (i : Contribution). PartHolds job area group_next node node progress.started i) (sym new)
            place))))
        | inr apart ↦ old_part settings table meaning area group next node thread shape from it known at one phase given
            has has_one stands gave (inr (inl apart))
      ]
      | inr differ ↦ old_part settings table meaning area group next node thread shape from it known at one phase given
          has has_one stands gave (elim differ [ inl first ↦ inl first | inr second ↦ inr (inr second) ])
    ]
  where
    old_part : (settings : Parameters) (table : List (Option Entry)) (meaning : Meaning) (area : Area)
        (group : Group) (next : Records) (node thread : ℕ) (shape : Shape) (from : ℕ)
        (it : StartsSo settings table meaning area group next node thread shape from)
        → KnownStart settings table meaning area group next node shape from
        → (at one phase : ℕ) (given : Contribution) → at < settings.nodes → one < settings.nodes
        → stamp_in (segment_at (job_of settings table meaning) next at) area (phase % 2) one ≡ phase + 1
        → Gave (group_then (job_of settings table meaning) group next node shape from) one phase given
        → (at ≢ node) ⊎ ((phase % 2 ≢ (group.progress node).started % 2) ⊎ (one ≢ node))
        → PartHolds (job_of settings table meaning) area
        (group_then (job_of settings table meaning) group next node shape from) at one phase given
    old_part settings table meaning area group next node thread shape from it known at one phase given has has_one
        stands gave differ =
        let job = job_of settings table meaning in
        let same = start_others settings table meaning area group next node shape from it.setting known at (phase % 2)
        one (omega arith) has_one differ in
        let stamp = sym same.stamp ∙ stands in
        let pair = it.holds.phases.pair one at has_one has in
        let node_holds = it.holds.phases.node one has_one in
        let low : phase < length (group.given one) =
        (let ran = pair.ran phase (pair.stands phase stamp) in omega (arith, ran, pair.sent)) in
        let earlier : Gave group one phase given =
        elim (gave_then job group next node shape from one phase given gave) [
          | inl old ↦ old
          | inr new ↦ absurd (
              let high : phase ≡ length (group.given node) = new.1 in
              let count : length (group.given one) ≡ length (group.given node) =
              ap (λ (i : ℕ). length (group.given i)) new.0 in
              omega (arith, low, high, count))
        ] in
        let old = it.holds.parts at one phase given has has_one stamp earlier in
        let limits = (it.holds.progress one has_one).given phase given earlier in
        record {
          shape = same.shape ∙ old.shape;
          bytes = λ whole. same.bytes (length given.bytes)
              (let len = limits.len in let few = limits.few in omega (arith, len, few)) ∙ old.bytes whole;
        }

pub started_kept : (settings : Parameters) (table : List (Option Entry)) (meaning : Meaning) (area : Area)
    (group : Group) (next : Records) (node thread : ℕ) (shape : Shape) (from : ℕ)
    → StartsSo settings table meaning area group next node thread shape from
    → GroupHolds (job_of settings table meaning) area
    (group_then (job_of settings table meaning) group next node shape from)
started_kept settings table meaning area group next node thread shape from it =
    let job = job_of settings table meaning in
    let known = known_start settings table meaning area group next node thread shape from it in
    let holds = it.holds in
    let group_next = group_then job group next node shape from in
    let requests : (plain_of next).requests ≡ (plain_of group.records).requests =
    ap (λ (p : Plain EndpointLocal). p.requests) it.step.3 in
    record {
      records = it.after;
      phases = kept settings.nodes (phases_of job area group) (phases_of job area group_next) (Starts node)
          holds.phases
          (it.there, sym (shut_count settings table meaning area group next node thread shape from it))
          (start_leaves settings table meaning area group next node thread shape from it known);
      progress = progress_then settings table meaning area group next node thread shape from it known;
      messages = λ one other at request has_one has_other there handler.
          let was = subst (λ (all : ℕ → ℕ → List PlainRequest). element_at (all one other) at ≡ Some request) requests there
          in
          let old = holds.messages one other at request has_one has_other was handler in
          let apart = apart_nodes settings table meaning area group one other at request holds was in
          record {
            phase = old.phase;
            given = old.given;
            gave = still_gave job group next node shape from one old.phase old.given old.gave;
            sent = subst (λ (n : ℕ). old.phase < n)
                (sym (sent_grows settings table meaning area group next node thread shape from it one other apart))
                old.sent;
            content_is = old.content_is;
          };
      once = λ one other at again of first second. holds.once one other at again of
          (subst (λ (all : ℕ → ℕ → List PlainRequest). asks_phase of (element_at (all one other) at) ≡ true) requests first)
          (subst (λ (all : ℕ → ℕ → List PlainRequest). asks_phase of (element_at (all one other) again) ≡ true) requests
          second);
      parts = part_then settings table meaning area group next node thread shape from it known;
    }
