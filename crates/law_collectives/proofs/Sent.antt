-- A step sends the message of its phase: the invariant holds then.
use Rattle.std.proofs.Common.{◌≡◌, ◌⊎◌, inl, inr, ℕ, zero, suc, ◌+◌, ◌%◌, ◌^◌, ◌<◌, ◌≤◌, Bool, true, false, true≢false}
use Rattle.std.proofs.Common.{List, [], ◌∷◌, ◌++◌, length, Option, None, Some, refl, sym, ap, ap₂, ◌∙◌, subst, arith, map}
use Rattle.std.specs.Prelude.{◌≢◌, ◌==◌, ◌&&◌, ◌||◌, nat_lt, if◌then◌else◌}
use Rattle.std.specs.List.{list_any, slice_get}
use Rattle.std.proofs.lemmas.Bool.{cases_eq, eq-eqb, eqb-true, ne_eqb, lt-ltb, ltb-true}
use Rattle.wire_message.specs.Parameters.{Parameters}
use Rattle.wire_message.specs.Content.{Content}
use Rattle.part_segment.specs.Bytes.{part}
use Rattle.part_handlers.specs.declared.table.Entry.{Entry}
use Rattle.part_handlers.specs.Runs.{Meaning}
use Rattle.base_lists.specs.Put.{put}
use Rattle.base_lists.specs.Numbered.{element_at}
use Rattle.base_lists.proofs.Put.{put_same, put_other}
use Rattle.base_lists.proofs.Numbered.{numbered_kept, numbered_map, numbered_push}
use Rattle.spec_node.specs.declared.answer.Asked.TheVariants as asked
use Rattle.spec_node.specs.NodeStep.{site_of}
use Rattle.spec_node.specs.Record.{Run}
use Rattle.spec_network.specs.Plain.{PlainRequest, Plain, RunReply, plain_request, run_reply, put_pair, plain_of}
use Rattle.spec_network.specs.PlainStep.{AskStep, plain_said}
use Rattle.spec_network.specs.Invariant.{Holds}
use Rattle.node_rules.specs.EndpointLocal.{EndpointLocal, IsEndpointKept}
use Rattle.node_rules.specs.EndpointRules.{Records, job_of}
use Rattle.law_transfers.specs.Chunks.{EndpointJob, segment_at}
use Rattle.part_collective_area.specs.Shapes.{shape_word, uses}
use Rattle.part_collective_area.specs.Area.{Area, data_in, data_place, stamp_in, word_in}
use Rattle.part_collective_area.specs.Served.{collective_content, collective_handler}
use Rattle.part_collective_area.specs.Results.{Contribution}
use Rattle.law_collectives.specs.Phases.{Phases, Leaves, Sends}
use Rattle.node_collectives.specs.Progress.{Progress, is_open, step_ask, with_sent}
use Rattle.law_collectives.specs.Groups.{Group, with_progress}
use Rattle.law_collectives.specs.CollectiveLaws.{Gave}
use Rattle.law_collectives.specs.Invariant.{GroupHolds, IsMessageOf, ProgressHolds, asks_phase, phases_of}
use Rattle.law_collectives.specs.Invariant.{data_for, ran_phase, sent_count}
use Rattle.law_collectives.proofs.Phases.{cases_two, kept}
use Rattle.law_collectives.proofs.Quiet.{pair_at}
use Rattle.law_collectives.proofs.Running.{message_apart}
use Rattle.law_collectives.proofs.Ending.{got}
use Rattle.node_core.specs.Kept.{segment_of}
use Rattle.law_collectives.proofs.Events.{Setting}
use Rattle.part_collective_area.specs.declared.shape.Shape.{Shape}
use Rattle.node_core.specs.ClientRules.{payload_in}
use Rattle.spec_node.specs.Behaviour.{Own, Lent}
use Rattle.std.proofs.lemmas.Option.{same_Some}
use Rattle.base_lists.proofs.Cases.{none_some}

-- a step's call to that node was accepted
pub record SendsSo (settings : Parameters) (table : List (Option Entry)) (meaning : Meaning) (area : Area)
    (group : Group) (next : Records) (node thread to slot number : ℕ) : Type 0 where
  pub setting : Setting settings table meaning area
  pub holds : GroupHolds (job_of settings table meaning) area group
  pub after : Holds (job_of settings table meaning) (IsEndpointKept settings) next
  pub there : node < settings.nodes
  pub to_there : to < settings.nodes
  pub apart : node ≢ to
  pub open_now : is_open (group.progress node) ≡ true
  pub left : (group.progress node).sent to ≡ false
  pub step : AskStep (site_of (job_of settings table meaning) node) (plain_of group.records)
      (step_ask area node thread to (group.progress node)) (asked.Accepted to slot number) (plain_of next)

-- the group then
abbrev pub group_sent : Group → (next : Records) (node to : ℕ) → Group
group_sent group next node to =
    with_progress (record group { records = next }) node (with_sent (group.progress node) to)

-- ---- the local part has what the node gave

-- the stamp of the local part is that of the phase that is started
own_stamp : (settings : Parameters) (table : List (Option Entry)) (meaning : Meaning) (area : Area)
    (group : Group) (next : Records) (node thread to slot number : ℕ)
    → SendsSo settings table meaning area group next node thread to slot number
    → stamp_in (segment_at (job_of settings table meaning) group.records node) area
    ((group.progress node).ended % 2) node ≡ (group.progress node).ended + 1
own_stamp settings table meaning area group next node thread to slot number it =
    let job = job_of settings table meaning in
    let now = phases_of job area group in
    let phase = (group.progress node).ended in
    let started = (it.holds.progress node it.there).started in
    let open_now = ltb-true phase (group.progress node).started it.open_now in
    let one = it.holds.phases.node node it.there in
    let pair = it.holds.phases.pair node node it.there it.there in
    let ran : now.ran node node phase ≡ true = rw (eq-eqb node node refl)
    (lt-ltb phase (length (group.given node)) (omega (arith, started, open_now))) in
    let latest = pair.latest phase ran in
    let top : now.sent node node ≡ length (group.given node) = rw (eq-eqb node node refl) refl in
    let near = one.started in
    elim (pair.parity (phase % 2) (omega arith)) [
      | inl nothing ↦ absurd (omega (arith, nothing, latest))
      | inr parity ↦ (
          let stamp = now.stands node (phase % 2) node in
          by_stamp now phase stamp node (length (group.given node)) refl latest parity top pair.stands pair.ran near)
    ]
  where
    by_stamp : (now : Phases) (phase stamp node many : ℕ) → now.stands node (phase % 2) node ≡ stamp → phase < stamp
        → (stamp + 1) % 2 ≡ phase % 2 → now.sent node node ≡ many
        → ((of : ℕ) → now.stands node (of % 2) node ≡ of + 1 → now.ran node node of ≡ true)
        → ((of : ℕ) → now.ran node node of ≡ true → of < now.sent node node) → many ≤ phase + 1
        → stamp ≡ phase + 1
    by_stamp now phase zero node many is low parity top stands ran near = absurd (omega (arith, low))
    by_stamp now phase (suc of) node many is low parity top stands ran near =
        let same : of % 2 ≡ phase % 2 = omega (arith, parity) in
        let high = ran of (stands of (ap (λ (i : ℕ). now.stands node i node) same ∙ (is ∙ omega arith))) in
        omega (arith, high, top, near, low)

-- ---- its message

-- what the node gave to the phase that it sends
pub record Sends_of (job : EndpointJob) (area : Area) (group : Group) (node to : ℕ) (content : Content) : Type 0 where
  pub given : Contribution
  pub gave : Gave group node (group.progress node).ended given
  pub content_is : content
      ≡ collective_content ((group.progress node).ended + 1) (shape_word given.shape)
      (data_place area ((group.progress node).ended % 2) node) (data_for given node to)
  pub small : (group.progress node).ended + 1 < 2 ^ 64

message_sent : (settings : Parameters) (table : List (Option Entry)) (meaning : Meaning) (area : Area)
    (group : Group) (next : Records) (node thread to slot number : ℕ)
    → SendsSo settings table meaning area group next node thread to slot number
    → Sends_of (job_of settings table meaning) area group node to
    (plain_said (site_of (job_of settings table meaning) node) (plain_of group.records)
    (step_ask area node thread to (group.progress node)))
message_sent settings table meaning area group next node thread to slot number it =
    let job = job_of settings table meaning in
    let progress = group.progress node in
    let phase = progress.ended in
    let segment = segment_at job group.records node in
    let kept_one = it.holds.progress node it.there in
    let started = kept_one.started in
    let small = kept_one.small in
    let open_now = ltb-true phase progress.started it.open_now in
    let low : phase < length (group.given node) = omega (arith, started, open_now) in
    let found = got (group.given node) phase low in
    let given = found.0 in
    let shape : given.shape ≡ progress.shape = kept_one.shape given low found.1 in
    let limits = kept_one.given phase given found.1 in
    let stands = own_stamp settings table meaning area group next node thread to slot number it in
    let whole = (it.holds.parts node node phase given it.there it.there stands found.1).bytes (inl refl) in
    let bytes_are : part segment (data_place area (phase % 2) node) progress.shape.len ≡ given.bytes =
    ap (λ (len : ℕ). part segment (data_place area (phase % 2) node) len)
    (ap (λ (one : Shape). one.len) (sym shape) ∙ sym limits.len) ∙ whole in
    record {
      given = given;
      gave = found.1;
      content_is = ap (λ (bytes : List ℕ). collective_content (phase + 1) (shape_word progress.shape)
          (data_place area (phase % 2) node) bytes)
          (payload (uses progress.shape node to) segment given.bytes _ _ bytes_are
          ∙ ap (λ (one : Shape). if uses one node to then given.bytes else []) (sym shape))
          ∙ ap (λ (one : Shape). collective_content (phase + 1) (shape_word one)
          (data_place area (phase % 2) node) (data_for given node to)) (sym shape);
      small = omega (arith, low, small);
    }
  where
    payload : (uses_it : Bool) (segment bytes : List ℕ) (place len : ℕ) → part segment place len ≡ bytes
        → payload_in segment (if uses_it then Own place len else Lent []) ≡ (if uses_it then bytes else [])
    payload true segment bytes place len is = is
    payload false segment bytes place len is = refl

-- ---- the requests then

any_kept : (requests : List PlainRequest) (new : PlainRequest) (runs : List RunReply) (phase : ℕ)
    → ((place : ℕ) (run : RunReply) → slice_get runs place ≡ Some run
    → (request : PlainRequest) × (element_at requests run.number ≡ Some request))
    → list_any (λ run. asks_phase phase (element_at (requests ++ new ∷ []) run.number)) runs
    ≡ list_any (λ run. asks_phase phase (element_at requests run.number)) runs
any_kept requests new [] phase there = refl
any_kept requests new (run ∷ later) phase there =
    let first = there 0 run refl in
    ap₂ (λ (a b : Bool). a || b)
    (ap (asks_phase phase) (numbered_kept requests new run.number first.0 first.1) ∙ ap (asks_phase phase) (sym first.1))
    (any_kept requests new later phase (λ place one at. there (suc place) one at))

-- a run is of a request
run_named : (settings : Parameters) (table : List (Option Entry)) (meaning : Meaning) (records : Records)
    → Holds (job_of settings table meaning) (IsEndpointKept settings) records → (from to place : ℕ) (run : RunReply)
    → slice_get ((plain_of records).runs from to) place ≡ Some run
    → (request : PlainRequest) × (element_at ((plain_of records).requests from to) run.number ≡ Some request)
run_named settings table meaning records holds from to place run at =
    let found = unmapped ((records to).ran from) place run at in
    let one = (holds.pair from to).named place found.0 found.1 in (
      plain_request one.0,
      subst
          (λ (n : ℕ). element_at (map plain_request ((records from).asked to)) n ≡ Some (plain_request one.0))
          (ap (λ (r : RunReply). r.number) found.2)
          (numbered_map plain_request ((records from).asked to) found.0.number one.0 one.1),
    )
  where
    unmapped : (runs : List Run) (place : ℕ) (run : RunReply) → slice_get (map run_reply runs) place ≡ Some run
        → (one : Run) × (slice_get runs place ≡ Some one) × (run_reply one ≡ run)
    unmapped (one ∷ later) zero run at = (one, refl, same_Some _ _ at)
    unmapped (one ∷ later) (suc place) run at = unmapped later place run at
    unmapped [] zero run at = absurd (none_some at)
    unmapped [] (suc place) run at = absurd (none_some at)

-- what a pair has after one was put
pair_here : {X : Type 0} (items : ℕ → ℕ → X) (from to : ℕ) (item : X) → put_pair items from to item from to ≡ item
pair_here items from to item = elim (pair_at items from to item from to) [
  | inl here ↦ here.2
  | inr apart ↦ absurd (elim apart.0 [ inl first ↦ first refl | inr second ↦ second refl ])
]

pair_apart : {X : Type 0} (items : ℕ → ℕ → X) (from to : ℕ) (item : X) (one other : ℕ)
    → (one ≢ from) ⊎ (other ≢ to) → put_pair items from to item one other ≡ items one other
pair_apart items from to item one other differ = elim (pair_at items from to item one other) [
  | inl here ↦ absurd (elim differ [ inl first ↦ first here.0 | inr second ↦ second here.1 ])
  | inr apart ↦ apart.1
]

-- who asks a phase then
asked_push : (phase : ℕ) (requests : List PlainRequest) (new : PlainRequest) (number : ℕ)
    → asks_phase phase (element_at (requests ++ new ∷ []) number) ≡ true
    → (asks_phase phase (element_at requests number) ≡ true)
    ⊎ ((number ≡ suc (length requests)) × (asks_phase phase (Some new) ≡ true))
asked_push phase requests new zero is = inl is
asked_push phase [] new (suc zero) is = inr (refl, is)
asked_push phase [] new (suc (suc place)) is = inl is
asked_push phase (first ∷ requests) new (suc zero) is = inl is
asked_push phase (first ∷ requests) new (suc (suc place)) is = elim (asked_push phase requests new (suc place) is) [
  | inl old ↦ inl old
  | inr last ↦ inr (ap suc last.0, last.1)
]

asked_some : (phase : ℕ) (found : Option PlainRequest) → asks_phase phase found ≡ true
    → (request : PlainRequest) × (found ≡ Some request) × (request.content.handler ≡ collective_handler)
asked_some phase None is = absurd (true≢false (sym is))
asked_some phase (Some request) is =
    (request, refl, eqb-true _ _ (and_first (request.content.handler == collective_handler) _ is))
  where
    and_first : (one other : Bool) → (one && other) ≡ true → one ≡ true
    and_first true other is = refl
    and_first false other is = absurd (true≢false (sym is))

-- ---- how far the node is then

-- what stays beside the nodes that were sent to
same_field : {X : Type 0} (field : Progress → X) (group : Group) (node to one : ℕ)
    → field (with_sent (group.progress node) to) ≡ field (group.progress node)
    → field (put group.progress node (with_sent (group.progress node) to) one) ≡ field (group.progress one)
same_field field group node to one same = elim (cases_eq one node) [
  | inl here ↦ ap (λ (at : ℕ). field (put group.progress node (with_sent (group.progress node) to) at)) here
      ∙ (ap field (put_same group.progress node _) ∙ (same ∙ ap (λ (at : ℕ). field (group.progress at)) (sym here)))
  | inr apart ↦ ap field (put_other group.progress node _ one apart)
]

-- what was sent before, and then
sent_before : (settings : Parameters) (table : List (Option Entry)) (meaning : Meaning) (area : Area)
    (group : Group) (next : Records) (node thread to slot number : ℕ)
    → SendsSo settings table meaning area group next node thread to slot number
    → (phases_of (job_of settings table meaning) area group).sent node to ≡ (group.progress node).ended
sent_before settings table meaning area group next node thread to slot number it =
    rw (ne_eqb to node (λ same. it.apart (sym same))) (rw it.open_now (rw it.left (omega arith)))

sent_here : (settings : Parameters) (table : List (Option Entry)) (meaning : Meaning) (area : Area)
    (group : Group) (next : Records) (node thread to slot number : ℕ)
    → SendsSo settings table meaning area group next node thread to slot number
    → (phases_of (job_of settings table meaning) area (group_sent group next node to)).sent node to
    ≡ (group.progress node).ended + 1
sent_here settings table meaning area group next node thread to slot number it =
    rw (ne_eqb to node (λ same. it.apart (sym same)))
    (ap (λ (progress : Progress). sent_count progress to) (put_same group.progress node _)
    ∙ rw it.open_now (ap (λ (sent : Bool). (group.progress node).ended + (if sent then 1 else 0))
    (put_same (group.progress node).sent to true)))

sent_apart : (job : EndpointJob) (area : Area) (group : Group) (next : Records) (node to one other : ℕ)
    → (one ≢ node) ⊎ (other ≢ to)
    → (phases_of job area (group_sent group next node to)).sent one other
    ≡ (phases_of job area group).sent one other
sent_apart job area group next node to one other differ =
    ap (λ (count : ℕ). if other == one then length (group.given one) else count)
    (elim (cases_eq one node) [
      | inr apart ↦ ap (λ (progress : Progress). sent_count progress other) (put_other group.progress node _ one apart)
      | inl here ↦ ap (λ (at : ℕ). sent_count (put group.progress node (with_sent (group.progress node) to) at) other)
          here
          ∙ (ap (λ (progress : Progress). sent_count progress other) (put_same group.progress node _)
          ∙ (ap (λ (sent : Bool). (group.progress node).ended
          + (if is_open (group.progress node) && sent then 1 else 0))
          (put_other (group.progress node).sent to true other (elim differ [
            | inl first ↦ absurd (first here)
            | inr second ↦ second
          ])) ∙ ap (λ (at : ℕ). sent_count (group.progress at) other) (sym here)))
    ])

-- no count fell
sent_more : (settings : Parameters) (table : List (Option Entry)) (meaning : Meaning) (area : Area)
    (group : Group) (next : Records) (node thread to slot number : ℕ)
    → SendsSo settings table meaning area group next node thread to slot number → (one other phase : ℕ)
    → phase < (phases_of (job_of settings table meaning) area group).sent one other
    → phase < (phases_of (job_of settings table meaning) area (group_sent group next node to)).sent one other
sent_more settings table meaning area group next node thread to slot number it one other phase low =
    let job = job_of settings table meaning in
    elim (cases_two one other node to) [
      | inr apart ↦ subst (λ (n : ℕ). phase < n) (sym (sent_apart job area group next node to one other apart)) low
      | inl both ↦ subst
          (λ (f : ℕ). phase < (phases_of job area (group_sent group next node to)).sent f other) (sym both.0)
          (subst (λ (t : ℕ). phase < (phases_of job area (group_sent group next node to)).sent node t) (sym both.1)
          (let then_is = sent_here settings table meaning area group next node thread to slot number it in
          let was = sent_before settings table meaning area group next node thread to slot number it in
          let same : (phases_of job area group).sent one other ≡ (phases_of job area group).sent node to =
          ap (λ (f : ℕ). (phases_of job area group).sent f other) both.0
          ∙ ap (λ (t : ℕ). (phases_of job area group).sent node t) both.1 in
          omega (arith, low, then_is, was, same)))
    ]

-- ---- the nodes by themselves

-- the request that was asked
abbrev new_of : (settings : Parameters) (table : List (Option Entry)) (meaning : Meaning) → Area → Group
    → (node thread to slot : ℕ) → PlainRequest
new_of settings table meaning area group node thread to slot =
    record {
      content = plain_said (site_of (job_of settings table meaning) node) (plain_of group.records)
          (step_ask area node thread to (group.progress node));
      slot = slot;
    }

-- segments are as they were
segment_same : (settings : Parameters) (table : List (Option Entry)) (meaning : Meaning) (area : Area)
    (group : Group) (next : Records) (node thread to slot number : ℕ)
    → SendsSo settings table meaning area group next node thread to slot number → (at : ℕ)
    → segment_at (job_of settings table meaning) next at ≡ segment_at (job_of settings table meaning) group.records at
segment_same settings table meaning area group next node thread to slot number it at =
    ap (λ (plain : Plain EndpointLocal). segment_of settings (plain.local at).core) it.step.3

ran_sent : (settings : Parameters) (table : List (Option Entry)) (meaning : Meaning) (area : Area)
    (group : Group) (next : Records) (node thread to slot number : ℕ)
    → SendsSo settings table meaning area group next node thread to slot number → (one other phase : ℕ)
    → ran_phase (plain_of next) one other phase ≡ ran_phase (plain_of group.records) one other phase
ran_sent settings table meaning area group next node thread to slot number it one other phase =
    let plain = plain_of group.records in
    let new = new_of settings table meaning area group node thread to slot in
    let more = plain.requests node to ++ new ∷ [] in
    let test = λ (list : List PlainRequest) (run : RunReply). asks_phase phase (element_at list run.number) in
    ap (λ (then_plain : Plain EndpointLocal). ran_phase then_plain one other phase) it.step.3
    ∙ elim (cases_two one other node to) [
      | inr apart ↦ ap (λ (list : List PlainRequest). list_any (test list) (plain.runs one other))
          (pair_apart plain.requests node to more one other apart)
      | inl both ↦ subst
          (λ (f : ℕ). list_any (test (put_pair plain.requests node to more f other)) (plain.runs f other)
          ≡ list_any (test (plain.requests f other)) (plain.runs f other)) (sym both.0)
          (subst (λ (t : ℕ). list_any (test (put_pair plain.requests node to more node t)) (plain.runs node t)
          ≡ list_any (test (plain.requests node t)) (plain.runs node t)) (sym both.1)
          (ap (λ (list : List PlainRequest). list_any (test list) (plain.runs node to))
          (pair_here plain.requests node to more)
          ∙ any_kept (plain.requests node to) new (plain.runs node to) phase
          (λ place run at. run_named settings table meaning group.records it.holds.records node to place run at)))
    ]

-- how many phases the node has started
count_of : (settings : Parameters) (table : List (Option Entry)) (meaning : Meaning) (area : Area)
    (group : Group) (next : Records) (node thread to slot number : ℕ)
    → SendsSo settings table meaning area group next node thread to slot number
    → length (group.given node) ≡ (group.progress node).ended + 1
count_of settings table meaning area group next node thread to slot number it =
    let started = (it.holds.progress node it.there).started in
    let near = (it.holds.phases.node node it.there).started in
    let open_now = ltb-true (group.progress node).ended (group.progress node).started it.open_now in
    omega (arith, started, near, open_now)

sent_leaves : (settings : Parameters) (table : List (Option Entry)) (meaning : Meaning) (area : Area)
    (group : Group) (next : Records) (node thread to slot number : ℕ)
    → SendsSo settings table meaning area group next node thread to slot number
    → Leaves settings.nodes (phases_of (job_of settings table meaning) area group) (Sends node to)
    (phases_of (job_of settings table meaning) area (group_sent group next node to))
sent_leaves settings table meaning area group next node thread to slot number it =
    let job = job_of settings table meaning in (
      (λ other. refl),
      (λ other. same_field (λ progress. progress.ended) group node to other refl),
      record {
        here = (let sent = sent_here settings table meaning area group next node thread to slot number it in
            let many = count_of settings table meaning area group next node thread to slot number it in
            sent ∙ sym many);
        others = λ one other differ. sent_apart job area group next node to one other differ;
      },
      record {
        ran = λ one other phase. ap (λ (ran : Bool).
            if other == one then nat_lt phase (length (group.given one)) else ran)
            (ran_sent settings table meaning area group next node thread to slot number it one other phase);
        stands = λ at parity one has low has_one. ap (λ (segment : List ℕ). stamp_in segment area parity one)
            (segment_same settings table meaning area group next node thread to slot number it at);
      },
    )

-- ---- the messages then

message_then : (settings : Parameters) (table : List (Option Entry)) (meaning : Meaning) (area : Area)
    (group : Group) (next : Records) (node thread to slot number : ℕ)
    → SendsSo settings table meaning area group next node thread to slot number
    → (one other at : ℕ) (request : PlainRequest) → one < settings.nodes → other < settings.nodes
    → element_at ((plain_of next).requests one other) at ≡ Some request → request.content.handler ≡ collective_handler
    → IsMessageOf (job_of settings table meaning) area (group_sent group next node to) one other request.content
message_then settings table meaning area group next node thread to slot number it one other at request has has_other
    there handler =
    let job = job_of settings table meaning in
    let plain = plain_of group.records in
    let new = new_of settings table meaning area group node thread to slot in
    let more = plain.requests node to ++ new ∷ [] in
    let was = subst (λ (all : ℕ → ℕ → List PlainRequest). element_at (all one other) at ≡ Some request)
    (ap (λ (p : Plain EndpointLocal). p.requests) it.step.3) there in
    elim (cases_two one other node to) [
      | inr apart ↦ old_message settings table meaning area group next node thread to slot number it one other at
          request has has_other
          (subst (λ (list : List PlainRequest). element_at list at ≡ Some request)
          (pair_apart plain.requests node to more one other apart) was) handler
      | inl both ↦ subst
          (λ (f : ℕ). IsMessageOf job area (group_sent group next node to) f other request.content) (sym both.0)
          (subst (λ (t : ℕ). IsMessageOf job area (group_sent group next node to) node t request.content)
          (sym both.1)
          (elim (numbered_push (plain.requests node to) new at request
          (subst (λ (list : List PlainRequest). element_at list at ≡ Some request)
          (pair_here plain.requests node to more)
          (subst (λ (t : ℕ). element_at (put_pair plain.requests node to more node t) at ≡ Some request) both.1
          (subst (λ (f : ℕ). element_at (put_pair plain.requests node to more f other) at ≡ Some request) both.0
          was)))) [
            | inl old ↦ old_message settings table meaning area group next node thread to slot number it node to at
                request it.there it.to_there old handler
            | inr last ↦ (
                let message = message_sent settings table meaning area group next node thread to slot number it in
                let sent = sent_here settings table meaning area group next node thread to slot number it in
                record {
                  phase = (group.progress node).ended;
                  given = message.given;
                  gave = message.gave;
                  sent = omega (arith, sent);
                  content_is = ap (λ (asked_one : PlainRequest). asked_one.content) (sym last.1) ∙ message.content_is;
                })
          ]))
    ]
  where
    old_message : (settings : Parameters) (table : List (Option Entry)) (meaning : Meaning) (area : Area)
        (group : Group) (next : Records) (node thread to slot number : ℕ)
        → SendsSo settings table meaning area group next node thread to slot number
        → (one other at : ℕ) (request : PlainRequest) → one < settings.nodes → other < settings.nodes
        → element_at ((plain_of group.records).requests one other) at ≡ Some request
        → request.content.handler ≡ collective_handler
        → IsMessageOf (job_of settings table meaning) area (group_sent group next node to) one other request.content
    old_message settings table meaning area group next node thread to slot number it one other at request has
        has_other there handler =
        let old = it.holds.messages one other at request has has_other there handler in
        record {
          phase = old.phase;
          given = old.given;
          gave = old.gave;
          sent = sent_more settings table meaning area group next node thread to slot number it one other old.phase
              old.sent;
          content_is = old.content_is;
        }

-- no earlier request asks the phase of the new one
none_earlier : (settings : Parameters) (table : List (Option Entry)) (meaning : Meaning) (area : Area)
    (group : Group) (next : Records) (node thread to slot number : ℕ)
    → SendsSo settings table meaning area group next node thread to slot number → (at phase : ℕ)
    → asks_phase phase (element_at ((plain_of group.records).requests node to) at) ≡ true
    → asks_phase phase (Some (new_of settings table meaning area group node thread to slot)) ≡ true → ⊥
none_earlier settings table meaning area group next node thread to slot number it at phase old new =
    let ended = (group.progress node).ended in
    let message = message_sent settings table meaning area group next node thread to slot number it in
    let found = asked_some phase _ old in
    let earlier = it.holds.messages node to at found.0 it.there it.to_there found.1 found.2 in
    let was = sent_before settings table meaning area group next node thread to slot number it in
    let low : earlier.phase < ended = (let sent = earlier.sent in omega (arith, sent, was)) in
    let small = message.small in
    elim (cases_eq phase ended) [
      | inr apart ↦ absurd (true≢false (sym new
          ∙ (ap (λ (content : Content). asks_phase phase (Some (record { content = content; slot = slot })))
          message.content_is
          ∙ message_apart ended phase (shape_word message.given.shape) (data_place area (ended % 2) node)
          (data_for message.given node to) slot small apart)))
      | inl same ↦ absurd (true≢false (sym old
          ∙ (ap (asks_phase phase) found.1
          ∙ (ap (λ (content : Content). asks_phase phase (Some (record { content = content; slot = found.0.slot })))
          earlier.content_is
          ∙ message_apart earlier.phase phase (shape_word earlier.given.shape)
          (data_place area (earlier.phase % 2) node) (data_for earlier.given node to) found.0.slot
          (omega (arith, low, small)) (λ is. omega (arith, is, same, low))))))
    ]

once_then : (settings : Parameters) (table : List (Option Entry)) (meaning : Meaning) (area : Area)
    (group : Group) (next : Records) (node thread to slot number : ℕ)
    → SendsSo settings table meaning area group next node thread to slot number
    → (one other at again phase : ℕ)
    → asks_phase phase (element_at ((plain_of next).requests one other) at) ≡ true
    → asks_phase phase (element_at ((plain_of next).requests one other) again) ≡ true → at ≡ again
once_then settings table meaning area group next node thread to slot number it one other at again phase first second =
    let plain = plain_of group.records in
    let new = new_of settings table meaning area group node thread to slot in
    let more = plain.requests node to ++ new ∷ [] in
    let requests = ap (λ (p : Plain EndpointLocal). p.requests) it.step.3 in
    let was = λ (i : ℕ) (asks : asks_phase phase (element_at ((plain_of next).requests one other) i) ≡ true).
    subst (λ (all : ℕ → ℕ → List PlainRequest). asks_phase phase (element_at (all one other) i) ≡ true) requests asks in
    elim (cases_two one other node to) [
      | inr apart ↦ it.holds.once one other at again phase
          (subst (λ (list : List PlainRequest). asks_phase phase (element_at list at) ≡ true)
          (pair_apart plain.requests node to more one other apart) (was at first))
          (subst (λ (list : List PlainRequest). asks_phase phase (element_at list again) ≡ true)
          (pair_apart plain.requests node to more one other apart) (was again second))
      | inl both ↦ (
          let list_is : put_pair plain.requests node to more one other ≡ more =
          ap (λ (f : ℕ). put_pair plain.requests node to more f other) both.0
          ∙ (ap (λ (t : ℕ). put_pair plain.requests node to more node t) both.1
          ∙ pair_here plain.requests node to more) in
          let here = λ (i : ℕ) (asks : asks_phase phase (element_at ((plain_of next).requests one other) i) ≡ true).
          asked_push phase (plain.requests node to) new i
          (subst (λ (list : List PlainRequest). asks_phase phase (element_at list i) ≡ true) list_is (was i asks)) in
          elim (here at first) [
            | inl one_old ↦ elim (here again second) [
              | inl other_old ↦ it.holds.once node to at again phase one_old other_old
              | inr other_new ↦ absurd (none_earlier settings table meaning area group next node thread to slot number
                  it at phase one_old other_new.1)
            ]
            | inr one_new ↦ elim (here again second) [
              | inl other_old ↦ absurd (none_earlier settings table meaning area group next node thread to slot number
                  it again phase other_old one_new.1)
              | inr other_new ↦ one_new.0 ∙ sym other_new.0
            ]
          ])
    ]

-- ---- the invariant then

progress_sent : (settings : Parameters) (table : List (Option Entry)) (meaning : Meaning) (area : Area)
    (group : Group) (next : Records) (node thread to slot number : ℕ)
    → SendsSo settings table meaning area group next node thread to slot number → (one : ℕ) → one < settings.nodes
    → ProgressHolds area (group_sent group next node to) one
progress_sent settings table meaning area group next node thread to slot number it one has =
    let old = it.holds.progress one has in
    let ended = same_field (λ progress. progress.ended) group node to one refl in
    record {
      started = same_field (λ progress. progress.started) group node to one refl ∙ old.started;
      shape = λ given low gave.
          old.shape given (subst (λ (n : ℕ). n < length (group.given one)) ended low)
          (subst (λ (n : ℕ). Gave group one n given) ended gave)
          ∙ sym (same_field (λ progress. progress.shape) group node to one refl);
      given = old.given;
      small = old.small;
    }

pub sent_kept : (settings : Parameters) (table : List (Option Entry)) (meaning : Meaning) (area : Area)
    (group : Group) (next : Records) (node thread to slot number : ℕ)
    → SendsSo settings table meaning area group next node thread to slot number
    → GroupHolds (job_of settings table meaning) area (group_sent group next node to)
sent_kept settings table meaning area group next node thread to slot number it =
    let job = job_of settings table meaning in
    let holds = it.holds in
    let many = count_of settings table meaning area group next node thread to slot number it in
    record {
      records = it.after;
      phases = kept settings.nodes (phases_of job area group)
          (phases_of job area (group_sent group next node to)) (Sends node to) holds.phases (
            it.there,
            it.to_there,
            it.apart,
            many,
            sent_before settings table meaning area group next node thread to slot number it,
          )
          (sent_leaves settings table meaning area group next node thread to slot number it);
      progress = progress_sent settings table meaning area group next node thread to slot number it;
      messages = message_then settings table meaning area group next node thread to slot number it;
      once = once_then settings table meaning area group next node thread to slot number it;
      parts = λ at one phase given has has_one stands gave.
          let same = segment_same settings table meaning area group next node thread to slot number it at in
          let old = holds.parts at one phase given has has_one
          (subst (λ (segment : List ℕ). stamp_in segment area (phase % 2) one ≡ phase + 1) same stands) gave in
          record {
            shape = ap (λ (segment : List ℕ). word_in segment area (phase % 2) one) same ∙ old.shape;
            bytes = λ whole. ap (λ (segment : List ℕ). data_in segment area (phase % 2) one (length given.bytes)) same
                ∙ old.bytes whole;
          };
    }
