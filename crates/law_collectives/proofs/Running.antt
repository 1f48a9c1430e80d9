-- A message of collectives runs.
use Rattle.std.proofs.Common.{◌≡◌, ◌⊎◌, inl, inr, ℕ, ◌+◌, ◌%◌, ◌^◌, ◌<◌, ◌≤◌, Bool, true, false, true≢false}
use Rattle.std.proofs.Common.{List, [], ◌∷◌, ◌++◌, length, Some, refl, sym, ap, ◌∙◌, subst, arith}
use Rattle.std.specs.Prelude.{◌≢◌, ◌==◌, ◌||◌, nat_lt, if◌then◌else◌}
use Rattle.std.specs.List.{list_any, slice_get}
use Rattle.std.proofs.lemmas.Bool.{cases_Bool, cases_eq, eq-eqb, ne_eqb}
use Rattle.std.proofs.lemmas.Option.{same_Some, slice_get_within}
use Rattle.spec_node.specs.declared.answer.Delivered.{Delivered}
use Rattle.base_lists.specs.Numbered.{element_at}
use Rattle.wire_message.specs.Content.{Content}
use Rattle.wire_message.proofs.Notified.{joined_again}
use Rattle.part_segment.specs.Image.{Write, AllFit, image, written_by}
use Rattle.part_segment.proofs.Images.{length-image, length-written_by, image-append}
use Rattle.spec_network.specs.Plain.{PlainRequest, Plain, RunReply, IsRequest, InRuns, is_among, plain_of}
use Rattle.spec_network.specs.PlainStep.{RunsFirst, request_name}
use Rattle.spec_network.specs.Invariant.{Holds}
use Rattle.node_rules.specs.EndpointLocal.{EndpointLocal, IsEndpointKept}
use Rattle.node_rules.specs.EndpointRules.{Records}
use Rattle.law_transfers.specs.Chunks.{EndpointJob, segment_at, writes_at}
use Rattle.law_transfers.proofs.Bytes.{all_fit_first, all_fit_later}
use Rattle.part_collective_area.specs.declared.shape.CollectiveKind.{CollectiveKind}
use Rattle.part_collective_area.specs.declared.shape.CollectiveKind.TheVariants as kind
use Rattle.part_collective_area.specs.declared.shape.Shape.{Shape}
use Rattle.part_collective_area.specs.Shapes.{kind_code, shape_word, uses}
use Rattle.part_collective_area.specs.Area.{Area, IsArea, data_in, data_place, stamp_in}
use Rattle.part_collective_area.specs.Served.{collective_content, collective_handler}
use Rattle.part_collective_area.specs.Results.{Contribution}
use Rattle.law_collectives.specs.Phases.{Leaves, Runs}
use Rattle.law_collectives.specs.Groups.{Group, content_writes}
use Rattle.part_collective_area.specs.Area.{SpareArea}
use Rattle.law_collectives.specs.CollectiveLaws.{Gave}
use Rattle.law_collectives.specs.Invariant.{GroupHolds, IsMessageOf, IsWholeAt, PartHolds, asks_phase, phases_of, data_for}
use Rattle.law_collectives.specs.Invariant.{ran_phase}
use Rattle.law_collectives.proofs.Phases.{cases_two, kept}
use Rattle.law_collectives.proofs.Messages.{AreOutside, IsPart, Stands, Untouched, message_is}
use Rattle.law_collectives.proofs.Messages.{message_outside, message_stands, message_writes, outside_untouched, spare_outside}
use Rattle.law_collectives.proofs.Quiet.{ran_apart, ran_push, with_records}

-- a run that is found by a test
found_any : (test : RunReply → Bool) (runs : List RunReply) → list_any test runs ≡ true
    → (run : RunReply) × (test run ≡ true) × (is_among run.number runs ≡ true)
found_any test [] is = absurd (true≢false (sym is))
found_any test (first ∷ later) is = elim (cases_Bool (test first)) [
  | inl passes ↦ (first, passes, rw (eq-eqb first.number first.number refl) refl)
  | inr fails ↦ (
      let rest = found_any test later (rw fails at is) in
      (rest.0, rest.1, or_there (first.number == rest.0.number) rest.2))
]
  where
    or_there : (one : Bool) {other : Bool} → other ≡ true → (one || other) ≡ true
    or_there true is = refl
    or_there false is = is

-- a message that hasn't run: its phase hasn't
pub phase_fresh : (job : EndpointJob) (area : Area) (group : Group) (from to number phase : ℕ) (request : PlainRequest)
    → GroupHolds job area group → IsRequest (plain_of group.records) from to number request
    → asks_phase phase (Some request) ≡ true
    → (InRuns (plain_of group.records) from to number → ⊥)
    → ran_phase (plain_of group.records) from to phase ≡ false
phase_fresh job area group from to number phase request holds there asks new =
    let plain = plain_of group.records in
    elim (cases_Bool (ran_phase plain from to phase)) [
      | inr no_run ↦ no_run
      | inl ran ↦ (
          let found = found_any (λ run. asks_phase phase (element_at (plain.requests from to) run.number))
          (plain.runs from to) ran in
          let same : found.0.number ≡ number = holds.once from to found.0.number number phase found.1
          (ap (asks_phase phase) there ∙ asks) in
          absurd (new (subst (λ (it : ℕ). is_among it (plain.runs from to) ≡ true) same found.2)))
    ]

-- the message of a phase asks that phase, and no other
pub message_asks : (phase : ℕ) (shape offset : ℕ) (bytes : List ℕ) (slot : ℕ) → phase + 1 < 2 ^ 64
    → asks_phase phase (Some (record { content = collective_content (phase + 1) shape offset bytes; slot = slot }))
    ≡ true
message_asks phase shape offset bytes slot small = eq-eqb _ _ (joined_again (phase + 1) small)

pub message_apart : (phase other : ℕ) (shape offset : ℕ) (bytes : List ℕ) (slot : ℕ) → phase + 1 < 2 ^ 64
    → other ≢ phase
    → asks_phase other (Some (record { content = collective_content (phase + 1) shape offset bytes; slot = slot }))
    ≡ false
message_apart phase other shape offset bytes slot small apart =
    ne_eqb _ _ (λ same.
    let stamp = joined_again (phase + 1) small in
    apart (omega (arith, same, stamp)))

-- ---- numbers

code_low : (k : CollectiveKind) → kind_code k < 9
code_low kind.Broadcast = omega arith
code_low kind.Gather = omega arith
code_low kind.AllGather = omega arith
code_low kind.Sum = omega arith
code_low kind.Min = omega arith
code_low kind.Max = omega arith
code_low kind.AllSum = omega arith
code_low kind.AllMin = omega arith
code_low kind.AllMax = omega arith

pub word_small : (shape : Shape) → shape.root < 2 ^ 16 → shape.len < 2 ^ 32 → shape_word shape < 2 ^ 64
word_small shape root len = let code = code_low shape.kind in omega (arith, root, len, code)

-- ---- segments after an event

-- what is written there beside
pub record Written (job : EndpointJob) (area : Area) (now next : Records) (node : ℕ) (message : List Write)
    : Type 0 where
  pub beside : List Write
  pub is : segment_at job next node ≡ written_by (written_by (segment_at job now node) message) beside
  pub long : length (segment_at job now node) ≡ job.settings.segment
  pub message_fit : AllFit job.settings.segment message
  pub beside_fit : AllFit job.settings.segment beside
  pub spare : SpareArea area beside

pub written_so : (job : EndpointJob) (area : Area) (now next : Records) (node : ℕ) (message beside : List Write)
    → Holds job (IsEndpointKept job.settings) now → Holds job (IsEndpointKept job.settings) next
    → writes_at next node ≡ (writes_at now node ++ message) ++ beside → SpareArea area beside
    → Written job area now next node message
written_so job area now next node message beside before after is spare =
    let size = job.settings.segment in
    let fit = subst (AllFit size) is (after.kept node).core.writes in
    record {
      beside = beside;
      is = ap (image size) is
          ∙ (image-append size (writes_at now node ++ message) beside
          ∙ ap (λ (bytes : List ℕ). written_by bytes beside) (image-append size (writes_at now node) message));
      long = length-image size (writes_at now node) (before.kept node).core.writes;
      message_fit = all_fit_later size (writes_at now node) message
          (all_fit_first size (writes_at now node ++ message) beside fit);
      beside_fit = all_fit_later size (writes_at now node ++ message) beside fit;
      spare = spare;
    }

-- a part that the message leaves alone is as it was
pub part_kept : (job : EndpointJob) (area : Area) (now next : Records) (node parity from : ℕ) (message : List Write)
    → Written job area now next node message → IsPart job.settings.segment area parity from
    → AreOutside message area parity from
    → Untouched (segment_at job next node) (segment_at job now node) area parity from
part_kept job area now next node parity from message it there outside =
    let size = job.settings.segment in
    let middle = written_by (segment_at job now node) message in
    let middle_long = length-written_by size (segment_at job now node) message it.long it.message_fit in
    let one = outside_untouched size (segment_at job now node) message area parity from it.long it.message_fit
    outside in
    let two = outside_untouched size middle it.beside area parity from middle_long it.beside_fit
    (spare_outside size area parity from it.beside there it.spare) in
    let both : Untouched (written_by middle it.beside) (segment_at job now node) area parity from = record {
      stamp = two.stamp ∙ one.stamp;
      shape = two.shape ∙ one.shape;
      bytes = λ len few. two.bytes len few ∙ one.bytes len few;
    } in
    subst (λ (bytes : List ℕ). Untouched bytes (segment_at job now node) area parity from) (sym it.is) both

-- a part to which the message goes has it
pub part_has : (job : EndpointJob) (area : Area) (now next : Records) (node parity from stamp shape : ℕ)
    (bytes : List ℕ) → Written job area now next node (message_writes area parity from stamp shape bytes)
    → IsPart job.settings.segment area parity from → length bytes ≤ area.room → stamp < 2 ^ 64 → shape < 2 ^ 64
    → Stands (segment_at job next node) area parity from stamp shape bytes
part_has job area now next node parity from stamp shape bytes it there few stamp_small shape_small =
    let size = job.settings.segment in
    let message = message_writes area parity from stamp shape bytes in
    let middle = written_by (segment_at job now node) message in
    let middle_long = length-written_by size (segment_at job now node) message it.long it.message_fit in
    let one = message_stands size (segment_at job now node) area parity from stamp shape bytes it.long there few
    stamp_small shape_small in
    let two = outside_untouched size middle it.beside area parity from middle_long it.beside_fit
    (spare_outside size area parity from it.beside there it.spare) in
    let both : Stands (written_by middle it.beside) area parity from stamp shape bytes = record {
      stamp_is = two.stamp ∙ one.stamp_is;
      shape_is = two.shape ∙ one.shape_is;
      bytes_are = two.bytes (length bytes) few ∙ one.bytes_are;
    } in
    subst (λ (now_bytes : List ℕ). Stands now_bytes area parity from stamp shape bytes) (sym it.is) both

-- ---- a message runs

-- what the message writes at a node, where it runs at `to`
abbrev pub message_at : (size to node : ℕ) → Content → List Write
message_at size to node content = if to == node then content_writes size content else []

pub record RunsMessage (job : EndpointJob) (area : Area) (group : Group) (next : Records) (from to number : ℕ)
    : Type 0 where
  pub nodes : area.nodes ≡ job.settings.nodes
  pub few : area.nodes ≤ 256
  pub good : IsArea job.settings.segment area
  pub holds : GroupHolds job area group
  pub after : Holds job (IsEndpointKept job.settings) next
  pub has_from : from < job.settings.nodes
  pub has_to : to < job.settings.nodes
  pub apart : from ≢ to
  pub answer : Delivered
  pub first : RunsFirst job.behaviour.messages (plain_of group.records) (request_name from to number) answer (plain_of next)
  pub handler : first.request.content.handler ≡ collective_handler
  pub writes : (node : ℕ) → node < job.settings.nodes
      → Written job area group.records next node (message_at job.settings.segment to node first.request.content)

within : {X : Type 0} (xs : List X) (place : ℕ) (x : X) → slice_get xs place ≡ Some x → place < length xs
within xs place x is = slice_get_within xs place x is

-- what is known of the message
record KnownMessage (job : EndpointJob) (area : Area) (group : Group) (next : Records) (from to number : ℕ)
    (it : RunsMessage job area group next from to number) : Type 0 where
  message : IsMessageOf job area group from to it.first.request.content
  stamp_small : message.phase + 1 < 2 ^ 64
  shape_small : shape_word message.given.shape < 2 ^ 64
  few : length (data_for message.given from to) ≤ area.room
  whole_few : length message.given.bytes ≤ area.room
  there : IsPart job.settings.segment area (message.phase % 2) from
  has : Written job area group.records next to
      (message_writes area (message.phase % 2) from (message.phase + 1) (shape_word message.given.shape)
      (data_for message.given from to))
  other : (node : ℕ) → node < job.settings.nodes → node ≢ to → Written job area group.records next node []

data_few : (area : Area) (given : Contribution) (from to : ℕ) → length given.bytes ≤ area.room
    → length (data_for given from to) ≤ area.room
data_few area given from to few = elim (cases_Bool (uses given.shape from to)) [
  | inl used ↦ rw used few
  | inr unused ↦ rw unused (omega arith)
]

known_message : (job : EndpointJob) (area : Area) (group : Group) (next : Records) (from to number : ℕ)
    (it : RunsMessage job area group next from to number) → KnownMessage job area group next from to number it
known_message job area group next from to number it =
    let size = job.settings.segment in
    let message = it.holds.messages from to number it.first.request it.has_from it.has_to it.first.fresh.is it.handler
    in
    let kept_one = it.holds.progress from it.has_from in
    let given = kept_one.given message.phase message.given message.gave in
    let small = kept_one.small in
    let low = within (group.given from) message.phase message.given message.gave in
    let nodes = it.few in
    let room = it.good.small in
    let stamp_small : message.phase + 1 < 2 ^ 64 = omega (arith, small, low) in
    let shape_small = word_small message.given.shape (let root = given.root in omega (arith, root, nodes))
    (let few = given.few in omega (arith, few, room)) in
    let whole_few : length message.given.bytes ≤ area.room =
    (let len = given.len in let few = given.few in omega (arith, len, few)) in
    let there : IsPart size area (message.phase % 2) from = record {
      good = it.good;
      low = omega arith;
      there = subst (λ (n : ℕ). from < n) (sym it.nodes) it.has_from;
    } in
    let is : message_at size to to it.first.request.content
    ≡ message_writes area (message.phase % 2) from (message.phase + 1) (shape_word message.given.shape)
    (data_for message.given from to)
    = here to it.first.request.content
    ∙ (ap (content_writes size) message.content_is
    ∙ message_is size area (message.phase % 2) from (message.phase + 1) (shape_word message.given.shape)
    (data_for message.given from to) there stamp_small shape_small) in
    record {
      message = message;
      stamp_small = stamp_small;
      shape_small = shape_small;
      few = data_few area message.given from to whole_few;
      whole_few = whole_few;
      there = there;
      has = subst (λ (writes : List Write). Written job area group.records next to writes) is (it.writes to it.has_to);
      other = λ node has apart. subst (λ (writes : List Write). Written job area group.records next node writes)
          (elsewhere to node it.first.request.content (λ same. apart (sym same))) (it.writes node has);
    }
  where
    here : (to : ℕ) (content : Content) → message_at job.settings.segment to to content
        ≡ content_writes job.settings.segment content
    here to content = rw (eq-eqb to to refl) refl

    elsewhere : (to node : ℕ) (content : Content) → to ≢ node → message_at job.settings.segment to node content ≡ []
    elsewhere to node content apart = rw (ne_eqb to node apart) refl

-- the parts to which it doesn't go
others_kept : (job : EndpointJob) (area : Area) (group : Group) (next : Records) (from to number : ℕ)
    (it : RunsMessage job area group next from to number) (known : KnownMessage job area group next from to number it)
    (node parity one : ℕ) → node < job.settings.nodes → parity < 2 → one < job.settings.nodes
    → (node ≢ to) ⊎ ((parity ≢ known.message.phase % 2) ⊎ (one ≢ from))
    → Untouched (segment_at job next node) (segment_at job group.records node) area parity one
others_kept job area group next from to number it known node parity one has low has_one differ =
    let size = job.settings.segment in
    let there : IsPart size area parity one = record {
      good = it.good;
      low = low;
      there = subst (λ (n : ℕ). one < n) (sym it.nodes) has_one;
    } in
    elim (cases_eq node to) [
      | inl same ↦ subst
          (λ (at : ℕ). Untouched (segment_at job next at) (segment_at job group.records at) area parity one) (sym same)
          (part_kept job area group.records next to parity one _ known.has there
          (message_outside size area (known.message.phase % 2) from parity one (known.message.phase + 1)
          (shape_word known.message.given.shape) (data_for known.message.given from to) known.there there known.few
          (elim differ [
            | inl node_apart ↦ absurd (node_apart same)
            | inr side ↦ elim side [
              | inl parity_apart ↦ inl (λ is. parity_apart (sym is))
              | inr one_apart ↦ inr (λ is. one_apart (sym is))
            ]
          ])))
      | inr apart ↦ part_kept job area group.records next node parity one [] (known.other node has apart) there
          (record { all = λ offset len from to. tt })
    ]

-- ---- the invariant holds after it

-- the phase of the message hadn't run
fresh_phase : (job : EndpointJob) (area : Area) (group : Group) (next : Records) (from to number : ℕ)
    (it : RunsMessage job area group next from to number) (known : KnownMessage job area group next from to number it)
    → (phases_of job area group).ran from to known.message.phase ≡ false
fresh_phase job area group next from to number it known =
    rw (ne_eqb to from (λ same. it.apart (sym same)))
    (phase_fresh job area group from to number known.message.phase it.first.request it.holds it.first.fresh.is
    (subst (λ (content : Content). asks_phase known.message.phase
    (Some (record { content = content; slot = it.first.request.slot })) ≡ true) (sym known.message.content_is)
    (message_asks known.message.phase (shape_word known.message.given.shape)
    (data_place area (known.message.phase % 2) from) (data_for known.message.given from to) it.first.request.slot
    known.stamp_small)) it.first.fresh.new)

-- what the request asks
asks_one : (job : EndpointJob) (area : Area) (group : Group) (next : Records) (from to number : ℕ)
    (it : RunsMessage job area group next from to number) (phase : ℕ)
    → asks_phase phase (element_at ((plain_of group.records).requests from to) number)
    ≡ asks_phase phase (Some it.first.request)
asks_one job area group next from to number it phase = ap (asks_phase phase) it.first.fresh.is

-- the nodes by themselves: the message of this phase runs
runs_leaves : (job : EndpointJob) (area : Area) (group : Group) (next : Records) (from to number : ℕ)
    (it : RunsMessage job area group next from to number) (known : KnownMessage job area group next from to number it)
    → Leaves job.settings.nodes (phases_of job area group) (Runs from to known.message.phase)
    (phases_of job area (with_records group next))
runs_leaves job area group next from to number it known =
    let plain = plain_of group.records in
    let after = plain_of next in
    let phase = known.message.phase in
    let requests : after.requests ≡ plain.requests = ap (λ (p : Plain EndpointLocal). p.requests) it.first.leaves in
    let runs = ap (λ (p : Plain EndpointLocal). p.runs) it.first.leaves in
    let content = known.message.content_is in
    let slot = it.first.request.slot in
    let word = shape_word known.message.given.shape in (
      (λ node. refl),
      (λ node. refl),
      (λ one other has_one has_other. refl),
      record {
        ran = rw (ne_eqb to from (λ same. it.apart (sym same)))
            (ran_push plain after from to _ requests runs phase
            ∙ (ap (λ (asks : Bool). ran_phase plain from to phase || (asks || false))
            (asks_one job area group next from to number it phase
            ∙ subst (λ (said : Content). asks_phase phase (Some (record { content = said; slot = slot })) ≡ true)
            (sym content) (message_asks phase word (data_place area (phase % 2) from)
            (data_for known.message.given from to) slot known.stamp_small))
            ∙ or_true (ran_phase plain from to phase)));
        ran_others = λ one other of differ.
            ap (λ (ran : Bool). if other == one then nat_lt of (length (group.given one)) else ran)
            (elim (cases_two one other from to) [
              | inr apart ↦ ran_apart plain after from to _ requests runs one other of apart
              | inl both ↦ subst (λ (f : ℕ). ran_phase after f other of ≡ ran_phase plain f other of) (sym both.0)
                  (subst (λ (t : ℕ). ran_phase after from t of ≡ ran_phase plain from t of) (sym both.1)
                  (ran_push plain after from to _ requests runs of
                  ∙ (ap (λ (asks : Bool). ran_phase plain from to of || (asks || false))
                  (asks_one job area group next from to number it of
                  ∙ subst (λ (said : Content). asks_phase of (Some (record { content = said; slot = slot }))
                  ≡ false) (sym content)
                  (message_apart phase of word (data_place area (phase % 2) from)
                  (data_for known.message.given from to) slot known.stamp_small (elim differ [
                    | inl first ↦ absurd (first both.0)
                    | inr side ↦ elim side [ inl second ↦ absurd (second both.1) | inr last ↦ last ]
                  ])))
                  ∙ or_false (ran_phase plain from to of))))
            ]);
        stands = (part_has job area group.records next to (phase % 2) from (phase + 1) word
            (data_for known.message.given from to) known.has known.there known.few known.stamp_small
            known.shape_small).stamp_is;
        stands_others = λ node parity one has low has_one differ.
            (others_kept job area group next from to number it known node parity one has low has_one differ).stamp;
      },
    )
  where
    or_true : (one : Bool) → (one || (true || false)) ≡ true
    or_true true = refl
    or_true false = refl

    or_false : (one : Bool) → (one || (false || false)) ≡ one
    or_false true = refl
    or_false false = refl

pub runs_kept : (job : EndpointJob) (area : Area) (group : Group) (next : Records) (from to number : ℕ)
    → RunsMessage job area group next from to number → GroupHolds job area (with_records group next)
runs_kept job area group next from to number it =
    let known = known_message job area group next from to number it in
    let holds = it.holds in
    let phase = known.message.phase in
    let requests : (plain_of next).requests ≡ (plain_of group.records).requests
    = ap (λ (p : Plain EndpointLocal). p.requests) it.first.leaves in
    record {
      records = it.after;
      phases = kept job.settings.nodes (phases_of job area group)
          (phases_of job area (with_records group next)) (Runs from to phase) holds.phases
          (it.has_from, it.has_to, it.apart, known.message.sent, fresh_phase job area group next from to number it known)
          (runs_leaves job area group next from to number it known);
      progress = λ node has.
          let one = holds.progress node has in
          record { started = one.started; shape = one.shape; given = one.given; small = one.small };
      messages = λ one other at request has_one has_other there handler.
          let old = holds.messages one other at request has_one has_other
          (subst (λ (all : ℕ → ℕ → List PlainRequest). element_at (all one other) at ≡ Some request) requests there)
          handler in
          record {
            phase = old.phase;
            given = old.given;
            gave = old.gave;
            sent = old.sent;
            content_is = old.content_is;
          };
      once = λ one other at again of first second. holds.once one other at again of
          (subst (λ (all : ℕ → ℕ → List PlainRequest). asks_phase of (element_at (all one other) at) ≡ true) requests first)
          (subst (λ (all : ℕ → ℕ → List PlainRequest). asks_phase of (element_at (all one other) again) ≡ true) requests
          second);
      parts = λ node one of given has has_one stands gave.
          elim (cases_eq node to) [
            | inr apart ↦ old_part job area group next from to number it known node one of given has has_one stands
                gave (inl apart)
            | inl here ↦ elim (cases_two one (of % 2) from (phase % 2)) [
              | inr differ ↦ old_part job area group next from to number it known node one of given has has_one stands
                  gave (inr (elim differ [ inl first ↦ inr first | inr second ↦ inl second ]))
              | inl both ↦ new_part job area group next from to number it known node one of given stands gave here
                  both.0 both.1
            ]
          ];
    }
  where
    old_part : (job : EndpointJob) (area : Area) (group : Group) (next : Records) (from to number : ℕ)
        (it : RunsMessage job area group next from to number)
        (known : KnownMessage job area group next from to number it) (node one of : ℕ) (given : Contribution)
        → node < job.settings.nodes → one < job.settings.nodes
        → stamp_in (segment_at job next node) area (of % 2) one ≡ of + 1 → Gave group one of given
        → (node ≢ to) ⊎ ((of % 2 ≢ known.message.phase % 2) ⊎ (one ≢ from))
        → PartHolds job area (with_records group next) node one of given
    old_part job area group next from to number it known node one of given has has_one stands gave differ =
        let same = others_kept job area group next from to number it known node (of % 2) one has (omega arith) has_one
        differ in
        let old = it.holds.parts node one of given has has_one (sym same.stamp ∙ stands) gave in
        let limits = (it.holds.progress one has_one).given of given gave in
        record {
          shape = same.shape ∙ old.shape;
          bytes = λ whole. same.bytes (length given.bytes)
              (let len = limits.len in let few = limits.few in omega (arith, len, few)) ∙ old.bytes whole;
        }

    new_part : (job : EndpointJob) (area : Area) (group : Group) (next : Records) (from to number : ℕ)
        (it : RunsMessage job area group next from to number)
        (known : KnownMessage job area group next from to number it) (node one of : ℕ) (given : Contribution)
        → stamp_in (segment_at job next node) area (of % 2) one ≡ of + 1 → Gave group one of given
        → node ≡ to → one ≡ from → of % 2 ≡ known.message.phase % 2
        → PartHolds job area (with_records group next) node one of given
    new_part job area group next from to number it known node one of given stands gave here same_from same_parity =
        let phase = known.message.phase in
        let segment = segment_at job next to in
        let word = shape_word known.message.given.shape in
        let stood = part_has job area group.records next to (phase % 2) from (phase + 1) word
        (data_for known.message.given from to) known.has known.there known.few known.stamp_small known.shape_small in
        let stamps : of + 1 ≡ phase + 1 = sym stands
        ∙ (ap (λ (at : ℕ). stamp_in (segment_at job next at) area (of % 2) one) here
        ∙ (ap (λ (parity : ℕ). stamp_in segment area parity one) same_parity
        ∙ (ap (λ (at : ℕ). stamp_in segment area (phase % 2) at) same_from ∙ stood.stamp_is))) in
        let is : of ≡ phase = omega (arith, stamps) in
        let whose : Gave group from phase given = subst (λ (f : ℕ). Gave group f phase given) same_from
        (subst (λ (p : ℕ). Gave group one p given) is gave) in
        let mine : given ≡ known.message.given = same_Some _ _ (sym whose ∙ known.message.gave) in
        let place : PartHolds job area (with_records group next) to from phase known.message.given = record {
          shape = stood.shape_is;
          bytes = λ whole. by_used (uses known.message.given.shape from to) refl whole stood.bytes_are;
        } in
        subst (λ (at : ℕ). PartHolds job area (with_records group next) at one of given) (sym here)
        (subst (λ (f : ℕ). PartHolds job area (with_records group next) to f of given) (sym same_from)
        (subst (λ (p : ℕ). PartHolds job area (with_records group next) to from p given) (sym is)
        (subst (λ (g : Contribution). PartHolds job area (with_records group next) to from phase g) (sym mine) place)))
      where
        by_used : (used : Bool) → uses known.message.given.shape from to ≡ used
            → IsWholeAt known.message.given from to
            → data_in (segment_at job next to) area (known.message.phase % 2) from
            (length (data_for known.message.given from to))
            ≡ data_for known.message.given from to
            → data_in (segment_at job next to) area (known.message.phase % 2) from (length known.message.given.bytes)
            ≡ known.message.given.bytes
        by_used true is whole stood = rw is at stood
        by_used false is (inl own) stood = absurd (it.apart own)
        by_used false is (inr used) stood = absurd (true≢false (sym used ∙ is))
