-- A start at a node of a group of the code, as the start of a group.
use Rattle.std.proofs.Common.{◌≡◌, ℕ, ◌<◌, Bool, List, [], ◌∷◌, length, Option, Some, None, refl, sym, ap, ap₂, ◌∙◌, subst}
use Rattle.std.proofs.Common.{subst₂}
use Rattle.std.specs.Prelude.{◌≢◌, slice_get, slice_set}
use Rattle.base_lists.proofs.Put.{put_same, put_other}
use Rattle.part_handlers.specs.Runs.{Meaning}
use Rattle.spec_node.specs.declared.answer.Asked.{Asked as Told}
use Rattle.spec_node.specs.declared.answer.Asked.TheVariants as told
use Rattle.spec_network.specs.World.{Asks, EventAt, world_answer}
use Rattle.spec_network.specs.MostHeld.{most_after}
use Rattle.node_rules.specs.EndpointRules.{OtherCall, Records, asked_answer, timed_event}
use Rattle.node_rules.specs.declared.answer.Answer.{Answer}
use Rattle.law_transfers.specs.Chunks.{EndpointJob}
use Rattle.sim_world.specs.Stands.{WorldStands}
use Rattle.sim_world.specs.WorldState.{WorldState}
use Rattle.node_endpoint.specs.declared.caller.Caller.{Ghosts}
use Rattle.node_endpoint.specs.Making.{MakesOne}
use Rattle.node_endpoint.specs.Sites.{Site, answer_at, job_at}
use Rattle.sim_world.specs.Wholes.{WorldWhole, event_of_call, whole_then}
use Rattle.part_collective_area.specs.Area.{Area}
use Rattle.part_collective_area.specs.declared.shape.Shape.{Shape}
use Rattle.node_collectives.specs.declared.answers.StartAnswer.{StartAnswer}
use Rattle.node_collectives.specs.declared.answers.StartAnswer.TheVariants as start_answers
use Rattle.node_collectives.specs.Progress.{Progress, after_start, start_ask, start_refusal}
use Rattle.node_collectives.specs.CollectivesState.{CollectivesState, IsSameNode, Stands, progress_of}
use Rattle.node_collectives.specs.Starts.{Calls, Refuses, StartAsked, Starts, call_of, start_call, start_told}
use Rattle.node_collectives.specs.Starts.{started_then}
use Rattle.law_collectives.specs.Groups.{Group, GroupEvent, OfStart, Start, asked_in, group_does, started_group}
use Rattle.sim_group.specs.CallsOf.{calls_of, calls_of_start}
use Rattle.sim_group.specs.GroupState.{GroupState, IsGroup}
use Rattle.sim_group.specs.OfGroups.{IsAt}
use Rattle.sim_group.specs.Standing.{AreAsFar, DoesOf, DoesStart, IsLeft, StandsFor, StartsOf}
use Rattle.sim_group.proofs.Joined.{first_is, start_is_of_group}
use Rattle.sim_group.proofs.Nodes.{far_set, none_has}

-- ---- what came of it, of a whole for which the caller stood

-- the refusal that comes before any call
abbrev pub refusal_of : CollectivesState → StartAsked → Option StartAnswer
refusal_of it asked = start_refusal it.area it.settings.segment (progress_of it) asked.shape asked.from

-- it was refused, or memory ran out, or its call was answered so and left this whole
pub data StartCame (Whole : Type 0) (stood : Whole → Type 0) (whole : Whole) (told : Answer) (left : Whole)
    (it : CollectivesState) (asked : StartAsked) (answer : StartAnswer) (next : CollectivesState) : Type 0 where
  Refused : (refusal : StartAnswer) → refusal_of it asked ≡ Some refusal → answer ≡ refusal → next ≡ it → stood whole
      → StartCame Whole stood whole told left it asked answer next
  Lacked : answer ≡ start_answers.NoMemory → next ≡ it → stood whole
      → StartCame Whole stood whole told left it asked answer next
  Called : refusal_of it asked ≡ None → answer ≡ start_told (Some told) → next ≡ started_then answer it asked.shape
      → stood left → StartCame Whole stood whole told left it asked answer next

-- by the refusal that comes first, if one does
abbrev pub StartWays : {K : Type 0} → (caller : Ghosts K) → CollectivesState → K → StartAsked → StartAnswer
    → CollectivesState → K → Option StartAnswer → Type 0
StartWays caller it old asked answer next new refusal = elim refusal [
  | Some first ↦ Refuses it old first answer next new
  | None ↦ Calls caller it old asked answer next new
]

pub start_came : {K : Type 0} (caller : Ghosts K) (it : CollectivesState) (old : K) (asked : StartAsked)
    (answer : StartAnswer) (next : CollectivesState) (new : K) → Starts caller it old asked answer next new
    → (whole : caller.Whole) → caller.stands old whole
    → StartCame caller.Whole (caller.stands new) whole
    (answer_at (caller.site old) (caller.record_in (caller.site old) whole) (start_call it asked))
    (caller.after (caller.site old) whole (start_call it asked)) it asked answer next
start_came {K} caller it old asked answer next new starts whole stands = by_refusal (refusal_of it asked) refl starts
  where
    Came : Type 0
    Came =
        StartCame caller.Whole (caller.stands new) whole
        (answer_at (caller.site old) (caller.record_in (caller.site old) whole) (start_call it asked))
        (caller.after (caller.site old) whole (start_call it asked)) it asked answer next

    by_told : refusal_of it asked ≡ None → (told : Option Answer)
        → MakesOne caller old (start_call it asked) told new → answer ≡ start_told told
        → next ≡ started_then answer it asked.shape → Came
    by_told none None made answer_is next_is =
        Lacked answer_is (next_is ∙ ap (λ (one : StartAnswer). started_then one it asked.shape) answer_is)
        (made.1 whole stands).1
    by_told none (Some said) made answer_is next_is =
        Called none (answer_is ∙ ap (λ (one : Answer). start_told (Some one)) (made.1 whole stands)) next_is
        (made.0.whole whole stands)

    by_refusal : (refusal : Option StartAnswer) → refusal_of it asked ≡ refusal
        → StartWays caller it old asked answer next new refusal → Came
    by_refusal (Some refusal) is refuses =
        Refused refusal is refuses.answer_is refuses.next_is
        (subst (λ (at : K). caller.stands at whole) (sym refuses.same) stands)
    by_refusal None is calls = by_told is calls.told calls.called.made calls.answer_is calls.next_is

-- ---- how far the nodes are then

started_same : (progress : Progress) (it : CollectivesState) (shape : Shape) → progress ≡ progress_of it
    → after_start progress shape ≡ progress_of (started_then start_answers.Started it shape)
started_same progress it shape is =
    ap (λ (one : Progress). after_start one shape) is
    ∙ ap (λ (marks : ℕ → Bool). record (after_start (progress_of it) shape) { sent = marks; exhausted = marks }) (sym none_has)

started_far : (job : EndpointJob) (group : Group) (node : ℕ) (shape : Shape) (from : ℕ) (records : Records)
    (it : CollectivesState) (answer : StartAnswer) → group.progress node ≡ progress_of it
    → (started_group job group node shape from answer records).progress node
    ≡ progress_of (started_then answer it shape)
started_far job group node shape from records it start_answers.Started is =
    put_same group.progress node (after_start (group.progress node) shape)
    ∙ started_same (group.progress node) it shape is
started_far job group node shape from records it start_answers.Busy is = is
started_far job group node shape from records it (start_answers.BadArg argument) is = is
started_far job group node shape from records it start_answers.Exhausted is = is
started_far job group node shape from records it (start_answers.Forbidden forbidden) is = is
started_far job group node shape from records it (start_answers.LockBusy lock) is = is
started_far job group node shape from records it start_answers.NoMemory is = is

started_others : (job : EndpointJob) (group : Group) (node : ℕ) (shape : Shape) (from : ℕ) (records : Records)
    (answer : StartAnswer) (other : ℕ) → other ≢ node
    → (started_group job group node shape from answer records).progress other ≡ group.progress other
started_others job group node shape from records start_answers.Started other apart =
    put_other group.progress node (after_start (group.progress node) shape) other apart
started_others job group node shape from records start_answers.Busy other apart = refl
started_others job group node shape from records (start_answers.BadArg argument) other apart = refl
started_others job group node shape from records start_answers.Exhausted other apart = refl
started_others job group node shape from records (start_answers.Forbidden forbidden) other apart = refl
started_others job group node shape from records (start_answers.LockBusy lock) other apart = refl
started_others job group node shape from records start_answers.NoMemory other apart = refl

pub started_records : (job : EndpointJob) (group : Group) (node : ℕ) (shape : Shape) (from : ℕ) (records : Records)
    (answer : StartAnswer) → (started_group job group node shape from answer records).records ≡ records
started_records job group node shape from records start_answers.Started = refl
started_records job group node shape from records start_answers.Busy = refl
started_records job group node shape from records (start_answers.BadArg argument) = refl
started_records job group node shape from records start_answers.Exhausted = refl
started_records job group node shape from records (start_answers.Forbidden forbidden) = refl
started_records job group node shape from records (start_answers.LockBusy lock) = refl
started_records job group node shape from records start_answers.NoMemory = refl

-- ---- its answer

-- a request that is answered at all doesn't lack memory
never_lacks : (answer : Told) → start_told (Some (asked_answer answer)) ≡ start_answers.NoMemory → ⊥
never_lacks (told.Accepted to slot number) is = cc
never_lacks told.Ran is = cc
never_lacks (told.BadArg part) is = cc
never_lacks (told.Forbidden forbidden) is = cc
never_lacks (told.LockBusy lock) is = cc
never_lacks told.Exhausted is = cc
never_lacks told.NotYet is = cc

does_then : (meaning : Meaning) (old new : GroupState) (area : Area) (group : Group) (most : ℕ → ℕ)
    (event : GroupEvent) (answer : StartAnswer) → (answer ≡ start_answers.NoMemory → StandsFor new area group most)
    → DoesOf meaning old area group most event (OfStart answer) new
    → StartsOf meaning old area group most event answer new
does_then meaning old new area group most event start_answers.Started lacked does = does
does_then meaning old new area group most event start_answers.Busy lacked does = does
does_then meaning old new area group most event (start_answers.BadArg argument) lacked does = does
does_then meaning old new area group most event start_answers.Exhausted lacked does = does
does_then meaning old new area group most event (start_answers.Forbidden forbidden) lacked does = does
does_then meaning old new area group most event (start_answers.LockBusy lock) lacked does = does
does_then meaning old new area group most event start_answers.NoMemory lacked does = lacked refl

-- ---- a start

-- the site of a node of a world
abbrev pub site_in : Meaning → WorldState → (node now : ℕ) → Site
site_in meaning world node now = record {
  settings = world.settings;
  table = world.table;
  meaning = meaning;
  node = node;
  now = now;
}

-- what is known of the node that does something: it is at its place, as far as the group has it
pub record IsNode (meaning : Meaning) (old : GroupState) (node : ℕ) (it : CollectivesState) : Type 0 where
  pub group : IsGroup old.world old.nodes
  pub good : Stands it
  pub low : node < length old.nodes
  pub there : slice_get old.nodes node ≡ Some it

pub node_at : (meaning : Meaning) (old : GroupState) (node now : ℕ) (it : CollectivesState) (area : Area)
    (group : Group) (most : ℕ → ℕ) → IsNode meaning old node it → StandsFor old area group most
    → IsAt (site_in meaning old.world node now) group it
node_at meaning old node now it area group most is stands = record {
  good = is.good;
  settings_are = (is.group.at node it is.there).0;
  me_is = (is.group.at node it is.there).1;
  progress_is = (stands.nodes node it is.there).1;
}

-- the node did something that left the group so
pub left_set : (old : GroupState) (world : WorldState) (node : ℕ) (it next : CollectivesState) (area : Area)
    (group left : Group) (most : ℕ → ℕ) → node < length old.nodes → AreAsFar area group.progress old.nodes
    → next.area ≡ area → WorldStands world left.records most → left.progress node ≡ progress_of next
    → ((other : ℕ) → other ≢ node → left.progress other ≡ group.progress other)
    → StandsFor (record { world = world; nodes = slice_set old.nodes node next }) area left most
left_set old world node it next area group left most low nodes area_is stands far others = record {
  world = stands;
  nodes = far_set area group.progress left.progress old.nodes node next nodes low area_is far others;
}

-- so it does for what an event leaves, by the group and the calls that the event comes to
pub is_left_by : (job : EndpointJob) (area : Area) (group : Group) (most : ℕ → ℕ) (event : GroupEvent)
    (new : GroupState) (left : Group) (calls : List (EventAt OtherCall)) → (group_does job area group event).1 ≡ left
    → calls_of job area group event ≡ calls → StandsFor new area left (most_after job calls group.records most)
    → IsLeft job area group most event new
is_left_by job area group most event new left calls same calls_are stands =
    subst₂ (λ (one : Group) (made : List (EventAt OtherCall)).
    StandsFor new area one (most_after job made group.records most)) (sym same) (sym calls_are) stands

-- ---- the calls of a start

abbrev calls_by : Site → Group → Area → StartAsked → (me : ℕ) → Progress → Option StartAnswer
    → List (EventAt OtherCall)
calls_by site group area asked me progress refusal = elim refusal [
  | Some first ↦ []
  | None ↦ event_of_call site (call_of (start_ask area me asked.thread progress asked.shape asked.from)) ∷ []
]

none_called : (site : Site) (group : Group) (it : CollectivesState) (asked : StartAsked) (refusal : StartAnswer)
    → IsAt site group it → refusal_of it asked ≡ Some refusal
    → calls_of_start (job_at site) it.area group site.now site.node asked.thread asked.shape asked.from ≡ []
none_called site group it asked refusal at is =
    ap (calls_by site group it.area asked site.node (group.progress site.node)) (first_is site group it asked at ∙ is)

one_called : (site : Site) (group : Group) (it : CollectivesState) (asked : StartAsked) → IsAt site group it
    → refusal_of it asked ≡ None
    → calls_of_start (job_at site) it.area group site.now site.node asked.thread asked.shape asked.from
    ≡ event_of_call site (start_call it asked) ∷ []
one_called site group it asked at is =
    ap (calls_by site group it.area asked site.node (group.progress site.node)) (first_is site group it asked at ∙ is)
    ∙ ap₂ (λ (me : ℕ) (progress : Progress). calls_by site group it.area asked me progress None) (sym at.me_is)
    at.progress_is

pub start_done : (meaning : Meaning) (old : GroupState) (world : WorldState) (now node : ℕ)
    (it next : CollectivesState) (asked : StartAsked) (answer : StartAnswer) (group : Group) (most : ℕ → ℕ)
    → IsNode meaning old node it → StandsFor old it.area group most → next.area ≡ it.area
    → StartCame WorldWhole (λ (whole : WorldWhole). WorldStands world whole.records whole.most)
    (record { records = group.records; most = most })
    (answer_at (site_in meaning old.world node now) (group.records node) (start_call it asked))
    (whole_then (site_in meaning old.world node now) (record { records = group.records; most = most })
    (start_call it asked)) it asked answer next
    → StartsOf meaning old it.area group most (Start now node asked.thread asked.shape asked.from) answer
    (record { world = world; nodes = slice_set old.nodes node next })
start_done meaning old world now node it next asked answer group most is stands area_is (Refused refusal first answer_is next_is stood) =
    let site = site_in meaning old.world node now in
    let at = node_at meaning old node now it it.area group most is stands in
    let same = (start_is_of_group site group it asked at).refused refusal first in
    let new : GroupState = record { world = world; nodes = slice_set old.nodes node next } in
    let event = Start now node asked.thread asked.shape asked.from in
    let kept : StandsFor new it.area group most =
    left_set old world node it next it.area group group most is.low stands.nodes area_is stood
    (at.progress_is ∙ ap progress_of (sym next_is)) (λ other apart. refl) in
    does_then meaning old new it.area group most event answer (λ lacked. kept) (
      ap OfStart (answer_is ∙ sym (ap (λ (both : StartAnswer × Group). both.0) same)),
      is_left_by (job_at site) it.area group most event new group []
          (ap (λ (both : StartAnswer × Group). both.1) same) (none_called site group it asked refusal at first) kept,
    )
start_done meaning old world now node it next asked answer group most is stands area_is (Lacked answer_is next_is stood) =
    let at = node_at meaning old node now it it.area group most is stands in
    let new : GroupState = record { world = world; nodes = slice_set old.nodes node next } in
    subst (λ (one : StartAnswer). StartsOf meaning old it.area group most
    (Start now node asked.thread asked.shape asked.from) one new) (sym answer_is)
    (left_set old world node it next it.area group group most is.low stands.nodes area_is stood
    (at.progress_is ∙ ap progress_of (sym next_is)) (λ other apart. refl))
start_done meaning old world now node it next asked answer group most is stands area_is (Called none answer_is next_is stood) =
    let site = site_in meaning old.world node now in
    let at = node_at meaning old node now it it.area group most is stands in
    let whole : WorldWhole = record { records = group.records; most = most } in
    let left = whole_then site whole (start_call it asked) in
    let same = (start_is_of_group site group it asked at).called none in
    let said = start_told (Some (answer_at site (group.records node) (start_call it asked))) in
    let next_group = started_group (job_at site) group node asked.shape asked.from said left.records in
    let new : GroupState = record { world = world; nodes = slice_set old.nodes node next } in
    let event = Start now node asked.thread asked.shape asked.from in
    let of_next : StandsFor new it.area next_group left.most =
    left_set old world node it next it.area group next_group left.most is.low stands.nodes area_is
    (subst (λ (records : Records). WorldStands world records left.most)
    (sym (started_records (job_at site) group node asked.shape asked.from left.records said)) stood)
    (started_far (job_at site) group node asked.shape asked.from left.records it said at.progress_is
    ∙ sym (ap progress_of (next_is ∙ ap (λ (one : StartAnswer). started_then one it asked.shape) answer_is)))
    (started_others (job_at site) group node asked.shape asked.from left.records said) in
    does_then meaning old new it.area group most event answer
    (λ lacked. absurd (never_lacks (asked_in (world_answer (job_at site) group.records (timed_event now (Asks node
    (start_ask it.area it.me asked.thread (progress_of it) asked.shape asked.from)))))
    (sym answer_is ∙ lacked))) (
      ap OfStart (answer_is ∙ sym (ap (λ (both : StartAnswer × Group). both.0) same)),
      is_left_by (job_at site) it.area group most event new next_group
          (event_of_call site (start_call it asked) ∷ []) (ap (λ (both : StartAnswer × Group). both.1) same)
          (one_called site group it asked at none) of_next,
    )

-- the start of a node at a place, of each group for which the code stood
pub start_does : (meaning : Meaning) (old : GroupState) (world : WorldState) (now node place : ℕ)
    (it next : CollectivesState) (asked : StartAsked) (answer : StartAnswer) → IsNode meaning old place it
    → place ≡ node → IsSameNode it next
    → ((group : Group) (most : ℕ → ℕ) → WorldStands old.world group.records most
    → StartCame WorldWhole (λ (whole : WorldWhole). WorldStands world whole.records whole.most)
    (record { records = group.records; most = most })
    (answer_at (site_in meaning old.world node now) (group.records node) (start_call it asked))
    (whole_then (site_in meaning old.world node now) (record { records = group.records; most = most })
    (start_call it asked)) it asked answer next)
    → DoesStart meaning old (Start now node asked.thread asked.shape asked.from) answer
    (record { world = world; nodes = slice_set old.nodes place next })
start_does meaning old world now node place it next asked answer is place_is same came = λ area group most of.
    let area_is : it.area ≡ area = (of.nodes place it is.there).0 in
    let here : IsNode meaning old node it = subst (λ (at : ℕ). IsNode meaning old at it) place_is is in
    let stands : StandsFor old it.area group most =
    subst (λ (one : Area). StandsFor old one group most) (sym area_is) of in
    let event : GroupEvent = Start now node asked.thread asked.shape asked.from in
    subst (λ (one : Area). StartsOf meaning old one group most event answer
    (record { world = world; nodes = slice_set old.nodes place next })) area_is
    (subst (λ (at : ℕ). StartsOf meaning old it.area group most event answer
    (record { world = world; nodes = slice_set old.nodes at next })) (sym place_is)
    (start_done meaning old world now node it next asked answer group most here stands same.area_is
    (came group most stands.world)))
