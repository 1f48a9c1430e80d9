-- A step at a node of a group of the code, as the step of a group.
use Rattle.std.proofs.Common.{◌≡◌, ℕ, zero, suc, ◌+◌, ◌<◌, ◌≤◌, Bool, true, false, List, [], ◌∷◌, length}
use Rattle.std.proofs.Common.{Option, Some, None, refl, sym}
use Rattle.std.proofs.Common.{ap, ap₂, ◌∙◌, subst, arith, length-set}
use Rattle.std.proofs.Common.{inl, inr}
use Rattle.std.specs.Prelude.{◌≢◌, ◌⊎◌, slice_set, if◌then◌else◌}
use Rattle.base_lists.proofs.Put.{put_same, put_other}
use Rattle.wire_message.specs.Parameters.{Parameters}
use Rattle.part_handlers.specs.Runs.{Meaning}
use Rattle.spec_node.specs.declared.answer.Asked.{Asked as Told}
use Rattle.spec_node.specs.declared.answer.Asked.TheVariants as told
use Rattle.spec_network.specs.World.{Asks, EventAt, world_answer, world_after}
use Rattle.spec_network.specs.MostHeld.{most_after}
use Rattle.node_rules.specs.EndpointRules.{OtherCall, Records, asked_answer, timed_event}
use Rattle.node_rules.specs.declared.answer.Answer.{Answer}
use Rattle.law_transfers.specs.Chunks.{EndpointJob}
use Rattle.sim_world.specs.Stands.{WorldStands}
use Rattle.sim_world.specs.WorldState.{WorldState}
use Rattle.node_endpoint.specs.declared.caller.Caller.{Ghosts}
use Rattle.node_endpoint.specs.Making.{MakesOne}
use Rattle.node_endpoint.specs.Sites.{Site, ThreadCall, answer_at, job_at}
use Rattle.sim_world.specs.Wholes.{WorldWhole, event_of_call, records_then, whole_then}
use Rattle.part_collective_area.specs.Area.{Area}
use Rattle.node_collectives.specs.declared.answers.StepAnswer.{StepAnswer}
use Rattle.node_collectives.specs.declared.answers.StepAnswer.TheVariants as step_answers
use Rattle.node_collectives.specs.Progress.{Progress, is_left, is_open, step_ask}
use Rattle.node_collectives.specs.CollectivesState.{CollectivesState, IsSameNode, Stands, progress_of}
use Rattle.node_collectives.specs.Steps.{Rests, Sends, Steps, StepsFrom, after_ask, step_call, step_told}
use Rattle.law_collectives.specs.Groups.{GoesOn, Group, OfStep, Step, StepGoes, Stops, asked_in, does_step, step_from}
use Rattle.law_collectives.specs.Groups.{step_goes, with_progress}
use Rattle.sim_group.specs.GroupState.{GroupState}
use Rattle.sim_group.specs.OfGroups.{IsAt, goes_by}
use Rattle.sim_group.specs.Standing.{DoesOf, DoesStep, IsLeft, StandsFor, StepsOf}
use Rattle.sim_group.specs.CallsOf.{calls_from}
use Rattle.sim_group.proofs.Joined.{step_is_of_group}
use Rattle.sim_group.proofs.Starting.{IsNode, is_left_by, left_set, node_at, site_in}

-- ---- what came of it, of a whole for which the caller stood

-- the step ended so, and the caller stands for this whole
pub record Ended (Whole : Type 0) (stood : Whole → Type 0) (whole : Whole) (end answer : StepAnswer)
    (it next : CollectivesState) : Type 0 where
  pub answer_is : answer ≡ end
  pub next_is : next ≡ it
  pub stood_for : stood whole

-- by what a request was told, and what it left: the step ended with it, or tried the next nodes
abbrev pub ByTold : (Whole : Type 0) → (stood : Whole → Type 0) → (whole : Whole) → (answer : StepAnswer)
    → (it next : CollectivesState) → (later : Type 0) → Option StepAnswer → Type 0
ByTold Whole stood whole answer it next later stop = elim stop [
  | Some end ↦ Ended Whole stood whole end answer it next
  | None ↦ later
]

-- whether a node is left, and was asked: memory ran out, or it was told something
abbrev pub ByLeft : (passed asked : Type 0) → (left : Bool) → Type 0
ByLeft passed asked left = elim left [ false ↦ passed | true ↦ asked ]

-- of this node and the next ones, so many: `told` and `after` are what a call is told in a whole and leaves of it
abbrev pub StepCame : (Whole : Type 0) → (stood : Whole → Type 0) → (told : Whole → ThreadCall → Answer)
    → (after : Whole → ThreadCall → Whole) → (thread to many : ℕ) → Whole → CollectivesState → StepAnswer
    → CollectivesState → Type 0
StepCame Whole stood told after thread to zero whole it answer next =
    Ended Whole stood whole step_answers.Nothing answer it next
StepCame Whole stood told after thread to (suc many) whole it answer next =
    let call = step_call it thread to in
    let said = Some (told whole call) in
    ByLeft (StepCame Whole stood told after thread (suc to) many whole it answer next)
    (Ended Whole stood whole step_answers.NoMemory answer it next
    ⊎ ByTold Whole stood (after whole call) answer (after_ask it to said) next
    (StepCame Whole stood told after thread (suc to) many (after whole call) (after_ask it to said) answer next)
    (step_told to said))
    (is_left it.me to (progress_of it))

-- so it came by the calls of a caller at a site
abbrev pub StepCameAt : {K : Type 0} → (caller : Ghosts K) → Site → (thread to many : ℕ) → (new : K) → caller.Whole
    → CollectivesState → StepAnswer → CollectivesState → Type 0
StepCameAt caller site thread to many new whole it answer next =
    StepCame caller.Whole (caller.stands new)
    (λ (whole : caller.Whole) call. answer_at site (caller.record_in site whole) call)
    (λ (whole : caller.Whole) call. caller.after site whole call) thread to many whole it answer next

-- how a step goes on behind a request, by what that was told
abbrev pub StepRest : {K : Type 0} → (caller : Ghosts K) → (thread to many : ℕ) → CollectivesState → K → StepAnswer
    → CollectivesState → K → Option StepAnswer → Type 0
StepRest caller thread to many after between answer next new stop = elim stop [
  | Some end ↦ Rests after between end answer next new
  | None ↦ StepsFrom caller thread (suc to) many after between answer next new
]

-- what a step does at a node, by whether it is left
abbrev pub StepWays : {K : Type 0} → (caller : Ghosts K) → (thread to many : ℕ) → CollectivesState → K → StepAnswer
    → CollectivesState → K → Bool → Type 0
StepWays {K} caller thread to many it old answer next new left = elim left [
  | false ↦ StepsFrom caller thread (suc to) many it old answer next new
  | true ↦ (stop : Option StepAnswer) × (after : CollectivesState) × (between : K)
      × Sends caller thread to it old stop after between
      × (elim stop [
        | Some end ↦ Rests after between end answer next new
        | None ↦ StepsFrom caller thread (suc to) many after between answer next new
      ])
]

-- what is known of the next nodes
abbrev Again : {K : Type 0} → (caller : Ghosts K) → Site → (thread to many : ℕ) → StepAnswer → CollectivesState → K
    → Type 0
Again {K} caller site thread to many answer next new =
    (it : CollectivesState) (old : K) (whole : caller.Whole) → caller.stands old whole → caller.site old ≡ site
    → StepsFrom caller thread to many it old answer next new
    → StepCameAt caller site thread to many new whole it answer next

-- what comes behind a request that was told this in a whole
abbrev Behind : {K : Type 0} → (caller : Ghosts K) → Site → (thread to many : ℕ) → K → caller.Whole
    → CollectivesState → StepAnswer → CollectivesState → Option StepAnswer → Type 0
Behind caller site thread to many new whole it answer next stop =
    let call = step_call it thread to in
    let said = Some (answer_at site (caller.record_in site whole) call) in
    ByTold caller.Whole (caller.stands new) (caller.after site whole call) answer (after_ask it to said) next
    (StepCameAt caller site thread (suc to) many new (caller.after site whole call) (after_ask it to said) answer next) stop

came_behind : {K : Type 0} (caller : Ghosts K) (site : Site) (thread to many : ℕ) (it : CollectivesState)
    (answer : StepAnswer) (next : CollectivesState) (new : K) (whole : caller.Whole) (between : K)
    → Again caller site thread (suc to) many answer next new → caller.site between ≡ site
    → caller.stands between (caller.after site whole (step_call it thread to)) → (stop : Option StepAnswer)
    → StepRest caller thread to many
    (after_ask it to (Some (answer_at site (caller.record_in site whole) (step_call it thread to)))) between answer next new
    stop
    → Behind caller site thread to many new whole it answer next stop
came_behind {K} caller site thread to many it answer next new whole between again same stood (Some end) rest = record {
  answer_is = rest.answer_is;
  next_is = rest.next_is;
  stood_for = subst (λ (at : K). caller.stands at (caller.after site whole (step_call it thread to))) (sym rest.same)
      stood;
}
came_behind caller site thread to many it answer next new whole between again same stood None rest =
    again (after_ask it to (Some (answer_at site (caller.record_in site whole) (step_call it thread to)))) between
    (caller.after site whole (step_call it thread to)) stood same rest

came_told : {K : Type 0} (caller : Ghosts K) (site : Site) (thread to many : ℕ) (it : CollectivesState) (old : K)
    (answer : StepAnswer) (next : CollectivesState) (new : K) (whole : caller.Whole) (between : K) (one : Option Answer)
    (stop : Option StepAnswer) (after : CollectivesState)
    → Again caller site thread (suc to) many answer next new → caller.stands old whole → caller.site old ≡ site
    → caller.site between ≡ site → MakesOne caller old (step_call it thread to) one between → stop ≡ step_told to one
    → after ≡ after_ask it to one → StepRest caller thread to many after between answer next new stop
    → Ended caller.Whole (caller.stands new) whole step_answers.NoMemory answer it next
    ⊎ Behind caller site thread to many new whole it answer next
    (step_told to (Some (answer_at site (caller.record_in site whole) (step_call it thread to))))
came_told {K} caller site thread to many it old answer next new whole between None stop after again stands same same_between made stop_is after_is rest =
    let rests : Rests it between step_answers.NoMemory answer next new =
    subst (λ (one : CollectivesState). StepRest caller thread to many one between answer next new
    (Some step_answers.NoMemory)) after_is
    (subst (λ (one : Option StepAnswer). StepRest caller thread to many after between answer next new one) stop_is rest) in
    inl (record {
      answer_is = rests.answer_is;
      next_is = rests.next_is;
      stood_for = subst (λ (at : K). caller.stands at whole) (sym rests.same) (made.1 whole stands).1;
    })
came_told {K} caller site thread to many it old answer next new whole between (Some one) stop after again stands same same_between made stop_is after_is rest =
    let call = step_call it thread to in
    let said : Answer = answer_at site (caller.record_in site whole) call in
    let is : one ≡ said =
    subst (λ (at : Site). one ≡ answer_at at (caller.record_in at whole) call) same (made.1 whole stands) in
    let stood : caller.stands between (caller.after site whole call) =
    subst (λ (at : Site). caller.stands between (caller.after at whole call)) same (made.0.whole whole stands) in
    let goes : StepRest caller thread to many (after_ask it to (Some said)) between answer next new
    (step_told to (Some said)) =
    subst (λ (other : CollectivesState). StepRest caller thread to many other between answer next new
    (step_told to (Some said))) (after_is ∙ ap (λ (other : Answer). after_ask it to (Some other)) is)
    (subst (λ (other : Option StepAnswer). StepRest caller thread to many after between answer next new other)
    (stop_is ∙ ap (λ (other : Answer). step_told to (Some other)) is) rest) in
    inr (came_behind caller site thread to many it answer next new whole between again same_between stood
    (step_told to (Some said)) goes)

came_left : {K : Type 0} (caller : Ghosts K) (site : Site) (thread to many : ℕ) (it : CollectivesState) (old : K)
    (answer : StepAnswer) (next : CollectivesState) (new : K) (whole : caller.Whole)
    → Again caller site thread (suc to) many answer next new → caller.stands old whole → caller.site old ≡ site
    → (left : Bool) → StepWays caller thread to many it old answer next new left
    → ByLeft (StepCameAt caller site thread (suc to) many new whole it answer next)
    (Ended caller.Whole (caller.stands new) whole step_answers.NoMemory answer it next
    ⊎ Behind caller site thread to many new whole it answer next
    (step_told to (Some (answer_at site (caller.record_in site whole) (step_call it thread to))))) left
came_left caller site thread to many it old answer next new whole again stands same false rest =
    again it old whole stands same rest
came_left caller site thread to many it old answer next new whole again stands same true rest =
    let sends = rest.3 in
    came_told caller site thread to many it old answer next new whole rest.2 sends.told rest.0 rest.1 again stands same
    (sends.called.site ∙ same) sends.called.made sends.stop_is sends.next_is rest.4

pub step_came : {K : Type 0} (caller : Ghosts K) (site : Site) (thread to many : ℕ) (it : CollectivesState) (old : K)
    (answer : StepAnswer) (next : CollectivesState) (new : K) (whole : caller.Whole) → caller.stands old whole
    → caller.site old ≡ site → StepsFrom caller thread to many it old answer next new
    → StepCameAt caller site thread to many new whole it answer next
step_came {K} caller site thread to zero it old answer next new whole stands same steps = record {
  answer_is = steps.answer_is;
  next_is = steps.next_is;
  stood_for = subst (λ (at : K). caller.stands at whole) (sym steps.same) stands;
}
step_came caller site thread to (suc many) it old answer next new whole stands same steps =
    came_left caller site thread to many it old answer next new whole
    (λ one at there stood same_there rest.
    step_came caller site thread (suc to) many one at answer next new there stood same_there rest)
    stands same (is_left it.me to (progress_of it)) steps

-- ---- the step of the group

-- what it does where the call to a node was answered so
abbrev goes_then : EndpointJob → Area → Group → (now node thread to many : ℕ) → Records → StepGoes → StepAnswer × Group
goes_then job area group now node thread to many records goes = elim goes [
  | Stops answer progress ↦ (answer, with_progress (record group { records = records }) node progress)
  | GoesOn progress ↦ step_from job area (with_progress (record group { records = records }) node progress) now node
      thread (suc to) many
]

asks_left : (job : EndpointJob) (area : Area) (group : Group) (now node thread to many : ℕ)
    → is_left node to (group.progress node) ≡ true
    → let event = timed_event now (Asks node (step_ask area node thread to (group.progress node))) in
    step_from job area group now node thread to (suc many)
    ≡ goes_then job area group now node thread to many (world_after job group.records event)
    (step_goes (group.progress node) to (asked_in (world_answer job group.records event)))
asks_left job area group now node thread to many is = rw is refl

-- and the calls behind it
abbrev calls_then : EndpointJob → Area → Group → (now node thread to many : ℕ) → Records → StepGoes
    → List (EventAt OtherCall)
calls_then job area group now node thread to many records goes = elim goes [
  | Stops answer progress ↦ []
  | GoesOn progress ↦ calls_from job area (with_progress (record group { records = records }) node progress) now node
      thread (suc to) many
]

calls_left : (job : EndpointJob) (area : Area) (group : Group) (now node thread to many : ℕ)
    → is_left node to (group.progress node) ≡ true
    → let event = timed_event now (Asks node (step_ask area node thread to (group.progress node))) in
    calls_from job area group now node thread to (suc many)
    ≡ event ∷ calls_then job area group now node thread to many (world_after job group.records event)
    (step_goes (group.progress node) to (asked_in (world_answer job group.records event)))
calls_left job area group now node thread to many is = rw is refl

passes : (job : EndpointJob) (area : Area) (group : Group) (now node thread to many : ℕ)
    → is_left node to (group.progress node) ≡ false
    → step_from job area group now node thread to (suc many) ≡ step_from job area group now node thread (suc to) many
passes job area group now node thread to many is = rw is refl

none_called : (job : EndpointJob) (area : Area) (group : Group) (now node thread to many : ℕ)
    → is_left node to (group.progress node) ≡ false
    → calls_from job area group now node thread to (suc many) ≡ calls_from job area group now node thread (suc to) many
none_called job area group now node thread to many is = rw is refl

-- ---- a request that is answered

-- it doesn't lack memory
never_lacks : (to : ℕ) (answer : Told) (end : StepAnswer) → step_told to (Some (asked_answer answer)) ≡ Some end
    → end ≡ step_answers.NoMemory → ⊥
never_lacks to (told.Accepted there slot number) end is lacks = cc
never_lacks to told.Ran end is lacks = cc
never_lacks to (told.BadArg part) end is lacks = cc
never_lacks to (told.Forbidden forbidden) end is lacks = cc
never_lacks to (told.LockBusy lock) end is lacks = cc
never_lacks to told.Exhausted end is lacks = cc
never_lacks to told.NotYet end is lacks = cc

-- what is noted then stands
with_marks : (it : CollectivesState) (sent exhausted : List Bool) → Stands it → length sent ≡ 256 → length exhausted ≡ 256
    → Stands (record it { sent = sent; exhausted = exhausted })
with_marks it sent exhausted good sent_long exhausted_long = record {
  there = good.there;
  nodes = good.nodes;
  few_nodes = good.few_nodes;
  small = good.small;
  area_good = good.area_good;
  ended = good.ended;
  started = good.started;
  count = good.count;
  shape_good = good.shape_good;
  sent_long = sent_long;
  exhausted_long = exhausted_long;
}

noted_stands : (it : CollectivesState) (to : ℕ) (answer : Told) → Stands it
    → Stands (after_ask it to (Some (asked_answer answer)))
noted_stands it to (told.Accepted there slot number) good =
    with_marks it (slice_set it.sent to true) it.exhausted good (length-set it.sent to true ∙ good.sent_long) good.exhausted_long
noted_stands it to (told.Forbidden forbidden) good = good
noted_stands it to told.Exhausted good =
    with_marks it it.sent (slice_set it.exhausted to true) good good.sent_long (length-set it.exhausted to true ∙ good.exhausted_long)
noted_stands it to told.Ran good =
    with_marks it it.sent (slice_set it.exhausted to false) good good.sent_long (length-set it.exhausted to false ∙ good.exhausted_long)
noted_stands it to (told.BadArg part) good =
    with_marks it it.sent (slice_set it.exhausted to false) good good.sent_long (length-set it.exhausted to false ∙ good.exhausted_long)
noted_stands it to (told.LockBusy lock) good =
    with_marks it it.sent (slice_set it.exhausted to false) good good.sent_long (length-set it.exhausted to false ∙ good.exhausted_long)
noted_stands it to told.NotYet good =
    with_marks it it.sent (slice_set it.exhausted to false) good good.sent_long (length-set it.exhausted to false ∙ good.exhausted_long)

-- ---- both, from a node on

-- the caller stands for this group, in which only the node went on, as far as it is next
record Left (site : Site) (stood : WorldWhole → Type 0) (group left : Group) (most : ℕ → ℕ) (next : CollectivesState)
    : Type 0 where
  stood_for : stood (record { records = left.records; most = most })
  far : left.progress site.node ≡ progress_of next
  others : (other : ℕ) → other ≢ site.node → left.progress other ≡ group.progress other

-- what the group's step of so many nodes is answered and leaves, and what its nodes held at most by then
record Trying : Type 0 where
  does : StepAnswer × Group
  most : ℕ → ℕ

abbrev trying : StepAnswer × Group → (ℕ → ℕ) → Trying
trying does most = record { does = does; most = most }

-- the group's step of so many nodes ended so, or memory ran out behind some of them
data StepLeft (site : Site) (stood : WorldWhole → Type 0) (group : Group) (tries : ℕ → Trying) (many : ℕ)
    (answer : StepAnswer) (next : CollectivesState) : Type 0 where
  Lacked : answer ≡ step_answers.NoMemory → (among : ℕ) → among ≤ many
      → Left site stood group (tries among).does.1 (tries among).most next
      → StepLeft site stood group tries many answer next
  Done : (answer ≡ step_answers.NoMemory → ⊥) → answer ≡ (tries many).does.0
      → Left site stood group (tries many).does.1 (tries many).most next
      → StepLeft site stood group tries many answer next

-- from this node on, of a group whose nodes held at most so much
abbrev tries_from : Site → Area → Group → (most : ℕ → ℕ) → (thread to among : ℕ) → Trying
tries_from site area group most thread to among =
    trying (step_from (job_at site) area group site.now site.node thread to among)
    (most_after (job_at site) (calls_from (job_at site) area group site.now site.node thread to among) group.records
    most)

-- the same answer and group by the same calls
same_tries : (does other : StepAnswer × Group) (calls later : List (EventAt OtherCall)) (job : EndpointJob)
    (records : Records) (most : ℕ → ℕ) → does ≡ other → calls ≡ later
    → trying does (most_after job calls records most) ≡ trying other (most_after job later records most)
same_tries does other calls later job records most same calls_are =
    ap₂ (λ (one : StepAnswer × Group) (made : List (EventAt OtherCall)). trying one (most_after job made records most)) same
    calls_are

-- the caller stands for the group that a step leaves which is the same
left_same : (site : Site) (stood : WorldWhole → Type 0) (group between : Group) (one other : Trying)
    (next : CollectivesState) → one ≡ other
    → ((node : ℕ) → node ≢ site.node → between.progress node ≡ group.progress node)
    → Left site stood between other.does.1 other.most next → Left site stood group one.does.1 one.most next
left_same site stood group between one other next same others left = record {
  stood_for = subst (λ (it : Trying). stood (record { records = it.does.1.records; most = it.most })) (sym same)
      left.stood_for;
  far = ap (λ (it : Trying). it.does.1.progress site.node) same ∙ left.far;
  others = λ node apart.
      ap (λ (it : Trying). it.does.1.progress node) same ∙ (left.others node apart ∙ others node apart);
}

-- one node more, at which the group's step goes on so
one_more : (site : Site) (stood : WorldWhole → Type 0) (group between : Group) (tries later : ℕ → Trying)
    (many : ℕ) (answer : StepAnswer) (next : CollectivesState) → ((among : ℕ) → tries (suc among) ≡ later among)
    → ((other : ℕ) → other ≢ site.node → between.progress other ≡ group.progress other)
    → StepLeft site stood between later many answer next → StepLeft site stood group tries (suc many) answer next
one_more site stood group between tries later many answer next same others (Lacked lacks among low left) =
    Lacked lacks (suc among) (omega (arith, low))
    (left_same site stood group between (tries (suc among)) (later among) next (same among) others left)
one_more site stood group between tries later many answer next same others (Done has answer_is left) =
    Done has (answer_is ∙ sym (ap (λ (it : Trying). it.does.0) (same many)))
    (left_same site stood group between (tries (suc many)) (later many) next (same many) others left)

-- what came at a node of a world
abbrev pub CameAt : Site → (stood : WorldWhole → Type 0) → (thread to many : ℕ) → WorldWhole → CollectivesState
    → StepAnswer → CollectivesState → Type 0
CameAt site stood thread to many whole it answer next =
    StepCame WorldWhole stood (λ (whole : WorldWhole) call. answer_at site (whole.records site.node) call)
    (λ (whole : WorldWhole) call. whole_then site whole call) thread to many whole it answer next

-- what is known of the next nodes
abbrev DoneAgain : Site → (stood : WorldWhole → Type 0) → (thread to many : ℕ) → StepAnswer → CollectivesState
    → CollectivesState → Type 0
DoneAgain site stood thread to many answer next it =
    (group : Group) (most : ℕ → ℕ) → IsAt site group it
    → CameAt site stood thread to many (record { records = group.records; most = most }) it answer next
    → StepLeft site stood group (tries_from site it.area group most thread to) many answer next

same_left : (site : Site) (group : Group) (it : CollectivesState) (to : ℕ) → IsAt site group it
    → is_left site.node to (group.progress site.node) ≡ is_left it.me to (progress_of it)
same_left site group it to at =
    ap₂ (λ (me : ℕ) (progress : Progress). is_left me to progress) (sym at.me_is) at.progress_is

-- what the request to a node is told, by the records of the group
abbrev said_in : Site → Group → CollectivesState → (thread to : ℕ) → Option Answer
said_in site group it thread to = Some (answer_at site (group.records site.node) (step_call it thread to))

-- and as the records have it
abbrev told_in : Site → Group → CollectivesState → (thread to : ℕ) → Told
told_in site group it thread to =
    asked_in (world_answer (job_at site) group.records (timed_event site.now (Asks site.node
    (step_ask it.area it.me thread to (progress_of it)))))

-- the group behind that request
abbrev behind : Site → Group → CollectivesState → (thread to : ℕ) → Group
behind site group it thread to =
    with_progress (record group { records = records_then site group.records (step_call it thread to) }) site.node
    (progress_of (after_ask it to (said_in site group it thread to)))

-- all that it leaves
abbrev left_whole : Site → Group → (ℕ → ℕ) → CollectivesState → (thread to : ℕ) → WorldWhole
left_whole site group most it thread to =
    whole_then site (record { records = group.records; most = most }) (step_call it thread to)

goes_so : (site : Site) (group : Group) (it : CollectivesState) (thread to among : ℕ) (stop : Option StepAnswer)
    → IsAt site group it → to < it.settings.nodes → is_left it.me to (progress_of it) ≡ true
    → step_told to (said_in site group it thread to) ≡ stop
    → step_from (job_at site) it.area group site.now site.node thread to (suc among)
    ≡ goes_then (job_at site) it.area group site.now site.node thread to among
    (records_then site group.records (step_call it thread to))
    (goes_by stop (progress_of (after_ask it to (said_in site group it thread to))))
goes_so site group it thread to among stop at low left stop_is =
    let is = step_is_of_group site group it thread to at low in
    asks_left (job_at site) it.area group site.now site.node thread to among (same_left site group it to at ∙ left)
    ∙ (ap₂ (λ (records : Records) (goes : StepGoes). goes_then (job_at site) it.area group site.now site.node thread to
    among records goes) (sym is.event) is.goes
    ∙ ap (λ (one : Option StepAnswer). goes_then (job_at site) it.area group site.now site.node thread to among
    (records_then site group.records (step_call it thread to))
    (goes_by one (progress_of (after_ask it to (said_in site group it thread to))))) stop_is)

-- its calls, as those of the group
first_call : (site : Site) (group : Group) (it : CollectivesState) (thread to : ℕ) → IsAt site group it
    → timed_event site.now (Asks site.node (step_ask it.area site.node thread to (group.progress site.node)))
    ≡ event_of_call site (step_call it thread to)
first_call site group it thread to at =
    ap₂ (λ (me : ℕ) (progress : Progress). timed_event site.now (Asks site.node (step_ask it.area me thread to progress)))
    (sym at.me_is) at.progress_is

calls_so : (site : Site) (group : Group) (it : CollectivesState) (thread to among : ℕ) (stop : Option StepAnswer)
    → IsAt site group it → to < it.settings.nodes → is_left it.me to (progress_of it) ≡ true
    → step_told to (said_in site group it thread to) ≡ stop
    → calls_from (job_at site) it.area group site.now site.node thread to (suc among)
    ≡ event_of_call site (step_call it thread to) ∷ calls_then (job_at site) it.area group site.now site.node thread to
    among (records_then site group.records (step_call it thread to))
    (goes_by stop (progress_of (after_ask it to (said_in site group it thread to))))
calls_so site group it thread to among stop at low left stop_is =
    let is = step_is_of_group site group it thread to at low in
    calls_left (job_at site) it.area group site.now site.node thread to among (same_left site group it to at ∙ left)
    ∙ ap₂ (λ (one : EventAt OtherCall) (later : List (EventAt OtherCall)). one ∷ later) (first_call site group it thread to at)
    (ap₂ (λ (records : Records) (goes : StepGoes). calls_then (job_at site) it.area group site.now site.node thread to
    among records goes) (sym is.event) is.goes
    ∙ ap (λ (one : Option StepAnswer). calls_then (job_at site) it.area group site.now site.node thread to among
    (records_then site group.records (step_call it thread to))
    (goes_by one (progress_of (after_ask it to (said_in site group it thread to))))) stop_is)

behind_at : (site : Site) (group : Group) (it : CollectivesState) (thread to : ℕ) → IsAt site group it
    → IsAt site (behind site group it thread to) (after_ask it to (said_in site group it thread to))
behind_at site group it thread to at = record {
  good = noted_stands it to (told_in site group it thread to) at.good;
  settings_are = at.settings_are;
  me_is = at.me_is;
  progress_is = put_same group.progress site.node (progress_of (after_ask it to (said_in site group it thread to)));
}

behind_others : (site : Site) (group : Group) (it : CollectivesState) (thread to other : ℕ) → other ≢ site.node
    → (behind site group it thread to).progress other ≡ group.progress other
behind_others site group it thread to other apart =
    put_other group.progress site.node (progress_of (after_ask it to (said_in site group it thread to))) other apart

done_behind : (site : Site) (stood : WorldWhole → Type 0) (thread to many : ℕ) (group : Group) (most : ℕ → ℕ)
    (it : CollectivesState) (answer : StepAnswer) (next : CollectivesState) (stop : Option StepAnswer)
    → DoneAgain site stood thread (suc to) many answer next (after_ask it to (said_in site group it thread to))
    → IsAt site group it → to < it.settings.nodes → is_left it.me to (progress_of it) ≡ true
    → step_told to (said_in site group it thread to) ≡ stop
    → ByTold WorldWhole stood (left_whole site group most it thread to) answer
    (after_ask it to (said_in site group it thread to)) next
    (CameAt site stood thread (suc to) many (left_whole site group most it thread to)
    (after_ask it to (said_in site group it thread to)) answer next) stop
    → StepLeft site stood group (tries_from site it.area group most thread to) (suc many) answer next
done_behind site stood thread to many group most it answer next (Some end) again at low left is ended =
    let call = event_of_call site (step_call it thread to) in
    let same : tries_from site it.area group most thread to (suc many)
    ≡ trying (end, behind site group it thread to) (most_after (job_at site) (call ∷ []) group.records most) =
    same_tries _ _ _ (call ∷ []) (job_at site) group.records most
    (goes_so site group it thread to many (Some end) at low left is)
    (calls_so site group it thread to many (Some end) at low left is) in
    Done (λ lacks. never_lacks to (told_in site group it thread to) end is (sym ended.answer_is ∙ lacks))
    (ended.answer_is ∙ sym (ap (λ (one : Trying). one.does.0) same))
    (left_same site stood group (behind site group it thread to) _ _ next same
    (λ other apart. behind_others site group it thread to other apart) (record {
      stood_for = ended.stood_for;
      far = (behind_at site group it thread to at).progress_is ∙ ap progress_of (sym ended.next_is);
      others = λ other apart. refl;
    }))
done_behind site stood thread to many group most it answer next None again at low left is later =
    one_more site stood group (behind site group it thread to) (tries_from site it.area group most thread to)
    (tries_from site it.area (behind site group it thread to) (left_whole site group most it thread to).most thread
    (suc to)) many answer next
    (λ among. same_tries _ _ _ (event_of_call site (step_call it thread to)
    ∷ calls_from (job_at site) it.area (behind site group it thread to) site.now site.node thread (suc to) among)
    (job_at site) group.records most (goes_so site group it thread to among None at low left is)
    (calls_so site group it thread to among None at low left is))
    (λ other apart. behind_others site group it thread to other apart)
    (again (behind site group it thread to) (left_whole site group most it thread to).most
    (behind_at site group it thread to at) later)

done_left : (site : Site) (stood : WorldWhole → Type 0) (thread to many : ℕ) (group : Group) (most : ℕ → ℕ)
    (it : CollectivesState) (answer : StepAnswer) (next : CollectivesState) (left : Bool)
    → ((one : CollectivesState) → one.settings ≡ it.settings
    → DoneAgain site stood thread (suc to) many answer next one)
    → IsAt site group it → to < it.settings.nodes → is_left it.me to (progress_of it) ≡ left
    → ByLeft (CameAt site stood thread (suc to) many (record { records = group.records; most = most }) it answer next)
    (Ended WorldWhole stood (record { records = group.records; most = most }) step_answers.NoMemory answer it next
    ⊎ ByTold WorldWhole stood (left_whole site group most it thread to) answer
    (after_ask it to (said_in site group it thread to)) next
    (CameAt site stood thread (suc to) many (left_whole site group most it thread to)
    (after_ask it to (said_in site group it thread to)) answer next) (step_told to (said_in site group it thread to))) left
    → StepLeft site stood group (tries_from site it.area group most thread to) (suc many) answer next
done_left site stood thread to many group most it answer next false again at low is passed =
    let left = same_left site group it to at ∙ is in
    one_more site stood group group (tries_from site it.area group most thread to)
    (tries_from site it.area group most thread (suc to)) many answer next
    (λ among. same_tries _ _ _ _ (job_at site) group.records most
    (passes (job_at site) it.area group site.now site.node thread to among left)
    (none_called (job_at site) it.area group site.now site.node thread to among left))
    (λ other apart. refl) (again it refl group most at passed)
done_left site stood thread to many group most it answer next true again at low is (inl lacked) =
    Lacked lacked.answer_is 0 (omega arith) (record {
      stood_for = lacked.stood_for;
      far = at.progress_is ∙ ap progress_of (sym lacked.next_is);
      others = λ other apart. refl;
    })
done_left site stood thread to many group most it answer next true again at low is (inr goes) =
    done_behind site stood thread to many group most it answer next (step_told to (said_in site group it thread to))
    (again (after_ask it to (said_in site group it thread to)) refl) at low is refl goes

nothing_lacks : step_answers.Nothing ≡ step_answers.NoMemory → ⊥
nothing_lacks is = cc

from_done : (site : Site) (stood : WorldWhole → Type 0) (thread to many : ℕ) (group : Group) (most : ℕ → ℕ)
    (it : CollectivesState) (answer : StepAnswer) (next : CollectivesState) → IsAt site group it
    → to + many ≤ it.settings.nodes
    → CameAt site stood thread to many (record { records = group.records; most = most }) it answer next
    → StepLeft site stood group (tries_from site it.area group most thread to) many answer next
from_done site stood thread to zero group most it answer next at low came =
    Done (λ lacks. nothing_lacks (sym came.answer_is ∙ lacks)) came.answer_is (record {
      stood_for = came.stood_for;
      far = at.progress_is ∙ ap progress_of (sym came.next_is);
      others = λ other apart. refl;
    })
from_done site stood thread to (suc many) group most it answer next at low came =
    done_left site stood thread to many group most it answer next (is_left it.me to (progress_of it))
    (λ one same other_group other_most other_at other_came.
    from_done site stood thread (suc to) many other_group other_most one answer next other_at
    (let nodes : one.settings.nodes ≡ it.settings.nodes = ap (λ (settings : Parameters). settings.nodes) same in
    omega (arith, low, nodes)) other_came)
    at (omega (arith, low)) refl came

-- ---- a step

-- what came of a whole step
abbrev pub WholeStep : Site → (stood : WorldWhole → Type 0) → (thread : ℕ) → WorldWhole → CollectivesState
    → StepAnswer → CollectivesState → Type 0
WholeStep site stood thread whole it answer next = elim (is_open (progress_of it)) [
  | true ↦ CameAt site stood thread 0 it.area.nodes whole it answer next
  | false ↦ Ended WorldWhole stood whole step_answers.Nothing answer it next
]

step_then : (meaning : Meaning) (old new : GroupState) (area : Area) (group : Group) (most : ℕ → ℕ)
    (now node thread : ℕ) (answer : StepAnswer) → (answer ≡ step_answers.NoMemory → ⊥)
    → DoesOf meaning old area group most (Step now node thread old.world.settings.nodes) (OfStep answer) new
    → StepsOf meaning old area group most (Step now node thread) answer new
step_then meaning old new area group most now node thread (step_answers.Sent to) has does = does
step_then meaning old new area group most now node thread step_answers.Nothing has does = does
step_then meaning old new area group most now node thread (step_answers.Forbidden forbidden) has does = does
step_then meaning old new area group most now node thread step_answers.NoMemory has does = absurd (has refl)

-- where no phase is open, or one is
abbrev OpenOrShut : Site → (stood : WorldWhole → Type 0) → (thread : ℕ) → WorldWhole → CollectivesState → StepAnswer
    → CollectivesState → Bool → Type 0
OpenOrShut site stood thread whole it answer next open_now = elim open_now [
  | true ↦ CameAt site stood thread 0 it.area.nodes whole it answer next
  | false ↦ Ended WorldWhole stood whole step_answers.Nothing answer it next
]

abbrev does_by : Site → Area → Group → (thread among : ℕ) → Bool → StepAnswer × Group
does_by site area group thread among open_now =
    if open_now then step_from (job_at site) area group site.now site.node thread 0 among
    else (step_answers.Nothing, group)

-- the calls of a step, by whether a phase is open
abbrev called_by : Site → Area → Group → (thread among : ℕ) → Bool → List (EventAt OtherCall)
called_by site area group thread among open_now =
    if open_now then calls_from (job_at site) area group site.now site.node thread 0 among else []

-- the step of so many nodes, where a phase is open
tries_open : (site : Site) (area : Area) (group : Group) (most : ℕ → ℕ) (thread among : ℕ) (new : GroupState)
    → is_open (group.progress site.node) ≡ true
    → StandsFor new area (tries_from site area group most thread 0 among).does.1
    (tries_from site area group most thread 0 among).most
    → IsLeft (job_at site) area group most (Step site.now site.node thread among) new
tries_open site area group most thread among new opened stands =
    is_left_by (job_at site) area group most (Step site.now site.node thread among) new
    (tries_from site area group most thread 0 among).does.1
    (calls_from (job_at site) area group site.now site.node thread 0 among)
    (ap (λ (both : StepAnswer × Group). both.1) (ap (does_by site area group thread among) opened))
    (ap (called_by site area group thread among) opened) stands

step_left : (meaning : Meaning) (old : GroupState) (world : WorldState) (now node thread : ℕ)
    (it next : CollectivesState) (answer : StepAnswer) (group : Group) (most : ℕ → ℕ) → IsNode meaning old node it
    → StandsFor old it.area group most → next.area ≡ it.area → is_open (progress_of it) ≡ true
    → StepLeft (site_in meaning old.world node now)
    (λ (whole : WorldWhole). WorldStands world whole.records whole.most) group
    (tries_from (site_in meaning old.world node now) it.area group most thread 0) it.area.nodes answer next
    → StepsOf meaning old it.area group most (Step now node thread) answer
    (record { world = world; nodes = slice_set old.nodes node next })
step_left meaning old world now node thread it next answer group most is stands area_is opened (Lacked lacks among low left) =
    let site = site_in meaning old.world node now in
    let at = node_at meaning old node now it it.area group most is stands in
    let nodes : it.area.nodes ≡ old.world.settings.nodes =
    at.good.nodes ∙ ap (λ (settings : Parameters). settings.nodes) at.settings_are in
    let new : GroupState = record { world = world; nodes = slice_set old.nodes node next } in
    subst (λ (one : StepAnswer). StepsOf meaning old it.area group most (Step now node thread) one new) (sym lacks) (
      among,
      omega (arith, low, nodes),
      tries_open site it.area group most thread among new (ap is_open at.progress_is ∙ opened)
          (left_set old world node it next it.area group (tries_from site it.area group most thread 0 among).does.1
          (tries_from site it.area group most thread 0 among).most is.low stands.nodes area_is left.stood_for left.far
          left.others),
    )
step_left meaning old world now node thread it next answer group most is stands area_is opened (Done has answer_is left) =
    let site = site_in meaning old.world node now in
    let at = node_at meaning old node now it it.area group most is stands in
    let nodes : it.area.nodes ≡ old.world.settings.nodes =
    at.good.nodes ∙ ap (λ (settings : Parameters). settings.nodes) at.settings_are in
    let new : GroupState = record { world = world; nodes = slice_set old.nodes node next } in
    let open_now = ap is_open at.progress_is ∙ opened in
    let here : StandsFor new it.area (tries_from site it.area group most thread 0 it.area.nodes).does.1
    (tries_from site it.area group most thread 0 it.area.nodes).most =
    left_set old world node it next it.area group (tries_from site it.area group most thread 0 it.area.nodes).does.1
    (tries_from site it.area group most thread 0 it.area.nodes).most is.low stands.nodes area_is left.stood_for left.far
    left.others in
    step_then meaning old new it.area group most now node thread answer has
    (subst (λ (many : ℕ). DoesOf meaning old it.area group most (Step now node thread many) (OfStep answer) new) nodes (
      ap OfStep (answer_is
          ∙ sym (ap (λ (both : StepAnswer × Group). both.0) (ap (does_by site it.area group thread it.area.nodes) open_now))),
      tries_open site it.area group most thread it.area.nodes new open_now here,
    ))

step_by : (meaning : Meaning) (old : GroupState) (world : WorldState) (now node thread : ℕ)
    (it next : CollectivesState) (answer : StepAnswer) (group : Group) (most : ℕ → ℕ) (open_now : Bool)
    → IsNode meaning old node it → StandsFor old it.area group most → next.area ≡ it.area
    → is_open (progress_of it) ≡ open_now
    → OpenOrShut (site_in meaning old.world node now)
    (λ (whole : WorldWhole). WorldStands world whole.records whole.most) thread
    (record { records = group.records; most = most }) it answer next open_now
    → StepsOf meaning old it.area group most (Step now node thread) answer
    (record { world = world; nodes = slice_set old.nodes node next })
step_by meaning old world now node thread it next answer group most true is stands area_is opened came =
    let at = node_at meaning old node now it it.area group most is stands in
    step_left meaning old world now node thread it next answer group most is stands area_is opened
    (from_done (site_in meaning old.world node now)
    (λ (whole : WorldWhole). WorldStands world whole.records whole.most) thread 0 it.area.nodes group most it answer next
    at (let same = at.good.nodes in omega (arith, same)) came)
step_by meaning old world now node thread it next answer group most false is stands area_is shut ended =
    let site = site_in meaning old.world node now in
    let at = node_at meaning old node now it it.area group most is stands in
    let new : GroupState = record { world = world; nodes = slice_set old.nodes node next } in
    let many = old.world.settings.nodes in
    let none = ap is_open at.progress_is ∙ shut in
    let same : does_step (job_at site) it.area group now node thread many ≡ (step_answers.Nothing, group) =
    ap (does_by site it.area group thread many) none in
    step_then meaning old new it.area group most now node thread answer
    (λ lacks. nothing_lacks (sym ended.answer_is ∙ lacks)) (
      ap OfStep (ended.answer_is ∙ sym (ap (λ (both : StepAnswer × Group). both.0) same)),
      is_left_by (job_at site) it.area group most (Step now node thread many) new group []
          (ap (λ (both : StepAnswer × Group). both.1) same) (ap (called_by site it.area group thread many) none)
          (left_set old world node it next it.area group group most is.low stands.nodes area_is ended.stood_for
          (at.progress_is ∙ ap progress_of (sym ended.next_is)) (λ other apart. refl)),
    )

pub step_done : (meaning : Meaning) (old : GroupState) (world : WorldState) (now node thread : ℕ)
    (it next : CollectivesState) (answer : StepAnswer) (group : Group) (most : ℕ → ℕ)
    → IsNode meaning old node it → StandsFor old it.area group most → next.area ≡ it.area
    → WholeStep (site_in meaning old.world node now)
    (λ (whole : WorldWhole). WorldStands world whole.records whole.most) thread
    (record { records = group.records; most = most }) it answer next
    → StepsOf meaning old it.area group most (Step now node thread) answer
    (record { world = world; nodes = slice_set old.nodes node next })
step_done meaning old world now node thread it next answer group most is stands area_is came =
    step_by meaning old world now node thread it next answer group most (is_open (progress_of it)) is stands area_is refl
    came

-- a whole step of a caller, by whether a phase is open
abbrev pub StepsIf : {K : Type 0} → (caller : Ghosts K) → (thread : ℕ) → CollectivesState → K → StepAnswer
    → CollectivesState → K → Bool → Type 0
StepsIf caller thread it old answer next new open_now = elim open_now [
  | true ↦ StepsFrom caller thread 0 it.area.nodes it old answer next new
  | false ↦ Rests it old step_answers.Nothing answer next new
]

abbrev pub CameIf : {K : Type 0} → (caller : Ghosts K) → Site → (thread : ℕ) → K → caller.Whole → CollectivesState
    → StepAnswer → CollectivesState → Bool → Type 0
CameIf caller site thread new whole it answer next open_now = elim open_now [
  | true ↦ StepCameAt caller site thread 0 it.area.nodes new whole it answer next
  | false ↦ Ended caller.Whole (caller.stands new) whole step_answers.Nothing answer it next
]

came_if : {K : Type 0} (caller : Ghosts K) (site : Site) (thread : ℕ) (it : CollectivesState) (old : K)
    (answer : StepAnswer) (next : CollectivesState) (new : K) (whole : caller.Whole) (open_now : Bool)
    → caller.stands old whole → caller.site old ≡ site → StepsIf caller thread it old answer next new open_now
    → CameIf caller site thread new whole it answer next open_now
came_if caller site thread it old answer next new whole true stands same steps =
    step_came caller site thread 0 it.area.nodes it old answer next new whole stands same steps
came_if {K} caller site thread it old answer next new whole false stands same rests = record {
  answer_is = rests.answer_is;
  next_is = rests.next_is;
  stood_for = subst (λ (at : K). caller.stands at whole) (sym rests.same) stands;
}

-- what came of a whole step, by the calls of a caller
pub steps_came : {K : Type 0} (caller : Ghosts K) (site : Site) (thread : ℕ) (it : CollectivesState) (old : K)
    (answer : StepAnswer) (next : CollectivesState) (new : K) → Steps caller thread it old answer next new
    → (whole : caller.Whole) → caller.stands old whole → caller.site old ≡ site
    → CameIf caller site thread new whole it answer next (is_open (progress_of it))
steps_came caller site thread it old answer next new steps whole stands same =
    came_if caller site thread it old answer next new whole (is_open (progress_of it)) stands same steps

-- the step of a node at a place, of each group for which the code stood
pub step_does : (meaning : Meaning) (old : GroupState) (world : WorldState) (now node place thread : ℕ)
    (it next : CollectivesState) (answer : StepAnswer) → IsNode meaning old place it → place ≡ node
    → IsSameNode it next
    → ((group : Group) (most : ℕ → ℕ) → WorldStands old.world group.records most
    → WholeStep (site_in meaning old.world node now)
    (λ (whole : WorldWhole). WorldStands world whole.records whole.most) thread
    (record { records = group.records; most = most }) it answer next)
    → DoesStep meaning old (Step now node thread) answer
    (record { world = world; nodes = slice_set old.nodes place next })
step_does meaning old world now node place thread it next answer is place_is same came = λ area group most of.
    let area_is : it.area ≡ area = (of.nodes place it is.there).0 in
    let here : IsNode meaning old node it = subst (λ (at : ℕ). IsNode meaning old at it) place_is is in
    let stands : StandsFor old it.area group most =
    subst (λ (one : Area). StandsFor old one group most) (sym area_is) of in
    subst (λ (one : Area). StepsOf meaning old one group most (Step now node thread) answer
    (record { world = world; nodes = slice_set old.nodes place next })) area_is
    (subst (λ (at : ℕ). StepsOf meaning old it.area group most (Step now node thread) answer
    (record { world = world; nodes = slice_set old.nodes at next })) (sym place_is)
    (step_done meaning old world now node thread it next answer group most here stands same.area_is
    (came group most stands.world)))
