-- A try to end at a node of a world, as that of a group.
use Rattle.std.proofs.Common.{◌≡◌, ℕ, List, [], ◌∷◌, map, Option, Some, None, refl, sym, ap, ap₂, ◌∙◌}
use Rattle.std.specs.Prelude.{◌≢◌, Result, Ok, Err}
use Rattle.base_lists.proofs.Put.{put_same, put_other}
use Rattle.wire_message.specs.Parameters.{Parameters}
use Rattle.part_segment.specs.Image.{Write}
use Rattle.part_handlers.specs.declared.rules.Forbidden.{Forbidden}
use Rattle.spec_node.specs.NodeStep.{OfCall}
use Rattle.node_core.specs.Kept.{Local}
use Rattle.node_core.specs.ClientRules.{rules}
use Rattle.spec_network.specs.World.{Does, OfNode, EventAt, run, world_after, world_answer}
use Rattle.node_rules.specs.CoreCalls.{Poll, if_allowed}
use Rattle.node_rules.specs.EndpointRules.{OnCore, OtherCall, Records, timed_event}
use Rattle.node_rules.specs.declared.answer.Answer.TheVariants as answers
use Rattle.node_endpoint.specs.Sites.{Site, job_at}
use Rattle.sim_world.specs.Wholes.{events_of}
use Rattle.part_collective_area.specs.Results.{pieces_of}
use Rattle.node_collectives.specs.declared.answers.EndAnswer.{EndAnswer}
use Rattle.node_collectives.specs.declared.answers.EndAnswer.TheVariants as end_answers
use Rattle.node_collectives.specs.Progress.{Progress, after_end, data_of_all, end_answer, end_refusal, writes_from}
use Rattle.node_collectives.specs.CollectivesState.{CollectivesState, progress_of}
use Rattle.node_collectives.specs.Ends.{EndAsked, end_calls, end_told, ended_then, result_in, segment_in, set_call}
use Rattle.node_collectives.specs.Ends.{tried_answer}
use Rattle.law_collectives.specs.Groups.{Group, after_writes, does_end, end_by, ended_group, result_pieces, write_event}
use Rattle.sim_group.specs.CallsOf.{calls_behind, calls_of_end}
use Rattle.part_collective_area.specs.Area.{Area}
use Rattle.law_collectives.proofs.Tried.{tries_by}
use Rattle.sim_group.specs.OfGroups.{IsAt, EndIsOfGroup}

-- the records that its poll leaves
abbrev polled : Site → Group → EndAsked → Records
polled site group asked =
    world_after (job_at site) group.records (timed_event site.now (Does site.node asked.thread (OnCore Poll)))

first_is : (site : Site) (group : Group) (it : CollectivesState) (asked : EndAsked) → IsAt site group it
    → end_refusal it.area site.settings.segment site.node (group.progress site.node) asked.dest
    ≡ end_refusal it.area it.settings.segment it.me (progress_of it) asked.dest
first_is site group it asked at =
    ap (λ (size : ℕ). end_refusal it.area size site.node (group.progress site.node) asked.dest)
    (ap (λ (settings : Parameters). settings.segment) (sym at.settings_are))
    ∙ ap₂ (λ (me : ℕ) (progress : Progress). end_refusal it.area it.settings.segment me progress asked.dest)
    (sym at.me_is) at.progress_is

-- ---- the answer

by_judged : (site : Site) (group : Group) (it : CollectivesState) (asked : EndAsked)
    (judged : Result (Unit {0}) Forbidden) (core : Local) → IsAt site group it
    → end_by (job_at site) it.area group site.now site.node asked.thread asked.dest
    (OfNode (OfCall (if_allowed (rules site.settings site.table site.meaning) asked.thread judged answers.Polled core).0))
    ≡ end_told it (segment_in site (group.records site.node))
    (if_allowed (rules site.settings site.table site.meaning) asked.thread judged answers.Polled core).0
by_judged site group it asked (Ok allowed) core at =
    ap₂ (λ (me : ℕ) (progress : Progress). end_answer it.area me progress
    (segment_in site (group.records site.node))) (sym at.me_is) at.progress_is
by_judged site group it asked (Err forbidden) core at = refl

-- ---- the records

sets_run : (site : Site) (thread : ℕ) (writes : List Write) (records : Records)
    → after_writes (job_at site) site.now site.node thread records writes
    ≡ run (job_at site) (events_of site (map (set_call thread) writes)) records
sets_run site thread [] records = refl
sets_run site thread (write ∷ later) records = sets_run site thread later _

pieces_are : (site : Site) (group : Group) (it : CollectivesState) → IsAt site group it
    → result_pieces (job_at site) it.area group site.node
    ≡ result_in it (segment_in site (group.records site.node))
pieces_are site group it at =
    let segment = segment_in site (group.records site.node) in
    ap₂ (λ (me : ℕ) (progress : Progress). pieces_of progress.shape
    (data_of_all it.area progress segment 0 it.area.nodes) me) (sym at.me_is) at.progress_is

left_by : (site : Site) (group : Group) (it : CollectivesState) (asked : EndAsked) (answer : EndAnswer)
    → IsAt site group it
    → (ended_group (job_at site) it.area group site.now site.node asked.thread asked.dest (polled site group asked)
    answer).records
    ≡ run (job_at site) (events_of site (end_calls it (segment_in site (group.records site.node)) asked answer))
    group.records
left_by site group it asked end_answers.Ended at =
    let segment = segment_in site (group.records site.node) in
    let pieces = pieces_are site group it at in
    ap (λ (all : List (List ℕ)). after_writes (job_at site) site.now site.node asked.thread (polled site group asked)
    (writes_from asked.dest all)) pieces
    ∙ sets_run site asked.thread (writes_from asked.dest (result_in it segment)) (polled site group asked)
left_by site group it asked (end_answers.Mismatch other) at = refl
left_by site group it asked end_answers.NotReady at = refl
left_by site group it asked end_answers.NotStarted at = refl
left_by site group it asked (end_answers.BadArg argument) at = refl
left_by site group it asked (end_answers.Exhausted other) at = refl
left_by site group it asked (end_answers.Forbidden forbidden) at = refl
left_by site group it asked end_answers.NoMemory at = refl

-- ---- how far the node is

far_by : (site : Site) (group : Group) (it : CollectivesState) (asked : EndAsked) (answer : EndAnswer)
    → IsAt site group it
    → (ended_group (job_at site) it.area group site.now site.node asked.thread asked.dest (polled site group asked)
    answer).progress site.node
    ≡ progress_of (ended_then answer it)
far_by site group it asked end_answers.Ended at =
    put_same group.progress site.node (after_end (group.progress site.node)) ∙ ap after_end at.progress_is
far_by site group it asked (end_answers.Mismatch other) at =
    put_same group.progress site.node (after_end (group.progress site.node)) ∙ ap after_end at.progress_is
far_by site group it asked end_answers.NotReady at = at.progress_is
far_by site group it asked end_answers.NotStarted at = at.progress_is
far_by site group it asked (end_answers.BadArg argument) at = at.progress_is
far_by site group it asked (end_answers.Exhausted other) at = at.progress_is
far_by site group it asked (end_answers.Forbidden forbidden) at = at.progress_is
far_by site group it asked end_answers.NoMemory at = at.progress_is

others_by : (site : Site) (group : Group) (it : CollectivesState) (asked : EndAsked) (answer : EndAnswer) (other : ℕ)
    → other ≢ site.node
    → (ended_group (job_at site) it.area group site.now site.node asked.thread asked.dest (polled site group asked)
    answer).progress other
    ≡ group.progress other
others_by site group it asked end_answers.Ended other apart =
    put_other group.progress site.node (after_end (group.progress site.node)) other apart
others_by site group it asked (end_answers.Mismatch which) other apart =
    put_other group.progress site.node (after_end (group.progress site.node)) other apart
others_by site group it asked end_answers.NotReady other apart = refl
others_by site group it asked end_answers.NotStarted other apart = refl
others_by site group it asked (end_answers.BadArg argument) other apart = refl
others_by site group it asked (end_answers.Exhausted which) other apart = refl
others_by site group it asked (end_answers.Forbidden forbidden) other apart = refl
others_by site group it asked end_answers.NoMemory other apart = refl

-- ---- the calls

-- by the refusal that comes first, if one does
abbrev calls_by : Site → Group → Area → EndAsked → Option EndAnswer → List (EventAt OtherCall)
calls_by site group area asked refusal = elim refusal [
  | Some first ↦ []
  | None ↦ (
      let poll = timed_event site.now (Does site.node asked.thread (OnCore Poll)) in
      poll ∷ calls_behind (job_at site) area group site.now site.node asked.thread asked.dest
      (end_by (job_at site) area group site.now site.node asked.thread asked.dest
      (world_answer (job_at site) group.records poll)))
]

pub none_called : (site : Site) (group : Group) (it : CollectivesState) (asked : EndAsked) (refusal : EndAnswer)
    → IsAt site group it → end_refusal it.area it.settings.segment it.me (progress_of it) asked.dest ≡ Some refusal
    → calls_of_end (job_at site) it.area group site.now site.node asked.thread asked.dest ≡ []
none_called site group it asked refusal at is =
    ap (calls_by site group it.area asked) (first_is site group it asked at ∙ is)

writes_called : (site : Site) (thread : ℕ) (writes : List Write)
    → map (write_event site.now site.node thread) writes ≡ events_of site (map (set_call thread) writes)
writes_called site thread [] = refl
writes_called site thread (write ∷ later) =
    ap (λ (calls : List (EventAt OtherCall)). write_event site.now site.node thread write ∷ calls)
    (writes_called site thread later)

behind_called : (site : Site) (group : Group) (it : CollectivesState) (asked : EndAsked) (answer : EndAnswer)
    → IsAt site group it
    → timed_event site.now (Does site.node asked.thread (OnCore Poll))
    ∷ calls_behind (job_at site) it.area group site.now site.node asked.thread asked.dest answer
    ≡ events_of site (end_calls it (segment_in site (group.records site.node)) asked answer)
behind_called site group it asked end_answers.Ended at =
    let segment = segment_in site (group.records site.node) in
    ap (λ (calls : List (EventAt OtherCall)). timed_event site.now (Does site.node asked.thread (OnCore Poll)) ∷ calls)
    (ap (λ (all : List (List ℕ)). map (write_event site.now site.node asked.thread) (writes_from asked.dest all))
    (pieces_are site group it at)
    ∙ writes_called site asked.thread (writes_from asked.dest (result_in it segment)))
behind_called site group it asked (end_answers.Mismatch other) at = refl
behind_called site group it asked end_answers.NotReady at = refl
behind_called site group it asked end_answers.NotStarted at = refl
behind_called site group it asked (end_answers.BadArg argument) at = refl
behind_called site group it asked (end_answers.Exhausted other) at = refl
behind_called site group it asked (end_answers.Forbidden forbidden) at = refl
behind_called site group it asked end_answers.NoMemory at = refl

pub all_called : (site : Site) (group : Group) (it : CollectivesState) (asked : EndAsked) → IsAt site group it
    → end_refusal it.area it.settings.segment it.me (progress_of it) asked.dest ≡ None
    → calls_of_end (job_at site) it.area group site.now site.node asked.thread asked.dest
    ≡ events_of site (end_calls it (segment_in site (group.records site.node)) asked
    (tried_answer site (group.records site.node) it asked.thread))
all_called site group it asked at none =
    ap (calls_by site group it.area asked) (first_is site group it asked at ∙ none)
    ∙ (ap (λ (answer : EndAnswer). timed_event site.now (Does site.node asked.thread (OnCore Poll))
    ∷ calls_behind (job_at site) it.area group site.now site.node asked.thread asked.dest answer)
    (by_judged site group it asked _ (group.records site.node).local.core at)
    ∙ behind_called site group it asked (tried_answer site (group.records site.node) it asked.thread) at)

-- ---- all of it

does_by : (site : Site) (group : Group) (it : CollectivesState) (asked : EndAsked) → IsAt site group it
    → end_refusal it.area it.settings.segment it.me (progress_of it) asked.dest ≡ None
    → does_end (job_at site) it.area group site.now site.node asked.thread asked.dest
    ≡ (
      tried_answer site (group.records site.node) it asked.thread,
      ended_group (job_at site) it.area group site.now site.node asked.thread asked.dest (polled site group asked)
          (tried_answer site (group.records site.node) it asked.thread),
    )
does_by site group it asked at none =
    ap (tries_by (job_at site) it.area group site.now site.node asked.thread asked.dest)
    (first_is site group it asked at ∙ none)
    ∙ ap (λ (answer : EndAnswer). (
      answer,
      ended_group (job_at site) it.area group site.now site.node asked.thread
          asked.dest (polled site group asked) answer,
    ))
    (by_judged site group it asked _ (group.records site.node).local.core at)

pub end_is_of_group : EndIsOfGroup
end_is_of_group site group it asked at = record {
  refused = λ refusal is.
      ap (tries_by (job_at site) it.area group site.now site.node asked.thread asked.dest)
      (first_is site group it asked at ∙ is);
  answered = λ none. ap (λ (both : EndAnswer × Group). both.0) (does_by site group it asked at none);
  left = λ none.
      ap (λ (both : EndAnswer × Group). both.1.records) (does_by site group it asked at none)
      ∙ left_by site group it asked (tried_answer site (group.records site.node) it asked.thread) at;
  progress = λ none.
      ap (λ (both : EndAnswer × Group). both.1.progress site.node) (does_by site group it asked at none)
      ∙ far_by site group it asked (tried_answer site (group.records site.node) it asked.thread) at;
  others = λ none other apart.
      ap (λ (both : EndAnswer × Group). both.1.progress other) (does_by site group it asked at none)
      ∙ others_by site group it asked (tried_answer site (group.records site.node) it asked.thread) other apart;
}
