-- A try to end at a node of a group of the code, as that of a group.
use Rattle.std.proofs.Common.{◌≡◌, ℕ, List, [], Option, Some, None, refl, sym, ap, ◌∙◌, subst}
use Rattle.std.specs.Prelude.{slice_set}
use Rattle.part_handlers.specs.Runs.{Meaning}
use Rattle.spec_node.specs.Record.{Node}
use Rattle.spec_network.specs.World.{run}
use Rattle.spec_network.specs.MostHeld.{most_after}
use Rattle.node_rules.specs.EndpointLocal.{EndpointLocal}
use Rattle.node_rules.specs.EndpointRules.{Records}
use Rattle.node_rules.proofs.CoreKept.{segment_long}
use Rattle.sim_world.specs.Stands.{WorldStands}
use Rattle.sim_world.specs.WorldState.{WorldState}
use Rattle.node_endpoint.specs.declared.caller.Caller.{Ghosts}
use Rattle.node_endpoint.specs.Making.{whole_after}
use Rattle.node_endpoint.specs.Sites.{Site, ThreadCall, job_at}
use Rattle.sim_world.specs.Wholes.{WorldWhole, events_of}
use Rattle.node_collectives.specs.declared.answers.EndAnswer.{EndAnswer}
use Rattle.node_collectives.specs.Progress.{end_refusal}
use Rattle.node_collectives.specs.CollectivesState.{CollectivesState, IsSameNode, progress_of}
use Rattle.node_collectives.specs.Starts.{Refuses}
use Rattle.node_collectives.specs.Ends.{EndAsked, Ends, IsLong, Tries, end_calls, ended_then, segment_in, tried_answer}
use Rattle.part_collective_area.specs.Area.{Area}
use Rattle.law_collectives.specs.Groups.{End, Group, GroupEvent, OfEnd, does_end}
use Rattle.sim_group.specs.GroupState.{GroupState}
use Rattle.sim_group.specs.Standing.{Does, DoesOf, StandsFor}
use Rattle.sim_group.proofs.Tries.{all_called, end_is_of_group, none_called}
use Rattle.sim_group.proofs.Starting.{IsNode, is_left_by, left_set, node_at, site_in}

-- ---- what came of it, of a whole for which the caller stood

-- the refusal that comes before any call
abbrev pub refusal_of : CollectivesState → EndAsked → Option EndAnswer
refusal_of it asked = end_refusal it.area it.settings.segment it.me (progress_of it) asked.dest

-- it was refused, or the answer is by the node's record, and its calls left what they leave of the whole
pub data EndCame (Whole : Type 0) (stood : Whole → Type 0) (whole : Whole) (site : Site) (node : Node EndpointLocal)
    (left : List ThreadCall → Whole) (it : CollectivesState) (asked : EndAsked) (answer : EndAnswer)
    (next : CollectivesState) : Type 0 where
  Refused : (refusal : EndAnswer) → refusal_of it asked ≡ Some refusal → answer ≡ refusal → next ≡ it → stood whole
      → EndCame Whole stood whole site node left it asked answer next
  Tried : refusal_of it asked ≡ None → answer ≡ tried_answer site node it asked.thread → next ≡ ended_then answer it
      → stood (left (end_calls it (segment_in site node) asked answer))
      → EndCame Whole stood whole site node left it asked answer next

-- by the refusal that comes first, if one does
abbrev pub EndWays : {K : Type 0} → (caller : Ghosts K) → CollectivesState → K → EndAsked → EndAnswer
    → CollectivesState → K → Option EndAnswer → Type 0
EndWays caller it old asked answer next new refusal = elim refusal [
  | Some first ↦ Refuses it old first answer next new
  | None ↦ Tries caller it old asked answer next new
]

pub end_came : {K : Type 0} (caller : Ghosts K) (it : CollectivesState) (old : K) (asked : EndAsked)
    (answer : EndAnswer) (next : CollectivesState) (new : K) → Ends caller it old asked answer next new
    → (whole : caller.Whole) → caller.stands old whole
    → IsLong (caller.site old) (caller.record_in (caller.site old) whole)
    → EndCame caller.Whole (caller.stands new) whole (caller.site old) (caller.record_in (caller.site old) whole)
    (λ calls. whole_after caller (caller.site old) whole calls) it asked answer next
end_came {K} caller it old asked answer next new ends whole stands long = by_refusal (refusal_of it asked) refl ends
  where
    by_refusal : (refusal : Option EndAnswer) → refusal_of it asked ≡ refusal
        → EndWays caller it old asked answer next new refusal
        → EndCame caller.Whole (caller.stands new) whole (caller.site old) (caller.record_in (caller.site old) whole)
        (λ calls. whole_after caller (caller.site old) whole calls) it asked answer next
    by_refusal (Some refusal) is refuses =
        Refused refusal is refuses.answer_is refuses.next_is
        (subst (λ (at : K). caller.stands at whole) (sym refuses.same) stands)
    by_refusal None is tries =
        Tried is (tries.answered whole stands long) tries.next_is (tries.made whole stands long)

-- ---- a try

-- the whole that calls leave
abbrev pub after_calls : Site → WorldWhole → List ThreadCall → WorldWhole
after_calls site whole calls = record {
  records = run (job_at site) (events_of site calls) whole.records;
  most = most_after (job_at site) (events_of site calls) whole.records whole.most;
}

-- the segment of each node has the length of the settings
pub long_at : (meaning : Meaning) (world : WorldState) (node now : ℕ) (records : Records) (most : ℕ → ℕ)
    → WorldStands world records most → IsLong (site_in meaning world node now) (records node)
long_at meaning world node now records most stands =
    segment_long world.settings node (records node).local.core (stands.invariant_.kept node).core

pub end_done : (meaning : Meaning) (old : GroupState) (world : WorldState) (now node : ℕ)
    (it next : CollectivesState) (asked : EndAsked) (answer : EndAnswer) (group : Group) (most : ℕ → ℕ)
    (left : List ThreadCall → WorldWhole)
    → ((calls : List ThreadCall) → left calls
    ≡ after_calls (site_in meaning old.world node now) (record { records = group.records; most = most }) calls)
    → IsNode meaning old node it → StandsFor old it.area group most → next.area ≡ it.area
    → EndCame WorldWhole (λ (whole : WorldWhole). WorldStands world whole.records whole.most)
    (record { records = group.records; most = most }) (site_in meaning old.world node now) (group.records node) left it
    asked answer next
    → DoesOf meaning old it.area group most (End now node asked.thread asked.dest) (OfEnd answer)
    (record { world = world; nodes = slice_set old.nodes node next })
end_done meaning old world now node it next asked answer group most left run_is is stands area_is (Refused refusal first answer_is next_is stood) =
    let site = site_in meaning old.world node now in
    let at = node_at meaning old node now it it.area group most is stands in
    let same = (end_is_of_group site group it asked at).refused refusal first in
    let new : GroupState = record { world = world; nodes = slice_set old.nodes node next } in (
      ap OfEnd (answer_is ∙ sym (ap (λ (both : EndAnswer × Group). both.0) same)),
      is_left_by (job_at site) it.area group most (End now node asked.thread asked.dest) new group []
          (ap (λ (both : EndAnswer × Group). both.1) same) (none_called site group it asked refusal at first)
          (left_set old world node it next it.area group group most is.low stands.nodes area_is stood
          (at.progress_is ∙ ap progress_of (sym next_is)) (λ other apart. refl)),
    )
end_done meaning old world now node it next asked answer group most left run_is is stands area_is (Tried none answer_is next_is stood) =
    let site = site_in meaning old.world node now in
    let at = node_at meaning old node now it it.area group most is stands in
    let of_group = end_is_of_group site group it asked at in
    let next_group = (does_end (job_at site) it.area group now node asked.thread asked.dest).1 in
    let tried = tried_answer site (group.records node) it asked.thread in
    let calls = end_calls it (segment_in site (group.records node)) asked tried in
    let made = events_of site calls in
    let new : GroupState = record { world = world; nodes = slice_set old.nodes node next } in
    let ran : WorldStands world (run (job_at site) made group.records)
    (most_after (job_at site) made group.records most) =
    subst (λ (whole : WorldWhole). WorldStands world whole.records whole.most) (run_is calls)
    (subst (λ (one : EndAnswer). WorldStands world
    (left (end_calls it (segment_in site (group.records node)) asked one)).records
    (left (end_calls it (segment_in site (group.records node)) asked one)).most) answer_is stood) in (
      ap OfEnd (answer_is ∙ sym (of_group.answered none)),
      is_left_by (job_at site) it.area group most (End now node asked.thread asked.dest) new next_group made refl
          (all_called site group it asked at none)
          (left_set old world node it next it.area group next_group (most_after (job_at site) made group.records most)
          is.low stands.nodes area_is (subst (λ (all : Records). WorldStands world all
          (most_after (job_at site) made group.records most)) (sym (of_group.left none)) ran)
          (of_group.progress none ∙ sym (ap progress_of (next_is ∙ ap (λ (one : EndAnswer). ended_then one it) answer_is)))
          (of_group.others none)),
    )

-- the try of a node at a place, of each group for which the code stood
pub end_does : (meaning : Meaning) (old : GroupState) (world : WorldState) (now node place : ℕ)
    (it next : CollectivesState) (asked : EndAsked) (answer : EndAnswer)
    (left : WorldWhole → List ThreadCall → WorldWhole)
    → ((whole : WorldWhole) (calls : List ThreadCall)
    → left whole calls ≡ after_calls (site_in meaning old.world node now) whole calls)
    → IsNode meaning old place it → place ≡ node → IsSameNode it next
    → ((group : Group) (most : ℕ → ℕ) → WorldStands old.world group.records most
    → EndCame WorldWhole (λ (whole : WorldWhole). WorldStands world whole.records whole.most)
    (record { records = group.records; most = most }) (site_in meaning old.world node now) (group.records node)
    (λ calls. left (record { records = group.records; most = most }) calls) it asked answer next)
    → Does meaning old (End now node asked.thread asked.dest) (OfEnd answer)
    (record { world = world; nodes = slice_set old.nodes place next })
end_does meaning old world now node place it next asked answer left run_is is place_is same came = λ area group most of.
    let area_is : it.area ≡ area = (of.nodes place it is.there).0 in
    let here : IsNode meaning old node it = subst (λ (at : ℕ). IsNode meaning old at it) place_is is in
    let stands : StandsFor old it.area group most =
    subst (λ (one : Area). StandsFor old one group most) (sym area_is) of in
    let event : GroupEvent = End now node asked.thread asked.dest in
    subst (λ (one : Area). DoesOf meaning old one group most event (OfEnd answer)
    (record { world = world; nodes = slice_set old.nodes place next })) area_is
    (subst (λ (at : ℕ). DoesOf meaning old it.area group most event (OfEnd answer)
    (record { world = world; nodes = slice_set old.nodes at next })) (sym place_is)
    (end_done meaning old world now node it next asked answer group most
    (λ calls. left (record { records = group.records; most = most }) calls)
    (λ calls. run_is (record { records = group.records; most = most }) calls) here stands same.area_is
    (came group most stands.world)))
