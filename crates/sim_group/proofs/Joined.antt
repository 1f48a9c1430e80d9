-- The calls of collectives at a node of a world, as those of a group.
use Rattle.std.proofs.Common.{◌≡◌, inl, inr, ℕ, ◌<◌, Bool, true, false, List, length}
use Rattle.std.proofs.Common.{Option, Some, None, refl, sym, ap, ap₂, ◌∙◌, arith}
use Rattle.std.specs.Prelude.{slice_set}
use Rattle.std.proofs.Math.Path.{fun_ext}
use Rattle.std.proofs.lemmas.Bool.{cases_eq}
use Rattle.std.proofs.lemmas.List.{get_or-set_same, get_or-set_other}
use Rattle.base_lists.specs.Put.{put}
use Rattle.base_lists.proofs.Put.{put_same, put_other}
use Rattle.wire_message.specs.Parameters.{Parameters}
use Rattle.spec_node.specs.declared.answer.Asked.{Asked as Told}
use Rattle.spec_node.specs.declared.answer.Asked.TheVariants as told
use Rattle.spec_node.specs.Behaviour.{Ask}
use Rattle.spec_network.specs.World.{Asks, world_answer, world_after}
use Rattle.node_rules.specs.EndpointRules.{asked_answer, timed_event}
use Rattle.node_endpoint.specs.Sites.{Site, answer_at, job_at}
use Rattle.sim_world.specs.Wholes.{records_then}
use Rattle.part_collective_area.specs.Area.{Area}
use Rattle.node_collectives.specs.declared.answers.StartAnswer.{StartAnswer}
use Rattle.node_collectives.specs.declared.answers.StepAnswer.TheVariants as step_answers
use Rattle.node_collectives.specs.Progress.{Progress, start_answer, start_ask, start_refusal, step_ask}
use Rattle.node_collectives.specs.CollectivesState.{CollectivesState, has, progress_of}
use Rattle.node_collectives.specs.Starts.{StartAsked, call_of, start_told}
use Rattle.node_collectives.specs.Steps.{after_ask, step_told}
use Rattle.law_collectives.specs.Groups.{Group, Stops, GoesOn, asked_in, started_group, step_goes}
use Rattle.sim_group.specs.OfGroups.{IsAt, StartIsOfGroup, StepIsOfGroup, goes_by}

-- ---- a start

pub same_told : (answer : Told) → start_told (Some (asked_answer answer)) ≡ start_answer answer
same_told (told.Accepted to slot number) = refl
same_told told.Ran = refl
same_told (told.BadArg part) = refl
same_told (told.Forbidden forbidden) = refl
same_told (told.LockBusy lock) = refl
same_told told.Exhausted = refl
same_told told.NotYet = refl

-- what a start does of which this is the first refusal
abbrev starts_by : Site → Group → Area → StartAsked → (me : ℕ) → Progress → Option StartAnswer → StartAnswer × Group
starts_by site group area asked me progress refusal = elim refusal [
  | Some first ↦ (first, group)
  | None ↦ (
      let event = timed_event site.now (Asks site.node
      (start_ask area me asked.thread progress asked.shape asked.from)) in
      let answer = start_answer (asked_in (world_answer (job_at site) group.records event)) in (
        answer,
        started_group (job_at site) group site.node asked.shape asked.from answer
            (world_after (job_at site) group.records event),
      ))
]

-- by its call
abbrev starts_as : Site → Group → Area → StartAsked → (me : ℕ) → Progress → StartAnswer × Group
starts_as site group area asked me progress =
    let call = call_of (start_ask area me asked.thread progress asked.shape asked.from) in
    let told_so = start_told (Some (answer_at site (group.records site.node) call)) in (
      told_so,
      started_group (job_at site) group site.node asked.shape asked.from told_so
          (records_then site group.records call),
    )

both_ways : (site : Site) (group : Group) (area : Area) (asked : StartAsked) (me : ℕ) (progress : Progress)
    → starts_by site group area asked me progress None ≡ starts_as site group area asked me progress
both_ways site group area asked me progress =
    let event = timed_event site.now (Asks site.node
    (start_ask area me asked.thread progress asked.shape asked.from)) in
    let answer = asked_in (world_answer (job_at site) group.records event) in
    ap (λ (one : StartAnswer). (
      one,
      started_group (job_at site) group site.node asked.shape asked.from one
          (world_after (job_at site) group.records event),
    )) (sym (same_told answer))

pub first_is : (site : Site) (group : Group) (it : CollectivesState) (asked : StartAsked) → IsAt site group it
    → start_refusal it.area site.settings.segment (group.progress site.node) asked.shape asked.from
    ≡ start_refusal it.area it.settings.segment (progress_of it) asked.shape asked.from
first_is site group it asked at =
    ap₂ (λ (size : ℕ) (progress : Progress). start_refusal it.area size progress asked.shape asked.from)
    (ap (λ (settings : Parameters). settings.segment) (sym at.settings_are)) at.progress_is

pub start_is_of_group : StartIsOfGroup
start_is_of_group site group it asked at = record {
  refused = λ refusal is.
      ap (starts_by site group it.area asked site.node (group.progress site.node))
      (first_is site group it asked at ∙ is);
  called = λ none.
      ap (starts_by site group it.area asked site.node (group.progress site.node))
      (first_is site group it asked at ∙ none)
      ∙ (both_ways site group it.area asked site.node (group.progress site.node)
      ∙ ap₂ (starts_as site group it.area asked) (sym at.me_is) at.progress_is);
}

-- ---- a step

-- a mark that was set
has_set : (marks : List Bool) (to : ℕ) (value : Bool) → to < length marks
    → has (slice_set marks to value) ≡ put (has marks) to value
has_set marks to value low = fun_ext (λ other. elim (cases_eq other to) [
  | inl same ↦ ap (has (slice_set marks to value)) same
      ∙ (get_or-set_same marks to value false low
      ∙ (sym (put_same (has marks) to value) ∙ ap (put (has marks) to value) (sym same)))
  | inr apart ↦ get_or-set_other marks to other value false apart ∙ sym (put_other (has marks) to value other apart)
])

goes_same : (it : CollectivesState) (to : ℕ) (answer : Told) → to < length it.sent → to < length it.exhausted
    → step_goes (progress_of it) to answer
    ≡ goes_by (step_told to (Some (asked_answer answer))) (progress_of (after_ask it to (Some (asked_answer answer))))
goes_same it to (told.Accepted there slot number) low exhausted_low =
    ap (λ (sent : ℕ → Bool). Stops (step_answers.Sent to) (record (progress_of it) { sent = sent }))
    (sym (has_set it.sent to true low))
goes_same it to (told.Forbidden forbidden) low exhausted_low = refl
goes_same it to told.Exhausted low exhausted_low =
    ap (λ (exhausted : ℕ → Bool). GoesOn (record (progress_of it) { exhausted = exhausted })) (sym (has_set it.exhausted to true exhausted_low))
goes_same it to told.NotYet low exhausted_low =
    ap (λ (exhausted : ℕ → Bool). GoesOn (record (progress_of it) { exhausted = exhausted })) (sym (has_set it.exhausted to false exhausted_low))
goes_same it to told.Ran low exhausted_low =
    ap (λ (exhausted : ℕ → Bool). GoesOn (record (progress_of it) { exhausted = exhausted })) (sym (has_set it.exhausted to false exhausted_low))
goes_same it to (told.BadArg part) low exhausted_low =
    ap (λ (exhausted : ℕ → Bool). GoesOn (record (progress_of it) { exhausted = exhausted })) (sym (has_set it.exhausted to false exhausted_low))
goes_same it to (told.LockBusy lock) low exhausted_low =
    ap (λ (exhausted : ℕ → Bool). GoesOn (record (progress_of it) { exhausted = exhausted })) (sym (has_set it.exhausted to false exhausted_low))

pub step_is_of_group : StepIsOfGroup
step_is_of_group site group it thread to at low =
    let few = at.good.few_nodes in
    let sent = at.good.sent_long in
    let exhausted = at.good.exhausted_long in
    let ask_is = ap₂ (λ (me : ℕ) (progress : Progress). step_ask it.area me thread to progress) at.me_is
    (sym at.progress_is) in
    let here = asked_in (world_answer (job_at site) group.records (timed_event site.now (Asks site.node
    (step_ask it.area it.me thread to (progress_of it))))) in
    record {
      event = ap (λ (ask : Ask). records_then site group.records (call_of ask)) ask_is;
      goes = ap₂ (λ (progress : Progress) (ask : Ask). step_goes progress to (asked_in
          (world_answer (job_at site) group.records (timed_event site.now (Asks site.node ask))))) at.progress_is (sym ask_is)
          ∙ goes_same it to here (omega (arith, low, few, sent)) (omega (arith, low, few, exhausted));
    }
