-- The tries of steps that run collectives, of each record for which the endpoint stood.
use Rattle.std.proofs.Common.{◌≡◌, ℕ, ◌&&◌, Option, Some, None, true, ◌∙◌, subst}
use Rattle.std.specs.Option.{option_map}
use Rattle.part_collective_area.specs.declared.shape.Shape.{Shape}
use Rattle.part_handlers.specs.Runs.{Meaning, IsLawfulMeaning}
use Rattle.spec_node.specs.Record.{Node}
use Rattle.spec_node.specs.declared.answer.SlotRef.{SlotRef}
use Rattle.node_rules.specs.EndpointLocal.{EndpointLocal}
use Rattle.node_rules.specs.declared.answer.Answer.{Answer}
use Rattle.node_rules.proofs.Sound.{rules_sound}
use Rattle.node_collectives.specs.CollectivesState.{CollectivesState, IsSameNode, Stands}
use Rattle.node_collectives.specs.declared.answers.EndAnswer.{EndAnswer}
use Rattle.node_collectives.specs.declared.answers.StartAnswer.{StartAnswer}
use Rattle.node_collectives.specs.declared.answers.StepAnswer.{StepAnswer}
use Rattle.node_endpoint.specs.EndpointState.{EndpointState, EndpointStands, ForItsRecord}
use Rattle.node_endpoint.specs.Sites.{node_in_the_end}
use Rattle.law_traces.specs.Scripts.{TryContext}
use Rattle.law_traces.specs.declared.script_answer.ScriptAnswer.TheVariants as said
use Rattle.proc_collective_steps.specs.Outcomes.{end_outcome, is_nothing, is_started, is_unexhausted, sent_by, start_ends}
use Rattle.proc_collective_steps.specs.Outcomes.{start_outcome, step_ends, step_outcome}
use Rattle.proc_collective_steps.specs.Parts.{end_asked, end_part, first_part, later_part, site_of, start_asked, start_part}
use Rattle.proc_collective_steps.specs.Parts.{step_part}
use Rattle.proc_collective_steps.specs.Tries.{Comes, EndComes, IsPartTried, IsSameCore, context_at, first_of, went_on}
use Rattle.proc_collective_steps.specs.declared.tries.AtThread.{AtThread}
use Rattle.proc_collective_steps.proofs.Going.{IsSoundAt, end_goes, start_goes, step_goes}
use Rattle.proc_collective_steps.proofs.Parted.{end_tried, ended_later, first_answered, first_parted, keeps_of, keeps_then}
use Rattle.proc_collective_steps.proofs.Parted.{one_part, same_context, step_ended}

-- what handlers and calls do is sound
sound_at : (meaning : Meaning) (old : EndpointState) (at : AtThread) (node : Node EndpointLocal)
    → IsLawfulMeaning meaning → EndpointStands old node → IsSoundAt (context_at meaning old at)
sound_at meaning old at node lawful stands =
    rules_sound old.core.settings old.core.table meaning stands.core.range lawful

pub start_tried : (meaning : Meaning) (old new : EndpointState) (at : AtThread) (it next : CollectivesState)
    (shape : Shape) (from : ℕ) (told : StartAnswer) (last : Option Answer) (sent : Option SlotRef)
    → sent ≡ sent_by last → IsSameCore old.core new.core
    → ForItsRecord old (λ node. let here = context_at meaning old at in
    Comes (site_of here) node (start_outcome (site_of here) node it (start_asked here shape from)) told last next new)
    → ForItsRecord old (λ node. let here = context_at meaning old at in
    IsPartTried here node (start_part here shape from node it) it
    (record { sent = sent; ended = Some (said.Start told); moved = true }) next new)
start_tried meaning old new at it next shape from told last sent sent_is same comes = λ node stands.
    let here = context_at meaning old at in
    let C = comes node stands in
    one_part (λ one. said.Start one) here node it (start_outcome (site_of here) node it (start_asked here shape from))
    told last sent next new C sent_is
    (start_goes here node it shape from (keeps_of meaning old at node stands)
    (keeps_then meaning old new at _ same C.stands))

pub step_tried : (meaning : Meaning) (old new : EndpointState) (at : AtThread) (it next : CollectivesState)
    (told : StepAnswer) (last : Option Answer) (sent : Option SlotRef) → IsLawfulMeaning meaning
    → sent ≡ sent_by last → IsSameCore old.core new.core
    → ForItsRecord old (λ node. let here = context_at meaning old at in
    Comes (site_of here) node (step_outcome (site_of here) at.thread node it) told last next new)
    → ForItsRecord old (λ node. let here = context_at meaning old at in
    IsPartTried here node (step_part here node it) it
    (record { sent = sent; ended = Some (said.Step told); moved = true }) next new)
step_tried meaning old new at it next told last sent lawful sent_is same comes = λ node stands.
    let here = context_at meaning old at in
    let C = comes node stands in
    one_part (λ one. said.Step one) here node it (step_outcome (site_of here) at.thread node it) told last sent next new C
    sent_is
    (step_goes here node it (sound_at meaning old at node lawful stands) (keeps_of meaning old at node stands)
    (keeps_then meaning old new at _ same C.stands))

pub end_is_tried : (meaning : Meaning) (old new : EndpointState) (at : AtThread) (it next : CollectivesState) (dest : ℕ)
    (told : EndAnswer) → IsLawfulMeaning meaning
    → ForItsRecord old (λ node. let here = context_at meaning old at in
    EndComes (site_of here) node (end_outcome (site_of here) node it (end_asked here dest)) told next new)
    → ForItsRecord old (λ node. let here = context_at meaning old at in
    IsPartTried here node (end_part here dest node it) it
    (record { sent = None; ended = Some (said.End told); moved = true }) next new)
end_is_tried meaning old new at it next dest told lawful comes = λ node stands.
    let here = context_at meaning old at in
    end_tried here node it (end_outcome (site_of here) node it (end_asked here dest)) told next new (comes node stands)
    (end_goes here node it dest (sound_at meaning old at node lawful stands) (keeps_of meaning old at node stands))

-- ---- a whole collective

pub first_tried : (meaning : Meaning) (old new : EndpointState) (at : AtThread) (it next : CollectivesState)
    (shape : Shape) (from : ℕ) (told : StartAnswer) (last : Option Answer) → IsSameCore old.core new.core
    → ForItsRecord old (λ node. let here = context_at meaning old at in
    Comes (site_of here) node (start_outcome (site_of here) node it (start_asked here shape from)) told last next new)
    → ForItsRecord old (λ node. let here = context_at meaning old at in
    IsPartTried here node (first_part here shape from node it) it (record {
      sent = sent_by last;
      ended = option_map (λ one. said.Start one) (start_ends told);
      moved = is_started told;
    }) next new)
first_tried meaning old new at it next shape from told last same comes = λ node stands.
    let here = context_at meaning old at in
    let C = comes node stands in
    first_parted here node it shape from told last next new C
    (start_goes here node it shape from (keeps_of meaning old at node stands)
    (keeps_then meaning old new at _ same C.stands))

pub first_said : (meaning : Meaning) (old new : EndpointState) (at : AtThread) (it next : CollectivesState)
    (shape : Shape) (from : ℕ) (told : StartAnswer) (last : Option Answer)
    → ForItsRecord old (λ node. let here = context_at meaning old at in
    Comes (site_of here) node (start_outcome (site_of here) node it (start_asked here shape from)) told last next new)
    → ForItsRecord old (λ node. let here = context_at meaning old at in
    last ≡ first_of here (first_part here shape from node it) node)
first_said meaning old new at it next shape from told last comes = λ node stands.
    let here = context_at meaning old at in
    (comes node stands).last_is ∙ first_answered here node it shape from

pub last_step_tried : (meaning : Meaning) (old new : EndpointState) (at : AtThread) (it next : CollectivesState)
    (dest : ℕ) (told end : StepAnswer) (last : Option Answer) → IsLawfulMeaning meaning → IsSameCore old.core new.core
    → ForItsRecord old (λ node. let here = context_at meaning old at in
    Comes (site_of here) node (step_outcome (site_of here) at.thread node it) told last next new)
    → step_ends told ≡ Some end
    → ForItsRecord old (λ node. let here = context_at meaning old at in
    IsPartTried here node (later_part here dest node it) it
    (record { sent = sent_by last; ended = Some (said.Step end); moved = true }) next new)
last_step_tried meaning old new at it next dest told end last lawful same comes is = λ node stands.
    let here = context_at meaning old at in
    let C = comes node stands in
    step_ended here node it dest told end last next new C
    (step_goes here node it (sound_at meaning old at node lawful stands) (keeps_of meaning old at node stands)
    (keeps_then meaning old new at _ same C.stands)) is

pub later_tried : (meaning : Meaning) (old mid new : EndpointState) (at : AtThread)
    (it between next : CollectivesState) (dest : ℕ) (told : StepAnswer) (last : Option Answer) (answer : EndAnswer)
    → IsLawfulMeaning meaning → Stands it → IsSameNode it between → IsSameCore old.core mid.core
    → ForItsRecord old (λ node. let here = context_at meaning old at in
    Comes (site_of here) node (step_outcome (site_of here) at.thread node it) told last between mid)
    → ForItsRecord mid (λ node. let here = context_at meaning mid at in
    EndComes (site_of here) node (end_outcome (site_of here) node between (end_asked here dest)) answer next new)
    → step_ends told ≡ None
    → ForItsRecord old (λ node. let here = context_at meaning old at in
    IsPartTried here node (later_part here dest node it) it
    (went_on (sent_by last) (is_nothing told && is_unexhausted it) answer) next new)
later_tried meaning old mid new at it between next dest told last answer lawful good same_node same comes ends none =
    λ node stands.
    let here = context_at meaning old at in
    let C = comes node stands in
    let behind = node_in_the_end (site_of here) node (step_outcome (site_of here) at.thread node it).calls in
    let keeps = keeps_then meaning old mid at behind same C.stands in
    let sound = sound_at meaning old at node lawful stands in
    ended_later here node it dest told last between mid answer next new good same_node C
    (step_goes here node it sound (keeps_of meaning old at node stands) keeps)
    (subst (λ (one : TryContext).
    EndComes (site_of one) behind (end_outcome (site_of one) behind between (end_asked one dest)) answer next new)
    (same_context meaning old mid at same) (ends behind C.stands))
    (end_goes here behind between dest sound keeps) none
