-- A launch whose children gave traces that are a run.
use Rattle.std.proofs.Common.{◌≡◌, ℕ, ◌<◌, ◌^◌, List, [], ◌++◌, length, Option, Some, None, arith, get_or}
use Rattle.std.proofs.Common.{refl, sym, ap, subst, ◌∙◌, slice_get}
use Rattle.std.specs.Prelude.{IsSomeAnd}
use Rattle.std.proofs.lemmas.List.{append_cancel_left, same_lists}
use Rattle.std.proofs.lemmas.Option.{get_or_from_slice_get, same_Some, slice_get-get_or}
use Rattle.base_io.specs.Spawner.{ChildEnd, SpawnTold}
use Rattle.base_io.specs.declared.spawner.Finished.TheVariants as finished
use Rattle.wire_message.proofs.Laws.{version_small}
use Rattle.text_trace.specs.OutputReading.{output_at}
use Rattle.text_trace.specs.declared.output.Output.{Output}
use Rattle.text_trace.proofs.OutputLaws.{output_again}
use Rattle.text_job.specs.JobText.{IsJob}
use Rattle.text_job.specs.declared.job.Job.{Job as JobState}
use Rattle.cli_launch.specs.CheckInputs.{traces_in, wanted_of}
use Rattle.cli_launch.specs.Rejected.{accepted_traces}
use Rattle.cli_launch.specs.TracesRun.{AreARun}
use Rattle.cli_launch.specs.Children.{all_told}
use Rattle.cli_launch.specs.LaunchEnds.{GivesOutputs, HasEnds, Launch, LosesChild}
use Rattle.cli_launch.specs.Outputs.{AreGiven, GivesOutput, IsFirstFailing}
use Rattle.cli_commands.specs.Outsides.{Spawning}
use Rattle.cli_commands.specs.LaunchCommand.{TellsRun}

-- ---- outputs

-- what a child gave is the text of one output
one_output : (job : JobState) (end : ChildEnd) (output other : Output) → IsJob job → GivesOutput job end output
    → GivesOutput job end other → output ≡ other
one_output job end output other is_job gives given =
    let wanted = wanted_of job end.rank in
    let small = version_small job.settings.version is_job.settings.version in
    let fits : wanted.version < 2 ^ 64 = omega arith in
    let one = output_again wanted output [] fits gives.is_output in
    let two = output_again wanted other [] fits given.is_output in
    let texts = ap (λ (text : List ℕ). output_at wanted (text ++ [])) (sym gives.text ∙ given.text) in
    let same = sym one ∙ (texts ∙ two) in
    let empty : List ℕ = [] in
    let both : (output, empty) ≡ (other, empty) = cc in
    ap (λ (read : Output × List ℕ). read.0) both

some_given : (o : Option Output) (P : Output → Type 0) → IsSomeAnd o P
    → (output : Output) × (o ≡ Some output) × P output
some_given None P h = absurd h
some_given (Some output) P h = (output, refl, h)

-- the outputs that children gave are the only ones
same_outputs : (job : JobState) (ends : List ChildEnd) (outputs others : List Output) → IsJob job
    → AreGiven job ends outputs → AreGiven job ends others → outputs ≡ others
same_outputs job ends outputs others is_job given gives =
    same_lists outputs others (given.count ∙ sym gives.count) each
  where
    none : ChildEnd
    none = record { rank = 0; output = []; answer = finished.Failed }

    each : (place : ℕ) (default : Output) → place < length outputs
        → get_or outputs place default ≡ get_or others place default
    each place default inside =
        let count = given.count in
        let at = slice_get-get_or ends place none (omega arith) in
        let end = get_or ends place none in
        let one = some_given (slice_get outputs place) _ (given.each place end at) in
        let two = some_given (slice_get others place) _ (gives.each place end at) in
        get_or_from_slice_get outputs place one.0 default one.1
        ∙ (one_output job end one.0 two.0 is_job one.2 two.2
        ∙ sym (get_or_from_slice_get others place two.0 default two.1))

-- ---- ends

-- the ends of the children are those that the spawner tells
told_ends : (launch : Launch) (spawning : Spawning) (tells : TellsRun launch.job spawning) (ends : List ChildEnd)
    → HasEnds launch spawning.before spawning.after ends → ends ≡ tells.ends
told_ends launch spawning tells ends has =
    let few = has.few in
    let plain = has.plain tells.before tells.before_is (λ rank less. tells.unfinished rank (omega arith)) in
    let same : all_told (length ends) launch.port launch.input ends tells.before ≡ tells.after =
    same_Some _ _ (sym plain ∙ tells.after_is) in
    append_cancel_left tells.before.ended ends tells.ends
    (ap (λ (told : SpawnTold). told.ended) same ∙ tells.ended)

-- so the traces that the launch gave are that run
pub gave_run : (launch : Launch) (spawning : Spawning) (outputs : List Output) → IsJob launch.job
    → TellsRun launch.job spawning → GivesOutputs launch spawning.before spawning.after outputs
    → AreARun launch.job (accepted_traces launch.job (traces_in outputs))
gave_run launch spawning outputs is_job tells gives =
    let given = subst (λ (ends : List ChildEnd). AreGiven launch.job ends outputs)
    (told_ends launch spawning tells gives.ends gives.spawned) gives.given in
    subst (λ (all : List Output). AreARun launch.job (accepted_traces launch.job (traces_in all)))
    (same_outputs launch.job tells.ends tells.outputs outputs is_job tells.given given) tells.run

-- and no child failed
pub none_lost : (launch : Launch) (spawning : Spawning) (rank code : ℕ) → TellsRun launch.job spawning
    → LosesChild launch spawning.before spawning.after rank code → ⊥
none_lost launch spawning rank code tells loses =
    let first = subst (λ (ends : List ChildEnd). IsFirstFailing launch.job ends rank code)
    (told_ends launch spawning tells loses.ends loses.spawned) loses.first in
    let given = some_given (slice_get tells.outputs rank) _ (tells.given.each rank first.end first.at) in
    first.fails.none given.0 given.2
