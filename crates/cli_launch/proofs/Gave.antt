-- What children gave.
use Rattle.std.proofs.Common.{◌≡◌, ℕ, ◌<◌, ◌≤◌, true, List, [], ◌∷◌, ◌++◌, length, Ok, Err}
use Rattle.std.proofs.Common.{refl, sym, ap, subst, ◌∙◌, append-nil, arith, length-append}
use Rattle.base_io.specs.Spawner.{ChildEnd}
use Rattle.base_io.specs.declared.spawner.Finished.TheVariants as finished
use Rattle.text_trace.specs.OutputReading.{GivesOutput as ReadsThat}
use Rattle.text_trace.specs.OutputText.{IsOutput, OutputBegins, output_text, status_code}
use Rattle.text_trace.specs.declared.fault.TraceFault.TheVariants as tracefaults
use Rattle.base_text.specs.declared.why.LineWhy.{LineWhy}
use Rattle.text_trace.specs.declared.output.NodeStatus.{NodeStatus}
use Rattle.text_trace.specs.declared.output.NodeStatus.TheVariants as status
use Rattle.text_trace.specs.declared.output.Output.{Output}
use Rattle.text_trace.specs.declared.output.Wanted.{Wanted}
use Rattle.text_job.specs.declared.job.Job.{Job as JobState}
use Rattle.cli_check.specs.CheckInputs.{wanted_of}
use Rattle.cli_check.specs.Statuses.{is_over}
use Rattle.cli_launch.specs.Outputs.{FailsWith, GivesOutput}

-- ---- statuses

over_low : (one : NodeStatus) → is_over one ≡ true → status_code one ≤ 1
over_low status.Ok over = omega arith
over_low status.Violations over = omega arith
over_low status.LinkFault over = absurd (cc)
over_low status.Stuck over = absurd (cc)
over_low status.JournalFull over = absurd (cc)

low_over : (one : NodeStatus) → status_code one ≤ 1 → is_over one ≡ true
low_over status.Ok low = refl
low_over status.Violations low = refl
low_over status.LinkFault low = absurd (omega arith)
low_over status.Stuck low = absurd (omega arith)
low_over status.JournalFull low = absurd (omega arith)

-- ---- one child

-- whose output is asked for
pub same_wanted : (job : JobState) (rank version threads number : ℕ) → version ≡ job.settings.version
    → threads ≡ job.settings.threads → number ≡ job.settings.job
    → (let wanted : Wanted = record { version = version; threads = threads; job = number; rank = rank } in
    wanted ≡ wanted_of job rank)
same_wanted job rank version threads number v t n = cc

-- an output that a child gave was read, if one was
whole : (job : JobState) (end : ChildEnd) (wanted : Wanted) (other : Output) → wanted ≡ wanted_of job end.rank
    → GivesOutput job end other → OutputBegins wanted end.output other (length (output_text wanted.version other))
whole job end wanted other is given = record {
  is_output = subst (λ (it : Wanted). IsOutput it other) (sym is) given.is_output;
  rest = [];
  text = given.text ∙ ap (λ (it : Wanted). output_text it.version other) (sym is)
      ∙ sym (append-nil (output_text wanted.version other));
  size = refl;
}

-- no output stands at the beginning of what it gave
pub gave_none : (job : JobState) (end : ChildEnd) (wanted : Wanted) (code line : ℕ) (why : LineWhy)
    → wanted ≡ wanted_of job end.rank → end.answer ≡ finished.Ended code
    → ((output : Output) (len : ℕ) → OutputBegins wanted end.output output len
    → ReadsThat output len (Err (tracefaults.Bad line why)))
    → FailsWith job end code
gave_none job end wanted code line why is ended only = record {
  ended = ended;
  none = λ other given. only other _ (whole job end wanted other is given);
}

-- one does, but it is another than the child gave, if it gave one
another : (job : JobState) (end : ChildEnd) (wanted : Wanted) (code : ℕ) (output : Output) (len : ℕ)
    → wanted ≡ wanted_of job end.rank → end.answer ≡ finished.Ended code
    → ((other : Output) (size : ℕ) → OutputBegins wanted end.output other size
    → ReadsThat other size (Ok (output, len)))
    → (other : Output) → GivesOutput job end other
    → (length end.output ≡ len) × (code ≡ status_code output.status) × (code ≤ 1)
another job end wanted code output len is ended only other given =
    let same = only other _ (whole job end wanted other is given) in
    let text = ap length given.text ∙ ap (λ (it : Wanted). length (output_text it.version other)) (sym is) in
    let ended_so = given.ended in
    let codes : code ≡ status_code other.status = cc in
    let low = over_low other.status given.over in (
      text ∙ sym same.1,
      codes ∙ ap (λ (it : Output). status_code it.status) (sym same.0),
      omega arith,
    )

pub gave_more : (job : JobState) (end : ChildEnd) (wanted : Wanted) (code : ℕ) (output : Output) (len : ℕ)
    → wanted ≡ wanted_of job end.rank → end.answer ≡ finished.Ended code
    → ((other : Output) (size : ℕ) → OutputBegins wanted end.output other size
    → ReadsThat other size (Ok (output, len)))
    → len < length end.output → FailsWith job end code
gave_more job end wanted code output len is ended only less = record {
  ended = ended;
  none = λ other given.
      let so = another job end wanted code output len is ended only other given in let long = so.0 in omega arith;
}

pub ended_high : (job : JobState) (end : ChildEnd) (wanted : Wanted) (code : ℕ) (output : Output) (len : ℕ)
    → wanted ≡ wanted_of job end.rank → end.answer ≡ finished.Ended code
    → ((other : Output) (size : ℕ) → OutputBegins wanted end.output other size
    → ReadsThat other size (Ok (output, len)))
    → 1 < code → FailsWith job end code
ended_high job end wanted code output len is ended only high = record {
  ended = ended;
  none = λ other given.
      let so = another job end wanted code output len is ended only other given in let low = so.2 in omega arith;
}

pub ended_apart : (job : JobState) (end : ChildEnd) (wanted : Wanted) (code : ℕ) (output : Output) (len : ℕ)
    → wanted ≡ wanted_of job end.rank → end.answer ≡ finished.Ended code
    → ((other : Output) (size : ℕ) → OutputBegins wanted end.output other size
    → ReadsThat other size (Ok (output, len)))
    → (status_code output.status ≡ code → ⊥) → FailsWith job end code
ended_apart job end wanted code output len is ended only apart = record {
  ended = ended;
  none = λ other given.
      let so = another job end wanted code output len is ended only other given in apart (sym so.1);
}

-- it is all that the child gave, and the child ended so
pub gave_output : (job : JobState) (end : ChildEnd) (wanted : Wanted) (code : ℕ) (output : Output) (len : ℕ)
    → wanted ≡ wanted_of job end.rank → end.answer ≡ finished.Ended code
    → OutputBegins wanted end.output output len → length end.output ≤ len → code ≤ 1
    → status_code output.status ≡ code → GivesOutput job end output
gave_output job end wanted code output len is ended begins all low same = record {
  is_output = subst (λ (it : Wanted). IsOutput it output) is begins.is_output;
  text = begins.text ∙ ap (λ z. output_text wanted.version output ++ z) (no_rest begins.rest none)
      ∙ append-nil (output_text wanted.version output)
      ∙ ap (λ (it : Wanted). output_text it.version output) is;
  over = low_over output.status (omega arith);
  ended = ended ∙ ap (λ n. finished.Ended n) (sym same);
}
  where
    no_rest : (rest : List ℕ) → length rest ≡ 0 → rest ≡ []
    no_rest [] h = refl
    no_rest (byte ∷ rest) h = absurd (omega arith)

    none : length begins.rest ≡ 0
    none =
        let long = ap length begins.text ∙ length-append (output_text wanted.version output) begins.rest in
        let size = begins.size in
        omega arith
