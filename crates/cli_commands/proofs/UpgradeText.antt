-- The text of a job with datagrams of version 2.
use Rattle.std.proofs.Common.{◌≡◌, ℕ, ◌+◌, List, [], ◌∷◌, ◌++◌, length, drop, Bool, true, Option, Some, None, refl}
use Rattle.std.proofs.Common.{sym, ap, ◌∙◌, arith, codes, length-append, append-nil, lit<}
use Rattle.std.proofs.lemmas.Fmt.{decimal_digit}
use Rattle.std.specs.Prelude.{decimal}
use Rattle.wire_message.specs.Content.{is_version}
use Rattle.wire_message.specs.Parameters.{Parameters, credits_in_all, credits_of, as_version_2}
use Rattle.wire_message.proofs.Keeping.{upgraded_range}
use Rattle.wire_message.proofs.Notified.{each_version}
use Rattle.text_job.specs.declared.job.Job.{Job as JobState}
use Rattle.text_steps.specs.declared.steps.TimedEvent.{TimedEvent}
use Rattle.text_job.specs.Scopes.{scope_of}
use Rattle.text_job.specs.JobText.{IsJob, JobText, Line, job_lines, job_text}
use Rattle.text_job.proofs.Upgrading.{collect_upgraded, schedule_upgraded, scripts_upgraded}
use Rattle.text_job.specs.JobText.{lines_with_scripts}
use Rattle.text_job.specs.JobText.{schedule_lines, spell}
use Rattle.base_text.specs.LineTexts.{Line as Words}
use Rattle.sim_drill.specs.RunText.{is_violated, run_lines}
use Rattle.sim_versions.specs.Upgraded.{in_version}
use Rattle.sim_versions.proofs.Lines.{same_run}
use Rattle.cli_commands.specs.Commands.{end_of}
use Rattle.cli_commands.specs.HowEnds.{said_last}
use Rattle.cli_commands.specs.UpgradeCommand.{world_says}

-- ---- in range

job_in_range : (job : JobState) → IsJob job → IsJob (in_version job 2)
unfolding credits_in_all credits_of
job_in_range job is = record {
  settings = upgraded_range job.settings is.settings;
  segment = is.segment;
  segments = is.segments;
  job_fits = is.job_fits;
  last_fits = is.last_fits;
  sums = λ count. is.sums count;
  some_patience = is.some_patience;
  patience = is.patience;
  sieve = is.sieve;
  atomics = λ has. refl;
  collect = collect_upgraded job.settings job.collect is.collect;
  pieces = is.pieces;
  few_handlers = is.few_handlers;
  handlers = is.handlers;
  apart = is.apart;
  unreserved = is.unreserved;
  scripts = scripts_upgraded (scope_of job) job.scripts is.scripts;
  threads = is.threads;
  schedule = schedule_upgraded (scope_of job) job.schedule is.schedule;
}

-- ---- as long

-- both versions have one digit
one_digit : (version : ℕ) → is_version version ≡ true → length (decimal version) ≡ 1
one_digit version known =
    each_version (λ (n : ℕ). length (decimal n) ≡ 1) version known (ap length (decimal_digit 1 (lit< tt)))
    (ap length (decimal_digit 2 (lit< tt)))

-- the first line with this number, and the others
abbrev begun : (number rest : List ℕ) → List ℕ
begun number rest = ((codes "gasnet" ++ (32 ∷ (number ++ []))) ++ 10 ∷ []) ++ rest

number_length : (number rest : List ℕ)
    → length (((number ++ []) ++ 10 ∷ []) ++ rest) ≡ length number + (1 + length rest)
number_length number rest = simp (length-append, append-nil) (omega arith)

begun_length : (one other rest : List ℕ) → length one ≡ length other
    → length (begun one rest) ≡ length (begun other rest)
begun_length one other rest same =
    let first = number_length one rest in
    let second = number_length other rest in
    omega arith

same_schedule : (settings : Parameters) (schedule : Option (List TimedEvent))
    → schedule_lines (as_version_2 settings) schedule ≡ schedule_lines settings schedule
same_schedule settings None = refl
same_schedule settings (Some events) = refl

-- the lines behind the first one
others : JobState → List ℕ
others job = spell (drop 1 (job_lines job))

others_same : (job : JobState) → others (in_version job 2) ≡ others job
unfolding others
others_same job =
    ap (λ (schedule : List Line). spell (drop 1 (lines_with_scripts job ++ (schedule ++ codes "done" ∷ []))))
    (same_schedule job.settings job.schedule)

text_is : (job : JobState) → job_text job ≡ begun (decimal job.settings.version) (others job)
unfolding others
text_is job = refl

length_same : (job : JobState) → is_version job.settings.version ≡ true
    → length (job_text (in_version job 2)) ≡ length (job_text job)
length_same job known =
    let version = decimal job.settings.version in
    ap length (text_is (in_version job 2))
    ∙ (begun_length (decimal 2) version (others (in_version job 2))
    (one_digit 2 refl ∙ sym (one_digit job.settings.version known))
    ∙ (ap (λ (rest : List ℕ). length (begun version rest)) (others_same job) ∙ sym (ap length (text_is job))))

-- ---- the text

-- the text of a job that was read is one in version 2, too
pub upgraded_text : (job : JobState) (bytes : List ℕ) → JobText job bytes
    → JobText (in_version job 2) (job_text (in_version job 2))
upgraded_text job bytes is = record {
  is_job = job_in_range job is.is_job;
  text = refl;
  within =
      let same = length_same job is.is_job.settings.version in
      let read = ap length is.text in
      let fits = is.within in
      omega arith;
}

-- `world` says the same of both
pub world_same : (job : JobState) → IsJob job → world_says (in_version job 2) ≡ world_says job
world_same job is =
    let same = same_run job 2 is refl is.settings.nodes in
    ap (λ (lines : List Words). said_last lines (end_of (is_violated (in_version job 2)))) same.lines
    ∙ ap (λ (violated : Bool). said_last (run_lines job) (end_of violated)) same.violated
