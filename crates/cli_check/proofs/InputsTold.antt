-- What a refusal behind a job's text means, it means of one line and for one reason.
use Rattle.std.proofs.Common.{◌≡◌, ◌⊎◌, inl, inr, ℕ, suc, ◌+◌, ◌<◌, ◌^◌, List, [], ◌∷◌, ◌++◌, length, drop, refl, sym, ap}
use Rattle.std.proofs.Common.{ap₂, subst, ◌∙◌, arith, append_assoc, length-append, Bool, true, ne_eqb, true≢false, ◌||◌}
use Rattle.std.proofs.lemmas.Bool.{cases_eq}
use Rattle.wire_message.specs.Message.{is_version}
use Rattle.text_trace.specs.LineRefusals.{Means}
use Rattle.text_trace.specs.OutputReading.{output_at}
use Rattle.text_trace.specs.OutputRefusals.{output_kind}
use Rattle.text_trace.specs.OutputText.{IsOutput, output_text}
use Rattle.text_trace.specs.declared.output.Output.{Output}
use Rattle.text_trace.specs.declared.output.Wanted.{Wanted}
use Rattle.text_trace.proofs.LineLaws.{ok_is}
use Rattle.text_trace.proofs.LineRefused.{means_no_text, means_once}
use Rattle.text_trace.proofs.OutputLaws.{output_again}
use Rattle.text_trace.proofs.OutputRefused.{output_has}
use Rattle.base_text.specs.declared.why.LineWhy.{LineWhy}
use Rattle.text_job.specs.declared.job.Job.{Job as JobState}
use Rattle.text_job.specs.JobText.{BeginsWith}
use Rattle.cli_check.specs.CheckInputs.{AreOutputs, HasMoreBehind, IsBadOutput, IsMeantBehind, OutputsOf, lines_until}
use Rattle.cli_check.specs.CheckInputs.{outputs_text, wanted_of}

version_fits : (version : ℕ) → is_version version ≡ true → version < 2 ^ 64
version_fits version is = elim (cases_eq version 1) [
  | inl e ↦ omega (arith, e)
  | inr first ↦ elim (cases_eq version 2) [
    | inl e ↦ omega (arith, e)
    | inr second ↦
        absurd (true≢false (sym is ∙ ap₂ (λ (a b : Bool). a || b) (ne_eqb version 1 first) (ne_eqb version 2 second)))
  ]
]

-- the version of a job at the beginning of bytes
pub prefix_fits : (job : JobState) (size : ℕ) (bytes : List ℕ) → BeginsWith job size bytes
    → job.settings.version < 2 ^ 64
prefix_fits job size bytes prefix = version_fits job.settings.version prefix.is_job.settings.version

-- ---- outputs stand there in one way

output_same : (wanted : Wanted) (one two : Output) (x y : List ℕ) → wanted.version < 2 ^ 64 → IsOutput wanted one
    → IsOutput wanted two → output_text wanted.version one ++ x ≡ output_text wanted.version two ++ y
    → (one ≡ two) × (x ≡ y)
output_same wanted one two x y fits first second e =
    let same = ok_is (one, x) (two, y)
    (sym (output_again wanted one x fits first) ∙ ap (output_at wanted) e ∙ output_again wanted two y fits second) in
    (ap (λ (p : Output × List ℕ). p.0) same, ap (λ (p : Output × List ℕ). p.1) same)

-- one begins with the other and another output
record Longer (job : JobState) (rank : ℕ) (less more : List Output) (rest left : List ℕ) : Type 0 where
  pub output : Output
  pub others : List Output
  pub is : IsOutput (wanted_of job (rank + length less)) output
  pub more_is : more ≡ less ++ output ∷ others
  pub rest_is : rest ≡ output_text job.settings.version output ++ (outputs_text job.settings.version others ++ left)

data Compared (job : JobState) (rank : ℕ) (one two : List Output) (rest left : List ℕ) : Type 0 where
  Same : one ≡ two → rest ≡ left → Compared job rank one two rest left
  First : Longer job rank two one left rest → Compared job rank one two rest left
  Second : Longer job rank one two rest left → Compared job rank one two rest left

longer_more : (job : JobState) (rank : ℕ) (a b : Output) (less more : List Output) (rest left : List ℕ) → a ≡ b
    → Longer job (rank + 1) less more rest left → Longer job rank (a ∷ less) (b ∷ more) rest left
longer_more job rank a b less more rest left e it =
    let same : (rank + 1) + length less ≡ rank + suc (length less) = omega arith in
    record {
      output = it.output;
      others = it.others;
      is = subst (λ (n : ℕ). IsOutput (wanted_of job n) it.output) same it.is;
      more_is = ap (λ (o : Output). o ∷ more) (sym e) ∙ ap (λ (os : List Output). a ∷ os) it.more_is;
      rest_is = it.rest_is;
    }

on_compared : (job : JobState) (rank : ℕ) (a b : Output) (one two : List Output) (rest left : List ℕ) → a ≡ b
    → Compared job (rank + 1) one two rest left → Compared job rank (a ∷ one) (b ∷ two) rest left
on_compared job rank a b one two rest left e (Same outputs rests) =
    Same (ap (λ (o : Output). o ∷ one) e ∙ ap (λ (os : List Output). b ∷ os) outputs) rests
on_compared job rank a b one two rest left e (First it) = First (longer_more job rank b a two one left rest (sym e) it)
on_compared job rank a b one two rest left e (Second it) = Second (longer_more job rank a b one two rest left e it)

compared : (job : JobState) (rank : ℕ) (one two : List Output) (rest left : List ℕ) → job.settings.version < 2 ^ 64
    → AreOutputs job rank one → AreOutputs job rank two
    → outputs_text job.settings.version one ++ rest ≡ outputs_text job.settings.version two ++ left
    → Compared job rank one two rest left
compared job rank [] [] rest left fits first second e = Same refl e
compared job rank [] (b ∷ two) rest left fits first second e =
    let here : rank ≡ rank + 0 = omega arith in
    Second (record {
      output = b;
      others = two;
      is = subst (λ (n : ℕ). IsOutput (wanted_of job n) b) here second.0;
      more_is = refl;
      rest_is = e
          ∙ append_assoc (output_text job.settings.version b) (outputs_text job.settings.version two) left;
    })
compared job rank (a ∷ one) [] rest left fits first second e =
    let here : rank ≡ rank + 0 = omega arith in
    First (record {
      output = a;
      others = one;
      is = subst (λ (n : ℕ). IsOutput (wanted_of job n) a) here first.0;
      more_is = refl;
      rest_is = sym e
          ∙ append_assoc (output_text job.settings.version a) (outputs_text job.settings.version one) rest;
    })
compared job rank (a ∷ one) (b ∷ two) rest left fits first second e =
    let version = job.settings.version in
    let same = output_same (wanted_of job rank) a b (outputs_text version one ++ rest) (outputs_text version two ++ left)
    fits first.0 second.0 (sym (append_assoc (output_text version a) (outputs_text version one) rest) ∙ e
    ∙ append_assoc (output_text version b) (outputs_text version two) left) in
    on_compared job rank a b one two rest left same.0
    (compared job (rank + 1) one two rest left fits first.1 second.1 same.1)

-- ---- one line and one reason

module _ (place : OutputsOf) (fits : place.job.settings.version < 2 ^ 64) where
  abbrev version : ℕ
  version = place.job.settings.version

  -- where an output is bad, none stands
  none_there : (line : ℕ) (reason : LineWhy) (bad : IsBadOutput place line reason) (output : Output) (x : List ℕ)
      → IsOutput (wanted_of place.job (0 + length bad.outputs)) output
      → bad.rest ≡ output_text version output ++ x → ⊥
  none_there line reason bad output x is text =
      let here : 0 + length bad.outputs ≡ length bad.outputs = omega arith in
      let wanted = wanted_of place.job (length bad.outputs) in
      means_no_text (output_kind wanted) (output_has wanted fits) bad.rest bad.own_line bad.own_reason output x bad.means
      (subst (λ (n : ℕ). IsOutput (wanted_of place.job n) output) here is) text

  abbrev SameBad : (line other : ℕ) → (reason why : LineWhy) → Type 0
  SameBad line other reason why = (line ≡ other) × (reason ≡ why)

  -- where two of the same outputs are bad
  bad_same : (line other : ℕ) (reason why : LineWhy) (one : IsBadOutput place line reason)
      (two : IsBadOutput place other why) → one.outputs ≡ two.outputs → one.rest ≡ two.rest
      → SameBad line other reason why
  bad_same line other reason why one two outputs rests =
      let wanted = wanted_of place.job (length two.outputs) in
      let first = subst (λ (os : List Output). Means (output_kind (wanted_of place.job (length os))) one.rest one.own_line
      one.own_reason) outputs one.means in
      let same = means_once (output_kind wanted) (output_has wanted fits) two.rest one.own_line two.own_line
      one.own_reason two.own_reason
      (subst (λ (r : List ℕ). Means (output_kind wanted) r one.own_line one.own_reason) rests first) two.means in (
        one.line_is ∙ ap₂ (λ (r : List ℕ) (n : ℕ). lines_until place.bytes r + n) rests same.0 ∙ sym two.line_is,
        one.reason_is ∙ same.1 ∙ sym two.reason_is,
      )

  pub bad_once : (line other : ℕ) (reason why : LineWhy) → IsBadOutput place line reason → IsBadOutput place other why
      → SameBad line other reason why
  bad_once line other reason why one two =
      by (compared place.job 0 one.outputs two.outputs one.rest two.rest fits one.are two.are (sym one.text ∙ two.text))
    where
      by : Compared place.job 0 one.outputs two.outputs one.rest two.rest → SameBad line other reason why
      by (Same outputs rests) = bad_same line other reason why one two outputs rests
      by (First it) = absurd (none_there other why two it.output _ it.is it.rest_is)
      by (Second it) = absurd (none_there line reason one it.output _ it.is it.rest_is)

  -- where outputs of all nodes stand there, none is bad
  pub none_bad : (outputs : List Output) (rest : List ℕ) (line : ℕ) (reason : LineWhy)
      → length outputs ≡ place.job.settings.nodes → AreOutputs place.job 0 outputs
      → drop place.from place.bytes ≡ outputs_text version outputs ++ rest → IsBadOutput place line reason → ⊥
  none_bad outputs rest line reason count are text bad =
      by (compared place.job 0 bad.outputs outputs bad.rest rest fits bad.are are (sym bad.text ∙ text))
    where
      fewer : length bad.outputs < length outputs
      fewer = let few = bad.fewer in omega arith

      by : Compared place.job 0 bad.outputs outputs bad.rest rest → ⊥
      by (Same same rests) = let long = ap length same in absurd (omega (arith, fewer, long))
      by (First it) =
          let long = ap length it.more_is ∙ length-append outputs (it.output ∷ it.others) in
          absurd (omega (arith, fewer, long))
      by (Second it) = none_there line reason bad it.output _ it.is it.rest_is

  -- and they stand there in one way
  pub all_once : (one two : List Output) (rest left : List ℕ) → length one ≡ place.job.settings.nodes
      → length two ≡ place.job.settings.nodes → AreOutputs place.job 0 one → AreOutputs place.job 0 two
      → drop place.from place.bytes ≡ outputs_text version one ++ rest
      → drop place.from place.bytes ≡ outputs_text version two ++ left → rest ≡ left
  all_once one two rest left count other first second text again =
      by (compared place.job 0 one two rest left fits first second (sym text ∙ again))
    where
      by : Compared place.job 0 one two rest left → rest ≡ left
      by (Same same rests) = rests
      by (First it) =
          let long = ap length it.more_is ∙ length-append two (it.output ∷ it.others) in
          absurd (omega (arith, count, other, long))
      by (Second it) =
          let long = ap length it.more_is ∙ length-append one (it.output ∷ it.others) in
          absurd (omega (arith, count, other, long))

-- what is meant behind the one job's text
pub meant_there : (job : JobState) (size : ℕ) (bytes : List ℕ) (line : ℕ) (reason : LineWhy)
    → ((other : JobState) (long : ℕ) → BeginsWith other long bytes → (other ≡ job) × (long ≡ size))
    → IsMeantBehind bytes line reason
    → IsBadOutput (record { job = job; bytes = bytes; from = size }) line reason
    ⊎ HasMoreBehind (record { job = job; bytes = bytes; from = size }) line reason
meant_there job size bytes line reason one meant =
    let is = one meant.job meant.size meant.prefix in
    subst (λ (it : JobState). IsBadOutput (record { job = it; bytes = bytes; from = size }) line reason
    ⊎ HasMoreBehind (record { job = it; bytes = bytes; from = size }) line reason) is.0
    (subst (λ (n : ℕ). IsBadOutput (record { job = meant.job; bytes = bytes; from = n }) line reason
    ⊎ HasMoreBehind (record { job = meant.job; bytes = bytes; from = n }) line reason) is.1 meant.means)
