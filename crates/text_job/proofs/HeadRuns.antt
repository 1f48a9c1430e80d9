-- The head of a job, line by line.
use Rattle.std.proofs.Common.{◌≡◌, ℕ, ◌+◌, List, [], ◌∷◌, Option, Some, None, Result, Ok, Err, Bool, true, false}
use Rattle.std.proofs.Common.{cond, refl, ap, sym, ◌∙◌}
use Rattle.text_job.specs.Scopes.{scope_of}
use Rattle.text_calls.specs.declared.scope.Scope.{Scope}
use Rattle.base_text.specs.Lines.{first_word, behind_word, after_newline}
use Rattle.base_text.specs.Lines as options
use Rattle.text_calls.specs.Forms.{none_at, named_at, if_passes}
use Rattle.text_job.specs.Places.{Setting, Version, Nodes, Credits, Threads, Segment, Last, Resend, Patience}
use Rattle.text_job.specs.Places as places
use Rattle.text_job.specs.Places.{AtSetting, AtSieve, AtPairs, setting_fits}
use Rattle.text_job.specs.Places.{setting_row, item_form}
use Rattle.text_job.specs.JobReading.{BadLine, LeadingJob, start, least_job, line_at, with_number, behind_setting}
use Rattle.text_job.specs.JobReading.{read}
use Rattle.base_text.specs.Chains.{◌>>=◌}
use Rattle.text_job.specs.HeadReading.{found_in_line, number_line, fitting_line, number_why, number_from}
use Rattle.text_job.specs.HeadReading.{setting_form}
use Rattle.text_job.specs.HeadReading.{sieve_line, sieve_why, head_at}
use Rattle.text_job.specs.declared.job.Job.{Job}
use Rattle.text_job.specs.declared.job.SieveRule.{SieveRule}
use Rattle.base_text.proofs.Prefixes.{cond_yes, cond_no}
use Rattle.text_job.proofs.LineRuns.{read_on, line_bad}

-- what passes a test before the end of the line passes it behind it
yes : {A : Type 0} (test : A → Bool) (a : A) (o : Option (List ℕ)) → test a ≡ true → ◌≡◌ {A = Option (A × List ℕ)}
    (options.◌>>=◌ o (λ r. Some (a, r))) (options.◌>>=◌ {B = A × List ℕ} (options.◌>>=◌ {B = A × List ℕ} o
    (λ r. Some (a, r))) (if_passes test))
yes test a None e = refl
yes test a (Some r) e = sym (cond_yes (test a) (Some (a, r)) None e)

no : {A : Type 0} (test : A → Bool) (a : A) (o : Option (List ℕ)) → test a ≡ false
    → ◌≡◌ {A = Option (A × List ℕ)} None (options.◌>>=◌ {B = A × List ℕ} (options.◌>>=◌ {B = A × List ℕ} o
    (λ r. Some (a, r))) (if_passes test))
no test a None e = refl
no test a (Some r) e = sym (cond_no (test a) (Some (a, r)) None e)

-- the end of a line
abbrev pub to_end : {A : Type 0} → A × List ℕ → Option (A × List ℕ)
to_end x = options.◌>>=◌ (after_newline x.1) (λ r. Some (x.0, r))

tested_by : {A : Type 0} (test : A → Bool) (x : A × List ℕ) (t : Bool) → test x.0 ≡ t → ◌≡◌ {A = Option (A × List ℕ)}
    (options.◌>>=◌ {B = A × List ℕ} (if_passes test x) to_end) (options.◌>>=◌ {B = A × List ℕ} (to_end x) (if_passes test))
tested_by {A} test x true e = ap (λ (b : Bool). options.◌>>=◌ {A = A × List ℕ} {B = A × List ℕ} (cond b
    (Some x) None) to_end) e ∙ yes test x.0 (after_newline x.1) e
tested_by {A} test x false e = ap (λ (b : Bool). options.◌>>=◌ {A = A × List ℕ} {B = A × List ℕ} (cond b
    (Some x) None) to_end) e ∙ no test x.0 (after_newline x.1) e

tested_of : {A : Type 0} (test : A → Bool) (o : Option (A × List ℕ)) → ◌≡◌ {A = Option (A × List ℕ)}
    (options.◌>>=◌ {B = A × List ℕ} (options.◌>>=◌ {B = A × List ℕ} o (if_passes test)) to_end)
    (options.◌>>=◌ {B = A × List ℕ} (options.◌>>=◌ {B = A × List ℕ} (options.◌>>=◌ {B = A × List ℕ} o
    (if_passes (λ a. true))) to_end) (if_passes test))
tested_of test None = refl
tested_of test (Some x) = tested_by test x (test x.0) refl

-- the line of a setting
tested : (setting : Setting) (scope : Scope) (bytes : List ℕ) → line_at (AtSetting setting) scope bytes
    ≡ fitting_line (setting_form setting scope.settings) bytes
unfolding fitting_line number_line
tested setting scope bytes = tested_of (setting_fits setting scope.settings) (named_at none_at
    (setting_row setting ∷ []) (first_word bytes) (behind_word bytes))

-- a line is read by its setting, and the others from there on
abbrev pub StepsOn : Setting → Job → (line : ℕ) → List ℕ → Type 0
StepsOn setting job line bytes = read (record { place = AtSetting setting; job = job }) line bytes
    ≡ (number_from (setting_form setting job.settings) line bytes >>= λ x. read
    (record { place = behind_setting setting; job = with_number setting x.0 job }) (line + 1) x.1)

steps_by : (setting : Setting) (job : Job) (line : ℕ) (bytes : List ℕ) (o : Option (ℕ × List ℕ)) → line_at
    (AtSetting setting) (scope_of job) bytes ≡ o → StepsOn setting job line bytes
unfolding number_from number_why
steps_by setting job line bytes None e = line_bad (AtSetting setting) tt job line bytes e ∙ rw
    (sym (tested setting (scope_of job) bytes) ∙ e) refl
steps_by setting job line bytes (Some x) e =
    read_on (AtSetting setting) job line bytes x.1 x.0 (record {
      place = behind_setting setting;
      job = with_number setting x.0 job;
    }) e refl
    ∙ rw (sym (tested setting (scope_of job) bytes) ∙ e) refl

steps_on : (setting : Setting) (job : Job) (line : ℕ) (bytes : List ℕ) → StepsOn setting job line bytes
steps_on setting job line bytes = steps_by setting job line bytes (line_at (AtSetting setting) (scope_of job) bytes) refl

-- the line of the sieve
sieve_by : (job : Job) (line : ℕ) (bytes : List ℕ) (o : Option (SieveRule × List ℕ))
    → line_at AtSieve (scope_of job) bytes ≡ o
    → read (record { place = AtSieve; job = job }) line bytes ≡
    (found_in_line line (sieve_why bytes) (sieve_line bytes) >>= λ x. read
    (record { place = AtPairs; job = record job { sieve = x.0 } }) (line + 1) x.1)
unfolding sieve_line sieve_why
sieve_by job line bytes None e = line_bad AtSieve tt job line bytes e ∙ rw e refl
sieve_by job line bytes (Some x) e = read_on AtSieve job line bytes x.1 x.0
    (record { place = AtPairs; job = record job { sieve = x.0 } }) e refl ∙ rw e refl

-- what is read on in two steps
then_on : {A B C : Type 0} (r : Result A BadLine) (f : A → Result B BadLine) (k : B → Result C BadLine) (g : A
    → Result C BadLine) → ((x : A) → g x ≡ (f x >>= k)) → (r >>= g) ≡ ((r >>= f) >>= k)
then_on (Ok x) f k g h = h x
then_on (Err e) f k g h = refl

-- the pairs come behind the head
abbrev pub pairs_on : Job × List ℕ → Result LeadingJob BadLine
pairs_on x = read (record { place = AtPairs; job = x.0 }) 11 x.1

pub head_reads : (bytes : List ℕ) → read start 1 bytes ≡ (head_at bytes >>= pairs_on)
unfolding head_at
head_reads bytes =
    steps_on Version least_job 1 bytes ∙ then_on _ _ pairs_on _ (λ version.
    let one : Job = with_number Version version.0 least_job in
    steps_on places.Job one 2 version.1 ∙ then_on _ _ pairs_on _ (λ job.
    let two = with_number places.Job job.0 one in
    steps_on Nodes two 3 job.1 ∙ then_on _ _ pairs_on _ (λ nodes.
    let three = with_number Nodes nodes.0 two in
    steps_on Credits three 4 nodes.1 ∙ then_on _ _ pairs_on _ (λ credits.
    let four = with_number Credits credits.0 three in
    steps_on Threads four 5 credits.1 ∙ then_on _ _ pairs_on _ (λ threads.
    let five = with_number Threads threads.0 four in
    steps_on Segment five 6 threads.1 ∙ then_on _ _ pairs_on _ (λ segment.
    let six = with_number Segment segment.0 five in
    steps_on Last six 7 segment.1 ∙ then_on _ _ pairs_on _ (λ last.
    let seven = with_number Last last.0 six in
    steps_on Resend seven 8 last.1 ∙ then_on _ _ pairs_on _ (λ resend.
    let eight = with_number Resend resend.0 seven in
    steps_on Patience eight 9 resend.1 ∙ then_on _ _ pairs_on _ (λ patience.
    let nine = with_number Patience patience.0 eight in
    sieve_by nine 10 patience.1 (line_at AtSieve (scope_of nine) patience.1) refl
    ∙ then_on {A = SieveRule × List ℕ} (found_in_line 10 (sieve_why patience.1) (sieve_line patience.1)) (λ x. Ok
    (record nine { sieve = x.0 }, x.1)) pairs_on _ (λ rule. refl))))))))))
