-- Reading an input: the job at its prefix, and the outputs behind it, one after another.
use Rattle.std.proofs.Common.{◌≡◌, ℕ, zero, suc, ◌+◌, ◌-◌, ◌<◌, ◌≤◌, List, [], ◌∷◌, ◌++◌, length, drop, take}
use Rattle.std.proofs.Common.{Result, Ok, Err, refl, sym, ap, subst, ◌∙◌, arith, append_assoc, append-nil}
use Rattle.std.proofs.Common.{length-append, length-drop}
use Rattle.std.proofs.Common.{drop-drop, drop-cons, add-one, ◌⊎◌, inl, inr, Option, Some, slice_get}
use Rattle.std.specs.Prelude.{All, MatchResult}
use Rattle.std.specs.Io.KnownBytes.{Consumes, IsAtEnd}
use Rattle.std.proofs.lemmas.Bool.{lt-ltb}
use Rattle.std.proofs.lemmas.List.{drop_all}
use Rattle.std.proofs.lemmas.List.Concat.{flat_map-append}
use Rattle.std.proofs.lemmas.List.Elements.{All-nil, All-push}
use Rattle.std.proofs.lemmas.Option.{get_or_from_slice_get, same_Some, slice_get_within, slice_get_cases}
use Rattle.text_trace.specs.OutputReading.{GivesOutput, IsNear, ReadsOutput, output_at}
use Rattle.text_trace.specs.LineRefusals.{IsMeant, Means}
use Rattle.text_trace.specs.OutputRefusals.{output_kind}
use Rattle.text_trace.specs.OutputText.{IsOutput, OutputBegins, output_text}
use Rattle.text_trace.specs.TraceReading.{BadLine as BadTraceLine}
use Rattle.text_trace.specs.declared.fault.TraceFault.{TraceFault}
use Rattle.text_trace.specs.declared.fault.TraceFault.TheVariants as tracefaults
use Rattle.text_trace.specs.declared.output.Output.{Output}
use Rattle.text_trace.specs.declared.output.Wanted.{Wanted}
use Rattle.text_job.specs.JobReading.{prefix_of}
use Rattle.text_job.specs.JobText.{BeginsWith, job_text}
use Rattle.text_job.specs.Refusals.{PrefixMeans, IsPrefixMeant, IsNoMemory}
use Rattle.text_job.specs.Refusals as refusals
use Rattle.text_job.specs.declared.fault.JobFault.{JobFault}
use Rattle.text_job.specs.declared.fault.JobFault.TheVariants as jobfaults
use Rattle.base_text.specs.declared.why.LineWhy.{LineWhy}
use Rattle.base_text.specs.declared.why.LineWhy.TheVariants as why
use Rattle.text_job.specs.declared.job.Job.{Job as JobState}
use Rattle.cli_check.specs.CheckInputs.{AreOutputs, AreRead, AreUnread, HaveTraces, InputText, IsBadInput, IsInput}
use Rattle.cli_check.specs.CheckInputs.{IsTraceOf, OutputsOf, OutputsRead, StandThere, after_output, all_of, bad_behind}
use Rattle.cli_check.specs.CheckInputs.{input_limit, lines_in, outputs_at, outputs_text, wanted_of}
use Rattle.cli_check.specs.CheckInputs.{with_outputs, IsRefused, IsUnread, ReadsOutputs, TakesInput, TakesNone}
use Rattle.cli_check.specs.CheckInputs.{HasMoreBehind, fault_behind, lines_until}
use Rattle.cli_check.proofs.InputsTold.{all_once, bad_once, prefix_fits, meant_there, none_bad}
use Rattle.cli_check.specs.declared.input.CheckInput.{CheckInput}
use Rattle.cli_check.specs.declared.input.InputFault.{InputFault}
use Rattle.cli_check.specs.declared.input.InputFault.TheVariants as faults

-- ---- outputs

-- the outputs that were read so far, of the nodes below this rank, and where they end
pub record ReadSoFar (place : OutputsOf) (outputs : List Output) (rank at : ℕ) : Type 0 where
  pub count : length outputs ≡ rank
  pub within : at ≤ length place.bytes
  pub read : outputs_at place.job place.bytes place.from 0 place.job.settings.nodes
      ≡ with_outputs outputs (outputs_at place.job place.bytes at rank (place.job.settings.nodes - rank))
  pub are : AreOutputs place.job 0 outputs
  pub text : drop place.from place.bytes ≡ outputs_text place.job.settings.version outputs ++ drop at place.bytes
  pub traces : HaveTraces place.job outputs
  -- those that stand there begin with these
  pub only : (others : List Output) (rest : List ℕ) → StandThere place others rest
      → (others ≡ outputs ++ drop rank others)
      × (drop at place.bytes ≡ outputs_text place.job.settings.version (drop rank others) ++ rest)

-- ---- lists

drop_prefix : (xs ys : List ℕ) → drop (length xs) (xs ++ ys) ≡ ys
drop_prefix [] ys = refl
drop_prefix (x ∷ xs) ys = drop_prefix xs ys

-- the output at a place
are_at : (job : JobState) (rank : ℕ) (outputs : List Output) (place : ℕ) (output : Output) → AreOutputs job rank outputs
    → slice_get outputs place ≡ Some output → IsOutput (wanted_of job (rank + place)) output
are_at job rank [] place output are there = absurd (cc)
are_at job rank (first ∷ outputs) zero output are there =
    let here : rank ≡ rank + 0 = omega arith in
    subst (λ n. IsOutput (wanted_of job n) output) here
    (subst (IsOutput (wanted_of job rank)) (same_Some first output there) are.0)
are_at job rank (first ∷ outputs) (suc place) output are there =
    let same : (rank + 1) + place ≡ rank + suc place = omega arith in
    subst (λ n. IsOutput (wanted_of job n) output) same (are_at job (rank + 1) outputs place output are.1 there)

-- one output more
are_more : (job : JobState) (rank : ℕ) (outputs : List Output) (output : Output) → AreOutputs job rank outputs
    → IsOutput (wanted_of job (rank + length outputs)) output → AreOutputs job rank (outputs ++ output ∷ [])
are_more job rank [] output are is =
    let here : rank + 0 ≡ rank = omega arith in
    (subst (λ n. IsOutput (wanted_of job n) output) here is, tt)
are_more job rank (first ∷ outputs) output are is =
    let same : rank + suc (length outputs) ≡ (rank + 1) + length outputs = omega arith in
    (are.0, are_more job (rank + 1) outputs output are.1 (subst (λ n. IsOutput (wanted_of job n) output) same is))

-- ---- reading outputs one by one

with_none : (read : OutputsRead) → with_outputs [] read ≡ read
with_none (Ok read) = refl
with_none (Err bad) = refl

with_more : (first second : List Output) (read : OutputsRead)
    → with_outputs first (with_outputs second read) ≡ with_outputs (first ++ second) read
with_more first second (Ok read) =
    ap (λ (all : List Output). Ok (all, read.1)) (sym (append_assoc first second read.0))
with_more first second (Err bad) = refl

outputs_none : (job : JobState) (bytes : List ℕ) (at rank : ℕ) → outputs_at job bytes at rank zero ≡ Ok ([], at)
unfolding outputs_at
outputs_none job bytes at rank = refl

outputs_next : (job : JobState) (bytes : List ℕ) (at rank count : ℕ) (output : Output) (rest : List ℕ)
    → output_at (wanted_of job rank) (drop at bytes) ≡ Ok (output, rest)
    → outputs_at job bytes at rank (suc count)
    ≡ with_outputs (output ∷ []) (outputs_at job bytes (length bytes - length rest) (rank + 1) count)
unfolding outputs_at
outputs_next job bytes at rank count output rest read =
    ap (after_output bytes at (λ next. outputs_at job bytes next (rank + 1) count)) read

outputs_bad : (job : JobState) (bytes : List ℕ) (at rank count : ℕ) (bad : BadTraceLine)
    → output_at (wanted_of job rank) (drop at bytes) ≡ Err bad
    → outputs_at job bytes at rank (suc count) ≡ Err (bad_behind (take at bytes) bad)
unfolding outputs_at
outputs_bad job bytes at rank count bad read =
    ap (after_output bytes at (λ next. outputs_at job bytes next (rank + 1) count)) read

-- before the first one
pub read_start : (place : OutputsOf) → place.from ≤ length place.bytes → ReadSoFar place [] 0 place.from
read_start place within =
    let all : place.job.settings.nodes ≡ place.job.settings.nodes - 0 = omega arith in
    record {
      count = refl;
      within = within;
      read = sym (with_none (outputs_at place.job place.bytes place.from 0 (place.job.settings.nodes - 0))
          ∙ ap (outputs_at place.job place.bytes place.from 0) (sym all));
      are = tt;
      text = refl;
      traces = All-nil (λ (output : Output). IsTraceOf place.job output.trace);
      only = λ others rest there. (refl, there.text);
    }

-- what stands there next, where there is some
pub record Next (place : OutputsOf) (rank at : ℕ) (others : List Output) (rest : List ℕ) : Type 0 where
  pub output : Output
  pub all : drop rank others ≡ output ∷ drop (rank + 1) others
  pub behind : drop at place.bytes ≡ output_text place.job.settings.version output
      ++ (outputs_text place.job.settings.version (drop (rank + 1) others) ++ rest)
  pub begins : OutputBegins (wanted_of place.job rank) (drop at place.bytes) output
      (length (output_text place.job.settings.version output))

next_there : (place : OutputsOf) (outputs : List Output) (rank at : ℕ) (others : List Output) (rest : List ℕ)
    → rank < place.job.settings.nodes → ReadSoFar place outputs rank at → StandThere place others rest
    → Next place rank at others rest
next_there place outputs rank at others rest low so there =
    elim (slice_get_cases others rank).1 [
      | inl found ↦ it_is found.0 found.2
      | inr past ↦ let few = past.0 in let all = there.nodes in absurd (omega arith)
    ]
  where
    version : ℕ
    version = place.job.settings.version

    it_is : (output : Output) → slice_get others rank ≡ Some output → Next place rank at others rest
    it_is output some =
        let next : drop rank others ≡ output ∷ drop (rank + 1) others =
        drop-cons others rank output (slice_get_within others rank output some)
        ∙ ap (λ (one : Output). one ∷ drop (suc rank) others)
        (get_or_from_slice_get others rank output output some)
        ∙ ap (λ (n : ℕ). output ∷ drop n others) (sym (add-one rank)) in
        let behind : drop at place.bytes ≡ output_text version output
        ++ (outputs_text version (drop (rank + 1) others) ++ rest) =
        (so.only others rest there).1
        ∙ ap (λ (left : List Output). outputs_text version left ++ rest) next
        ∙ append_assoc (output_text version output) (outputs_text version (drop (rank + 1) others)) rest in
        let same : 0 + rank ≡ rank = omega arith in
        record {
          output = output;
          all = next;
          behind = behind;
          begins = record {
            is_output = subst (λ n. IsOutput (wanted_of place.job n) output) same
                (are_at place.job 0 others rank output there.are some);
            rest = outputs_text version (drop (rank + 1) others) ++ rest;
            text = behind;
            size = refl;
          };
        }

-- what is told of an output that was read at the beginning of these bytes
pub record IsRead (wanted : Wanted) (bytes : List ℕ) (output : Output) (len : ℕ) : Type 0 where
  pub begins : OutputBegins wanted bytes output len
  pub gives : (other : Output) (size : ℕ) → OutputBegins wanted bytes other size
      → GivesOutput other size (Ok (output, len))
  pub reads : ReadsOutput (length bytes) (Ok (output, len)) (output_at wanted bytes)
  pub threads : All (λ entry. entry.thread < wanted.threads) output.trace.entries
  pub few : length output.trace.entries < length bytes

-- one more was read
read_next : (place : OutputsOf) (outputs : List Output) (rank at len : ℕ) (output : Output)
    → rank < place.job.settings.nodes → length place.bytes ≤ input_limit → ReadSoFar place outputs rank at
    → IsRead (wanted_of place.job rank) (drop at place.bytes) output len
    → ReadSoFar place (outputs ++ output ∷ []) (rank + 1) (at + len)
read_next place outputs rank at len output low size so is_read = record {
  count = length-append outputs (output ∷ []) ∙ ap (λ n. n + 1) so.count;
  within = omega (arith, left, is_read.reads.2, so.within);
  read = so.read ∙ ap (with_outputs outputs)
      (ap (outputs_at place.job bytes at rank) counted
      ∙ outputs_next place.job bytes at rank (nodes - (rank + 1)) output is_read.reads.0 is_read.reads.1)
      ∙ with_more outputs (output ∷ [])
      (outputs_at place.job bytes (length bytes - length is_read.reads.0) (rank + 1) (nodes - (rank + 1)))
      ∙ ap (λ n. with_outputs (outputs ++ output ∷ []) (outputs_at place.job bytes n (rank + 1) (nodes - (rank + 1))))
      ended;
  are = are_more place.job 0 outputs output so.are
      (subst (λ n. IsOutput (wanted_of place.job n) output) numbered is_read.begins.is_output);
  text = so.text ∙ ap (λ z. outputs_text version outputs ++ z) here
      ∙ sym (append_assoc (outputs_text version outputs) (output_text version output) (drop (at + len) bytes))
      ∙ ap (λ z. z ++ drop (at + len) bytes) (sym one_more);
  traces = All-push (λ (one : Output). IsTraceOf place.job one.trace) outputs output so.traces
      (record { threads = is_read.threads; few = omega (arith, is_read.few, left, size) });
  only = λ others rest there.
      let next = next_there place outputs rank at others rest low so there in
      let is = is_read.gives next.output (length (output_text version next.output)) next.begins in (
        (so.only others rest there).0 ∙ ap (λ z. outputs ++ z) next.all
            ∙ ap (λ (one : Output). outputs ++ (one ∷ drop (rank + 1) others)) (sym is.0)
            ∙ sym (append_assoc outputs (output ∷ []) (drop (rank + 1) others)),
        sym (drop-drop len at bytes) ∙ ap (λ n. drop n (drop at bytes)) is.1
            ∙ ap (drop (length (output_text version next.output))) next.behind
            ∙ drop_prefix (output_text version next.output) (outputs_text version (drop (rank + 1) others) ++ rest),
      );
}
  where
    bytes : List ℕ
    bytes = place.bytes

    nodes : ℕ
    nodes = place.job.settings.nodes

    version : ℕ
    version = place.job.settings.version

    left : length (drop at bytes) ≡ length bytes - at
    left = length-drop at bytes

    counted : nodes - rank ≡ suc (nodes - (rank + 1))
    counted = omega arith

    numbered : rank ≡ 0 + length outputs
    numbered = omega (arith, so.count)

    ended : length bytes - length is_read.reads.0 ≡ at + len
    ended = omega (arith, left, is_read.reads.2, so.within)

    here : drop at bytes ≡ output_text version output ++ drop (at + len) bytes
    here =
        is_read.begins.text ∙ ap (λ z. output_text version output ++ z)
        (sym (sym (drop-drop len at bytes) ∙ ap (λ n. drop n (drop at bytes)) is_read.begins.size
        ∙ ap (drop (length (output_text version output))) is_read.begins.text
        ∙ drop_prefix (output_text version output) is_read.begins.rest))

    one_more : outputs_text version (outputs ++ output ∷ [])
        ≡ outputs_text version outputs ++ output_text version output
    one_more =
        flat_map-append (output_text version) outputs (output ∷ [])
        ∙ ap (λ z. outputs_text version outputs ++ z) (append-nil (output_text version output))

-- so it is of what was told where the bytes are those that are left
pub read_more : (place : OutputsOf) (outputs : List Output) (rank at len : ℕ) (wanted : Wanted) (left : List ℕ)
    (output : Output) → wanted ≡ wanted_of place.job rank → left ≡ drop at place.bytes
    → rank < place.job.settings.nodes → length place.bytes ≤ input_limit → ReadSoFar place outputs rank at
    → IsRead wanted left output len → ReadSoFar place (outputs ++ output ∷ []) (rank + 1) (at + len)
read_more place outputs rank at len wanted left output same there low size so is_read =
    read_next place outputs rank at len output low size so
    (subst (λ (bytes : List ℕ). IsRead (wanted_of place.job rank) bytes output len) there
    (subst (λ (it : Wanted). IsRead it left output len) same is_read))

-- all were read
pub read_end : (place : OutputsOf) (outputs : List Output) (rank at : ℕ) → place.job.settings.nodes ≤ rank
    → rank ≤ place.job.settings.nodes → ReadSoFar place outputs rank at → AreRead place outputs at
read_end place outputs rank at high low so =
    let none : place.job.settings.nodes - rank ≡ 0 = omega arith in
    record {
      read = so.read ∙ ap (λ n. with_outputs outputs (outputs_at place.job place.bytes at rank n)) none
          ∙ ap (with_outputs outputs) (outputs_none place.job place.bytes at rank)
          ∙ ap (λ (all : List Output). Ok (all, at)) (append-nil outputs);
      there = record {
        nodes = omega (arith, so.count, high, low);
        are = so.are;
        text = so.text;
      };
      only = λ others rest there.
          (so.only others rest there).0
          ∙ ap (λ z. outputs ++ z) (drop_all rank others (omega (arith, there.nodes, high)))
          ∙ append-nil outputs;
      traces = so.traces;
      within = so.within;
    }

-- where the rest begins
left_is : (at : ℕ) (bytes : List ℕ) → at ≤ length bytes → at ≡ length bytes - length (drop at bytes)
left_is at bytes within = let left = length-drop at bytes in omega (arith, left, within)

-- the next one is none
pub read_bad : (place : OutputsOf) (outputs : List Output) (rank at : ℕ) (bad : BadTraceLine)
    → rank < place.job.settings.nodes → ReadSoFar place outputs rank at
    → ((other : Output) (size : ℕ) → OutputBegins (wanted_of place.job rank) (drop at place.bytes) other size → ⊥)
    → output_at (wanted_of place.job rank) (drop at place.bytes) ≡ Err bad
    → Means (output_kind (wanted_of place.job rank)) (drop at place.bytes) bad.line bad.why
    → AreUnread place (lines_in (take at place.bytes) + bad.line) bad.why
read_bad place outputs rank at bad low so none read means =
    let counted : place.job.settings.nodes - rank ≡ suc (place.job.settings.nodes - (rank + 1)) = omega arith in
    record {
      means = record {
        outputs = outputs;
        fewer = omega (arith, so.count, low);
        are = so.are;
        rest = drop at place.bytes;
        text = so.text;
        own_line = bad.line;
        own_reason = bad.why;
        means = subst (λ (n : ℕ). Means (output_kind (wanted_of place.job n)) (drop at place.bytes) bad.line bad.why)
            (sym so.count) means;
        line_is = ap (λ (n : ℕ). lines_in (take n place.bytes) + bad.line) (left_is at place.bytes so.within);
        reason_is = refl;
      };
      read = so.read ∙ ap (with_outputs outputs)
          (ap (outputs_at place.job place.bytes at rank) counted
          ∙ outputs_bad place.job place.bytes at rank (place.job.settings.nodes - (rank + 1)) bad read);
      none = λ others rest there.
          let next = next_there place outputs rank at others rest low so there in
          none next.output (length (output_text place.job.settings.version next.output)) next.begins;
    }

-- what is told where none was read at the beginning of these bytes
pub record IsUnreadable (wanted : Wanted) (bytes : List ℕ) (fault : TraceFault) : Type 0 where
  pub gives : (other : Output) (size : ℕ) → OutputBegins wanted bytes other size → GivesOutput other size (Err fault)
  pub reads : ReadsOutput (length bytes) (Err fault) (output_at wanted bytes)
  pub meant : IsMeant (output_kind wanted) bytes fault

none_next : (place : OutputsOf) (outputs : List Output) (rank at : ℕ) (fault : TraceFault)
    → rank < place.job.settings.nodes → ReadSoFar place outputs rank at
    → IsUnreadable (wanted_of place.job rank) (drop at place.bytes) fault
    → ReadsOutputs place (Err (fault_behind (take at place.bytes) fault))
none_next place outputs rank at (tracefaults.Bad line reason) low so unreadable =
    read_bad place outputs rank at (record { line = line; why = reason }) low so unreadable.gives unreadable.reads
    unreadable.meant
none_next place outputs rank at tracefaults.NoMemory low so unreadable = tt

-- so it is of what was told where the bytes are those that are left
pub none_more : (place : OutputsOf) (outputs : List Output) (rank at : ℕ) (wanted : Wanted) (before left : List ℕ)
    (fault : TraceFault) (told : InputFault) → told ≡ fault_behind before fault → before ≡ take at place.bytes
    → wanted ≡ wanted_of place.job rank → left ≡ drop at place.bytes → rank < place.job.settings.nodes
    → ReadSoFar place outputs rank at → IsUnreadable wanted left fault → ReadsOutputs place (Err told)
none_more place outputs rank at wanted before left fault told is prefix same there low so unreadable =
    subst (λ (it : InputFault). ReadsOutputs place (Err it))
    (sym (is ∙ ap (λ (bytes : List ℕ). fault_behind bytes fault) prefix))
    (none_next place outputs rank at fault low so
    (subst (λ (bytes : List ℕ). IsUnreadable (wanted_of place.job rank) bytes fault) there
    (subst (λ (it : Wanted). IsUnreadable it left fault) same unreadable)))

-- a line that is near in few bytes is near in many
pub near_more : (few many : ℕ) (fault : TraceFault) → few ≤ many → IsNear few fault → IsNear many fault
near_more few many (tracefaults.Bad line reason) more near = omega (arith, more, near)
near_more few many tracefaults.NoMemory more near = tt

-- ---- the whole input

-- what an input says of its prefix, and of what stands behind it
input_prefix : (job : JobState) (outputs : List Output) (bytes : List ℕ) → InputText job outputs bytes
    → BeginsWith job (length (job_text job)) bytes
input_prefix job outputs bytes text = record {
  is_job = text.is_job;
  rest = outputs_text job.settings.version outputs;
  text = text.text;
  long = refl;
  within = text.short;
}

abbrev pub place_of : JobState → List ℕ → ℕ → OutputsOf
place_of job bytes from = record { job = job; bytes = bytes; from = from }

-- behind the job's text stand the outputs
input_there : (job : JobState) (outputs : List Output) (bytes : List ℕ) (from : ℕ) → from ≡ length (job_text job)
    → InputText job outputs bytes → StandThere (place_of job bytes from) outputs []
input_there job outputs bytes from is text = record {
  nodes = text.nodes;
  are = text.are;
  text = ap (λ n. drop n bytes) is ∙ ap (drop (length (job_text job))) text.text
      ∙ drop_prefix (job_text job) (outputs_text job.settings.version outputs)
      ∙ sym (append-nil (outputs_text job.settings.version outputs));
}

-- the job at the prefix is the one of each input that the bytes are
abbrev pub IsOnePrefix : JobState → (size : ℕ) → List ℕ → Type 0
IsOnePrefix job size bytes =
    (other : JobState) (long : ℕ) → BeginsWith other long bytes → (other ≡ job) × (long ≡ size)

other_there : (job : JobState) (size : ℕ) (bytes : List ℕ) (other : JobState) (others : List Output)
    → IsOnePrefix job size bytes → InputText other others bytes
    → (other ≡ job) × StandThere (place_of job bytes size) others []
other_there job size bytes other others one text =
    let is = one other (length (job_text other)) (input_prefix other others bytes text) in
    let same = subst (λ (it : JobState). InputText it others bytes) is.0 text in
    let long = sym is.1 ∙ ap (λ (it : JobState). length (job_text it)) is.0 in
    (is.0, input_there job others bytes size long same)

-- all was read
pub is_input : (job : JobState) (size : ℕ) (bytes : List ℕ) (outputs : List Output) (end : ℕ)
    → BeginsWith job size bytes → IsOnePrefix job size bytes → length bytes ≤ input_limit
    → AreRead (place_of job bytes size) outputs end → length bytes ≤ end
    → ((line : ℕ) (reason : LineWhy) → PrefixMeans bytes line reason → ⊥) → IsInput bytes job outputs
is_input job size bytes outputs end prefix one within read all good = record {
  unrefused = λ line reason means.
      elim means [
        | inl of_prefix ↦ good line reason of_prefix
        | inr behind ↦
            (let place = place_of job bytes size in
            let fits = prefix_fits job size bytes prefix in
            elim (meant_there job size bytes line reason one behind) [
              | inl bad ↦ none_bad place fits outputs (drop end bytes) line reason read.there.nodes read.there.are
                  read.there.text bad
              | inr more ↦ more.some (sym (all_once place fits outputs more.outputs (drop end bytes) more.rest
                  read.there.nodes more.nodes read.there.are more.are read.there.text more.text)
                  ∙ drop_all end bytes all)
            ])
      ];
  text = record {
    is_job = prefix.is_job;
    short = omega (arith, prefix.long, prefix.within);
    nodes = read.there.nodes;
    are = read.there.are;
    text = prefix.text ∙ ap (λ z. job_text job ++ z)
        (sym (ap (λ n. drop n bytes) prefix.long ∙ ap (drop (length (job_text job))) prefix.text
        ∙ drop_prefix (job_text job) prefix.rest)
        ∙ read.there.text
        ∙ ap (λ z. outputs_text job.settings.version outputs ++ z) (drop_all end bytes all)
        ∙ append-nil (outputs_text job.settings.version outputs));
    within = within;
  };
  one = λ other others text.
      let it = other_there job size bytes other others one text in (it.0, read.only others [] it.1);
  traces = read.traces;
}

-- an output is bad
pub bad_output : (job : JobState) (size : ℕ) (bytes : List ℕ) (line : ℕ) (reason : LineWhy) → BeginsWith job size bytes
    → IsOnePrefix job size bytes → length bytes ≤ input_limit → AreUnread (place_of job bytes size) line reason
    → ((at : ℕ) (why : LineWhy) → PrefixMeans bytes at why → ⊥) → IsBadInput bytes line reason
bad_output job size bytes line reason prefix one short unread good = record {
  within = short;
  line_is = inr (record {
    job = job;
    size = size;
    prefix = prefix;
    read = ap (all_of job bytes) unread.read;
  });
  means = inr (record { job = job; size = size; prefix = prefix; means = inl unread.means });
  only = λ other why means.
      elim means [
        | inl of_prefix ↦ absurd (good other why of_prefix)
        | inr behind ↦
            (let place = place_of job bytes size in
            let fits = prefix_fits job size bytes prefix in
            elim (meant_there job size bytes other why one behind) [
              | inl bad ↦ bad_once place fits line other reason why unread.means bad
              | inr more ↦ absurd (none_bad place fits more.outputs more.rest line reason more.nodes more.are more.text
                  unread.means)
            ])
      ];
  none = λ other others text. unread.none others [] (other_there job size bytes other others one text).1;
}

-- something stands behind them
pub bad_behind_all : (job : JobState) (size : ℕ) (bytes : List ℕ) (outputs : List Output) (end : ℕ)
    → BeginsWith job size bytes → IsOnePrefix job size bytes → length bytes ≤ input_limit
    → AreRead (place_of job bytes size) outputs end → end < length bytes
    → ((at : ℕ) (reason : LineWhy) → PrefixMeans bytes at reason → ⊥)
    → IsBadInput bytes (lines_in (take end bytes) + 1) why.After
bad_behind_all job size bytes outputs end prefix one short read more good = record {
  within = short;
  line_is = inr (record {
    job = job;
    size = size;
    prefix = prefix;
    read = ap (all_of job bytes) read.read ∙ rw (lt-ltb end (length bytes) more) refl;
  });
  means = inr (record { job = job; size = size; prefix = prefix; means = inr behind_all });
  only = λ other reason means.
      elim means [
        | inl of_prefix ↦ absurd (good other reason of_prefix)
        | inr behind ↦
            (let place = place_of job bytes size in
            let fits = prefix_fits job size bytes prefix in
            elim (meant_there job size bytes other reason one behind) [
              | inl bad ↦ absurd (none_bad place fits outputs (drop end bytes) other reason read.there.nodes
                  read.there.are read.there.text bad)
              | inr later ↦ (
                behind_all.line_is ∙ ap (λ (rest : List ℕ). lines_until bytes rest + 1)
                    (all_once place fits outputs later.outputs (drop end bytes) later.rest read.there.nodes later.nodes
                    read.there.are later.are read.there.text later.text)
                    ∙ sym later.line_is,
                sym later.reason_is,
              )
            ])
      ];
  none = λ other others text.
      let it = other_there job size bytes other others one text in
      let same = read.only others [] it.1 in
      let all = sym read.there.text ∙ it.1.text
      ∙ ap (λ (these : List Output). outputs_text job.settings.version these ++ []) same in
      absurd (omega (arith, simp length-append at (ap length all), length-drop end bytes, more));
}
  where
    behind_all : HasMoreBehind (place_of job bytes size) (lines_in (take end bytes) + 1) why.After
    behind_all = record {
      outputs = outputs;
      nodes = read.there.nodes;
      are = read.there.are;
      rest = drop end bytes;
      text = read.there.text;
      some = λ none. absurd (omega (arith, ap length none, length-drop end bytes, more));
      line_is = ap (λ (n : ℕ). lines_in (take n bytes) + 1) (left_is end bytes read.within);
      reason_is = refl;
    }

-- the job's text is bad
pub bad_prefix : (bytes : List ℕ) (line : ℕ) (reason : LineWhy) → length bytes ≤ input_limit
    → prefix_of bytes ≡ Err (record { line = line; why = reason }) → PrefixMeans bytes line reason
    → ((job : JobState) (size : ℕ) → BeginsWith job size bytes → ⊥)
    → ((at : ℕ) (why : LineWhy) → PrefixMeans bytes at why → (line ≡ at) × (reason ≡ why)) → IsBadInput bytes line reason
bad_prefix bytes line reason short read means none only = record {
  within = short;
  line_is = inl (record { read = read; means = means });
  means = inl means;
  only = λ other why meant.
      elim meant [
        | inl of_prefix ↦ only other why of_prefix
        | inr behind ↦ absurd (none behind.job behind.size behind.prefix)
      ];
  none = λ job outputs text. none job (length (job_text job)) (input_prefix job outputs bytes text);
}

-- ---- what the readers tell

prefix_within : (prefix rest bytes : List ℕ) → bytes ≡ prefix ++ rest → length prefix ≤ length bytes
prefix_within prefix rest bytes text = omega (arith, length-append prefix rest, ap length text)

-- the text at the prefix is within the bytes
pub begins_within : (job : JobState) (size : ℕ) (bytes : List ℕ) → BeginsWith job size bytes → size ≤ length bytes
begins_within job size bytes prefix =
    subst (λ (n : ℕ). n ≤ length bytes) (sym prefix.long) (prefix_within (job_text job) prefix.rest bytes prefix.text)

-- the reader of the prefix refused it
pub prefix_refused : (bytes : List ℕ) (fault : JobFault) (line : ℕ) (reason : LineWhy) → length bytes ≤ input_limit
    → fault ≡ jobfaults.Bad line reason
    → IsNoMemory fault ⊎ refusals.IsBadPrefix bytes fault → IsPrefixMeant bytes fault
    → IsNoMemory fault ⊎ ((job : JobState) (size : ℕ) → BeginsWith job size bytes → ⊥)
    → ((at : ℕ) (why : LineWhy) → PrefixMeans bytes at why → IsNoMemory fault ⊎ (fault ≡ jobfaults.Bad at why))
    → IsBadInput bytes line reason
prefix_refused bytes jobfaults.NoMemory line reason short is bad meant none told = absurd (cc)
prefix_refused bytes (jobfaults.Bad n why) line reason short is (inl memory) meant none told = absurd memory
prefix_refused bytes (jobfaults.Bad n why) line reason short is (inr bad) meant (inl memory) told = absurd memory
prefix_refused bytes (jobfaults.Bad n why) line reason short is (inr bad) meant (inr none) told =
    let bad_there : refusals.IsBadPrefix bytes (jobfaults.Bad line reason) = subst (refusals.IsBadPrefix bytes) is bad in
    let means : IsPrefixMeant bytes (jobfaults.Bad line reason) = subst (IsPrefixMeant bytes) is meant in
    bad_prefix bytes line reason short bad_there means none (λ at other of_prefix.
    elim (told at other of_prefix) [
      | inl memory ↦ absurd memory
      | inr same ↦ same_bad line at reason other (sym is ∙ same)
    ])
  where
    same_bad : (line at : ℕ) (reason other : LineWhy) → jobfaults.Bad line reason ≡ jobfaults.Bad at other
        → (line ≡ at) × (reason ≡ other)
    same_bad line at reason other same = (cc, cc)

-- the reader of the outputs behind it refused one
pub behind_refused : (job : JobState) (size : ℕ) (bytes : List ℕ) (fault : InputFault) → BeginsWith job size bytes
    → IsOnePrefix job size bytes → length bytes ≤ input_limit → ReadsOutputs (place_of job bytes size) (Err fault)
    → ((at : ℕ) (why : LineWhy) → PrefixMeans bytes at why → ⊥) → IsRefused bytes fault
behind_refused job size bytes (faults.Bad line reason) prefix one short unread good =
    bad_output job size bytes line reason prefix one short unread good
behind_refused job size bytes faults.ReadFault prefix one short unread good = unread
behind_refused job size bytes faults.NoMemory prefix one short unread good = tt

-- a source was read to its end
took_all : (old new : Option (List ℕ)) (before after : ℕ) (bytes : List ℕ) (told : Result CheckInput InputFault)
    → Consumes old new bytes → IsAtEnd new
    → MatchResult told (λ input. IsInput bytes input.job input.outputs.items) (IsRefused bytes)
    → MatchResult told (λ input. TakesInput old new input.job input.outputs.items) (IsUnread old new before after)
took_all old new before after bytes (Ok input) read ended is =
    record { bytes = bytes; read = read; ended = ended; is_input = is }
took_all old new before after bytes (Err (faults.Bad line reason)) read ended is =
    record { bytes = bytes; read = read; none = inr (ended, is) }
took_all old new before after bytes (Err faults.ReadFault) read ended is = absurd is
took_all old new before after bytes (Err faults.NoMemory) read ended is = tt

pub took_these : (old new : Option (List ℕ)) (before after : ℕ) (bytes seen : List ℕ)
    (told : Result CheckInput InputFault) → seen ≡ bytes
    → (length bytes ≤ input_limit) × Consumes old new bytes × IsAtEnd new
    → MatchResult told (λ input. IsInput seen input.job input.outputs.items) (IsRefused seen)
    → MatchResult told (λ input. TakesInput old new input.job input.outputs.items) (IsUnread old new before after)
took_these old new before after bytes seen told same all is =
    took_all old new before after bytes told all.1 all.2
    (subst (λ (these : List ℕ). MatchResult told (λ input. IsInput these input.job input.outputs.items)
    (IsRefused these)) same is)

-- a source was read past the limit
pub took_more : (old new : Option (List ℕ))
    → (bytes : List ℕ) × (input_limit < length bytes) × Consumes old new bytes → TakesNone old new 0 why.Size
took_more old new long = record { bytes = long.0; read = long.2; none = inl (long.1, refl, refl) }
