-- Reading what a node wrote is the inverse of its text.
use Rattle.std.proofs.Common.{◌≡◌, ◌≢◌, ℕ, ◌+◌, ◌^◌, ◌<◌, List, [], ◌∷◌, ◌++◌, length, Bool, true, false, not, cond, eqb}
use Rattle.std.proofs.Common.{zero, suc, ◌≤◌, Option, Some, None, is_none, option_to_list, inl, inr}
use Rattle.std.specs.Prelude.{◌⊎◌}
use Rattle.std.proofs.Common.{Result, Ok, Err, refl, sym, ap, subst, ◌∙◌, append_assoc, arith, codes, length-append, true≢false}
use Rattle.std.specs.List.{AllByRecursion, list_all}
use Rattle.std.specs.Str.{bytes_eq}
use Rattle.std.proofs.lemmas.Bool.{and_parts, eq-eqb}
use Rattle.base_turns.specs.declared.entry.Entry.{Entry}
use Rattle.base_text.specs.declared.why.LineWhy.{LineWhy}
use Rattle.text_trace.specs.declared.output.NodeStatus.{NodeStatus}
use Rattle.text_trace.specs.declared.output.NodeStatus.TheVariants as status
use Rattle.text_trace.specs.declared.output.Output.{Output}
use Rattle.text_trace.specs.declared.output.Wanted.{Wanted}
use Rattle.base_text.specs.LineTexts.{IsLine, Line, line_text}
use Rattle.base_text.specs.Reasons.{is_text}
use Rattle.text_trace.specs.TraceText.{line_of_number, trace_text, IsTrace}
use Rattle.base_text.specs.Chains.{◌>>=◌}
use Rattle.text_trace.specs.TraceReading.{BadLine, read_line, setting_of, entries_at, line_at, words_of}
use Rattle.text_trace.specs.TraceReading.{at_line, entry_or_end, behind_entries}
use Rattle.text_trace.specs.OutputText.{status_text, output_text, IsOutput}
use Rattle.text_trace.specs.OutputReading.{status_of, status_at, output_at}
use Rattle.text_trace.proofs.LineLaws.{ok_is, bind_ok, at_ok, line_takes, cut_again, words_joined, read_takes}
use Rattle.text_trace.proofs.WordLaws.{IsIn, same_word}
use Rattle.text_trace.proofs.TraceLaws.{entries_take, entries_again, entries_text, setting_line, setting_line_again}
use Rattle.text_trace.proofs.TraceLaws.{entries_short, line_long, few_entries, parts, trace_word, job_word, rank_word}

-- ---- the line of a status

-- one text that a line may have
one_of : (line text : List ℕ) (one found : NodeStatus) (same : Bool) (others : Result NodeStatus LineWhy)
    → bytes_eq line text ≡ same → text ≡ status_text one
    → (others ≡ Ok found → line ≡ status_text found)
    → cond same (Ok one) others ≡ Ok found → line ≡ status_text found
one_of line text one found true others test is more e =
    same_word line text test ∙ is ∙ ap status_text (ok_is one found e)
one_of line text one found false others test is more e = more e

status_takes : (line : List ℕ) (found : NodeStatus) → status_of line ≡ Ok found → line ≡ status_text found
unfolding status_of
status_takes line found e =
    one_of line (codes "status 0 ok") status.Ok found _ _ refl refl
    (one_of line (codes "status 1 violations") status.Violations found _ _ refl refl
    (one_of line (codes "status 6 link-fault") status.LinkFault found _ _ refl refl
    (one_of line (codes "status 9 stuck") status.Stuck found _ _ refl refl
    (one_of line (codes "status 10 journal-full") status.JournalFull found _ _ refl refl (λ h. absurd (cc)))))) e

pub status_again : (ended : NodeStatus) → status_of (status_text ended) ≡ Ok ended
unfolding status_of
status_again status.Ok = refl
status_again status.Violations = refl
status_again status.LinkFault = refl
status_again status.Stuck = refl
status_again status.JournalFull = refl

-- no byte of a line ends it
test_breaks : (bytes : List ℕ) → list_all (λ b. not (eqb b 10)) bytes ≡ true → AllByRecursion (λ b. b ≢ 10) bytes
test_breaks [] h = tt
test_breaks (b ∷ bytes) h =
    let k = and_parts (not (eqb b 10)) (list_all (λ c. not (eqb c 10)) bytes) h in
    (λ e. true≢false (sym k.0 ∙ ap not (eq-eqb b 10 e)), test_breaks bytes k.1)

status_breaks : (ended : NodeStatus) → list_all (λ b. not (eqb b 10)) (status_text ended) ≡ true
status_breaks status.Ok = refl
status_breaks status.Violations = refl
status_breaks status.LinkFault = refl
status_breaks status.Stuck = refl
status_breaks status.JournalFull = refl

status_words : (ended : NodeStatus) (rest : List ℕ) → is_text (status_text ended ++ 10 ∷ rest) ≡ true
unfolding is_text
status_words status.Ok rest = refl
status_words status.Violations rest = refl
status_words status.LinkFault rest = refl
status_words status.Stuck rest = refl
status_words status.JournalFull rest = refl

status_cut : (ended : NodeStatus) (rest : List ℕ) → line_at (status_text ended ++ 10 ∷ rest) ≡ Ok (status_text ended, rest)
status_cut ended rest =
    cut_again (status_text ended) rest (test_breaks (status_text ended) (status_breaks ended)) (status_words ended rest)

pub status_is : (ended : NodeStatus) → IsLine (words_of (status_text ended))
status_is ended = (line_takes (status_text ended ++ 10 ∷ []) (status_text ended, []) (status_cut ended [])).are

-- the line of a status, and the bytes after it
status_line_takes : (line : ℕ) (bytes : List ℕ) (x : NodeStatus × List ℕ) → status_at line bytes ≡ Ok x
    → bytes ≡ (status_text x.0 ++ 10 ∷ []) ++ x.1
status_line_takes line bytes x e =
    let r = at_ok line (line_at bytes >>= λ cut. status_of cut.0 >>= λ ended. Ok (ended, cut.1)) x e in
    let y = bind_ok (line_at bytes) (λ cut. status_of cut.0 >>= λ ended. Ok (ended, cut.1)) x r in
    let s = bind_ok (status_of y.0.0) (λ ended. Ok (ended, y.0.1)) x y.2 in
    let made : NodeStatus × List ℕ = (s.0, y.0.1) in
    subst (λ (z : NodeStatus × List ℕ). bytes ≡ (status_text z.0 ++ 10 ∷ []) ++ z.1) (ok_is made x s.2)
    ((line_takes bytes y.0 y.1).text
    ∙ ap (λ (z : List ℕ). (z ++ 10 ∷ []) ++ y.0.1) (words_joined y.0.0 ∙ status_takes y.0.0 s.0 s.1))

status_line_again : (line : ℕ) (ended : NodeStatus) (rest : List ℕ)
    → status_at line ((status_text ended ++ 10 ∷ []) ++ rest) ≡ Ok (ended, rest)
status_line_again line ended rest =
    let cut = ap line_at (append_assoc (status_text ended) (10 ∷ []) rest) ∙ status_cut ended rest in
    ap (λ r. at_line line (r >>= λ y. status_of y.0 >>= λ s. Ok (s, y.1))) cut
    ∙ ap (λ r. at_line line (r >>= λ s. Ok (s, rest))) (status_again ended)

-- ---- outputs

-- an output and the bytes after it
pub record OutputReadAs (wanted : Wanted) (bytes : List ℕ) (x : Output × List ℕ) : Type 0 where
  pub is_output : IsOutput wanted x.0
  pub text : bytes ≡ output_text wanted.version x.0 ++ x.1

-- the output with these entries and this status
abbrev pub with_entries : Wanted → List Entry → NodeStatus → Output
with_entries wanted entries ended = record {
  trace = record { job = wanted.job; rank = wanted.rank; entries = entries };
  status = ended;
}

-- reading goes on after each line
abbrev pub after_entries : Wanted → List Entry × List ℕ → Result (Output × List ℕ) BadLine
after_entries wanted entries =
    status_at (length entries.0 + 5) entries.1 >>= λ ended. Ok (with_entries wanted entries.0 ended.0, ended.1)

abbrev pub after_rank : Wanted → ℕ × List ℕ → Result (Output × List ℕ) BadLine
after_rank wanted rank = entries_at (length rank.1 + 1) wanted.threads 4 rank.1 >>= λ entries. after_entries wanted entries

abbrev pub after_job : Wanted → ℕ × List ℕ → Result (Output × List ℕ) BadLine
after_job wanted job =
    read_line 3 (setting_of (codes "rank") wanted.rank wanted.rank) job.1 >>= λ rank. after_rank wanted rank

abbrev pub after_version : Wanted → ℕ × List ℕ → Result (Output × List ℕ) BadLine
after_version wanted first =
    read_line 2 (setting_of (codes "job") wanted.job wanted.job) first.1 >>= λ job. after_job wanted job

pub same_number : (low n : ℕ) → IsIn low low n → n ≡ low
same_number low n h = let a = h.least in let b = h.most in omega arith

-- the text of an output, part by part
output_parts : (version : ℕ) (output : Output) (rest : List ℕ)
    → output_text version output ++ rest
    ≡ trace_text version output.trace ++ ((status_text output.status ++ 10 ∷ []) ++ rest)
output_parts version output rest =
    append_assoc (trace_text version output.trace) (status_text output.status ++ 10 ∷ []) rest

pub output_takes : (wanted : Wanted) (bytes : List ℕ) (x : Output × List ℕ) → wanted.rank < 2 ^ 16
    → output_at wanted bytes ≡ Ok x → OutputReadAs wanted bytes x
unfolding output_at
output_takes wanted bytes x narrow e =
    let v = bind_ok (read_line 1 (setting_of (codes "trace") wanted.version wanted.version) bytes)
    (λ y. after_version wanted y) x e in
    let j = bind_ok (read_line 2 (setting_of (codes "job") wanted.job wanted.job) v.0.1) (λ y. after_job wanted y) x v.2 in
    let r = bind_ok (read_line 3 (setting_of (codes "rank") wanted.rank wanted.rank) j.0.1) (λ y. after_rank wanted y) x
    j.2 in
    let es = bind_ok (entries_at (length r.0.1 + 1) wanted.threads 4 r.0.1) (λ y. after_entries wanted y) x r.2 in
    let s = bind_ok (status_at (length es.0.0 + 5) es.0.1) (λ y. Ok (with_entries wanted es.0.0 y.0, y.1)) x es.2 in
    let output = with_entries wanted es.0.0 s.0.0 in
    let made : Output × List ℕ = (output, s.0.1) in
    let v1 = setting_line 1 (codes "trace") wanted.version wanted.version bytes v.0 v.1 in
    let j1 = setting_line 2 (codes "job") wanted.job wanted.job v.0.1 j.0 j.1 in
    let r1 = setting_line 3 (codes "rank") wanted.rank wanted.rank j.0.1 r.0 r.1 in
    let e1 = entries_take (length r.0.1 + 1) wanted.threads 4 r.0.1 es.0 es.1 in
    let s1 = status_line_takes (length es.0.0 + 5) es.0.1 s.0 s.1 in
    let version_is = same_number wanted.version v.0.0 v1.1 in
    let job_is = same_number wanted.job j.0.0 j1.1 in
    let rank_is = same_number wanted.rank r.0.0 r1.1 in
    let job_fits : wanted.job < 2 ^ 64 = subst (λ (n : ℕ). n < 2 ^ 64) job_is j1.1.fits in
    let t4 = e1.text ∙ ap (λ (z : List ℕ). entries_text es.0.0 ++ z) s1 in
    let t3 = r1.0 ∙ ap (λ (n : ℕ). line_text (line_of_number (codes "rank") n) ++ r.0.1) rank_is
    ∙ ap (λ (z : List ℕ). line_text (line_of_number (codes "rank") wanted.rank) ++ z) t4 in
    let t2 = j1.0 ∙ ap (λ (n : ℕ). line_text (line_of_number (codes "job") n) ++ j.0.1) job_is
    ∙ ap (λ (z : List ℕ). line_text (line_of_number (codes "job") wanted.job) ++ z) t3 in
    let t1 = v1.0 ∙ ap (λ (n : ℕ). line_text (line_of_number (codes "trace") n) ++ v.0.1) version_is
    ∙ ap (λ (z : List ℕ). line_text (line_of_number (codes "trace") wanted.version) ++ z) t2 in
    subst (OutputReadAs wanted bytes) (ok_is made x s.2) (record {
      is_output = record {
        is_trace = record { job = job_fits; rank = narrow; entries = e1.entries };
        job_is = refl;
        rank_is = refl;
      };
      text = t1 ∙ sym (parts wanted.version output.trace ((status_text s.0.0 ++ 10 ∷ []) ++ s.0.1))
          ∙ sym (output_parts wanted.version output s.0.1);
    })

-- an output of the node that is wanted has its job and rank
output_is : (wanted : Wanted) (output : Output) → IsOutput wanted output
    → output ≡ with_entries wanted output.trace.entries output.status
output_is wanted output h =
    ap (λ (n : ℕ). record {
      trace = record { job = n; rank = output.trace.rank; entries = output.trace.entries };
      status = output.status;
    }) h.job_is
    ∙ ap (λ (n : ℕ). record {
      trace = record { job = wanted.job; rank = n; entries = output.trace.entries };
      status = output.status;
    }) h.rank_is

again_as : (wanted : Wanted) (entries : List Entry) (ended : NodeStatus) (rest : List ℕ) → wanted.version < 2 ^ 64
    → IsTrace wanted.threads (with_entries wanted entries ended).trace
    → output_at wanted (output_text wanted.version (with_entries wanted entries ended) ++ rest)
    ≡ Ok (with_entries wanted entries ended, rest)
unfolding output_at
again_as wanted entries ended rest fits h =
    let output = with_entries wanted entries ended in
    let s = (status_text ended ++ 10 ∷ []) ++ rest in
    let es = entries_text entries ++ s in
    let r = line_text (line_of_number (codes "rank") wanted.rank) ++ es in
    let j = line_text (line_of_number (codes "job") wanted.job) ++ r in
    let version_in : IsIn wanted.version wanted.version wanted.version =
    record { least = omega arith; most = omega arith; fits = fits } in
    let job_in : IsIn wanted.job wanted.job wanted.job =
    record { least = omega arith; most = omega arith; fits = h.job } in
    let narrow = h.rank in
    let rank_in : IsIn wanted.rank wanted.rank wanted.rank =
    record { least = omega arith; most = omega arith; fits = omega arith } in
    let r0 : read_line 1 (setting_of (codes "trace") wanted.version wanted.version)
    (output_text wanted.version output ++ rest) ≡ Ok (wanted.version, j) =
    ap (read_line 1 (setting_of (codes "trace") wanted.version wanted.version))
    (output_parts wanted.version output rest ∙ parts wanted.version output.trace s)
    ∙ setting_line_again 1 (codes "trace") wanted.version wanted.version wanted.version j trace_word version_in in
    let r1 = setting_line_again 2 (codes "job") wanted.job wanted.job wanted.job r job_word job_in in
    let r2 = setting_line_again 3 (codes "rank") wanted.rank wanted.rank wanted.rank es rank_word rank_in in
    let short = entries_short entries in
    let room : length entries < length es + 1 = simp length-append (omega arith) in
    let r3 = entries_again (length es + 1) wanted.threads 4 entries s room h.entries in
    let r4 = status_line_again (length entries + 5) ended rest in
    rw (r0, r1, r2, r3, r4) refl

pub output_again : (wanted : Wanted) (output : Output) (rest : List ℕ) → wanted.version < 2 ^ 64
    → IsOutput wanted output
    → output_at wanted (output_text wanted.version output ++ rest) ≡ Ok (output, rest)
output_again wanted output rest fits h =
    let made = with_entries wanted output.trace.entries output.status in
    let same = output_is wanted output h in
    subst (λ (o : Output). output_at wanted (output_text wanted.version o ++ rest) ≡ Ok (o, rest)) (sym same)
    (again_as wanted output.trace.entries output.status rest fits
    (subst (λ (o : Output). IsTrace wanted.threads o.trace) same h.is_trace))

-- a text has more bytes than entries
pub few_in_output : (version : ℕ) (output : Output)
    → length output.trace.entries < length (output_text version output)
few_in_output version output =
    let few = few_entries version output.trace in
    let len = length-append (trace_text version output.trace) (status_text output.status ++ 10 ∷ []) in
    omega arith

-- ---- the bad line of an output is one of its lines

err_same : {A E : Type 0} (one other : E) → ◌≡◌ {A = Result A E} (Err one) (Err other) → one ≡ other
err_same one other e = cc

-- what fails fails at first, or later
err_cases : {A B E : Type 0} (r : Result A E) (f : A → Result B E) (bad : E) → (r >>= f) ≡ Err bad
    → (r ≡ Err bad) ⊎ ((x : A) × (r ≡ Ok x) × (f x ≡ Err bad))
err_cases (Ok x) f bad e = inr (x, refl, e)
err_cases {A} {B} {E} (Err why) f bad e = inl (ap (λ (w : E). Err w) (err_same {A = B} why bad e))

line_of_bad : {A : Type 0} (line : ℕ) (r : Result A LineWhy) (bad : BadLine) → at_line line r ≡ Err bad
    → bad.line ≡ line
line_of_bad line (Ok x) bad e = absurd (cc)
line_of_bad {A} line (Err why) bad e =
    let same : record { line = line; why = why } ≡ bad = cc in sym (ap (λ (b : BadLine). b.line) same)

-- what is left behind a line is shorter
read_shorter : {A : Type 0} (line : ℕ) (f : Line → Result A LineWhy) (bytes : List ℕ) (x : A × List ℕ)
    → read_line line f bytes ≡ Ok x → length x.1 < length bytes
read_shorter line f bytes x e =
    let k = read_takes line f bytes x e in
    let long = line_long k.words in
    let size = ap length k.text ∙ length-append (line_text k.words) x.1 in
    omega (arith, long, size)

-- behind an entry, or the line `end`
entry_bad : (room threads line : ℕ) (bad : BadLine) (o : Option Entry) (rest : List ℕ)
    → cond (is_none o) (Ok ([], rest)) (behind_entries (option_to_list o) (entries_at room threads (line + 1) rest))
    ≡ Err bad
    → (entries_at room threads (line + 1) rest ≡ Err bad → bad.line ≤ (line + 1) + length rest)
    → bad.line ≤ (line + 1) + length rest
entry_bad room threads line bad None rest e later = absurd (cc)
entry_bad room threads line bad (Some entry) rest e later =
    elim (err_cases (entries_at room threads (line + 1) rest) (λ more. Ok (entry ∷ more.0, more.1)) bad e) [
      | inl failed ↦ later failed
      | inr on ↦ absurd (let none = on.2 in cc)
    ]

entries_bad : (room threads line : ℕ) (bytes : List ℕ) (bad : BadLine) → length bytes < room
    → entries_at room threads line bytes ≡ Err bad → bad.line ≤ line + length bytes
unfolding entries_at
entries_bad zero threads line bytes bad low e = absurd (omega (arith, low))
entries_bad (suc room) threads line bytes bad low e =
    elim (err_cases (read_line line (entry_or_end threads) bytes) (λ next. cond (is_none next.0) (Ok ([], next.1))
    (behind_entries (option_to_list next.0) (entries_at room threads (line + 1) next.1))) bad e) [
      | inl failed ↦
          (let here = line_of_bad line (line_at bytes >>= λ cut. entry_or_end threads (words_of cut.0) >>= λ value.
          Ok (value, cut.1)) bad failed in omega (arith, here))
      | inr on ↦
          (let shorter = read_shorter line (entry_or_end threads) bytes on.0 on.1 in
          let later = entry_bad room threads line bad on.0.0 on.0.1 on.2
          (λ failed. entries_bad room threads (line + 1) on.0.1 bad (omega (arith, low, shorter)) failed) in
          omega (arith, later, shorter))
    ]

pub bad_line_low : (wanted : Wanted) (bytes : List ℕ) (bad : BadLine) → output_at wanted bytes ≡ Err bad
    → bad.line ≤ length bytes + 5
unfolding output_at
bad_line_low wanted bytes bad e =
    elim (err_cases (read_line 1 (setting_of (codes "trace") wanted.version wanted.version) bytes)
    (λ y. after_version wanted y) bad e) [
      | inl failed ↦ (let here = line_of_bad 1 _ bad failed in omega (arith, here))
      | inr v ↦
          (let s1 = read_shorter 1 (setting_of (codes "trace") wanted.version wanted.version) bytes v.0 v.1 in
          elim (err_cases (read_line 2 (setting_of (codes "job") wanted.job wanted.job) v.0.1) (λ y. after_job wanted y)
          bad v.2) [
            | inl failed ↦ (let here = line_of_bad 2 _ bad failed in omega (arith, here))
            | inr j ↦
                (let s2 = read_shorter 2 (setting_of (codes "job") wanted.job wanted.job) v.0.1 j.0 j.1 in
                elim (err_cases (read_line 3 (setting_of (codes "rank") wanted.rank wanted.rank) j.0.1)
                (λ y. after_rank wanted y) bad j.2) [
                  | inl failed ↦ (let here = line_of_bad 3 _ bad failed in omega (arith, here))
                  | inr r ↦
                      (let s3 = read_shorter 3 (setting_of (codes "rank") wanted.rank wanted.rank) j.0.1 r.0 r.1 in
                      let low = rest_low r.0 r.2 in
                      omega (arith, s1, s2, s3, low))
                ])
          ])
    ]
  where
    rest_low : (r : ℕ × List ℕ) → after_rank wanted r ≡ Err bad → bad.line ≤ length r.1 + 5
    rest_low r e =
        elim (err_cases (entries_at (length r.1 + 1) wanted.threads 4 r.1) (λ y. after_entries wanted y) bad e) [
          | inl failed ↦
              (let low = entries_bad (length r.1 + 1) wanted.threads 4 r.1 bad (omega arith) failed in
              omega (arith, low))
          | inr es ↦
              (let k = entries_take (length r.1 + 1) wanted.threads 4 r.1 es.0 es.1 in
              let short = entries_short es.0.0 in
              let size = ap length k.text ∙ length-append (entries_text es.0.0) es.0.1 in
              elim (err_cases (status_at (length es.0.0 + 5) es.0.1)
              (λ y. Ok (with_entries wanted es.0.0 y.0, y.1)) bad es.2) [
                | inl failed ↦ (let here = line_of_bad (length es.0.0 + 5) _ bad failed in
                    omega (arith, here, short, size))
                | inr s ↦ absurd (let none = s.2 in cc)
              ])
        ]
