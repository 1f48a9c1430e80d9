-- An output that isn't read, line by line.
use Rattle.std.proofs.Common.{◌≡◌, ◌⊎◌, inl, inr, ℕ, suc, ◌+◌, ◌<◌, ◌^◌, List, [], ◌∷◌, ◌++◌, length, map, Bool, cond}
use Rattle.std.proofs.Common.{Result, Ok, Err, refl, sym, ap, subst, ◌∙◌, append-nil, append_assoc, arith, codes, false, true}
use Rattle.std.proofs.Common.{decimal, length-append}
use Rattle.std.proofs.lemmas.List.{length-map}
use Rattle.std.specs.List.{AllByRecursion}
use Rattle.std.specs.Str.{bytes_eq}
use Rattle.std.proofs.lemmas.List.Concat.{flat_map-append}
use Rattle.base_turns.specs.declared.entry.Entry.{Entry}
use Rattle.text_trace.specs.declared.fault.TraceFault.{TraceFault}
use Rattle.text_trace.specs.declared.fault.TraceFault.TheVariants as faults
use Rattle.base_text.specs.declared.why.LineWhy.{LineWhy}
use Rattle.base_text.specs.declared.why.LineWhy.TheVariants.{Form}
use Rattle.text_trace.specs.declared.output.NodeStatus.{NodeStatus}
use Rattle.text_trace.specs.declared.output.NodeStatus.TheVariants as status
use Rattle.text_trace.specs.declared.output.Output.{Output}
use Rattle.text_trace.specs.declared.output.Wanted.{Wanted}
use Rattle.base_text.specs.LineTexts.{Line, IsLine, text_of_words, line_text, spell}
use Rattle.text_trace.specs.LineRefusals.{IsMeant, Means, TextKind}
use Rattle.text_trace.specs.OutputReading.{output_at, status_at, status_of}
use Rattle.text_trace.specs.OutputRefusals.{AtEntries, AtStatus, HasForm, MayStand, OutputPlace, output_kind}
use Rattle.text_trace.specs.OutputRefusals.{AtVersion, AtJob, AtRank, place_among, place_behind, status_line}
use Rattle.text_trace.specs.OutputText.{IsOutput, output_text, status_text}
use Rattle.text_trace.specs.TraceRead.{FailsAt}
use Rattle.base_text.specs.Chains.{◌>>=◌}
use Rattle.text_trace.specs.TraceReading.{BadLine, at_line, entries_at, line_at, entry_or_end, read_line, setting_of}
use Rattle.text_trace.specs.TraceReading.{words_of}
use Rattle.text_trace.specs.TraceRefusals as traces
use Rattle.text_trace.specs.TraceText.{IsEntry, end_line, entry_line, entry_lines, line_of_number, trace_lines}
use Rattle.text_trace.proofs.LineLaws.{ok_is, words_joined}
use Rattle.text_trace.proofs.LineRefused.{HasLines, NoForm, Reached, Refuses, Walked, bind_err, err_is}
use Rattle.text_trace.proofs.LineRefused.{fails_behind, line_err, ok_err, reach_on}
use Rattle.text_trace.proofs.OutputLaws.{after_entries, after_job, after_rank, after_version, output_again}
use Rattle.text_trace.proofs.OutputLaws.{same_number, status_again, status_is, with_entries}
use Rattle.text_trace.proofs.Refused.{HasEntries, entries_mean, entry_wrong, first_same, form_of, head_are, head_of}
use Rattle.text_trace.proofs.Refused.{lines_are, mapped_lines, no_lines, one_number, rest_same}
use Rattle.text_trace.proofs.TraceLaws.{entries_take, setting_line, job_word, trace_word}
use Rattle.text_trace.proofs.WordLaws.{end_is_line, number_is_line}
use Rattle.base_lists.proofs.Members.{all_append}

-- ---- the line of a status

words_text : (ended : NodeStatus) → text_of_words (status_line ended) ≡ status_text ended
words_text status.Ok = refl
words_text status.Violations = refl
words_text status.LinkFault = refl
words_text status.Stuck = refl
words_text status.JournalFull = refl

-- what is said by the words of a line
abbrev said_by : Line → Result NodeStatus LineWhy
said_by words = status_of (text_of_words words)

-- a status, and the bytes after its line
abbrev Said : Type 0
Said = NodeStatus × List ℕ

abbrev before : Result NodeStatus LineWhy → List ℕ → Result Said LineWhy
before read rest = read >>= λ ended. Ok (ended, rest)

same_status : (line : ℕ) (r : Result (List ℕ × List ℕ) LineWhy)
    → at_line {A = Said} line (r >>= λ cut. before (status_of cut.0) cut.1)
    ≡ at_line {A = Said} line (r >>= λ cut. before (said_by (words_of cut.0)) cut.1)
same_status line (Err why) = refl
same_status line (Ok cut) =
    ap (λ (bytes : List ℕ). at_line {A = Said} line (before (status_of bytes) cut.1))
    (sym (words_joined cut.0))

by_words : (line : ℕ) (bytes : List ℕ) → status_at line bytes ≡ read_line line said_by bytes
by_words line bytes = same_status line (line_at bytes)

-- one text that a line may have
other_of : (same : Bool) (one : NodeStatus) (others : Result NodeStatus LineWhy) (why : LineWhy)
    → (others ≡ Err why → why ≡ Form) → cond same (Ok one) others ≡ Err why → why ≡ Form
other_of true one others why more e = absurd (cc)
other_of false one others why more e = more e

form_alone : (line : List ℕ) (why : LineWhy) → status_of line ≡ Err why → why ≡ Form
unfolding status_of
form_alone line why e =
    other_of (bytes_eq line (codes "status 0 ok")) status.Ok _ why
    (other_of (bytes_eq line (codes "status 1 violations")) status.Violations _ why
    (other_of (bytes_eq line (codes "status 6 link-fault")) status.LinkFault _ why
    (other_of (bytes_eq line (codes "status 9 stuck")) status.Stuck _ why
    (other_of (bytes_eq line (codes "status 10 journal-full")) status.JournalFull _ why
    (λ h. sym (err_is {A = NodeStatus} h)))))) e

status_wrong : (wanted : Wanted) → Refuses (HasForm AtStatus) (MayStand wanted AtStatus) said_by
status_wrong wanted words why e =
    NoForm (form_alone (text_of_words words) why e)
    (λ is. ok_err (ap said_by is.1 ∙ ap status_of (words_text is.0) ∙ status_again is.0) e)

words_split : (ended : NodeStatus) → words_of (status_text ended) ≡ status_line ended
words_split status.Ok = refl
words_split status.Violations = refl
words_split status.LinkFault = refl
words_split status.Stuck = refl
words_split status.JournalFull = refl

status_is_line : (ended : NodeStatus) → IsLine (status_line ended)
status_is_line ended = subst IsLine (words_split ended) (status_is ended)

-- ---- the lines of an output

-- which place comes behind entries, and behind the line `end`
among_entries : (entries : List Entry) → place_among (map entry_line entries) ≡ AtEntries
among_entries [] = refl
among_entries (entry ∷ entries) = among_entries entries

among_all : (entries : List Entry) → place_among (entry_lines entries) ≡ AtStatus
among_all [] = refl
among_all (entry ∷ entries) = among_all entries

abbrev pub lines_of : Wanted → Output → List Line
lines_of wanted output = trace_lines wanted.version output.trace ++ status_line output.status ∷ []

pub text_is : (wanted : Wanted) (output : Output) → output_text wanted.version output ≡ spell (lines_of wanted output)
text_is wanted output =
    let lines = trace_lines wanted.version output.trace in
    let last = status_line output.status in
    ap (λ (t : List ℕ). spell lines ++ (t ++ 10 ∷ [])) (sym (words_text output.status))
    ∙ ap (λ (t : List ℕ). spell lines ++ t) (sym (append-nil (line_text last)))
    ∙ sym (flat_map-append line_text lines (last ∷ []))

pub are_lines : (wanted : Wanted) (output : Output) → wanted.version < 2 ^ 64 → IsOutput wanted output
    → AllByRecursion IsLine (lines_of wanted output)
are_lines wanted output fits is =
    all_append IsLine (trace_lines wanted.version output.trace) (status_line output.status ∷ [])
    (lines_are wanted.version wanted.threads output.trace fits is.is_trace) (status_is_line output.status, tt)

-- each line of an output may stand where it does
later_stands : (wanted : Wanted) (ended : NodeStatus) (entries : List Entry)
    → AllByRecursion (IsEntry wanted.threads) entries → (lines others : List Line) (words : Line)
    → entry_lines entries ++ status_line ended ∷ [] ≡ lines ++ words ∷ others
    → MayStand wanted (place_among lines) words
later_stands wanted ended [] is [] others words e = inl (sym (first_same e))
later_stands wanted ended [] is (line ∷ []) others words e =
    subst (λ (l : Line). MayStand wanted (place_among (l ∷ [])) words) (first_same e)
    (ended, sym (first_same (rest_same e)))
later_stands wanted ended [] is (line ∷ more ∷ lines) others words e =
    absurd (no_lines lines others words (rest_same (rest_same e)))
later_stands wanted ended (entry ∷ entries) is [] others words e = inr (entry, (is.0, sym (first_same e)))
later_stands wanted ended (entry ∷ entries) is (line ∷ lines) others words e =
    subst (λ (l : Line). MayStand wanted (place_among (l ∷ lines)) words) (first_same e)
    (later_stands wanted ended entries is.1 lines others words (rest_same e))

pub stands : (wanted : Wanted) (output : Output) → IsOutput wanted output → (lines others : List Line) (words : Line)
    → lines_of wanted output ≡ lines ++ words ∷ others → MayStand wanted (place_behind lines) words
stands wanted output is [] others words e = sym (first_same e)
stands wanted output is (a ∷ []) others words e =
    sym (first_same (rest_same e)) ∙ ap (line_of_number (codes "job")) is.job_is
stands wanted output is (a ∷ b ∷ []) others words e =
    sym (first_same (rest_same (rest_same e))) ∙ ap (line_of_number (codes "rank")) is.rank_is
stands wanted output is (a ∷ b ∷ c ∷ lines) others words e =
    later_stands wanted output.status output.trace.entries is.is_trace.entries lines others words
    (rest_same (rest_same (rest_same e)))

-- what may stand at a place has its form
pub has_form : (wanted : Wanted) (place : OutputPlace) (words : Line) → MayStand wanted place words → HasForm place words
has_form wanted AtVersion words e = (decimal wanted.version, e)
has_form wanted AtJob words e = (decimal wanted.job, e)
has_form wanted AtRank words e = (decimal wanted.rank, e)
has_form wanted AtEntries words may = form_of wanted.version wanted.threads traces.AtEntries words may
has_form wanted AtStatus words may = may

-- no output's text begins with another's
pub outputs_alone : (wanted : Wanted) (one other : Output) (more : List ℕ) → wanted.version < 2 ^ 64 → IsOutput wanted one
    → IsOutput wanted other → output_text wanted.version other ≡ output_text wanted.version one ++ more → more ≡ []
outputs_alone wanted one other more fits is is_other e =
    let found = output_again wanted one more fits is in
    let whole = ap (output_at wanted) (append-nil (output_text wanted.version other)) ∙ ap (output_at wanted) e
    ∙ found in
    let read = output_again wanted other [] fits is_other in
    ap (λ (x : Output × List ℕ). x.1) (sym (ok_is (other, []) (one, more) (sym read ∙ whole)))

abbrev pub output_has : (wanted : Wanted) → wanted.version < 2 ^ 64 → HasLines (output_kind wanted)
output_has wanted fits = record {
  lines_of = lines_of wanted;
  text_is = text_is wanted;
  are = λ one is. are_lines wanted one fits is;
  stands = stands wanted;
  form_of = λ lines words may. has_form wanted (place_behind lines) words may;
  alone = λ one other more is is_other e. outputs_alone wanted one other more fits is is_other e;
}

-- ---- reading one

module _ (wanted : Wanted) (fits : wanted.version < 2 ^ 64) (few : wanted.job < 2 ^ 64) (small : wanted.rank < 2 ^ 16)
    (bytes : List ℕ) (bad : BadLine) where
  abbrev kind : TextKind Output
  kind = output_kind wanted

  abbrev has : HasLines kind
  has = output_has wanted fits

  abbrev head : List Line
  head = head_of wanted.version wanted.job wanted.rank

  abbrev first : Line
  first = line_of_number (codes "trace") wanted.version

  abbrev second : Line
  second = line_of_number (codes "job") wanted.job

  abbrev third : Line
  third = line_of_number (codes "rank") wanted.rank

  abbrev made : List Entry → Output
  made entries = with_entries wanted entries status.Ok

  is_made : (entries : List Entry) → AllByRecursion (IsEntry wanted.threads) entries → IsOutput wanted (made entries)
  is_made entries is = record {
    is_trace = record { job = few; rank = small; entries = is };
    job_is = refl;
    rank_is = refl;
  }

  entered : HasEntries kind has wanted.threads head
  entered = record {
    walked = λ entries is. record {
      one = made entries;
      is = is_made entries is;
      next = end_line;
      others = status_line status.Ok ∷ [];
      all = ap (λ (ls : List Line). first ∷ second ∷ third ∷ ls)
          (append_assoc (map entry_line entries) (end_line ∷ []) (status_line status.Ok ∷ []));
      are = all_append IsLine head (map entry_line entries) (head_are wanted.version wanted.job wanted.rank fits few small)
          (mapped_lines wanted.threads entries is);
    };
    refuses = λ entries.
        subst (λ (p : OutputPlace). Refuses (HasForm p) (MayStand wanted p) (entry_or_end wanted.threads))
        (sym (among_entries entries)) (entry_wrong wanted.version wanted.threads);
  }

  -- the line of the status
  count_is : (entries : List Entry) → length entries + 5 ≡ suc (length (head ++ entry_lines entries))
  count_is entries =
      let mapped : length (map entry_line entries) ≡ length entries = length-map entries entry_line in
      let longer : length (entry_lines entries) ≡ length (map entry_line entries) + 1 =
      length-append (map entry_line entries) (end_line ∷ []) in
      omega arith

  status_by : (rest : List ℕ) (x : List Entry × List ℕ) → Reached kind has head bytes rest
      → entries_at (length rest + 1) wanted.threads 4 rest ≡ Ok x
      → (status_at (length x.0 + 5) x.1 ≡ Err bad) ⊎ ((y : NodeStatus × List ℕ)
      × ((status_at (length x.0 + 5) x.1 ≡ Ok y) × (◌≡◌ {A = Result (Output × List ℕ) BadLine}
      (Ok (with_entries wanted x.0 y.0, y.1)) (Err bad))))
      → Means kind bytes bad.line bad.why
  status_by rest x reached read (inr y) = absurd (ok_err refl y.1.1)
  status_by rest x reached read (inl e) =
      let k = entries_take (length rest + 1) wanted.threads 4 rest x read in
      let lines = head ++ entry_lines x.0 in
      let walked : Walked kind has lines = record {
        one = made x.0;
        is = is_made x.0 k.entries;
        next = status_line status.Ok;
        others = [];
        all = refl;
        are = all_append IsLine head (entry_lines x.0)
            (head_are wanted.version wanted.job wanted.rank fits few small)
            (all_append IsLine (map entry_line x.0) (end_line ∷ []) (mapped_lines wanted.threads x.0 k.entries)
            (end_is_line, tt));
      } in
      let on : Reached kind has lines bytes x.1 = record {
        walked = walked;
        text = reached.text ∙ ap (λ (t : List ℕ). spell head ++ t) k.text
            ∙ sym (append_assoc (spell head) (spell (entry_lines x.0)) x.1)
            ∙ ap (λ (t : List ℕ). t ++ x.1) (sym (flat_map-append line_text head (entry_lines x.0)));
      } in
      fails_behind kind has lines bytes x.1 (length x.0 + 5) said_by bad on (count_is x.0)
      (subst (λ (p : OutputPlace). Refuses (HasForm p) (MayStand wanted p) said_by) (sym (among_all x.0))
      (status_wrong wanted))
      (line_err (length x.0 + 5) said_by x.1 bad (sym (by_words (length x.0 + 5) x.1) ∙ e))

  -- the entries
  entries_by : (rest : List ℕ) → Reached kind has head bytes rest
      → (entries_at (length rest + 1) wanted.threads 4 rest ≡ Err bad) ⊎ ((x : List Entry × List ℕ)
      × ((entries_at (length rest + 1) wanted.threads 4 rest ≡ Ok x) × (after_entries wanted x ≡ Err bad)))
      → Means kind bytes bad.line bad.why
  entries_by rest reached (inl e) =
      entries_mean kind has wanted.threads head entered bytes (length rest + 1) 4 [] rest bad (omega arith) tt reached
      refl e
  entries_by rest reached (inr x) =
      status_by rest x.0 reached x.1.0 (bind_err (status_at (length (x.0).0 + 5) (x.0).1)
      (λ y. Ok (with_entries wanted (x.0).0 y.0, y.1)) bad x.1.1)

  -- the line of the rank
  third_by : (rest : List ℕ) → Reached kind has (first ∷ second ∷ []) bytes rest
      → (read_line 3 (setting_of (codes "rank") wanted.rank wanted.rank) rest ≡ Err bad) ⊎ ((x : ℕ × List ℕ)
      × ((read_line 3 (setting_of (codes "rank") wanted.rank wanted.rank) rest ≡ Ok x)
      × (after_rank wanted x ≡ Err bad)))
      → Means kind bytes bad.line bad.why
  third_by rest reached (inl e) =
      fails_behind kind has (first ∷ second ∷ []) bytes rest 3 (setting_of (codes "rank") wanted.rank wanted.rank) bad
      reached refl (one_number (codes "rank") wanted.rank (omega arith))
      (line_err 3 (setting_of (codes "rank") wanted.rank wanted.rank) rest bad e)
  third_by rest reached (inr x) =
      let s = setting_line 3 (codes "rank") wanted.rank wanted.rank rest x.0 x.1.0 in
      let text = s.0 ∙ ap (λ (n : ℕ). line_text (line_of_number (codes "rank") n) ++ (x.0).1)
      (same_number wanted.rank (x.0).0 s.1) in
      entries_by (x.0).1
      (reach_on kind has (first ∷ second ∷ []) third bytes rest (x.0).1 reached text (entered.walked [] tt))
      (bind_err (entries_at (length (x.0).1 + 1) wanted.threads 4 (x.0).1) (after_entries wanted) bad x.1.1)

  -- the line of the job
  second_by : (rest : List ℕ) → Reached kind has (first ∷ []) bytes rest
      → (read_line 2 (setting_of (codes "job") wanted.job wanted.job) rest ≡ Err bad) ⊎ ((x : ℕ × List ℕ)
      × ((read_line 2 (setting_of (codes "job") wanted.job wanted.job) rest ≡ Ok x) × (after_job wanted x ≡ Err bad)))
      → Means kind bytes bad.line bad.why
  second_by rest reached (inl e) =
      fails_behind kind has (first ∷ []) bytes rest 2 (setting_of (codes "job") wanted.job wanted.job) bad reached refl
      (one_number (codes "job") wanted.job few)
      (line_err 2 (setting_of (codes "job") wanted.job wanted.job) rest bad e)
  second_by rest reached (inr x) =
      let s = setting_line 2 (codes "job") wanted.job wanted.job rest x.0 x.1.0 in
      let text = s.0 ∙ ap (λ (n : ℕ). line_text (line_of_number (codes "job") n) ++ (x.0).1)
      (same_number wanted.job (x.0).0 s.1) in
      let walked : Walked kind has (first ∷ second ∷ []) = record {
        one = made [];
        is = is_made [] tt;
        next = third;
        others = end_line ∷ status_line status.Ok ∷ [];
        all = refl;
        are = (
          number_is_line (codes "trace") wanted.version trace_word fits,
          (number_is_line (codes "job") wanted.job job_word few, tt),
        );
      } in
      third_by (x.0).1 (reach_on kind has (first ∷ []) second bytes rest (x.0).1 reached text walked)
      (bind_err (read_line 3 (setting_of (codes "rank") wanted.rank wanted.rank) (x.0).1) (after_rank wanted) bad x.1.1)

  -- the line of the version
  first_by : (read_line 1 (setting_of (codes "trace") wanted.version wanted.version) bytes ≡ Err bad)
      ⊎ ((x : ℕ × List ℕ)
      × ((read_line 1 (setting_of (codes "trace") wanted.version wanted.version) bytes ≡ Ok x)
      × (after_version wanted x ≡ Err bad)))
      → Means kind bytes bad.line bad.why
  first_by (inl e) =
      fails_behind kind has [] bytes bytes 1 (setting_of (codes "trace") wanted.version wanted.version) bad (record {
        walked = record {
          one = made [];
          is = is_made [] tt;
          next = first;
          others = second ∷ third ∷ end_line ∷ status_line status.Ok ∷ [];
          all = refl;
          are = tt;
        };
        text = refl;
      }) refl (one_number (codes "trace") wanted.version fits)
      (line_err 1 (setting_of (codes "trace") wanted.version wanted.version) bytes bad e)
  first_by (inr x) =
      let s = setting_line 1 (codes "trace") wanted.version wanted.version bytes x.0 x.1.0 in
      let text = s.0 ∙ ap (λ (n : ℕ). line_text (line_of_number (codes "trace") n) ++ (x.0).1)
      (same_number wanted.version (x.0).0 s.1)
      ∙ ap (λ (t : List ℕ). t ++ (x.0).1) (sym (append-nil (line_text first))) in
      second_by (x.0).1 (record {
        walked = record {
          one = made [];
          is = is_made [] tt;
          next = second;
          others = third ∷ end_line ∷ status_line status.Ok ∷ [];
          all = refl;
          are = (number_is_line (codes "trace") wanted.version trace_word fits, tt);
        };
        text = text;
      }) (bind_err (read_line 2 (setting_of (codes "job") wanted.job wanted.job) (x.0).1) (after_job wanted) bad x.1.1)

  output_means : output_at wanted bytes ≡ Err bad → Means kind bytes bad.line bad.why
  unfolding output_at
  output_means h =
      first_by (bind_err (read_line 1 (setting_of (codes "trace") wanted.version wanted.version) bytes)
      (after_version wanted) bad h)

-- what a reader told
pub output_fault_means : (wanted : Wanted) (bytes : List ℕ) (fault : TraceFault) → wanted.version < 2 ^ 64
    → wanted.job < 2 ^ 64 → wanted.rank < 2 ^ 16
    → FailsAt fault (output_at wanted bytes) → IsMeant (output_kind wanted) bytes fault
output_fault_means wanted bytes faults.NoMemory fits few small h = tt
output_fault_means wanted bytes (faults.Bad line why) fits few small h =
    output_means wanted fits few small bytes (record { line = line; why = why }) h
