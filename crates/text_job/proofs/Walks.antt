-- Reading as a walk from line to line.
use Rattle.std.proofs.Common.{◌≡◌, ◌⊎◌, inl, inr, ℕ, zero, suc, ◌+◌, List, [], ◌∷◌, ◌++◌, length, Option, Some}
use Rattle.std.proofs.Common.{None, Result, Ok, Err, refl, sym, ap, subst, ◌∙◌, arith, append_assoc, append-nil}
use Rattle.std.specs.List.{AllByRecursion}
use Rattle.text_job.specs.Scopes.{scope_of}
use Rattle.text_job.specs.Places.{Place, Over, Item, item_text}
use Rattle.text_job.specs.JobReading.{State, BadLine, LeadingJob, line_at, why_at, next, onward, after_item, step}
use Rattle.text_job.specs.JobReading.{from_lines, leading_job, over_or, after_step, read_lines, read}
use Rattle.text_job.specs.JobText.{Line, spell}
use Rattle.text_job.specs.Refusals.{so_far}
use Rattle.base_text.specs.declared.why.LineWhy.{LineWhy}
use Rattle.base_text.specs.declared.why.LineWhy.TheVariants.{Early}
use Rattle.text_calls.proofs.FormLaws.{IsFlat}
use Rattle.text_job.proofs.PlaceLaws.{place_exact}
use Rattle.text_job.proofs.LineRuns.{IsOpen, goes_on, open_or_over, line_takes, line_again, lines_after}
use Rattle.text_job.proofs.StateLaws.{says_more}
use Rattle.text_job.proofs.States.{IsState, unread, state_more}

-- ---- a step

-- what a step is made of
pub record IsStepOf (state : State) (bytes : List ℕ) (to : State) (rest : List ℕ) : Type 0 where
  pub item : Item state.place
  pub found : line_at state.place (scope_of state.job) bytes ≡ Some (item, rest)
  pub goes : next state.place state.job item ≡ Ok to

step_on : (state : State) (bytes : List ℕ) (x : State × List ℕ) (y : Item state.place × List ℕ)
    (r : Result State LineWhy) → line_at state.place (scope_of state.job) bytes ≡ Some y
    → next state.place state.job y.0 ≡ r → onward y.1 r ≡ Ok x → IsStepOf state bytes x.0 x.1
step_on state bytes x y (Ok to) e n h =
    let same : ◌≡◌ {A = State × List ℕ} (to, y.1) x = cc in
    subst (λ (z : State × List ℕ). IsStepOf state bytes z.0 z.1) same (record { item = y.0; found = e; goes = n })
step_on state bytes x y (Err why) e n h = absurd (cc)

step_by : (state : State) (bytes : List ℕ) (x : State × List ℕ) (o : Option (Item state.place × List ℕ))
    → line_at state.place (scope_of state.job) bytes ≡ o → after_item state.place state.job
    (why_at state.place (scope_of state.job) bytes) o ≡ Ok x → IsStepOf state bytes x.0 x.1
step_by state bytes x None e h = absurd (cc)
step_by state bytes x (Some y) e h = step_on state bytes x y (next state.place state.job y.0) e refl h

pub step_of : (state : State) (bytes : List ℕ) (x : State × List ℕ) → step state bytes ≡ Ok x
    → IsStepOf state bytes x.0 x.1
unfolding step
step_of state bytes x h = step_by state bytes x (line_at state.place (scope_of state.job) bytes) refl h

-- and back
pub step_is : (state : State) (bytes : List ℕ) (to : State) (rest : List ℕ) → IsStepOf state bytes to rest
    → step state bytes ≡ Ok (to, rest)
unfolding step
step_is state bytes to rest is = rw (is.found, is.goes) refl

-- what a step makes of a state
pub record IsMore (state : State) (bytes : List ℕ) (to : State) (rest : List ℕ) : Type 0 where
  pub line : Line
  pub flat : IsFlat line
  pub text : bytes ≡ line ++ 10 ∷ rest
  pub lines : so_far to.place to.job ≡ so_far state.place state.job ++ line ∷ []
  pub is : IsState to.place to.job
  pub again : (more : List ℕ) → step state (line ++ 10 ∷ more) ≡ Ok (to, more)

pub step_keeps : (state : State) (bytes : List ℕ) (to : State) (rest : List ℕ) → IsState state.place state.job
    → IsStepOf state bytes to rest → IsMore state bytes to rest
step_keeps state bytes to rest is one =
    let said = (line_takes state.place (scope_of state.job) bytes).so (one.item, rest) one.found in
    let more = says_more state.place state.job one.item to (unread state.place state.job is) one.goes in
    record {
      line = item_text state.place (scope_of state.job) one.item;
      flat = (place_exact state.place (scope_of state.job)).flat one.item said.1;
      text = said.0;
      lines = more.0;
      is = state_more state.place state.job one.item to is said.1 one.goes;
      again = λ rest. step_is state (item_text state.place (scope_of state.job) one.item ++ 10 ∷ rest) to rest
          (record {
            item = one.item;
            found = line_again state.place (scope_of state.job) one.item rest said.1;
            goes = one.goes;
          });
    }

-- ---- many steps

-- a step to where something is so
pub record Steps (P : State → List ℕ → Type 0) (state : State) (bytes : List ℕ) : Type 0 where
  pub to : State
  pub rest : List ℕ
  pub is : step state bytes ≡ Ok (to, rest)
  pub behind : P to rest

-- so many lines lead from one state to another, and from these bytes to those
abbrev pub Walks : ℕ → State → List ℕ → State → List ℕ → Type 0
Walks zero state bytes end rest = (state ≡ end) × (bytes ≡ rest)
Walks (suc count) state bytes end rest = Steps (λ to more. Walks count to more end rest) state bytes

-- what lines make of a state
pub record Walked (count : ℕ) (state : State) (bytes : List ℕ) (end : State) (rest : List ℕ) : Type 0 where
  pub between : List Line
  pub many : length between ≡ count
  pub flat : AllByRecursion IsFlat between
  pub text : bytes ≡ spell between ++ rest
  pub lines : so_far end.place end.job ≡ so_far state.place state.job ++ between
  pub is : IsState end.place end.job
  pub again : (more : List ℕ) → Walks count state (spell between ++ more) end more

pub walk_keeps : (count : ℕ) (state : State) (bytes : List ℕ) (end : State) (rest : List ℕ)
    → IsState state.place state.job → Walks count state bytes end rest → Walked count state bytes end rest
walk_keeps zero state bytes end rest is w = record {
  between = [];
  many = refl;
  flat = tt;
  text = w.1;
  lines = ap (λ (s : State). so_far s.place s.job) (sym w.0) ∙ sym (append-nil (so_far state.place state.job));
  is = subst (λ (s : State). IsState s.place s.job) w.0 is;
  again = λ more. (w.0, refl);
}
walk_keeps (suc count) state bytes end rest is w =
    let one = step_keeps state bytes w.to w.rest is (step_of state bytes (w.to, w.rest) w.is) in
    let others = walk_keeps count w.to w.rest end rest one.is w.behind in
    let spelled : (more : List ℕ) → spell (one.line ∷ others.between) ++ more ≡ one.line ++ 10 ∷
    (spell others.between ++ more) =
    λ more. append_assoc (one.line ++ 10 ∷ []) (spell others.between) more ∙ append_assoc one.line (10 ∷ [])
    (spell others.between ++ more) in
    record {
      between = one.line ∷ others.between;
      many = ap suc others.many;
      flat = (one.flat, others.flat);
      text = one.text ∙ ap (λ (r : List ℕ). one.line ++ 10 ∷ r) others.text ∙ sym (spelled rest);
      lines = others.lines ∙ ap (λ (ls : List Line). ls ++ others.between) one.lines ∙ append_assoc
          (so_far state.place state.job) (one.line ∷ []) others.between;
      is = others.is;
      again = λ more. record {
        to = w.to;
        rest = spell others.between ++ more;
        is = ap (λ (b : List ℕ). step state b) (spelled more) ∙ one.again (spell others.between ++ more);
        behind = others.again more;
      };
    }

-- ---- reading walks

-- the end of the text, a line that isn't read, or the end of a job
pub data EndsAs (end : State) (rest : List ℕ) (line : ℕ) (result : Result LeadingJob BadLine) : Type 0 where
  Ends : IsOpen end.place → rest ≡ [] → result ≡ Err (record { line = line; why = Early }) → EndsAs end rest line result
  Fails : (why : LineWhy) → IsOpen end.place → (rest ≡ [] → ⊥) → step end rest ≡ Err why → result ≡ Err
      (record { line = line; why = why }) → EndsAs end rest line result
  IsOver : end.place ≡ Over → result ≡ Ok (leading_job end.job line rest) → EndsAs end rest line result

-- how a reading comes to its end
pub record Outcome (state : State) (line : ℕ) (bytes : List ℕ) (result : Result LeadingJob BadLine) : Type 0 where
  pub count : ℕ
  pub end : State
  pub rest : List ℕ
  pub walks : Walks count state bytes end rest
  pub ends : EndsAs end rest (line + count) result

-- it ends at once
at_once : (state : State) (line : ℕ) (bytes : List ℕ) (result : Result LeadingJob BadLine)
    → EndsAs state bytes (line + 0) result → Outcome state line bytes result
at_once state line bytes result ends = record {
  count = 0;
  end = state;
  rest = bytes;
  walks = (refl, refl);
  ends = ends;
}

-- one step before
one_before : (state : State) (line : ℕ) (bytes : List ℕ) (to : State) (more : List ℕ) (result : Result LeadingJob BadLine)
    → step state bytes ≡ Ok (to, more) → Outcome to (line + 1) more result → Outcome state line bytes result
one_before state line bytes to more result h o = record {
  count = suc o.count;
  end = o.end;
  rest = o.rest;
  walks = record { to = to; rest = more; is = h; behind = o.walks };
  ends = subst (λ (n : ℕ). EndsAs o.end o.rest n result) (omega arith) o.ends;
}

-- no line
empty_lines : (bytes : List ℕ) → from_lines bytes ≡ [] → bytes ≡ []
unfolding from_lines
empty_lines [] e = refl
empty_lines (b ∷ bytes) e = absurd (cc)

-- the first line
first_of : (bytes first : List ℕ) (later : List (List ℕ)) → from_lines bytes ≡ first ∷ later → (bytes ≡ first) ×
    (bytes ≡ [] → ⊥)
unfolding from_lines
first_of [] first later e = absurd (cc)
first_of (b ∷ bytes) first later e = (cc, λ h. absurd (cc))

-- what is told behind the last line
told_over : {A : Type 0} (place : Place) (over other : A) → place ≡ Over → over_or place over other ≡ over
told_over place over other e = ap (λ (p : Place). over_or p over other) e

-- no line follows
no_line : (state : State) (line : ℕ) (bytes : List ℕ) → bytes ≡ [] → IsOpen state.place ⊎ (state.place ≡ Over)
    → Outcome state line bytes (over_or state.place (Ok (leading_job state.job line [])) (Err
    (record { line = line; why = Early })))
no_line state line bytes none (inl open_) =
    at_once state line bytes _ (Ends open_ none (goes_on state.place _ _ open_
    ∙ ap (λ (n : ℕ). Err (record { line = n; why = Early })) (omega arith)))
no_line state line bytes none (inr over) =
    at_once state line bytes _ (IsOver over (told_over state.place _ _ over
    ∙ ap (λ (n : ℕ). Ok (leading_job state.job n [])) (omega arith)
    ∙ ap (λ (r : List ℕ). Ok (leading_job state.job (line + 0) r)) (sym none)))

-- a line follows where lines go on
run_by : (later : List (List ℕ)) (state : State) (line : ℕ) (bytes : List ℕ) (r : Result (State × List ℕ) LineWhy)
    → IsOpen state.place → step state bytes ≡ r → (bytes ≡ [] → ⊥) → ((to : State) (more : List ℕ)
    → step state bytes ≡ Ok (to, more) → Outcome to (line + 1) more (read_lines to (line + 1) later))
    → Outcome state line bytes (after_step line (λ to. read_lines to (line + 1) later) r)
run_by later state line bytes (Err why) open_ h some on =
    at_once state line bytes _ (Fails why open_ some h (ap (λ (n : ℕ). Err (record { line = n; why = why }))
    (omega arith)))
run_by later state line bytes (Ok x) open_ h some on = one_before state line bytes x.0 x.1
    (read_lines x.0 (line + 1) later) h (on x.0 x.1 h)

-- a line follows
some_line : (later : List (List ℕ)) (state : State) (line : ℕ) (bytes : List ℕ)
    → IsOpen state.place ⊎ (state.place ≡ Over) → (bytes ≡ [] → ⊥) → ((to : State) (more : List ℕ)
    → step state bytes ≡ Ok (to, more) → Outcome to (line + 1) more (read_lines to (line + 1) later))
    → Outcome state line bytes (over_or state.place (Ok (leading_job state.job line bytes))
    (after_step line (λ to. read_lines to (line + 1) later) (step state bytes)))
some_line later state line bytes (inl open_) some on =
    subst (Outcome state line bytes) (sym (goes_on state.place _ _ open_))
    (run_by later state line bytes (step state bytes) open_ refl some on)
some_line later state line bytes (inr over) some on =
    at_once state line bytes _ (IsOver over (told_over state.place _ _ over
    ∙ ap (λ (n : ℕ). Ok (leading_job state.job n bytes)) (omega arith)))

run_outcome : (lines : List (List ℕ)) (state : State) (line : ℕ) (bytes : List ℕ) → from_lines bytes ≡ lines
    → Outcome state line bytes (read_lines state line lines)
unfolding read_lines
run_outcome [] state line bytes e = no_line state line bytes (empty_lines bytes e) (open_or_over state.place)
run_outcome (first ∷ later) state line bytes e =
    let f = first_of bytes first later e in
    subst (λ (b : List ℕ). Outcome state line bytes (over_or state.place (Ok (leading_job state.job line b))
    (after_step line (λ to. read_lines to (line + 1) later) (step state b)))) f.0
    (some_line later state line bytes (open_or_over state.place) f.1 (λ to more h.
    let one = step_of state bytes (to, more) h in
    let lines : from_lines bytes ≡ bytes ∷ from_lines more = lines_after state.place (scope_of state.job) bytes
    (one.item, more) one.found in
    run_outcome later to (line + 1) more (tail_same (sym lines ∙ e))))
  where
    tail_same : {a b : List ℕ} {xs ys : List (List ℕ)} → ◌≡◌ {A = List (List ℕ)} (a ∷ xs) (b ∷ ys) → xs ≡ ys
    tail_same h = cc

pub read_outcome : (state : State) (line : ℕ) (bytes : List ℕ) → Outcome state line bytes (read state line bytes)
unfolding read
read_outcome state line bytes = run_outcome (from_lines bytes) state line bytes refl
