-- Scripts make the calls of their actions alone, and a try that waits leaves all as it was.
use Rattle.std.proofs.Common.{◌≡◌, inl, inr, ℕ, Bool, true, false, true≢false, cond, ◌&&◌, ◌||◌, List, [], ◌∷◌, Option}
use Rattle.std.proofs.Common.{None, Some, refl, sym, ap, ap₂, ◌∙◌, subst}
use Rattle.std.specs.Prelude.{is_some, is_none}
use Rattle.std.specs.List.{AllByRecursion}
use Rattle.std.specs.Option.{option_or, option_to_list}
use Rattle.std.proofs.lemmas.Bool.{cases_eq}
use Rattle.base_lists.specs.Put.{put}
use Rattle.base_lists.proofs.Put.{put_same, put_other, put_own}
use Rattle.spec_node.specs.Record.{Node}
use Rattle.spec_node.specs.NodeStep.{NodeEvent}
use Rattle.node_rules.specs.Called.{node_event}
use Rattle.node_rules.specs.EndpointRules.{OtherCall}
use Rattle.node_rules.specs.declared.answer.Answer.{Answer}
use Rattle.law_traces.specs.declared.script_answer.ScriptAnswer.{ScriptAnswer}
use Rattle.law_traces.specs.Scripts.{ThreadCall, Scripts, TryContext, NodeJob}
use Rattle.law_traces.specs.Actions.{Form, Once, Again, Until, Twice, Looks, Several, calls_of, ended_by, begins}
use Rattle.node_collectives.specs.CollectivesState.{CollectivesState}
use Rattle.law_traces.specs.Actions.{Progress, OwnScripts, Reading, next_calls, tried_step, scripts_of, FormMay}
use Rattle.law_traces.specs.Actions.{ActionMay, ActionsMay, FormFar, IfFar, StepContext, collectives_after, collectives_then}
use Rattle.law_traces.specs.Actions.{moves, step_part_of}
use Rattle.law_traces.specs.Actions.{step_context}
use Rattle.law_traces.proofs.Emptying.{or_parts}
use Rattle.law_traces.proofs.Turns.{AreWritten}

-- the second call of a form, if it makes one
second_may : (May : ThreadCall → Type 0) (call : Option ThreadCall) → ((made : ThreadCall) → call ≡ Some made → May made)
    → AllByRecursion May (option_to_list call)
second_may May None may = tt
second_may May (Some made) may = (may made refl, tt)

-- the calls of a form
pub calls_may : {Kept : Type 0} (May : ThreadCall → Type 0) (form : Form Kept) (began : Option Answer)
    → FormMay May form → AllByRecursion May (calls_of form began)
calls_may May (Once made) began may = (may, tt)
calls_may May (Again waits made) began may = (may, tt)
calls_may May (Until call ends) began may = (may, tt)
calls_may May (Twice begin next waits says) None may = (may.0, tt)
calls_may May (Twice begin next waits says) (Some answer) may = second_may May (next answer) (may.1 answer)
calls_may May (Looks begin ready) None may = (may, tt)
calls_may May (Looks begin ready) (Some answer) may = tt
calls_may May (Several first later) None may = may.0
calls_may May (Several first later) (Some answer) may = may.1

-- how far the node's collectives are after a form
next_far : (Far : CollectivesState → Type 0) (next now : Option CollectivesState) → IfFar Far next → IfFar Far now
    → IfFar Far (option_or next now)
next_far Far None now far old = old
next_far Far (Some it) now far old = far

form_far : {Kept : Type 0} (Far : CollectivesState → Type 0) (form : Form Kept) (began : Option Answer)
    (now : Option CollectivesState) → FormFar Far form → IfFar Far now → IfFar Far (collectives_after form began now)
form_far Far (Once made) began now may old = old
form_far Far (Again waits made) began now may old = old
form_far Far (Until call ends) began now may old = old
form_far Far (Twice begin next waits says) began now may old = old
form_far Far (Looks begin ready) began now may old = old
form_far Far (Several first later) None now may old = next_far Far first.next now may.0 old
form_far Far (Several first later) (Some answer) now may old = next_far Far later.next now may.1 old

-- the calls of a thread's next step
next_may : {Kept Action : Type 0} (Fits : Kept → Type 0) (May : ThreadCall → Type 0) (Far : CollectivesState → Type 0)
    (form : Reading Kept Action) (at : StepContext) (began : Option Answer) (left : List Action) (node : Node Kept)
    → AllByRecursion (ActionMay Fits May Far form) left → Fits node.local → IfFar Far at.collectives
    → AllByRecursion May (next_calls form at began left node)
next_may Fits May Far form at began [] node all fit far = tt
next_may Fits May Far form at began (action ∷ rest) node all fit far =
    calls_may May (form action at node) began ((all.0 at node far).calls fit)

then_far : {Kept Action : Type 0} (Fits : Kept → Type 0) (May : ThreadCall → Type 0) (Far : CollectivesState → Type 0)
    (form : Reading Kept Action) (at : StepContext) (began : Option Answer) (left : List Action) (node : Node Kept)
    → AllByRecursion (ActionMay Fits May Far form) left → IfFar Far at.collectives
    → IfFar Far (collectives_then form at began left node)
then_far Fits May Far form at began [] node all far = far
then_far Fits May Far form at began (action ∷ rest) node all far =
    form_far Far (form action at node) began at.collectives (all.0 at node far).far far

-- what is left of them
left_may : {Kept Action : Type 0} (P : Action → Type 0) (form : Reading Kept Action) (at : StepContext)
    (began : Option Answer) (left : List Action) (before after : Node Kept) (answer : Option Answer)
    → AllByRecursion P left → AllByRecursion P (tried_step form at began left before after answer).left.left
left_may P form at began [] before after answer all = tt
left_may {Kept} {Action} P form at began (action ∷ rest) before after answer all =
    go (is_some (ended_by (form action at before) began after answer))
    (begins (form action at before) && is_none began)
  where
    go : (ended starts : Bool) → AllByRecursion P
        (cond {A = Progress Action} ended (record { left = rest; began = None })
        (cond {A = Progress Action} starts (record { left = action ∷ rest; began = answer })
        (record { left = action ∷ rest; began = began }))).left
    go true starts = all.1
    go false true = all
    go false false = all

-- what scripts do that may be said is what may happen, where what a node keeps fits as its step is tried
pub are_written : {Kept Action : Type 0} (job : NodeJob Kept (OwnScripts Action)) (Fits : Kept → Type 0)
    (May : ThreadCall → Type 0) (Far : CollectivesState → Type 0) (MayHappen : NodeEvent OtherCall → Type 0)
    (form : Reading Kept Action) → job.scripts ≡ scripts_of form
    → ((thread : ℕ) (call : ThreadCall) → May call → MayHappen (node_event thread call))
    → AreWritten job Fits MayHappen (ActionsMay Fits May Far form)
are_written {Kept} {Action} job Fits May Far MayHappen form is event =
    record {
      calls = λ at own node W fit. subst (λ (x : Scripts Kept (OwnScripts Action)).
          AllByRecursion (λ (call : ThreadCall). MayHappen (node_event at.thread call)) (x.calls at own node)) (sym is)
          (all_happen at.thread
          (next_calls form (step_context at own) (own.threads at.thread).began (own.threads at.thread).left node)
          (next_may Fits May Far form (step_context at own) (own.threads at.thread).began (own.threads at.thread).left
          node (W.threads at.thread) fit W.far));
      left = λ at own before after answer W. subst (λ (x : Scripts Kept (OwnScripts Action)).
          ActionsMay Fits May Far form (x.tried at own before after answer).left) (sym is)
          (left_all at own before after answer W);
    }
  where
    all_happen : (thread : ℕ) (calls : List ThreadCall) → AllByRecursion May calls
        → AllByRecursion (λ (call : ThreadCall). MayHappen (node_event thread call)) calls
    all_happen thread [] may = tt
    all_happen thread (call ∷ calls) may = (event thread call may.0, all_happen thread calls may.1)

    left_all : (at : TryContext) (own : OwnScripts Action) (before after : Node Kept) (answer : Option Answer)
        → ActionsMay Fits May Far form own
        → ActionsMay Fits May Far form ((scripts_of form).tried at own before after answer).left
    left_all at own before after answer W =
        let P : Action → Type 0 = ActionMay Fits May Far form in
        let thread = at.thread in
        let here = step_context at own in
        let progress = own.threads thread in
        let tried = tried_step form here progress.began progress.left before after answer in
        record {
          threads = λ other. elim (cases_eq other thread) [
            | inl e ↦ subst (λ (p : Progress Action). AllByRecursion P p.left)
                (sym (ap (put own.threads thread tried.left) e ∙ put_same own.threads thread tried.left))
                (left_may P form here progress.began progress.left before after answer (W.threads thread))
            | inr apart ↦ subst (λ (p : Progress Action). AllByRecursion P p.left)
                (sym (put_other own.threads thread tried.left other apart)) (W.threads other)
          ];
          far = then_far Fits May Far form here progress.began progress.left before (W.threads thread) W.far;
        }

-- ---- a try that neither ends nor begins anything

not_both : (a b : Bool) → (a && b) ≡ false → b ≡ true → a ≡ false
not_both true b h k = absurd (true≢false (sym k ∙ h))
not_both false b h k = refl

-- a try that is known to do neither: it begins nothing, and leaves the node's collectives
record IsIdle {Kept : Type 0} (form : Form Kept) (began : Option Answer) : Type 0 where
  pub starts : (begins form && is_none began) ≡ false
  pub moved : moves form began ≡ false

idle_is : {Kept : Type 0} (form : Form Kept) (began : Option Answer) (ended : Option ScriptAnswer) → ended ≡ None
    → ((begins form && is_none began || moves form began) && is_none ended) ≡ false → IsIdle form began
idle_is form began ended e b =
    let both = or_parts (begins form && is_none began) (moves form began)
    (not_both (begins form && is_none began || moves form began) (is_none ended) b (ap is_none e)) in
    record { starts = both.0; moved = both.1 }

-- what is left of a thread's script
step_same : {Kept Action : Type 0} (form : Reading Kept Action) (at : StepContext) (began : Option Answer)
    (left : List Action) (before after : Node Kept) (answer : Option Answer)
    → (tried_step form at began left before after answer).ended ≡ None
    → (tried_step form at began left before after answer).began ≡ false
    → (tried_step form at began left before after answer).left ≡ record { left = left; began = began }
step_same form at began [] before after answer e b = refl
step_same {Kept} {Action} form at began (action ∷ rest) before after answer e b =
    let one = form action at before in
    go (is_some (ended_by one began after answer)) (begins one && is_none began) (ap is_some e)
    (idle_is one began (ended_by one began after answer) e b).starts
  where
    go : (ended starts : Bool) → ended ≡ false → starts ≡ false
        → ◌≡◌ {A = Progress Action} (cond ended (record { left = rest; began = None })
        (cond starts (record { left = action ∷ rest; began = answer })
        (record { left = action ∷ rest; began = began })))
        (record { left = action ∷ rest; began = began })
    go true starts h k = absurd (true≢false h)
    go false true h k = absurd (true≢false k)
    go false false h k = refl

-- how far the node's collectives are
unmoved : {Kept : Type 0} (form : Form Kept) (began : Option Answer) (now : Option CollectivesState)
    → moves form began ≡ false → collectives_after form began now ≡ now
unmoved (Once call) began now e = refl
unmoved (Again waits call) began now e = refl
unmoved (Until call ends) began now e = refl
unmoved (Twice begin next waits says) began now e = refl
unmoved (Looks begin ready) began now e = refl
unmoved (Several first later) began now e = go (step_part_of first later began).next e
  where
    go : (next : Option CollectivesState) → is_some next ≡ false → option_or next now ≡ now
    go None h = refl
    go (Some state) h = absurd (true≢false h)

collectives_same : {Kept Action : Type 0} (form : Reading Kept Action) (at : StepContext) (began : Option Answer)
    (left : List Action) (before after : Node Kept) (answer : Option Answer)
    → (tried_step form at began left before after answer).ended ≡ None
    → (tried_step form at began left before after answer).began ≡ false
    → collectives_then form at began left before ≡ at.collectives
collectives_same form at began [] before after answer e b = refl
collectives_same form at began (action ∷ rest) before after answer e b =
    let one = form action at before in
    unmoved one began at.collectives (idle_is one began (ended_by one began after answer) e b).moved

-- the scripts of the node
pub scripts_same : {Kept Action : Type 0} (form : Reading Kept Action) (at : TryContext) (own : OwnScripts Action)
    (before after : Node Kept) (answer : Option Answer)
    → ((scripts_of form).tried at own before after answer).ended ≡ None
    → ((scripts_of form).tried at own before after answer).began ≡ false
    → ((scripts_of form).tried at own before after answer).left ≡ own
scripts_same {Kept} {Action} form at own before after answer e b =
    let here = step_context at own in
    let progress = own.threads at.thread in
    ap₂ (λ (threads : ℕ → Progress Action) (now : Option CollectivesState). record {
      threads = threads;
      collectives = now;
    })
    (ap (put own.threads at.thread) (step_same form here progress.began progress.left before after answer e b)
    ∙ put_own own.threads at.thread)
    (collectives_same form here progress.began progress.left before after answer e b)
