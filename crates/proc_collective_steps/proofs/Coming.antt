-- What a call of collectives makes of a caller that lacks no memory, as a function of the node's record.
use Rattle.std.proofs.Common.{◌≡◌, ℕ, zero, suc, Bool, true, false, true≢false, Option, None, Some, sym}
use Rattle.std.proofs.Common.{ap, ◌∙◌, subst}
use Rattle.spec_node.specs.Record.{Node}
use Rattle.node_rules.specs.EndpointLocal.{EndpointLocal}
use Rattle.node_rules.specs.declared.answer.Answer.{Answer}
use Rattle.node_collectives.specs.CollectivesState.{CollectivesState, progress_of}
use Rattle.node_collectives.specs.Ends.{EndAsked, Ends, IsLong, Tries, end_calls, ended_then, segment_in}
use Rattle.node_collectives.specs.Progress.{end_refusal, is_left, is_open, start_refusal}
use Rattle.node_collectives.specs.Starts.{Calls, CallsOne, Refuses, StartAsked, Starts, start_call, start_told, started_then}
use Rattle.node_collectives.specs.Steps.{Rests, Sends, Steps, StepsFrom, after_ask, step_call, step_told}
use Rattle.node_collectives.specs.declared.answers.EndAnswer.{EndAnswer}
use Rattle.node_collectives.specs.declared.answers.StartAnswer.{StartAnswer}
use Rattle.node_collectives.specs.declared.answers.StepAnswer.{StepAnswer}
use Rattle.node_collectives.specs.declared.answers.StepAnswer.TheVariants as steps
use Rattle.node_endpoint.specs.declared.caller.Caller.{Ghosts}
use Rattle.node_endpoint.specs.Making.{whole_after}
use Rattle.node_endpoint.specs.Sites.{Site, ThreadCall, answer_at, node_then}
use Rattle.node_endpoint.proofs.Joining.{Follows}
use Rattle.proc_collective_steps.specs.Outcomes.{Outcome, behind_call, end_by, end_outcome, start_by, start_outcome, step_from}
use Rattle.proc_collective_steps.specs.Outcomes.{step_outcome, without_calls}
use Rattle.proc_collective_steps.proofs.Resting.{from_left, from_open, rest_from}

-- the call came to this, of a whole for which the caller stood
pub record Came {K Told : Type 0} (caller : Ghosts K) (site : Site) (whole : caller.Whole) (outcome : Outcome Told)
    (told : Told) (next : CollectivesState) (new : K) : Type 0 where
  pub answered : told ≡ outcome.answer
  pub next_is : next ≡ outcome.next
  pub left : caller.stands new (whole_after caller site whole outcome.calls)

-- the record of the caller's node in a whole
abbrev node_of : {K : Type 0} (caller : Ghosts K) → (at : K) → caller.Whole → Node EndpointLocal
node_of caller at whole = caller.record_in (caller.site at) whole

-- one call of the node
pub record OneCame {K : Type 0} (caller : Ghosts K) (old : K) (whole : caller.Whole) (call : ThreadCall)
    (told : Option Answer) (new : K) : Type 0 where
  pub answered : told ≡ Some (answer_at (caller.site old) (node_of caller old whole) call)
  pub left : caller.stands new (caller.after (caller.site old) whole call)

one_came : {K : Type 0} (caller : Ghosts K) → caller.may_lack ≡ false → (old : K) (call : ThreadCall)
    (told : Option Answer) (new : K) → CallsOne caller old call told new → (whole : caller.Whole)
    → caller.stands old whole → OneCame caller old whole call told new
one_came caller never old call (Some answer) new calls whole stands =
    record { answered = ap Some (calls.made.1 whole stands); left = calls.made.0.whole whole stands }
one_came caller never old call None new calls whole stands =
    absurd (true≢false (sym (calls.made.1 whole stands).0.0 ∙ never))

-- nothing was done
nothing_came : {K Told : Type 0} (caller : Ghosts K) (old : K) (told : Told) (it : CollectivesState)
    (whole : caller.Whole) (site : Site) → caller.stands old whole → (answer : Told) (next : CollectivesState) (new : K)
    → answer ≡ told → next ≡ it → new ≡ old → Came caller site whole (without_calls told it) answer next new
nothing_came caller old told it whole site stands answer next new a n s =
    record { answered = a; next_is = n; left = subst (λ at. caller.stands at whole) (sym s) stands }

-- ---- a start

abbrev StartWays : {K : Type 0} → (caller : Ghosts K) → CollectivesState → K → StartAsked → StartAnswer
    → CollectivesState → K → Option StartAnswer → Type 0
StartWays caller it old asked answer next new refusal = elim refusal [
  | Some first ↦ Refuses it old first answer next new
  | None ↦ Calls caller it old asked answer next new
]

pub start_came : {K : Type 0} (caller : Ghosts K) → caller.may_lack ≡ false → (it : CollectivesState) (old : K)
    (asked : StartAsked) (answer : StartAnswer) (next : CollectivesState) (new : K)
    → Starts caller it old asked answer next new → (whole : caller.Whole) → caller.stands old whole
    → Came caller (caller.site old) whole
    (start_outcome (caller.site old) (node_of caller old whole) it asked) answer next new
start_came caller never it old asked answer next new starts whole stands =
    by_refusal (start_refusal it.area it.settings.segment (progress_of it) asked.shape asked.from) starts
  where
    by_refusal : (refusal : Option StartAnswer) → StartWays caller it old asked answer next new refusal
        → Came caller (caller.site old) whole (start_by (caller.site old) (node_of caller old whole) it asked refusal)
        answer next new
    by_refusal (Some first) refuses =
        nothing_came caller old first it whole (caller.site old) stands answer next new refuses.answer_is
        refuses.next_is refuses.same
    by_refusal None calls =
        let one = one_came caller never old (start_call it asked) calls.told new calls.called whole stands in
        let answered = calls.answer_is ∙ ap start_told one.answered in
        record {
          answered = answered;
          next_is = calls.next_is ∙ ap (λ (says : StartAnswer). started_then says it asked.shape) answered;
          left = one.left;
        }

-- ---- a step

-- what a step does behind a call, by whether that ends it
abbrev RestsSo : {K : Type 0} → (caller : Ghosts K) → (thread to many : ℕ) → (between : K) → CollectivesState
    → StepAnswer → CollectivesState → K → Option StepAnswer → Type 0
RestsSo caller thread to many between after answer next new stop = elim stop [
  | Some end ↦ Rests after between end answer next new
  | None ↦ StepsFrom caller thread (suc to) many after between answer next new
]

-- and from a node on, by whether that is left
abbrev StepsSo : {K : Type 0} → (caller : Ghosts K) → (thread to many : ℕ) → CollectivesState → K → StepAnswer
    → CollectivesState → K → (left : Bool) → Type 0
StepsSo {K} caller thread to many it old answer next new left = elim left [
  | false ↦ StepsFrom caller thread (suc to) many it old answer next new
  | true ↦ (stop : Option StepAnswer) × (after : CollectivesState) × (between : K)
      × Sends caller thread to it old stop after between
      × RestsSo caller thread to many between after answer next new stop
]

-- the rest of the step comes to what it says
abbrev Deeper : {K : Type 0} → (caller : Ghosts K) → (thread to many : ℕ) → StepAnswer → CollectivesState → K → Type 0
Deeper {K} caller thread to many answer next new =
    (it : CollectivesState) (old : K) → StepsFrom caller thread to many it old answer next new → (whole : caller.Whole)
    → caller.stands old whole
    → Came caller (caller.site old) whole (step_from (caller.site old) thread to many (node_of caller old whole) it) answer
    next new

rest_came : {K : Type 0} (caller : Ghosts K) → Follows caller → (thread to many : ℕ) (it : CollectivesState) (old : K)
    (answer : StepAnswer) (next : CollectivesState) (new : K) (whole : caller.Whole) (said : Option Answer) (between : K)
    → Deeper caller thread (suc to) many answer next new
    → let call = step_call it thread to in
    caller.site between ≡ caller.site old → caller.stands between (caller.after (caller.site old) whole call)
    → (stop : Option StepAnswer) → RestsSo caller thread to many between (after_ask it to said) answer next new stop
    → Came caller (caller.site old) whole (behind_call call
    (rest_from (caller.site old) thread to many (node_then (caller.site old) (node_of caller old whole) call) it said stop))
    answer next new
rest_came caller follows thread to many it old answer next new whole said between deeper same left (Some end) rests =
    record {
      answered = rests.answer_is;
      next_is = rests.next_is;
      left = subst (λ at. caller.stands at (caller.after (caller.site old) whole (step_call it thread to)))
          (sym rests.same) left;
    }
rest_came caller follows thread to many it old answer next new whole said between deeper same left None rests =
    let call = step_call it thread to in
    let site = caller.site old in
    let after = after_ask it to said in
    let later = caller.after site whole call in
    let there = subst (λ (at : Site). Came caller at later
    (step_from at thread (suc to) many (caller.record_in at later) after) answer next new) same
    (deeper after between rests later left) in
    let so = subst (λ (n : Node EndpointLocal). Came caller site later
    (step_from site thread (suc to) many n after) answer next new) (follows site whole call) there in
    record { answered = so.answered; next_is = so.next_is; left = so.left }

asked_came : {K : Type 0} (caller : Ghosts K) → caller.may_lack ≡ false → Follows caller → (thread to many : ℕ)
    (it : CollectivesState) (old : K) (answer : StepAnswer) (next : CollectivesState) (new : K) (whole : caller.Whole)
    → caller.stands old whole → Deeper caller thread (suc to) many answer next new
    → (left : Bool) → StepsSo caller thread to many it old answer next new left
    → Came caller (caller.site old) whole
    (from_left (caller.site old) thread to many (node_of caller old whole) it left) answer next new
asked_came caller never follows thread to many it old answer next new whole stands deeper false on =
    deeper it old on whole stands
asked_came {K} caller never follows thread to many it old answer next new whole stands deeper true on =
    let call = step_call it thread to in
    let said : Option Answer = Some (answer_at (caller.site old) (node_of caller old whole) call) in
    let stop = on.0 in
    let after = on.1 in
    let between = on.2 in
    let sends = on.3 in
    let one = one_came caller never old call sends.told between sends.called whole stands in
    let stop_is : stop ≡ step_told to said = sends.stop_is ∙ ap (step_told to) one.answered in
    let after_is : after ≡ after_ask it to said = sends.next_is ∙ ap (after_ask it to) one.answered in
    rest_came caller follows thread to many it old answer next new whole said between deeper sends.called.site one.left
    (step_told to said)
    (subst (RestsSo caller thread to many between (after_ask it to said) answer next new) stop_is
    (subst (λ (a : CollectivesState). RestsSo caller thread to many between a answer next new stop) after_is on.4))

steps_came : {K : Type 0} (caller : Ghosts K) → caller.may_lack ≡ false → Follows caller → (thread to many : ℕ)
    (answer : StepAnswer) (next : CollectivesState) (new : K) → Deeper caller thread to many answer next new
steps_came caller never follows thread to zero answer next new it old rests whole stands =
    nothing_came caller old steps.Nothing it whole (caller.site old) stands answer next new rests.answer_is
    rests.next_is rests.same
steps_came caller never follows thread to (suc many) answer next new it old steps_on whole stands =
    asked_came caller never follows thread to many it old answer next new whole stands
    (steps_came caller never follows thread (suc to) many answer next new) (is_left it.me to (progress_of it)) steps_on

abbrev OpenSo : {K : Type 0} → (caller : Ghosts K) → (thread : ℕ) → CollectivesState → K → StepAnswer
    → CollectivesState → K → (open_ : Bool) → Type 0
OpenSo caller thread it old answer next new open_ = elim open_ [
  | true ↦ StepsFrom caller thread 0 it.area.nodes it old answer next new
  | false ↦ Rests it old steps.Nothing answer next new
]

pub step_came : {K : Type 0} (caller : Ghosts K) → caller.may_lack ≡ false → Follows caller → (thread : ℕ)
    (it : CollectivesState) (old : K) (answer : StepAnswer) (next : CollectivesState) (new : K)
    → Steps caller thread it old answer next new → (whole : caller.Whole) → caller.stands old whole
    → Came caller (caller.site old) whole
    (step_outcome (caller.site old) thread (node_of caller old whole) it) answer next new
step_came caller never follows thread it old answer next new steps_on whole stands =
    by_open (is_open (progress_of it)) steps_on
  where
    by_open : (open_ : Bool) → OpenSo caller thread it old answer next new open_
        → Came caller (caller.site old) whole
        (from_open (caller.site old) thread (node_of caller old whole) it open_) answer next new
    by_open true on = steps_came caller never follows thread 0 it.area.nodes answer next new it old on whole stands
    by_open false rests =
        nothing_came caller old steps.Nothing it whole (caller.site old) stands answer next new rests.answer_is
        rests.next_is rests.same

-- ---- a try to end

abbrev EndWays : {K : Type 0} → (caller : Ghosts K) → CollectivesState → K → EndAsked → EndAnswer
    → CollectivesState → K → Option EndAnswer → Type 0
EndWays caller it old asked answer next new refusal = elim refusal [
  | Some first ↦ Refuses it old first answer next new
  | None ↦ Tries caller it old asked answer next new
]

pub end_came : {K : Type 0} (caller : Ghosts K) (it : CollectivesState) (old : K) (asked : EndAsked)
    (answer : EndAnswer) (next : CollectivesState) (new : K) → Ends caller it old asked answer next new
    → (whole : caller.Whole) → caller.stands old whole → IsLong (caller.site old) (node_of caller old whole)
    → Came caller (caller.site old) whole
    (end_outcome (caller.site old) (node_of caller old whole) it asked) answer next new
end_came caller it old asked answer next new ends whole stands long =
    by_refusal (end_refusal it.area it.settings.segment it.me (progress_of it) asked.dest) ends
  where
    by_refusal : (refusal : Option EndAnswer) → EndWays caller it old asked answer next new refusal
        → Came caller (caller.site old) whole (end_by (caller.site old) (node_of caller old whole) it asked refusal)
        answer next new
    by_refusal (Some first) refuses =
        nothing_came caller old first it whole (caller.site old) stands answer next new refuses.answer_is
        refuses.next_is refuses.same
    by_refusal None tries =
        let site = caller.site old in
        let node = node_of caller old whole in
        let answered = tries.answered whole stands long in
        record {
          answered = answered;
          next_is = tries.next_is ∙ ap (λ (says : EndAnswer). ended_then says it) answered;
          left = subst (λ (says : EndAnswer).
              caller.stands new (whole_after caller site whole (end_calls it (segment_in site node) asked says)))
              answered (tries.made whole stands long);
        }
