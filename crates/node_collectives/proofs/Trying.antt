-- A try to end: its poll, and the calls behind it.
use Rattle.std.proofs.Common.{◌≡◌, ℕ, ◌+◌, Bool, true, false, List, [], Option, Some, None, length, refl, sym, ap, ap₂, ◌∙◌, subst}
use Rattle.std.specs.Prelude.{Result, Ok, Err}
use Rattle.std.proofs.lemmas.Bool.{true≢false}
use Rattle.wire_message.specs.Parameters.{Parameters}
use Rattle.part_handlers.specs.declared.rules.Forbidden.{Forbidden}
use Rattle.part_handlers.specs.declared.table.Entry.{Entry}
use Rattle.part_handlers.specs.Runs.{Meaning}
use Rattle.spec_node.specs.Record.{Node}
use Rattle.node_core.specs.Kept.{Local, segment_of}
use Rattle.node_core.specs.ClientRules.{rules}
use Rattle.node_rules.specs.CoreCalls.{if_allowed}
use Rattle.node_rules.specs.EndpointLocal.{EndpointLocal}
use Rattle.node_rules.specs.declared.answer.Answer.{Answer}
use Rattle.node_endpoint.specs.declared.caller.Caller.{Ghosts}
use Rattle.node_endpoint.specs.Sites.{Site, ThreadCall, node_then}
use Rattle.node_endpoint.specs.Making.{whole_after}
use Rattle.node_endpoint.proofs.Joining.{Follows}
use Rattle.node_collectives.specs.declared.answers.EndAnswer.{EndAnswer}
use Rattle.node_collectives.specs.declared.answers.EndAnswer.TheVariants as end_answers
use Rattle.node_collectives.specs.CollectivesState.{CollectivesState, IsSameNode, progress_of}
use Rattle.node_collectives.specs.Progress.{end_refusal}
use Rattle.node_collectives.specs.Starts.{CallsOne, Refuses}
use Rattle.node_collectives.specs.Ends.{EndAsked, Ends, IsLong, Polls, Tries, WritesResult, calls_behind, end_told}
use Rattle.node_collectives.specs.Ends.{ended_then, poll_call, result_calls, segment_in}

-- a poll leaves the segment
poll_leaves : (site : Site) (node : Node EndpointLocal) (thread : ℕ)
    → segment_in site (node_then site node (poll_call thread)) ≡ segment_in site node
poll_leaves site node thread = by_judged site.settings site.table site.meaning thread _ _ node.local.core
  where
    by_judged : (settings : Parameters) (table : List (Option Entry)) (meaning : Meaning) (thread : ℕ)
        (judged : Result (Unit {0}) Forbidden) (answer : Answer) (core : Local)
        → segment_of settings (if_allowed (rules settings table meaning) thread judged answer core).1
        ≡ segment_of settings core
    by_judged settings table meaning thread (Ok allowed) answer core = refl
    by_judged settings table meaning thread (Err forbidden) answer core = refl

-- so it is of the node's record in what the poll leaves of a whole
polled_segment : {K : Type 0} (caller : Ghosts K) → Follows caller → (site : Site) (whole : caller.Whole) (thread : ℕ)
    → segment_in site (caller.record_in site (caller.after site whole (poll_call thread)))
    ≡ segment_in site (caller.record_in site whole)
polled_segment caller follows site whole thread =
    ap (segment_in site) (follows site whole (poll_call thread)) ∙ poll_leaves site (caller.record_in site whole) thread

-- the poll was answered, and the try by that
pub polls_told : {K : Type 0} (caller : Ghosts K) → Follows caller → (it : CollectivesState) (old : K) (thread : ℕ)
    (said : Answer) (answer : EndAnswer) (bytes : List ℕ) (new : K) → it.settings ≡ (caller.site old).settings
    → CallsOne caller old (poll_call thread) (Some said) new
    → ((whole : caller.Whole) → caller.stands new whole
    → bytes ≡ segment_in (caller.site new) (caller.record_in (caller.site new) whole))
    → (length bytes ≡ it.settings.segment → answer ≡ end_told it bytes said) → Polls caller it old thread answer new
polls_told {K} caller follows it old thread said answer bytes new settings called shown told = record {
  site = called.site;
  reference = called.reference;
  answered = λ whole stands long.
      let site = caller.site old in
      let here = caller.after site whole (poll_call thread) in
      let P : Site → Type 0 = λ at. bytes ≡ segment_in at (caller.record_in at here) in
      let after : P site = subst P called.site (shown here (called.made.0.whole whole stands)) in
      let same = after ∙ polled_segment caller follows site whole thread in
      let size = ap (λ (one : Parameters). one.segment) settings in
      told (ap (λ (now : List ℕ). length now) same ∙ (long ∙ sym size))
      ∙ ap₂ (end_told it) same (called.made.1 whole stands);
  made = λ whole stands long. called.made.0.whole whole stands;
}

-- memory never runs out at a poll
pub polls_lacks : {K : Type 0} (caller : Ghosts K) (it : CollectivesState) (old : K) (thread : ℕ) (answer : EndAnswer)
    (new : K) → CallsOne caller old (poll_call thread) None new → Polls caller it old thread answer new
polls_lacks caller it old thread answer new called = record {
  site = called.site;
  reference = called.reference;
  answered = λ whole stands long. absurd (called.made.1 whole stands).0.1;
  made = λ whole stands long. absurd (called.made.1 whole stands).0.1;
}

-- what was written behind the poll, at the place where the calls began
wrote_behind : {K : Type 0} (caller : Ghosts K) → Follows caller → (it : CollectivesState) (old between : K)
    (asked : EndAsked) (answer : EndAnswer) (done : Bool) (new : K) → Polls caller it old asked.thread answer between
    → WritesResult caller it between asked done new → (whole : caller.Whole) → caller.stands old whole
    → let site = caller.site old in
    let node = caller.record_in site whole in
    IsLong site node
    → (done ≡ true)
    × caller.stands new (whole_after caller site (caller.after site whole (poll_call asked.thread))
    (result_calls it (segment_in site node) asked))
wrote_behind {K} caller follows it old between asked answer done new polls writes whole stands long =
    let site = caller.site old in
    let segment = segment_in site (caller.record_in site whole) in
    let here = caller.after site whole (poll_call asked.thread) in
    let same = polled_segment caller follows site whole asked.thread in
    let P : Site → Type 0 = λ at. IsLong at (caller.record_in at here)
    → (done ≡ true)
    × caller.stands new (whole_after caller at here (result_calls it (segment_in at (caller.record_in at here)) asked)) in
    let wrote : P site = subst P polls.site (writes.wrote here (polls.made whole stands long)) in
    let both = wrote (ap (λ (bytes : List ℕ). length bytes) same ∙ long) in (
      both.0,
      subst (λ (bytes : List ℕ). caller.stands new (whole_after caller site here (result_calls it bytes asked))) same
          both.1,
    )

-- the phase ended with a result
pub tries_ended : {K : Type 0} (caller : Ghosts K) → Follows caller → (it : CollectivesState) (old between : K)
    (asked : EndAsked) (new : K) → Polls caller it old asked.thread end_answers.Ended between
    → WritesResult caller it between asked true new
    → Tries caller it old asked end_answers.Ended (record it { ended = it.ended + 1 }) new
tries_ended caller follows it old between asked new polls writes = record {
  site = writes.site ∙ polls.site;
  reference = writes.reference ∙ polls.reference;
  answered = polls.answered;
  made = λ whole stands long.
      (wrote_behind caller follows it old between asked end_answers.Ended true new polls writes whole stands long).1;
  next_is = refl;
}

-- memory ran out while it was written: no whole stood
pub tries_lacks : {K : Type 0} (caller : Ghosts K) → Follows caller → (it : CollectivesState) (old between : K)
    (asked : EndAsked) (new : K) → Polls caller it old asked.thread end_answers.Ended between
    → WritesResult caller it between asked false new
    → Tries caller it old asked end_answers.NoMemory it new
tries_lacks caller follows it old between asked new polls writes = record {
  site = writes.site ∙ polls.site;
  reference = writes.reference ∙ polls.reference;
  answered = λ whole stands long. absurd (never whole stands long);
  made = λ whole stands long. absurd (never whole stands long);
  next_is = refl;
}
  where
    never : (whole : caller.Whole) → caller.stands old whole
        → IsLong (caller.site old) (caller.record_in (caller.site old) whole) → ⊥
    never whole stands long =
        true≢false (sym (wrote_behind caller follows it old between asked end_answers.Ended false new polls writes whole
        stands long).0)

-- nothing is written where the try is answered otherwise
nothing_behind : (it : CollectivesState) (segment : List ℕ) (asked : EndAsked) (answer : EndAnswer)
    → (answer ≡ end_answers.Ended → ⊥) → calls_behind it segment asked answer ≡ []
nothing_behind it segment asked end_answers.Ended ended = absurd (ended refl)
nothing_behind it segment asked (end_answers.Mismatch other) ended = refl
nothing_behind it segment asked end_answers.NotReady ended = refl
nothing_behind it segment asked end_answers.NotStarted ended = refl
nothing_behind it segment asked (end_answers.BadArg argument) ended = refl
nothing_behind it segment asked (end_answers.Exhausted other) ended = refl
nothing_behind it segment asked (end_answers.Forbidden forbidden) ended = refl
nothing_behind it segment asked end_answers.NoMemory ended = refl

pub tries_other : {K : Type 0} (caller : Ghosts K) (it : CollectivesState) (old : K) (asked : EndAsked)
    (answer : EndAnswer) (new : K) → Polls caller it old asked.thread answer new → (answer ≡ end_answers.Ended → ⊥)
    → Tries caller it old asked answer (ended_then answer it) new
tries_other caller it old asked answer new polls ended = record {
  site = polls.site;
  reference = polls.reference;
  answered = polls.answered;
  made = λ whole stands long.
      let site = caller.site old in
      let none = nothing_behind it (segment_in site (caller.record_in site whole)) asked answer ended in
      subst (λ (calls : List ThreadCall). caller.stands new (whole_after caller site
      (caller.after site whole (poll_call asked.thread)) calls)) (sym none) (polls.made whole stands long);
  next_is = refl;
}

-- how far the node is then
pub tries_so : {K : Type 0} (caller : Ghosts K) (it : CollectivesState) (old : K) (asked : EndAsked)
    (answer : EndAnswer) (next : CollectivesState) (new : K) → Tries caller it old asked answer (ended_then answer it) new
    → next ≡ ended_then answer it → Tries caller it old asked answer next new
tries_so caller it old asked answer next new tries next_is = record {
  site = tries.site;
  reference = tries.reference;
  answered = tries.answered;
  made = tries.made;
  next_is = next_is;
}

-- where it isn't refused, that is all
pub ends_tried : {K : Type 0} (caller : Ghosts K) (it : CollectivesState) (old : K) (asked : EndAsked)
    (answer : EndAnswer) (next : CollectivesState) (new : K)
    → end_refusal it.area it.settings.segment it.me (progress_of it) asked.dest ≡ None
    → Tries caller it old asked answer next new → Ends caller it old asked answer next new
ends_tried caller it old asked answer next new none tries =
    let P : Option EndAnswer → Type 0 = λ (first : Option EndAnswer). elim first [
      | Some refusal ↦ Refuses it old refusal answer next new
      | None ↦ Tries caller it old asked answer next new
    ] in
    subst P (sym none) tries

-- where it is refused, nothing changed
pub ends_refused : {K : Type 0} (caller : Ghosts K) (it : CollectivesState) (old : K) (asked : EndAsked)
    (refusal : EndAnswer) → end_refusal it.area it.settings.segment it.me (progress_of it) asked.dest ≡ Some refusal
    → Ends caller it old asked refusal it old
ends_refused caller it old asked refusal is =
    let P : Option EndAnswer → Type 0 = λ (first : Option EndAnswer). elim first [
      | Some one ↦ Refuses it old one refusal it old
      | None ↦ Tries caller it old asked refusal it old
    ] in
    let refuses : Refuses it old refusal refusal it old = record { answer_is = refl; next_is = refl; same = refl } in
    subst P (sym is) refuses

-- ---- the node stays the same

pub same_node_ended : (it next : CollectivesState) (answer : EndAnswer) → next ≡ ended_then answer it
    → IsSameNode it next
same_node_ended it next answer is = subst (IsSameNode it) (sym is) (by_answer answer)
  where
    by_answer : (one : EndAnswer) → IsSameNode it (ended_then one it)
    by_answer end_answers.Ended = record { settings_are = refl; me_is = refl; area_is = refl }
    by_answer (end_answers.Mismatch other) = record { settings_are = refl; me_is = refl; area_is = refl }
    by_answer end_answers.NotReady = record { settings_are = refl; me_is = refl; area_is = refl }
    by_answer end_answers.NotStarted = record { settings_are = refl; me_is = refl; area_is = refl }
    by_answer (end_answers.BadArg argument) = record { settings_are = refl; me_is = refl; area_is = refl }
    by_answer (end_answers.Exhausted other) = record { settings_are = refl; me_is = refl; area_is = refl }
    by_answer (end_answers.Forbidden forbidden) = record { settings_are = refl; me_is = refl; area_is = refl }
    by_answer end_answers.NoMemory = record { settings_are = refl; me_is = refl; area_is = refl }
