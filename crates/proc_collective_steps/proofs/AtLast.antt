-- What calls make of a caller that keeps how its last call was answered.
use denote.RattleType.{RattleType}
use mir.Syntax.{Dict}
use Rattle.std.proofs.Common.{◌≡◌, List, [], ◌∷◌, Option, None, Some, ap, refl, sym, ◌∙◌, subst}
use Rattle.part_handlers.specs.declared.handlers.Handlers.{Ghosts}
use Rattle.spec_node.specs.Record.{Node}
use Rattle.node_rules.specs.EndpointLocal.{EndpointLocal}
use Rattle.node_rules.specs.declared.answer.Answer.{Answer}
use Rattle.node_collectives.specs.CollectivesState.{CollectivesState}
use Rattle.node_collectives.specs.declared.answers.EndAnswer.{EndAnswer}
use Rattle.node_endpoint.specs.EndpointState.{EndpointState, EndpointStands}
use Rattle.node_endpoint.specs.Making.{whole_after}
use Rattle.node_endpoint.specs.Sites.{Site, ThreadCall, answer_at, node_in_the_end, node_then}
use Rattle.proc_collective_steps.specs.contracts.last_answer.LastAnswerCaller.TheImpl.{ghosts}
use Rattle.proc_collective_steps.specs.Outcomes.{Outcome, last_from}
use Rattle.proc_collective_steps.specs.Tries.{Comes, EndComes, IsSameCore}
use Rattle.proc_collective_steps.specs.Wholes.{LastStands, LastWhole, after_call}

-- the whole that calls leave
abbrev pub left_by : Site → LastWhole → List ThreadCall → LastWhole
left_by site whole [] = whole
left_by site whole (call ∷ later) = left_by site (after_call site whole call) later

left_is : (site : Site) (whole : LastWhole) (calls : List ThreadCall)
    → left_by site whole calls
    ≡ record { node = node_in_the_end site whole.node calls; last = last_from site whole.last whole.node calls }
left_is site whole [] = refl
left_is site whole (call ∷ later) = left_is site (after_call site whole call) later

-- it is what they leave of a caller that keeps its last answer
pub left_one_by_one : (T : RattleType) (handlers : Ghosts T.Denot) (dict : Dict) (site : Site) (whole : LastWhole)
    (calls : List ThreadCall) → whole_after (ghosts T handlers dict) site whole calls ≡ left_by site whole calls
left_one_by_one T handlers dict site whole [] = refl
left_one_by_one T handlers dict site whole (call ∷ later) =
    left_one_by_one T handlers dict site (after_call site whole call) later

-- ---- one call

-- a call that was told so, as the answer of the node's record
pub called_so : (site : Site) (whole : LastWhole) (call : ThreadCall) (told answer : Answer) (new : EndpointState)
    → told ≡ answer → told ≡ answer_at site whole.node call → EndpointStands new (node_then site whole.node call)
    → (answer ≡ answer_at site whole.node call) × LastStands new (Some told) (after_call site whole call)
called_so site whole call told answer new same said stands =
    (sym same ∙ said, record { stands = stands; last_is = ap (λ (one : Answer). Some one) said })

-- ---- a call at a caller that was lent an endpoint, and gave this one back

-- it is of the same node
pub same_core : (old lent new : EndpointState) → new ≡ lent → IsSameCore old.core lent.core
    → IsSameCore old.core new.core
same_core old lent new back same = subst (λ (one : EndpointState). IsSameCore old.core one.core) (sym back) same

-- so the call came to this
pub comes_so : {Told : Type 0} (site : Site) (node : Node EndpointLocal) (outcome : Outcome Told) (told : Told)
    (last : Option Answer) (next : CollectivesState) (lent new : EndpointState) → new ≡ lent → told ≡ outcome.answer
    → next ≡ outcome.next
    → LastStands lent last (left_by site (record { node = node; last = None }) outcome.calls)
    → Comes site node outcome told last next new
comes_so site node outcome told last next lent new back answered next_is left =
    let there =
    subst (LastStands lent last) (left_is site (record { node = node; last = None }) outcome.calls) left in
    record {
      answered = answered;
      next_is = next_is;
      stands = subst (λ (one : EndpointState). EndpointStands one (node_in_the_end site node outcome.calls)) (sym back)
          there.stands;
      last_is = there.last_is;
    }

-- so a try to end came to this
pub end_comes_so : (site : Site) (node : Node EndpointLocal) (outcome : Outcome EndAnswer) (told : EndAnswer)
    (first last : Option Answer) (next : CollectivesState) (lent new : EndpointState) → new ≡ lent
    → told ≡ outcome.answer → next ≡ outcome.next
    → LastStands lent last (left_by site (record { node = node; last = first }) outcome.calls)
    → EndComes site node outcome told next new
end_comes_so site node outcome told first last next lent new back answered next_is left =
    let there =
    subst (LastStands lent last) (left_is site (record { node = node; last = first }) outcome.calls) left in
    record {
      answered = answered;
      next_is = next_is;
      stands = subst (λ (one : EndpointState). EndpointStands one (node_in_the_end site node outcome.calls)) (sym back)
          there.stands;
    }
