-- A step that sent nothing, where no mark of a node was there to change, leaves the collectives as they were.
use Rattle.std.proofs.Common.{◌≡◌, ◌≢◌, inl, inr, ℕ, zero, suc, ◌+◌, ◌<◌, ◌≤◌, Bool, true, false, true≢false, ◌&&◌, not, List, [], ◌∷◌}
use Rattle.std.proofs.Common.{Option, None, Some, refl, sym, ap, ap₂, ◌∙◌, subst, arith, length, get_or-set_same}
use Rattle.std.proofs.Common.{get_or-set_other}
use Rattle.std.specs.Prelude.{◌==◌, if◌then◌else◌, slice_set}
use Rattle.std.proofs.lemmas.Bool.{cases_eq}
use Rattle.std.proofs.lemmas.Option.{none-some}
use Rattle.spec_node.specs.Record.{Node}
use Rattle.spec_node.specs.declared.answer.Asked.{Asked}
use Rattle.spec_node.specs.declared.answer.Asked.TheVariants as asked
use Rattle.node_rules.specs.EndpointLocal.{EndpointLocal}
use Rattle.node_rules.specs.EndpointRules.{asked_answer}
use Rattle.node_rules.specs.declared.answer.Answer.{Answer}
use Rattle.node_collectives.specs.CollectivesState.{CollectivesState, has, progress_of}
use Rattle.node_collectives.specs.Progress.{first_node, is_left, is_open, has_exhausted}
use Rattle.node_collectives.specs.Steps.{after_ask, step_call, step_told}
use Rattle.node_collectives.specs.declared.answers.StepAnswer.{StepAnswer}
use Rattle.node_endpoint.specs.Sites.{Site, node_then}
use Rattle.proc_collective_steps.specs.Outcomes.{Outcome, is_nothing, step_from, step_outcome}
use Rattle.proc_collective_steps.proofs.Resting.{asked_from, asked_there, from_left, from_open, rest_from}

-- ---- marks

-- a mark that isn't there is taken away
set_off : (marks : List Bool) (node : ℕ) → has marks node ≡ false → slice_set marks node false ≡ marks
set_off [] node e = refl
set_off (mark ∷ marks) zero e = ap (λ (m : Bool). m ∷ marks) (sym e)
set_off (mark ∷ marks) (suc node) e = ap (λ (ms : List Bool). mark ∷ ms) (set_off marks node e)

set_there : (marks : List Bool) (node : ℕ) (mark : Bool) → node < length marks → has (slice_set marks node mark) node ≡ mark
set_there marks node mark low = get_or-set_same marks node mark false low

set_apart : (marks : List Bool) (node other : ℕ) (mark : Bool) → other ≢ node
    → has (slice_set marks node mark) other ≡ has marks other
set_apart marks node other mark apart = get_or-set_other marks node other mark false apart

-- ---- a step leaves the marks of the nodes below the one from which it goes on

-- of this node nothing is changed
record IsLeftAt (it next : CollectivesState) (node : ℕ) : Type 0 where
  pub me_is : next.me ≡ it.me
  pub sent : has next.sent node ≡ has it.sent node
  pub exhausted : has next.exhausted node ≡ has it.exhausted node

same_at : (it : CollectivesState) (node : ℕ) → IsLeftAt it it node
same_at it node = record { me_is = refl; sent = refl; exhausted = refl }

then_at : (it between next : CollectivesState) (node : ℕ) → IsLeftAt it between node → IsLeftAt between next node
    → IsLeftAt it next node
then_at it between next node first second = record {
  me_is = second.me_is ∙ first.me_is;
  sent = second.sent ∙ first.sent;
  exhausted = second.exhausted ∙ first.exhausted;
}

noted_at : (it : CollectivesState) (to node : ℕ) (a : Asked) → node ≢ to
    → IsLeftAt it (after_ask it to (Some (asked_answer a))) node
noted_at it to node (asked.Accepted peer slot number) apart =
    record { me_is = refl; sent = set_apart it.sent to node true apart; exhausted = refl }
noted_at it to node (asked.Forbidden why) apart = same_at it node
noted_at it to node asked.Ran apart =
    record { me_is = refl; sent = refl; exhausted = set_apart it.exhausted to node false apart }
noted_at it to node (asked.BadArg fault) apart =
    record { me_is = refl; sent = refl; exhausted = set_apart it.exhausted to node false apart }
noted_at it to node (asked.LockBusy lock) apart =
    record { me_is = refl; sent = refl; exhausted = set_apart it.exhausted to node false apart }
noted_at it to node asked.Exhausted apart =
    record { me_is = refl; sent = refl; exhausted = set_apart it.exhausted to node true apart }
noted_at it to node asked.NotYet apart =
    record { me_is = refl; sent = refl; exhausted = set_apart it.exhausted to node false apart }

abbrev LeavesBelow : Site → (thread to many : ℕ) → Type 0
LeavesBelow site thread to many =
    (node : Node EndpointLocal) (it : CollectivesState) (other : ℕ) → other < to
    → IsLeftAt it (step_from site thread to many node it).next other

stop_below : (site : Site) (thread to many : ℕ) (next : Node EndpointLocal) (it : CollectivesState) (other : ℕ)
    → other < to → LeavesBelow site thread (suc to) many → (a : Asked) (stop : Option StepAnswer)
    → IsLeftAt it (rest_from site thread to many next it (Some (asked_answer a)) stop).next other
stop_below site thread to many next it other low deeper a (Some end) =
    let apart : other ≢ to = omega (arith, low) in
    noted_at it to other a apart
stop_below site thread to many next it other low deeper a None =
    let apart : other ≢ to = omega (arith, low) in
    let under : other < suc to = omega (arith, low) in
    let there = after_ask it to (Some (asked_answer a)) in
    then_at it there (step_from site thread (suc to) many next there).next other (noted_at it to other a apart)
    (deeper next there other under)

left_below : (site : Site) (thread to many : ℕ) (node : Node EndpointLocal) (it : CollectivesState) (other : ℕ)
    → other < to → LeavesBelow site thread (suc to) many → (left : Bool)
    → IsLeftAt it (from_left site thread to many node it left).next other
left_below site thread to many node it other low deeper false =
    let under : other < suc to = omega (arith, low) in
    deeper node it other under
left_below site thread to many node it other low deeper true =
    let it_is = asked_there site node it thread to in
    let next = node_then site node (step_call it thread to) in
    subst (λ (said : Answer). IsLeftAt it (asked_from site thread to many node it (Some said)).next other) (sym it_is.1)
    (stop_below site thread to many next it other low deeper it_is.0 (step_told to (Some (asked_answer it_is.0))))

below : (site : Site) (thread to many : ℕ) → LeavesBelow site thread to many
below site thread to zero node it other low = same_at it other
below site thread to (suc many) node it other low =
    left_below site thread to many node it other low (below site thread (suc to) many)
    (is_left it.me to (progress_of it))

-- ---- a step without effect

-- no node among so many is known to be exhausted
abbrev pub NoneExhausted : CollectivesState → (nodes : ℕ) → Type 0
NoneExhausted it nodes = (node : ℕ) → node < nodes → has_exhausted it.me (progress_of it) node ≡ false

-- the first of the nodes that have a test
abbrev first_by : (ℕ → Bool) → (node many : ℕ) → (found : Bool) → Option ℕ
first_by test node many found = if found then Some node else first_node test (suc node) many

none_by : (test : ℕ → Bool) (node many other : ℕ)
    → (first_node test (suc node) many ≡ None → suc node ≤ other → other < suc node + many → test other ≡ false)
    → (found : Bool) → test node ≡ found → first_by test node many found ≡ None → node ≤ other
    → other < node + suc many → test other ≡ false
none_by test node many other deeper true is none low high = absurd (none-some node (sym none))
none_by test node many other deeper false is none low high = elim (cases_eq other node) [
  | inl same ↦ ap test same ∙ is
  | inr apart ↦
      (let above : suc node ≤ other = omega (arith, low, apart) in
      let inside : other < suc node + many = omega (arith, high) in
      deeper none above inside)
]

pub none_first : (test : ℕ → Bool) (node many other : ℕ) → first_node test node many ≡ None → node ≤ other
    → other < node + many → test other ≡ false
none_first test node zero other none low high = absurd (omega (arith, low, high))
none_first test node (suc many) other none low high =
    none_by test node many other (none_first test (suc node) many other) (test node) refl none low high

-- its mark is that of the node
exhausted_mark : (it : CollectivesState) (node : ℕ) → is_left it.me node (progress_of it) ≡ true
    → has_exhausted it.me (progress_of it) node ≡ false → has it.exhausted node ≡ false
exhausted_mark it node left none = ap (λ (b : Bool). b && has it.exhausted node) (sym left) ∙ none

left_same : (it next : CollectivesState) (node : ℕ) → IsLeftAt it next node
    → is_left next.me node (progress_of next) ≡ is_left it.me node (progress_of it)
left_same it next node at =
    ap₂ (λ (me : ℕ) (mark : Bool). not (node == me) && not mark) at.me_is at.sent

-- a step that comes to this leaves the collectives
abbrev Same : CollectivesState → (nodes : ℕ) → Outcome StepAnswer → Type 0
Same it nodes outcome = is_nothing outcome.answer ≡ true → NoneExhausted outcome.next nodes → outcome.next ≡ it

-- so it is of the rest of a step
abbrev SameFrom : Site → (thread to many nodes : ℕ) → Type 0
SameFrom site thread to many nodes =
    (node : Node EndpointLocal) (it : CollectivesState) → to + many ≡ nodes → nodes ≤ length it.exhausted
    → NoneExhausted it nodes → Same it nodes (step_from site thread to many node it)

-- what was noted is what was there
on_same : (site : Site) (thread to many nodes : ℕ) (next : Node EndpointLocal) (it there : CollectivesState)
    → to + many ≡ nodes → nodes ≤ length it.exhausted → NoneExhausted it nodes → SameFrom site thread to many nodes → there ≡ it
    → Same it nodes (step_from site thread to many next there)
on_same site thread to many nodes next it there count long before deeper is =
    subst (λ (one : CollectivesState). Same it nodes (step_from site thread to many next one)) (sym is)
    (deeper next it count long before)

off_same : (it : CollectivesState) (to nodes : ℕ) → is_left it.me to (progress_of it) ≡ true → to < nodes
    → NoneExhausted it nodes → record it { exhausted = slice_set it.exhausted to false } ≡ it
off_same it to nodes left inside before =
    ap (λ (marks : List Bool). record it { exhausted = marks }) (set_off it.exhausted to (exhausted_mark it to left (before to inside)))

-- a node that is exhausted stays so
exhausted_stays : (site : Site) (thread to many nodes : ℕ) (next : Node EndpointLocal) (it : CollectivesState)
    → is_left it.me to (progress_of it) ≡ true → to < nodes → nodes ≤ length it.exhausted
    → Same it nodes (step_from site thread (suc to) many next (record it { exhausted = slice_set it.exhausted to true }))
exhausted_stays site thread to many nodes next it left inside long quiet after =
    let there : CollectivesState = record it { exhausted = slice_set it.exhausted to true } in
    let end = (step_from site thread (suc to) many next there).next in
    let at = below site thread (suc to) many next there to (omega arith) in
    let low : to < length it.exhausted = omega (arith, inside, long) in
    let mark : has end.exhausted to ≡ true = at.exhausted ∙ set_there it.exhausted to true low in
    let left_there : is_left end.me to (progress_of end) ≡ true = left_same there end to at ∙ left in
    absurd (true≢false (sym mark ∙ exhausted_mark end to left_there (after to inside)))

answered_same : (site : Site) (thread to many nodes : ℕ) (node : Node EndpointLocal) (it : CollectivesState)
    → to + suc many ≡ nodes → nodes ≤ length it.exhausted → NoneExhausted it nodes → SameFrom site thread (suc to) many nodes
    → is_left it.me to (progress_of it) ≡ true → (a : Asked)
    → Same it nodes (asked_from site thread to many node it (Some (asked_answer a)))
answered_same site thread to many nodes node it count long before deeper left (asked.Accepted peer slot number) quiet after =
    absurd (true≢false (sym quiet))
answered_same site thread to many nodes node it count long before deeper left (asked.Forbidden why) quiet after =
    absurd (true≢false (sym quiet))
answered_same site thread to many nodes node it count long before deeper left asked.Exhausted quiet after =
    exhausted_stays site thread to many nodes (node_then site node (step_call it thread to)) it left
    (omega (arith, count)) long quiet after
answered_same site thread to many nodes node it count long before deeper left asked.Ran quiet after =
    on_same site thread (suc to) many nodes (node_then site node (step_call it thread to)) it
    (record it { exhausted = slice_set it.exhausted to false }) (omega (arith, count)) long before deeper
    (off_same it to nodes left (omega (arith, count)) before) quiet after
answered_same site thread to many nodes node it count long before deeper left (asked.BadArg fault) quiet after =
    on_same site thread (suc to) many nodes (node_then site node (step_call it thread to)) it
    (record it { exhausted = slice_set it.exhausted to false }) (omega (arith, count)) long before deeper
    (off_same it to nodes left (omega (arith, count)) before) quiet after
answered_same site thread to many nodes node it count long before deeper left (asked.LockBusy lock) quiet after =
    on_same site thread (suc to) many nodes (node_then site node (step_call it thread to)) it
    (record it { exhausted = slice_set it.exhausted to false }) (omega (arith, count)) long before deeper
    (off_same it to nodes left (omega (arith, count)) before) quiet after
answered_same site thread to many nodes node it count long before deeper left asked.NotYet quiet after =
    on_same site thread (suc to) many nodes (node_then site node (step_call it thread to)) it
    (record it { exhausted = slice_set it.exhausted to false }) (omega (arith, count)) long before deeper
    (off_same it to nodes left (omega (arith, count)) before) quiet after

left_is_same : (site : Site) (thread to many nodes : ℕ) (node : Node EndpointLocal) (it : CollectivesState)
    → to + suc many ≡ nodes → nodes ≤ length it.exhausted → NoneExhausted it nodes → SameFrom site thread (suc to) many nodes
    → (left : Bool) → is_left it.me to (progress_of it) ≡ left
    → Same it nodes (from_left site thread to many node it left)
left_is_same site thread to many nodes node it count long before deeper false is =
    deeper node it (omega (arith, count)) long before
left_is_same site thread to many nodes node it count long before deeper true is =
    let it_is = asked_there site node it thread to in
    subst (λ (said : Answer). Same it nodes (asked_from site thread to many node it (Some said))) (sym it_is.1)
    (answered_same site thread to many nodes node it count long before deeper is it_is.0)

steps_same : (site : Site) (thread to many nodes : ℕ) → SameFrom site thread to many nodes
steps_same site thread to zero nodes node it count long before quiet after = refl
steps_same site thread to (suc many) nodes node it count long before quiet after =
    left_is_same site thread to many nodes node it count long before (steps_same site thread (suc to) many nodes)
    (is_left it.me to (progress_of it)) refl quiet after

pub step_same : (site : Site) (thread : ℕ) (node : Node EndpointLocal) (it : CollectivesState)
    → it.area.nodes ≤ length it.exhausted → NoneExhausted it it.area.nodes
    → Same it it.area.nodes (step_outcome site thread node it)
step_same site thread node it long before = by_open (is_open (progress_of it))
  where
    by_open : (open_ : Bool) → Same it it.area.nodes (from_open site thread node it open_)
    by_open true quiet after =
        steps_same site thread 0 it.area.nodes it.area.nodes node it (omega arith) long before quiet after
    by_open false quiet after = refl
