-- The tries of steps that run the collectives of their node.
use Rattle.std.proofs.Common.{◌≡◌, ℕ, Bool, true, false, cond, ◌&&◌, Option, None, Some, refl, sym}
use Rattle.std.proofs.Common.{ap, ◌∙◌, subst, arith}
use Rattle.std.specs.Prelude.{◌==◌, is_none, is_some}
use Rattle.std.specs.Option.{option_or}
use Rattle.part_collective_area.specs.declared.shape.Shape.{Shape}
use Rattle.part_handlers.specs.Runs.{Meaning}
use Rattle.spec_node.specs.Record.{Node}
use Rattle.node_rules.specs.EndpointLocal.{EndpointLocal}
use Rattle.node_rules.specs.declared.answer.Answer.{Answer}
use Rattle.node_collectives.specs.CollectivesState.{CollectivesState, IsSameNode}
use Rattle.node_endpoint.specs.EndpointState.{EndpointState, EndpointStands, ForItsRecord}
use Rattle.text_steps.specs.declared.steps.CollectiveText.{CollectiveText}
use Rattle.text_steps.specs.declared.steps.CollectiveText.TheVariants as text
use Rattle.law_traces.specs.Actions.{Form, Several, Part, StepContext, collectives_after, step_part_of}
use Rattle.law_traces.specs.Scripts.{TryContext}
use Rattle.law_traces.specs.declared.script_answer.ScriptAnswer.{ScriptAnswer}
use Rattle.proc_collective_steps.specs.Parts.{first_part, later_part}
use Rattle.proc_collective_steps.specs.Tries.{AreOf, IsPartTried, IsSameCore, context_at, first_of}
use Rattle.proc_collective_steps.specs.declared.tries.AtThread.{AtThread}
use Rattle.proc_collective_steps.specs.declared.tries.PartTried.{PartTried}
use Rattle.proc_steps.specs.Forms.{call_part, collective_form, in_one_try, nothing_part, nothing_there, whole_form}
use Rattle.proc_steps.specs.Tries.{AreThere, FoundNode, FormTrial, IsAtSameNode, TriesForm, TriesFound, begun_by, context_here}
use Rattle.proc_steps.specs.Tries.{no_collectives, of_part, read_as, step_here}
use Rattle.proc_steps.specs.declared.trial.Trial.{Trial}
use Rattle.proc_steps.specs.declared.trial.Tried.{Tried}
use Rattle.proc_steps.proofs.Trying.{goes_so, well_of}
use Rattle.proc_steps.proofs.Forming.{tries_alike}
use Rattle.proc_steps.proofs.OneTry.{DoesPart, never_begun, none_begun, one_part}

-- ---- the same node

at_core : (old new : EndpointState) → IsSameCore old.core new.core → IsAtSameNode old.core new.core
at_core old new same = record { settings = same.settings; me_is = same.me_is; table = same.table }

pub still_of : (old new : EndpointState) (it next : CollectivesState) → IsSameCore old.core new.core
    → IsSameNode it next → AreOf old.core it → AreOf new.core next
still_of old new it next same same_node of = record {
  settings = same_node.settings_are ∙ (of.settings ∙ sym same.settings);
  me_is = same_node.me_is ∙ (of.me_is ∙ sym same.me_is);
}

-- ---- one try that ends its step

pub part_tries : (meaning : Meaning) (old new : EndpointState) (trial : Trial) (part : Node EndpointLocal → Part)
    (it next : CollectivesState) (told : PartTried) → IsSameCore old.core new.core
    → ForItsRecord old (λ node.
    IsPartTried (context_here meaning old trial.thread trial.time) node (part node) it told next new)
    → ((node : Node EndpointLocal) → is_none (part node).ended ≡ false)
    → TriesForm meaning old (read_as trial (λ node. in_one_try (part node))) (of_part told None) new
part_tries meaning old new trial part it next told same tried ends =
    goes_so meaning old new (read_as trial (λ node. in_one_try (part node))) (of_part told None) (at_core old new same)
    (λ node stands.
    let P = tried node stands in
    let ended : is_none told.ended ≡ false = ap is_none P.ended ∙ ends node in
    subst (DoesPart meaning old trial node (of_part told None)
    (begun_by (in_one_try (part node)) trial.began told.ended) new) (sym (one_part (part node) trial.began)) (
      P.stands,
      P.slots_are,
      P.well,
      P.ended,
      never_begun told.moved told.ended ended
          ∙ none_begun (is_none (part node).ended && is_some (part node).next) (is_none trial.began)
          (is_some (step_part_of (part node) (part node) trial.began).next) _ trial.began told.ended ended,
    ))

-- a node without collectives
pub nothing_tries : (meaning : Meaning) (old : EndpointState) (trial : Trial)
    → TriesForm meaning old (read_as trial (λ node. nothing_there)) no_collectives old
nothing_tries meaning old trial =
    goes_so meaning old old (read_as trial (λ node. nothing_there)) no_collectives
    (record { settings = refl; me_is = refl; table = refl })
    (λ node stands. by_began trial.began node stands)
  where
    by_began : (began : Option Answer) (node : Node EndpointLocal) → EndpointStands old node
        → DoesPart meaning old trial node no_collectives (begun_by nothing_there began no_collectives.ended) old
        (step_part_of nothing_part nothing_part began)
    by_began None node stands = (stands, refl, well_of old node stands, refl, refl)
    by_began (Some first) node stands = (stands, refl, well_of old node stands, refl, refl)

-- ---- a whole collective

first_begun : (ended : Option ScriptAnswer) (moved : Bool) (answer : Option Answer)
    → cond {A = Option Answer} (moved && is_none ended) answer None
    ≡ cond {A = Option Answer} ((is_none ended && moved) && true && is_none ended) answer
    (cond {A = Option Answer} (moved && is_none ended) None None)
first_begun None true answer = refl
first_begun None false answer = refl
first_begun (Some end) true answer = refl
first_begun (Some end) false answer = refl

later_begun : (starts moved : Bool) (ended : Option ScriptAnswer) (answer began : Option Answer)
    → cond {A = Option Answer} (moved && is_none ended) began None
    ≡ cond {A = Option Answer} (starts && false && is_none ended) answer
    (cond {A = Option Answer} (moved && is_none ended) began None)
later_begun true moved ended answer began = refl
later_begun false moved ended answer began = refl

abbrev begun_with : Trial → (Node EndpointLocal → Form EndpointLocal) → Option Answer → FormTrial
begun_with trial form began = record { now = trial.time; thread = trial.thread; form = form; began = began }

pub first_tries : (meaning : Meaning) (old new : EndpointState) (trial : Trial) (first later : Node EndpointLocal → Part)
    (it next : CollectivesState) (told : PartTried) (answer : Option Answer) → IsSameCore old.core new.core
    → ForItsRecord old (λ node.
    IsPartTried (context_here meaning old trial.thread trial.time) node (first node) it told next new)
    → ForItsRecord old (λ node. answer ≡ first_of (context_here meaning old trial.thread trial.time) (first node) node)
    → TriesForm meaning old (begun_with trial (λ node. Several (first node) (later node)) None) (of_part told answer) new
first_tries meaning old new trial first later it next told answer same tried said =
    goes_so meaning old new (begun_with trial (λ node. Several (first node) (later node)) None) (of_part told answer)
    (at_core old new same)
    (λ node stands.
    let P = tried node stands in
    let fa = first_of (context_here meaning old trial.thread trial.time) (first node) node in (
      P.stands,
      P.slots_are,
      P.well,
      P.ended,
      ap (λ (a : Option Answer). cond {A = Option Answer} (told.moved && is_none told.ended) a None) (said node stands)
          ∙ (first_begun told.ended told.moved fa
          ∙ (ap (λ (m : Bool). cond {A = Option Answer} ((is_none told.ended && m) && true && is_none told.ended) fa
          (cond {A = Option Answer} (m && is_none told.ended) None None)) P.moved
          ∙ ap (λ (e : Option ScriptAnswer). cond {A = Option Answer}
          ((is_none e && is_some (first node).next) && true && is_none told.ended) fa
          (cond {A = Option Answer} (is_some (first node).next && is_none told.ended) None None)) P.ended)),
    ))

pub later_tries : (meaning : Meaning) (old new : EndpointState) (trial : Trial) (first later : Node EndpointLocal → Part)
    (it next : CollectivesState) (told : PartTried) (begun : Answer) → IsSameCore old.core new.core
    → ForItsRecord old (λ node.
    IsPartTried (context_here meaning old trial.thread trial.time) node (later node) it told next new)
    → TriesForm meaning old (begun_with trial (λ node. Several (first node) (later node)) (Some begun))
    (of_part told (Some begun)) new
later_tries meaning old new trial first later it next told begun same tried =
    goes_so meaning old new (begun_with trial (λ node. Several (first node) (later node)) (Some begun))
    (of_part told (Some begun)) (at_core old new same)
    (λ node stands.
    let P = tried node stands in (
      P.stands,
      P.slots_are,
      P.well,
      P.ended,
      ap (λ (m : Bool). cond {A = Option Answer} (m && is_none told.ended) (Some begun) None) P.moved
          ∙ later_begun (is_none (first node).ended && is_some (first node).next) (is_some (later node).next) told.ended _
          (Some begun),
    ))

-- ---- what a function found and left

-- the collectives of a node that has some
pub some_there : (endpoint : EndpointState) (collectives : Option CollectivesState) (it : CollectivesState)
    → collectives ≡ Some it → AreThere endpoint collectives → AreOf endpoint.core it
some_there endpoint collectives it is there = subst (AreThere endpoint) is there

same_me : (me other : ℕ) → me ≡ other → (me == other) ≡ true
same_me me other same = grind (arith, same)

whole_is : (meaning : Meaning) (endpoint : EndpointState) (it : CollectivesState) (trial : Trial) (shape : Shape)
    (from dest : ℕ) (node : Node EndpointLocal) → AreOf endpoint.core it
    → let found : FoundNode = record { endpoint = endpoint; collectives = Some it } in
    let at = context_here meaning endpoint trial.thread trial.time in
    whole_form shape from dest (step_here meaning found trial.thread trial.time) node
    ≡ Several (first_part at shape from node it) (later_part at dest node it)
whole_is meaning endpoint it trial shape from dest node of =
    let at = context_here meaning endpoint trial.thread trial.time in
    ap (λ (b : Bool). cond {A = Form EndpointLocal} b
    (Several (first_part at shape from node it) (later_part at dest node it)) nothing_there)
    (same_me it.me endpoint.core.me of.me_is)

pub call_found : (meaning : Meaning) (old new : EndpointState) (trial : Trial) (call : CollectiveText)
    (it next : CollectivesState) (told : PartTried) → AreOf old.core it → IsSameCore old.core new.core
    → IsSameNode it next
    → ForItsRecord old (λ node. IsPartTried (context_here meaning old trial.thread trial.time) node
    (call_part call (context_here meaning old trial.thread trial.time) node it) it told next new)
    → ((node : Node EndpointLocal)
    → is_none (call_part call (context_here meaning old trial.thread trial.time) node it).ended ≡ false)
    → TriesFound meaning (record { endpoint = old; collectives = Some it }) trial (collective_form call)
    (of_part told None) (record { endpoint = new; collectives = Some next })
call_found meaning old new trial call it next told of same same_node tried ends = record {
  tries = part_tries meaning old new trial
      (λ node. call_part call (context_here meaning old trial.thread trial.time) node it) it next told same tried ends;
  far = λ node stands.
      (tried node stands).next_is
      ∙ ap (λ (p : Part). option_or p.next (Some it))
      (sym (one_part (call_part call (context_here meaning old trial.thread trial.time) node it) trial.began));
}

pub call_ends : (call : CollectiveText) (at : TryContext) (node : Node EndpointLocal) (it : CollectivesState)
    → is_none (call_part call at node it).ended ≡ false
call_ends (text.Start shape from) at node it = refl
call_ends text.Step at node it = refl
call_ends (text.Try dest) at node it = refl

-- a node without collectives, whatever form its step has elsewhere
pub none_found : (meaning : Meaning) (old : EndpointState) (trial : Trial)
    (form : StepContext → Node EndpointLocal → Form EndpointLocal)
    → ((node : Node EndpointLocal)
    → form (step_here meaning (record { endpoint = old; collectives = None }) trial.thread trial.time) node
    ≡ nothing_there)
    → TriesFound meaning (record { endpoint = old; collectives = None }) trial form no_collectives
    (record { endpoint = old; collectives = None })
none_found meaning old trial form is = record {
  tries = tries_alike meaning old old trial (λ node. nothing_there) _ no_collectives is
      (nothing_tries meaning old trial);
  far = λ node stands.
      subst (λ (f : Form EndpointLocal). None ≡ collectives_after f trial.began None) (sym (is node))
      (nothing_far trial.began);
}
  where
    nothing_far : (began : Option Answer) → None ≡ collectives_after nothing_there began None
    nothing_far None = refl
    nothing_far (Some first) = refl

-- the first try of a whole collective
pub whole_begun : (meaning : Meaning) (old new : EndpointState) (trial : Trial) (shape : Shape) (from dest : ℕ)
    (it next : CollectivesState) (told : PartTried) (answer : Option Answer) → trial.began ≡ None
    → AreOf old.core it → IsSameCore old.core new.core → IsSameNode it next
    → ForItsRecord old (λ node. IsPartTried (context_here meaning old trial.thread trial.time) node
    (first_part (context_here meaning old trial.thread trial.time) shape from node it) it told next new)
    → ForItsRecord old (λ node. answer ≡ first_of (context_here meaning old trial.thread trial.time)
    (first_part (context_here meaning old trial.thread trial.time) shape from node it) node)
    → TriesFound meaning (record { endpoint = old; collectives = Some it }) trial (whole_form shape from dest)
    (of_part told answer) (record { endpoint = new; collectives = Some next })
whole_begun meaning old new trial shape from dest it next told answer none of same same_node tried said =
    let at = context_here meaning old trial.thread trial.time in
    let first : Node EndpointLocal → Part = λ node. first_part at shape from node it in
    let later : Node EndpointLocal → Part = λ node. later_part at dest node it in
    record {
      tries = tries_alike meaning old new trial (λ node. Several (first node) (later node)) _ (of_part told answer)
          (λ node. whole_is meaning old it trial shape from dest node of)
          (subst (λ (b : Option Answer). TriesForm meaning old
          (begun_with trial (λ node. Several (first node) (later node)) b) (of_part told answer) new) (sym none)
          (first_tries meaning old new trial first later it next told answer same tried said));
      far = λ node stands.
          (tried node stands).next_is
          ∙ (ap (λ (b : Option Answer). collectives_after {Kept = EndpointLocal} (Several (first node) (later node)) b (Some it)) (sym none)
          ∙ ap (λ (f : Form EndpointLocal). collectives_after f trial.began (Some it))
          (sym (whole_is meaning old it trial shape from dest node of)));
    }

-- a later one
pub whole_goes_on : (meaning : Meaning) (old new : EndpointState) (trial : Trial) (shape : Shape) (from dest : ℕ)
    (it next : CollectivesState) (told : PartTried) (begun : Answer) → trial.began ≡ Some begun
    → AreOf old.core it → IsSameCore old.core new.core → IsSameNode it next
    → ForItsRecord old (λ node. IsPartTried (context_here meaning old trial.thread trial.time) node
    (later_part (context_here meaning old trial.thread trial.time) dest node it) it told next new)
    → TriesFound meaning (record { endpoint = old; collectives = Some it }) trial (whole_form shape from dest)
    (of_part told (Some begun)) (record { endpoint = new; collectives = Some next })
whole_goes_on meaning old new trial shape from dest it next told begun some of same same_node tried =
    let at = context_here meaning old trial.thread trial.time in
    let first : Node EndpointLocal → Part = λ node. first_part at shape from node it in
    let later : Node EndpointLocal → Part = λ node. later_part at dest node it in
    record {
      tries = tries_alike meaning old new trial (λ node. Several (first node) (later node)) _ (of_part told (Some begun))
          (λ node. whole_is meaning old it trial shape from dest node of)
          (subst (λ (b : Option Answer). TriesForm meaning old
          (begun_with trial (λ node. Several (first node) (later node)) b) (of_part told (Some begun)) new) (sym some)
          (later_tries meaning old new trial first later it next told begun same tried));
      far = λ node stands.
          (tried node stands).next_is
          ∙ (ap (λ (b : Option Answer). collectives_after {Kept = EndpointLocal} (Several (first node) (later node)) b (Some it)) (sym some)
          ∙ ap (λ (f : Form EndpointLocal). collectives_after f trial.began (Some it))
          (sym (whole_is meaning old it trial shape from dest node of)));
    }

-- ---- what functions told

abbrev at_thread : Trial → AtThread
at_thread trial = record { thread = trial.thread; now = trial.time }

-- a try of a thread, told so
pub told_so : (meaning : Meaning) (old : EndpointState) (collectives : Option CollectivesState) (it : CollectivesState)
    (trial : Trial) (form : StepContext → Node EndpointLocal → Form EndpointLocal) (tried told : Tried) (new : FoundNode)
    → collectives ≡ Some it → tried ≡ told
    → TriesFound meaning (record { endpoint = old; collectives = Some it }) trial form told new
    → TriesFound meaning (record { endpoint = old; collectives = collectives }) trial form tried new
told_so meaning old collectives it trial form tried told new is told_is found =
    subst (λ (t : Tried). TriesFound meaning (record { endpoint = old; collectives = collectives }) trial form t new)
    (sym told_is)
    (subst (λ (c : Option CollectivesState).
    TriesFound meaning (record { endpoint = old; collectives = c }) trial form told new) (sym is) found)

pub call_told : (meaning : Meaning) (old new : EndpointState) (collectives : Option CollectivesState)
    (it next : CollectivesState) (trial : Trial) (call : CollectiveText) (at : AtThread) (told : PartTried)
    (tried : Tried) → collectives ≡ Some it → AreThere old collectives → at ≡ at_thread trial
    → tried ≡ of_part told None → IsSameCore old.core new.core → IsSameNode it next
    → ForItsRecord old (λ node. IsPartTried (context_at meaning old at) node
    (call_part call (context_at meaning old at) node it) it told next new)
    → TriesFound meaning (record { endpoint = old; collectives = collectives }) trial (collective_form call) tried
    (record { endpoint = new; collectives = Some next })
call_told meaning old new collectives it next trial call at told tried is there at_is tried_is same same_node did =
    told_so meaning old collectives it trial (collective_form call) tried (of_part told None) _ is tried_is
    (call_found meaning old new trial call it next told (some_there old collectives it is there) same same_node
    (subst (λ (a : AtThread). ForItsRecord old (λ node. IsPartTried (context_at meaning old a) node
    (call_part call (context_at meaning old a) node it) it told next new)) at_is did)
    (λ node. call_ends call (context_here meaning old trial.thread trial.time) node it))

pub begun_told : (meaning : Meaning) (old new : EndpointState) (it next : CollectivesState) (trial : Trial)
    (shape : Shape) (from dest : ℕ) (at : AtThread) (told : PartTried) (answer : Option Answer) (tried : Tried)
    → trial.began ≡ None → AreOf old.core it → at ≡ at_thread trial → tried ≡ of_part told answer
    → IsSameCore old.core new.core → IsSameNode it next
    → ForItsRecord old (λ node. IsPartTried (context_at meaning old at) node
    (first_part (context_at meaning old at) shape from node it) it told next new)
    → ForItsRecord old (λ node. answer ≡ first_of (context_at meaning old at)
    (first_part (context_at meaning old at) shape from node it) node)
    → TriesFound meaning (record { endpoint = old; collectives = Some it }) trial (whole_form shape from dest) tried
    (record { endpoint = new; collectives = Some next })
begun_told meaning old new it next trial shape from dest at told answer tried none of at_is tried_is same same_node did
    said =
    told_so meaning old (Some it) it trial (whole_form shape from dest) tried (of_part told answer) _ refl tried_is
    (whole_begun meaning old new trial shape from dest it next told answer none of same same_node
    (subst (λ (a : AtThread). ForItsRecord old (λ node. IsPartTried (context_at meaning old a) node
    (first_part (context_at meaning old a) shape from node it) it told next new)) at_is did)
    (subst (λ (a : AtThread). ForItsRecord old (λ node. answer ≡ first_of (context_at meaning old a)
    (first_part (context_at meaning old a) shape from node it) node)) at_is said))

pub goes_on_told : (meaning : Meaning) (old new : EndpointState) (it next : CollectivesState) (trial : Trial)
    (shape : Shape) (from dest : ℕ) (at : AtThread) (told : PartTried) (begun : Answer) (tried : Tried)
    → trial.began ≡ Some begun → AreOf old.core it → at ≡ at_thread trial → tried ≡ of_part told (Some begun)
    → IsSameCore old.core new.core → IsSameNode it next
    → ForItsRecord old (λ node. IsPartTried (context_at meaning old at) node
    (later_part (context_at meaning old at) dest node it) it told next new)
    → TriesFound meaning (record { endpoint = old; collectives = Some it }) trial (whole_form shape from dest) tried
    (record { endpoint = new; collectives = Some next })
goes_on_told meaning old new it next trial shape from dest at told begun tried some of at_is tried_is same same_node
    did =
    told_so meaning old (Some it) it trial (whole_form shape from dest) tried (of_part told (Some begun)) _ refl tried_is
    (whole_goes_on meaning old new trial shape from dest it next told begun some of same same_node
    (subst (λ (a : AtThread). ForItsRecord old (λ node. IsPartTried (context_at meaning old a) node
    (later_part (context_at meaning old a) dest node it) it told next new)) at_is did))

-- a node without collectives, told so
pub none_told : (meaning : Meaning) (old : EndpointState) (collectives : Option CollectivesState) (trial : Trial)
    (form : StepContext → Node EndpointLocal → Form EndpointLocal) (tried : Tried)
    → collectives ≡ None → tried ≡ no_collectives
    → ((node : Node EndpointLocal)
    → form (step_here meaning (record { endpoint = old; collectives = None }) trial.thread trial.time) node
    ≡ nothing_there)
    → TriesFound meaning (record { endpoint = old; collectives = collectives }) trial form tried
    (record { endpoint = old; collectives = collectives })
none_told meaning old collectives trial form tried none tried_is is =
    subst (λ (t : Tried). TriesFound meaning (record { endpoint = old; collectives = collectives }) trial form t
    (record { endpoint = old; collectives = collectives })) (sym tried_is)
    (subst (λ (c : Option CollectivesState). TriesFound meaning (record { endpoint = old; collectives = c }) trial form
    no_collectives (record { endpoint = old; collectives = c })) (sym none) (none_found meaning old trial form is))
