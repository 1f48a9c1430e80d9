-- A request of a thread, by two versions.
use Rattle.std.proofs.Common.{◌≡◌, ℕ, List, [], ◌∷◌, ◌++◌, map}
use Rattle.std.proofs.Common.{refl, sym, ap, ◌∙◌, inl, inr, eqb}
use Rattle.std.proofs.Math.Path.{fun_ext}
use Rattle.std.proofs.lemmas.Bool.{cases_Bool}
use Rattle.std.proofs.lemmas.List.{length-map, map-append}
use Rattle.wire_message.specs.Content.{Content}
use Rattle.wire_message.specs.Parameters.{Parameters, credits_of}
use Rattle.base_lists.specs.Put.{put}
use Rattle.part_handlers.specs.declared.rules.CallKind.TheVariants as call
use Rattle.spec_node.specs.Record.{Request, Node}
use Rattle.spec_node.specs.Behaviour.{Ask}
use Rattle.spec_node.specs.Step.{request_answer, after_request, request_content, with_request, new_request, with_local, ran_here}
use Rattle.spec_node.specs.Step.{with_itself}
use Rattle.spec_node.specs.NodeStep.{site_of}
use Rattle.spec_node.specs.declared.answer.Asked.{Asked}
use Rattle.spec_node.specs.declared.answer.Asked.TheVariants as asked
use Rattle.spec_node.proofs.Answers.{accepted_says, here_says}
use Rattle.node_rules.specs.EndpointLocal.{EndpointLocal}
use Rattle.sim_versions.specs.Respelled.{Versions, one_job, other_job, respell_node, respell_request}
use Rattle.sim_versions.proofs.Lists.{taken-respelled}

-- credits don't depend on the version
pub same_credits : (settings : Parameters) (version from to : ℕ)
    → credits_of (record settings { version = version }) from to ≡ credits_of settings from to
unfolding credits_of
same_credits settings version from to = refl

-- it is answered alike
pub asked_alike : (v : Versions) (me : ℕ) (node : Node EndpointLocal) (ask : Ask)
    → request_answer (site_of (other_job v) me) (respell_node v.spell node) ask
    ≡ request_answer (site_of (one_job v) me) node ask
asked_alike v me node ask =
    rw (v.agree.judges ask.thread call.Request node.local)
    rw (v.agree.faults ask.what)
    rw (v.agree.says ask.what node.local)
    rw (v.agree.busy (v.one.messages.says ask.what node.local) node.local)
    rw (length-map (node.asked ask.to) (respell_request v.spell))
    rw (taken-respelled v.spell (node.asked ask.to))
    rw (same_credits v.settings v.version me ask.to)
    refl

-- one place changed
pub put-map : {A B : Type 0} (f : A → B) (lists : ℕ → List A) (place : ℕ) (list : List A)
    → put (λ peer. map f (lists peer)) place (map f list) ≡ (λ peer. map f (put lists place list peer))
put-map f lists place list = fun_ext (λ peer. elim (cases_Bool (eqb peer place)) [
  | inl here ↦ rw here refl
  | inr other ↦ rw other refl
])

-- one request more
pub with_request-respelled : (spell : Content → Content) (node : Node EndpointLocal) (now to slot : ℕ)
    (content : Content)
    → with_request (respell_node spell node) now to slot (spell content)
    ≡ respell_node spell (with_request node now to slot content)
with_request-respelled spell node now to slot content =
    ap (λ (asked : ℕ → List Request). record (respell_node spell node) { asked = asked })
    (ap (put (respell_node spell node).asked to)
    (sym (map-append (respell_request spell) (node.asked to) (new_request now slot content ∷ [])))
    ∙ put-map (respell_request spell) node.asked to (node.asked to ++ new_request now slot content ∷ []))

-- a request of the node to itself
ran_alike : (v : Versions) (me : ℕ) (node : Node EndpointLocal) (ask : Ask)
    → request_answer (site_of (one_job v) me) node ask ≡ asked.Ran
    → ran_here v.other.messages me (request_content (site_of (other_job v) me) (respell_node v.spell node) ask) node.local
    ≡ ran_here v.one.messages me (request_content (site_of (one_job v) me) node ask) node.local
ran_alike v me node ask e =
    let fine = here_says (site_of (one_job v) me) node ask e in
    let content = v.one.messages.says ask.what node.local in
    let out = v.one.messages.run (with_itself me) content node.local in
    let says = v.agree.says ask.what node.local in
    let spelled = v.agree.said ask.what node.local fine in
    let runs : v.other.messages.run (with_itself me) (v.other.messages.says ask.what node.local) node.local ≡ out =
    ap (λ c. v.other.messages.run (with_itself me) c node.local) (says ∙ sym spelled)
    ∙ v.agree.run (with_itself me) content node.local (v.agree.notifications_said ask.what node.local fine)
    (v.agree.asks ask.what node.local fine)
    in
    ap (λ (o : EndpointLocal × Content). v.other.messages.take (with_itself me) o.1 o.0) runs
    ∙ v.agree.take (with_itself me) out.1 out.0

-- what is left by an answer
after_asked : (v : Versions) (me : ℕ) (node : Node EndpointLocal) (now : ℕ) (ask : Ask) (answer : Asked)
    → request_answer (site_of (one_job v) me) node ask ≡ answer
    → after_request (site_of (other_job v) me) (respell_node v.spell node) now ask answer
    ≡ respell_node v.spell (after_request (site_of (one_job v) me) node now ask answer)
after_asked v me node now ask (asked.Accepted to slot number) e =
    let fine = (accepted_says (site_of (one_job v) me) node ask to slot number e).faultless in
    let content = v.one.messages.says ask.what node.local in
    let same : v.other.messages.says ask.what node.local ≡ v.spell content =
    v.agree.says ask.what node.local ∙ sym (v.agree.said ask.what node.local fine)
    in
    ap (with_request (respell_node v.spell node) now ask.to slot) same
    ∙ with_request-respelled v.spell node now ask.to slot content
after_asked v me node now ask asked.Ran e = ap (with_local (respell_node v.spell node)) (ran_alike v me node ask e)
after_asked v me node now ask (asked.Forbidden forbidden) e =
    ap (with_local (respell_node v.spell node)) (v.agree.notes ask.thread forbidden node.local)
after_asked v me node now ask (asked.BadArg part) e = refl
after_asked v me node now ask (asked.LockBusy lock) e = refl
after_asked v me node now ask asked.Exhausted e = refl
after_asked v me node now ask asked.NotYet e = refl

-- a request of a thread leaves the same
pub after_alike : (v : Versions) (me : ℕ) (node : Node EndpointLocal) (now : ℕ) (ask : Ask)
    → after_request (site_of (other_job v) me) (respell_node v.spell node) now ask
    (request_answer (site_of (other_job v) me) (respell_node v.spell node) ask)
    ≡ respell_node v.spell (after_request (site_of (one_job v) me) node now ask
    (request_answer (site_of (one_job v) me) node ask))
after_alike v me node now ask =
    ap (after_request (site_of (other_job v) me) (respell_node v.spell node) now ask) (asked_alike v me node ask)
    ∙ after_asked v me node now ask (request_answer (site_of (one_job v) me) node ask) refl
