-- The try of a step that sends the phase that is open on.
use Rattle.std.proofs.Common.{None, ap, refl, sym, subst}
use Rattle.node_endpoint.specs.Sites.{Site}
use Rattle.proc_collective_steps.specs.contracts.last_answer.LastAnswerCaller.TheImpl.{ghosts}
use Rattle.proc_collective_steps.specs.Outcomes.{step_outcome}
use Rattle.proc_collective_steps.specs.Parts.{site_of}
use Rattle.proc_collective_steps.specs.Tries.{context_at}
use Rattle.proc_collective_steps.specs.Wholes.{LastStands, LastWhole, follows_last}
use Rattle.proc_collective_steps.proofs.AtLast.{comes_so, left_one_by_one, same_core}
use Rattle.proc_collective_steps.proofs.Coming.{step_came}
use Rattle.proc_collective_steps.proofs.Trying.{step_tried}
use Rattle.proc_collective_steps.proofs.tries.try_step.Goals as goal

pub step-answer-requires : goal.step-answer-requires
step-answer-requires g c =
    record { settings = c.requires.of.settings; me = c.requires.of.me_is; thread = c.requires.thread }

pub returns : goal.returns
returns g c =
    let same_site = c.step-answer.ensures.same_site in
    let same = same_core c.args.endpoint.now c.step-answer.new.caller.endpoint.now _
    (c.endpoint-1.given.1 (sym c.step-answer.ensures.same_reference)) (record {
      settings = ap (λ (s : Site). s.settings) same_site;
      me_is = ap (λ (s : Site). s.node) same_site;
      table = ap (λ (s : Site). s.table) same_site;
    }) in
    let tried =
    step_tried (g.H.Handlers.meaning c.args.handlers.now) c.args.endpoint.now _ c.args.at c.args.collectives.now
    c.step-answer.new.self c.step-answer.result c.step-answer.new.caller.last c.sent_by.result
    (g.met.H.Handlers.is_lawful c.args.handlers.now) c.sent_by.ensures same (λ node stands.
    let caller = ghosts g.row.H g.H.Handlers g.H.Handlers-dict in
    let site : Site =
    site_of (context_at (g.H.Handlers.meaning c.args.handlers.now) c.args.endpoint.now c.args.at) in
    let whole : LastWhole = record { node = node; last = None } in
    let outcome = step_outcome site c.args.at.thread node c.args.collectives.now in
    let came = step_came caller refl follows_last c.args.at.thread c.args.collectives.now _ _ _ _
    c.step-answer.ensures.steps whole (record { stands = stands; last_is = refl }) in
    comes_so site node outcome _ _ _ _ _ (c.endpoint-1.given.1 (sym c.step-answer.ensures.same_reference))
    came.answered came.next_is
    (subst (LastStands c.step-answer.new.caller.endpoint.now c.step-answer.new.caller.last)
    (left_one_by_one g.row.H g.H.Handlers g.H.Handlers-dict site whole outcome.calls) came.left)) in
    record { same = same; same_node = c.step-answer.ensures.same_node; tried = tried }
