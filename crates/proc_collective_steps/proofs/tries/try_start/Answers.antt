-- The try of a step that starts the next phase.
use Rattle.std.proofs.Common.{None, ap, refl, sym, subst}
use Rattle.node_collectives.specs.Starts.{StartAsked}
use Rattle.node_endpoint.specs.Sites.{Site}
use Rattle.proc_collective_steps.specs.contracts.last_answer.LastAnswerCaller.TheImpl.{ghosts}
use Rattle.proc_collective_steps.specs.Outcomes.{start_outcome}
use Rattle.proc_collective_steps.specs.Parts.{site_of}
use Rattle.proc_collective_steps.specs.Tries.{context_at}
use Rattle.proc_collective_steps.specs.Wholes.{LastStands, LastWhole}
use Rattle.proc_collective_steps.proofs.AtLast.{comes_so, left_one_by_one, same_core}
use Rattle.proc_collective_steps.proofs.Coming.{start_came}
use Rattle.proc_collective_steps.proofs.Trying.{start_tried}
use Rattle.proc_collective_steps.proofs.tries.try_start.Goals as goal

pub start-answer-requires : goal.start-answer-requires
start-answer-requires g c =
    record { settings = c.requires.of.settings; me = c.requires.of.me_is; thread = c.requires.thread }

pub returns : goal.returns
returns g c =
    let same_site = c.start-answer.ensures.same_site in
    let same = same_core c.args.endpoint.now c.start-answer.new.caller.endpoint.now _
    (c.endpoint-1.given.1 (sym c.start-answer.ensures.same_reference)) (record {
      settings = ap (λ (s : Site). s.settings) same_site;
      me_is = ap (λ (s : Site). s.node) same_site;
      table = ap (λ (s : Site). s.table) same_site;
    }) in
    let tried =
    start_tried (g.H.Handlers.meaning c.args.handlers.now) c.args.endpoint.now _ c.args.at c.args.collectives.now
    c.start-answer.new.self c.args.asked.shape c.args.asked.from c.start-answer.result c.start-answer.new.caller.last
    c.sent_by.result c.sent_by.ensures same (λ node stands.
    let caller = ghosts g.row.H g.H.Handlers g.H.Handlers-dict in
    let site : Site =
    site_of (context_at (g.H.Handlers.meaning c.args.handlers.now) c.args.endpoint.now c.args.at) in
    let whole : LastWhole = record { node = node; last = None } in
    let asked : StartAsked =
    record { thread = c.args.at.thread; shape = c.args.asked.shape; from = c.args.asked.from } in
    let outcome = start_outcome site node c.args.collectives.now asked in
    let came = start_came caller refl c.args.collectives.now _ asked _ _ _ c.start-answer.ensures.starts whole
    (record { stands = stands; last_is = refl }) in
    comes_so site node outcome _ _ _ _ _ (c.endpoint-1.given.1 (sym c.start-answer.ensures.same_reference))
    came.answered came.next_is
    (subst (LastStands c.start-answer.new.caller.endpoint.now c.start-answer.new.caller.last)
    (left_one_by_one g.row.H g.H.Handlers g.H.Handlers-dict site whole outcome.calls) came.left)) in
    record { same = same; same_node = c.start-answer.ensures.same_node; tried = tried }
