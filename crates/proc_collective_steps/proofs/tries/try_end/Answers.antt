-- The try of a step that tries to end the phase that is open.
use Rattle.std.proofs.Common.{None, ap, refl, sym, subst}
use Rattle.node_rules.proofs.CoreKept.{segment_long}
use Rattle.node_collectives.specs.Ends.{EndAsked}
use Rattle.node_endpoint.specs.Sites.{Site}
use Rattle.proc_collective_steps.specs.contracts.last_answer.LastAnswerCaller.TheImpl.{ghosts}
use Rattle.proc_collective_steps.specs.Outcomes.{end_outcome}
use Rattle.proc_collective_steps.specs.Parts.{site_of}
use Rattle.proc_collective_steps.specs.Tries.{context_at}
use Rattle.proc_collective_steps.specs.Wholes.{LastStands, LastWhole}
use Rattle.proc_collective_steps.proofs.AtLast.{end_comes_so, left_one_by_one, same_core}
use Rattle.proc_collective_steps.proofs.Coming.{end_came}
use Rattle.proc_collective_steps.proofs.Trying.{end_is_tried}
use Rattle.proc_collective_steps.proofs.tries.try_end.Goals as goal

pub try_end-answer-requires : goal.try_end-answer-requires
try_end-answer-requires g c =
    record { settings = c.requires.of.settings; me = c.requires.of.me_is; thread = c.requires.thread }

pub returns : goal.returns
returns g c =
    let same_site = c.try_end-answer.ensures.same_site in
    let same = same_core c.args.endpoint.now c.try_end-answer.new.caller.endpoint.now _
    (c.endpoint-1.given.1 (sym c.try_end-answer.ensures.same_reference)) (record {
      settings = ap (λ (s : Site). s.settings) same_site;
      me_is = ap (λ (s : Site). s.node) same_site;
      table = ap (λ (s : Site). s.table) same_site;
    }) in
    let tried =
    end_is_tried (g.H.Handlers.meaning c.args.handlers.now) c.args.endpoint.now _ c.args.at c.args.collectives.now
    c.try_end-answer.new.self c.args.dest c.try_end-answer.result (g.met.H.Handlers.is_lawful c.args.handlers.now)
    (λ node stands.
    let caller = ghosts g.row.H g.H.Handlers g.H.Handlers-dict in
    let site : Site =
    site_of (context_at (g.H.Handlers.meaning c.args.handlers.now) c.args.endpoint.now c.args.at) in
    let whole : LastWhole = record { node = node; last = None } in
    let asked : EndAsked = record { thread = c.args.at.thread; dest = c.args.dest } in
    let outcome = end_outcome site node c.args.collectives.now asked in
    let came = end_came caller c.args.collectives.now _ asked _ _ _ c.try_end-answer.ensures.ends whole
    (record { stands = stands; last_is = refl })
    (segment_long c.args.endpoint.now.core.settings c.args.endpoint.now.core.me node.local.core stands.kept.core) in
    end_comes_so site node outcome _ _ _ _ _ _ (c.endpoint-1.given.1 (sym c.try_end-answer.ensures.same_reference))
    came.answered came.next_is
    (subst (LastStands c.try_end-answer.new.caller.endpoint.now c.try_end-answer.new.caller.last)
    (left_one_by_one g.row.H g.H.Handlers g.H.Handlers-dict site whole outcome.calls) came.left)) in
    record { same = same; same_node = c.try_end-answer.ensures.same_node; tried = tried }
