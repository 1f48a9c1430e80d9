-- The first try of a whole collective.
use Rattle.std.proofs.Common.{None, ap, refl, sym, subst}
use Rattle.part_handlers.specs.Runs.{Meaning}
use Rattle.node_endpoint.specs.EndpointState.{ForItsRecord}
use Rattle.node_collectives.specs.Starts.{StartAsked}
use Rattle.node_endpoint.specs.Sites.{Site}
use Rattle.law_traces.specs.Scripts.{TryContext}
use Rattle.proc_collective_steps.specs.contracts.last_answer.LastAnswerCaller.TheImpl.{ghosts}
use Rattle.proc_collective_steps.specs.Outcomes.{start_outcome}
use Rattle.proc_collective_steps.specs.Parts.{site_of, start_asked}
use Rattle.proc_collective_steps.specs.Tries.{Comes, context_at}
use Rattle.proc_collective_steps.specs.Wholes.{LastStands, LastWhole}
use Rattle.proc_collective_steps.proofs.AtLast.{comes_so, left_one_by_one, same_core}
use Rattle.proc_collective_steps.proofs.Coming.{start_came}
use Rattle.proc_collective_steps.proofs.Parted.{tried_as}
use Rattle.proc_collective_steps.proofs.Trying.{first_said, first_tried}
use Rattle.proc_collective_steps.proofs.whole.begin_whole.Goals as goal

pub start-answer-requires : goal.start-answer-requires
start-answer-requires g c =
    record { settings = c.requires.of.settings; me = c.requires.of.me_is; thread = c.requires.thread }

pub returns : goal.returns
returns g c =
    let meaning : Meaning = g.H.Handlers.meaning c.args.handlers.now in
    let old = c.args.endpoint.now in
    let it = c.args.collectives.now in
    let at : TryContext = context_at meaning old c.args.at in
    let site : Site = site_of at in
    let asked : StartAsked = start_asked at c.args.asked.shape c.args.asked.from in
    let caller = ghosts g.row.H g.H.Handlers g.H.Handlers-dict in
    let told = c.start-answer.result in
    let last = c.start-answer.new.caller.last in
    let back = c.endpoint-1.given.1 (sym c.start-answer.ensures.same_reference) in
    let same_site = c.start-answer.ensures.same_site in
    let same = same_core old c.start-answer.new.caller.endpoint.now c.endpoint-1.given.0 back (record {
      settings = ap (λ (s : Site). s.settings) same_site;
      me_is = ap (λ (s : Site). s.node) same_site;
      table = ap (λ (s : Site). s.table) same_site;
    }) in
    let comes : ForItsRecord old (λ node. Comes site node (start_outcome site node it asked) told last
    c.start-answer.new.self c.endpoint-1.given.0) = λ node stands.
    let whole : LastWhole = record { node = node; last = None } in
    let outcome = start_outcome site node it asked in
    let came = start_came caller refl it _ asked _ _ _ c.start-answer.ensures.starts whole
    (record { stands = stands; last_is = refl }) in
    comes_so site node outcome _ _ _ _ _ back came.answered came.next_is
    (subst (LastStands c.start-answer.new.caller.endpoint.now last)
    (left_one_by_one g.row.H g.H.Handlers g.H.Handlers-dict site whole outcome.calls) came.left) in
    record {
      tries = record {
        same = same;
        same_node = c.start-answer.ensures.same_node;
        tried = λ node stands.
            tried_as _ _ _ _ _ _ _ _ _ _ _ _ c.sent_by.ensures c.start_said.ensures c.is_started.ensures
            (first_tried meaning old c.endpoint-1.given.0 c.args.at it c.start-answer.new.self c.args.asked.shape
            c.args.asked.from told last same comes node stands);
      };
      first = first_said meaning old c.endpoint-1.given.0 c.args.at it c.start-answer.new.self c.args.asked.shape
          c.args.asked.from told last comes;
    }
