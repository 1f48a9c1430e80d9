-- A later try of a whole collective.
use Rattle.std.proofs.Common.{◌≡◌, ◌<◌, None, ap, refl, subst, sym, ◌∙◌}
use Rattle.part_handlers.specs.Runs.{Meaning}
use Rattle.node_rules.proofs.CoreKept.{segment_long}
use Rattle.node_collectives.specs.Ends.{EndAsked}
use Rattle.node_endpoint.specs.EndpointState.{ForItsRecord}
use Rattle.node_endpoint.specs.Sites.{Site}
use Rattle.proc_collective_steps.specs.contracts.last_answer.LastAnswerCaller.TheImpl.{ghosts}
use Rattle.proc_collective_steps.specs.Outcomes.{end_outcome, step_outcome}
use Rattle.proc_collective_steps.specs.Parts.{site_of}
use Rattle.proc_collective_steps.specs.Tries.{Comes, EndComes, IsSameCore, context_at}
use Rattle.proc_collective_steps.specs.Wholes.{LastStands, LastWhole, follows_last}
use Rattle.proc_collective_steps.proofs.AtLast.{comes_so, end_comes_so, left_one_by_one, same_core}
use Rattle.proc_collective_steps.proofs.Coming.{end_came, step_came}
use Rattle.proc_collective_steps.proofs.Parted.{tried_as, went_as}
use Rattle.proc_collective_steps.proofs.Trying.{last_step_tried, later_tried}
use Rattle.proc_collective_steps.proofs.whole.go_on_whole.Goals as goal

pub step-answer-requires : goal.step-answer-requires
step-answer-requires g c =
    record { settings = c.requires.of.settings; me = c.requires.of.me_is; thread = c.requires.thread }

pub try_end-ended-requires : goal.try_end-ended-requires
try_end-ended-requires g c =
    let site = c.step-answer.ensures.same_site in
    let node = c.step-answer.ensures.same_node in
    record {
      settings = node.settings_are ∙ (c.requires.of.settings ∙ sym (ap (λ (s : Site). s.settings) site));
      me = node.me_is ∙ (c.requires.of.me_is ∙ sym (ap (λ (s : Site). s.node) site));
      thread = subst (λ (s : Site). c.args.at.thread < s.settings.threads) (sym site) c.requires.thread;
    }

pub returns-in-Some : goal.returns-in-Some
returns-in-Some g c =
    let same_site = c.step-answer.ensures.same_site in
    let same = same_core c.args.endpoint.now c.step-answer.new.caller.endpoint.now _
    (c.in-Some.endpoint-1-own.given.1 (sym c.step-answer.ensures.same_reference)) (record {
      settings = ap (λ (s : Site). s.settings) same_site;
      me_is = ap (λ (s : Site). s.node) same_site;
      table = ap (λ (s : Site). s.table) same_site;
    }) in
    let meaning : Meaning = g.H.Handlers.meaning c.args.handlers.now in
    let old = c.args.endpoint.now in
    let it = c.args.collectives.now in
    let site : Site = site_of (context_at meaning old c.args.at) in
    let caller = ghosts g.row.H g.H.Handlers g.H.Handlers-dict in
    let told = c.step-answer.result in
    let last = c.step-answer.new.caller.last in
    record {
      same = same;
      same_node = c.step-answer.ensures.same_node;
      tried = λ node stands.
          tried_as _ _ _ _ _ _ _ _ _ _ _ _ c.sent_by-sent.ensures refl refl
          (last_step_tried meaning old _ c.args.at it c.step-answer.new.self c.args.dest told c.in-Some.end last
          (g.met.H.Handlers.is_lawful c.args.handlers.now) same
          (λ node stands.
          let whole : LastWhole = record { node = node; last = None } in
          let outcome = step_outcome site c.args.at.thread node it in
          let came = step_came caller refl follows_last c.args.at.thread it _ _ _ _ c.step-answer.ensures.steps whole
          (record { stands = stands; last_is = refl }) in
          comes_so site node outcome _ _ _ _ _
          (c.in-Some.endpoint-1-own.given.1 (sym c.step-answer.ensures.same_reference)) came.answered came.next_is
          (subst (LastStands c.step-answer.new.caller.endpoint.now last)
          (left_one_by_one g.row.H g.H.Handlers g.H.Handlers-dict site whole outcome.calls) came.left))
          (sym c.step_ends.ensures ∙ c.in-Some.is) node stands);
    }

pub returns : goal.returns
returns g c =
    let meaning : Meaning = g.H.Handlers.meaning c.args.handlers.now in
    let old = c.args.endpoint.now in
    let mid = c.step-answer.new.caller.endpoint.now in
    let new = c.endpoint-2-1.given.0 in
    let it = c.args.collectives.now in
    let between = c.step-answer.new.self in
    let next = c.try_end-ended.new.self in
    let site : Site = site_of (context_at meaning old c.args.at) in
    let caller = ghosts g.row.H g.H.Handlers g.H.Handlers-dict in
    let told = c.step-answer.result in
    let last = c.step-answer.new.caller.last in
    let answer = c.try_end-ended.result in
    let back = c.endpoint-2-1.given.1
    (sym c.step-answer.ensures.same_reference ∙ sym c.try_end-ended.ensures.same_reference) in
    let stepped = c.step-answer.ensures.same_site in
    let ended = c.try_end-ended.ensures.same_site in
    let same_mid : IsSameCore old.core mid.core = record {
      settings = ap (λ (s : Site). s.settings) stepped;
      me_is = ap (λ (s : Site). s.node) stepped;
      table = ap (λ (s : Site). s.table) stepped;
    } in
    let node_mid = c.step-answer.ensures.same_node in
    let node_end = c.try_end-ended.ensures.same_node in
    let comes : ForItsRecord old (λ node. Comes site node (step_outcome site c.args.at.thread node it) told last
    between mid) = λ node stands.
    let whole : LastWhole = record { node = node; last = None } in
    let outcome = step_outcome site c.args.at.thread node it in
    let came = step_came caller refl follows_last c.args.at.thread it _ _ _ _ c.step-answer.ensures.steps whole
    (record { stands = stands; last_is = refl }) in
    comes_so site node outcome _ _ _ _ _ refl came.answered came.next_is
    (subst (LastStands mid last)
    (left_one_by_one g.row.H g.H.Handlers g.H.Handlers-dict site whole outcome.calls) came.left) in
    let there : Site = caller.site c.step-answer.new.caller in
    let asked : EndAsked = record { thread = c.args.at.thread; dest = c.args.dest } in
    let same_there : there ≡ site_of (context_at meaning mid c.args.at) = λ i. record {
      settings = mid.core.settings;
      table = mid.core.table;
      meaning = (stepped i).meaning;
      node = mid.core.me;
      now = (stepped i).now;
    } in
    let ends : ForItsRecord mid (λ node. let here = site_of (context_at meaning mid c.args.at) in
    EndComes here node (end_outcome here node between asked) answer next new) = λ node stands.
    let whole : LastWhole = record { node = node; last = last } in
    let outcome = end_outcome there node between asked in
    let came = end_came caller between _ asked _ _ _ c.try_end-ended.ensures.ends whole
    (record { stands = stands; last_is = refl })
    (segment_long mid.core.settings mid.core.me node.local.core stands.kept.core) in
    subst (λ (here : Site). EndComes here node (end_outcome here node between asked) answer next new) same_there
    (end_comes_so there node outcome _ _ _ _ _ _ back came.answered came.next_is
    (subst (LastStands c.try_end-ended.new.caller.endpoint.now c.try_end-ended.new.caller.last)
    (left_one_by_one g.row.H g.H.Handlers g.H.Handlers-dict there whole outcome.calls) came.left)) in
    record {
      same = same_core old c.try_end-ended.new.caller.endpoint.now new back (record {
        settings = ap (λ (s : Site). s.settings) (ended ∙ stepped);
        me_is = ap (λ (s : Site). s.node) (ended ∙ stepped);
        table = ap (λ (s : Site). s.table) (ended ∙ stepped);
      });
      same_node = record {
        settings_are = node_end.settings_are ∙ node_mid.settings_are;
        me_is = node_end.me_is ∙ node_mid.me_is;
        area_is = node_end.area_is ∙ node_mid.area_is;
      };
      tried = λ node stands.
          went_as _ _ _ _ _ _ _ _ _ _ _ _ _ _ c.went_on.ensures c.sent_by-sent.ensures c.is_quiet-quiet.ensures
          c.is_unexhausted-unexhausted.ensures
          (later_tried meaning old mid new c.args.at it between next c.args.dest told last answer
          (g.met.H.Handlers.is_lawful c.args.handlers.now) c.step-answer.ensures.stands node_mid same_mid comes ends
          (sym c.step_ends.ensures ∙ c.in_default.is) node stands);
    }
