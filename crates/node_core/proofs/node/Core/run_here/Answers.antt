use Rattle.std.proofs.Common.{ap, take, ◌≡◌, ◌∙◌, refl, sym, subst, rules, length, None}
use Rattle.part_handlers.proofs.LockLaws.{unblocked_parts}
use Rattle.part_handlers.specs.Registered.{reply_locks}
use Rattle.node_core.specs.HandlerRuns.{listed_for}
use Rattle.node_core.specs.AskedFor.{asking_of}
use Rattle.node_core.specs.ClientRules.{IsFine, busy_lock, said_in}
use Rattle.node_core.specs.CoreState.{CoreState}
use Rattle.node_core.specs.CoreStep.{with_own_run}
use Rattle.node_core.specs.HandlerContextRuns.{HandlerContextRun, RunsOwn, HandlerState}
use Rattle.node_core.proofs.OwnRuns.{asked_inside, fine_client, own_found, own_run_is, with_touched}
use Rattle.node_core.proofs.OwnBuffers.{sole_written}
use Rattle.node_core.proofs.node.Core.run_here.Goals as goal

pub run_own-requires-clause-replies : goal.run_own-requires-clause-replies
run_own-requires-clause-replies g c =
    (unblocked_parts c.self.inside.locks (listed_for c.self.inside.table c.args.asking.now.handler)
    (reply_locks c.self.inside.table) (subst
    (λ (core : CoreState). busy_lock core.table c.args.asking.now.handler core.locks ≡ None) (sym c.self.view_is)
    c.requires.free)).1

pub run_own-requires-clause-ready : goal.run_own-requires-clause-ready
run_own-requires-clause-ready g c =
    let free = (unblocked_parts c.self.inside.locks (listed_for c.self.inside.table c.args.asking.now.handler)
    (reply_locks c.self.inside.table) (subst
    (λ (core : CoreState). busy_lock core.table c.args.asking.now.handler core.locks ≡ None) (sym c.self.view_is)
    c.requires.free)).0 in
    let fine = subst (λ (core : CoreState). IsFine (length core.segment) (asking_of c.args.asking.now))
    (sym c.self.view_is) c.requires.fine in
    let landed = c.lend_own-shown.ensures.landed in
    record {
      ready = record {
        few = c.requires.fine.few;
        room = λ is. search rules;
        numbered = λ is other. absurd (other refl);
      };
      free = record { unblocked = rw c.listed_for-listed.ensures free; unheld = c.self.invariant.3 };
      sized =
          landed.same_length ∙ subst (λ (core : CoreState). length core.segment ≡ core.settings.segment)
          (sym c.self.view_is) c.requires.segment;
      placed =
          rw (c.place_asked.ensures, landed.same_length) (asked_inside _ (asking_of c.args.asking.now) fine);
    }

pub returns : goal.returns
returns g c =
    let meaning = g.H.Handlers.meaning c.args.handlers.now in
    let inside : CoreState = record {
      settings = c.self.inside.settings;
      me = c.self.inside.me;
      table = c.self.inside.table;
      requests = c.self.inside.requests;
      replies = c.self.inside.replies;
      segment = c.self.inside.segment;
      locks = c.self.inside.locks;
      cells = c.self.inside.cells;
      log = c.self.inside.log;
    } in
    let after : HandlerState = record {
      cells = c.run_own.new.self.cells.now;
      segment = c.run_own.new.self.segment.now;
      locks = c.run_own.new.self.locks.now;
      log = c.run_own.new.self.log.now;
    } in
    let asking = asking_of c.args.asking.now in
    let fine : IsFine (length inside.segment) asking =
    subst (λ (core : CoreState). IsFine (length core.segment) asking) (sym c.self.view_is) c.requires.fine in
    let whole = sole_written c.self.inside.lent c.lend_own-shown.new.buffer c.part.result.now c.self.invariant.2
    c.lend_own-shown.ensures.room c.part.ensures.value in
    subst
    (λ (core : CoreState). with_touched inside after ≡ with_own_run meaning core (said_in core.segment asking))
    c.self.view_is
    (own_run_is meaning inside (said_in inside.segment asking) after
    (g.met.H.Handlers.is_lawful c.args.handlers.now) (fine_client inside.segment asking fine)
    (subst (λ (run : HandlerContextRun). RunsOwn meaning run after)
    (own_found meaning inside asking c.listed_for-listed.result c.lend_own-shown.result
    c.lend_own-shown.new.segment c.lend_own-shown.new.buffer (take c.lend_own-shown.result c.part.result.now)
    c.place_asked.result fine c.listed_for-listed.ensures c.lend_own-shown.ensures.landed
    (ap (take c.lend_own-shown.result) whole) c.place_asked.ensures) c.run_own.ensures.ran))
