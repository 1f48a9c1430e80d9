-- A turn of the machine.
use Rattle.std.proofs.Common.{◌≡◌, refl, sym, ◌∙◌, subst, true, false, option_copied}
use Rattle.proc_steps.proofs.Calm.{waiting_is_calm}
use Rattle.proc_machine.specs.Kept.{MachineKept, polls_at}
use Rattle.proc_machine.specs.Machines.{with_done}
use Rattle.proc_machine.specs.NodeState.{NodeStands, after_turn}
use Rattle.proc_machine.specs.Turns.{TurnTaken}
use Rattle.proc_machine.proofs.Standing.{change_is, empty_turn, quiet_is, still_machine, told_changed, told_quiet}
use Rattle.proc_machine.proofs.node.NodeMachineMachine.turn.Goals as goal

pub returns-then-not-is_change-clause-after : goal.returns-then-not-is_change-clause-after
returns-then-not-is_change-clause-after c =
    let taken : TurnTaken =
    record { thread = c.args.thread; now = c.args.now; got = option_copied c.args.got } in
    let quiet = change_is taken c.take-done.result c.args.got c.is_change.result c.is_some-came.result false refl
    c.is_change.ensures c.is_some-came.ensures c.if-not-is_change.true in
    c.take-done.ensures.quiet quiet

pub returns-then-not-is_change-clause-turned : goal.returns-then-not-is_change-clause-turned
returns-then-not-is_change-clause-turned c =
    let taken : TurnTaken =
    record { thread = c.args.thread; now = c.args.now; got = option_copied c.args.got } in
    let quiet = change_is taken c.take-done.result c.args.got c.is_change.result c.is_some-came.result false refl
    c.is_change.ensures c.is_some-came.ensures c.if-not-is_change.true in
    told_quiet c.args.self.now taken c.take-done.result c.take-done.new.self c.take-done.ensures quiet

pub returns-then-not-is_change-clause-polls : goal.returns-then-not-is_change-clause-polls
returns-then-not-is_change-clause-polls c = λ none thread.
    let taken : TurnTaken =
    record { thread = c.args.thread; now = c.args.now; got = option_copied c.args.got } in
    let quiet = change_is taken c.take-done.result c.args.got c.is_change.result c.is_some-came.result false refl
    c.is_change.ensures c.is_some-came.ensures c.if-not-is_change.true in
    c.take-done.ensures.polls (quiet_is taken c.take-done.result quiet).ended thread

pub returns-then-not-is_change-clause-empty : goal.returns-then-not-is_change-clause-empty
returns-then-not-is_change-clause-empty c = λ none unchanged.
    let taken : TurnTaken =
    record { thread = c.args.thread; now = c.args.now; got = option_copied c.args.got } in
    let quiet = change_is taken c.take-done.result c.args.got c.is_change.result c.is_some-came.result false refl
    c.is_change.ensures c.is_some-came.ensures c.if-not-is_change.true in (
      refl,
      refl,
      empty_turn waiting_is_calm c.args.self.now taken c.take-done.result c.take-done.new.self c.take-done.ensures quiet
          (option_copied c.args.got) refl none,
    )

pub invariant_of-self : goal.invariant_of-self
invariant_of-self c = still_machine _ c.take-done.result.outgoing c.take-done.result.tried.ended c.self.invariant

pub returns-clause-after : goal.returns-clause-after
returns-clause-after c = λ r stands.
    let taken : TurnTaken =
    record { thread = c.args.thread; now = c.args.now; got = option_copied c.args.got } in
    let changed = change_is taken c.take-done.result c.args.got c.is_change.result c.is_some-came.result true refl
    c.is_change.ensures c.is_some-came.ensures c.if-not-is_change.false in
    subst (λ (m : MachineKept). NodeStands (with_done m c.take-done.result)
    (after_turn r c.args.thread c.args.now (option_copied c.args.got))) (sym c.self.view_is)
    (c.take-done.ensures.changed changed r stands)

pub returns-clause-turned : goal.returns-clause-turned
returns-clause-turned c =
    let taken : TurnTaken =
    record { thread = c.args.thread; now = c.args.now; got = option_copied c.args.got } in
    let changed = change_is taken c.take-done.result c.args.got c.is_change.result c.is_some-came.result true refl
    c.is_change.ensures c.is_some-came.ensures c.if-not-is_change.false in
    told_changed c.args.self.now taken c.take-done.result c.take-done.new.self c.is_some.result c.count-sends.result
    c.take-done.ensures changed c.is_some.ensures c.count-sends.ensures.count

pub returns-clause-polls : goal.returns-clause-polls
returns-clause-polls c = λ none thread.
    subst (λ (m : MachineKept). polls_at m thread ≡ polls_at c.args.self.now thread) (sym c.self.view_is)
    (c.take-done.ensures.polls (sym c.is_some.ensures ∙ none) thread)
