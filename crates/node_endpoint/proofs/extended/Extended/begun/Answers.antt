use Rattle.std.proofs.Common.{◌≡◌, ◌≤◌, ◌∙◌, List, ℕ, length, sym, ap, subst}
use Rattle.std.specs.Prelude.{None, Ok, Err, Result}
use Rattle.part_transfers.specs.declared.operation.Handle.{Handle}
use Rattle.part_transfers.specs.declared.operation.TooMany.{TooMany}
use Rattle.node_rules.specs.EndpointLocal.{own_end, remote_end}
use Rattle.node_rules.specs.TransferCalls.{transfer_fault, own_write, begun_as}
use Rattle.part_segment.specs.Image.{written_by}
use Rattle.std.proofs.Common.{◌∷◌, []}
use Rattle.node_rules.proofs.Kept.{IsFaultless, faultless}
use Rattle.node_endpoint.proofs.Beginnings.{here_begins, chunks_begin, no_fault}
use Rattle.node_endpoint.specs.Parts.{PartBegins}
use Rattle.node_endpoint.proofs.extended.Extended.begun.Goals as goal
use Rattle.node_endpoint.proofs.extended.Extended.begun.Goals.{After-size, After-begin}

-- no part is bad
fine : (c : After-size) → transfer_fault c.args.core.now.settings c.args.transfer.now ≡ None
fine c =
    sym (c.transfer_fault.ensures c.args.core.now.settings (sym c.requires.nodes)
    (sym (ap length c.segment.ensures.value ∙ c.requires.segment)))
    ∙ no_fault c.transfer_fault.result c.in_default.not-Some

faultless_so : (c : After-size) → IsFaultless c.args.core.now.settings c.args.transfer.now
faultless_so c = faultless c.args.core.now.settings c.args.transfer.now (fine c)

pub write_here-requires-clause-own : goal.write_here-requires-clause-own
write_here-requires-clause-own c =
    subst (λ n. own_end c.args.transfer.now ≤ n) (sym (ap length c.segment_mut.ensures.value ∙ c.requires.segment))
    (faultless_so (goal.at.write_here-requires-clause-own c).After-size).own

pub write_here-requires-clause-remote : goal.write_here-requires-clause-remote
write_here-requires-clause-remote c =
    subst (λ n. remote_end c.args.transfer.now ≤ n) (sym (ap length c.segment_mut.ensures.value ∙ c.requires.segment))
    (faultless_so (goal.at.write_here-requires-clause-remote c).After-size).remote

pub returns-then-target-self : goal.returns-then-target-self
returns-then-target-self c =
    here_begins c.args.core.now c.args.self.now c.args.thread c.args.transfer.now c.args.mode
    c.write_here.new.segment (fine (goal.at.returns-then-target-self c).After-size)
    (λ e. c.if-size-eq0.false (c.size.ensures ∙ e))
    (sym c.target.ensures ∙ (c.if-target-self.true ∙ c.requires.me_is)) c.requires.segment
    (subst (λ (s : List ℕ). c.write_here.new.segment ≡ written_by s (own_write s c.args.transfer.now ∷ []))
    c.segment_mut.ensures.value c.write_here.ensures)

-- a transfer by chunks begins, or there are too many
chunks_so : (c : After-begin) (result : Result Handle TooMany) → c.begin.result ≡ result
    → transfer_fault c.args.core.now.settings c.args.transfer.now ≡ None
    → PartBegins (record { core = c.args.core.now; extended = c.args.self.now })
    (record { thread = c.args.thread; transfer = c.args.transfer.now; mode = c.args.mode }) (begun_as result)
    (record { core = c.args.core.now; extended = record c.args.self.now { transfers = c.begin.new.self } })
chunks_so c result is fine =
    subst (λ (says : Result Handle TooMany). PartBegins (record { core = c.args.core.now; extended = c.args.self.now })
    (record { thread = c.args.thread; transfer = c.args.transfer.now; mode = c.args.mode }) (begun_as says)
    (record { core = c.args.core.now; extended = record c.args.self.now { transfers = c.begin.new.self } })) is
    (chunks_begin c.args.core.now c.args.self.now c.begin.new.self c.args.thread c.args.transfer.now c.args.mode
    c.begin.result fine (λ e. c.if-size-eq0.false (c.size.ensures ∙ e))
    (λ e. c.if-target-self.false (c.target.ensures ∙ (e ∙ sym c.requires.me_is)))
    c.begin.ensures.answer c.begin.ensures.stands c.begin.ensures.room)

pub returns-in-Ok : goal.returns-in-Ok
returns-in-Ok c =
    chunks_so (goal.at.returns-in-Ok c).After-begin (Ok c.in-Ok.handle) c.in-Ok.is
    (fine (goal.at.returns-in-Ok c).After-size)

pub returns-in-Err : goal.returns-in-Err
returns-in-Err c =
    chunks_so (goal.at.returns-in-Err c).After-begin (Err c.in-Err.field-0) c.in-Err.is
    (fine (goal.at.returns-in-Err c).After-size)
