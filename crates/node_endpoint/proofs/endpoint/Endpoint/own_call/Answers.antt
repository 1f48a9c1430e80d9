use Rattle.std.proofs.Common.{◌≡◌, rules, ap, ◌∙◌, sym, subst, ℤ}
use Rattle.std.specs.Int.{w32, cast_signed, cast_unsigned}
use Rattle.std.specs.Prelude.{slice_set, slice_index_or, pos}
use Rattle.node_rules.specs.Called.{meant}
use Rattle.node_rules.specs.Memory.{Show, Set, Fill, LoadWord, SetWord}
use Rattle.node_rules.specs.declared.call.Call.{Call}
use Rattle.node_rules.specs.declared.call.Call.TheVariants as call
use Rattle.node_rules.specs.declared.answer.Answer.TheVariants as answers
use Rattle.node_rules.specs.declared.answer.Local.TheVariants as local
use Rattle.node_endpoint.specs.EndpointState.{EndpointState}
use Rattle.node_endpoint.specs.Parts.{CallSteps, endpoint_of}
use Rattle.node_endpoint.proofs.Calling.{lock_steps, unlock_steps, cell_steps, set_cell_steps, segment_steps}
use Rattle.node_endpoint.proofs.Calling.{segment_read}
use Rattle.node_endpoint.proofs.Calling.{same_extended, call_whole}
use Rattle.node_endpoint.proofs.endpoint.Endpoint.own_call.Goals as goal

pub invariant_of-self : goal.invariant_of-self
invariant_of-self c =
    let core = c.self.inside.core in
    let extended = c.self.inside.extended in
    call_whole core c.lock.new.self extended extended c.args.thread (call.Lock c.in-Lock.k) _ c.self.invariant
    (same_extended extended)
    (lock_steps core c.lock.new.self extended c.args.thread c.in-Lock.k c.lock.result c.lock.ensures.steps)

pub invariant_of-self-in-Unlock : goal.invariant_of-self-in-Unlock
invariant_of-self-in-Unlock c =
    let core = c.self.inside.core in
    let extended = c.self.inside.extended in
    call_whole core c.unlock.new.self extended extended c.args.thread (call.Unlock c.in-Unlock.k) _ c.self.invariant
    (same_extended extended)
    (unlock_steps core c.unlock.new.self extended c.args.thread c.in-Unlock.k c.unlock.result c.unlock.ensures.steps)

pub invariant_of-self-in-SetCell : goal.invariant_of-self-in-SetCell
invariant_of-self-in-SetCell c =
    let core = c.self.inside.core in
    let extended = c.self.inside.extended in
    let cells : c.set.new.self ≡ slice_set core.cells c.in-SetCell.c c.in-SetCell.value = search rules in
    call_whole core (record core { cells = c.set.new.self }) extended extended c.args.thread
    (call.SetCell c.in-SetCell.c c.in-SetCell.value) _ c.self.invariant (same_extended extended)
    (set_cell_steps core extended c.args.thread c.in-SetCell.c c.in-SetCell.value c.set.new.self cells)

pub invariant_of-self-in-Set : goal.invariant_of-self-in-Set
invariant_of-self-in-Set c =
    let core = c.self.inside.core in
    let extended = c.self.inside.extended in
    call_whole core (record core { segment = c.set-in-Set.new.segment }) extended extended c.args.thread c.args.call.now
    _ c.self.invariant (same_extended extended)
    (segment_steps core extended c.args.thread c.args.call.now (Set (record {
      offset = c.in-Set.offset;
      bytes = c.in-Set.bytes.now;
    })) c.set-in-Set.result
    c.segment_mut.result.now c.set-in-Set.new.segment (ap meant c.in-Set.is) c.segment_mut.ensures.value
    c.set-in-Set.ensures)

pub invariant_of-self-in-Fill : goal.invariant_of-self-in-Fill
invariant_of-self-in-Fill c =
    let core = c.self.inside.core in
    let extended = c.self.inside.extended in
    call_whole core (record core { segment = c.fill.new.segment }) extended extended c.args.thread c.args.call.now _
    c.self.invariant (same_extended extended)
    (segment_steps core extended c.args.thread c.args.call.now (Fill c.in-Fill.offset c.in-Fill.len c.in-Fill.byte)
    c.fill.result
    c.segment_mut-in-Fill.result.now c.fill.new.segment (ap meant c.in-Fill.is) c.segment_mut-in-Fill.ensures.value
    c.fill.ensures)

pub invariant_of-self-in-SetWord : goal.invariant_of-self-in-SetWord
invariant_of-self-in-SetWord c =
    let core = c.self.inside.core in
    let extended = c.self.inside.extended in
    call_whole core (record core { segment = c.set_word.new.segment }) extended extended c.args.thread c.args.call.now _
    c.self.invariant (same_extended extended)
    (segment_steps core extended c.args.thread c.args.call.now (SetWord c.in-SetWord.offset c.in-SetWord.value)
    c.set_word.result
    c.segment_mut-in-SetWord.result.now c.set_word.new.segment
    (ap meant c.in-SetWord.is) c.segment_mut-in-SetWord.ensures.value c.set_word.ensures)

pub returns-in-Lock : goal.returns-in-Lock
returns-in-Lock c =
    let core = c.self.inside.core in
    let extended = c.self.inside.extended in
    subst (λ (e : EndpointState). CallSteps e c.args.thread c.args.call.now (answers.Lock c.lock.result)
    (endpoint_of c.lock.new.self extended)) c.self.view_is
    (subst (λ (k : Call). CallSteps (endpoint_of core extended) c.args.thread k (answers.Lock c.lock.result)
    (endpoint_of c.lock.new.self extended)) (sym c.in-Lock.is)
    (lock_steps core c.lock.new.self extended c.args.thread c.in-Lock.k c.lock.result c.lock.ensures.steps))

pub returns-in-Unlock : goal.returns-in-Unlock
returns-in-Unlock c =
    let core = c.self.inside.core in
    let extended = c.self.inside.extended in
    subst (λ (e : EndpointState). CallSteps e c.args.thread c.args.call.now (answers.Unlock c.unlock.result)
    (endpoint_of c.unlock.new.self extended)) c.self.view_is
    (subst (λ (k : Call). CallSteps (endpoint_of core extended) c.args.thread k (answers.Unlock c.unlock.result)
    (endpoint_of c.unlock.new.self extended)) (sym c.in-Unlock.is)
    (unlock_steps core c.unlock.new.self extended c.args.thread c.in-Unlock.k c.unlock.result c.unlock.ensures.steps))

pub returns-in-SetCell : goal.returns-in-SetCell
returns-in-SetCell c =
    let core = c.self.inside.core in
    let extended = c.self.inside.extended in
    let cells : c.set.new.self ≡ slice_set core.cells c.in-SetCell.c c.in-SetCell.value = search rules in
    subst (λ (e : EndpointState). CallSteps e c.args.thread c.args.call.now (answers.Local local.Done)
    (endpoint_of (record core { cells = c.set.new.self }) extended)) c.self.view_is
    (subst (λ (k : Call). CallSteps (endpoint_of core extended) c.args.thread k (answers.Local local.Done)
    (endpoint_of (record core { cells = c.set.new.self }) extended)) (sym c.in-SetCell.is)
    (set_cell_steps core extended c.args.thread c.in-SetCell.c c.in-SetCell.value c.set.new.self cells))

pub returns-in-Cell : goal.returns-in-Cell
returns-in-Cell c =
    let core = c.self.inside.core in
    let extended = c.self.inside.extended in
    let same : cast_signed w32 (cast_unsigned w32 c.get.result) ≡ c.get.result = search rules in
    subst (λ (v : ℤ). CallSteps c.args.self.now c.args.thread c.args.call.now (answers.Local (local.Cell v))
    c.args.self.now) (sym same)
    (subst (λ (e : EndpointState). CallSteps e c.args.thread c.args.call.now
    (answers.Local (local.Cell c.get.result)) e)
    c.self.view_is
    (subst (λ (k : Call). CallSteps (endpoint_of core extended) c.args.thread k
    (answers.Local (local.Cell c.get.result)) (endpoint_of core extended)) (sym c.in-Cell.is)
    (cell_steps core extended c.args.thread c.in-Cell.c c.get.result
    (λ node S. c.get.ensures ∙ ap (λ ys. slice_index_or ys c.in-Cell.c (pos 0)) (c.cells.ensures node S)))))

pub returns-in-Set : goal.returns-in-Set
returns-in-Set c =
    let core = c.self.inside.core in
    let extended = c.self.inside.extended in
    subst (λ (e : EndpointState). CallSteps e c.args.thread c.args.call.now (answers.Local c.set-in-Set.result)
    (endpoint_of (record core { segment = c.set-in-Set.new.segment }) extended)) c.self.view_is
    (segment_steps core extended c.args.thread c.args.call.now (Set (record {
      offset = c.in-Set.offset;
      bytes = c.in-Set.bytes.now;
    })) c.set-in-Set.result
    c.segment_mut.result.now c.set-in-Set.new.segment (ap meant c.in-Set.is) c.segment_mut.ensures.value
    c.set-in-Set.ensures)

pub returns-in-Fill : goal.returns-in-Fill
returns-in-Fill c =
    let core = c.self.inside.core in
    let extended = c.self.inside.extended in
    subst (λ (e : EndpointState). CallSteps e c.args.thread c.args.call.now (answers.Local c.fill.result)
    (endpoint_of (record core { segment = c.fill.new.segment }) extended)) c.self.view_is
    (segment_steps core extended c.args.thread c.args.call.now (Fill c.in-Fill.offset c.in-Fill.len c.in-Fill.byte)
    c.fill.result
    c.segment_mut-in-Fill.result.now c.fill.new.segment (ap meant c.in-Fill.is) c.segment_mut-in-Fill.ensures.value
    c.fill.ensures)

pub returns-in-SetWord : goal.returns-in-SetWord
returns-in-SetWord c =
    let core = c.self.inside.core in
    let extended = c.self.inside.extended in
    subst (λ (e : EndpointState). CallSteps e c.args.thread c.args.call.now (answers.Local c.set_word.result)
    (endpoint_of (record core { segment = c.set_word.new.segment }) extended)) c.self.view_is
    (segment_steps core extended c.args.thread c.args.call.now (SetWord c.in-SetWord.offset c.in-SetWord.value)
    c.set_word.result
    c.segment_mut-in-SetWord.result.now c.set_word.new.segment
    (ap meant c.in-SetWord.is) c.segment_mut-in-SetWord.ensures.value c.set_word.ensures)

pub returns-in-Show : goal.returns-in-Show
returns-in-Show c =
    let core = c.self.inside.core in
    let extended = c.self.inside.extended in
    subst (λ (e : EndpointState). CallSteps e c.args.thread c.args.call.now (answers.Local c.show.result) e)
    c.self.view_is
    (segment_read core extended c.args.thread c.args.call.now (Show c.in-Show.offset c.in-Show.len) c.show.result
    c.segment.result.now
    (ap meant c.in-Show.is) c.segment.ensures.value c.show.ensures)

pub returns-in-LoadWord : goal.returns-in-LoadWord
returns-in-LoadWord c =
    let core = c.self.inside.core in
    let extended = c.self.inside.extended in
    subst (λ (e : EndpointState). CallSteps e c.args.thread c.args.call.now (answers.Local c.load_word.result) e)
    c.self.view_is
    (segment_read core extended c.args.thread c.args.call.now (LoadWord c.in-LoadWord.offset) c.load_word.result
    c.segment-in-LoadWord.result.now
    (ap meant c.in-LoadWord.is) c.segment-in-LoadWord.ensures.value c.load_word.ensures)
