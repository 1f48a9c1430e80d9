-- One turn more, and the end.
use Rattle.std.proofs.Common.{◌≡◌, ◌+◌, ℕ, List, ◌++◌, length, take, refl, sym, ap, subst, ◌∙◌}
use Rattle.std.proofs.Common.{arith}
use Rattle.std.proofs.lemmas.List.{length-take-le}
use Rattle.std.proofs.lemmas.Option.{same_Some, slice_get_past, slice_get_read}
use Rattle.base_turns.proofs.Replays.{stands_push}
use Rattle.base_turns.specs.Replay.{StandsFor, given_by, replay_state, steps_of}
use Rattle.base_turns.specs.declared.entry.Entry.{Entry}
use Rattle.text_trace.proofs.Searching.{untrue}
use Rattle.text_trace.proofs.Turns.{sent_from-push, taken_next}
use Rattle.text_trace.specs.Sending.{CanBeTaken, numbered_sends, sent_from}
use Rattle.text_trace.specs.declared.sent.Sent.{Sent}
use Rattle.text_trace.proofs.replaying.replay.Goals as goal

pub loop-turns-preserved : goal.loop-turns-preserved
loop-turns-preserved g c =
    let entries = c.args.entries.now in
    let at = c.loop-turns.turns in
    let entry = c.index-entries-turns.result in
    let there = slice_get_read entries (length entries) at entry refl c.loop-turns-test.true c.index-entries-turns.is in
    let more = taken_next entries at entry there in
    let count : length (take at entries) ≡ at = length-take-le at entries (omega (arith, c.loop-turns-test.true)) in
    record {
      stands = stands_push g.M.Machine c.args.machine.now c.loop-turns.machine c.take_turn-sends.new.machine
          (take at entries) (take (at + 1) entries) entry entry.got more refl c.take_turn-sends.ensures.after
          c.loop-turns.invariant.stands;
      threads = c.take_turn-sends.ensures.threads ∙ c.loop-turns.invariant.threads;
      sent = λ state stands.
          let before = c.loop-turns.invariant.stands state stands in
          let after = c.take_turn-sends.ensures.after _ before in
          c.in_ok-keep_sent.ensures _ after
          ∙ ap (λ (n : ℕ). c.loop-turns.sent.items ++ numbered_sends (at + 1) (take n (g.M.Machine.sent
          (g.M.Machine.after (replay_state (steps_of g.M.Machine) state (take at entries)) entry.thread entry.now entry.got))))
          (c.take_turn-sends.ensures.sends _ before)
          ∙ ap (λ (all : List Sent). all ++ numbered_sends (at + 1)
          (given_by (steps_of g.M.Machine) (replay_state (steps_of g.M.Machine) state (take at entries)) entry))
          (c.loop-turns.invariant.sent state stands)
          ∙ sym (ap (sent_from (steps_of g.M.Machine) state 1) more
          ∙ sent_from-push (steps_of g.M.Machine) state 1 (take at entries) entry (at + 1) (omega (arith, count)));
    }

pub returns-then-not-can_be_taken : goal.returns-then-not-can_be_taken
returns-then-not-can_be_taken g c =
    let entries = c.args.entries.now in
    let at = c.loop-turns.turns in
    let entry = c.index-entries-turns.result in
    let there = slice_get_read entries (length entries) at entry refl c.loop-turns-test.true c.index-entries-turns.is in
    record {
      within = omega (arith, c.loop-turns-test.true);
      stands = c.loop-turns.invariant.stands;
      sent = c.loop-turns.invariant.sent;
      stopped = λ one is. subst (λ (it : Entry). CanBeTaken g.M.Machine c.loop-turns.machine it → ⊥)
          (same_Some entry one (sym there ∙ is)) (λ may. untrue (c.if-not-can_be_taken.ensures.1 may));
    }

pub returns : goal.returns
returns g c =
    let entries = c.args.entries.now in
    let at = c.loop-turns.turns in
    let is : at ≡ length entries = omega (arith, c.loop-turns-test.false, c.loop-turns.auto.turns-end) in
    record {
      within = omega arith;
      stands = subst (λ n. StandsFor g.M.Machine c.args.machine.now (take n entries) c.loop-turns.machine) is
          c.loop-turns.invariant.stands;
      sent = subst (λ n. (state : g.M.Machine.State) → g.M.Machine.stands c.args.machine.now state
          → c.loop-turns.sent.items ≡ sent_from (steps_of g.M.Machine) state 1 (take n entries)) is
          c.loop-turns.invariant.sent;
      stopped = λ one at_end. let none = slice_get_past entries (length entries) (omega arith) in absurd (cc);
    }
