-- The recorder of the node takes the turns of its trace, and is closed.
use Rattle.std.proofs.Common.{◌≡◌, ◌≤◌, List, length, refl, ap, subst, ◌∙◌}
use Rattle.text_trace.specs.declared.trace.Trace.{Trace}
use Rattle.base_turns.specs.declared.entry.Entry.{Entry}
use Rattle.text_trace.specs.Sending.{Replays}
use Rattle.cli_check.proofs.Merged.{recorders}
use Rattle.cli_check.specs.Recording.{opening_record}
use Rattle.cli_check.specs.Rejected.{refused_turns, accepted_entries, accepted_trace}
use Rattle.cli_check.proofs.node_replay.replay_output.Goals as goal

pub returns : goal.returns
returns c =
    let job = c.args.job.now in
    let rank = c.args.rank in
    let output = c.args.output in
    let first = c.in_ok-recorder.ensures in
    let rejected : c.in-Ok.trace ≡ accepted_trace job rank output.trace =
    c.in-Ok.ensures job rank (c.endpoint-3.ensures job rank first) in
    let entries : c.as_slice-3.result.now ≡ accepted_entries job rank output.trace.entries =
    c.as_slice-3.ensures ∙ ap (λ (trace : Trace). trace.entries) rejected in
    let replays : Replays recorders c.in_ok-recorder.recorder c.replay.new.machine
    (accepted_entries job rank output.trace.entries) c.in-Ok-replay.replayed =
    subst (λ (all : List Entry). Replays recorders c.in_ok-recorder.recorder c.replay.new.machine all
    c.in-Ok-replay.replayed) entries c.in-Ok-replay.ensures in
    record {
      status_is = refl;
      trace_is = rejected;
      refused_is = c.refused_turns-refused.ensures job rank (c.endpoint.ensures job rank first)
          ∙ ap (refused_turns job rank) c.as_slice.ensures;
      within = subst (λ (all : List Entry). c.in-Ok-replay.replayed.turns ≤ length all) c.as_slice-3.ensures
          c.in-Ok-replay.ensures.within;
      kept = c.replay.new.machine;
      stands = replays.stands (opening_record job rank) first;
      whole = c.in_ok-node.ensures.whole;
      node_is = c.in_ok-node.ensures.endpoint_is;
      steps_are = c.in_ok-node.ensures.text_is;
      over_is = c.over-over.ensures;
      open_is = c.open_requests.ensures;
      sent_is = replays.sent (opening_record job rank) first;
    }
