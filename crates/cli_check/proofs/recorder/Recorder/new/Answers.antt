-- A recorder before all turns.
use Rattle.std.proofs.Common.{◌≡◌, []}
use Rattle.cli_check.specs.Recording.{opening_record, text_of}
use Rattle.cli_check.proofs.Turning.{no_text, opened}
use Rattle.cli_check.proofs.recorder.Recorder.new.Goals as goal

pub new-requires-3 : goal.new-requires-3
new-requires-3 c = record { job = c.requires.job; me = c.requires.rank }

pub invariant_of-result : goal.invariant_of-result
invariant_of-result c =
    let none : c.in_ok-sink.sink.taken ≡ [] = cc c.in_ok-sink.ensures in (
      opening_record c.args.job.now c.args.rank,
      opened c.args.job.now c.args.rank c.in_ok-node.node (text_of c.new-4.result) c.in_ok-node.ensures
          (no_text c.new-4.result c.in_ok-sink.sink c.new-4.ensures.inner c.new-4.ensures.pending none),
    )

pub returns : goal.returns
returns c =
    let none : c.in_ok-sink.sink.taken ≡ [] = cc c.in_ok-sink.ensures in
    opened c.args.job.now c.args.rank c.in_ok-node.node (text_of c.new-4.result) c.in_ok-node.ensures
    (no_text c.new-4.result c.in_ok-sink.sink c.new-4.ensures.inner c.new-4.ensures.pending none)
