-- The next entry is the one that stands at the prefix.
use Rattle.std.proofs.Common.{refl}
use Rattle.text_trace.proofs.NodeLemmas.{next_within, next_read}
use Rattle.text_trace.proofs.merging.go_next.Goals as goal

pub bounds-as_slice-prefix : goal.bounds-as_slice-prefix
bounds-as_slice-prefix g c = next_within g.M.Machine c.args.machines.now c.args.traces.now c.args.prefix.now c.args.node
    c.index-traces-node.result c.as_slice.result.now c.requires.takes c.as_slice.ensures

pub let_go-requires-clause-thread : goal.let_go-requires-clause-thread
let_go-requires-clause-thread g c = (next_read g.M.Machine c.args.machines.now c.args.traces.now c.args.prefix.now
    c.args.node c.index-machines-node.result c.index-traces-node.result c.as_slice.result.now
    c.index-as_slice-prefix.result c.requires.takes c.requires.threads c.as_slice.ensures
    c.index-as_slice-prefix.is).thread

pub let_go-requires-clause-takes : goal.let_go-requires-clause-takes
let_go-requires-clause-takes g c = (next_read g.M.Machine c.args.machines.now c.args.traces.now c.args.prefix.now
    c.args.node c.index-machines-node.result c.index-traces-node.result c.as_slice.result.now
    c.index-as_slice-prefix.result c.requires.takes c.requires.threads c.as_slice.ensures
    c.index-as_slice-prefix.is).takes

pub returns-clause-took : goal.returns-clause-took
returns-clause-took g c =
    let r = next_read g.M.Machine c.args.machines.now c.args.traces.now c.args.prefix.now c.args.node
    c.index-machines-node.result c.index-traces-node.result c.as_slice.result.now c.index-as_slice-prefix.result
    c.requires.takes c.requires.threads c.as_slice.ensures c.index-as_slice-prefix.is in
    record {
      machine = _;
      trace = _;
      entry = c.index-as_slice-prefix.result;
      left = c.let_go.new.machine;
      machine_at = r.machine_at;
      trace_at = r.trace_at;
      entry_at = r.entry_at;
      machines = refl;
      took = c.let_go.ensures.took;
    }
