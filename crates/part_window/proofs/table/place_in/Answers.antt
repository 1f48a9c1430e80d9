use Rattle.std.proofs.Common.{◌≡◌, Some, arith}
use Rattle.std.specs.Prelude.{slice_get}
use Rattle.base_lists.proofs.Indexes.{read-at}
use Rattle.base_lists.specs.Cut.{start_of}
use Rattle.base_lists.proofs.Cut.{start-inside}
use Rattle.part_window.specs.TableViews.{peer_counts}
use Rattle.part_window.proofs.Masks.{peer-inside}
use Rattle.part_window.proofs.table.place_in.Goals as goal

pub overflow_add-result : goal.overflow_add-result
overflow_add-result c =
    let peers = c.args.peers.now.items in
    let at : slice_get peers c.args.to ≡ Some c.index.result.now =
    read-at peers c.args.to c.index.result.now
    (peer-inside peers c.args.to c.args.slot c.requires.in_range) c.index.ensures in
    record {
      fits = omega (
        arith,
        c.requires.laid.firsts c.args.to c.index.result.now at,
        start-inside
            (peer_counts peers) c.args.to c.args.slot c.requires.in_range,
        c.requires.laid.small,
      );
    }

pub returns : goal.returns
returns c =
    let peers = c.args.peers.now.items in
    let at : slice_get peers c.args.to ≡ Some c.index.result.now =
    read-at peers c.args.to c.index.result.now
    (peer-inside peers c.args.to c.args.slot c.requires.in_range) c.index.ensures in
    let first : c.index.result.now.first ≡ start_of (peer_counts peers) c.args.to =
    c.requires.laid.firsts c.args.to c.index.result.now at in
    record {
      place = omega (arith, first);
      inside = omega (arith, first, start-inside (peer_counts peers) c.args.to c.args.slot c.requires.in_range);
    }
