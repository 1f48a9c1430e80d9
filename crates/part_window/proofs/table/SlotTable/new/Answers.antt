use Rattle.std.proofs.Common.{ℕ, ◌≡◌, length, get_or}
use Rattle.std.proofs.Common.{refl, arith}
use Rattle.std.proofs.lemmas.Option.{slice_get-get_or}
use Rattle.std.proofs.lemmas.List.{length-replicate}
use Rattle.part_window.proofs.NewTable.{made-more, made-fits, made-counted, made-buffered, made-view}
use Rattle.part_window.proofs.NewTable.{start-most, narrow-count, total-small}
use Rattle.part_window.specs.TableState.{counts_of}
use Rattle.part_window.proofs.table.SlotTable.new.Goals as goal

pub overflow_add-first : goal.overflow_add-first
overflow_add-first c =
    let credits = c.args.credits.now in
    let at = slice_get-get_or credits c.loop-node.node 0 c.loop-node-test.true in
    let most =
    made-fits credits c.args.me c.loop-node.node c.loop-node.first
    (get_or credits c.loop-node.node 0) c.loop-node.peers.items c.loop-node.invariant at in
    record {
      fits = omega (
        arith,
        most,
        c.count_for-count.ensures,
        (total-small c.args.credits.now c.args.me c.requires.few c.requires.narrow),
      );
    }

pub loop-node-preserved : goal.loop-node-preserved
loop-node-preserved c =
    let credits = c.args.credits.now in
    let at = slice_get-get_or credits c.loop-node.node 0 c.loop-node-test.true in
    rw c.in_ok-push.ensures.items
    (made-more credits c.args.me c.loop-node.node c.loop-node.first c.loop-node.peers.items _
    (get_or credits c.loop-node.node 0) c.loop-node.invariant at
    (narrow-count credits c.args.me c.loop-node.node
    (get_or credits c.loop-node.node 0) c.requires.narrow at) refl c.count_for-count.ensures c.low_ones.ensures)

pub new-requires-2 : goal.new-requires-2
new-requires-2 c =
    omega (
      arith,
      c.loop-node.invariant.next,
      start-most (counts_of c.args.credits.now c.args.me) c.loop-node.node,
      (total-small c.args.credits.now c.args.me c.requires.few c.requires.narrow),
    )

pub invariant_of-result : goal.invariant_of-result
invariant_of-result c =
    let all : c.loop-node.node ≡ length c.args.credits.now =
    omega (arith, c.loop-node-test.false, c.loop-node.auto.node-end) in
    let are = c.in_ok-new.ensures in (
      made-counted c.args.credits.now c.args.me c.loop-node.node c.loop-node.first c.loop-node.peers.items
          c.in_ok-new.field-0 c.loop-node.invariant all
          (total-small c.args.credits.now c.args.me c.requires.few c.requires.narrow) are,
      made-buffered c.loop-node.first c.in_ok-new.field-0 c.in_ok-new-2.field-0 _ are c.in_ok-new-2.ensures.zeros
          (length-replicate {A = ℕ} 8296 0),
    )

pub returns : goal.returns
returns c =
    let all : c.loop-node.node ≡ length c.args.credits.now =
    omega (arith, c.loop-node-test.false, c.loop-node.auto.node-end) in
    made-view c.args.credits.now c.args.me c.loop-node.node c.loop-node.first c.loop-node.peers.items
    c.in_ok-new.field-0 c.in_ok-new-2.field-0 c.loop-node.invariant all
    c.in_ok-new.ensures

pub low_ones-requires : goal.low_ones-requires
low_ones-requires c =
    let credits = c.args.credits.now in
    let at = slice_get-get_or credits c.loop-node.node 0 c.loop-node-test.true in
    omega (
      arith,
      c.count_for-count.ensures,
      narrow-count credits c.args.me c.loop-node.node (get_or credits c.loop-node.node 0) c.requires.narrow at,
    )
