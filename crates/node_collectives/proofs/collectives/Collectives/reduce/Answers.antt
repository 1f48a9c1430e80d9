use Rattle.std.proofs.Common.{◌≡◌, ◌+◌, ◌*◌, ◌≤◌, ap, ◌∙◌, arith}
use Rattle.std.specs.Int.{w64, to_le_bytes}
use Rattle.part_collective_area.specs.Results.{combination, together_at}
use Rattle.node_collectives.specs.CollectivesState.{CollectivesState}
use Rattle.node_collectives.proofs.Pieces.{data_all}
use Rattle.node_collectives.proofs.Reducing.{reduced_on}
use Rattle.node_collectives.proofs.collectives.Collectives.reduce.Goals as goal

pub loop-place-preserved : goal.loop-place-preserved
loop-place-preserved c =
    let it = c.args.self.now in
    let given = data_all it c.args.bytes.now in
    let word : c.copy_from_slice.new.self
    ≡ to_le_bytes w64 (together_at (combination it.shape.kind) given c.loop-place.place) =
    c.copy_from_slice.ensures.after ∙ (c.to_le_bytes.ensures ∙ ap (to_le_bytes w64) c.word_of_all-word.ensures) in
    let len : c.self.inside.shape.len ≡ it.shape.len =
    ap (λ (one : CollectivesState). one.shape.len) c.self.view_is in
    let inside : 8 * c.loop-place.place + 8 ≤ it.shape.len = omega (arith, len) in
    let both = reduced_on (combination it.shape.kind) given c.loop-place.piece c.copy_from_slice.new.self c.loop-place.place
    it.shape.len c.loop-place.invariant.long inside word c.loop-place.invariant.done in
    record { long = both.0; done = both.1 }
