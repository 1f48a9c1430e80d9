use Rattle.std.proofs.Common.{ℤ, ◌∷◌, ◌++◌, [], subst, decimal}
use Rattle.std.specs.Fmt.{signed_decimal}
use Rattle.std.specs.Int.{w32}
use Rattle.std.proofs.lemmas.Int.{to_z-of_z}
use Rattle.base_io.specs.Buffered.{GathersAll, outbox}
use Rattle.text_print.proofs.calls.write_barrier.Goals as goal

pub returns : goal.returns
returns g c =
    let old = outbox g.K.Sink.taken g.K.Sink.faults c.args.sink.now in
    let new = outbox g.K.Sink.taken g.K.Sink.faults c.write.new.sink in
    let Written = λ (id : ℤ). GathersAll old new
    (g.F.HasName.name_of c.args.form ++ (32 ∷ (signed_decimal id ++ (32 ∷ (decimal c.args.flags ++ [])))))
    c.write.result in
    subst Written (to_z-of_z w32 c.args.id c.ranges.id) c.write.ensures
