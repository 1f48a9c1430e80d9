-- What is left of sixteen zeros behind the arguments is zeros.
use Rattle.std.proofs.Common.{◌≡◌, ◌-◌, ◌++◌, length, pos, ℤ, List, drop, replicate}
use Rattle.std.proofs.lemmas.List.{drop-replicate}
use Rattle.part_handlers.proofs.message.padded.Goals as goal

padding : (args behind : List ℤ) → behind ≡ args → behind ++ drop (length args)
    (replicate 16 (pos 0)) ≡ args ++ replicate (16 - length args) (pos 0)
padding args behind e = rw (e, drop-replicate (length args) 16 (pos 0))

pub returns : goal.returns
returns c = padding c.args.args.now c.copy_from_slice.new.self c.copy_from_slice.ensures.after
