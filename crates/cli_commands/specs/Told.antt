-- The words of a call, by what the command line told.
use Rattle.std.specs.Prelude.{◌≡◌, [], drop, Result, Ok, Err, String, Vec, ⊤}
use Rattle.std.specs.Global.{Global}
use Rattle.std.specs.IoError.{error_kind}
use Rattle.std.specs.Vec.Iter.{into_iter_items}
use Rattle.std.specs.declared.alloc.AllocError.{AllocError}
use Rattle.std.specs.declared.io.Error.{Error}
use Rattle.std.specs.declared.io.ErrorKind.TheVariants.{OutOfMemory}
use Rattle.std.specs.declared.vec.IntoIter.{IntoIter}

-- what the command line told: its words, the program's name first, or an error
abbrev pub ToldWords : Type 0
ToldWords = Result (IntoIter (String Global) Global) Error

-- the words of a call; or memory ran out
abbrev pub CallWords : Type 0
CallWords = Result (Vec (String Global) Global) AllocError

-- the words of the call are all but the first that was told; none where an error was told, but for want of memory
abbrev pub AreTold : ToldWords → CallWords → Type 0
AreTold (Ok told) (Ok words) = words.items ≡ drop 1 (into_iter_items told)
AreTold (Ok told) (Err none) = ⊤
AreTold (Err error) (Ok words) = (words.items ≡ []) × (error_kind error ≡ OutOfMemory → ⊥)
AreTold (Err error) (Err none) = error_kind error ≡ OutOfMemory
