-- What a child is given, and what it gives.
use Rattle.std.specs.Prelude.{◌≡◌, ℕ, List, ◌++◌, Option, Some, None, pos, ⊤}
use Rattle.std.specs.Io.KnownBytes.{Appends}
use Rattle.std.specs.Option.{ForSome}
use Rattle.std.specs.Process.{exit_code}
use Rattle.std.specs.declared.process.status.ExitStatus.{ExitStatus}
use Rattle.base_io.specs.declared.spawner.Finished.{Finished}
use Rattle.base_io.specs.declared.spawner.Finished.TheVariants as finished
use Rattle.proc_linux.specs.declared.drain.Drained.{Drained}
use Rattle.proc_linux.specs.declared.drain.Drained.TheVariants as drained
use Rattle.proc_linux.specs.declared.feed.Fed.{Fed}
use Rattle.proc_linux.specs.declared.feed.Fed.TheVariants as fed

-- a pipe took all of the input, unless its reader was gone
abbrev pub Feeds : (old new : Option (List ℕ)) → (input : List ℕ) → Fed → Type 0
Feeds old new input fed.Whole = Appends old new input
Feeds old new input fed.Broken = ⊤

-- what was read of a pipe is all that it told
abbrev pub DrainsAll : (told : Option (List ℕ)) → Drained → Type 0
DrainsAll told (drained.Bytes output) = ForSome told (λ bytes. output.bytes.items ≡ bytes)
DrainsAll told drained.Fault = ⊤
DrainsAll told drained.NoMemory = ⊤

-- a child that was waited for ended with this exit status
abbrev pub EndedWith : Option ExitStatus → (code : ℕ) → Type 0
EndedWith (Some status) code = exit_code status ≡ Some (pos code)
EndedWith None code = ⊥

-- a child's output and exit status are handed on: the output is appended; where one isn't there nothing is
abbrev pub HandsOn : Drained → (status : Option ExitStatus) → Finished → (before after : List ℕ) → Type 0
HandsOn (drained.Bytes output) status (finished.Ended code) before after =
    (after ≡ before ++ output.bytes.items) × EndedWith status code
HandsOn drained.Fault status (finished.Ended code) before after = ⊥
HandsOn drained.NoMemory status (finished.Ended code) before after = ⊥
HandsOn drained status finished.Failed before after = after ≡ before
HandsOn drained status finished.NoMemory before after = after ≡ before
