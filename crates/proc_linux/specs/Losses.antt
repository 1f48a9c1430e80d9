-- Which errors of a socket are losses.
use Rattle.std.specs.Prelude.{◌≡◌, ◌⊎◌, Some, pos}
use Rattle.std.specs.IoError.{error_kind, raw_os_error}
use Rattle.std.specs.declared.io.Error.{Error}
use Rattle.std.specs.declared.io.ErrorKind.TheVariants.{ConnectionRefused, WouldBlock}

-- the socket can't do it now, a peer's port isn't open, or the system has no room in its queues
abbrev pub IsLoss : Error → Type 0
IsLoss error =
    (error_kind error ≡ WouldBlock) ⊎ (error_kind error ≡ ConnectionRefused) ⊎ (raw_os_error error ≡ Some (pos 105))
