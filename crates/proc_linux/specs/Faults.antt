-- Why a link failed, by the system's error.
use Rattle.std.specs.Prelude.{ℤ, pos, Option, Some, None}
use Rattle.std.specs.IoError.{error_kind, raw_os_error}
use Rattle.std.specs.declared.io.Error.{Error}
use Rattle.std.specs.declared.io.ErrorKind.{ErrorKind}
use Rattle.std.specs.declared.io.ErrorKind.TheVariants.{BrokenPipe}
use Rattle.std.specs.declared.net.socket_addr.SocketAddr.{SocketAddr}
use Rattle.proc_linux.specs.declared.link_fault.LinkFault.{LinkFault}
use Rattle.proc_linux.specs.declared.link_fault.LinkFault.TheVariants as fault

-- the socket couldn't be bound to its own address, if it has one, by the error of this number
abbrev pub bind_fault : Option SocketAddr → Option ℤ → LinkFault
bind_fault (Some address) (Some code) = fault.Bind address code
bind_fault None (Some code) = fault.Other code
bind_fault own None = fault.NoAddress

-- a call failed by an error that has no number
abbrev pub unnumbered_fault : ErrorKind → LinkFault
unnumbered_fault BrokenPipe = fault.Unread
unnumbered_fault _ = fault.Other (pos 0)

-- a call failed by an error of this kind and number
abbrev pub call_fault : ErrorKind → Option ℤ → LinkFault
call_fault kind (Some code) = fault.Other code
call_fault kind None = unnumbered_fault kind
