-- What a link gave as it was asked for a datagram.
use Rattle.std.specs.Prelude.{Bool, Some, None}
use Rattle.base_io.specs.declared.link.Link.{Ghosts as LinkGhosts}
use Rattle.proc_runner.specs.declared.inbox.Asked.{Asked}
use Rattle.proc_runner.specs.declared.inbox.Asked.TheVariants.{Nothing, Datagram, Fault}
use Rattle.proc_runner.specs.Turns.{GivesDatagram, GivesNot}

-- by the answer
abbrev pub AsksFor : {L : Type 0} → LinkGhosts L → (polls : Bool) → L → Asked → L → Type 0
AsksFor links polls old Nothing new = GivesDatagram links polls None old new
AsksFor links polls old (Datagram bytes) new = GivesDatagram links polls (Some bytes.items) old new
AsksFor links polls old Fault new = GivesNot links old new
