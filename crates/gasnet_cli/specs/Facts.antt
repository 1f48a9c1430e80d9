-- What the system kept of a run, in the words of `cli_report`.
use Rattle.proc_linux.specs.declared.child_ends.ChildEnd.{ChildEnd}
use Rattle.proc_linux.specs.declared.child_ends.ChildEnd.TheVariants as kept
use Rattle.proc_linux.specs.declared.link_fault.LinkFault.{LinkFault}
use Rattle.proc_linux.specs.declared.link_fault.LinkFault.TheVariants as fault
use Rattle.cli_report.specs.declared.facts.ChildSeen.{ChildSeen}
use Rattle.cli_report.specs.declared.facts.ChildSeen.TheVariants as child
use Rattle.cli_report.specs.declared.facts.LinkSeen.{LinkSeen}
use Rattle.cli_report.specs.declared.facts.LinkSeen.TheVariants as link

abbrev pub child_seen : ChildEnd → ChildSeen
child_seen kept.Unstarted = child.Unstarted
child_seen (kept.Ended status) = child.Ended status
child_seen kept.Lost = child.Lost

abbrev pub link_seen : LinkFault → LinkSeen
link_seen fault.NoAddress = link.NoAddress
link_seen fault.Unread = link.Unread
link_seen (fault.Bind address code) = link.Bind address code
link_seen (fault.Other code) = link.Other code
