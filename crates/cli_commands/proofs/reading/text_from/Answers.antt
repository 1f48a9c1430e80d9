use Rattle.cli_commands.proofs.JobRead.{reads_bad, reads_long, reads_text}
use Rattle.cli_commands.proofs.reading.text_from.Goals as goal

pub returns-in-Ok : goal.returns-in-Ok
returns-in-Ok g c =
    reads_text _ _ _ c.deref.result.now _ c.deref.ensures.value c.in-Bytes.ensures.bytes c.in-Ok.ensures.found
    c.in-Ok.ensures.one

pub returns-in-Err-Bad : goal.returns-in-Err-Bad
returns-in-Err-Bad g c =
    rw (c.in-Err-Bad.line-is, c.in-Err-Bad.why-is)
    (reads_bad _ _ _ c.deref.result.now c.in-Err-Bad.field-0 c.in-Err-Bad.line c.in-Err-Bad.why c.deref.ensures.value
    c.in-Err-Bad.field-0-is c.in-Bytes.ensures.bytes c.in-Err-Bad.ensures.bad c.in-Err-Bad.ensures.meant
    c.in-Err-Bad.ensures.none)

pub returns-in-TooLong : goal.returns-in-TooLong
returns-in-TooLong g c = reads_long _ _ c.in-TooLong.ensures.bytes
