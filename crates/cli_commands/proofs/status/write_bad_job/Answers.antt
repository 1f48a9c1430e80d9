use Rattle.std.proofs.Common.{◌∙◌}
use Rattle.cli_commands.proofs.status.write_bad_job.Goals as goal

pub returns : goal.returns
returns g c =
    let line = c.as_bytes.ensures.value ∙ c.format.ensures.text in
    rw (c.as_slice.ensures, c.as_slice-2.ensures, line, c.why_word.ensures) at c.write_line.ensures
