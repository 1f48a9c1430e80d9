use Rattle.std.proofs.Common.{◌∙◌}
use Rattle.cli_commands.proofs.status.write_child.Goals as goal

pub returns : goal.returns
returns g c =
    let rank = c.as_bytes.ensures.value ∙ c.format.ensures.text in
    let code = c.as_bytes-2.ensures.value ∙ c.format-2.ensures.text in
    rw (c.as_slice.ensures, c.as_slice-2.ensures, rank, code) at c.write_line.ensures
