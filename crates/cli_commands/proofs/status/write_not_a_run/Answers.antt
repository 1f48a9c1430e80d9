use Rattle.std.proofs.Common.{◌∙◌}
use Rattle.cli_commands.proofs.status.write_not_a_run.Goals as goal

pub returns : goal.returns
returns g c =
    let node = c.as_bytes.ensures.value ∙ c.format.ensures.text in
    let entry = c.as_bytes-2.ensures.value ∙ c.format-2.ensures.text in
    rw (c.as_slice.ensures, c.as_slice-2.ensures, node, entry) at c.write_line.ensures
