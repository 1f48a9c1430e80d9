use Rattle.std.proofs.Common.{◌∙◌}
use Rattle.sim_run.proofs.output.write_node_line.Goals as goal

pub returns : goal.returns
returns g c =
    let node = c.as_bytes.ensures.value ∙ c.format.ensures.text in
    let held = c.as_bytes-2.ensures.value ∙ c.format-2.ensures.text in
    let most = c.as_bytes-3.ensures.value ∙ c.format-3.ensures.text in
    let violations = c.as_bytes-4.ensures.value ∙ c.format-4.ensures.text in
    rw (
      node,
      held,
      most,
      violations,
      c.as_slice.ensures,
      c.as_slice-2.ensures,
      c.as_slice-3.ensures,
    ) at c.write_line.ensures
