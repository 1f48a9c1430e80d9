use Rattle.text_print.proofs.head.write_settings.Goals as goal

pub returns : goal.returns
returns g c =
    rw (
      c.version.ensures.version,
      c.job.ensures,
      c.nodes.ensures.nodes,
      c.base_credits.ensures,
      c.threads.ensures,
      c.segment.ensures,
      c.last.ensures,
      c.resend.ensures,
    )
    at c.write_number_lines.ensures
