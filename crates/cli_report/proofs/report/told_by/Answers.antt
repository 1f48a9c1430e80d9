-- Each part was added behind those before it.
use Rattle.std.specs.String.{string_bytes}
use Rattle.cli_report.proofs.report.told_by.Goals as goal

pub returns : goal.returns
returns g c = record {
  prefix = string_bytes c.in_ok-text.text;
  judged_text = string_bytes c.add_no_run.new.text;
  patient_text = string_bytes c.add_patience.new.text;
  is_prefix = c.in_ok-text.ensures;
  no_run = rw (c.in_ok-add_lines-2.ensures, c.in_ok-add_lines.ensures) at c.in_ok-add_no_run.ensures;
  patience = c.in_ok-add_patience.ensures;
  is = c.in_ok-add_statuses.ensures;
}
