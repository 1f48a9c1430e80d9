use Rattle.cli_report.proofs.telling.tell_fault.Goals as goal

-- the line was told
pub returns : goal.returns
returns g c = record {
  made = c.fault_line-line.result;
  all = c.tell_made.result;
  is_line = c.fault_line-line.ensures;
  tells = c.tell_made.ensures;
}
