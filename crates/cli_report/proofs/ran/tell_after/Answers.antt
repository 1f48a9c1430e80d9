use Rattle.cli_report.proofs.ran.tell_after.Goals as goal

-- the text was told
pub returns : goal.returns
returns g c = record {
  made = c.told_after-told.result;
  all = c.tell_made.result;
  is_text = c.told_after-told.ensures;
  tells = c.tell_made.ensures;
}
