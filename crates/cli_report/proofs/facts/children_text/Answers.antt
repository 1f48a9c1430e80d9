-- All ranks below 256.
use Rattle.std.proofs.Common.{ap, refl, ◌∙◌}
use Rattle.cli_report.specs.Ends.{ends_text}
use Rattle.cli_report.proofs.facts.children_text.Goals as goal

pub returns : goal.returns
returns g c = record {
  ranks = 256;
  nodes = c.in_ok-nodes.nodes.items;
  all = refl;
  are = c.in_ok-nodes.ensures;
  is = c.in_ok-text.ensures ∙ ap ends_text c.deref.ensures.value;
}
