-- The line was told.
use Rattle.std.proofs.Common.{◌≡◌, ℕ, Option, IfOk, subst, string_bytes}
use Rattle.cli_report.specs.Ports.{ports_line}
use Rattle.cli_report.proofs.command.take_ports.Goals as goal

pub returns-clause-told : goal.returns-clause-told
returns-clause-told g c = record {
  made = c.ports_line-line.result;
  all = c.tell_made.result;
  is_line = subst (λ (port : Option ℕ). IfOk c.ports_line-line.result (λ text. string_bytes text ≡ ports_line port))
      c.port_of.ensures c.ports_line-line.ensures;
  tells = c.tell_made.ensures;
}
