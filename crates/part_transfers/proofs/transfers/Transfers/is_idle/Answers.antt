use Rattle.std.proofs.Common.{not, sym, ap, ◌∙◌}
use Rattle.std.proofs.lemmas.Bool.{not-true}
use Rattle.std.specs.List.{list_any}
use Rattle.part_transfers.specs.Operation.{has_next}
use Rattle.part_transfers.proofs.Oldest.{idle_is, idle_next}
use Rattle.part_transfers.proofs.transfers.Transfers.is_idle.Goals as goal

pub returns-clause-idle : goal.returns-clause-idle
returns-clause-idle c operations S = c.is_idle.ensures ∙ ap not (idle_is c.args.self.now operations S)

pub returns-clause-next : goal.returns-clause-next
returns-clause-next c can operations S is =
    idle_next can operations
    (not-true (list_any has_next operations) (sym (ap not (idle_is c.args.self.now operations S))
    ∙ (sym c.is_idle.ensures ∙ is)))
