use Rattle.std.proofs.Common.{◌≡◌, ℕ, ap, subst, rules}
use Rattle.part_window.specs.Due.{IsNextDue as SlotsNextDue}
use Rattle.part_window.specs.SlotsState.{SlotsState}
use Rattle.node_core.specs.CoreState.{CoreState}
use Rattle.node_core.proofs.Ticking.{next_told}
use Rattle.node_core.proofs.node.Core.next_due.Goals as goal

pub returns : goal.returns
returns c =
    let core = c.args.self.now in
    let requests : c.self.inside.requests ≡ core.requests = ap (λ (e : CoreState). e.requests) c.self.view_is in
    let resend : c.resend.result ≡ core.settings.resend = search rules in
    next_told core c.next_due.result
    (subst (λ (slots : SlotsState). SlotsNextDue slots core.settings.resend c.next_due.result) requests
    (subst (λ (time : ℕ). SlotsNextDue c.self.inside.requests time c.next_due.result) resend c.next_due.ensures))
