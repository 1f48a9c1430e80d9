use Rattle.part_window.proofs.CreditsViewed.{next-vacant}
use Rattle.part_window.proofs.credits.CreditSlots.claim.Goals as goal

pub open-requires : goal.open-requires
open-requires c = next-vacant c.args.self.now c.args.to c.in-Ok.slot c.in-Ok.number c.requires c.in-Ok.ensures.next
