use Rattle.std.proofs.Common.{◌≤◌, ℕ, subst, sym, ap}
use Rattle.wire_message.specs.Parameters.{credits_of}
use Rattle.part_transfers.specs.Stands.{Room}
use Rattle.node_endpoint.proofs.extended.Extended.new.Goals as goal

pub returns-clause-room : goal.returns-clause-room
returns-clause-room c to inside other =
    subst (λ most. credits_of c.args.settings.now c.args.me to ≤ most)
    (sym (ap (λ (room : Room). room.credits) c.in_ok-transfers.ensures.room))
    (c.most_credits.ensures to inside other)
