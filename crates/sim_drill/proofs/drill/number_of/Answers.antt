use Rattle.sim_drill.proofs.drill.number_of.Goals as goal

pub returns : goal.returns
returns c = λ records most h.
    let accepted = c.accepted-accepted.ensures records most h in
    rw (c.max.ensures, c.saturating_sub.ensures, c.from.ensures, accepted)
