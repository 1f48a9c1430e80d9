use Rattle.std.proofs.Common.{ℕ, Some, [], ap, ◌∙◌, refl, inl, inr}
use Rattle.proc_station.proofs.node.run_to_end.Goals as goal

-- the link was bound
pub returns-in-Done : goal.returns-in-Done
returns-in-Done g c =
    let e = c.in-Done.ensures in (
      c.run_bound.ensures.journal,
      inl (
        record {
          link = c.bind.new.self;
          bound = e.bound
              ∙ ap (λ (n : ℕ). Some (c.args.node.address.rank, n, c.args.node.address.port)) c.nodes.ensures.nodes;
          same = record { sent = e.sent; received = e.received; waiting = e.waiting };
          later = e.later;
          leaves = c.run_bound.ensures;
        },
        refl,
      ),
    )

-- and here it failed
pub returns-in-Failed : goal.returns-in-Failed
returns-in-Failed g c =
    let e = c.in-Failed.ensures in (
      [],
      inr (
        record {
          bound = e.bound;
          same = record { sent = e.sent; received = e.received; waiting = e.waiting };
          rose = e.cause tt;
          left_is = refl;
        },
        refl,
      ),
    )
