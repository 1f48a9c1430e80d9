use Rattle.std.proofs.Common.{ℕ, ◌≡◌, ◌≢◌, ◌<◌}
use Rattle.std.proofs.Common.{ap, sym, ◌∙◌, subst, arith}
use Rattle.part_window.specs.Ring.{IsOn, IsBefore, weight}
use Rattle.part_window.specs.Order.{next_at, previous_at, time_at, listed_at, head_of}
use Rattle.part_window.proofs.Ring.{weight-falls}
use Rattle.part_window.proofs.Entries.{read-previous, read-time, behind-apart}
use Rattle.part_window.proofs.order.seek.Goals as goal

pub loop-at-smaller : goal.loop-at-smaller
loop-at-smaller c =
    let entries = c.args.entries.now in
    let at = c.loop-at.at in
    let invariant = c.loop-at.invariant in
    let low : at ≢ head_of entries =
    λ entry. c.loop-at-test.true (entry ∙ omega (arith, c.head-head.ensures)) in
    let entry = c.on_ring-entry.result in
    let here = c.on_ring-entry.ensures in
    subst (λ (left : ℕ). weight (head_of entries) (time_at entries) left < weight (head_of entries) (time_at entries)
    at) (read-previous entries at entry here)
    (weight-falls (head_of entries) (next_at entries) (previous_at entries) (time_at entries)
    (listed_at entries) at c.requires.order.ring invariant.on low)

pub loop-at-preserved : goal.loop-at-preserved
loop-at-preserved c =
    let entries = c.args.entries.now in
    let place = c.args.place in
    let order = c.requires.order in
    let at = c.loop-at.at in
    let invariant = c.loop-at.invariant in
    let entry = c.on_ring-entry.result in
    let here = c.on_ring-entry.ensures in
    let apart : at ≢ place =
    behind-apart entries at place c.requires.unlisted c.requires.no_head invariant.on in
    let back : next_at entries entry.previous ≡ at =
    ap (next_at entries) (sym (read-previous entries at entry here)) ∙ order.ring.back at invariant.on in
    let later : IsBefore c.args.time place entry.time at =
    (omega (arith, c.if-entry-time.false), λ same. grind (arith, apart, same, c.else-entry-time-2)) in
    let later_at : IsBefore c.args.time place (time_at entries at) at =
    subst (λ (moment : ℕ). IsBefore c.args.time place moment at)
    (sym (read-time entries at entry here)) later in
    record {
      on =
          subst (IsOn (head_of entries) (listed_at entries)) (read-previous entries at entry here)
          (order.ring.previous_on at invariant.on);
      next_is = back;
      after = λ _. subst (λ (moved : ℕ). IsBefore c.args.time place (time_at entries moved) moved) (sym back) later_at;
    }
